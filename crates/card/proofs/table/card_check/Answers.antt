-- `card::table::card_check` meets its contract: what the settings come to, then the hall's table, then the line's, then the numerals. Assumes nothing.
use Rattle.std.proofs.Common.{◌≡◌, List, ℕ, refl, sym, ap, ◌∙◌, arith, rules}
use Rattle.rules.specs.declared.Settings.{Settings}
use Rattle.rules.specs.declared.Refusal.{Refusal}
use Rattle.rules.specs.declared.Refusal.TheVariants.{TableSize, BadRow, LineSize, BadLineRow, NumeralsSize, BadNumeral}
use Rattle.rules.specs.NumbersHandedBack.{◌>>◌}
use Rattle.rules.specs.SettingsAsWords.{settings_of}
use Rattle.rules.specs.SettingsAndUnitTable.{units_check, units_check_in, numerals_check, numerals_check_in, most_rows, most_numerals, row_accepted, numeral_accepted, table_check, line_check, card_check}
use Rattle.settings.specs.Sets.{bytes_of}
use Rattle.card.specs.declared.row.RowRule.{RowRule}
use Rattle.card.specs.Fields.{no_letters, ruled, tabled}
use Rattle.card.specs.Laws.Unnameable.{no_letters_letterless}
use Rattle.card.specs.Laws.Table.{tabled_alike, numeral_ruled}
use Rattle.card.proofs.table.card_check.Goals as goal
use Rattle.card.proofs.table.card_check.Goals.{After-table_checked, After-table_checked-2}

-- what was found of the hall's table, and of the line's
hall_checked : (c : After-table_checked) → c.table_checked.result ≡ table_check (settings_of c.args.settings.now) c.args.hall.now
unfolding table_check units_check_in
hall_checked c =
    c.table_checked.ensures BadRow (λ i r below is. search rules)
    ∙ tabled_alike TableSize most_rows _ _ BadRow _ (c.unit_rule-rule.ensures.by_index _ (λ k. (c.type_inv.hall k).fits))

line_checked : (c : After-table_checked-2) → c.table_checked-2.result ≡ line_check (settings_of c.args.settings.now) c.args.line.now
unfolding line_check units_check_in
line_checked c =
    c.table_checked-2.ensures BadLineRow (λ i r below is. is)
    ∙ tabled_alike LineSize most_rows _ _ BadLineRow _ (c.unit_rule-rule.ensures.by_index _ (λ k. (c.type_inv.line k).fits))

pub returns-in_err-settings_check : goal.returns-in_err-settings_check
unfolding card_check ◌>>◌
returns-in_err-settings_check c = search rules

pub returns-in_err-table_checked : goal.returns-in_err-table_checked
unfolding card_check ◌>>◌
returns-in_err-table_checked c =
    let hall = hall_checked (goal.at.returns-in_err-table_checked c).After-table_checked in
    search rules

pub returns-in_err-table_checked-2 : goal.returns-in_err-table_checked-2
unfolding card_check ◌>>◌
returns-in_err-table_checked-2 c =
    let hall = hall_checked (goal.at.returns-in_err-table_checked-2 c).After-table_checked in
    let line = line_checked (goal.at.returns-in_err-table_checked-2 c).After-table_checked-2 in
    search rules

pub table_checked-requires-3-clause-fits : goal.table_checked-requires-3-clause-fits
unfolding bytes_of no_letters
table_checked-requires-3-clause-fits c = (omega arith, no_letters_letterless)

pub returns : goal.returns
unfolding card_check ◌>>◌ numerals_check_in bytes_of no_letters
returns c =
    let hall = hall_checked (goal.at.returns c).After-table_checked in
    let line = line_checked (goal.at.returns c).After-table_checked-2 in
    let numerals = c.table_checked-3.ensures BadNumeral (λ i r below is. is)
    ∙ tabled_alike NumeralsSize most_numerals _ (numeral_accepted c.args.numerals.now) BadNumeral _ (numeral_ruled _ refl refl _ (λ k. (c.type_inv.numerals k).fits)) in
    search rules
