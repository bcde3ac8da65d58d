-- `sorted::allowed::may_replace` meets its contract: the table and its index, then the row's number, then the new row. Assumes nothing.
use mathlib.Core.Path.{◌≡◌, sym, ap, ◌∙◌}
use borrow.Author.Tests.{not-true, not-false}
use Rattle.std.proofs.lemmas.Result.{err_from_is_err_and}
use Rattle.rules.specs.declared.Refusal.TheVariants.{BadRow}
use Rattle.rules.specs.NumbersHandedBack.{unless}
use Rattle.rules.specs.SettingsAsWords.{settings_of}
use Rattle.rules.specs.SettingsAndUnitTable.{rows_in}
use Rattle.index.specs.TheSortedIndex.{replacing}
use Rattle.sorted.specs.Allowed.{replace_refused, replace_beyond, replace_decides, checked_table}
use Rattle.std.proofs.Common.{not}
use Rattle.sorted.proofs.allowed.may_replace.Goals as goal
use Rattle.sorted.proofs.allowed.may_replace.Goals.{After-row_fits}

pub returns-in_err-table_and_index_check : goal.returns-in_err-table_and_index_check
returns-in_err-table_and_index_check c = let p = err_from_is_err_and c.from_residual.result c.from_residual.ensures.1 in rw (p.1, p.2) (replace_refused _ _ _ _ _ (sym c.in_err-table_and_index_check.ensures))

pub returns-then-row-table : goal.returns-then-row-table
unfolding rows_in
returns-then-row-table c = replace_beyond _ _ _ _ _ (sym c.in_ok-table_and_index_check.ensures) c.if-row-table.true

pub row_fits-requires : goal.row_fits-requires
unfolding rows_in
row_fits-requires c = record { settings_value = checked_table _ _ _ c.args.row c.args.new.now (sym c.in_ok-table_and_index_check.ensures); i_bound = c.if-row-table.false }

-- what the new row comes to
decided :
    (c : After-row_fits)
    → unless (BadRow c.args.row) c.row_fits.result ≡ replacing (settings_of c.args.settings.now) c.args.table.now c.args.index.now c.args.row c.args.new.now
unfolding rows_in
decided c = replace_decides _ _ _ _ _ (sym c.in_ok-table_and_index_check.ensures) c.if-row-table.false c.row_fits.ensures

pub returns-then-not-row_fits : goal.returns-then-not-row_fits
unfolding unless
returns-then-not-row_fits c = ap (unless _) (sym (not-true c.row_fits.result (ap not c.if-not-row_fits.true))) ∙ decided (goal.at.returns-then-not-row_fits c).After-row_fits

pub returns : goal.returns
unfolding unless
returns c = ap (unless (BadRow c.args.row)) (sym (not-false c.row_fits.result (ap not c.if-not-row_fits.false))) ∙ decided (goal.at.returns c).After-row_fits
