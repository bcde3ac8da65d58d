-- `sorted::checked::table_and_index_check` meets its contract: the settings, then both in one pass, or one after the other. Assumes nothing.
use mathlib.Core.Path.{◌≡◌, sym, ◌∙◌}
use Rattle.std.proofs.lemmas.Result.{err_from_is_err_and}
use Rattle.rules.specs.declared.Refusal.TheVariants.{WrongIndex}
use Rattle.rules.specs.NumbersHandedBack.{got}
use Rattle.rules.specs.SettingsAsWords.{settings_of}
use Rattle.rules.specs.SettingsAndUnitTable.{settings_check}
use Rattle.index.specs.TheSortedIndex.{table_right}
use Rattle.sorted.specs.Checks.{settings_only, table_only, refused_settings, refused_table, behind_table, both_right, right_few}
use Rattle.sorted.specs.Found.{told_by}
use Rattle.sorted.proofs.checked.table_and_index_check.Goals as goal
use Rattle.sorted.proofs.checked.table_and_index_check.Goals.{In_ok-card_check, In_ok-card_check-2}

-- what was checked are the settings, and then the table with them
good-settings : (c : In_ok-card_check) → settings_check (settings_of c.args.settings.now) ≡ got tt
good-settings c = sym (c.in_ok-card_check.ensures ∙ settings_only _)

good-table : (c : In_ok-card_check-2) → table_right (settings_of c.args.settings.now) c.args.table.now ≡ got tt
good-table c = sym (c.in_ok-card_check-2.ensures ∙ table_only _ _)

pub returns-in_err-card_check : goal.returns-in_err-card_check
returns-in_err-card_check c = let p = err_from_is_err_and c.from_residual.result c.from_residual.ensures.1 in rw (p.1, p.2) (refused_settings _ _ _ (sym (c.in_err-card_check.ensures ∙ settings_only _)))

pub returns-then-told_right : goal.returns-then-told_right
returns-then-told_right c = both_right _ _ _ (good-settings (goal.at.returns-then-told_right c).In_ok-card_check) (c.told_right.ensures c.if-told_right.true)

pub returns-in_err-card_check-2 : goal.returns-in_err-card_check-2
returns-in_err-card_check-2 c = let p = err_from_is_err_and c.from_residual-in_err-card_check-2.result c.from_residual-in_err-card_check-2.ensures.1 in rw (p.1, p.2) (refused_table _ _ _ (sym (c.in_err-card_check-2.ensures ∙ table_only _ _)))

pub returns : goal.returns
returns c =
    told_by WrongIndex _ c.map_err.ensures.cases
    ∙ c.index_found.ensures WrongIndex
    ∙ behind_table _ _ _ (good-table (goal.at.returns c).In_ok-card_check-2)

pub told_right-requires : goal.told_right-requires
told_right-requires c = good-settings c

pub index_found-requires : goal.index_found-requires
index_found-requires c = right_few _ _ (good-table c)
