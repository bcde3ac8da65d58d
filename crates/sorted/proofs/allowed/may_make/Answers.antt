-- `sorted::allowed::may_make` meets its contract: the settings with the table, and the lent index's length. Assumes nothing.
use mathlib.Core.Path.{◌≡◌, sym, ◌∙◌}
use native.Mathlib.Omega.{arith}
use Rattle.std.proofs.lemmas.Result.{err_from_is_err_and}
use Rattle.rules.specs.NumbersHandedBack.{got}
use Rattle.rules.specs.SettingsAsWords.{settings_of}
use Rattle.rules.specs.SettingsAndUnitTable.{rows_in}
use Rattle.index.specs.TheSortedIndex.{table_right}
use Rattle.sorted.specs.Checks.{table_only, right_few}
use Rattle.sorted.specs.Allowed.{make_refused, make_long, make_allowed}
use Rattle.sorted.proofs.allowed.may_make.Goals as goal
use Rattle.sorted.proofs.allowed.may_make.Goals.{In_ok-card_check}

-- what was checked is the table under its settings
good-table : (c : In_ok-card_check) → table_right (settings_of c.args.settings.now) c.args.table.now ≡ got tt
good-table c = sym (c.in_ok-card_check.ensures ∙ table_only _ _)

pub returns-in_err-card_check : goal.returns-in_err-card_check
returns-in_err-card_check c = let p = err_from_is_err_and c.from_residual.result c.from_residual.ensures.1 in rw (p.1, p.2) (make_refused _ _ _ (sym (c.in_err-card_check.ensures ∙ table_only _ _)))

pub returns-then-index-count : goal.returns-then-index-count
unfolding rows_in
returns-then-index-count c = make_long _ _ _ (good-table (goal.at.returns-then-index-count c).In_ok-card_check) c.if-index-count.true

pub returns : goal.returns
unfolding rows_in
returns c = make_allowed _ _ _ (good-table (goal.at.returns c).In_ok-card_check) c.if-index-count.false

pub overflow_cast-result : goal.overflow_cast-result
unfolding rows_in
overflow_cast-result c = omega (arith, right_few _ _ (good-table (goal.at.overflow_cast-result c).In_ok-card_check))
