-- `steps::unit::find_unit` meets its contract: nothing stands between the places, or a stretch. Assumes nothing.
use mathlib.Core.Path.{sym, ap, ◌∙◌}
use native.Mathlib.Nat.{le_of_lt}
use lib.ListN.{take}
use Rattle.rules.specs.SettingsAndUnitTable.{low_first, find_row}
use Rattle.steps.specs.Stretches.{stretch_part}
use Rattle.steps.specs.Units.{nothing_found}
use Rattle.steps.proofs.unit.find_unit.Goals as goal

pub returns-then-end-place : goal.returns-then-end-place
returns-then-end-place c = nothing_found _ _ _ _ _ c.requires.readable c.if-end-place.true

pub slice_bounds-find_row-end : goal.slice_bounds-find_row-end
slice_bounds-find_row-end c = c.requires.scanned.within c.if-end-place.false

pub find_row-requires : goal.find_row-requires
find_row-requires c = c.requires.scanned.word ∙ ap (λ l. low_first (take 8 l)) (sym (stretch_part _ _ _ (le_of_lt c.if-end-place.false)))

pub returns : goal.returns
returns c = c.find_row.ensures.result_value ∙ ap (find_row _ _) (stretch_part _ _ _ (le_of_lt c.if-end-place.false))
