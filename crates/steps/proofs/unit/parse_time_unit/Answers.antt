-- `steps::unit::parse_time_unit` meets its contract: no row has the stretch as its name, or one has. Assumes nothing.
use mathlib.Core.Path.{◌≡◌, sym, ap, ◌∙◌}
use native.Mathlib.Omega.{arith}
use lib.ListN.{length}
use borrow.Author.Tests.{eqb-true, eqb-false}
use Rattle.rules.specs.SettingsAndUnitTable.{row_size, kind_in}
use Rattle.rows.specs.Laws.Lookup.{found_whole}
use Rattle.steps.specs.Units.{unit_read, read_nothing, read_row}
use Rattle.steps.proofs.unit.parse_time_unit.Goals as goal
use Rattle.steps.proofs.unit.parse_time_unit.Goals.{Else-is_empty}

pub returns-then-is_empty : goal.returns-then-is_empty
returns-then-is_empty c = read_nothing _ (eqb-true _ 0 (sym c.is_empty.ensures ∙ c.if-is_empty.true)) ∙ ap unit_read c.find_unit-row.ensures

-- a row, whole
some : (c : Else-is_empty) → length c.find_unit-row.result.now ≡ 0 → ⊥
some c = eqb-false _ 0 (sym c.is_empty.ensures ∙ c.if-is_empty.false)

long : (c : Else-is_empty) → length c.find_unit-row.result.now ≡ row_size
long c =
    ap length c.find_unit-row.ensures ∙ found_whole _ _ _ (λ none. some c (ap length c.find_unit-row.ensures ∙ none))

pub returns : goal.returns
unfolding kind_in
returns c = rw c.row_multiplier.ensures (read_row _ (some (goal.at.returns c).Else-is_empty) ∙ ap unit_read c.find_unit-row.ensures)

pub bounds-row-33 : goal.bounds-row-33
bounds-row-33 c = omega (arith, long (goal.at.bounds-row-33 c).Else-is_empty)

pub row_multiplier-requires : goal.row_multiplier-requires
row_multiplier-requires c = long (goal.at.row_multiplier-requires c).Else-is_empty
