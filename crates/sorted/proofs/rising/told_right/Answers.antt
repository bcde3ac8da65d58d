-- `sorted::rising::told_right` meets its contract: sizes, each row by itself, and names that rise. Assumes nothing.
use mathlib.Core.Path.{◌≡◌, sym, ◌∙◌}
use mathlib.Core.Bool.{true}
use Prim.Native.Nat.{ℕ, ◌%◌, ◌≤◌, ◌<◌}
use lib.ListN.{length}
use Rattle.rules.specs.SettingsAndUnitTable.{most_rows, row_size, rows, rows_in, row}
use Rattle.card.specs.Fields.{alone}
use Rattle.card.specs.Laws.Table.{alone_padded}
use Rattle.sorted.specs.Found.{no_fault}
use Rattle.sorted.specs.Climbing.{each_alone, told_good}
use Rattle.sorted.proofs.rising.told_right.Goals as goal
use Rattle.sorted.proofs.rising.told_right.Goals.{Then-is_ok}

-- each row passed by itself
rows-alone :
    (c : Then-is_ok)
    → (length c.args.table.now % row_size ≡ 0) × (rows c.args.table.now ≤ most_rows)
    × ((i : ℕ) → i < rows c.args.table.now → alone c.unit_rule.result (row c.args.table.now i) ≡ true)
rows-alone c =
    each_alone _ _ (λ size bad. no_fault size bad _ (sym c.is_ok.ensures.value ∙ c.if-is_ok.true) ∙ c.rows_found.ensures size bad)

pub names_rise-requires : goal.names_rise-requires
unfolding rows_in
names_rise-requires c = record { index_len = c.if-index-table.false; by_index = λ i below. alone_padded _ _ ((rows-alone c).2 i below) }

pub returns-then-is_ok : goal.returns-then-is_ok
unfolding rows_in
returns-then-is_ok c =
    λ e.
    told_good _ _ _ _ (c.unit_rule.ensures.by_index _ (λ k. (c.shared_slice_known-1.given k).fits)) (rows-alone (goal.at.returns-then-is_ok c).Then-is_ok) c.if-index-table.false (c.names_rise.ensures e)
