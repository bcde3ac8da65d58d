-- `sorted::rising::names_rise` meets its contract: the names rise up to the entry that `last` is. Assumes nothing.
use mathlib.Core.Path.{◌≡◌, ap, ◌∙◌}
use mathlib.Core.Bool.{true}
use mathlib.Core.List.{List}
use Prim.Native.Nat.{ℕ, ◌<◌, ◌-◌, ◌+◌}
use native.Mathlib.Omega.{arith}
use lib.ListN.{length, get_or, take, drop, length-take, length-drop}
use lib.Seq.{get_or-take, get_or-drop}
use Rattle.rules.specs.SettingsAndUnitTable.{rows, row, name}
use Rattle.rows.specs.Laws.Rows.{length_row}
use Rattle.index.specs.TheSortedIndex.{before}
use Rattle.sorted.specs.Climbing.{climb_on}
use Rattle.sorted.proofs.rising.names_rise.Goals as goal
use Rattle.sorted.proofs.rising.names_rise.Goals.{Else-entry-count}

-- the two rows
rows_of :
    (c : Else-entry-count)
    → (c.loop-next.last < rows c.args.table.now)
    × (get_or (take (length c.args.index.now - 1) (drop 1 c.args.index.now)) c.loop-next.next-index 0 < rows c.args.table.now)
rows_of c = (omega (arith, c.loop-next.invariant.0, c.requires.index_len), omega (arith, c.if-entry-count.false, c.requires.index_len))

pub comes_before-requires : goal.comes_before-requires
comes_before-requires c =
    let both = rows_of (goal.at.comes_before-requires c).Else-entry-count in
    record {
      row_len = (ap length c.row_at.ensures ∙ length_row _ _ both.0, rw c.row_at.ensures (c.requires.by_index _ both.0));
      other_len = (ap length c.row_at-else-entry-count.ensures ∙ length_row _ _ both.1, rw c.row_at-else-entry-count.ensures (c.requires.by_index _ both.1));
    }

-- the rest's entries are the index's behind the first
rest_entry : (index : List ℕ) (i : ℕ) → i + 1 < length index → get_or (take (length index - 1) (drop 1 index)) i 0 ≡ get_or index (i + 1) 0
rest_entry index i h =
    let place : 1 + i ≡ i + 1 = omega arith in
    get_or-take (length index - 1) (drop 1 index) i 0 (omega arith) ∙ get_or-drop 1 index i 0 ∙ ap (λ n. get_or index n 0) place

pub loop-next-preserved : goal.loop-next-preserved
loop-next-preserved c =
    let table = c.args.table.now in
    let index = c.args.index.now in
    let k = c.loop-next.next-index in
    let (below, is, climbing) = c.loop-next.invariant in
    let more : k + 1 < length index = omega (arith, length-take (length index - 1) (drop 1 index), length-drop 1 index) in
    let entry = rest_entry index k more in
    let place : k + 1 - 1 ≡ k = omega arith in
    let higher : before (name (row table c.loop-next.last)) (name (row table (get_or index (k + 1) 0))) ≡ true =
    rw (← entry, ← c.row_at.ensures, ← c.row_at-else-entry-count.ensures) (c.comes_before.ensures c.if-not-comes_before.false)
    in (
      c.if-entry-count.false,
      entry,
      climb_on table index (k + 1) (omega arith) climbing (rw (← entry) c.if-entry-count.false) (rw (place, ← is) higher),
    )
