-- `sorted::made::sift_down` meets its contract: the entry is at `below`, with all behind it after it. Assumes nothing.
use mathlib.Core.Path.{◌≡◌, sym, ap, ap₂, ◌∙◌}
use mathlib.Core.List.{List}
use mathlib.Core.Bool.{not}
use Prim.Native.Nat.{ℕ, ◌+◌, ◌-◌, ◌<◌}
use native.Mathlib.Omega.{arith}
use borrow.Author.Tests.{not-true, not-false}
use lib.ListN.{length, get_or}
use Rattle.std.specs.List.{swap}
use Rattle.std.proofs.lemmas.List.Edits.{swap_is}
use Rattle.rules.specs.SettingsAndUnitTable.{rows, row, name}
use Rattle.rows.specs.Laws.Rows.{length_row}
use Rattle.index.specs.TheSortedIndex.{before}
use Rattle.index.specs.Laws.Right.{entry_name}
use Rattle.sorted.specs.Sifting.{Sifting, sift_stops, sift_swaps, swap_long, swap_own}
use Rattle.sorted.proofs.made.sift_down.Goals as goal
use Rattle.sorted.proofs.made.sift_down.Goals.{After-before-in-loop-below}

-- an entry is a row
a_row : {table index : List ℕ} {at : ℕ} → Sifting table index at → (k : ℕ) → k < length index → get_or index k 0 < rows table
a_row s k below = omega (arith, s.short, s.within k below)

pub name_of-wanted-requires : goal.name_of-wanted-requires
name_of-wanted-requires c = ap length c.row_at.ensures ∙ length_row _ _ (a_row c.requires.1 _ c.requires.1.here)

pub name_of-requires : goal.name_of-requires
name_of-requires c = ap length c.row_at-in-loop-below.ensures ∙ length_row _ _ (a_row c.loop-below.invariant.2 _ (omega (arith, c.loop-below.invariant.2.here)))

-- whether the sinking name comes first
asked :
    (c : After-before-in-loop-below)
    → c.before-in-loop-below.result ≡ before (entry_name c.args.table.now c.loop-below.index c.loop-below.below) (entry_name c.args.table.now c.loop-below.index (c.loop-below.below - 1))
asked c = c.before-in-loop-below.ensures ∙ ap₂ before c.loop-below.invariant.1 (c.name_of.ensures ∙ ap name c.row_at-in-loop-below.ensures)

pub returns-then-not-before : goal.returns-then-not-before
returns-then-not-before c = record { long = c.loop-below.invariant.0; rising = sift_stops _ _ _ c.loop-below.invariant.2 (omega arith) c.requires.0 (sym (asked (goal.at.returns-then-not-before c).After-before-in-loop-below) ∙ not-true _ (ap not c.if-not-before.true)) }

pub loop-below-preserved : goal.loop-below-preserved
loop-below-preserved c =
    let index = c.loop-below.index in
    let at = c.loop-below.below in
    let (long, wanted, s) = c.loop-below.invariant in
    let some : 0 < at = omega arith in
    let place : at - 1 + 1 ≡ at = omega arith in
    let after = c.swap.ensures.after ∙ ap (λ n. swap index n (at - 1)) place ∙ sym (swap_is index at (at - 1) 0 s.here (omega (arith, s.here))) in
    rw after (
      swap_long _ index at s some ∙ long,
      wanted ∙ ap (λ n. name (row c.args.table.now n)) (sym (swap_own _ index at s some)),
      sift_swaps _ index at s some (sym (asked (goal.at.loop-below-preserved c).After-before-in-loop-below) ∙ not-false _ (ap not c.if-not-before.false)),
    )
