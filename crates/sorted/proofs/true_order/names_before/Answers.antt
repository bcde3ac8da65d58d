-- `sorted::true_order::names_before` meets its contract: the rows passed are counted. Assumes nothing.
use mathlib.Core.Path.{◌≡◌, refl, sym, ap, ◌∙◌}
use Prim.Native.Nat.{◌/◌}
use lib.ListN.{length}
use native.Mathlib.Omega.{arith}
use Rattle.rules.specs.SettingsAndUnitTable.{rows_in}
use Rattle.index.specs.TheSortedIndex.{count, names_before}
use Rattle.sorted.specs.Found.{count_next, count_same}
use Rattle.sorted.proofs.true_order.names_before.Goals as goal
use Rattle.sorted.proofs.true_order.names_before.Goals.{then-row_before, else-row_before}

pub loop-i-init : goal.loop-i-init
unfolding count
loop-i-init c = (omega arith, refl)

pub row_before-requires : goal.row_before-requires
unfolding rows_in
row_before-requires c = omega arith

pub loop-i-preserved : goal.loop-i-preserved
loop-i-preserved c =
    let inv = c.loop-i.invariant in
    elim c.if-row_before.branch [
      | then-row_before w ↦ (omega (arith, w.found-is), w.found-is ∙ count_next _ c.loop-i.i inv.1 (sym c.row_before.ensures ∙ w.if-row_before.true))
      | else-row_before w ↦ (omega (arith, w.found-is), w.found-is ∙ count_same _ c.loop-i.i inv.1 (sym c.row_before.ensures ∙ w.if-row_before.false))
    ]

pub returns : goal.returns
unfolding names_before rows_in
returns c =
    let all : c.loop-i.i ≡ length c.args.table.now / 48 = omega arith in
    c.loop-i.invariant.1 ∙ ap (count _) all
