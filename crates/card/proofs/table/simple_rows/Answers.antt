-- `card::table::simple_rows` meets its contract: each row passed is as nearly all are. Assumes nothing.
use mathlib.Core.Path.{refl, ap, ◌∙◌}
use native.Mathlib.Omega.{arith}
use lib.ListN.{length}
use borrow.Author.Tests.{not-false}
use borrow.Author.Count.{below_none, below_more}
use Rattle.rules.specs.SettingsAndUnitTable.{rows_in}
use Rattle.rows.specs.Laws.Rows.{length_row}
use Rattle.std.proofs.Common.{not}
use Rattle.card.proofs.table.simple_rows.Goals as goal

pub loop-i-init : goal.loop-i-init
unfolding rows_in
loop-i-init c = (refl, omega arith, below_none _)

pub row_at-requires : goal.row_at-requires
row_at-requires c = omega (arith, c.loop-i.invariant.0)

pub simple-requires : goal.simple-requires
simple-requires c = ap length c.row_at.ensures ∙ length_row _ _ (omega (arith, c.loop-i.invariant.0))

pub returns-then-not-simple : goal.returns-then-not-simple
returns-then-not-simple c = let loop = c.loop-i in (omega (arith, loop.invariant.0), loop.invariant.2)

pub loop-i-preserved : goal.loop-i-preserved
loop-i-preserved c =
    let loop = c.loop-i in
    let plain = c.simple.ensures (not-false c.simple.result (ap not c.if-not-simple.false)) in
    (loop.invariant.0, omega arith, below_more _ loop.i loop.invariant.2 (rw c.row_at.ensures at plain))

pub returns : goal.returns
returns c = let loop = c.loop-i in (omega (arith, loop.invariant.0), λ j below. loop.invariant.2 j (omega (arith, loop.invariant.0)))
