-- `card::table::further_rows` meets its contract: each row passed has it. Assumes nothing.
use mathlib.Core.Path.{sym, ap, ◌∙◌}
use native.Mathlib.Omega.{arith}
use lib.ListN.{length}
use borrow.Author.Tests.{not-false}
use borrow.Author.Count.{below_none, below_more}
use Rattle.rows.specs.Laws.Rows.{length_row}
use Rattle.card.specs.Fields.{asked_further}
use Rattle.std.proofs.Common.{not}
use Rattle.card.proofs.table.further_rows.Goals as goal

pub returns-in-Nothing : goal.returns-in-Nothing
unfolding asked_further
returns-in-Nothing c = (omega arith, λ j h. rw c.in-Nothing.is)

pub row_at-requires : goal.row_at-requires
row_at-requires c = omega (arith, c.requires.0)

pub further_right-requires : goal.further_right-requires
further_right-requires c =
    let i = c.loop-i.i in (
      ap length c.row_at.ensures ∙ length_row _ i (omega (arith, c.requires.0)),
      rw c.row_at.ensures (c.requires.1 i (omega arith)).0,
    )

pub returns-then-not-further_right : goal.returns-then-not-further_right
returns-then-not-further_right c = let loop = c.loop-i in (omega arith, loop.invariant.1)

pub loop-i-preserved : goal.loop-i-preserved
loop-i-preserved c =
    let loop = c.loop-i in
    let has = sym c.further_right.ensures ∙ not-false c.further_right.result (ap not c.if-not-further_right.false) in
    (omega arith, below_more _ loop.i loop.invariant.1 (rw c.row_at.ensures at has))

pub returns : goal.returns
returns c = (omega arith, λ j below. c.loop-i.invariant.1 j (omega arith))

pub loop-i-init : goal.loop-i-init
loop-i-init c = (omega arith, below_none _)
