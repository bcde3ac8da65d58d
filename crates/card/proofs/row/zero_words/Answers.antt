-- `card::row::zero_words` meets its contract: what is left of the room decides. The measure is how much that is. Assumes nothing.
use mathlib.Core.Path.{refl, sym, ◌∙◌}
use native.Mathlib.Omega.{arith}
use borrow.Author.Tests.{eq-eqb, ne_eqb}
use Rattle.rows.specs.Laws.Rooms.{word_of, zeros_on, zeros_ended}
use Rattle.card.proofs.row.zero_words.Goals as goal

pub returns-then-word_at-ne0 : goal.returns-then-word_at-ne0
unfolding word_of
returns-then-word_at-ne0 c =
    let loop = c.loop-at in
    let row = c.args.row.now in
    sym (sym loop.invariant.1 ∙ rw (zeros_on row loop.at (omega (arith, loop.invariant.0)), ← c.word_at.ensures, ne_eqb _ _ c.if-word_at-ne0.true))

pub loop-at-preserved : goal.loop-at-preserved
unfolding word_of
loop-at-preserved c =
    let loop = c.loop-at in
    let row = c.args.row.now in (
      omega (arith, loop.invariant.0),
      sym (sym loop.invariant.1 ∙ rw (zeros_on row loop.at (omega (arith, loop.invariant.0)), ← c.word_at.ensures, eq-eqb _ _ c.if-word_at-ne0.false)),
    )

pub returns : goal.returns
returns c = sym (sym c.loop-at.invariant.1 ∙ zeros_ended _ c.loop-at.at c.loop-at-test.false)

pub loop-at-init : goal.loop-at-init
loop-at-init c = (c.requires.1, refl)

pub word_at-requires : goal.word_at-requires
word_at-requires c = omega (arith, c.requires.0)
