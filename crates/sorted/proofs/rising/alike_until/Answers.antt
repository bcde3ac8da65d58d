-- `sorted::rising::alike_until` meets its contract: the rooms are the same up to `at`, where a word begins. The measure is what is left of them. Assumes nothing.
use mathlib.Core.Path.{sym, ◌∙◌}
use native.Mathlib.Omega.{arith}
use Rattle.sorted.specs.Rooms.{alike_word}
use Rattle.sorted.proofs.rising.alike_until.Goals as goal

pub loop-at-preserved : goal.loop-at-preserved
loop-at-preserved c = (
  omega (arith, c.loop-at.invariant.0),
  omega (arith, c.loop-at.invariant.0),
  alike_word c.args.row.now c.args.other.now c.loop-at.at (omega (arith, c.requires.0)) (omega (arith, c.requires.1)) (λ k. (c.shared_slice_known-1.given k).fits) (λ k. (c.shared_slice_known-2-1.given k).fits) c.loop-at.invariant.2
      (sym c.word_at.ensures ∙ c.if-word_at.false ∙ c.word_at-in-loop-at.ensures),
)
