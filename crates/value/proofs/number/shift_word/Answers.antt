-- `value::number::shift_word` meets its contract: powers of ten that stand on both sides fall away. Assumes nothing.
use mathlib.Core.Path.{ap, ◌∙◌}
use native.Mathlib.Nat.{le_of_lt}
use Rattle.value.specs.Numbers.{shifted_of}
use Rattle.value.specs.Places.{word_raised, word_lowered}
use Rattle.value.proofs.number.shift_word.Goals as goal

pub returns-then-before-after : goal.returns-then-before-after
returns-then-before-after c = c.lower.ensures ∙ ap shifted_of (word_lowered _ _ _ (le_of_lt c.if-before-after.true))

pub returns : goal.returns
returns c = c.raise.ensures ∙ ap shifted_of (word_raised _ _ _ c.if-before-after.false)
