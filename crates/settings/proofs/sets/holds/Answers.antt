-- `settings::sets::holds` meets its contract: the bit of the byte in the word that has it, or no word has it. Assumes nothing.
use borrow.Author.Rules.{rules}
use Rattle.settings.specs.Laws.Sets.{holds_low, holds_high, holds_none}
use Rattle.settings.proofs.sets.holds.Goals as goal

pub returns-then-bit-lt64 : goal.returns-then-bit-lt64
returns-then-bit-lt64 c = holds_low _ _ c.if-bit-lt64.true

pub returns-then-bit-lt128 : goal.returns-then-bit-lt128
returns-then-bit-lt128 c = holds_high _ _ c.if-bit-lt64.false c.if-bit-lt128.true

pub returns : goal.returns
returns c = holds_none _ _ c.if-bit-lt128.false (search rules)
