-- `steps::bytes::same_letter` meets its contract: the rule of the bit. Assumes nothing.
use borrow.Author.Rules.{rules}
use Rattle.steps.specs.Bytes.{letter_bit}
use Rattle.steps.proofs.bytes.same_letter.Goals as goal

pub returns : goal.returns
returns c = letter_bit c.args.letter c.args.byte (search rules) (search rules) c.requires
