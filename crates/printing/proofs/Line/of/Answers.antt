-- `printing::Line::of` meets its contract: the digits found are those of what is printed, and no number has more than twenty. Assumes nothing.
use Rattle.std.proofs.Common.{arith}
use Rattle.printing.specs.Fields.{line_is}
use Rattle.printing.proofs.Line.of.Goals as goal

pub returns : goal.returns
returns c = record {
  digits = line_is _ c.args.answer c.whole.ensures.0 c.whole-2.ensures.0 c.sign_byte.ensures c.whole-3.ensures.0 c.whole-4.ensures.0;
  few = omega (arith, c.whole.ensures.1, c.whole-2.ensures.1, c.whole-3.ensures.1, c.whole-4.ensures.1);
}
