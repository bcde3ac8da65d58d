-- `writing::digits::trimmed` meets its contract: a last digit that is zero goes, and the first from behind that is not stays with all before it.
-- Assumes nothing.
use Rattle.std.proofs.Common.{◌≡◌, ◌≤◌}
use Rattle.rules.specs.WriterAndShiftTotal.{decimals, no_trailing_zeros}
use Rattle.writing.proofs.digits.trimmed.Given as goal

abbrev pub invariant-loop-left : goal.invariant-loop-left
invariant-loop-left l = record {
  same_digits : no_trailing_zeros (decimals l.fn.digits.count l.fn.digits.number) ≡ no_trailing_zeros (decimals l.left.count l.left.number);
  few : l.left.count ≤ l.fn.digits.count;
}

abbrev pub decreases-loop-left : goal.decreases-loop-left
decreases-loop-left l = l.left.count
