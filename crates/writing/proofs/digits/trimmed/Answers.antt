-- `writing::digits::trimmed` meets its contract: a last digit that is zero goes, and the first from behind that is not stays with all before it.
-- Assumes nothing.
use Rattle.std.proofs.Common.{◌∙◌, arith}
use Rattle.writing.specs.Digits.{trailing_kept, trailing_dropped, trailing_none}
use Rattle.writing.proofs.digits.trimmed.Goals as goal

pub returns-else-left-eq0 : goal.returns-else-left-eq0
returns-else-left-eq0 c = (c.loop-left.invariant.same_digits ∙ trailing_kept _ _ c.loop-left-test.true c.if-left-eq0.false, c.loop-left.invariant.few)

pub loop-left-preserved : goal.loop-left-preserved
loop-left-preserved c = record {
  same_digits = c.loop-left.invariant.same_digits ∙ trailing_dropped c.loop-left.left.count _ c.loop-left-test.true c.if-left-eq0.true;
  few = omega arith;
}

pub returns-after-loop-left : goal.returns-after-loop-left
returns-after-loop-left c = (c.loop-left.invariant.same_digits ∙ trailing_none _ _ c.loop-left-test.false, c.loop-left.invariant.few)
