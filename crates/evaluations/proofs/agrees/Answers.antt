-- `evaluations::agrees` is safe: what stands before and after the point are digits of the line, and were summed up. Assumes nothing.
use Prim.Native.Nat.{zero-le}
use native.Mathlib.Omega.{arith}
use Rattle.value.specs.Numbers.{typed}
use Rattle.value.specs.Places.{spans_both}
use Rattle.value.specs.Sums.{sum_both}
use Rattle.evaluations.proofs.agrees.Goals as goal

pub evaluate-requires : goal.evaluate-requires
evaluate-requires c = record { spans = rw (c.sum_digits-after.ensures.0, c.parse_digits_strip_zeros-before.ensures.0) (spans_both _ 0 _ zero-le (omega (arith, rw c.parse_digits_strip_zeros-before.ensures.0 at c.if-line-point.false))); counts = typed (sum_both _ _ c.parse_digits_strip_zeros-before.ensures.1 _ c.sum_digits-after.ensures.1) }
