-- `writing::digits::fraction` meets its contract: zero has no digits, and three or six zeros at the end go at once. Assumes nothing.
use mathlib.Core.Path.{◌≡◌, ap, ◌∙◌}
use Prim.Native.Nat.{◌/◌, ◌%◌}
use native.Mathlib.Omega.{arith}
use borrow.Author.Rules.{rules}
use Rattle.rules.specs.Common.{when◌then◌else◌}
use Rattle.rules.specs.WriterAndShiftTotal.{decimals, no_trailing_zeros, before_zeros, fraction_digits}
use Rattle.writing.specs.Digits.{three_dropped}
use Rattle.writing.proofs.digits.fraction.Goals as goal

pub returns-then-nanoseconds-eq0 : goal.returns-then-nanoseconds-eq0
unfolding fraction_digits decimals no_trailing_zeros before_zeros when◌then◌else◌
returns-then-nanoseconds-eq0 c = search rules

pub returns-then-nanoseconds-ne0 : goal.returns-then-nanoseconds-ne0
unfolding fraction_digits
returns-then-nanoseconds-ne0 c = c.trimmed.ensures

pub returns-then-nanoseconds-ne0-2 : goal.returns-then-nanoseconds-ne0-2
unfolding fraction_digits
returns-then-nanoseconds-ne0-2 c = (three_dropped 6 _ c.if-nanoseconds-ne0.false ∙ c.trimmed-then-nanoseconds-ne0-2.ensures.0, omega (arith, c.trimmed-then-nanoseconds-ne0-2.ensures.1))

pub returns : goal.returns
unfolding fraction_digits
returns c =
    let n = c.args.nanoseconds in
    let six : n % 1000000 ≡ 0 = c.if-nanoseconds-ne0-2.false in (
      three_dropped 6 n (omega arith)
          ∙ three_dropped 3 (n / 1000) (omega arith)
          ∙ ap (λ k. no_trailing_zeros (decimals 3 k)) (omega arith)
          ∙ c.trimmed-2.ensures.0,
      omega (arith, c.trimmed-2.ensures.1),
    )
