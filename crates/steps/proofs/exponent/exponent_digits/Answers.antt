-- `steps::exponent::exponent_digits` meets its contract: the digits from here on, after those that spelled the power so far, come to what all of them do.
-- The power never passes the limit. Assumes nothing.
use mathlib.Core.Path.{◌≡◌, refl, sym, ap, ◌∙◌}
use mathlib.Core.Bool.{true}
use Prim.Native.Nat.{◌≤◌}
use native.Mathlib.Omega.{arith}
use borrow.Author.Tests.{not-true, not-false}
use borrow.Author.Rules.{rules}
use lib.ListN.{get_or}
use Rattle.rules.specs.NumbersHandedBack.{refused}
use Rattle.rules.specs.SettingsAndUnitTable.{DIGIT, is}
use Rattle.value.specs.Digits.{digit_low, digit_high}
use Rattle.steps.specs.Exponents.{limit_small, digits_end, digits_stop, digits_passed, digits_more}
use Rattle.std.proofs.Common.{not}
use Rattle.steps.proofs.exponent.exponent_digits.Goals as goal
use Rattle.steps.proofs.exponent.exponent_digits.Goals.{At-loop-next, Else-not-is_digit}

-- the power so far is small, and past the first test a digit stands at the place
power_small : (c : At-loop-next) → c.loop-next.power ≤ 32768
power_small c = omega (arith, limit_small c.args.negative)

digit-there :
    (c : Else-not-is_digit)
    → is DIGIT (get_or c.args.text.now c.loop-next.next 0) ≡ true
digit-there c = sym c.is_digit.ensures ∙ not-false _ (ap not c.if-not-is_digit.false)

pub loop-next-init : goal.loop-next-init
loop-next-init c = (refl, search rules, c.exponent_limit-limit.ensures)

pub overflow_cast-power : goal.overflow_cast-power
overflow_cast-power c = omega (arith, power_small (goal.at.overflow_cast-power c).At-loop-next)

pub returns-then-not-is_digit : goal.returns-then-not-is_digit
returns-then-not-is_digit c =
    c.exponent_at.ensures
    ∙ sym (digits_stop _ _ _ _ (search rules) (sym c.is_digit.ensures ∙ not-true _ (ap not c.if-not-is_digit.true)))
    ∙ c.loop-next.invariant.0

pub overflow_mul-more : goal.overflow_mul-more
overflow_mul-more c = omega (arith, power_small (goal.at.overflow_mul-more c).At-loop-next)

pub overflow_sub-more : goal.overflow_sub-more
overflow_sub-more c = digit_low _ (digit-there c)

pub overflow_cast-more : goal.overflow_cast-more
overflow_cast-more c = omega (arith, digit_high _ (digit-there c))

pub overflow_add-more : goal.overflow_add-more
overflow_add-more c = omega (arith, power_small (goal.at.overflow_add-more c).At-loop-next, digit_high _ (digit-there c))

pub returns-then-limit-more : goal.returns-then-limit-more
returns-then-limit-more c =
    ap refused c.exponent_passed.ensures
    ∙ sym (digits_passed _ _ _ _ (search rules) (digit-there (goal.at.returns-then-limit-more c).Else-not-is_digit) (omega arith))
    ∙ c.loop-next.invariant.0

pub loop-next-preserved : goal.loop-next-preserved
loop-next-preserved c = (
  sym (digits_more _ _ c.loop-next.power c.loop-next.next (search rules) (digit-there (goal.at.loop-next-preserved c).Else-not-is_digit) (omega arith)) ∙ c.loop-next.invariant.0,
  search rules,
  c.loop-next.invariant.2,
)

pub overflow_cast-power-2 : goal.overflow_cast-power-2
overflow_cast-power-2 c = omega (arith, power_small (goal.at.overflow_cast-power-2 c).At-loop-next)

pub returns : goal.returns
returns c =
    c.exponent_at-2.ensures
    ∙ sym (digits_end _ _ _ _ c.loop-next-test.false)
    ∙ c.loop-next.invariant.0
