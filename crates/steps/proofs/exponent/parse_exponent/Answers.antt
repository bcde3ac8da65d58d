-- `steps::exponent::parse_exponent` meets its contract: no byte, one that is no digit, and digits. Assumes nothing.
use mathlib.Core.Path.{sym, ◌∙◌}
use borrow.Author.Tests.{not-true, not-false}
use Rattle.steps.specs.Exponents.{number_ends, number_byte, number_digits}
use Rattle.std.proofs.Common.{ap, not}
use Rattle.steps.proofs.exponent.parse_exponent.Goals as goal

pub returns-then-text-place : goal.returns-then-text-place
returns-then-text-place c = number_ends _ _ _ c.if-text-place.true

pub returns-then-not-is_digit : goal.returns-then-not-is_digit
returns-then-not-is_digit c = number_byte _ _ _ c.if-text-place.false (sym c.is_digit.ensures ∙ not-true _ (ap not c.if-not-is_digit.true))

pub returns : goal.returns
returns c =
    c.exponent_digits.ensures
    ∙ number_digits _ _ _ c.if-text-place.false (sym c.is_digit.ensures ∙ not-false _ (ap not c.if-not-is_digit.false))
