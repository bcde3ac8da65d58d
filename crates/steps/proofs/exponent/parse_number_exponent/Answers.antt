-- `steps::exponent::parse_number_exponent` meets its contract: no `e`, exponents off, and a number after its sign. Assumes nothing.
use mathlib.Core.Path.{◌≡◌, sym, ap, ◌∙◌}
use mathlib.Core.Bool.{true}
use native.Mathlib.Omega.{arith}
use borrow.Author.Tests.{not-true, not-false}
use Rattle.rules.specs.Common.{sees}
use Rattle.rules.specs.SettingsAsWords.{settings_of}
use Rattle.rules.specs.ReadingOnePart.{same_letter}
use Rattle.rules.proofs.Laws.Texts.{sees_in}
use Rattle.steps.specs.Exponents.{exponent_none, exponent_off, exponent_on}
use Rattle.std.proofs.Common.{not}
use Rattle.steps.proofs.exponent.parse_number_exponent.Goals as goal
use Rattle.steps.proofs.exponent.parse_number_exponent.Goals.{Else-not-is_exponent}

-- past the first test an `e` stands at the place
letter-there : (c : Else-not-is_exponent) → let args = c.args in sees (same_letter 101) args.text.now args.place ≡ true
letter-there c = sym c.is_exponent.ensures ∙ not-false _ (ap not c.if-not-is_exponent.false)

pub returns-then-not-is_exponent : goal.returns-then-not-is_exponent
returns-then-not-is_exponent c =
    c.exponent_at.ensures
    ∙ exponent_none (settings_of c.args.settings.now) _ _ (sym c.is_exponent.ensures ∙ not-true _ (ap not c.if-not-is_exponent.true))

pub returns-then-not-exponents : goal.returns-then-not-exponents
returns-then-not-exponents c =
    exponent_off (settings_of c.args.settings.now) _ _ (letter-there (goal.at.returns-then-not-exponents c).Else-not-is_exponent)
    (sym c.exponents.ensures ∙ not-true _ (ap not c.if-not-exponents.true))

pub overflow_add-place : goal.overflow_add-place
overflow_add-place c = omega (arith, sees_in _ _ _ (letter-there (goal.at.overflow_add-place c).Else-not-is_exponent))

pub returns : goal.returns
returns c =
    c.parse_exponent.ensures
    ∙ exponent_on (settings_of c.args.settings.now) _ _ (letter-there (goal.at.returns c).Else-not-is_exponent)
    (sym c.exponents.ensures ∙ not-false _ (ap not c.if-not-exponents.false)) c.sign_at-sign.ensures
