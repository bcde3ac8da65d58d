-- `steps::number::parse_number_fraction` meets its contract: no point, fractions off, no digit on either side, and digits. Assumes nothing.
use mathlib.Core.Path.{◌≡◌, sym, ◌∙◌}
use mathlib.Core.Bool.{true}
use Prim.Native.Nat.{◌+◌}
use native.Mathlib.Omega.{arith}
use borrow.Author.Tests.{not-true, not-false}
use Rattle.rules.specs.Common.{sees}
use Rattle.rules.specs.SettingsAsWords.{settings_of}
use Rattle.rules.specs.SettingsAndUnitTable.{POINT, is}
use Rattle.rules.proofs.Laws.Texts.{sees_in}
use Rattle.value.specs.Sums.{sum_of, sum_both, sum_whole}
use Rattle.steps.specs.Sums.{sum_got, sum_refused}
use Rattle.steps.specs.Numbers.{fraction_absent, fraction_off, fraction_empty, fraction_after, fraction_some}
use Rattle.std.proofs.Common.{ap, not}
use Rattle.steps.proofs.number.parse_number_fraction.Goals as goal
use Rattle.steps.proofs.number.parse_number_fraction.Goals.{After-sum_digits-digits, Else-not-fractions, Else-not-is_point}

-- past the first test a point stands at the place, and past the second fractions are on
point-there : (c : Else-not-is_point) → let args = c.args in sees (is POINT) args.text.now args.place ≡ true
point-there c = sym c.is_point.ensures ∙ not-false _ (ap not c.if-not-is_point.false)

on : (c : Else-not-fractions) → (settings_of c.args.settings.now).fractions ≡ true
on c = sym c.fractions.ensures ∙ not-false _ (ap not c.if-not-fractions.false)

-- the digits after the point go on with the sum
summed-both :
    (c : After-sum_digits-digits)
    → c.sum_digits-digits.result.number
    ≡ sum_of c.args.text.now c.args.whole (record { start = c.args.place + 1; end = c.sum_digits-digits.result.end })
summed-both c =
    sum_both c.args.text.now c.args.whole c.requires _ c.sum_digits-digits.ensures.1

pub returns-then-not-is_point : goal.returns-then-not-is_point
returns-then-not-is_point c =
    sum_got _ _ (sum_whole c.args.text.now c.args.whole c.requires c.args.place)
    (fraction_absent (settings_of c.args.settings.now) _ _ _ _ (sym c.is_point.ensures ∙ not-true _ (ap not c.if-not-is_point.true)))

pub returns-then-not-fractions : goal.returns-then-not-fractions
returns-then-not-fractions c =
    sum_refused _ _
    (fraction_off (settings_of c.args.settings.now) _ _ _ _ (point-there (goal.at.returns-then-not-fractions c).Else-not-is_point)
    (sym c.fractions.ensures ∙ not-true _ (ap not c.if-not-fractions.true)))

pub overflow_add-after : goal.overflow_add-after
overflow_add-after c = omega (arith, sees_in _ _ _ (point-there (goal.at.overflow_add-after c).Else-not-is_point))

pub returns-then-not-any_whole : goal.returns-then-not-any_whole
returns-then-not-any_whole c =
    sum_refused _ _
    (fraction_empty (settings_of c.args.settings.now) _ _ _ _ (point-there (goal.at.returns-then-not-any_whole c).Else-not-is_point) (on (goal.at.returns-then-not-any_whole c).Else-not-fractions)
    c.sum_digits-digits.ensures.0 c.if-next-after.true (not-true _ (ap not c.if-not-any_whole.true)))

pub returns-else-not-any_whole : goal.returns-else-not-any_whole
returns-else-not-any_whole c =
    sum_got _ _ (summed-both (goal.at.returns-else-not-any_whole c).After-sum_digits-digits)
    (fraction_after (settings_of c.args.settings.now) _ _ _ _ (point-there (goal.at.returns-else-not-any_whole c).Else-not-is_point) (on (goal.at.returns-else-not-any_whole c).Else-not-fractions)
    c.sum_digits-digits.ensures.0 (not-false _ (ap not c.if-not-any_whole.false)))

pub returns-else-next-after : goal.returns-else-next-after
returns-else-next-after c =
    sum_got _ _ (summed-both (goal.at.returns-else-next-after c).After-sum_digits-digits)
    (fraction_some (settings_of c.args.settings.now) _ _ _ _ (point-there (goal.at.returns-else-next-after c).Else-not-is_point) (on (goal.at.returns-else-next-after c).Else-not-fractions)
    c.sum_digits-digits.ensures.0 c.if-next-after.false)
