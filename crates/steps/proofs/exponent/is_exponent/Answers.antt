-- `steps::exponent::is_exponent` meets its contract: nothing stands at the text's end, and elsewhere a byte, in any case. Assumes nothing.
use mathlib.Core.Path.{refl, sym, ◌∙◌}
use Rattle.rules.specs.Common.{between, when◌then◌else◌}
use Rattle.rules.specs.SettingsAndUnitTable.{is, class}
use Rattle.rules.proofs.Laws.Texts.{sees_here, sees_end}
use Rattle.steps.proofs.exponent.is_exponent.Goals as goal

pub returns-then-text-place : goal.returns-then-text-place
returns-then-text-place c = sym (sees_end _ _ _ c.if-text-place.true)

pub same_letter-requires : goal.same_letter-requires
unfolding is class between when◌then◌else◌
same_letter-requires c = refl

pub returns : goal.returns
returns c = c.same_letter.ensures ∙ sym (sees_here _ _ _ c.if-text-place.false)
