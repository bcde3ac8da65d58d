-- `value::number::Digits::append_to` meets its contract: the fraction digits go on from the number that the whole digits spell. Assumes
-- nothing.
use Rattle.std.proofs.Common.{ap, ◌∙◌}
use Rattle.value.specs.Numbers.{as_word}
use Rattle.value.specs.Places.{both_too_large, both_on}
use Rattle.value.proofs.number.Digits.append_to.Goals as goal

pub returns-in_err-front : goal.returns-in_err-front
returns-in_err-front c = c.from_residual.ensures ∙ both_too_large _ _ _ c.in_err-front.ensures

pub returns : goal.returns
returns c = c.append-2.ensures ∙ ap as_word (both_on _ _ _ c.in_ok-front.ensures)
