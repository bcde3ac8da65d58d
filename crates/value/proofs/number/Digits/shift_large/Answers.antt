-- `value::number::Digits::shift_large` meets its contract: the number moved is so many places of its digits; those before the point are the
-- seconds, and the eighteen after it the attoseconds. Assumes nothing.
use Rattle.std.proofs.Common.{refl, ap, ◌∙◌, ◌-◌, length-append}
use Rattle.value.specs.Places.{moved_is, both_digits}
use Rattle.value.proofs.number.Digits.shift_large.Goals as goal

pub returns-in_err-seconds : goal.returns-in_err-seconds
returns-in_err-seconds c =
    let self = c.args.self in
    c.from_residual.ensures
    ∙ moved_is _ _ _ (length-append self.whole.now self.fract.now) (both_digits _ _ self.whole_digits self.fract_digits) _ _ c.saturating_sub-point.ensures refl
    c.split_at.ensures.front c.split_at.ensures.back c.saturating_sub.ensures c.in_err-seconds.ensures refl

pub returns : goal.returns
returns c =
    let self = c.args.self in
    moved_is _ _ _ (length-append self.whole.now self.fract.now) (both_digits _ _ self.whole_digits self.fract_digits) _ _ c.saturating_sub-point.ensures
    (c.saturating_sub-room.ensures ∙ ap (λ n. 18 - n) c.saturating_sub-2.ensures)
    c.split_at.ensures.front c.split_at.ensures.back c.saturating_sub.ensures c.in_ok-seconds.ensures c.attos.ensures
