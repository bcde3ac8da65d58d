-- `value::digits::past_digits` meets its contract: a run of digits is one of the bytes from `0` to `9`. Assumes nothing.
use Rattle.std.proofs.Common.{◌∙◌, rules}
use Rattle.rules.specs.Common.{between}
use Rattle.value.specs.Digits.{run_digits}
use Rattle.value.proofs.digits.past_digits.Goals as goal

pub returns : goal.returns
returns c = c.past.ensures ∙ c.past_eights-next.ensures (between 48 57) (λ at h stands. search rules) ∙ run_digits _ _
