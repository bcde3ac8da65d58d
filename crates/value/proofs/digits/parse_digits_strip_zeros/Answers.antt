-- `value::digits::parse_digits_strip_zeros` meets its contract: the run of digits from after the zeros ends where the run from before them
-- does. Assumes nothing.
use Rattle.value.specs.Digits.{run_after_zeros}
use Rattle.value.proofs.digits.parse_digits_strip_zeros.Goals as goal

pub returns : goal.returns
returns c = (rw (c.sum_digits-digits.ensures.0, c.past_zeros-start.ensures, run_after_zeros), c.sum_digits-digits.ensures.1)
