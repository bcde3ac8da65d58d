-- `value::digits::sum_digits` meets its contract: at each turn what is left of the run comes, after the number so far, to the whole sum.
-- A byte below `0` or above `9` and the text's end stop the run, and a number that is not sure to take one more digit is the sum.
-- Assumes nothing.
use Rattle.value.specs.Digits.{Unsummed}
use Rattle.value.proofs.digits.sum_digits.Given as goal

abbrev pub invariant-loop-next : goal.invariant-loop-next
invariant-loop-next l = Unsummed l.text l.place l.so_far l.number l.next
