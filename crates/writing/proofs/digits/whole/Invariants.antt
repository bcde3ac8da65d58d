-- `writing::digits::whole` meets its contract: digits counted in fours, and those of what is left, are the digits of the number. Assumes
-- nothing.
use Rattle.writing.specs.Digits.{Counted}
use Rattle.writing.proofs.digits.whole.Given as goal

abbrev pub invariant-loop-rest : goal.invariant-loop-rest
invariant-loop-rest l = Counted l.seconds l.count l.rest

abbrev pub decreases-loop-rest : goal.decreases-loop-rest
decreases-loop-rest l = l.rest
