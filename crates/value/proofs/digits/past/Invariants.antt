-- `value::digits::past` meets its contract: at each turn the run from here is the run from the start, since a byte from low to high goes
-- on with it, and any other byte and the text's end stop it. Assumes nothing.
use Rattle.std.proofs.Common.{◌≡◌}
use Rattle.rules.specs.Common.{between, run}
use Rattle.value.proofs.digits.past.Given as goal

abbrev pub invariant-loop-next : goal.invariant-loop-next
invariant-loop-next l = run (between l.low l.high) l.text l.next ≡ run (between l.low l.high) l.text l.place
