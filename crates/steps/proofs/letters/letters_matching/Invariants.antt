-- `steps::letters::letters_matching` meets its contract: the letters counted, and those that match from here on, are all that match. Assumes nothing.
use mathlib.Core.Path.{◌≡◌}
use Prim.Native.Nat.{◌+◌, ◌-◌, ◌≤◌}
use lib.ListN.{length, drop}
use Rattle.steps.specs.Letters.{matching}
use Rattle.steps.proofs.letters.letters_matching.Given as goal

abbrev pub invariant-loop-count : goal.invariant-loop-count
invariant-loop-count l = (l.count + matching (drop l.count l.word) (drop l.next l.text) ≡ matching l.word (drop l.place l.text)) × (l.count ≤ length l.word)

abbrev pub decreases-loop-count : goal.decreases-loop-count
decreases-loop-count l = length l.word - l.count
