-- `steps::delimiters::past` meets its contract: the run from here on ends where the run from the first place does. Assumes nothing.
use mathlib.Core.Path.{◌≡◌}
use Prim.Native.Nat.{◌-◌}
use lib.ListN.{length}
use Rattle.rules.specs.Common.{run}
use Rattle.settings.specs.Sets.{bytes_of}
use Rattle.settings.specs.Sets.{passes}
use Rattle.steps.proofs.delimiters.past.Given as goal

abbrev pub invariant-loop-next : goal.invariant-loop-next
invariant-loop-next l = run (passes (bytes_of l.set) l.held) l.text l.next ≡ run (passes (bytes_of l.set) l.held) l.text l.place

abbrev pub decreases-loop-next : goal.decreases-loop-next
decreases-loop-next l = length l.text - l.next
