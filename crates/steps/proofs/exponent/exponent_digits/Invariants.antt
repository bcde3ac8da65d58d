-- `steps::exponent::exponent_digits` meets its contract: the digits from here on, after those that spelled the power so far, come to what all of them do.
-- The power never passes the limit. Assumes nothing.
use mathlib.Core.Path.{◌≡◌}
use Prim.Native.Nat.{◌-◌, ◌≤◌}
use lib.ListN.{length}
use Rattle.rules.specs.ReadingOnePart.{exponent_limit}
use Rattle.steps.specs.Exponents.{digits_from}
use Rattle.steps.proofs.exponent.exponent_digits.Given as goal

abbrev pub invariant-loop-next : goal.invariant-loop-next
invariant-loop-next l = (digits_from l.negative l.text l.power l.next ≡ digits_from l.negative l.text 0 l.place) × (l.power ≤ l.limit) × (l.limit ≡ exponent_limit l.negative)

abbrev pub decreases-loop-next : goal.decreases-loop-next
decreases-loop-next l = length l.text - l.next
