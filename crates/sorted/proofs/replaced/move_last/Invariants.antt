-- `sorted::replaced::move_last` meets its contract: the entries up to `k` have moved. Assumes nothing.
use mathlib.Core.Path.{◌≡◌}
use Prim.Native.Nat.{◌-◌}
use lib.ListN.{length}
use Rattle.sorted.specs.Replacing.{Moving}
use Rattle.sorted.proofs.replaced.move_last.Given as goal

abbrev pub invariant-loop-k : goal.invariant-loop-k
invariant-loop-k l = (l.last ≡ length l.initial.index - 1) × Moving l.initial.index l.at l.index l.k
