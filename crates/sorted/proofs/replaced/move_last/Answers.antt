-- `sorted::replaced::move_last` meets its contract: the entries up to `k` have moved. Assumes nothing.
use mathlib.Core.Path.{refl}
use native.Mathlib.Omega.{arith}
use lib.ListN.{length-set}
use Rattle.sorted.specs.Replacing.{move_starts, move_next, move_ends}
use Rattle.sorted.proofs.replaced.move_last.Goals as goal

pub loop-k-init : goal.loop-k-init
loop-k-init c = (refl, move_starts _ _ c.requires)

pub loop-k-preserved : goal.loop-k-preserved
loop-k-preserved c = (refl, move_next c.loop-k.invariant.1 (omega arith))

pub returns : goal.returns
returns c = move_ends c.loop-k.invariant.1 (omega arith)
