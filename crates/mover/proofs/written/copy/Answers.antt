-- `mover::written::copy` meets its contract: before turn `i` the first `i` bytes of the part are laid over the target. Assumes nothing.
use mathlib.Core.Path.{refl}
use Prim.Native.Nat.{◌+◌}
use native.Mathlib.Numerals.{add-one}
use native.Mathlib.Omega.{arith}
use lib.ListN.{take, get_or, length-set}
use lib.Seq.{take_all, take-suc, length-take-le}
use Rattle.writing.specs.Laid.{laid_nothing}
use Rattle.mover.specs.Parts.{laid_turn}
use Rattle.mover.proofs.written.copy.Goals as goal

pub loop-i-init : goal.loop-i-init
loop-i-init c = (omega arith, refl, laid_nothing c.args.target.now c.args.at)

pub loop-i-preserved : goal.loop-i-preserved
loop-i-preserved c =
    let part = c.args.part.now in (
      omega arith,
      simp length-set c.loop-i.invariant.1,
      laid_turn c.args.target.now c.loop-i.target (take c.loop-i.i part) (take (c.loop-i.i + 1) part) c.args.at c.loop-i.i (get_or part c.loop-i.i 0) c.loop-i.invariant.2 (length-take-le c.loop-i.i part (omega arith)) (rw (add-one c.loop-i.i, take-suc part c.loop-i.i 0 (omega arith))) (omega arith),
    )

pub returns : goal.returns
returns c = rw (← (take_all c.loop-i.i c.args.part.now (omega arith))) c.loop-i.invariant.2
