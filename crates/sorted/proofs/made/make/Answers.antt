-- `sorted::made::make` meets its contract: the first `i` rows stand in order. Assumes nothing.
use native.Mathlib.Omega.{arith}
use Rattle.sorted.specs.Making.{make_ends}
use Rattle.sorted.proofs.made.make.Goals as goal

pub returns : goal.returns
returns c = make_ends _ _ _ c.loop-i.invariant.1 c.requires.0 (omega arith)
