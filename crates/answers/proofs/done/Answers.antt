-- `answers::done` meets its contract. Assumes nothing.
use mathlib.Core.Path.{refl}
use Rattle.rules.specs.NumbersHandedBack.{done}
use Rattle.answers.proofs.done.Goals as goal

pub returns : goal.returns
unfolding done
returns c = refl
