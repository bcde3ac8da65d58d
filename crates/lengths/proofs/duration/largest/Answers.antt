-- `lengths::duration::largest` meets its contract: the record is that of the definition. Assumes nothing.
use mathlib.Core.Path.{refl}
use Rattle.rules.specs.ThePartOfTheCrateWeTake.{largest}
use Rattle.lengths.proofs.duration.largest.Goals as goal

pub returns : goal.returns
unfolding largest
returns c = refl
