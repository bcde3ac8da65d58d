-- `lengths::duration::zero` meets its contract: the record is that of the definition. Assumes nothing.
use mathlib.Core.Path.{refl}
use Rattle.rules.specs.ThePartOfTheCrateWeTake.{zero_length}
use Rattle.lengths.proofs.duration.zero.Goals as goal

pub returns : goal.returns
unfolding zero_length
returns c = refl
