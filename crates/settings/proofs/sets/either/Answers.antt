-- `settings::sets::either` meets its contract: the words of both sets joined. Assumes nothing.
use mathlib.Core.Path.{refl}
use Rattle.settings.specs.Sets.{bytes_of, either}
use Rattle.settings.proofs.sets.either.Goals as goal

pub returns : goal.returns
unfolding bytes_of either
returns c = refl
