-- `settings::sets::inner_delimiters` meets its contract: accepted settings have such a set. Assumes nothing.
use mathlib.Core.Path.{◌∙◌}
use Rattle.settings.specs.Laws.Accepted.{inner_good}
use Rattle.settings.proofs.sets.inner_delimiters.Goals as goal

pub ascii-requires : goal.ascii-requires
ascii-requires c = rw c.inner.ensures (inner_good _ c.requires)

pub returns : goal.returns
returns c = c.ascii.ensures ∙ c.inner.ensures
