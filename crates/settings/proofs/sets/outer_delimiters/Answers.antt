-- `settings::sets::outer_delimiters` meets its contract: accepted settings have such a set. Assumes nothing.
use mathlib.Core.Path.{◌∙◌}
use Rattle.settings.specs.Laws.Accepted.{outer_good}
use Rattle.settings.proofs.sets.outer_delimiters.Goals as goal

pub ascii-requires : goal.ascii-requires
ascii-requires c = rw c.outer.ensures (outer_good _ c.requires)

pub returns : goal.returns
returns c = c.ascii.ensures ∙ c.outer.ensures
