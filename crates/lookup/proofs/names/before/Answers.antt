-- `lookup::names::before` meets its contract: what the order says. Assumes nothing.
use mathlib.Core.Path.{sym, ap, ◌∙◌}
use Rattle.index.specs.TheSortedIndex.{is_before, before}
use Rattle.lookup.proofs.names.before.Goals as goal

pub returns-in-Less : goal.returns-in-Less
unfolding before is_before
returns-in-Less c = ap is_before (sym c.in-Less.is ∙ c.order.ensures)

pub returns-in-Equal : goal.returns-in-Equal
unfolding before is_before
returns-in-Equal c = ap is_before (sym c.in-Equal.is ∙ c.order.ensures)

pub returns-in-Greater : goal.returns-in-Greater
unfolding before is_before
returns-in-Greater c = ap is_before (sym c.in-Greater.is ∙ c.order.ensures)
