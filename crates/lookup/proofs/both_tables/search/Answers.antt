-- `lookup::both_tables::search` meets its contract: which search is made. Assumes nothing.
use mathlib.Core.Path.{sym, ◌∙◌}
use Rattle.std.proofs.lemmas.Bool.{eqb-true, eqb-false}
use Rattle.lookup.specs.Laws.BothTables.{searched_rows, searched_index}
use Rattle.lookup.proofs.both_tables.search.Goals as goal

pub returns-then-is_empty : goal.returns-then-is_empty
returns-then-is_empty c = c.find.ensures ∙ searched_rows _ _ _ (eqb-true _ _ (sym c.is_empty.ensures ∙ c.if-is_empty.true))

pub returns : goal.returns
returns c = c.probe.ensures ∙ searched_index _ _ _ (eqb-false _ _ (sym c.is_empty.ensures ∙ c.if-is_empty.false))
