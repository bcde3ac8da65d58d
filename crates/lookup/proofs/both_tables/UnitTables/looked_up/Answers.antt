-- `lookup::both_tables::UnitTables::looked_up` meets its contract: what is held, as it is handed back. Assumes nothing.
use mathlib.Core.Path.{sym, ap, ◌∙◌}
use Rattle.std.specs.Prelude.{Some}
use Rattle.index.specs.TheSortedIndex.{found_in}
use Rattle.lookup.specs.Searching.{both_searchable}
use Rattle.lookup.specs.Holding.{holder}
use Rattle.lookup.specs.Laws.BothTables.{handed_back}
use Rattle.lookup.proofs.both_tables.UnitTables.looked_up.Goals as goal

pub returns-in-Some-InLine : goal.returns-in-Some-InLine
unfolding found_in
returns-in-Some-InLine c = handed_back _ _ _ _ _ (both_searchable c.args.self.now.searchable) (sym (ap (λ x. holder (Some x)) c.in-Some-InLine.field-0-is) ∙ c.in-Some-InLine.ensures.held_value) c.held.ensures.compared_after

pub returns-in-Some-InHall : goal.returns-in-Some-InHall
unfolding found_in
returns-in-Some-InHall c = handed_back _ _ _ _ _ (both_searchable c.args.self.now.searchable) (sym (ap (λ x. holder (Some x)) c.in-Some-InHall.field-0-is) ∙ c.in-Some-InHall.ensures.held_value) c.held.ensures.compared_after

pub returns-in-None : goal.returns-in-None
unfolding found_in
returns-in-None c = handed_back _ _ _ _ _ (both_searchable c.args.self.now.searchable) c.in-None.ensures.held_value c.held.ensures.compared_after
