-- `lookup::both_tables::UnitTables::find_row` meets its contract: without indexes the old search of both tables, else the row that is held. Assumes nothing.
use mathlib.Core.Path.{sym, ap, ap₂, ◌∙◌}
use Rattle.std.specs.Prelude.{Some}
use Rattle.std.proofs.lemmas.Bool.{eqb-true}
use Rattle.index.specs.TheSortedIndex.{compared_in_both}
use Rattle.lookup.specs.Holding.{holder}
use Rattle.lookup.specs.Laws.BothTables.{searched_rows, row_in_line, row_in_hall, no_row}
use Rattle.lookup.proofs.both_tables.UnitTables.find_row.Goals as goal

pub returns-then-is_empty-2 : goal.returns-then-is_empty-2
returns-then-is_empty-2 c = record { result_value = c.find_in_order.ensures.result_value; compared_after = c.find_in_order.ensures.compared_after ∙ ap₂ compared_in_both (searched_rows _ _ _ (eqb-true _ _ (sym c.is_empty-then-is_empty.ensures ∙ c.if-is_empty-2.true))) (searched_rows _ _ _ (eqb-true _ _ (sym c.is_empty.ensures ∙ c.if-is_empty.true))) }

pub row_at-requires : goal.row_at-requires
row_at-requires c = (row_in_line _ _ _ (sym (ap (λ x. holder (Some x)) c.in-Some-InLine.field-0-is) ∙ c.in-Some-InLine.ensures.held_value)).0

pub row_at-requires-in-Some-InHall : goal.row_at-requires-in-Some-InHall
row_at-requires-in-Some-InHall c = (row_in_hall _ _ _ (sym (ap (λ x. holder (Some x)) c.in-Some-InHall.field-0-is) ∙ c.in-Some-InHall.ensures.held_value)).0

pub returns-in-Some-InLine : goal.returns-in-Some-InLine
returns-in-Some-InLine c = record { result_value = c.row_at.ensures ∙ (row_in_line _ _ _ (sym (ap (λ x. holder (Some x)) c.in-Some-InLine.field-0-is) ∙ c.in-Some-InLine.ensures.held_value)).1; compared_after = c.held.ensures.compared_after }

pub returns-in-Some-InHall : goal.returns-in-Some-InHall
returns-in-Some-InHall c = record { result_value = c.row_at-in-Some-InHall.ensures ∙ (row_in_hall _ _ _ (sym (ap (λ x. holder (Some x)) c.in-Some-InHall.field-0-is) ∙ c.in-Some-InHall.ensures.held_value)).1; compared_after = c.held.ensures.compared_after }

pub returns-in-None : goal.returns-in-None
returns-in-None c = record { result_value = no_row _ _ _ c.in-None.ensures.held_value; compared_after = c.held.ensures.compared_after }
