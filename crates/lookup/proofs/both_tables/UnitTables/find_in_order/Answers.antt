-- `lookup::both_tables::UnitTables::find_in_order` meets its contract: the line's row if there is one, else the hall's. Assumes nothing.
use mathlib.Core.Path.{◌≡◌, sym, ap, ap₂, ◌∙◌}
use Prim.Native.Nat.{◌+◌}
use native.Mathlib.Omega.{arith}
use Rattle.rules.specs.SettingsAndUnitTable.{lookup}
use Rattle.rows.specs.Laws.Lookup.{lookup_found, line_wins, hall_behind}
use Rattle.index.specs.declared.Searched.{Searched}
use Rattle.index.specs.TheSortedIndex.{row_search}
use Rattle.index.proofs.Laws.Searches.{row_search_finds, row_search_most}
use Rattle.lookup.specs.Laws.BothTables.{rows_few, compared_line, compared_both}
use Rattle.lookup.proofs.both_tables.UnitTables.find_in_order.Goals as goal
use Rattle.lookup.proofs.both_tables.UnitTables.find_in_order.Goals.{After-find-in_line}

-- what was found in the line's table is what the lookup finds there
in_line :
    (c : After-find-in_line)
    → let args = c.args in
    (c.find-in_line.result.found ≡ lookup args.self.now.line.now args.name.now) × (c.find-in_line.result.compared ≡ (row_search args.self.now.line.now args.name.now).compared)
in_line c = (ap (λ (s : Searched). s.found) c.find-in_line.ensures ∙ row_search_finds _ _, ap (λ (s : Searched). s.compared) c.find-in_line.ensures)

pub row_at-requires : goal.row_at-requires
row_at-requires c = (lookup_found _ _ _ (sym (in_line (goal.at.row_at-requires c).After-find-in_line).0 ∙ c.in-Some.is)).0

pub overflow_add-compared : goal.overflow_add-compared
overflow_add-compared c =
    omega (
      arith,
      (in_line (goal.at.overflow_add-compared c).After-find-in_line).1,
      c.row_named-row.ensures.compared_after,
      rows_few _ (row_search_most c.args.self.now.line.now c.args.name.now),
      rows_few _ (row_search_most c.args.self.now.hall.now c.args.name.now),
    )

pub returns-in-Some : goal.returns-in-Some
returns-in-Some c = let it = c.in-Some.is in record { result_value = c.row_at.ensures ∙ line_wins _ _ _ (sym (in_line (goal.at.returns-in-Some c).After-find-in_line).0 ∙ it); compared_after = (in_line (goal.at.returns-in-Some c).After-find-in_line).1 ∙ compared_line _ _ (sym (ap (λ (s : Searched). s.found) c.find-in_line.ensures) ∙ it) }

pub returns-in-None : goal.returns-in-None
returns-in-None c =
    let none = c.in-None.is in record {
      result_value = c.row_named-row.ensures.result_value ∙ hall_behind _ _ _ (sym (in_line (goal.at.returns-in-None c).After-find-in_line).0 ∙ none);
      compared_after = ap₂ ◌+◌ (in_line (goal.at.returns-in-None c).After-find-in_line).1 c.row_named-row.ensures.compared_after
          ∙ compared_both _ _ (sym (ap (λ (s : Searched). s.found) c.find-in_line.ensures) ∙ none);
    }
