-- `lookup::both_tables::UnitTables::held` meets its contract: the line's row if there is one, else the hall's, and the names of both counted. Assumes nothing.
use mathlib.Core.Path.{sym, ap, ap₂, ◌∙◌}
use Prim.Native.Nat.{◌+◌}
use native.Mathlib.Omega.{arith}
use Rattle.index.specs.declared.Searched.{Searched}
use Rattle.lookup.specs.Searching.{both_searchable}
use Rattle.lookup.specs.Laws.BothTables.{searched_few, stands_in_line, stands_behind, held_in_hall, compared_line, compared_both}
use Rattle.lookup.proofs.both_tables.UnitTables.held.Goals as goal

pub search-in_line-requires : goal.search-in_line-requires
search-in_line-requires c = ((both_searchable c.args.self.now.searchable).1, c.requires)

pub search-in_hall-requires : goal.search-in_hall-requires
search-in_hall-requires c = ((both_searchable c.args.self.now.searchable).0, c.requires)

pub overflow_add-compared : goal.overflow_add-compared
overflow_add-compared c =
    omega (arith, searched_few _ _ _ c.search-in_line.ensures, searched_few _ _ _ c.search-in_hall.ensures)

pub returns-in-Some : goal.returns-in-Some
returns-in-Some c =
    let found = sym (ap (λ (s : Searched). s.found) c.search-in_line.ensures) ∙ c.in-Some.is in
    record {
      held_value = stands_in_line _ _ _ _ _ (both_searchable c.args.self.now.searchable) found;
      compared_after = ap (λ (s : Searched). s.compared) c.search-in_line.ensures ∙ compared_line _ _ found;
    }

pub returns-in-None : goal.returns-in-None
returns-in-None c =
    let nowhere = sym (ap (λ (s : Searched). s.found) c.search-in_line.ensures) ∙ c.in-None.is in
    record {
      held_value =
          held_in_hall _ _ c.map.ensures.cases
          ∙ rw c.search-in_hall.ensures (stands_behind _ _ _ _ _ (both_searchable c.args.self.now.searchable) nowhere);
      compared_after = ap₂ (λ (s t : Searched). s.compared + t.compared) c.search-in_line.ensures c.search-in_hall.ensures ∙ compared_both _ _ nowhere;
    }
