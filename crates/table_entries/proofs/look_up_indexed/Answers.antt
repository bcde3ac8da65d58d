-- `table_entries::look_up_indexed` meets its contract: 7 and 23, and then both searches. Assumes nothing.
use mathlib.Core.Path.{◌≡◌, sym, ◌∙◌}
use mathlib.Core.List.{[]}
use Rattle.rules.specs.NumbersHandedBack.{got}
use Rattle.index.specs.TheSortedIndex.{Indexed, indexed_of, indexed_check}
use Rattle.table_entries.specs.Lookups.{both_searchable, indexed_lookup_refused, indexed_lookup_passed}
use Rattle.table_entries.proofs.look_up_indexed.Goals as goal
use Rattle.table_entries.proofs.look_up_indexed.Goals.{In-Ok, Start}

abbrev card : Start → Indexed
card c = indexed_of c.args.settings.now c.args.hall.now c.args.hall_index.now c.args.line.now c.args.line_index.now []

-- what is checked was accepted
good : (c : In-Ok) → indexed_check (indexed_of c.args.settings.now c.args.hall.now c.args.hall_index.now c.args.line.now c.args.line_index.now []) ≡ got tt
good c = sym c.indexed_check.ensures ∙ c.in-Ok.is

pub returns-in-Err : goal.returns-in-Err
returns-in-Err c =
    c.not_looked_up.ensures _ _
    ∙ indexed_lookup_refused _ _ (sym c.indexed_check.ensures ∙ c.in-Err.is)

pub returns-in-Ok : goal.returns-in-Ok
returns-in-Ok c = c.looked_up.ensures ∙ indexed_lookup_passed _ _ (good (goal.at.returns-in-Ok c).In-Ok)

pub invariant_of-indexed : goal.invariant_of-indexed
invariant_of-indexed c = let x = both_searchable _ (good (goal.at.invariant_of-indexed c).In-Ok) in record { searchable = ∣ x ∣₁ }
