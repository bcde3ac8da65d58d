-- `table_entries::look_up` meets its contract: 7, and then both searches. Assumes nothing.
use mathlib.Core.Path.{◌≡◌, sym, ◌∙◌}
use Rattle.rules.specs.NumbersHandedBack.{got}
use Rattle.rules.specs.SettingsAndUnitTable.{Card, card_check}
use Rattle.index.specs.TheSortedIndex.{units_of}
use Rattle.table_entries.specs.Lookups.{rows_searchable, lookup_refused, lookup_passed}
use Rattle.table_entries.proofs.look_up.Goals as goal
use Rattle.table_entries.proofs.look_up.Goals.{In-Ok, Start}

abbrev card : Start → Card
card c = units_of c.args.settings.now c.args.hall.now c.args.line.now

-- what is checked was accepted
good : (c : In-Ok) → card_check (units_of c.args.settings.now c.args.hall.now c.args.line.now) ≡ got tt
good c = sym c.card_check.ensures ∙ c.in-Ok.is

pub returns-in-Err : goal.returns-in-Err
returns-in-Err c =
    c.not_looked_up.ensures _ _
    ∙ lookup_refused _ _ (sym c.card_check.ensures ∙ c.in-Err.is)

pub returns-in-Ok : goal.returns-in-Ok
returns-in-Ok c = c.looked_up.ensures ∙ lookup_passed _ _ (good (goal.at.returns-in-Ok c).In-Ok)

pub invariant_of-row_by_row : goal.invariant_of-row_by_row
invariant_of-row_by_row c = let x = rows_searchable _ (good (goal.at.invariant_of-row_by_row c).In-Ok) in record { searchable = ∣ x ∣₁ }
