-- Where a row stands that nothing hides; and of a table by itself nothing is hidden. Assumes nothing.
use Rattle.std.specs.Prelude.{◌≡◌, List, ℕ, Some}
use Rattle.rules.specs.SettingsAndUnitTable.{rows_in, Card, lookup_from_in, lookup, lookup_in, line_first, stands}
use Rattle.findable.specs.OneOfTheTwoTables.{Whose, OfHall, OfLine, table_of, row_in, Unhidden, Alone}

-- it is found where it stands
pub stands_there : (whose : Whose) (card : Card) (wanted : List ℕ) (i : ℕ) → Unhidden whose card wanted → lookup (table_of whose card) wanted ≡ Some i → stands card.hall card.line wanted ≡ row_in whose i
unfolding stands line_first
stands_there OfHall card wanted i before at = rw (before, at)
stands_there OfLine card wanted i before at = rw at

pub alone_unhidden : (whose : Whose) (card : Card) → Alone whose card → (wanted : List ℕ) → Unhidden whose card wanted
unfolding lookup_in lookup_from_in rows_in
alone_unhidden OfHall card empty wanted = rw empty
alone_unhidden OfLine card empty wanted = tt
