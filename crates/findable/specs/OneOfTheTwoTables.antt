-- The two unit tables of a card: where a name stands, and each table by itself. Assumes nothing.
use Rattle.std.specs.Prelude.{◌≡◌, refl, true, List, [], ℕ, length, Option, Some, None}
use Rattle.std.proofs.Common.{ap, eq-eqb, eqb-true}
use Rattle.std.proofs.lemmas.Bool.{false≢true}
use Rattle.rules.specs.SettingsAndUnitTable.{row_size, row, name, Card, lookup, Holder, Line, Hall, Neither, line_first, stands, held_row}
use Rattle.rows.specs.Laws.Rows.{length_row}
use Rattle.rows.specs.Laws.Lookup.{lookup_found}
use Rattle.findable.specs.WhereAPartFindsItsUnit.{same_holder}

-- the row that stands there, of whichever table; nothing in neither
abbrev pub row_held : Card → Holder → List ℕ
row_held card at = held_row card.hall card.line at

-- ---- one of the two, said by whose it is

pub data Whose : Type 0 where
  OfHall : Whose
  OfLine : Whose

abbrev pub table_of : Whose → Card → List ℕ
table_of OfHall card = card.hall
table_of OfLine card = card.line

-- its row i, as a part finds it
abbrev pub row_in : Whose → ℕ → Holder
row_in OfHall i = Hall i
row_in OfLine i = Line i

pub held_there : (whose : Whose) (card : Card) (i : ℕ) → row_held card (row_in whose i) ≡ row (table_of whose card) i
unfolding held_row
held_there OfHall card i = refl
held_there OfLine card i = refl

-- a name of its rows that nothing hides: the line's rows win, so one of the hall's is hidden if the line has it
abbrev pub Unhidden : Whose → Card → List ℕ → Type 0
Unhidden OfHall card wanted = lookup card.line wanted ≡ None
Unhidden OfLine card wanted = Unit {0}

-- the table by itself: the other is empty, so that nothing is hidden
abbrev pub Alone : Whose → Card → Type 0
Alone OfHall card = card.line ≡ []
Alone OfLine card = card.hall ≡ []

-- ---- where a name stands, whatever the tables are

-- a row of either table that has the name, or none
pub data Stands (hall line wanted : List ℕ) : Holder → Type 0 where
  somewhere : {at : Holder} → length (held_row hall line at) ≡ row_size → name (held_row hall line at) ≡ wanted → Stands hall line wanted at
  nowhere : Stands hall line wanted Neither

pub where_it_stands : (hall line wanted : List ℕ) → Stands hall line wanted (stands hall line wanted)
unfolding stands line_first held_row
where_it_stands hall line wanted = go (lookup line wanted) refl (lookup hall wanted) refl
  where
    go : (f : Option ℕ) → lookup line wanted ≡ f → (g : Option ℕ) → lookup hall wanted ≡ g → Stands hall line wanted (line_first f g)
    go (Some i) at g behind = let (below, named) = lookup_found line wanted i at in somewhere {at = Line i} (length_row line i below) named
    go None at (Some i) behind = let (below, named) = lookup_found hall wanted i behind in somewhere {at = Hall i} (length_row hall i below) named
    go None at None behind = nowhere

-- ---- places that are the same

pub holder_same : (at : Holder) → same_holder at at ≡ true
unfolding same_holder
holder_same (Line i) = eq-eqb i i refl
holder_same (Hall i) = eq-eqb i i refl
holder_same Neither = refl

pub same_holders : (one at : Holder) → same_holder one at ≡ true → one ≡ at
unfolding same_holder
same_holders (Line k) (Line i) e = ap Line (eqb-true k i e)
same_holders (Line k) (Hall i) e = absurd (false≢true e)
same_holders (Line k) Neither e = absurd (false≢true e)
same_holders (Hall k) (Line i) e = absurd (false≢true e)
same_holders (Hall k) (Hall i) e = ap Hall (eqb-true k i e)
same_holders (Hall k) Neither e = absurd (false≢true e)
same_holders Neither (Line i) e = absurd (false≢true e)
same_holders Neither (Hall i) e = absurd (false≢true e)
same_holders Neither Neither e = refl
