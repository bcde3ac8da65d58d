-- Laws of the lookups: which search an index that is empty or right leads to, and what is handed back. Assumes nothing.
use Rattle.std.specs.Prelude.{◌≡◌, refl, List, [], ◌∷◌, ℕ}
use Rattle.std.proofs.Common.{sym, inl, inr}
use Rattle.rules.specs.declared.Refusal.{Refusal}
use Rattle.rules.specs.NumbersHandedBack.{got, refused}
use Rattle.rules.specs.SettingsAndUnitTable.{rows, Card, card_check}
use Rattle.card.specs.Laws.Accepted.{card_hall, card_line, row_padded}
use Rattle.index.specs.TheSortedIndex.{row_search, row_search_from, index_search, index_search_from, Indexed, indexed_check, looked_up, lookup_answer, indexed_lookup_answer}
use Rattle.index.specs.Laws.Right.{Right}
use Rattle.lookup.specs.Searching.{Searchable, searched}
use Rattle.sorted.specs.Indexed.{card_good, hall_right, line_right}

-- ---- which search is made

-- a right index leads to the search through it also where it is empty: then there are no rows, and neither search compares a name
none_compared : (table wanted : List ℕ) → rows table ≡ 0 → row_search table wanted ≡ index_search table [] wanted
unfolding row_search row_search_from index_search index_search_from
none_compared table wanted e = rw e

pub searched_right : (table index wanted : List ℕ) → Right table index → searched table index wanted ≡ index_search table index wanted
unfolding searched
searched_right table [] wanted right = none_compared table wanted (sym right.long)
searched_right table (k ∷ index) wanted right = refl

-- ---- the lookups

module _ (card : Card) where
  module _ (wanted : List ℕ) where
    pub lookup_refused :
        {cause : Refusal} → card_check card ≡ refused cause
        → looked_up (refused cause) (row_search card.line wanted) (row_search card.hall wanted) ≡ lookup_answer card wanted
    unfolding lookup_answer
    lookup_refused e = rw e

    pub lookup_passed :
        card_check card ≡ got tt → looked_up (got tt) (searched card.line [] wanted) (searched card.hall [] wanted) ≡ lookup_answer card wanted
    unfolding lookup_answer searched
    lookup_passed e = rw e

  -- without indexes
  pub rows_searchable : card_check card ≡ got tt → Searchable card.hall [] × Searchable card.line []
  rows_searchable good = (
    record { rooms = row_padded card.settings card.hall (card_hall card good); beside = inl refl },
    record { rooms = row_padded card.settings card.line (card_line card good); beside = inl refl },
  )

module _ (c : Indexed) where
  module _ (wanted : List ℕ) where
    pub indexed_lookup_refused :
        {cause : Refusal} → indexed_check c ≡ refused cause
        → looked_up (refused cause) (index_search c.card.line c.line_index wanted) (index_search c.card.hall c.hall_index wanted)
        ≡ indexed_lookup_answer c wanted
    unfolding indexed_lookup_answer
    indexed_lookup_refused e = rw e

    pub indexed_lookup_passed :
        indexed_check c ≡ got tt
        → looked_up (got tt) (searched c.card.line c.line_index wanted) (searched c.card.hall c.hall_index wanted)
        ≡ indexed_lookup_answer c wanted
    unfolding indexed_lookup_answer
    indexed_lookup_passed good =
        rw (good, searched_right c.card.line c.line_index wanted (line_right c good), searched_right c.card.hall c.hall_index wanted (hall_right c good))

  pub both_searchable : indexed_check c ≡ got tt → Searchable c.card.hall c.hall_index × Searchable c.card.line c.line_index
  both_searchable good = (
    record { rooms = row_padded c.card.settings c.card.hall (card_hall c.card (card_good c good)); beside = inr (hall_right c good) },
    record { rooms = row_padded c.card.settings c.card.line (card_line c.card (card_good c good)); beside = inr (line_right c good) },
  )
