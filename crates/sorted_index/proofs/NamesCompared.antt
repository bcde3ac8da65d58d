-- Both searches over the two tables of an accepted card with accepted indexes: what they find, and how many names they compare. Assumes nothing.
use Rattle.std.specs.Prelude.{◌≡◌, List, ℕ, ◌≤◌, Option, Some, None}
use native.Mathlib.Omega.{arith}
use Rattle.rules.specs.declared.Refusal.TheVariants.{WrongIndex, WrongLineIndex}
use Rattle.rules.specs.NumbersHandedBack.{got}
use Rattle.rules.specs.SettingsAndUnitTable.{stands, card_check}
use Rattle.rules.proofs.Laws.Outcomes.{passed_both}
use Rattle.card.specs.Laws.Accepted.{card_hall, card_line}
use Rattle.index.specs.TheSortedIndex.{index_check, row_search, index_search, behind, compared_in_both, Indexed, indexed_check, found_in, looked_up, lookup_answer, indexed_lookup_answer}
use Rattle.index.proofs.Laws.Right.{index_accepts}
use Rattle.index.proofs.Laws.Searches.{row_search_finds, index_search_finds}
use Rattle.sorted_index.specs.NamesCompared.{at_most_seven}

-- ---- both tables: the two lookups of an accepted card with accepted indexes find the same, each with its own count

behind_most : (f : Option ℕ) (n : ℕ) → behind f n ≤ n
unfolding behind
behind_most (Some i) n = omega arith
behind_most None n = omega arith

module _ (c : Indexed) (wanted : List ℕ) (good : indexed_check c ≡ got tt) where
  card_good : card_check c.card ≡ got tt
  unfolding indexed_check
  card_good = (passed_both (card_check c.card) _ good).0

  indexes_good : (index_check WrongIndex c.card.hall c.hall_index ≡ got tt) × (index_check WrongLineIndex c.card.line c.line_index ≡ got tt)
  unfolding indexed_check
  indexes_good = passed_both (index_check WrongIndex c.card.hall c.hall_index) _ (passed_both (card_check c.card) _ good).1

  pub counted_one_by_one :
      lookup_answer c.card wanted
      ≡ found_in (stands c.card.hall c.card.line wanted) (compared_in_both (row_search c.card.line wanted) (row_search c.card.hall wanted))
  unfolding lookup_answer looked_up stands
  counted_one_by_one = rw (card_good, row_search_finds c.card.line wanted, row_search_finds c.card.hall wanted)

  pub counted_by_index :
      indexed_lookup_answer c wanted
      ≡ found_in (stands c.card.hall c.card.line wanted)
      (compared_in_both (index_search c.card.line c.line_index wanted) (index_search c.card.hall c.hall_index wanted))
  unfolding indexed_lookup_answer looked_up stands
  counted_by_index =
      rw (
        good,
        index_search_finds c.card.line c.line_index wanted ((index_accepts WrongLineIndex c.card.line c.line_index).0 indexes_good.1),
        index_search_finds c.card.hall c.hall_index wanted ((index_accepts WrongIndex c.card.hall c.hall_index).0 indexes_good.0),
      )

  -- at most fourteen names in two tables of 64 rows
  pub at_most_fourteen : compared_in_both (index_search c.card.line c.line_index wanted) (index_search c.card.hall c.hall_index wanted) ≤ 14
  unfolding compared_in_both
  at_most_fourteen =
      omega (
        arith,
        at_most_seven c.card.line c.line_index wanted (card_line c.card card_good).most,
        at_most_seven c.card.hall c.hall_index wanted (card_hall c.card card_good).most,
        behind_most (index_search c.card.line c.line_index wanted).found (index_search c.card.hall c.hall_index wanted).compared,
      )
