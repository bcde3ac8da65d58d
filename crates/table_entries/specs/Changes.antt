-- Laws of what is handed back and left behind when an index is made, checked, and changed with a row. Assumes nothing.
use Rattle.std.specs.Prelude.{◌≡◌, List, ℕ, ◌≤◌, ◌<◌, length}
use Rattle.std.proofs.Common.{ap, ◌∙◌}
use Rattle.rules.specs.declared.Settings.{Settings}
use Rattle.rules.specs.declared.Refusal.{Refusal}
use Rattle.rules.specs.ThePartOfTheCrateWeTake.{zero_length}
use Rattle.rules.specs.NumbersHandedBack.{Outcome, got, refused, done, refusal, answered}
use Rattle.rules.specs.SettingsAndUnitTable.{most_rows, row_size, rows}
use Rattle.index.specs.TheSortedIndex.{index_of, rows_answer, lent_after, checking, check_answer, making, make_answer, made_index, with_row, replacing, replace_answer, replaced_table, replaced_index}
use Rattle.index.specs.Laws.Right.{Own, Right}
use Rattle.sorted.specs.Checks.{table_few}
use Rattle.sorted.specs.Replacing.{with_rows}
use Rattle.sorted.specs.Allowed.{table_own, making_holds, replacing_holds}

-- ---- one table by itself: an answer is the refusal, or ends at the number of rows

module _ (table : List ℕ) {m : Outcome (Unit {0})} where
  pub rows_refused : {cause : Refusal} → m ≡ refused cause → refusal cause ≡ rows_answer table m
  unfolding rows_answer answered
  rows_refused e = rw e

  pub rows_passed : m ≡ got tt → done (rows table) zero_length ≡ rows_answer table m
  unfolding rows_answer answered
  rows_passed e = rw e

module _ (s : Settings) (table index : List ℕ) where
  pub check_refused : {cause : Refusal} → checking s table index ≡ refused cause → refusal cause ≡ check_answer s table index
  unfolding check_answer
  check_refused e = rows_refused table e

  pub check_passed : checking s table index ≡ got tt → done (rows table) zero_length ≡ check_answer s table index
  unfolding check_answer
  check_passed e = rows_passed table e

-- ---- made, and changed with a row

module _ (s : Settings) (table index : List ℕ) where
  pub make_refused : {cause : Refusal} → making s table index ≡ refused cause → (refusal cause ≡ make_answer s table index) × (index ≡ made_index s table index)
  unfolding make_answer made_index rows_answer lent_after answered
  make_refused e = (rw e, rw e)

  module _ (allowed : making s table index ≡ got tt) where
    pub made : (done (rows table) zero_length ≡ make_answer s table index) × (index_of table ≡ made_index s table index)
    unfolding make_answer made_index rows_answer lent_after answered
    made = (rw allowed, rw allowed)

    -- what making it asks
    pub make_asks : Own table × (length index ≡ rows table) × (rows table ≤ most_rows)
    make_asks = let (good, long) = making_holds s table index allowed in (table_own s table good, long, table_few s table good)

module _ (s : Settings) (table index : List ℕ) (i : ℕ) (new : List ℕ) where
  pub replace_kept :
      {cause : Refusal} → replacing s table index i new ≡ refused cause
      → (refusal cause ≡ replace_answer s table index i new) × (table ≡ replaced_table s table index i new) × (index ≡ replaced_index s table index i new)
  unfolding replace_answer replaced_table replaced_index rows_answer lent_after answered
  replace_kept e = (rw e, rw e, rw e)

  module _ (allowed : replacing s table index i new ≡ got tt) where
    pub replace_asks : ((i < rows table) × (length new ≡ row_size)) × (Right table index × Own (with_row table i new))
    replace_asks = let (below, sized, right, then) = replacing_holds s table index i new allowed in ((below, sized), (right, table_own s (with_row table i new) then))

    -- the new table has as many rows
    pub replaced :
        (done (rows (with_row table i new)) zero_length ≡ replace_answer s table index i new)
        × (with_row table i new ≡ replaced_table s table index i new)
        × (index_of (with_row table i new) ≡ replaced_index s table index i new)
    unfolding replace_answer replaced_table replaced_index rows_answer lent_after answered
    replaced =
        let asks = replace_asks.0 in
        (ap (λ n. done n zero_length) (with_rows table i new asks.0 asks.1) ∙ rw allowed, rw allowed, rw allowed)
