-- Which refusal comes first before an index is made and before a row is replaced; and what holds where none comes. Assumes nothing.
use Rattle.std.specs.Prelude.{◌≡◌, Bool, List, ℕ, ◌≤◌, ◌<◌, eqb, ltb, length}
use borrow.Author.Tests.{eq-eqb, ne_eqb, eqb-true, lt-ltb, le-ltb, ltb-true}
use Rattle.rules.specs.declared.Settings.{Settings}
use Rattle.rules.specs.declared.Refusal.{Refusal}
use Rattle.rules.specs.declared.Refusal.TheVariants.{TableSize, BadRow, WrongIndex, Beyond}
use Rattle.rules.specs.NumbersHandedBack.{got, refused, ◌>>◌, unless}
use Rattle.rules.specs.SettingsAndUnitTable.{settings_check, row_size, rows, table_check}
use Rattle.rules.proofs.Laws.Choices.{and_left, and_right}
use Rattle.rules.proofs.Laws.Outcomes.{passed, passed_both, unless_got}
use Rattle.card.specs.Laws.Accepted.{units_good}
use Rattle.index.specs.TheSortedIndex.{table_right, making, checking, with_row, may_replace, replacing}
use Rattle.index.specs.Laws.Right.{Own, Right}
use Rattle.index.proofs.Laws.Right.{index_accepts}
use Rattle.sorted.specs.Replacing.{passes_got, units_own}

-- the names of an accepted table are different
pub table_own : (s : Settings) (table : List ℕ) → table_check s table ≡ got tt → Own table
unfolding table_check
table_own s table good = units_own s table (units_good TableSize BadRow s table good)

-- ---- an index made

module _ (s : Settings) (table index : List ℕ) where
  pub make_refused : {cause : Refusal} → table_right s table ≡ refused cause → refused cause ≡ making s table index
  unfolding making ◌>>◌
  make_refused e = rw e

  module _ (good : table_right s table ≡ got tt) where
    pub make_long : (length index ≡ rows table → ⊥) → refused (WrongIndex (rows table)) ≡ making s table index
    unfolding making unless ◌>>◌
    make_long h = rw (good, ne_eqb _ _ h)

    pub make_allowed : length index ≡ rows table → got tt ≡ making s table index
    unfolding making unless ◌>>◌
    make_allowed h = rw (good, eq-eqb _ _ h)

  -- what then holds
  pub making_holds : making s table index ≡ got tt → (table_check s table ≡ got tt) × (length index ≡ rows table)
  unfolding making table_right
  making_holds e =
      let (right, sized) = passed_both (table_right s table) _ e in
      ((passed_both (settings_check s) _ right).1, eqb-true _ _ (unless_got (WrongIndex (rows table)) _ sized))

-- ---- a row replaced

module _ (s : Settings) (table index : List ℕ) (i : ℕ) (new : List ℕ) where
  pub replace_refused : {cause : Refusal} → checking s table index ≡ refused cause → refused cause ≡ replacing s table index i new
  unfolding replacing ◌>>◌
  replace_refused e = rw e

  module _ (good : checking s table index ≡ got tt) where
    pub replace_beyond : rows table ≤ i → refused (Beyond i) ≡ replacing s table index i new
    unfolding replacing unless ◌>>◌
    replace_beyond h = rw (good, le-ltb i (rows table) h)

    pub replace_decides : i < rows table → {fits : Bool} → fits ≡ may_replace s table i new → unless (BadRow i) fits ≡ replacing s table index i new
    unfolding replacing unless ◌>>◌
    replace_decides h e = rw (good, lt-ltb i (rows table) h, ← e)

    -- the settings and the table were accepted
    pub checked_table : (settings_check s ≡ got tt) × (table_check s table ≡ got tt)
    unfolding checking table_right
    checked_table = passed_both (settings_check s) _ (passed_both (table_right s table) _ good).0

  -- what then holds
  pub replacing_holds :
      replacing s table index i new ≡ got tt
      → (i < rows table) × (length new ≡ row_size) × Right table index × (table_check s (with_row table i new) ≡ got tt)
  unfolding replacing checking may_replace
  replacing_holds e =
      let (first, rest) = passed_both (checking s table index) _ e in
      let (within, row) = passed (Beyond i) (ltb i (rows table)) _ rest in
      let fits = unless_got (BadRow i) _ row in (
        ltb-true i (rows table) within,
        eqb-true (length new) row_size (and_left (eqb (length new) row_size) _ fits),
        (index_accepts WrongIndex table index).0 (passed_both (table_right s table) _ first).1,
        passes_got (and_right (eqb (length new) row_size) _ fits),
      )
