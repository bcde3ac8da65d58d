-- What is made is what is accepted, and nothing else is; and after a row is replaced the index is accepted. Assumes nothing.
use Rattle.std.specs.Prelude.{◌≡◌, refl, List, ◌↔◌, ℕ, eqb, ltb, length}
use borrow.Author.Tests.{eq-eqb}
use Rattle.rules.specs.declared.Settings.{Settings}
use Rattle.rules.specs.declared.Refusal.{Refusal}
use Rattle.rules.specs.declared.Refusal.TheVariants.{TableSize, BadRow, WrongIndex, Beyond}
use Rattle.rules.specs.NumbersHandedBack.{got, refused, ◌>>◌, unless}
use Rattle.rules.specs.SettingsAndUnitTable.{settings_check, row_size, rows, table_check}
use Rattle.rules.proofs.Laws.Choices.{and_right}
use Rattle.rules.proofs.Laws.Outcomes.{passed, passed_both, unless_got}
use Rattle.card.specs.Laws.Accepted.{units_good}
use Rattle.index.specs.TheSortedIndex.{index_of, lent_after, table_right, making, made_index, checking, with_row, may_replace, replacing, replaced_table, replaced_index}
use Rattle.index.specs.Laws.Right.{Own}
use Rattle.index.proofs.Laws.Right.{index_accepts, index_of_right, right_only}
use Rattle.sorted.specs.Replacing.{passes_got, units_own}

-- ---- of a table that is accepted under accepted settings

table_own : (s : Settings) (table : List ℕ) → table_check s table ≡ got tt → Own table
unfolding table_check
table_own s table good = units_own s table (units_good TableSize BadRow s table good)

module _ (s : Settings) (table : List ℕ) (good : table_right s table ≡ got tt) where
  own : Own table
  unfolding table_right
  own = table_own s table (passed_both (settings_check s) _ good).1

  -- exactly one index is accepted
  pub accepted_exactly : (index : List ℕ) → (checking s table index ≡ got tt) ↔ (index ≡ index_of table)
  unfolding checking ◌>>◌
  accepted_exactly index = (there, back)
    where
      there : checking s table index ≡ got tt → index ≡ index_of table
      there e = right_only table own index ((index_accepts WrongIndex table index).0 (passed_both (table_right s table) _ e).1)

      back : index ≡ index_of table → checking s table index ≡ got tt
      back e = rw (good, e) ((index_accepts WrongIndex table (index_of table)).1 (index_of_right table own))

  -- and it is what is made, into an index of the right length whatever it held
  pub made_is : (index : List ℕ) → length index ≡ rows table → made_index s table index ≡ index_of table
  unfolding made_index making unless lent_after ◌>>◌
  made_is index long = rw (good, eq-eqb (length index) (rows table) long)

  pub made_accepted : (index : List ℕ) → length index ≡ rows table → checking s table (made_index s table index) ≡ got tt
  made_accepted index long = (accepted_exactly (made_index s table index)).1 (made_is index long)

-- ---- a row replaced

-- what passed: the old table and its index, and the table with the new row
replaceable :
    (s : Settings) (table index : List ℕ) (i : ℕ) (new : List ℕ)
    → replacing s table index i new ≡ got tt
    → (settings_check s ≡ got tt) × (table_check s (with_row table i new) ≡ got tt)
unfolding replacing checking table_right may_replace
replaceable s table index i new e =
    let (first, rest) = passed_both (checking s table index) _ e in
    let (right, entries) = passed_both (table_right s table) _ first in
    let (settings, old) = passed_both (settings_check s) _ right in
    let (within, row) = passed (Beyond i) (ltb i (rows table)) _ rest in
    (settings, passes_got (and_right (eqb (length new) row_size) _ (unless_got (BadRow i) _ row)))

-- after it table and index are accepted
pub replaced_accepted :
    (s : Settings) (table index : List ℕ) (i : ℕ) (new : List ℕ)
    → replacing s table index i new ≡ got tt
    → checking s (replaced_table s table index i new) (replaced_index s table index i new) ≡ got tt
unfolding replaced_table replaced_index lent_after table_right ◌>>◌
replaced_accepted s table index i new e =
    let (settings, then) = replaceable s table index i new e in
    let good : table_right s (with_row table i new) ≡ got tt = rw (settings, then) in
    rw e ((accepted_exactly s (with_row table i new) good (index_of (with_row table i new))).1 refl)

-- and where it is refused both are as they were
pub refused_keeps :
    (s : Settings) (table index : List ℕ) (i : ℕ) (new : List ℕ) {cause : Refusal}
    → replacing s table index i new ≡ refused cause
    → (replaced_table s table index i new ≡ table) × (replaced_index s table index i new ≡ index)
unfolding replaced_table replaced_index lent_after
refused_keeps s table index i new e = (rw e, rw e)
