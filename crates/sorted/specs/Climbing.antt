-- Names that rise from entry to entry rise along the index; and what a table and an index told right are. Assumes nothing.
use Rattle.std.specs.Prelude.{◌≡◌, refl, Bool, true, false, List, ℕ, zero, suc, ◌+◌, ◌-◌, ◌%◌, ◌≤◌, ◌<◌, eqb, leb, length}
use Rattle.std.proofs.Common.{sym, ◌∙◌, arith, below_more, eqb-true, leb-true}
use Rattle.std.proofs.lemmas.Bool.{eqb-false}
use Rattle.rules.specs.declared.Settings.{Settings}
use Rattle.rules.specs.declared.Refusal.{Refusal}
use Rattle.rules.specs.declared.Refusal.TheVariants.{TableSize, BadRow}
use Rattle.rules.specs.NumbersHandedBack.{got}
use Rattle.rules.proofs.Laws.Choices.{and_left, and_right}
use Rattle.rules.specs.SettingsAndUnitTable.{most_rows, row_size, rows, row, name, named, named_in, whole_rows_in, row_accepted}
use Rattle.rules.proofs.Laws.Outcomes.{passed}
use Rattle.rules.proofs.Laws.RowsCheck.{rows_good}
use Rattle.rows.specs.Laws.Lookup.{not_same}
use Rattle.card.specs.declared.row.RowRule.{RowRule}
use Rattle.card.specs.Fields.{alone, ruled, tested, tabled}
use Rattle.card.specs.Laws.Table.{ruled_alone}
use Rattle.card.specs.Laws.Accepted.{UnitsGood}
use Rattle.index.specs.TheSortedIndex.{before}
use Rattle.index.proofs.Laws.Order.{before_trans}
use Rattle.index.specs.Laws.Right.{entry, entry_name, Right, Rising, Own}
use Rattle.index.proofs.Laws.Right.{rising_own, rising_right, different}

-- the first k entries: numbers of rows, and names that rise
pub record Climbing (table index : List ℕ) (k : ℕ) : Type 0 where
  pub within : (j : ℕ) → j < k → entry index j < length index
  pub rises : (i j : ℕ) → i < j → j < k → before (entry_name table index i) (entry_name table index j) ≡ true

pub climb_none : (table index : List ℕ) → Climbing table index 0
climb_none table index = record { within = λ j below. absurd (omega arith); rises = λ i j less below. absurd (omega arith) }

pub climb_first : (table index : List ℕ) → entry index 0 < length index → Climbing table index 1
climb_first table index h = record {
  within = λ j below. let first : 0 ≡ j = omega arith in rw (← first) h;
  rises = λ i j less below. absurd (omega arith);
}

-- one entry more, above the last
pub climb_on :
    (table index : List ℕ) (k : ℕ) → 1 ≤ k → Climbing table index k → entry index k < length index
    → before (entry_name table index (k - 1)) (entry_name table index k) ≡ true
    → Climbing table index (k + 1)
climb_on table index k some climbing below higher = record {
  within = below_more (λ j. entry index j < length index) k climbing.within below;
  rises = λ i j less within.
      below_more (λ j. i < j → before (entry_name table index i) (entry_name table index j) ≡ true) k
      (λ j under less. climbing.rises i j less under)
      (λ less. last i less (eqb i (k - 1)) refl)
      j
      within
      less;
}
  where
    last : (i : ℕ) → i < k → (t : Bool) → eqb i (k - 1) ≡ t → before (entry_name table index i) (entry_name table index k) ≡ true
    last i less true e = rw (eqb-true i (k - 1) e) higher
    last i less false e =
        before_trans _ _ _ (climbing.rises i (k - 1) (omega (arith, eqb-false i (k - 1) e)) (omega arith)) higher

pub climbed : (table index : List ℕ) {k : ℕ} → length index ≤ k → Climbing table index k → Rising table index
climbed table index all climbing =
    record { within = λ j below. climbing.within j (omega arith); rises = λ i j less below. climbing.rises i j less (omega arith) }

-- ---- a table told right

-- no row has the name
pub unnamed_below : (table wanted : List ℕ) (n : ℕ) → ((j : ℕ) → j < n → name (row table j) ≡ wanted → ⊥) → named table wanted n ≡ false
unfolding named_in
unnamed_below table wanted zero none = refl
unnamed_below table wanted (suc n) none =
    rw (not_same (name (row table n)) wanted (none n (omega arith)), unnamed_below table wanted n (λ j below. none j (omega arith)))

-- where each name finds its own row, a row that passes by itself passes
pub own_ruled : (rule : RowRule) (table : List ℕ) → Own table → (i : ℕ) → i < rows table → alone rule (row table i) ≡ true → ruled rule table i ≡ true
own_ruled rule table own i below good =
    rw (
      ruled_alone rule table i,
      good,
      unnamed_below table (name (row table i)) i (λ j less e. omega (arith, different table own j i (omega arith) below e)),
    )

-- what the rows by themselves were found to be
pub each_alone :
    (rule : RowRule) (table : List ℕ)
    → ((size : Refusal) (bad : ℕ → Refusal) → got tt ≡ tabled size most_rows (tested rule false table) bad table)
    → (length table % row_size ≡ 0) × (rows table ≤ most_rows) × ((i : ℕ) → i < rows table → alone rule (row table i) ≡ true)
unfolding whole_rows_in
each_alone rule table found =
    let (sized, each) = passed TableSize _ _ (sym (found TableSize BadRow)) in
    let whole : Bool = eqb (length table % row_size) 0 in (
      eqb-true (length table % row_size) 0 (and_left whole (leb (rows table) most_rows) sized),
      leb-true (rows table) most_rows (and_right whole (leb (rows table) most_rows) sized),
      λ i below. rows_good _ _ (rows table) i each below,
    )

-- each row by itself, and names that rise along an index as long as the table
pub told_good :
    (rule : RowRule) (s : Settings) (table index : List ℕ)
    → ((i : ℕ) → ruled rule table i ≡ row_accepted s table i)
    → (length table % row_size ≡ 0) × (rows table ≤ most_rows) × ((i : ℕ) → i < rows table → alone rule (row table i) ≡ true)
    → length index ≡ rows table
    → Rising table index
    → UnitsGood s table × Right table index
told_good rule s table index ruling (whole, few, each) long rising = (
  record { whole = whole; most = few; each = λ i below. sym (ruling i) ∙ own_ruled rule table (rising_own table index long rising) i below (each i below) },
  rising_right table index long rising,
)
