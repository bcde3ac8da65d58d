-- An index is right exactly if its entries are rows whose names rise; then no two rows have one name, and every row stands at an entry. Of a table
-- without two equal names exactly one index is right. Assumes nothing.
use Rattle.std.specs.Prelude.{◌≡◌, ◌↔◌, ltb, length, get_or, Option, Some, None}
use Rattle.std.proofs.Math.Path.{refl, ap}
use Rattle.std.proofs.Common.{sym, ◌∙◌, add-suc, suc-add, ext_get_or}
use Rattle.std.proofs.Math.Bool.{Bool, true, false, not, false≢true}
use mathlib.Core.List.{List}
use Prim.Native.Nat.{ℕ, zero, suc, ◌+◌, ◌-◌, ◌≤◌, ◌<◌}
use Rattle.std.proofs.Math.Nat.{add-zero, zero-add}
use native.Mathlib.Omega.{arith}
use Rattle.std.proofs.Math.Dec.{eqb}
use borrow.Author.Tests.{ltb-true, lt-ltb, eqb-true, eq-eqb}
use Rattle.rules.specs.declared.Refusal.{Refusal}
use Rattle.rules.specs.NumbersHandedBack.{got, ◌>>◌, unless}
use Rattle.rules.specs.SettingsAndUnitTable.{rows, row, name, lookup}
use Rattle.rules.proofs.Laws.Choices.{and_left, and_right, and_both, if_either}
use Rattle.rules.proofs.Laws.Outcomes.{passed}
use Rattle.rules.proofs.Laws.RowsCheck.{rows_good, rows_all}
use Rattle.rows.specs.Laws.Lookup.{lookup_found, lookup_nowhere}
use Rattle.std.specs.declared.cmp.Ordering.{Ordering}
use Rattle.std.specs.declared.cmp.Ordering.TheVariants.{Less, Equal, Greater}
use Rattle.index.specs.TheSortedIndex.{order, before, count, names_before, rank, entry_right, index_check, ranked_from, entries_from, index_of}
use Rattle.index.proofs.Laws.Order.{Compared, comes_before, is_same, comes_after, compared, never_before, before_trans}
use Rattle.index.proofs.Laws.Counts.{count_more, count_misses, count_both, Places, at_least, onto}
use Rattle.index.specs.Laws.Right.{entry, entry_name, Right, Rising, Own}

-- ---- what the check accepts

pub index_accepts : (wrong : ℕ → Refusal) (table index : List ℕ) → (index_check wrong table index ≡ got tt) ↔ Right table index
unfolding index_check unless ◌>>◌
index_accepts wrong table index = (there, back)
  where
    there : index_check wrong table index ≡ got tt → Right table index
    there good =
        let (sized, each) = passed (wrong (rows table)) (eqb (length index) (rows table)) _ good in
        record { long = eqb-true (length index) (rows table) sized; each = λ k below. rows_good _ _ (rows table) k each below }

    back : Right table index → index_check wrong table index ≡ got tt
    back right = rw (eq-eqb _ _ right.long) (rows_all _ _ (rows table) right.each)

-- ---- ranks

module _ (table : List ℕ) where
  not_before_itself : (a : List ℕ) → before a a ≡ false
  not_before_itself a = go (before a a) refl
    where
      go : (t : Bool) → before a a ≡ t → t ≡ false
      go true e = absurd (never_before a e)
      go false e = refl

  -- a name that comes first has fewer before it
  rank_less : (i j : ℕ) → i < rows table → before (name (row table i)) (name (row table j)) ≡ true → rank table i < rank table j
  unfolding rank names_before
  rank_less i j below e =
      count_more _ _ (rows table) i below (λ r less first. before_trans _ _ _ first e) (not_before_itself (name (row table i))) e

  rank_below : (i : ℕ) → i < rows table → rank table i < rows table
  unfolding rank names_before
  rank_below i below = count_misses _ (rows table) i below (not_before_itself (name (row table i)))

  module _ (index : List ℕ) where
    -- ---- from right to rising

    module _ (right : Right table index) where
      pub right_within : (k : ℕ) → k < rows table → entry index k < rows table
      unfolding entry_right
      right_within k below = ltb-true _ _ (and_left (ltb (entry index k) (rows table)) _ (right.each k below))

      right_rank : (k : ℕ) → k < rows table → rank table (entry index k) ≡ k
      unfolding entry_right
      right_rank k below = eqb-true _ _ (and_right (ltb (entry index k) (rows table)) _ (right.each k below))

      pub right_rising : Rising table index
      unfolding rank
      right_rising = record {
        within = λ k below. omega (arith, right.long, right_within k (omega (arith, right.long)));
        rises = λ j k less below. by j k less (omega (arith, right.long)) (order (entry_name table index j) (entry_name table index k)) (compared _ _);
      }
        where
          by :
              (j k : ℕ) → j < k → k < rows table
              → (o : Ordering) → Compared (entry_name table index j) (entry_name table index k) o
              → before (entry_name table index j) (entry_name table index k) ≡ true
          by j k less below Less (comes_before e) = e
          by j k less below Equal (is_same e) =
              absurd (omega (arith, right_rank j (omega arith), right_rank k below, ap (names_before table) e))
          by j k less below Greater (comes_after e) =
              absurd (omega (arith, right_rank j (omega arith), right_rank k below, rank_less (entry index k) (entry index j) (right_within k below) e))

    -- ---- from rising to right

    module _ (long : length index ≡ rows table) (rising : Rising table index) where
      rising_places : Places (entry index) (rows table) (rows table)
      rising_places = record {
        below = λ k less. omega (arith, long, rising.within k (omega (arith, long)));
        apart = λ j k less below e. never_before _ (rw e at (rising.rises j k less (omega (arith, long))));
      }

      -- every row stands at an entry
      pub stands_at : (i : ℕ) → i < rows table → (k : ℕ) × (k < rows table) × (entry index k ≡ i)
      stands_at = onto (entry index) (rows table) rising_places

      -- so rows with one name are one row
      pub rising_own : Own table
      rising_own i below = go (lookup table (name (row table i))) refl
        where
          apart : (j k : ℕ) → j < k → k < rows table → entry_name table index j ≡ entry_name table index k → ⊥
          apart j k less within e = never_before _ (rw e at (rising.rises j k less (omega (arith, long))))

          one : (j : ℕ) → j < rows table → name (row table j) ≡ name (row table i) → j ≡ i
          one j within e =
              let (a, at, is_j) = stands_at j within in
              let (b, bt, is_i) = stands_at i below in
              let same_name : entry_name table index a ≡ entry_name table index b = rw (is_j, is_i) e in
              let not_less : a < b → ⊥ = λ less. apart a b less bt same_name in
              let not_more : b < a → ⊥ = λ less. apart b a less at (sym same_name) in
              let alike : a ≡ b = omega arith in
              sym is_j ∙ ap (entry index) alike ∙ is_i

          go : (f : Option ℕ) → lookup table (name (row table i)) ≡ f → f ≡ Some i
          go (Some j) e = let (within, same_name) = lookup_found table (name (row table i)) j e in ap Some (one j within same_name)
          go None e = absurd (lookup_nowhere table (name (row table i)) e i below refl)

      -- entry k has the k rows before it, and none of the others, in front
      rising_rank : (k : ℕ) → k < rows table → rank table (entry index k) ≡ k
      unfolding rank names_before
      rising_rank k below =
          let wanted : List ℕ = entry_name table index k in
          let test : ℕ → Bool = λ i. before (name (row table i)) wanted in
          let some : k ≤ count test (rows table) =
          at_least test (rows table) k (entry index)
          (record { below = λ j less. rising_places.below j (omega arith); apart = λ i j less within. rising_places.apart i j less (omega arith) })
          (λ j less. rising.rises j k less (omega (arith, long)))
          in
          let others : rows table - k ≤ count (λ i. not (test i)) (rows table) =
          at_least (λ i. not (test i)) (rows table) (rows table - k) (λ j. entry index (k + j))
          (record { below = λ j less. rising_places.below (k + j) (omega arith); apart = λ i j less within. rising_places.apart (k + i) (k + j) (omega arith) (omega arith) })
          (λ j less. ap not (behind j (omega arith)))
          in
          omega (arith, count_both test (rows table))
        where
          behind : (j : ℕ) → k + j < rows table → before (entry_name table index (k + j)) (entry_name table index k) ≡ false
          behind zero within = rw (add-zero k) (not_before_itself (entry_name table index k))
          behind (suc j) within = go (before (entry_name table index (k + suc j)) (entry_name table index k)) refl
            where
              go : (t : Bool) → before (entry_name table index (k + suc j)) (entry_name table index k) ≡ t → t ≡ false
              go true e = absurd (never_before _ (before_trans _ _ _ e (rising.rises k (k + suc j) (omega arith) (omega (arith, long)))))
              go false e = refl

      pub rising_right : Right table index
      unfolding entry_right
      rising_right = record {
        long = long;
        each = λ k below. and_both (lt-ltb _ _ (rising_places.below k below)) (eq-eqb _ _ (rising_rank k below));
      }

  -- ---- the one right index of a table without two equal names

  module _ (own : Own table) where
    pub different : (i j : ℕ) → i < rows table → j < rows table → name (row table i) ≡ name (row table j) → i ≡ j
    different i j below within e =
        let at_i = own i below in
        let at_j = own j within in
        let both : lookup table (name (row table i)) ≡ lookup table (name (row table j)) = ap (lookup table) e in
        cc

    rank_one : (i j : ℕ) → i < rows table → j < rows table → rank table i ≡ rank table j → i ≡ j
    rank_one i j below within e = go (order (name (row table i)) (name (row table j))) (compared _ _)
      where
        go : (o : Ordering) → Compared (name (row table i)) (name (row table j)) o → i ≡ j
        go Less (comes_before first) = absurd (omega (arith, rank_less i j below first))
        go Equal (is_same alike) = different i j below within alike
        go Greater (comes_after first) = absurd (omega (arith, rank_less j i within first))

    -- each number of names has its row
    has_rank : (k : ℕ) → k < rows table → (i : ℕ) × (i < rows table) × (rank table i ≡ k)
    has_rank =
        onto (rank table) (rows table)
        (record { below = rank_below; apart = λ i j less within e. omega (arith, rank_one i j (omega arith) within e) })

    ranked : (k n i j : ℕ) → i ≤ j → j < i + n → rank table j ≡ k → (ranked_from table k i n < i + n) × (rank table (ranked_from table k i n) ≡ k)
    unfolding ranked_from
    ranked k zero i j from to e = absurd (omega arith)
    ranked k (suc n) i j from to e =
        if_either (λ r. (r < i + suc n) × (rank table r ≡ k)) (eqb (rank table i) k)
        (λ here. (omega arith, eqb-true _ _ here))
        (λ other.
        let further : i < j = omega (arith, not_it other) in
        let (below, is) = ranked k n (suc i) j further (omega arith) e in
        (omega arith, is))
      where
        not_it : eqb (rank table i) k ≡ false → i ≡ j → ⊥
        not_it other at = false≢true (sym other ∙ eq-eqb _ _ (ap (rank table) at ∙ e))

    entries_long : (n k : ℕ) → length (entries_from table k n) ≡ n
    unfolding entries_from
    entries_long zero k = refl
    entries_long (suc n) k = ap suc (entries_long n (suc k))

    entries_at : (n k j : ℕ) → j < n → get_or (entries_from table k n) j 0 ≡ ranked_from table (k + j) 0 (rows table)
    unfolding entries_from
    entries_at zero k j below = absurd (omega arith)
    entries_at (suc n) k zero below = rw add-zero
    entries_at (suc n) k (suc j) below = rw (add-suc k j, ← (suc-add k j)) (entries_at n (suc k) j (omega arith))

    entry_ranked : (k : ℕ) → k < rows table → (entry (index_of table) k < rows table) × (rank table (entry (index_of table) k) ≡ k)
    unfolding index_of
    entry_ranked k below =
        let (i, within, is) = has_rank k below in
        let (less, found) = ranked k (rows table) 0 i (omega arith) (omega arith) is in
        rw (entries_at (rows table) 0 k below, zero-add k) (omega arith, found)

    pub index_of_long : length (index_of table) ≡ rows table
    unfolding index_of
    index_of_long = entries_long (rows table) 0

    pub index_of_right : Right table (index_of table)
    unfolding entry_right
    index_of_right = record {
      long = index_of_long;
      each = λ k below. and_both (lt-ltb _ _ (entry_ranked k below).0) (eq-eqb _ _ (entry_ranked k below).1);
    }

    pub right_only : (index : List ℕ) → Right table index → index ≡ index_of table
    right_only index right =
        ext_get_or 0 index (index_of table) (right.long ∙ sym index_of_long)
        (λ k less.
        let below : k < rows table = omega (arith, right.long) in
        rank_one _ _ (right_within index right k below) (entry_ranked k below).0 (right_rank index right k below ∙ sym (entry_ranked k below).1))
