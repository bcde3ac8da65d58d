-- Both searches find what the lookup finds, the one through a right index too; and how many names each compares at most. Assumes nothing.
use Rattle.std.specs.Prelude.{◌≡◌, Bool, List, length, Option, Some, None}
use Rattle.std.proofs.Math.Path.{refl}
use Rattle.std.proofs.Common.{sym, ◌∙◌, arith}
use Rattle.std.proofs.Math.Bool.{true, false}
use Prim.Native.Nat.{ℕ, zero, suc, zero-le, ◌+◌, ◌*◌, ◌-◌, ◌/◌, ◌^◌, ◌≤◌, ◌<◌}
use Rattle.std.proofs.Math.Nat.{pow-succ'}
use Rattle.std.proofs.Math.Dec.{ltb}
use borrow.Author.Tests.{ltb-true, ltb-false, lt-ltb, le-ltb}
use Rattle.rules.specs.Common.{when◌then◌else◌, same}
use Rattle.rules.specs.SettingsAndUnitTable.{rows, row, name, lookup_from, lookup_from_in, lookup, lookup_in}
use Rattle.rules.proofs.Laws.Choices.{if_either}
use Rattle.rows.specs.Laws.Lookup.{unnamed}
use Rattle.std.specs.declared.cmp.Ordering.{Ordering}
use Rattle.std.specs.declared.cmp.Ordering.TheVariants.{Less, Equal, Greater}
use Rattle.index.specs.declared.Searched.{Searched}
use Rattle.index.specs.TheSortedIndex.{order, before, no_more, here, and_then, row_search_from, row_search, by_order, index_search_from, index_search}
use Rattle.index.proofs.Laws.Order.{says_before, says_same, says_after, never_before, before_trans}
use Rattle.index.specs.Laws.Right.{entry, entry_name, Right, Rising}
use Rattle.index.proofs.Laws.Right.{right_rising, stands_at, rising_own}

-- what holds of each of the three ways holds of the one that is taken
by_either : {A : Type 0} (P : A → Type 0) (o : Ordering) {a b c : A} → (o ≡ Less → P a) → (o ≡ Equal → P b) → (o ≡ Greater → P c) → P (by_order o a b c)
unfolding by_order
by_either P Less f g h = f refl
by_either P Equal f g h = g refl
by_either P Greater f g h = h refl

-- ---- row by row

module _ (table wanted : List ℕ) where
  searched_from : (n i : ℕ) → (row_search_from table wanted i n).found ≡ lookup_from table wanted i n
  unfolding row_search_from lookup_from_in when◌then◌else◌
  searched_from zero i = refl
  searched_from (suc n) i = go (same (name (row table i)) wanted) (searched_from n (suc i))
    where
      more : Searched
      more = row_search_from table wanted (suc i) n

      go : (t : Bool) → more.found ≡ lookup_from table wanted (suc i) n → (when t then here i else more).found ≡ (when t then Some i else lookup_from table wanted (suc i) n)
      go true e = refl
      go false e = e

  pub row_search_finds : (row_search table wanted).found ≡ lookup table wanted
  unfolding row_search lookup_in
  row_search_finds = searched_from (rows table) 0

  most_from : (n i : ℕ) → (row_search_from table wanted i n).compared ≤ n
  unfolding row_search_from
  most_from zero i = zero-le
  most_from (suc n) i = if_either (λ (s : Searched). suc s.compared ≤ suc n) (same (name (row table i)) wanted) (λ e. omega arith) (λ e. omega (arith, most_from n (suc i)))

  -- one for each row at most
  pub row_search_most : (row_search table wanted).compared ≤ rows table
  unfolding row_search
  row_search_most = most_from (rows table) 0

-- ---- through the index

module _ (table index wanted : List ℕ) where
  abbrev middle : ℕ → ℕ → ℕ
  middle low high = (low + high) / 2

  -- one for each row at most
  probed_most : (n low high : ℕ) → (index_search_from table index wanted n low high).compared ≤ n
  unfolding index_search_from
  probed_most zero low high = zero-le
  probed_most (suc n) low high =
      if_either (λ (s : Searched). s.compared ≤ suc n) (ltb low high)
      (λ e.
      by_either (λ (s : Searched). suc s.compared ≤ suc n) (order wanted (entry_name table index (middle low high)))
      (λ o. omega (arith, probed_most n low (middle low high)))
      (λ o. omega arith)
      (λ o. omega (arith, probed_most n (suc (middle low high)) high)))
      (λ e. omega arith)

  pub index_search_most : (index_search table index wanted).compared ≤ rows table
  unfolding index_search
  index_search_most = probed_most (rows table) 0 (rows table)

  -- and where fewer than 2 ^ k are left, at most k: each probe leaves less than half
  halved : (n k low high : ℕ) → high < low + 2 ^ k → (index_search_from table index wanted n low high).compared ≤ k
  unfolding index_search_from when◌then◌else◌
  halved zero k low high h = zero-le
  halved (suc n) zero low high h = rw (le-ltb low high (omega arith)) zero-le
  halved (suc n) (suc k) low high h =
      let twice : 2 ^ suc k ≡ 2 * 2 ^ k = pow-succ' 2 k in
      if_either (λ (s : Searched). s.compared ≤ suc k) (ltb low high)
      (λ e.
      by_either (λ (s : Searched). suc s.compared ≤ suc k) (order wanted (entry_name table index (middle low high)))
      (λ o. omega (arith, halved n k low (middle low high) (omega arith)))
      (λ o. omega arith)
      (λ o. omega (arith, halved n k (suc (middle low high)) high (omega arith))))
      (λ e. zero-le)

  pub index_search_halves : (k : ℕ) → rows table < 2 ^ k → (index_search table index wanted).compared ≤ k
  unfolding index_search
  index_search_halves k few = halved (rows table) k 0 (rows table) (omega arith)

  -- ---- what is left decides, however many it is said to be at most

  pub probes : ℕ → ℕ → Searched
  probes low high = index_search_from table index wanted (high - low) low high

  enough : (n m low high : ℕ) → high - low ≤ n → high - low ≤ m → index_search_from table index wanted n low high ≡ index_search_from table index wanted m low high
  unfolding index_search_from when◌then◌else◌
  enough zero zero low high p q = refl
  enough zero (suc m) low high p q = rw (le-ltb low high (omega arith))
  enough (suc n) zero low high p q = rw (le-ltb low high (omega arith))
  enough (suc n) (suc m) low high p q =
      go (ltb low high) refl
      (λ some. enough n m low (middle low high) (omega arith) (omega arith))
      (λ some. enough n m (suc (middle low high)) high (omega arith) (omega arith))
    where
      go :
          (t : Bool) → ltb low high ≡ t
          → (low < high → index_search_from table index wanted n low (middle low high) ≡ index_search_from table index wanted m low (middle low high))
          → (low < high → index_search_from table index wanted n (suc (middle low high)) high ≡ index_search_from table index wanted m (suc (middle low high)) high)
          → index_search_from table index wanted (suc n) low high ≡ index_search_from table index wanted (suc m) low high
      go true e below above = rw (below (ltb-true low high e), above (ltb-true low high e))
      go false e below above = rw e

  pub probes_all : probes 0 (rows table) ≡ index_search table index wanted
  unfolding probes index_search
  probes_all = enough (rows table - 0) (rows table) 0 (rows table) (omega arith) (omega arith)

  pub probes_none : (low high : ℕ) → high ≤ low → probes low high ≡ no_more
  unfolding probes index_search_from
  probes_none low high h = enough (high - low) 0 low high (omega arith) (omega arith)

  pub probes_more :
      (low high : ℕ) → low < high
      → probes low high
      ≡ and_then
      (by_order (order wanted (entry_name table index (middle low high))) (probes low (middle low high)) (here (entry index (middle low high))) (probes (suc (middle low high)) high))
  unfolding probes index_search_from when◌then◌else◌
  probes_more low high h =
      enough (high - low) (suc (high - low - 1)) low high (omega arith) (omega arith)
      ∙ rw (
        lt-ltb low high h,
        enough (high - low - 1) (middle low high - low) low (middle low high) (omega arith) (omega arith),
        enough (high - low - 1) (high - suc (middle low high)) (suc (middle low high)) high (omega arith) (omega arith),
      )

  -- ---- what is found through a right index

  -- what the entries from low up to high give
  data Probed (low high : ℕ) : Option ℕ → Type 0 where
    found : {i : ℕ} → i < rows table → name (row table i) ≡ wanted → Probed low high (Some i)
    nowhere : ((k : ℕ) → low ≤ k → k < high → entry_name table index k ≡ wanted → ⊥) → Probed low high None

  module _ (long : length index ≡ rows table) (rising : Rising table index) where
    -- a name before that of an entry stands at none from there on
    first_half : (low high at : ℕ) → high ≤ rows table → at < high → before wanted (entry_name table index at) ≡ true → {f : Option ℕ} → Probed low at f → Probed low high f
    first_half low high at most below first (found within e) = found within e
    first_half low high at most below first (nowhere none) = nowhere (λ k from to e. go k from to e (ltb k at) refl (ltb at k) refl)
      where
        go : (k : ℕ) → low ≤ k → k < high → entry_name table index k ≡ wanted → (t : Bool) → ltb k at ≡ t → (u : Bool) → ltb at k ≡ u → ⊥
        go k from to e true p u q = none k from (ltb-true k at p) e
        go k from to e false p true q =
            never_before wanted (before_trans _ _ _ first (rw e at (rising.rises at k (ltb-true at k q) (omega (arith, long)))))
        go k from to e false p false q =
            let here : k ≡ at = omega (arith, ltb-false k at p, ltb-false at k q) in
            never_before wanted (rw (← here, e) at first)

    second_half : (low high at : ℕ) → high ≤ rows table → at < high → before (entry_name table index at) wanted ≡ true → {f : Option ℕ} → Probed (suc at) high f → Probed low high f
    second_half low high at most below first (found within e) = found within e
    second_half low high at most below first (nowhere none) = nowhere (λ k from to e. go k from to e (ltb k at) refl (ltb at k) refl)
      where
        go : (k : ℕ) → low ≤ k → k < high → entry_name table index k ≡ wanted → (t : Bool) → ltb k at ≡ t → (u : Bool) → ltb at k ≡ u → ⊥
        go k from to e true p u q =
            never_before wanted (before_trans _ _ _ (rw e at (rising.rises k at (ltb-true k at p) (omega (arith, long)))) first)
        go k from to e false p true q = none k (ltb-true at k q) to e
        go k from to e false p false q =
            let here : k ≡ at = omega (arith, ltb-false k at p, ltb-false at k q) in
            never_before wanted (rw (← here, e) at first)

    probed : (n low high : ℕ) → high - low ≤ n → high ≤ rows table → Probed low high (index_search_from table index wanted n low high).found
    unfolding index_search_from
    probed zero low high few most = nowhere (λ k from to e. omega arith)
    probed (suc n) low high few most =
        if_either (λ (s : Searched). Probed low high s.found) (ltb low high)
        (λ e.
        let some : low < high = ltb-true low high e in
        let at : ℕ = middle low high in
        by_either (λ (s : Searched). Probed low high s.found) (order wanted (entry_name table index at))
        (λ o. first_half low high at most (omega arith) (says_before _ _ o) (probed n low at (omega arith) (omega arith)))
        (λ o. found (omega (arith, long, rising.within at (omega (arith, long)))) (sym (says_same _ _ o)))
        (λ o. second_half low high at most (omega arith) (says_after _ _ o) (probed n (suc at) high (omega arith) (omega arith))))
        (λ e. nowhere (λ k from to is. omega (arith, ltb-false low high e)))

  pub index_search_finds : Right table index → (index_search table index wanted).found ≡ lookup table wanted
  unfolding index_search
  index_search_finds right = go (probed right.long rising (rows table) 0 (rows table) (omega arith) (omega arith))
    where
      rising : Rising table index
      rising = right_rising table index right

      go : {f : Option ℕ} → Probed 0 (rows table) f → f ≡ lookup table wanted
      go (found {i = i} within e) = rw (← e) (sym (rising_own table index right.long rising i within))
      go (nowhere none) =
          sym
          (unnamed table wanted
          (λ i below e.
          let (k, within, is) = stands_at table index right.long rising i below in
          none k (omega arith) within (rw is e)))
