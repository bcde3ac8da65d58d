-- An entry that sinks to its place: all other names rise, and those behind it come after its own. Assumes nothing.
use Rattle.std.specs.Prelude.{◌≡◌, Bool, false, List, ◌≢◌, ℕ, ◌+◌, ◌-◌, ◌≤◌, ◌<◌, eqb, length, set}
use Rattle.std.proofs.Math.Path.{refl}
use Rattle.std.proofs.Common.{sym, ap, ◌∙◌, arith, length-set, get_or-set_same, get_or-set_other, eqb-true}
use Rattle.std.proofs.Math.Bool.{true}
use Rattle.std.proofs.lemmas.Bool.{false≢true, eqb-false}
use Rattle.rules.specs.SettingsAndUnitTable.{rows}
use Rattle.std.specs.declared.cmp.Ordering.{Ordering}
use Rattle.std.specs.declared.cmp.Ordering.TheVariants.{Less, Equal, Greater}
use Rattle.index.specs.TheSortedIndex.{order, is_before, before}
use Rattle.index.proofs.Laws.Order.{Compared, comes_before, is_same, comes_after, compared, before_trans}
use Rattle.index.specs.Laws.Right.{entry, entry_name, Rising, Own}
use Rattle.index.proofs.Laws.Right.{different}

pub record Sifting (table index : List ℕ) (at : ℕ) : Type 0 where
  pub short : length index ≤ rows table
  pub here : at < length index
  pub within : (k : ℕ) → k < length index → entry index k < length index
  pub alone : (k : ℕ) → k < length index → k ≢ at → entry index k ≡ entry index at → ⊥
  pub others : (j k : ℕ) → j < k → k < length index → j ≢ at → k ≢ at → before (entry_name table index j) (entry_name table index k) ≡ true
  pub later : (k : ℕ) → at < k → k < length index → before (entry_name table index at) (entry_name table index k) ≡ true

-- afterwards as many names rise
pub record Sifted (table index sifted : List ℕ) : Type 0 where
  pub long : length sifted ≡ length index
  pub rising : Rising table sifted

module _ (table index : List ℕ) (at : ℕ) (s : Sifting table index at) where
  -- with everything before it below, all names rise
  whole :
      ((j : ℕ) → j < at → before (entry_name table index j) (entry_name table index at) ≡ true)
      → (j k : ℕ) → j < k → k < length index → (a : Bool) → eqb j at ≡ a → (b : Bool) → eqb k at ≡ b
      → before (entry_name table index j) (entry_name table index k) ≡ true
  whole first j k less below true p b q = rw (eqb-true j at p) (s.later k (omega (arith, eqb-true j at p)) below)
  whole first j k less below false p true q = rw (eqb-true k at q) (first j (omega (arith, eqb-true k at q)))
  whole first j k less below false p false q = s.others j k less below (eqb-false j at p) (eqb-false k at q)

  rising_if : ((j : ℕ) → j < at → before (entry_name table index j) (entry_name table index at) ≡ true) → Rising table index
  rising_if first = record { within = s.within; rises = λ j k less below. whole first j k less below (eqb j at) refl (eqb k at) refl }

  -- nothing is before it
  pub sift_ends : at ≤ 0 → Rising table index
  sift_ends none = rising_if (λ j less. absurd (omega arith))

  module _ (some : 0 < at) where
    -- its name does not come before the one below it
    pub sift_stops : Own table → before (entry_name table index at) (entry_name table index (at - 1)) ≡ false → Rising table index
    unfolding before is_before
    sift_stops own not_before = rising_if (λ j less. by j less (eqb j (at - 1)) refl)
      where
        below : before (entry_name table index (at - 1)) (entry_name table index at) ≡ true
        below = go (order (entry_name table index at) (entry_name table index (at - 1))) refl (compared _ _)
          where
            go :
                (o : Ordering) → order (entry_name table index at) (entry_name table index (at - 1)) ≡ o
                → Compared (entry_name table index at) (entry_name table index (at - 1)) o
                → before (entry_name table index (at - 1)) (entry_name table index at) ≡ true
            go Less e (comes_before h) = absurd (false≢true (sym not_before ∙ h))
            go Equal e (is_same h) =
                absurd
                (s.alone (at - 1) (omega (arith, s.here)) (λ is. omega arith)
                (sym (different table own (entry index at) (entry index (at - 1)) (omega (arith, s.short, s.within at s.here)) (omega (arith, s.short, s.within (at - 1) (omega (arith, s.here)))) h)))
            go Greater e (comes_after h) = h

        by : (j : ℕ) → j < at → (t : Bool) → eqb j (at - 1) ≡ t → before (entry_name table index j) (entry_name table index at) ≡ true
        by j less true e = rw (eqb-true j (at - 1) e) below
        by j less false e =
            before_trans _ _ _
            (s.others j (at - 1) (omega (arith, eqb-false j (at - 1) e)) (omega (arith, s.here)) (λ is. omega arith) (λ is. omega arith))
            below

    -- the two entries change places
    abbrev pub swapped : List ℕ
    swapped = set (set index at (entry index (at - 1))) (at - 1) (entry index at)

    -- where an entry stood before
    data From (k : ℕ) : ℕ → Type 0 where
      sank : k + 1 ≡ at → From k at
      rose : k ≡ at → From k (at - 1)
      stayed : k ≢ at → (k + 1 ≡ at → ⊥) → From k k

    from : (k : ℕ) → (f : ℕ) × From k f × (entry swapped k ≡ entry index f)
    from k = go (eqb k at) refl (eqb (k + 1) at) refl
      where
        go :
            (a : Bool) → eqb k at ≡ a → (b : Bool) → eqb (k + 1) at ≡ b
            → (f : ℕ) × From k f × (entry (set (set index at (entry index (at - 1))) (at - 1) (entry index at)) k ≡ entry index f)
        go true p b q =
            let is : k ≡ at = eqb-true k at p in (
              at - 1,
              rose is,
              get_or-set_other (set index at (entry index (at - 1))) (at - 1) k (entry index at) 0 (λ e. omega arith)
                  ∙ ap (λ n. entry (set index at (entry index (at - 1))) n) is
                  ∙ get_or-set_same index at (entry index (at - 1)) 0 s.here,
            )
        go false p true q =
            let next : k + 1 ≡ at = eqb-true (k + 1) at q in
            let is : k ≡ at - 1 = omega arith in (
              at,
              sank next,
              ap (λ n. entry (set (set index at (entry index (at - 1))) (at - 1) (entry index at)) n) is
                  ∙ get_or-set_same (set index at (entry index (at - 1))) (at - 1) (entry index at) 0 (simp length-set (omega (arith, s.here))),
            )
        go false p false q =
            let not_next : k + 1 ≡ at → ⊥ = eqb-false (k + 1) at q in (
              k,
              stayed (eqb-false k at p) not_next,
              get_or-set_other (set index at (entry index (at - 1))) (at - 1) k (entry index at) 0 (λ e. not_next (omega arith)) ∙ get_or-set_other index at k (entry index (at - 1)) 0 (eqb-false k at p),
            )

    pub swap_long : length swapped ≡ length index
    swap_long = simp length-set

    -- one that is not the sinking one
    other_from : {k f : ℕ} → From k f → (k ≡ at - 1 → ⊥) → f ≢ at
    other_from (sank next) other = absurd (other (omega arith))
    other_from (rose is) other = λ e. omega arith
    other_from (stayed p q) other = p

    from_below : {k f : ℕ} → From k f → k < length index → f < length index
    from_below (sank next) below = s.here
    from_below (rose is) below = omega (arith, s.here)
    from_below (stayed p q) below = below

    -- two that keep their order
    from_rises : {j k f g : ℕ} → From j f → From k g → j < k → (j ≡ at - 1 → ⊥) → (k ≡ at - 1 → ⊥) → f < g
    from_rises (sank next) y less p q = absurd (p (omega arith))
    from_rises (rose is) (sank next) less p q = absurd (q (omega arith))
    from_rises (rose is) (rose also) less p q = absurd (omega arith)
    from_rises (rose is) (stayed a b) less p q = omega arith
    from_rises (stayed a b) (sank next) less p q = absurd (q (omega arith))
    from_rises (stayed a b) (rose is) less p q = omega arith
    from_rises (stayed a b) (stayed c d) less p q = less

    -- the sinking one is one lower
    pub swap_own : entry swapped (at - 1) ≡ entry index at
    swap_own = get_or-set_same (set index at (entry index (at - 1))) (at - 1) (entry index at) 0 (simp length-set (omega (arith, s.here)))

    pub sift_swaps : before (entry_name table index at) (entry_name table index (at - 1)) ≡ true → Sifting table swapped (at - 1)
    sift_swaps first = record {
      short = omega (arith, swap_long, s.short);
      here = omega (arith, swap_long, s.here);
      within = λ k below. let (f, view, is) = from k in rw is (omega (arith, swap_long, s.within f (from_below view (omega (arith, swap_long)))));
      alone = λ k below other e.
          let (f, view, is) = from k in
          s.alone f (from_below view (omega (arith, swap_long))) (other_from view other) (sym is ∙ e ∙ swap_own);
      others = λ j k less below p q.
          let (f, view, is) = from j in
          let (g, also, at_k) = from k in
          rw (is, at_k) (s.others f g (from_rises view also less p q) (from_below also (omega (arith, swap_long))) (other_from view p) (other_from also q));
      later = λ k less below. let (f, view, is) = from k in rw (swap_own, is) (behind k f view less (omega (arith, swap_long)));
    }
      where
        behind : (k f : ℕ) → From k f → at - 1 < k → k < length index → before (entry_name table index at) (entry_name table index f) ≡ true
        behind k f (sank next) less below = absurd (omega arith)
        behind k f (rose is) less below = first
        behind k f (stayed p q) less below = s.later k (omega (arith, p)) below
