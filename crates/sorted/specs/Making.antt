-- An index on its way: the first rows stand in order, and the next one is put behind them. Assumes nothing.
use Rattle.std.specs.Prelude.{◌≡◌, refl, Bool, true, false, List, ◌++◌, ℕ, ◌+◌, ◌≤◌, ◌<◌, eqb, length, take, drop, set}
use Rattle.std.proofs.Common.{sym, ap, ◌∙◌, arith, length-set, length-take, length-drop, length-append, get_or-set_same, get_or-set_other, get_or-take, take_all, eqb-true}
use Rattle.std.proofs.lemmas.List.{take-append-le}
use Rattle.std.proofs.lemmas.Bool.{eqb-false}
use Rattle.rules.specs.SettingsAndUnitTable.{rows}
use Rattle.index.specs.TheSortedIndex.{index_of}
use Rattle.index.specs.Laws.Right.{entry, Rising, Own}
use Rattle.index.proofs.Laws.Right.{rising_right, right_only}
use Rattle.sorted.specs.Sifting.{Sifting, Sifted}

pub record Making (table index : List ℕ) (i : ℕ) : Type 0 where
  pub long : length index ≡ rows table
  pub below : i ≤ rows table
  pub rising : Rising table (take i index)

pub make_starts : (table index : List ℕ) → length index ≡ rows table → Making table index 0
make_starts table index long =
    record { long = long; below = omega arith; rising = record { within = λ k below. absurd (omega arith); rises = λ j k less below. absurd (omega arith) } }

module _ (table index : List ℕ) (i : ℕ) (m : Making table index i) where
  -- all rows stand in order
  pub make_ends : Own table → rows table ≤ i → index ≡ index_of table
  make_ends own all =
      let whole : take i index ≡ index = take_all i index (omega (arith, m.long)) in
      right_only table own index (rising_right table index m.long (rw whole at m.rising))

  module _ (more : i < rows table) where
    -- one row more, not yet in its place
    abbrev pub with_next : List ℕ
    with_next = take (i + 1) (set index i i)

    pub next_long : length with_next ≡ i + 1
    next_long = simp (length-take, length-set) (omega (arith, m.long))

    first_long : length (take i index) ≡ i
    first_long = simp length-take (omega (arith, m.long))

    earlier : (k : ℕ) → k < i → entry with_next k ≡ entry (take i index) k
    earlier k below =
        get_or-take (i + 1) (set index i i) k 0 (omega arith) ∙ get_or-set_other index i k i 0 (λ e. omega arith) ∙ sym (get_or-take i index k 0 below)

    last : entry with_next i ≡ i
    last = get_or-take (i + 1) (set index i i) i 0 (omega arith) ∙ get_or-set_same index i i 0 (omega (arith, m.long))

    earlier_below : (k : ℕ) → k < i → entry with_next k < i
    earlier_below k below = rw (earlier k below) (omega (arith, first_long, m.rising.within k (omega (arith, first_long))))

    pub make_sifts : Sifting table with_next i
    make_sifts = record {
      short = omega (arith, next_long);
      here = omega (arith, next_long);
      within = λ k below. bounded k (omega (arith, next_long)) (eqb k i) refl;
      alone = λ k below other e. omega (arith, next_long, earlier_below k (omega (arith, next_long, other)), last, e);
      others = λ j k less below p q.
          rw (earlier j (omega (arith, next_long)), earlier k (omega (arith, next_long, q)))
          (m.rising.rises j k less (omega (arith, first_long, next_long, q)));
      later = λ k less below. absurd (omega (arith, next_long));
    }
      where
        bounded : (k : ℕ) → k < i + 1 → (t : Bool) → eqb k i ≡ t → entry with_next k < length with_next
        bounded k below true e = omega (arith, next_long, last, ap (entry with_next) (eqb-true k i e))
        bounded k below false e = omega (arith, next_long, earlier_below k (omega (arith, eqb-false k i e)))

    -- and now it is
    pub make_next : {sifted : List ℕ} → Sifted table with_next sifted → Making table (sifted ++ drop (i + 1) (set index i i)) (i + 1)
    make_next {sifted} s =
        let count : length sifted ≡ i + 1 = s.long ∙ next_long in
        let front : take (i + 1) (sifted ++ drop (i + 1) (set index i i)) ≡ sifted =
        take-append-le (i + 1) sifted (drop (i + 1) (set index i i)) (omega arith) ∙ take_all (i + 1) sifted (omega arith)
        in
        record {
          long = simp (length-append, length-drop, length-set) (omega (arith, m.long));
          below = omega arith;
          rising = rw front s.rising;
        }
