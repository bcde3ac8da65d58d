-- The library's comparisons of slices are those of the definitions, and laws of the order. Assumes nothing.
use Rattle.std.specs.Prelude.{◌≡◌, refl, Bool, not, List, [], ◌∷◌, ℕ, ◌+◌, ◌≤◌, ◌<◌, length, get_or, drop, Some}
use Rattle.std.proofs.Common.{add-one, arith}
use Rattle.std.proofs.Math.ListN.{drop_of_length-le}
use Rattle.std.proofs.Math.Seq.{drop-cons}
use borrow.Author.Tests.{lt-ltb, le-ltb}
use Rattle.std.proofs.lemmas.Cmp.{same_from_slice_cmp_tested}
use Rattle.std.proofs.lemmas.Bool.Decides.{nat_tests}
use Rattle.std.specs.Cmp.Lexicographic.{pointwise, slice_partial_cmp}
use Rattle.std.specs.Ordering.{nat_cmp, is_lt, is_ge, is_some_and}
use Rattle.std.specs.Bool.{◌==◌}
use Rattle.std.specs.declared.cmp.Ordering.TheVariants.{Less, Equal, Greater}
use Rattle.rules.specs.Common.{when◌then◌else◌, same}
use Rattle.index.specs.TheSortedIndex.{order, is_before, before}

pub same_is : (a b : List ℕ) → pointwise (λ x y. x == y) a b ≡ same a b
unfolding same
same_is [] [] = refl
same_is [] (y ∷ b) = refl
same_is (x ∷ a) [] = refl
same_is (x ∷ a) (y ∷ b) = rw (same_is a b)

pub before_is : (a b : List ℕ) (t : Bool) → t ≡ is_some_and is_lt (slice_partial_cmp (λ x y. Some (nat_cmp x y)) a b) → t ≡ before a b
unfolding before is_before order when◌then◌else◌
before_is = same_from_slice_cmp_tested nat_cmp is_lt before refl (λ y ys. refl) (λ x xs. refl) (λ x y xs ys o h. grind (arith, nat_tests))

pub not_before_is : (a b : List ℕ) (t : Bool) → t ≡ is_some_and is_ge (slice_partial_cmp (λ x y. Some (nat_cmp x y)) a b) → t ≡ not (before a b)
unfolding before is_before order when◌then◌else◌
not_before_is = same_from_slice_cmp_tested nat_cmp is_ge (λ a b. not (before a b)) refl (λ y ys. refl) (λ x xs. refl) (λ x y xs ys o h. grind (arith, nat_tests))

-- ---- the order from a place on: the bytes there decide, or those behind them

module _ (a b : List ℕ) (i : ℕ) where
  module _ (here : i < length a) where
    pub after_prefix : length b ≤ i → order (drop i a) (drop i b) ≡ Greater
    unfolding order
    after_prefix h = rw (drop-cons a i 0 here, drop_of_length-le b h)

    module _ (there : i < length b) where
      pub less_byte : get_or a i 0 < get_or b i 0 → order (drop i a) (drop i b) ≡ Less
      unfolding order when◌then◌else◌
      less_byte h = rw (drop-cons a i 0 here, drop-cons b i 0 there, lt-ltb (get_or a i 0) (get_or b i 0) h)

      pub more_byte : get_or b i 0 < get_or a i 0 → order (drop i a) (drop i b) ≡ Greater
      unfolding order when◌then◌else◌
      more_byte h = rw (drop-cons a i 0 here, drop-cons b i 0 there, le-ltb (get_or a i 0) (get_or b i 0) (omega arith), lt-ltb (get_or b i 0) (get_or a i 0) h)

      pub same_byte : get_or b i 0 ≤ get_or a i 0 → get_or a i 0 ≤ get_or b i 0 → order (drop i a) (drop i b) ≡ order (drop (i + 1) a) (drop (i + 1) b)
      unfolding order when◌then◌else◌
      same_byte p q = rw (add-one, drop-cons a i 0 here, drop-cons b i 0 there, le-ltb (get_or a i 0) (get_or b i 0) p, le-ltb (get_or b i 0) (get_or a i 0) q)

  module _ (ended : length a ≤ i) where
    pub before_longer : i < length b → order (drop i a) (drop i b) ≡ Less
    unfolding order
    before_longer h = rw (drop_of_length-le a ended, drop-cons b i 0 h)

    pub all_same : length b ≤ i → order (drop i a) (drop i b) ≡ Equal
    unfolding order
    all_same h = rw (drop_of_length-le a ended, drop_of_length-le b h)
