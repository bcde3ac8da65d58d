-- Laws of a test over a list: element by element, and at an index; and of a test over a run of bytes. Assumes nothing.
use Rattle.std.specs.Prelude.{◌≡◌, Bool, true, ◌&&◌, eqb, length, get_or, drop, replicate}
use Rattle.std.proofs.Math.Path.{refl}
use Rattle.std.proofs.Common.{ap, add-zero, zero-add, suc-add, le_of_suc-le-suc, add-one, arith, drop_of_length-le, eqb-true}
use mathlib.Core.List.{List, [], ◌∷◌, ◌++◌}
use Prim.Native.Nat.{ℕ, zero, suc, ◌+◌, ◌≤◌, ◌<◌}
use Rattle.std.proofs.Math.Nat.{add-suc}
use Rattle.std.proofs.Math.Seq.{drop-cons}
use Rattle.rules.specs.Common.{all, runs}
use Rattle.rules.proofs.Laws.Choices.{and_left, and_right, all_first, all_others}
use Rattle.rules.proofs.Laws.Tests.{and_assoc}

module _ {A : Type 0} (test : A → Bool) where
  -- of the elements from i on: the one at i, and those after it
  pub all_from : (l : List A) (i : ℕ) (d : A) → i < length l → all test (drop i l) ≡ (test (get_or l i d) && all test (drop (i + 1) l))
  unfolding all
  all_from l i d h = rw (add-one, drop-cons l i d h)

  pub all_done : (l : List A) (i : ℕ) → length l ≤ i → all test (drop i l) ≡ true
  unfolding all
  all_done l i h = rw (drop_of_length-le l h)

  pub all_index : (l : List A) (i : ℕ) (d : A) → all test l ≡ true → i < length l → test (get_or l i d) ≡ true
  all_index [] i d e h = absurd (omega arith)
  all_index (x ∷ l) zero d e h = all_first test x l e
  all_index (x ∷ l) (suc i) d e h = all_index l i d (all_others test x l e) (le_of_suc-le-suc h)

  -- at any index, where the default passes too
  pub all_at : (l : List A) (d : A) → all test l ≡ true → test d ≡ true → (i : ℕ) → test (get_or l i d) ≡ true
  all_at [] d e h i = h
  all_at (x ∷ l) d e h zero = all_first test x l e
  all_at (x ∷ l) d e h (suc i) = all_at l d (all_others test x l e) h i

  pub all_both : (xs ys : List A) → all test (xs ++ ys) ≡ (all test xs && all test ys)
  unfolding all
  all_both [] ys = refl
  all_both (x ∷ xs) ys = rw (all_both xs ys, and_assoc)

-- tests that agree at each element
pub all_alike : (f g : ℕ → Bool) (l : List ℕ) → ((i : ℕ) → f (get_or l i 0) ≡ g (get_or l i 0)) → all f l ≡ all g l
unfolding all
all_alike f g [] h = refl
all_alike f g (x ∷ l) h = rw (h 0, all_alike f g l (λ i. h (suc i)))

-- zeros, and nothing else
pub zeros_only : (l : List ℕ) → all (eqb 0) l ≡ true → l ≡ replicate (length l) 0
zeros_only [] e = refl
zeros_only (b ∷ l) e =
    let here : 0 ≡ b = eqb-true 0 b (all_first (eqb 0) b l e) in
    let others = zeros_only l (all_others (eqb 0) b l e) in
    cc

-- ---- each of the n bytes from b on

module _ (test : ℕ → Bool) where
  pub runs_add : (b m n : ℕ) → runs test b (m + n) ≡ (runs test b m && runs test (b + m) n)
  unfolding runs
  runs_add b zero n = rw (zero-add, add-zero)
  runs_add b (suc m) n = rw (suc-add m n, and_assoc, add-suc b m, ← (suc-add b m)) (ap (λ t. test b && t) (runs_add (suc b) m n))

  pub runs_at : (n b k : ℕ) → runs test b n ≡ true → k < n → test (b + k) ≡ true
  unfolding runs
  runs_at zero b k e h = absurd (omega arith)
  runs_at (suc n) b zero e h = rw (add-zero b) (and_left (test b) (runs test (suc b) n) e)
  runs_at (suc n) b (suc k) e h = rw (add-suc b k, ← (suc-add b k)) (runs_at n (suc b) k (and_right (test b) (runs test (suc b) n) e) (le_of_suc-le-suc h))

  -- at a byte below n, of those from 0 on
  pub runs_below : (n k : ℕ) → runs test 0 n ≡ true → k < n → test k ≡ true
  runs_below n k e h = rw (zero-add k) at (runs_at n 0 k e h)
