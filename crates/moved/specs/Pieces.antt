-- The first n pieces, appended: how long they are and where each stands; and bytes as their pieces appended. Assumes nothing.
use Rattle.std.specs.Prelude.{◌≡◌}
use Rattle.std.proofs.Math.Path.{refl, sym, ap, ap₂}
use Rattle.std.proofs.Common.{◌∙◌, le_of_suc-le-suc, take_at, drop-drop}
use mathlib.Core.List.{List, [], ◌∷◌, ◌++◌}
use Prim.Native.Nat.{ℕ, zero, suc, ◌+◌, ◌*◌, ◌<◌, zero-le, suc-le-suc}
use Rattle.std.proofs.Math.Nat.{mul-zero}
use native.Mathlib.Omega.{arith}
use Rattle.std.proofs.Math.ListN.{length, take, drop, length-append, length-drop, take-append-drop}
use Rattle.std.proofs.Math.Seq.{drop-append-add}

unfoldable pub appended : (ℕ → List ℕ) → ℕ → List ℕ
appended piece zero = []
appended piece (suc n) = piece 0 ++ appended (λ k. piece (suc k)) n

pub appended_same : (f g : ℕ → List ℕ) (n : ℕ) → ((k : ℕ) → k < n → f k ≡ g k) → appended f n ≡ appended g n
unfolding appended
appended_same f g zero same = refl
appended_same f g (suc n) same =
    ap₂ (λ p rest. p ++ rest) (same 0 (suc-le-suc zero-le)) (appended_same (λ k. f (suc k)) (λ k. g (suc k)) n (λ k h. same (suc k) (suc-le-suc h)))

-- pieces of one size
module _ (size : ℕ) where
  pub length_appended : (f : ℕ → List ℕ) (n : ℕ) → ((k : ℕ) → k < n → length (f k) ≡ size) → length (appended f n) ≡ n * size
  unfolding appended
  length_appended f zero sized = omega arith
  length_appended f (suc n) sized =
      length-append (f 0) (appended (λ k. f (suc k)) n)
      ∙ omega (arith, sized 0 (suc-le-suc zero-le), length_appended (λ k. f (suc k)) n (λ k h. sized (suc k) (suc-le-suc h)))

  further : (k : ℕ) → size * suc k ≡ size + size * k
  further k = omega arith

  past_first : (first rest : List ℕ) (k : ℕ) → length first ≡ size → drop (size * suc k) (first ++ rest) ≡ drop (size * k) rest
  past_first first rest k e = rw (further k, ← e) (drop-append-add first rest (length first * k))

  pub piece_at : (f : ℕ → List ℕ) (n k : ℕ) → ((i : ℕ) → i < n → length (f i) ≡ size) → k < n → take size (drop (size * k) (appended f n)) ≡ f k
  unfolding appended
  piece_at f zero k sized h = absurd (omega arith)
  piece_at f (suc n) zero sized h = rw mul-zero (take_at (f 0) (appended (λ i. f (suc i)) n) size (sized 0 h))
  piece_at f (suc n) (suc k) sized h =
      ap (take size) (past_first (f 0) (appended (λ i. f (suc i)) n) k (sized 0 (suc-le-suc zero-le)))
      ∙ piece_at (λ i. f (suc i)) n k (λ i b. sized (suc i) (suc-le-suc b)) (le_of_suc-le-suc h)

  -- bytes are their pieces appended
  pub pieces_of : (n : ℕ) (l : List ℕ) → length l ≡ n * size → appended (λ k. take size (drop (size * k) l)) n ≡ l
  unfolding appended
  pieces_of zero [] e = refl
  pieces_of zero (b ∷ l) e = absurd (omega arith)
  pieces_of (suc n) l e =
      let rest : length (drop size l) ≡ n * size = length-drop size l ∙ omega arith in
      ap₂ (λ p q. p ++ q)
      (ap (λ k. take size (drop k l)) (mul-zero size))
      (appended_same _ _ n (λ k h. ap (take size) (ap (λ i. drop i l) (further k) ∙ sym (drop-drop (size * k) size l))) ∙ pieces_of n (drop size l) rest)
      ∙ take-append-drop size l
