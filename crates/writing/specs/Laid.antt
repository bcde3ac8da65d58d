-- Bytes laid over a buffer from a place on: no other byte changes. Assumes nothing.
use Rattle.std.specs.Prelude.{◌≡◌, refl, List, [], ◌∷◌, ◌++◌, ℕ, zero, suc, ◌+◌, ◌≤◌, ◌<◌, length, take, drop, set}
use Rattle.std.proofs.Common.{sym, ap, ◌∙◌, append-nil, append_assoc, add-zero, zero-add, suc-add, le_of_suc-le-suc, not-suc-le-zero, arith, length-append, length-take, length-drop, take-append-drop}

unfoldable pub laid : List ℕ → ℕ → List ℕ → List ℕ
laid buffer place bytes = take place buffer ++ bytes ++ drop (place + length bytes) buffer

-- one byte further, under the first
laid_behind : (x : ℕ) (buffer : List ℕ) (place : ℕ) (bytes : List ℕ) → laid (x ∷ buffer) (suc place) bytes ≡ x ∷ laid buffer place bytes
unfolding laid
laid_behind x buffer place bytes = rw (suc-add place (length bytes))

laid_first : (buffer bytes : List ℕ) → laid buffer 0 bytes ≡ bytes ++ drop (length bytes) buffer
unfolding laid
laid_first buffer bytes = rw (zero-add (length bytes))

-- a byte that is set
laid_set : (buffer : List ℕ) (place d : ℕ) → place < length buffer → set buffer place d ≡ laid buffer place (d ∷ [])
laid_set [] place d h = absurd (not-suc-le-zero h)
laid_set (x ∷ buffer) zero d h = sym (laid_first (x ∷ buffer) (d ∷ []))
laid_set (x ∷ buffer) (suc place) d h = ap (λ l. x ∷ l) (laid_set buffer place d (le_of_suc-le-suc h)) ∙ sym (laid_behind x buffer place (d ∷ []))

pub laid_length : (buffer : List ℕ) (place : ℕ) (bytes : List ℕ) → place + length bytes ≤ length buffer → length (laid buffer place bytes) ≡ length buffer
unfolding laid
laid_length buffer place bytes h = simp (length-append, length-take, length-drop) (omega arith)

-- laid behind what was laid
first_then : (buffer xs ys : List ℕ) → laid (xs ++ buffer) (length xs) ys ≡ xs ++ (ys ++ drop (length ys) buffer)
first_then buffer [] ys = laid_first buffer ys
first_then buffer (x ∷ xs) ys = laid_behind x (xs ++ buffer) (length xs) ys ∙ ap (λ l. x ∷ l) (first_then buffer xs ys)

drop_further : (n m : ℕ) (l : List ℕ) → drop m (drop n l) ≡ drop (n + m) l
drop_further zero m l = ap (λ k. drop k l) (sym (zero-add m))
drop_further (suc n) m [] = go m ∙ sym (ap (λ k. drop k []) (suc-add n m))
  where
    go : (k : ℕ) → drop {A = ℕ} k [] ≡ []
    go zero = refl
    go (suc k) = refl
drop_further (suc n) m (x ∷ l) = drop_further n m l ∙ sym (ap (λ k. drop k (x ∷ l)) (suc-add n m))

laid_laid : (buffer : List ℕ) (place : ℕ) (xs ys : List ℕ) → place ≤ length buffer → laid (laid buffer place xs) (place + length xs) ys ≡ laid buffer place (xs ++ ys)
laid_laid buffer zero xs ys h =
    ap (λ l. laid l (0 + length xs) ys) (laid_first buffer xs)
    ∙ ap (λ n. laid (xs ++ drop (length xs) buffer) n ys) (zero-add (length xs))
    ∙ first_then (drop (length xs) buffer) xs ys
    ∙ ap (λ l. xs ++ (ys ++ l)) (drop_further (length xs) (length ys) buffer ∙ ap (λ n. drop n buffer) (sym (length-append xs ys)))
    ∙ sym (append_assoc xs ys _)
    ∙ sym (laid_first buffer (xs ++ ys))
laid_laid [] (suc place) xs ys h = absurd (not-suc-le-zero h)
laid_laid (x ∷ buffer) (suc place) xs ys h =
    ap (λ l. laid l (suc place + length xs) ys) (laid_behind x buffer place xs)
    ∙ ap (λ n. laid (x ∷ laid buffer place xs) n ys) (suc-add place (length xs))
    ∙ laid_behind x (laid buffer place xs) (place + length xs) ys
    ∙ ap (λ l. x ∷ l) (laid_laid buffer place xs ys (le_of_suc-le-suc h))
    ∙ sym (laid_behind x buffer place (xs ++ ys))

pub laid_then : (buffer : List ℕ) (place n : ℕ) (xs ys : List ℕ) → n ≡ place + length xs → place ≤ length buffer → laid (laid buffer place xs) n ys ≡ laid buffer place (xs ++ ys)
laid_then buffer place n xs ys behind h = ap (λ m. laid (laid buffer place xs) m ys) behind ∙ laid_laid buffer place xs ys h

-- a byte, and bytes behind it
pub laid_on : (buffer : List ℕ) (place d : ℕ) (ds : List ℕ) → place < length buffer → laid (set buffer place d) (place + 1) ds ≡ laid buffer place (d ∷ ds)
laid_on buffer place d ds h = ap (λ b. laid b (place + 1) ds) (laid_set buffer place d h) ∙ laid_then buffer place (place + 1) (d ∷ []) ds refl (omega arith)

pub laid_nothing : (buffer : List ℕ) (place : ℕ) → buffer ≡ laid buffer place []
unfolding laid
laid_nothing buffer place = rw (append-nil (take place buffer), add-zero place) (sym (take-append-drop place buffer))

-- a byte behind what was laid
pub laid_byte : (buffer : List ℕ) (place n : ℕ) (xs : List ℕ) (d : ℕ) → n ≡ place + length xs → n < length buffer → set (laid buffer place xs) n d ≡ laid buffer place (xs ++ d ∷ [])
laid_byte buffer place n xs d behind h =
    let kept : length (laid buffer place xs) ≡ length buffer = laid_length buffer place xs (omega arith) in
    laid_set (laid buffer place xs) n d (omega arith) ∙ laid_then buffer place n xs (d ∷ []) behind (omega arith)
