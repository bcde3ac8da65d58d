-- Where no running sum passes the largest length the clamped sum is the sum of lengths, exactly. Assumes nothing.
use Rattle.std.specs.Prelude.{◌≡◌, Bool, List, [], ◌∷◌, ℕ, ◌+◌, ◌-◌, ◌/◌, ◌%◌, ◌^◌, ◌≤◌, ◌<◌, leb, ltb, eqb}
use Rattle.std.proofs.Math.Path.{refl, ap}
use Rattle.std.proofs.Common.{sym, ◌∙◌, div-add-mod', arith, le-ltb, ltb-true, ltb-false, leb-true, leb-false, eqb-true}
use Rattle.std.proofs.Math.Bool.{true, false, beq}
use Rattle.std.proofs.lemmas.Bool.{false≢true, lt-leb, eqb-false}
use Rattle.rules.specs.declared.Length.{Length}
use Rattle.rules.specs.Common.{when◌then◌else◌}
use Rattle.rules.specs.ThePartOfTheCrateWeTake.{zero_length, size}
use Rattle.rules.specs.Evaluation.{length_of, sum, sum_all}
use Rattle.rules.proofs.Laws.Choices.{and_left, and_right}
use Rattle.rules.proofs.Laws.Lengths.{limit}
use Rattle.rules.proofs.Laws.Apart.{sum_alike, sum_first, sum_second}
use Rattle.readback.specs.ExactSum.{plus, minus, all_plus, all_minus, apart_by, difference, stays}

-- ---- one sum

difference_size : (p m : ℕ) → size (difference p m) ≡ apart_by p m
unfolding size difference
difference_size p m = div-add-mod' (apart_by p m) (10 ^ 9)

-- so many nanoseconds with the sign of the difference are the difference
length_of_difference :
    (negative : Bool) (r p m : ℕ)
    → r ≡ apart_by p m
    → apart_by p m < limit
    → (negative ≡ true → p ≤ m)
    → (negative ≡ false → m ≤ p)
    → length_of negative r ≡ difference p m
unfolding length_of difference when◌then◌else◌ zero_length
length_of_difference negative r p m is below lower upper = rw is (go (eqb (apart_by p m) 0) refl)
  where
    other_by : p ≤ m → (apart_by p m ≡ 0 → ⊥) → (b : Bool) → ltb p m ≡ b → true ≡ b
    other_by h some true e = refl
    other_by h some false e = absurd (some (omega (arith, ltb-false p m e)))

    sign : (b : Bool) → negative ≡ b → (apart_by p m ≡ 0 → ⊥) → b ≡ ltb p m
    sign true e some = other_by (lower e) some (ltb p m) refl
    sign false e some = sym (le-ltb p m (upper e))

    go : (b : Bool) → eqb (apart_by p m) 0 ≡ b → length_of negative (apart_by p m) ≡ difference p m
    go true e = let none : apart_by p m ≡ 0 = eqb-true (apart_by p m) 0 e in rw (none, le-ltb p m (omega (arith, none)))
    go false e =
        rw (e, lt-leb limit (apart_by p m) below)
        (ap (λ b. record { negative = b; seconds = apart_by p m / 10 ^ 9; nanoseconds = apart_by p m % 10 ^ 9 }) (sign negative refl (eqb-false (apart_by p m) 0 e)))

with_plus : (l : Length) → l.negative ≡ false → (plus l ≡ size l) × (minus l ≡ 0)
unfolding plus minus when◌then◌else◌
with_plus l e = rw e (refl, refl)

with_minus : (l : Length) → l.negative ≡ true → (plus l ≡ 0) × (minus l ≡ size l)
unfolding plus minus when◌then◌else◌
with_minus l e = rw e (refl, refl)

-- a length more: its nanoseconds go to those of its sign
module _ (p m : ℕ) (l : Length) (below : apart_by (p + plus l) (m + minus l) < limit) where
  abbrev so_far : Length
  so_far = difference p m

  to_plus : (r : ℕ) → sum so_far l ≡ length_of false r → r ≡ apart_by (p + plus l) (m + minus l) → m + minus l ≤ p + plus l → sum so_far l ≡ difference (p + plus l) (m + minus l)
  to_plus r e is h = e ∙ length_of_difference false r (p + plus l) (m + minus l) is below (λ z. absurd (false≢true z)) (λ _. h)

  to_minus : (r : ℕ) → sum so_far l ≡ length_of true r → r ≡ apart_by (p + plus l) (m + minus l) → p + plus l ≤ m + minus l → sum so_far l ≡ difference (p + plus l) (m + minus l)
  to_minus r e is h = e ∙ length_of_difference true r (p + plus l) (m + minus l) is below (λ _. h) (λ z. absurd (false≢true (sym z)))

  module _ (size_so_far : size so_far ≡ apart_by p m) where
    -- of one sign they are added, of two the smaller is taken from the larger
    alike : (b : Bool) → ltb p m ≡ b → l.negative ≡ b → sum so_far l ≡ length_of b (size so_far + size l)
    unfolding difference
    alike b e f = sum_alike so_far l (rw (e, f) (same b)) ∙ ap (λ n. length_of n (size so_far + size l)) e
      where
        same : (b : Bool) → beq b b ≡ true
        same true = refl
        same false = refl

    module _ (b c : Bool) (e : ltb p m ≡ b) (f : l.negative ≡ c) (other : beq b c ≡ false) where
      signs : beq so_far.negative l.negative ≡ false
      unfolding difference
      signs = rw (e, f) other

      longer : leb (size l) (size so_far) ≡ true → sum so_far l ≡ length_of b (size so_far - size l)
      unfolding difference
      longer g = sum_first so_far l signs g ∙ ap (λ n. length_of n (size so_far - size l)) e

      shorter : leb (size l) (size so_far) ≡ false → sum so_far l ≡ length_of c (size l - size so_far)
      shorter g = sum_second so_far l signs g ∙ ap (λ n. length_of n (size l - size so_far)) f

    sum_difference : sum so_far l ≡ difference (p + plus l) (m + minus l)
    sum_difference = go (ltb p m) l.negative (leb (size l) (size so_far)) refl refl refl
      where
        go : (b c d : Bool) → ltb p m ≡ b → l.negative ≡ c → leb (size l) (size so_far) ≡ d → sum so_far l ≡ difference (p + plus l) (m + minus l)
        go false false d e f g =
            let k = with_plus l f in
            let h = ltb-false p m e in
            to_plus (size so_far + size l) (alike false e f) (omega (arith, k.0, k.1, h, size_so_far)) (omega (arith, k.0, k.1, h))
        go true true d e f g =
            let k = with_minus l f in
            let h = ltb-true p m e in
            to_minus (size so_far + size l) (alike true e f) (omega (arith, k.0, k.1, h, size_so_far)) (omega (arith, k.0, k.1, h))
        go false true true e f g =
            let k = with_minus l f in
            let h = ltb-false p m e in
            let o = leb-true (size l) (size so_far) g in
            to_plus (size so_far - size l) (longer false true e f refl g) (omega (arith, k.0, k.1, h, o, size_so_far)) (omega (arith, k.0, k.1, h, o, size_so_far))
        go false true false e f g =
            let k = with_minus l f in
            let h = ltb-false p m e in
            let o = leb-false (size l) (size so_far) g in
            to_minus (size l - size so_far) (shorter false true e f refl g) (omega (arith, k.0, k.1, h, o, size_so_far)) (omega (arith, k.0, k.1, h, o, size_so_far))
        go true false true e f g =
            let k = with_plus l f in
            let h = ltb-true p m e in
            let o = leb-true (size l) (size so_far) g in
            to_minus (size so_far - size l) (longer true false e f refl g) (omega (arith, k.0, k.1, h, o, size_so_far)) (omega (arith, k.0, k.1, h, o, size_so_far))
        go true false false e f g =
            let k = with_plus l f in
            let h = ltb-true p m e in
            let o = leb-false (size l) (size so_far) g in
            to_plus (size l - size so_far) (shorter true false e f refl g) (omega (arith, k.0, k.1, h, o, size_so_far)) (omega (arith, k.0, k.1, h, o, size_so_far))

pub sum_all_difference : (p m : ℕ) (lengths : List Length) → stays p m lengths ≡ true → sum_all (difference p m) lengths ≡ difference (all_plus p lengths) (all_minus m lengths)
unfolding stays sum_all all_plus all_minus
sum_all_difference p m [] h = refl
sum_all_difference p m (l ∷ more) h =
    let below = ltb-true (apart_by (p + plus l) (m + minus l)) limit (and_left (ltb (apart_by (p + plus l) (m + minus l)) limit) (stays (p + plus l) (m + minus l) more) h) in
    ap (λ so_far. sum_all so_far more) (sum_difference p m l below (difference_size p m))
    ∙ sum_all_difference (p + plus l) (m + minus l) more (and_right (ltb (apart_by (p + plus l) (m + minus l)) limit) (stays (p + plus l) (m + minus l) more) h)
