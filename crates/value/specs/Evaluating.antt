-- Laws of evaluation: what was typed, moved by its powers of ten, is either too large or seconds and attoseconds. Assumes nothing.
use Rattle.std.specs.Prelude.{◌≡◌, refl, Bool, true, false, List, ℕ, ◌+◌, ◌*◌, ◌/◌, ◌%◌, ◌^◌, ◌≤◌, ◌<◌, ltb, Option, Some, None, is_some}
use Rattle.std.proofs.Common.{sym, ◌∙◌, ap, zero-le, add-zero, one-mul, mul-le-mul_right, le_trans, le_of_eq, pos_of_ne-zero, le-div_iff_mul-le, div-add-mod', mod-lt, arith, ltb-false, lit<}
use Rattle.std.specs.Bool.{xor}
use Rattle.rules.specs.declared.Multiplier.{Multiplier}
use Rattle.rules.specs.declared.DurationRepr.{DurationRepr}
use Rattle.rules.specs.Common.{when◌then◌else◌}
use Rattle.rules.specs.ThePartOfTheCrateWeTake.{zero_length, largest}
use Rattle.rules.specs.Evaluation.{digits_of, up, down, attos, nanos, length_of, evaluate, worth}
use Rattle.rules.proofs.Laws.Apart.{none, nanos_none}
use Rattle.rules.proofs.Laws.Lengths.{limit, size_clamped}
use Rattle.value.specs.Numbers.{summed, Spans, counted, counted_attos, attos_of, evaluate_counted, shifted_of}
use Rattle.value.specs.Digits.{counted_summed}
use Rattle.value.specs.Sums.{digits_none}
use Rattle.std.proofs.lemmas.Bool.{false≢true}
use Rattle.value.specs.declared.number.Shifted.{Shifted}
use Rattle.value.specs.Places.{spans_none}

-- ---- the typed exponent goes to the powers of its sign

module _ (text : List ℕ) (d : DurationRepr) (number : ℕ) where
  pub typed_down : d.exponent.negative ≡ true → {above below : ℕ} → above ≡ d.multiplier.up → below ≡ d.multiplier.down + d.exponent.power → counted_attos number text d.whole d.fract above below ≡ attos_of text d number
  unfolding attos_of up down when◌then◌else◌
  typed_down e f g = rw (f, g, e, add-zero)

  pub typed_up : d.exponent.negative ≡ false → {above below : ℕ} → above ≡ d.multiplier.up + d.exponent.power → below ≡ d.multiplier.down → counted_attos number text d.whole d.fract above below ≡ attos_of text d number
  unfolding attos_of up down when◌then◌else◌
  typed_up e f g = rw (f, g, e, add-zero)

  -- one of zero changes neither
  pub typed_none : d.exponent.power ≤ 0 → {above below : ℕ} → above ≡ d.multiplier.up → below ≡ d.multiplier.down → counted_attos number text d.whole d.fract above below ≡ attos_of text d number
  typed_none z {above} {below} f g = go d.exponent.negative refl
    where
      go : (b : Bool) → d.exponent.negative ≡ b → counted_attos number text d.whole d.fract above below ≡ attos_of text d number
      go true e = typed_down e f (omega arith)
      go false e = typed_up e (omega arith) g

  -- ---- what the length is, case by case

  pub evaluate_infinite : d.infinite ≡ true → evaluate_counted text d number ≡ largest d.negative
  unfolding evaluate_counted when◌then◌else◌
  evaluate_infinite e = rw e

  pub evaluate_finite : d.infinite ≡ false → evaluate_counted text d number ≡ length_of (xor d.negative d.multiplier.negative) (nanos d.multiplier.coefficient (attos_of text d number))
  unfolding evaluate_counted when◌then◌else◌
  evaluate_finite e = rw e

  pub evaluate_nothing : d.infinite ≡ false → d.multiplier.coefficient ≡ 0 → evaluate_counted text d number ≡ zero_length
  evaluate_nothing e z =
      evaluate_finite e ∙ ap (length_of (xor d.negative d.multiplier.negative)) (ap (λ c. nanos c (attos_of text d number)) z ∙ nanos_none (attos_of text d number)) ∙ none _

-- ---- too large, or seconds and attoseconds

-- what a shifted number says of its attoseconds
pub record Parts (a : ℕ) (found : Shifted) : Type 0 where
  pub whole : found.seconds * 10 ^ 18 + found.attos ≡ a
  pub below : found.attos < 10 ^ 18

shifted_or_nothing : Option Shifted → Shifted
shifted_or_nothing (Some found) = found
shifted_or_nothing None = record { seconds = 0; attos = 0 }

pub fits_parts : (a : ℕ) (found : Shifted) → shifted_of a ≡ Some found → Parts a found
unfolding shifted_of when◌then◌else◌ shifted_or_nothing
fits_parts a found e = go (ltb (a / 10 ^ 18) (2 ^ 64)) refl
  where
    go : (b : Bool) → ltb (a / 10 ^ 18) (2 ^ 64) ≡ b → Parts a found
    go true t =
        let f : record { seconds = a / 10 ^ 18; attos = a % 10 ^ 18 } ≡ found = ap shifted_or_nothing (rw t at e) in
        rw (← f) (record { whole = div-add-mod' a (10 ^ 18); below = mod-lt a (lit< tt) })
    go false t = absurd (false≢true (ap is_some (rw t at e)))

pub too_many : (a : ℕ) → shifted_of a ≡ None → 2 ^ 64 * 10 ^ 18 ≤ a
unfolding shifted_of when◌then◌else◌
too_many a e = go (ltb (a / 10 ^ 18) (2 ^ 64)) refl
  where
    go : (b : Bool) → ltb (a / 10 ^ 18) (2 ^ 64) ≡ b → 2 ^ 64 * 10 ^ 18 ≤ a
    go true t = absurd (false≢true (sym (ap is_some (rw t at e))))
    go false t = (le-div_iff_mul-le (lit< tt)).0 (ltb-false (a / 10 ^ 18) (2 ^ 64) t)

-- a number of seconds that 64 bits do not hold passes the largest length, whatever multiplies it
pub large_passes : (c a : ℕ) → (c ≡ 0 → ⊥) → 2 ^ 64 * 10 ^ 18 ≤ a → limit ≤ nanos c a
unfolding nanos
large_passes c a some h =
    (le-div_iff_mul-le {k = 10 ^ 9} {x = limit} {y = c * a} (lit< tt)).1 (le_trans h (le_trans (le_of_eq (sym (one-mul a))) (mul-le-mul_right a (pos_of_ne-zero some))))

module _ (text : List ℕ) (d : DurationRepr) (number : ℕ) (finite : d.infinite ≡ false) where
  pub evaluate_large : (d.multiplier.coefficient ≡ 0 → ⊥) → shifted_of (attos_of text d number) ≡ None → evaluate_counted text d number ≡ largest (xor d.negative d.multiplier.negative)
  evaluate_large some e =
      evaluate_finite text d number finite ∙ size_clamped _ _ (large_passes d.multiplier.coefficient (attos_of text d number) some (too_many (attos_of text d number) e))

  pub evaluate_fits : (found : Shifted) → shifted_of (attos_of text d number) ≡ Some found → evaluate_counted text d number ≡ length_of (xor d.negative d.multiplier.negative) (nanos d.multiplier.coefficient (found.seconds * 10 ^ 18 + found.attos))
  evaluate_fits found e =
      evaluate_finite text d number finite
      ∙ ap (λ a. length_of (xor d.negative d.multiplier.negative) (nanos d.multiplier.coefficient a)) (sym (fits_parts (attos_of text d number) found e).whole)

-- ---- a typed number, and a spoken one

-- beside the sum of its digits a number is evaluated as document 01 says
pub evaluate_summed : (text : List ℕ) (d : DurationRepr) {number : ℕ} → number ≡ summed 0 (digits_of text d.whole d.fract) → evaluate_counted text d number ≡ evaluate text d
unfolding evaluate_counted evaluate attos_of
evaluate_summed text d sum = rw (counted_summed (digits_of text d.whole d.fract) sum)

-- a multiplier alone: no digits, and no exponent
abbrev pub one : Bool → Multiplier → DurationRepr
one negative m = record {
  negative = negative;
  infinite = false;
  whole = record { start = 0; end = 0 };
  fract = record { start = 0; end = 0 };
  exponent = record { negative = false; power = 0 };
  multiplier = m;
}

-- its spans lie in every text
pub no_digits : (text : List ℕ) → Spans text (record { start = 0; end = 0 }) (record { start = 0; end = 0 })
no_digits text = spans_none text 0 zero-le

-- 1 times a multiplier is what that is worth
pub evaluate_one : (text : List ℕ) (negative : Bool) (m : Multiplier) → evaluate_counted text (one negative m) 1 ≡ worth negative m
unfolding evaluate_counted attos_of counted up down worth when◌then◌else◌
evaluate_one text negative m = rw (digits_none text 0, add-zero m.up, add-zero m.down)
