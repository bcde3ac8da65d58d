-- The number that digits spell, and that the digits which are written spell the number that they were made of. Assumes nothing.
use Rattle.std.specs.Prelude.{◌≡◌, refl, Bool, true, false, List, [], ◌∷◌, ◌++◌, ℕ, zero, suc, ◌+◌, ◌*◌, ◌-◌, ◌/◌, ◌%◌, ◌^◌, ◌≤◌, ◌<◌, eqb, length}
use Rattle.std.proofs.Common.{sym, ap, ◌∙◌, add-zero, mul_comm, mul_assoc, div-lt_iff_lt-mul, arith, eqb-true, lit<}
use Rattle.std.proofs.Math.Nat.{sub-zero, pow-succ'}
use Rattle.rules.specs.Common.{when◌then◌else◌}
use Rattle.rules.specs.Evaluation.{spelled}
use Rattle.rules.specs.WriterAndShiftTotal.{decimals, no_leading_zeros, before_zeros, no_trailing_zeros, second_digits, nanosecond_digits, whole_digits, fraction_digits}
use Rattle.rules.proofs.Laws.Choices.{if_either}
use Rattle.writing.specs.Digits.{decimals_length, decimals_last}

pub spelled_append : (n : ℕ) (xs ys : List ℕ) → spelled n (xs ++ ys) ≡ spelled (spelled n xs) ys
unfolding spelled
spelled_append n [] ys = refl
spelled_append n (x ∷ xs) ys = spelled_append (n * 10 + (x - 48)) xs ys

-- all digits of a number below that power of ten, behind what was spelled
pub spelled_decimals : (n k x : ℕ) → x < 10 ^ k → spelled n (decimals k x) ≡ n * 10 ^ k + x
unfolding spelled decimals
spelled_decimals n zero x h = omega arith
spelled_decimals n (suc k) x h =
    let fewer : x / 10 < 10 ^ k = (div-lt_iff_lt-mul (lit< tt)).1 (rw (pow-succ' 10 k, mul_comm 10 (10 ^ k)) at h) in
    let power : n * 10 ^ suc k ≡ n * 10 ^ k * 10 = ap (λ p. n * p) (pow-succ' 10 k ∙ mul_comm 10 (10 ^ k)) ∙ sym (mul_assoc n (10 ^ k) 10) in
    ap (spelled n) (decimals_last k x)
    ∙ spelled_append n (decimals k (x / 10)) ((48 + x % 10) ∷ [])
    ∙ rw (spelled_decimals n k (x / 10) fewer, power) (omega arith)

-- leading zeros spell nothing
pub spelled_leading : (digits : List ℕ) → spelled 0 (no_leading_zeros digits) ≡ spelled 0 digits
unfolding no_leading_zeros spelled when◌then◌else◌
spelled_leading [] = refl
spelled_leading (d ∷ []) = refl
spelled_leading (d ∷ e ∷ digits) = go (eqb d 48) refl (spelled_leading (e ∷ digits))
  where
    go :
        (b : Bool)
        → eqb d 48 ≡ b
        → spelled 0 (no_leading_zeros (e ∷ digits)) ≡ spelled 0 (e ∷ digits)
        → spelled 0 (when b then no_leading_zeros (e ∷ digits) else d ∷ e ∷ digits) ≡ spelled 0 (d ∷ e ∷ digits)
    go true z more = more ∙ rw (eqb-true d 48 z)
    go false z more = refl

-- trailing zeros are powers of ten: with as many of these as digits were dropped, what is left spells the same
pub spelled_trailing : (n : ℕ) (digits : List ℕ) → spelled n (no_trailing_zeros digits) * 10 ^ (length digits - length (no_trailing_zeros digits)) ≡ spelled n digits
unfolding no_trailing_zeros before_zeros spelled when◌then◌else◌
spelled_trailing n [] = omega arith
spelled_trailing n (d ∷ digits) = go (no_trailing_zeros digits) (eqb d 48) refl (spelled_trailing (n * 10 + (d - 48)) digits)
  where
    more : ℕ
    more = n * 10 + (d - 48)

    kept : (rest : List ℕ) → suc (length digits) - suc (length rest) ≡ length digits - length rest
    kept rest = omega arith

    ten : (k : ℕ) → n * 10 ^ suc k ≡ (n * 10 + 0) * 10 ^ k
    ten k = rw (pow-succ' 10 k, add-zero (n * 10), mul_assoc n 10 (10 ^ k))

    go :
        (rest : List ℕ) (b : Bool)
        → eqb d 48 ≡ b
        → spelled more rest * 10 ^ (length digits - length rest) ≡ spelled more digits
        → spelled n (before_zeros d rest) * 10 ^ (length (d ∷ digits) - length (before_zeros d rest)) ≡ spelled more digits
    go [] true z h =
        let zero_digit : 0 ≡ d - 48 = omega (arith, eqb-true d 48 z) in
        rw z
        (ap (λ k. n * 10 ^ k) (sub-zero (suc (length digits)))
        ∙ ten (length digits)
        ∙ ap (λ m. (n * 10 + m) * 10 ^ length digits) zero_digit
        ∙ ap (λ k. more * 10 ^ k) (sym (sub-zero (length digits)))
        ∙ h)
    go [] false z h = rw z (ap (λ k. more * 10 ^ k) (kept []) ∙ h)
    go (e ∷ rest) b z h = rw (kept (e ∷ rest)) h

-- ---- what the written digits of seconds and of nanoseconds spell

pub spelled_whole : (seconds : ℕ) → seconds < 2 ^ 64 → spelled 0 (whole_digits seconds) ≡ seconds
unfolding whole_digits
spelled_whole seconds h = spelled_leading (decimals second_digits seconds) ∙ spelled_decimals 0 second_digits seconds (omega arith) ∙ omega arith

trailing_fewer : (digits : List ℕ) → length (no_trailing_zeros digits) ≤ length digits
unfolding no_trailing_zeros before_zeros
trailing_fewer [] = omega arith
trailing_fewer (d ∷ digits) = go (no_trailing_zeros digits) (trailing_fewer digits)
  where
    go : (rest : List ℕ) → length rest ≤ length digits → length (before_zeros d rest) ≤ suc (length digits)
    go [] h = if_either (λ l. length l ≤ suc (length digits)) (eqb d 48) {x = []} {y = d ∷ []} (λ _. omega arith) (λ _. omega arith)
    go (e ∷ rest) h = omega arith

pub fraction_few : (nanoseconds : ℕ) → length (fraction_digits nanoseconds) ≤ 9
unfolding fraction_digits
fraction_few nanoseconds = omega (arith, trailing_fewer (decimals nanosecond_digits nanoseconds), decimals_length nanosecond_digits nanoseconds)

-- a number, and behind it the decimals of nanoseconds
pub spelled_fraction : (n nanoseconds : ℕ) → nanoseconds < 10 ^ 9 → spelled n (fraction_digits nanoseconds) * 10 ^ (9 - length (fraction_digits nanoseconds)) ≡ n * 10 ^ 9 + nanoseconds
unfolding fraction_digits
spelled_fraction n nanoseconds h =
    let digits : List ℕ = decimals nanosecond_digits nanoseconds in
    ap (λ k. spelled n (no_trailing_zeros digits) * 10 ^ (k - length (no_trailing_zeros digits))) (sym (decimals_length nanosecond_digits nanoseconds))
    ∙ spelled_trailing n digits
    ∙ spelled_decimals n nanosecond_digits nanoseconds h
