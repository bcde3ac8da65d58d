-- What the writer writes starts with a sign and holds only digits, one point at most. Assumes nothing.
use Rattle.std.specs.Prelude.{◌≡◌, refl, Bool, true, false, ◌||◌, List, [], ◌∷◌, ◌++◌, ℕ, zero, suc, ◌+◌, ◌/◌, ◌%◌, ◌^◌, ◌≤◌, ◌<◌, eqb}
use Rattle.std.proofs.Common.{sym, ◌∙◌, ap, append-nil, mod-lt, arith, lit<, lit≤, le-leb, eqb-true}
use Rattle.rules.specs.declared.Length.{Length}
use Rattle.rules.specs.Common.{when◌then◌else◌, between, all}
use Rattle.rules.specs.SettingsAndUnitTable.{DIGIT, SIGN, POINT, class, is}
use Rattle.rules.proofs.Laws.Choices.{and_both, if_either, all_first, all_others, all_append, all_weaken}
use Rattle.rules.specs.WriterAndShiftTotal.{decimals, no_leading_zeros, before_zeros, no_trailing_zeros, second_digits, nanosecond_digits, sign_byte, whole_digits, fraction_digits, written_fraction}

pub digit_is : (d : ℕ) → d < 10 → is DIGIT (48 + d) ≡ true
unfolding is class between when◌then◌else◌
digit_is d h = rw (le-leb 48 (48 + d) (omega arith), le-leb (48 + d) 57 (omega arith))

abbrev pub Digits : List ℕ → Type 0
Digits digits = all (is DIGIT) digits ≡ true

pub decimals_digits : (n x : ℕ) → Digits (decimals n x)
unfolding all decimals
decimals_digits zero x = refl
decimals_digits (suc n) x = and_both (digit_is (x / 10 ^ n % 10) (mod-lt (x / 10 ^ n) (lit< tt))) (decimals_digits n x)

pub leading_digits : (digits : List ℕ) → Digits digits → Digits (no_leading_zeros digits)
unfolding no_leading_zeros
leading_digits [] h = h
leading_digits (d ∷ []) h = h
leading_digits (d ∷ e ∷ digits) h =
    if_either Digits (eqb d 48) (λ _. leading_digits (e ∷ digits) (all_others (is DIGIT) d (e ∷ digits) h)) (λ _. h)

before_digits : (d : ℕ) (digits : List ℕ) → is DIGIT d ≡ true → Digits digits → Digits (before_zeros d digits)
unfolding before_zeros all
before_digits d [] p q = if_either Digits (eqb d 48) (λ _. refl) (λ _. and_both p refl)
before_digits d (e ∷ digits) p q = and_both p q

pub trailing_digits : (digits : List ℕ) → Digits digits → Digits (no_trailing_zeros digits)
unfolding no_trailing_zeros
trailing_digits [] h = h
trailing_digits (d ∷ digits) h =
    before_digits d (no_trailing_zeros digits) (all_first (is DIGIT) d digits h) (trailing_digits digits (all_others (is DIGIT) d digits h))

-- ---- a sign, digits, and perhaps a point and digits

pub written_sign : (negative : Bool) → is SIGN (sign_byte negative) ≡ true
unfolding sign_byte is class between when◌then◌else◌
written_sign true = refl
written_sign false = refl

pub whole_digits_only : (seconds : ℕ) → Digits (whole_digits seconds)
unfolding whole_digits
whole_digits_only seconds = leading_digits (decimals second_digits seconds) (decimals_digits second_digits seconds)

pub fraction_digits_only : (nanoseconds : ℕ) → Digits (fraction_digits nanoseconds)
unfolding fraction_digits
fraction_digits_only nanoseconds = trailing_digits (decimals nanosecond_digits nanoseconds) (decimals_digits nanosecond_digits nanoseconds)

-- how many points stand in a text
unfoldable pub points : List ℕ → ℕ
points [] = 0
points (b ∷ rest) = when is POINT b then suc (points rest) else points rest

digit_no_point : (b : ℕ) → is DIGIT b ≡ true → is POINT b ≡ false
unfolding is
digit_no_point b e = rw (eqb-true (class b) DIGIT e)

points_after : (digits rest : List ℕ) → Digits digits → points (digits ++ rest) ≡ points rest
unfolding points when◌then◌else◌
points_after [] rest h = refl
points_after (d ∷ digits) rest h =
    rw (digit_no_point d (all_first (is DIGIT) d digits h)) (points_after digits rest (all_others (is DIGIT) d digits h))

points_none : (digits : List ℕ) → Digits digits → points digits ≡ 0
unfolding points
points_none digits h = sym (ap points (append-nil digits)) ∙ points_after digits [] h

points_one : (rest : List ℕ) → points (46 ∷ rest) ≡ suc (points rest)
unfolding points is class between when◌then◌else◌
points_one rest = refl

abbrev Decimal : List ℕ → Type 0
Decimal bytes = all (λ b. is DIGIT b || is POINT b) bytes ≡ true

decimal_digits : (digits : List ℕ) → Digits digits → Decimal digits
decimal_digits digits h = all_weaken (is DIGIT) (λ b. is DIGIT b || is POINT b) (λ b e. rw e) digits h

decimal_none : Decimal []
unfolding all
decimal_none = refl

decimal_point : (rest : List ℕ) → Decimal rest → Decimal (46 ∷ rest)
unfolding all is class between when◌then◌else◌
decimal_point rest h = h

-- after the sign: only digits and points, one point at most
pub written_decimal : (l : Length) → Decimal (whole_digits l.seconds ++ written_fraction l.nanoseconds)
unfolding written_fraction
written_decimal l =
    all_append _ (whole_digits l.seconds) _ (decimal_digits _ (whole_digits_only l.seconds))
    (if_either Decimal (eqb l.nanoseconds 0) (λ _. decimal_none) (λ _. decimal_point _ (decimal_digits _ (fraction_digits_only l.nanoseconds))))

pub written_points : (l : Length) → points (whole_digits l.seconds ++ written_fraction l.nanoseconds) ≤ 1
unfolding written_fraction all
written_points l =
    rw (points_after (whole_digits l.seconds) (written_fraction l.nanoseconds) (whole_digits_only l.seconds))
    (if_either (λ bytes. points bytes ≤ 1) (eqb l.nanoseconds 0) (λ _. rw (points_none [] refl) (lit≤ tt))
    (λ _. rw (points_one, points_none (fraction_digits l.nanoseconds) (fraction_digits_only l.nanoseconds)) (lit≤ tt)))
