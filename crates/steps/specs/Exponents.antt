-- Laws of an exponent's digits, one after another. Assumes nothing.
use Rattle.std.specs.Prelude.{◌≡◌, Bool, List, ℕ, ◌+◌, ◌*◌, ◌-◌, ◌≤◌, ◌<◌, eqb, length, get_or, drop}
use Rattle.std.proofs.Math.Path.{refl}
use Rattle.std.proofs.Common.{ap, lit≤, drop_of_length-le, drop-cons}
use Rattle.std.proofs.Math.Bool.{true, false}
use Rattle.std.proofs.Math.Numerals.{add-one}
use native.Mathlib.Omega.{arith}
use borrow.Author.Tests.{le-leb, lt-leb}
use Rattle.rules.specs.declared.Settings.{Settings}
use Rattle.rules.specs.declared.Scaled.{Scaled}
use Rattle.rules.specs.declared.Signed.{Signed}
use Rattle.rules.specs.declared.Refusal.TheVariants.{ExponentOff, ExponentByte, ExponentEnds}
use Rattle.rules.specs.Common.{when◌then◌else◌, ends, sees}
use Rattle.rules.specs.NumbersHandedBack.{Outcome, got, refused}
use Rattle.rules.specs.SettingsAndUnitTable.{DIGIT, SIGN, is}
use Rattle.rules.specs.ReadingOnePart.{same_letter, exponent_limit, exponent_passed, exponent_digits, exponent_number, exponent_step}
use Rattle.rules.proofs.Laws.Texts.{sees_here, sees_end}
use Rattle.steps.specs.Signs.{sign_at}

pub limit_small : (negative : Bool) → exponent_limit negative ≤ 32768
unfolding exponent_limit when◌then◌else◌
limit_small true = lit≤ tt
limit_small false = lit≤ tt

-- an exponent of this sign and power that ends at the place
abbrev pub scaled_at : Bool → ℕ → ℕ → Outcome Scaled
scaled_at negative power place = got (record { exponent = record { negative = negative; power = power }; next = place })

-- the digits from the place on, after those that spelled `power`
abbrev pub digits_from : Bool → List ℕ → ℕ → ℕ → Outcome Scaled
digits_from negative text power place = exponent_digits negative (drop place text) power place

module _ (negative : Bool) (text : List ℕ) (power place : ℕ) where
  pub digits_end : length text ≤ place → digits_from negative text power place ≡ scaled_at negative power place
  unfolding exponent_digits
  digits_end h = rw (drop_of_length-le text h)

  module _ (h : place < length text) where
    pub digits_stop : is DIGIT (get_or text place 0) ≡ false → digits_from negative text power place ≡ scaled_at negative power place
    unfolding exponent_digits when◌then◌else◌
    digits_stop e = rw (drop-cons text place 0 h, e)

    module _ (d : is DIGIT (get_or text place 0) ≡ true) where
      pub digits_passed :
          exponent_limit negative < power * 10 + (get_or text place 0 - 48)
          → digits_from negative text power place ≡ refused (exponent_passed negative place)
      unfolding exponent_digits when◌then◌else◌
      digits_passed k = rw (drop-cons text place 0 h, d, lt-leb _ _ k)

      pub digits_more :
          power * 10 + (get_or text place 0 - 48) ≤ exponent_limit negative
          → digits_from negative text power place ≡ digits_from negative text (power * 10 + (get_or text place 0 - 48)) (place + 1)
      unfolding exponent_digits when◌then◌else◌
      digits_more k = rw (drop-cons text place 0 h, d, le-leb _ _ k, add-one place)

-- ---- the number after the sign

module _ (text : List ℕ) (negative : Bool) (place : ℕ) where
  pub number_ends : length text ≤ place → refused (ExponentEnds place) ≡ exponent_number text negative place
  unfolding exponent_number ends when◌then◌else◌
  number_ends h = rw (sees_end (is DIGIT) text place h, le-leb (length text) place h)

  module _ (h : place < length text) where
    pub number_byte : is DIGIT (get_or text place 0) ≡ false → refused (ExponentByte place) ≡ exponent_number text negative place
    unfolding exponent_number ends when◌then◌else◌
    number_byte e = rw (sees_here (is DIGIT) text place h, e, lt-leb (length text) place h)

    pub number_digits : is DIGIT (get_or text place 0) ≡ true → digits_from negative text 0 place ≡ exponent_number text negative place
    unfolding exponent_number when◌then◌else◌
    number_digits e = rw (sees_here (is DIGIT) text place h, e)

-- ---- the whole step

module _ (s : Settings) (text : List ℕ) (place : ℕ) where
  pub exponent_none : sees (same_letter 101) text place ≡ false → scaled_at false 0 place ≡ exponent_step s text place
  unfolding exponent_step when◌then◌else◌
  exponent_none e = rw e

  module _ (e : sees (same_letter 101) text place ≡ true) where
    pub exponent_off : s.exponents ≡ false → refused (ExponentOff place) ≡ exponent_step s text place
    unfolding exponent_step when◌then◌else◌
    exponent_off off = rw (e, off)

    pub exponent_on :
        s.exponents ≡ true
        → {sign : Signed}
        → sign ≡ sign_at text (place + 1)
        → exponent_number text sign.negative sign.next ≡ exponent_step s text place
    unfolding exponent_step sign_at when◌then◌else◌
    exponent_on on f = rw (e, on, f) (ap (exponent_number text (sees (eqb 45) text (place + 1))) (after (sees (is SIGN) text (place + 1))))
      where
        after : (c : Bool) → (when c then place + 1 + 1 else place + 1) ≡ (when c then place + 2 else place + 1)
        after true = omega arith
        after false = refl
