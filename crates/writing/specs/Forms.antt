-- What is written of a length, from its digits; and what the writer answers, in the order of its refusals. Assumes nothing.
use Rattle.std.specs.Prelude.{◌≡◌, Bool, ℕ, zero, suc, ◌+◌, ◌-◌, ◌/◌, ◌%◌, ◌^◌, ◌≤◌, ◌<◌, eqb, set}
use Rattle.std.proofs.Math.Path.{refl, ap}
use Rattle.std.proofs.Common.{sym, ◌∙◌, div-lt_iff_lt-mul, mul_comm, arith, lit<, length-append}
use Rattle.std.proofs.Math.Bool.{true, false}
use mathlib.Core.List.{List, [], ◌∷◌, ◌++◌}
use Rattle.std.proofs.Math.Nat.{pow-succ'}
use borrow.Author.Tests.{le-leb, lt-leb, eqb-true, eqb-false, ne_eqb}
use Rattle.std.proofs.Math.ListN.{length}
use Rattle.rules.specs.declared.Length.{Length}
use Rattle.rules.specs.declared.Refusal.TheVariants.{NoRoom, Beyond, Malformed}
use Rattle.rules.specs.Common.{when◌then◌else◌}
use Rattle.rules.specs.NumbersHandedBack.{◌>>◌, unless, done, refusal, answered}
use Rattle.rules.specs.ThePartOfTheCrateWeTake.{well_formed}
use Rattle.rules.specs.WriterAndShiftTotal.{decimals, sign_byte, before_zeros, no_trailing_zeros, whole_digits, fraction_digits, written_fraction, written, writing, buffer_after}
use Rattle.rules.specs.WhatEveryEntryOwes.{write_answer, written_buffer}
use Rattle.rules.proofs.Laws.Choices.{if_either}
use Rattle.rules.proofs.Laws.Apart.{proper}
use Rattle.writing.specs.declared.digits.Decimal.{Decimal}
use Rattle.writing.specs.Digits.{decimals_length, trailing_kept, trailing_dropped}
use Rattle.writing.specs.Laid.{laid, laid_then, laid_on, laid_nothing}

-- how many bytes the decimals take: none, or a point and they
unfoldable pub fraction_size : ℕ → ℕ
fraction_size count = when eqb count 0 then 0 else 1 + count

pub fraction_size_most : (count : ℕ) → count ≤ 9 → fraction_size count ≤ 10
unfolding fraction_size
fraction_size_most count h = if_either (λ n. n ≤ 10) (eqb count 0) (λ _. omega arith) (λ _. omega arith)

-- and a length: its sign, its seconds and its decimals
abbrev pub form_size : ℕ → ℕ → ℕ
form_size whole fract = 1 + whole + fraction_size fract

-- the decimals of a number of which there are some, behind a point
unfoldable pub behind_point : Decimal → List ℕ
behind_point d = when eqb d.count 0 then [] else 46 ∷ decimals d.count d.number

unfoldable pub form_bytes : ℕ → Decimal → Decimal → List ℕ
form_bytes sign whole fract = sign ∷ (decimals whole.count whole.number ++ behind_point fract)

module _ (d : Decimal) where
  pub behind_length : length (behind_point d) ≡ fraction_size d.count
  unfolding behind_point fraction_size when◌then◌else◌
  behind_length = go (eqb d.count 0)
    where
      go : (b : Bool) → length (when b then [] else 46 ∷ decimals d.count d.number) ≡ (when b then 0 else 1 + d.count)
      go true = refl
      go false = rw (decimals_length d.count d.number) (omega arith)

  pub form_length : (sign : ℕ) (whole : Decimal) → length (form_bytes sign whole d) ≡ form_size whole.count d.count
  unfolding form_bytes
  form_length sign whole = rw (length-append (decimals whole.count whole.number) (behind_point d), decimals_length whole.count whole.number, behind_length) (omega arith)

  module _ (none : d.count ≡ 0) where
    pub no_fraction_size : 0 ≡ fraction_size d.count
    unfolding fraction_size when◌then◌else◌
    no_fraction_size = rw none

    pub no_fraction : (buffer : List ℕ) (point : ℕ) → buffer ≡ laid buffer point (behind_point d)
    unfolding behind_point when◌then◌else◌
    no_fraction buffer point = laid_nothing buffer point ∙ ap (laid buffer point) (rw none)

  module _ (some : d.count ≡ 0 → ⊥) where
    pub some_fraction_size : 1 + d.count ≡ fraction_size d.count
    unfolding fraction_size when◌then◌else◌
    some_fraction_size = rw (ne_eqb d.count 0 some)

    pub some_fraction : (buffer : List ℕ) (point : ℕ) → point < length buffer → laid (set buffer point 46) (point + 1) (decimals d.count d.number) ≡ laid buffer point (behind_point d)
    unfolding behind_point when◌then◌else◌
    some_fraction buffer point h = laid_on buffer point 46 (decimals d.count d.number) h ∙ ap (laid buffer point) (rw (ne_eqb d.count 0 some))

-- the sign, behind it the seconds, and behind them the decimals
pub form_laid :
    (buffer : List ℕ) (place sign : ℕ) (whole fract : Decimal)
    → place < length buffer
    → laid (laid (set buffer place sign) (place + 1) (decimals whole.count whole.number)) (place + 1 + whole.count) (behind_point fract) ≡ laid buffer place (form_bytes sign whole fract)
unfolding form_bytes
form_laid buffer place sign whole fract h =
    let digits : List ℕ = decimals whole.count whole.number in
    ap (λ b. laid b (place + 1 + whole.count) (behind_point fract)) (laid_on buffer place sign digits h)
    ∙ laid_then buffer place (place + 1 + whole.count) (sign ∷ digits) (behind_point fract) (omega (arith, decimals_length whole.count whole.number)) (omega arith)

-- a number of which all so many digits are zeros is zero
pub all_zeros : (n x : ℕ) → x < 10 ^ n → no_trailing_zeros (decimals n x) ≡ [] → x ≡ 0
all_zeros zero x h e = omega arith
all_zeros (suc n) x h e = go (eqb (x % 10) 0) refl (all_zeros n (x / 10))
  where
    back : suc n - 1 ≡ n
    back = omega arith

    some : 0 < suc n
    some = omega arith

    fewer : x / 10 < 10 ^ n
    fewer = (div-lt_iff_lt-mul (lit< tt)).1 (rw (pow-succ' 10 n, mul_comm 10 (10 ^ n)) at h)

    go : (b : Bool) → eqb (x % 10) 0 ≡ b → (x / 10 < 10 ^ n → no_trailing_zeros (decimals n (x / 10)) ≡ [] → x / 10 ≡ 0) → x ≡ 0
    go true z before =
        let zeros : no_trailing_zeros (decimals n (x / 10)) ≡ [] = ap (λ m. no_trailing_zeros (decimals m (x / 10))) (sym back) ∙ sym (trailing_dropped (suc n) x some (eqb-true _ 0 z)) ∙ e in
        omega (arith, before fewer zeros, eqb-true (x % 10) 0 z)
    go false z before = absurd (omega (arith, sym (decimals_length (suc n) x) ∙ ap length (sym (trailing_kept (suc n) x some (eqb-false _ 0 z)) ∙ e)))

pub no_decimals : fraction_digits 0 ≡ []
unfolding fraction_digits no_trailing_zeros decimals before_zeros when◌then◌else◌
no_decimals = refl

-- the decimals of nanoseconds stand behind a point unless the nanoseconds are 0
pub behind_is : (x : ℕ) (d : Decimal) → x < 10 ^ 9 → fraction_digits x ≡ decimals d.count d.number → behind_point d ≡ written_fraction x
unfolding behind_point written_fraction when◌then◌else◌ fraction_digits
behind_is x d h e = go (eqb x 0) (eqb d.count 0) refl refl
  where
    count : length (fraction_digits x) ≡ d.count
    count = ap length e ∙ decimals_length d.count d.number

    none : x ≡ 0 → d.count ≡ 0
    none z = sym count ∙ ap (λ y. length (fraction_digits y)) z ∙ ap length no_decimals

    empty : (digits : List ℕ) → length digits ≡ 0 → digits ≡ []
    empty [] h = refl
    empty (y ∷ digits) h = absurd (omega arith)

    all : d.count ≡ 0 → x ≡ 0
    all z = all_zeros 9 x h (empty (fraction_digits x) (count ∙ z))

    go : (b c : Bool) → eqb x 0 ≡ b → eqb d.count 0 ≡ c → (when c then [] else 46 ∷ decimals d.count d.number) ≡ (when b then [] else 46 ∷ fraction_digits x)
    go true true f g = refl
    go true false f g = absurd (eqb-false d.count 0 g (none (eqb-true x 0 f)))
    go false true f g = absurd (eqb-false x 0 f (all (eqb-true d.count 0 g)))
    go false false f g = ap (λ l. 46 ∷ l) (sym e)

module _ (l : Length) (seconds fract : Decimal) (good : well_formed l ≡ true) where
  pub form_is :
      whole_digits l.seconds ≡ decimals seconds.count seconds.number
      → fraction_digits l.nanoseconds ≡ decimals fract.count fract.number
      → form_bytes (sign_byte l.negative) seconds fract ≡ written l
  unfolding form_bytes written
  form_is e f = rw (e, behind_is l.nanoseconds fract (proper l good) f)

  pub written_size :
      whole_digits l.seconds ≡ decimals seconds.count seconds.number
      → fraction_digits l.nanoseconds ≡ decimals fract.count fract.number
      → length (written l) ≡ form_size seconds.count fract.count
  written_size e f = ap length (sym (form_is e f)) ∙ form_length fract (sign_byte l.negative) seconds

-- ---- what the writer answers

module _ (l : Length) (buffer : List ℕ) (place : ℕ) where
  pub write_malformed : well_formed l ≡ false → (refusal Malformed ≡ write_answer l buffer place) × (buffer ≡ written_buffer l buffer place)
  unfolding write_answer written_buffer writing buffer_after answered unless ◌>>◌
  write_malformed e = rw e (refl, refl)

  module _ (good : well_formed l ≡ true) where
    pub write_beyond : length buffer < place → (refusal (Beyond place) ≡ write_answer l buffer place) × (buffer ≡ written_buffer l buffer place)
    unfolding write_answer written_buffer writing buffer_after answered unless ◌>>◌
    write_beyond h = rw (good, lt-leb place (length buffer) h) (refl, refl)

    module _ (within : place ≤ length buffer) where
      pub write_no_room : length buffer - place < length (written l) → (refusal (NoRoom place) ≡ write_answer l buffer place) × (buffer ≡ written_buffer l buffer place)
      unfolding write_answer written_buffer writing buffer_after answered unless ◌>>◌
      write_no_room h = rw (good, le-leb place (length buffer) within, lt-leb (length (written l)) (length buffer - place) h) (refl, refl)

      pub write_done : length (written l) ≤ length buffer - place → (done (place + length (written l)) l ≡ write_answer l buffer place) × (laid buffer place (written l) ≡ written_buffer l buffer place)
      unfolding write_answer written_buffer writing buffer_after answered unless ◌>>◌ laid
      write_done h = rw (good, le-leb place (length buffer) within, le-leb (length (written l)) (length buffer - place) h) (refl, refl)
