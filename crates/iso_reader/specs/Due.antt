-- What is due: whole seconds so far, if a word holds them, and so many nanoseconds more. Assumes nothing.
use Rattle.std.specs.Prelude.{◌≡◌, refl, Bool, true, List, ℕ, ◌+◌, ◌*◌, ◌-◌, ◌/◌, ◌%◌, ◌^◌, ◌≤◌, ◌<◌, ltb, Option, Some, None}
use Rattle.std.proofs.Common.{sym, ◌∙◌, le_trans, le-add_left, le-mul_of_pos_right, div-lt_iff_lt-mul, le-div_iff_mul-le, lt-ltb, le-ltb, ltb-false}
use Rattle.std.proofs.Math.Path.{ap}
use Rattle.std.proofs.Math.Bool.{false}
use native.Mathlib.Omega.{arith}
use Rattle.rules.specs.declared.Length.{Length}
use Rattle.rules.specs.declared.Refusal.TheVariants.{TooLarge}
use Rattle.rules.specs.Common.{when◌then◌else◌}
use Rattle.rules.specs.ThePartOfTheCrateWeTake.{nanoseconds_per_second}
use Rattle.rules.specs.NumbersHandedBack.{Outcome, got, refused}
use Rattle.rules.specs.Evaluation.{length_of}
use Rattle.rules.proofs.Laws.Apart.{apart}
use Rattle.value.specs.Numbers.{as_word}
use Rattle.iso.specs.IsoTimings.{Component, nanoseconds_of, held}

-- so many nanoseconds more
unfoldable pub due : Option ℕ → ℕ → Outcome Length
due (Some seconds) n = held (seconds * nanoseconds_per_second + n)
due None n = refused TooLarge

-- components more
unfoldable pub worth : Option ℕ → List Component → Outcome Length
worth total cs = due total (nanoseconds_of cs)

-- ---- a number of units more

-- more seconds than a word holds are too many
over : (s p n : ℕ) → 2 ^ 64 ≤ s + p → refused TooLarge ≡ held (s * nanoseconds_per_second + (p * nanoseconds_per_second + n))
unfolding held when◌then◌else◌
over s p n h = rw (le-ltb (s * nanoseconds_per_second + (p * nanoseconds_per_second + n)) (2 ^ 64 * nanoseconds_per_second) (omega arith))

module _ (s n : ℕ) where
  pub due_more : (p : ℕ) → due (Some (s + p)) n ≡ due (Some s) (p * 10 ^ 9 + n)
  unfolding due
  due_more p = ap held (omega arith)

  pub due_over : (p : ℕ) → 2 ^ 64 ≤ s + p → due None n ≡ due (Some s) (p * 10 ^ 9 + n)
  unfolding due
  due_over p h = over s p n h

pub due_large : (n m : ℕ) → due None n ≡ due None m
unfolding due
due_large n m = refl

-- a number that no word holds
pub word_over : (w : ℕ) → None ≡ as_word w → 2 ^ 64 ≤ w
unfolding as_word when◌then◌else◌
word_over w e = go (ltb w (2 ^ 64)) refl e
  where
    go : (b : Bool) → ltb w (2 ^ 64) ≡ b → None ≡ (when b then Some w else None) → 2 ^ 64 ≤ w
    go true t e = let z : ◌≡◌ {A = ℕ} 0 1 = cc in absurd (omega arith)
    go false t e = ltb-false w (2 ^ 64) t

module _ (n w unit : ℕ) (some : 0 < unit) where
  -- a number that no word holds is too large, whatever it is of
  pub add_large : (total : Option ℕ) → 2 ^ 64 ≤ w → due None n ≡ due total (w * unit * 10 ^ 9 + n)
  add_large (Some s) h = due_over s n (w * unit) (le_trans (le_trans h (le-mul_of_pos_right w some)) (le-add_left (w * unit) s))
  add_large None h = due_large n (w * unit * 10 ^ 9 + n)

  -- and so is one with which the seconds are beyond a word
  pub add_over : (s : ℕ) → (2 ^ 64 - 1 - s) / unit < w → due None n ≡ due (Some s) (w * unit * 10 ^ 9 + n)
  add_over s h = due_over s n (w * unit) (omega (arith, (div-lt_iff_lt-mul some).0 h))

pub add_fits : (s w unit : ℕ) → 0 < unit → s < 2 ^ 64 → w ≤ (2 ^ 64 - 1 - s) / unit → s + w * unit < 2 ^ 64
add_fits s w unit some below h = omega (arith, (le-div_iff_mul-le some).0 h)

-- ---- what is due, as a length

module _ (s n : ℕ) where
  pub held_over : 2 ^ 64 ≤ s + n / 10 ^ 9 → refused TooLarge ≡ due (Some s) n
  unfolding due held when◌then◌else◌
  held_over h = rw (le-ltb (s * nanoseconds_per_second + n) (2 ^ 64 * nanoseconds_per_second) (omega arith))

  pub held_is : s + n / 10 ^ 9 < 2 ^ 64 → got (record { negative = false; seconds = s + n / 10 ^ 9; nanoseconds = n % 10 ^ 9 }) ≡ due (Some s) n
  unfolding due held when◌then◌else◌
  held_is h =
      let sum : (s + n / 10 ^ 9) * 10 ^ 9 + n % 10 ^ 9 ≡ s * nanoseconds_per_second + n = omega arith in
      rw (lt-ltb (s * nanoseconds_per_second + n) (2 ^ 64 * nanoseconds_per_second) (omega arith))
      (ap got (sym (apart false (s + n / 10 ^ 9) (n % 10 ^ 9) (omega arith) (omega arith) (λ _. refl)) ∙ ap (length_of false) sum))
