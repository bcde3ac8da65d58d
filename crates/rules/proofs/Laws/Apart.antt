-- Laws of lengths by their seconds and nanoseconds apart: which record a number of nanoseconds is, what a coefficient does to
-- seconds and attoseconds, and the sum case by case. Assumes nothing.
use Rattle.std.specs.Prelude.{◌≡◌, Bool, false, not, ◌&&◌, ℕ, ◌+◌, ◌*◌, ◌-◌, ◌/◌, ◌%◌, ◌^◌, ◌≤◌, ◌<◌, leb}
use Rattle.std.proofs.Math.Path.{refl}
use Rattle.std.proofs.Common.{sym, ◌∙◌, mul-zero, mul-add, mul_assoc, arith}
use Rattle.std.proofs.Math.Bool.{true}
use Rattle.std.specs.Bool.{beq}
use Rattle.std.proofs.Math.Dec.{ltb, eqb}
use Rattle.std.proofs.Math.Arith.{digits_lt, digits_div, digits_mod}
use borrow.Author.Tests.{ltb-true, ltb-false, lt-ltb, le-ltb, leb-true, le-leb, lt-leb, eqb-true, eq-eqb, ne_eqb, not-true}
use Rattle.rules.specs.declared.Length.{Length}
use Rattle.rules.specs.Common.{when◌then◌else◌}
use Rattle.rules.specs.ThePartOfTheCrateWeTake.{zero_length, size, well_formed}
use Rattle.rules.specs.Evaluation.{nanos, length_of, sum}
use Rattle.rules.proofs.Laws.Choices.{and_left, and_right}
use Rattle.rules.proofs.Laws.Lengths.{limit}
use Rattle.rules.proofs.Laws.Tests.{and_true, and_false, same_test}

-- no nanoseconds are zero, with a plus
pub none : (negative : Bool) → length_of negative 0 ≡ zero_length
unfolding length_of when◌then◌else◌
none negative = refl

-- a number below the limit is its seconds and its nanoseconds, with a sign that is plus for zero
pub apart : (negative : Bool) (seconds nanoseconds : ℕ) → seconds < 2 ^ 64 → nanoseconds < 10 ^ 9 → (seconds * 10 ^ 9 + nanoseconds ≡ 0 → negative ≡ false) → length_of negative (seconds * 10 ^ 9 + nanoseconds) ≡ record { negative = negative; seconds = seconds; nanoseconds = nanoseconds }
unfolding length_of when◌then◌else◌ zero_length
apart negative seconds nanoseconds hs hn plus = go (eqb (seconds * 10 ^ 9 + nanoseconds) 0) refl
  where
    go : (b : Bool) → eqb (seconds * 10 ^ 9 + nanoseconds) 0 ≡ b → length_of negative (seconds * 10 ^ 9 + nanoseconds) ≡ record { negative = negative; seconds = seconds; nanoseconds = nanoseconds }
    go true e =
        let nothing = eqb-true (seconds * 10 ^ 9 + nanoseconds) 0 e in
        let no_seconds : seconds ≡ 0 = omega arith in
        let no_nanoseconds : nanoseconds ≡ 0 = omega arith in
        rw (plus nothing, no_seconds, no_nanoseconds)
    go false e =
        rw (
          e,
          lt-leb limit (seconds * 10 ^ 9 + nanoseconds) (digits_lt hs hn),
          digits_div seconds hn,
          digits_mod seconds hn,
        )

-- the coefficient multiplies the seconds and the attoseconds; only the attoseconds have anything to cut
pub nanos_apart : (c s a : ℕ) → nanos c (s * 10 ^ 18 + a) ≡ (c * s + c * a / 10 ^ 9 / 10 ^ 9) * 10 ^ 9 + c * a / 10 ^ 9 % 10 ^ 9
unfolding nanos
nanos_apart c s a = rw (mul-add c (s * 10 ^ 18) a, ← mul_assoc c s (10 ^ 18)) (omega arith)

-- with no attoseconds, with the coefficient 1, and with the coefficient 0
pub nanos_whole : (c s : ℕ) → nanos c (s * 10 ^ 18 + 0) ≡ c * s * 10 ^ 9 + 0
nanos_whole c s = rw (nanos_apart c s 0, mul-zero c) (omega arith)

pub nanos_one : (s a : ℕ) → nanos 1 (s * 10 ^ 18 + a) ≡ s * 10 ^ 9 + a / 10 ^ 9
unfolding nanos
nanos_one s a = omega arith

pub nanos_none : (a : ℕ) → nanos 0 a ≡ 0
unfolding nanos
nanos_none a = omega arith

-- ---- a length and its parts

-- what well formed says of each
module _ (l : Length) (well : well_formed l ≡ true) where
  in_range : (ltb l.seconds (2 ^ 64) && ltb l.nanoseconds (10 ^ 9)) ≡ true
  unfolding well_formed
  in_range = and_left _ (not (l.negative && eqb (size l) 0)) well

  pub few_seconds : l.seconds < 2 ^ 64
  few_seconds = ltb-true l.seconds (2 ^ 64) (and_left _ (ltb l.nanoseconds (10 ^ 9)) in_range)

  pub proper : l.nanoseconds < 10 ^ 9
  proper = ltb-true l.nanoseconds (10 ^ 9) (and_right (ltb l.seconds (2 ^ 64)) _ in_range)

  pub zero_plus : size l ≡ 0 → l.negative ≡ false
  unfolding well_formed
  zero_plus e =
      not-true l.negative
      (rw (eq-eqb (size l) 0 e, and_true) at (and_right (ltb l.seconds (2 ^ 64) && ltb l.nanoseconds (10 ^ 9)) (not (l.negative && eqb (size l) 0)) well))

  -- it is what its sign and its nanoseconds come to
  pub length_of_size : length_of l.negative (size l) ≡ l
  unfolding size
  length_of_size = apart l.negative l.seconds l.nanoseconds few_seconds proper zero_plus

-- a record is well formed by its nanoseconds, and by its sign where it may be zero
pub nanoseconds_over : (l : Length) → 10 ^ 9 ≤ l.nanoseconds → false ≡ well_formed l
unfolding well_formed
nanoseconds_over l h = sym (rw (le-ltb l.nanoseconds (10 ^ 9) h, and_false))

module _ (l : Length) (s : l.seconds < 2 ^ 64) (n : l.nanoseconds < 10 ^ 9) where
  by_sign : well_formed l ≡ not (l.negative && eqb (size l) 0)
  unfolding well_formed
  by_sign = rw (lt-ltb l.seconds (2 ^ 64) s, lt-ltb l.nanoseconds (10 ^ 9) n)

  pub plus_well_formed : l.negative ≡ false → true ≡ well_formed l
  plus_well_formed plus = sym (by_sign ∙ rw plus)

  any_well_formed : (size l ≡ 0 → ⊥) → true ≡ well_formed l
  any_well_formed some = sym (by_sign ∙ rw (ne_eqb (size l) 0 some, and_false))

  pub seconds_well_formed : (l.seconds ≡ 0 → ⊥) → true ≡ well_formed l
  unfolding size
  seconds_well_formed some = any_well_formed (λ e. some (omega arith))

  pub minus_well_formed : l.negative ≡ true → l.seconds ≡ 0 → ltb 0 l.nanoseconds ≡ well_formed l
  unfolding size
  minus_well_formed minus none = go (ltb 0 l.nanoseconds) refl
    where
      not_zero : ltb 0 l.nanoseconds ≡ true → size l ≡ 0 → ⊥
      not_zero e z = omega (arith, ltb-true 0 l.nanoseconds e)

      go : (b : Bool) → ltb 0 l.nanoseconds ≡ b → b ≡ well_formed l
      go true e = any_well_formed (not_zero e)
      go false e = sym (by_sign ∙ rw (minus, eq-eqb (size l) 0 (omega (arith, ltb-false 0 l.nanoseconds e))))

-- of two lengths with as many seconds the nanoseconds decide, and of any others the seconds
pub by_nanoseconds : (a b : Length) → a.seconds ≡ b.seconds → leb a.nanoseconds b.nanoseconds ≡ leb (size a) (size b)
unfolding size
by_nanoseconds a b e =
    same_test _ _ (λ h. le-leb (size a) (size b) (omega (arith, leb-true a.nanoseconds b.nanoseconds h)))
    (λ h. le-leb a.nanoseconds b.nanoseconds (omega (arith, leb-true (size a) (size b) h)))

pub by_seconds : (a b : Length) → (a.seconds ≡ b.seconds → ⊥) → a.nanoseconds < 10 ^ 9 → b.nanoseconds < 10 ^ 9 → ltb a.seconds b.seconds ≡ leb (size a) (size b)
unfolding size
by_seconds a b other ha hb =
    same_test _ _ (λ h. le-leb (size a) (size b) (omega (arith, ltb-true a.seconds b.seconds h)))
    (λ h. lt-ltb a.seconds b.seconds (omega (arith, leb-true (size a) (size b) h)))

-- ---- the sum, case by case

pub sum_alike : (a b : Length) → beq a.negative b.negative ≡ true → sum a b ≡ length_of a.negative (size a + size b)
unfolding sum when◌then◌else◌
sum_alike a b same = rw same

pub sum_first : (a b : Length) → beq a.negative b.negative ≡ false → leb (size b) (size a) ≡ true → sum a b ≡ length_of a.negative (size a - size b)
unfolding sum when◌then◌else◌
sum_first a b other longer = rw (other, longer)

pub sum_second : (a b : Length) → beq a.negative b.negative ≡ false → leb (size b) (size a) ≡ false → sum a b ≡ length_of b.negative (size b - size a)
unfolding sum when◌then◌else◌
sum_second a b other shorter = rw (other, shorter)
