-- Step 4 refuses an exponent exactly at the digit at which the range is passed. Assumes nothing.
use Rattle.std.specs.Prelude.{◌≡◌, refl, Bool, take, drop}
use Rattle.std.proofs.Common.{sym, ◌∙◌, add-zero, add-suc, arith}
use Rattle.std.proofs.Math.Path.{ap}
use Rattle.std.proofs.Math.Bool.{true, false, not}
use mathlib.Core.List.{List, [], ◌∷◌}
use Prim.Native.Nat.{ℕ, zero, suc, ◌+◌, ◌*◌, ◌-◌, ◌≤◌, ◌<◌, zero-le}
use borrow.Author.Tests.{leb-true, leb-false, le-leb, lt-leb, not-false}
use Rattle.std.proofs.Math.Seq.{slice}
use Rattle.rules.specs.declared.Settings.{Settings}
use Rattle.rules.specs.declared.Refusal.{Refusal}
use Rattle.rules.specs.Common.{when◌then◌else◌, sees, front, run}
use Rattle.rules.specs.NumbersHandedBack.{refused, number}
use Rattle.rules.specs.SettingsAndUnitTable.{DIGIT, is}
use Rattle.rules.specs.ReadingOnePart.{same_letter, exponent_limit, exponent_passed, exponent_digits, exponent_number, exponent_step}
use Rattle.rules.specs.Evaluation.{spelled}
use Rattle.rules.proofs.Laws.Choices.{if_then, if_else}
use Rattle.rules.proofs.Laws.Outcomes.{Refused, not_refused, refused_by, refused_map, refused_if}
use Rattle.rules.proofs.Laws.Texts.{front_pass, run_stop, slice_shift}
use Rattle.value.specs.Digits.{spelled_grows}
use Rattle.exponent_place.specs.TheWrongDigit.{minus_behind, first_digit, power_before, Passed, out_of_range}
use Rattle.exponent_place.specs.OtherNumbers.{IfOutOfRange, by_other}

-- ---- the digits, one after another

-- where a run goes on, it has begun
front_begun : (test : ℕ → Bool) (b : ℕ) (rest : List ℕ) (k : ℕ) → k < front test (b ∷ rest) → test b ≡ true
unfolding front when◌then◌else◌
front_begun test b rest k h = go (test b) h
  where
    go : (c : Bool) → k < (when c then suc (front test rest) else 0) → c ≡ true
    go true h = refl
    go false h = absurd (omega arith)

module _ (negative : Bool) where
  -- k bytes on from here, after digits that spelled `power`, stands the digit at which the range is passed
  abbrev pub PassedFrom : List ℕ → ℕ → ℕ → Type 0
  PassedFrom rest power k =
      (k < front (is DIGIT) rest)
      × (spelled power (take k rest) ≤ exponent_limit negative)
      × (exponent_limit negative < spelled power (take (suc k) rest))

  pub digits_told : (rest : List ℕ) (power place : ℕ) → power ≤ exponent_limit negative → Refused (λ cause. (k : ℕ) × (cause ≡ exponent_passed negative (place + k)) × PassedFrom rest power k) (exponent_digits negative rest power place)
  unfolding exponent_digits spelled
  digits_told [] power place h = not_refused
  digits_told (b ∷ rest) power place h =
      refused_if (λ _. not_refused)
      (λ digit.
      let more : front (is DIGIT) (b ∷ rest) ≡ suc (front (is DIGIT) rest) = front_pass (is DIGIT) b rest (not-false (is DIGIT b) digit) in
      refused_if
      (λ in_range.
      refused_map (digits_told rest (power * 10 + (b - 48)) (suc place) (leb-true _ _ in_range))
      (λ cause (k, e, (below, before, past)). (suc k, e ∙ ap (exponent_passed negative) (omega arith), (omega (arith, more), before, past))))
      (λ passed. refused_by (0, ap (exponent_passed negative) (omega arith), (omega (arith, more), h, leb-false _ _ passed))))

  pub digits_refuse : (rest : List ℕ) (power place k : ℕ) → PassedFrom rest power k → exponent_digits negative rest power place ≡ refused (exponent_passed negative (place + k))
  unfolding exponent_digits spelled front when◌then◌else◌
  digits_refuse [] power place k (below, before, past) = absurd (omega arith)
  digits_refuse (b ∷ rest) power place zero (below, before, past) =
      rw (front_begun (is DIGIT) b rest zero below, lt-leb (power * 10 + (b - 48)) (exponent_limit negative) past) (ap (λ q. refused (exponent_passed negative q)) (omega arith))
  digits_refuse (b ∷ rest) power place (suc k) (below, before, past) =
      let digit : is DIGIT b ≡ true = front_begun (is DIGIT) b rest (suc k) below in
      let more : front (is DIGIT) (b ∷ rest) ≡ suc (front (is DIGIT) rest) = front_pass (is DIGIT) b rest digit in
      let small : power * 10 + (b - 48) ≤ exponent_limit negative = omega (arith, spelled_grows (power * 10 + (b - 48)) (take k rest), before) in
      rw (digit, le-leb (power * 10 + (b - 48)) (exponent_limit negative) small)
      (digits_refuse rest (power * 10 + (b - 48)) (suc place) k (omega (arith, more, below), before, past) ∙ ap (λ q. refused (exponent_passed negative q)) (omega arith))

-- ---- the exponent in its text

module _ (text : List ℕ) (e : ℕ) where
  -- the digits before a place, counted from the first
  before : (k : ℕ) → slice (first_digit text e) (first_digit text e + k) text ≡ take k (drop (first_digit text e) text)
  before k = let shifted = slice_shift text (first_digit text e) 0 k in sym (rw add-zero at shifted)

  power_is : (k : ℕ) → power_before text e (first_digit text e + k) ≡ spelled 0 (take k (drop (first_digit text e) text))
  unfolding power_before
  power_is k = rw (before k)

  power_next : (k : ℕ) → power_before text e (suc (first_digit text e + k)) ≡ spelled 0 (take (suc k) (drop (first_digit text e) text))
  power_next k = ap (power_before text e) (sym (add-suc (first_digit text e) k)) ∙ power_is (suc k)

  -- counted in the text, and from the first digit on
  passed_in_text : (k : ℕ) → sees (same_letter 101) text e ≡ true → PassedFrom (minus_behind text e) (drop (first_digit text e) text) 0 k → Passed text e (first_digit text e + k)
  unfolding run
  passed_in_text k letter (below, small, past) = record {
    letter = letter;
    from_first = omega arith;
    digit = omega (arith, below);
    before = omega (arith, power_is k, small);
    with_it = omega (arith, power_next k, past);
  }

  passed_from_first : (q : ℕ) → Passed text e q → (k : ℕ) × (q ≡ first_digit text e + k) × PassedFrom (minus_behind text e) (drop (first_digit text e) text) 0 k
  unfolding run
  passed_from_first q h =
      let k : ℕ = q - first_digit text e in
      let at : q ≡ first_digit text e + k = omega (arith, h.from_first) in
      let same : power_before text e q ≡ power_before text e (first_digit text e + k) = ap (power_before text e) at in
      let next : power_before text e (suc q) ≡ power_before text e (suc (first_digit text e + k)) = ap (λ n. power_before text e (suc n)) at in
      (k, at, (omega (arith, h.from_first, h.digit), omega (arith, same, power_is k, h.before), omega (arith, next, power_next k, h.with_it)))

  -- what it is refused with, if it is out of range
  abbrev pub Told : Settings → Refusal → Type 0
  Told s cause = (s.exponents ≡ true) × ((q : ℕ) × (cause ≡ exponent_passed (minus_behind text e) q) × Passed text e q)

  pub step_told : (s : Settings) → Refused (IfOutOfRange (Told s)) (exponent_step s text e)
  unfolding exponent_step exponent_number minus_behind first_digit out_of_range number
  step_told s =
      refused_if (λ _. not_refused)
      (λ letter.
      refused_if (λ _. by_other _ refl)
      (λ on.
      refused_if
      (λ _.
      refused_map (digits_told (minus_behind text e) (drop (first_digit text e) text) 0 (first_digit text e) zero-le)
      (λ cause (k, is, passed) _. (not-false _ on, (first_digit text e + k, is, passed_in_text k (not-false _ letter) passed))))
      (λ _. refused_if (λ _. by_other _ refl) (λ _. by_other _ refl))))

  pub step_refuses : (s : Settings) (q : ℕ) → s.exponents ≡ true → Passed text e q → exponent_step s text e ≡ refused (exponent_passed (minus_behind text e) q)
  unfolding exponent_step exponent_number minus_behind first_digit
  step_refuses s q on h =
      let counted = passed_from_first q h in
      if_else _ _ (ap not h.letter)
      ∙ if_else _ _ (ap not on)
      ∙ if_then _ _ (begins (sees (is DIGIT) text (first_digit text e)) refl)
      ∙ digits_refuse (minus_behind text e) (drop (first_digit text e) text) 0 (first_digit text e) counted.0 counted.2
      ∙ ap (λ place. refused (exponent_passed (minus_behind text e) place)) (sym counted.1)
    where
      begins : (c : Bool) → sees (is DIGIT) text (first_digit text e) ≡ c → sees (is DIGIT) text (first_digit text e) ≡ true
      begins true digit = digit
      begins false none = absurd (omega (arith, run_stop (is DIGIT) text (first_digit text e) none, h.from_first, h.digit))
