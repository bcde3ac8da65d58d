-- Laws of lengths: how many nanoseconds a length has, and that a sum stays between MIN and MAX. Assumes nothing.
use Rattle.std.specs.Prelude.{◌≡◌, refl, Bool, true, false, not, ◌&&◌, List, ℕ, ◌*◌, ◌/◌, ◌%◌, ◌≤◌, ◌<◌, leb, eqb}
use Rattle.std.proofs.Common.{sym, le_refl, div-add-mod', mod-lt, div-lt_iff_lt-mul, arith, lit<, lt-ltb, le-leb, leb-true, leb-false, eqb-true, ne_eqb}
use Rattle.rules.specs.declared.Length.{Length}
use Rattle.rules.specs.declared.DurationRepr.{DurationRepr}
use Rattle.rules.specs.declared.Repr.{Repr}
use Rattle.rules.specs.declared.Repr.TheVariants.{Typed, Spoken}
use Rattle.rules.specs.Common.{when◌then◌else◌}
use Rattle.rules.specs.ThePartOfTheCrateWeTake.{nanoseconds_per_second, seconds_limit, zero_length, largest, size, well_formed}
use Rattle.rules.specs.Evaluation.{length_of, evaluate, spoken_multiplier, worth, evaluate_spoken, evaluated, sum}
use Rattle.rules.proofs.Laws.Choices.{if_either}
use Rattle.rules.proofs.Laws.Outcomes.{All, all_got, all_bind, always}

-- so many nanoseconds, or more, are too many for a length
abbrev pub limit : ℕ
limit = seconds_limit * nanoseconds_per_second

-- ---- the nanoseconds of a length

pub size_of : (negative : Bool) (r : ℕ) → r < limit → size (length_of negative r) ≡ r
unfolding length_of size zero_length largest
size_of negative r h =
    if_either (λ l. size l ≡ r) (eqb r 0) (λ e. sym (eqb-true r 0 e))
    (λ _. if_either (λ l. size l ≡ r) (leb limit r) (λ e. absurd (too_large (leb-true limit r e))) (λ _. div-add-mod' r nanoseconds_per_second))
  where
    too_large : limit ≤ r → ⊥
    too_large g = omega arith

pub size_clamped : (negative : Bool) (r : ℕ) → limit ≤ r → length_of negative r ≡ largest negative
unfolding length_of when◌then◌else◌
size_clamped negative r h = rw (ne_eqb r 0 (λ e. above e), le-leb limit r h)
  where
    above : r ≡ 0 → ⊥
    above e = omega arith

pub zero_well_formed : well_formed zero_length ≡ true
unfolding well_formed size zero_length
zero_well_formed = refl

pub largest_well_formed : (negative : Bool) → well_formed (largest negative) ≡ true
unfolding well_formed size largest
largest_well_formed true = refl
largest_well_formed false = refl

-- a length of any number of nanoseconds is well formed: MIN to MAX, and zero with a plus
pub length_of_well_formed : (negative : Bool) (r : ℕ) → well_formed (length_of negative r) ≡ true
unfolding length_of well_formed size zero_length largest
length_of_well_formed negative r =
    if_either (λ l. well_formed l ≡ true) (eqb r 0) (λ _. refl)
    (λ e. if_either (λ l. well_formed l ≡ true) (leb limit r) (λ _. largest_well_formed negative)
    (λ f. rw (
      lt-ltb (r / nanoseconds_per_second) seconds_limit ((div-lt_iff_lt-mul (lit< tt)).1 (leb-false limit r f)),
      lt-ltb (r % nanoseconds_per_second) nanoseconds_per_second (mod-lt r (lit< tt)),
      div-add-mod' r nanoseconds_per_second,
      e,
    )
    (not_minus_zero negative)))
  where
    not_minus_zero : (b : Bool) → not (b && false) ≡ true
    not_minus_zero true = refl
    not_minus_zero false = refl

pub length_of_within : (negative : Bool) (r : ℕ) → size (length_of negative r) ≤ size (largest false)
unfolding size largest
length_of_within negative r = go (leb limit r) refl
  where
    go : (b : Bool) → leb limit r ≡ b → size (length_of negative r) ≤ size (largest false)
    go true e = rw (size_clamped negative r (leb-true limit r e)) (le_refl _)
    go false e = rw (size_of negative r (leb-false limit r e)) (omega (arith, leb-false limit r e))

-- so is what anything typed comes to
pub evaluate_well_formed : (text : List ℕ) (d : DurationRepr) → well_formed (evaluate text d) ≡ true
unfolding evaluate
evaluate_well_formed text d = if_either (λ l. well_formed l ≡ true) d.infinite (λ _. largest_well_formed d.negative) (λ _. length_of_well_formed _ _)

-- and what a part comes to, if it comes to a length
pub evaluated_well_formed : (text : List ℕ) (d : Repr) → All (λ l. well_formed l ≡ true) (evaluated text d)
unfolding evaluated evaluate_spoken worth
evaluated_well_formed text (Typed d) = all_got (evaluate_well_formed text d)
evaluated_well_formed text (Spoken d) = all_bind (always (spoken_multiplier d)) (λ m _. all_got (length_of_well_formed _ _))

-- ---- the sum, clamped, stays between MIN and MAX

pub sum_well_formed : (a b : Length) → well_formed (sum a b) ≡ true
unfolding sum
sum_well_formed a b =
    if_either (λ l. well_formed l ≡ true) _ (λ _. length_of_well_formed _ _)
    (λ _. if_either (λ l. well_formed l ≡ true) _ (λ _. length_of_well_formed _ _) (λ _. length_of_well_formed _ _))

pub sum_within : (a b : Length) → size (sum a b) ≤ size (largest false)
unfolding sum
sum_within a b =
    if_either Within _ (λ _. length_of_within _ _) (λ _. if_either Within _ (λ _. length_of_within _ _) (λ _. length_of_within _ _))
  where
    Within : Length → Type 0
    Within l = size l ≤ size (largest false)
