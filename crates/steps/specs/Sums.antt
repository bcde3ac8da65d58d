-- What a step finds and the sum of the digits in it, which is made while they are read. Assumes nothing.
use Rattle.std.specs.Prelude.{◌≡◌, refl, List, ℕ}
use Rattle.std.proofs.Math.Path.{sym, ap}
use Rattle.std.proofs.Common.{◌∙◌}
use Rattle.rules.specs.declared.Number.{Number}
use Rattle.rules.specs.declared.Refusal.{Refusal}
use Rattle.rules.specs.NumbersHandedBack.{Outcome, got, refused, ◌>>=◌}
use Rattle.rules.proofs.Laws.Outcomes.{bind_got, bind_refused, made_got, made_refused}
use Rattle.value.specs.Sums.{sum_of}
use Rattle.steps.specs.declared.number.SummedNumber.{SummedNumber}

-- a step, with the sum of what it finds
unfoldable pub with_sum : {A B : Type 0} → (A → ℕ → B) → (A → ℕ) → Outcome A → Outcome B
with_sum both sum step = step >>= λ a. got (both a (sum a))

module _ {A B : Type 0} (both : A → ℕ → B) (sum : A → ℕ) {step : Outcome A} where
  pub sum_got : {a : A} {number : ℕ} → number ≡ sum a → got a ≡ step → got (both a number) ≡ with_sum both sum step
  unfolding with_sum
  sum_got s e = rw s (sym (bind_got _ (sym e)))

  pub sum_refused : {cause : Refusal} → refused cause ≡ step → refused cause ≡ with_sum both sum step
  unfolding with_sum
  sum_refused e = sym (bind_refused _ (sym e))

  -- and back
  pub step_refused : {cause : Refusal} → with_sum both sum step ≡ refused cause → step ≡ refused cause
  unfolding with_sum
  step_refused e = made_refused (λ a. both a (sum a)) step e

  module _ (found : B → A) (number : B → ℕ) (there : (a : A) (n : ℕ) → found (both a n) ≡ a) (summed : (a : A) (n : ℕ) → number (both a n) ≡ n) where
    pub step_got : {b : B} → with_sum both sum step ≡ got b → (step ≡ got (found b)) × (number b ≡ sum (found b))
    unfolding with_sum
    step_got {b = b} e =
        let (typed, made) = made_got (λ a. both a (sum a)) found (λ a. there a (sum a)) step e in
        (typed, ap number made ∙ summed (found b) (sum (found b)))

-- ---- a number

abbrev pub sums : List ℕ → Outcome Number → Outcome SummedNumber
sums text step = with_sum (λ n number. record { typed = n; number = number }) (λ n. sum_of text n.whole n.fract) step

pub number_got : (text : List ℕ) {step : Outcome Number} {found : SummedNumber} → sums text step ≡ got found → (step ≡ got found.typed) × (found.number ≡ sum_of text found.typed.whole found.typed.fract)
number_got text e = step_got _ _ (λ found. found.typed) (λ found. found.number) (λ n number. refl) (λ n number. refl) e
