-- An outcome that is refused with a number and a position, and the answer that says so. Assumes nothing.
use Rattle.std.specs.Prelude.{◌≡◌, refl, ◌≢◌, ◌↔◌, ℕ}
use Rattle.std.proofs.Common.{sym, ◌∙◌}
use Rattle.std.proofs.Math.Path.{ap}
use Rattle.rules.specs.declared.Answer.{Answer}
use Rattle.rules.specs.declared.Refusal.{Refusal}
use Rattle.rules.specs.ThePartOfTheCrateWeTake.{zero_length}
use Rattle.rules.specs.NumbersHandedBack.{Outcome, got, refused, number, position, refusal, answered}
use Rattle.rules.proofs.Laws.Outcomes.{Refused, the_cause}

-- by whatever refusal has them
pub record RefusedWith {A : Type 0} (m : Outcome A) (n q : ℕ) : Type 0 where
  pub cause : Refusal
  pub refuses : m ≡ refused cause
  pub its_number : number cause ≡ n
  pub its_position : position cause ≡ q

-- the answer with a number and a position, and a zero length
abbrev pub refused_at : ℕ → ℕ → Answer
refused_at n q = record { number = n; position = q; length = zero_length }

module _ {A : Type 0} {m : Outcome A} where
  -- what a number says of its position, of whatever is refused, holds of this one
  pub says : (X : ℕ → ℕ → Type 0) → Refused (λ cause. X (number cause) (position cause)) m → {n q : ℕ} → RefusedWith m n q → X n q
  says X told h = rw (h.its_number, h.its_position) at (the_cause told h.refuses)

  -- it is refused once: with one number, at one position
  pub once : {n k p q : ℕ} → RefusedWith m n p → RefusedWith m k q → (n ≡ k) × (p ≡ q)
  once one another =
      let same : one.cause ≡ another.cause = cc in
      (sym one.its_number ∙ ap number same ∙ another.its_number, sym one.its_position ∙ ap position same ∙ another.its_position)

-- another outcome that is refused by the same refusal
pub likewise : {A B : Type 0} {m : Outcome A} {other : Outcome B} {n q : ℕ} (h : RefusedWith m n q) → other ≡ refused h.cause → RefusedWith other n q
likewise h e = record { cause = h.cause; refuses = e; its_number = h.its_number; its_position = h.its_position }

-- what is handed back with a number that is not 0 is such a refusal, and each is handed back so
module _ {A : Type 0} (show : A → Answer) (read : (a : A) → (show a).number ≡ 0) where
  told : (m : Outcome A) {n q : ℕ} → n ≢ 0 → answered show m ≡ refused_at n q → RefusedWith m n q
  unfolding answered refusal
  told (got a) some e = absurd (some (sym (ap (λ a. a.number) e) ∙ read a))
  told (refused cause) some e = record { cause = cause; refuses = refl; its_number = ap (λ a. a.number) e; its_position = ap (λ a. a.position) e }

  pub handed_back : (m : Outcome A) (n q : ℕ) → n ≢ 0 → (answered show m ≡ refused_at n q) ↔ RefusedWith m n q
  unfolding answered refusal
  handed_back m n q some = (told m some, λ h. ap (answered show) h.refuses ∙ rw (h.its_number, h.its_position))
