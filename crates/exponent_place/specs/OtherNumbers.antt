-- What is said of 3 and 4 alone: of other numbers nothing has to be shown. Assumes nothing.
use Rattle.std.specs.Prelude.{◌≡◌, true, false, not, List, ℕ}
use Rattle.std.proofs.Common.{sym, ◌∙◌}
use Rattle.std.proofs.lemmas.Bool.{false≢true, not-true}
use Rattle.rules.specs.declared.Refusal.{Refusal}
use Rattle.rules.specs.Common.{all}
use Rattle.rules.specs.NumbersHandedBack.{Outcome, refused, number}
use Rattle.rules.proofs.Laws.Outcomes.{Refused, refused_by, refused_map}
use Rattle.rules.proofs.Laws.Refusals.{By, by_passing}
use Rattle.exponent_place.specs.TheWrongDigit.{out_of_range}

-- X holds of what is refused by 3 or 4
abbrev pub IfOutOfRange : (Refusal → Type 0) → Refusal → Type 0
IfOutOfRange X cause = out_of_range (number cause) ≡ true → X cause

module _ {A : Type 0} {X : Refusal → Type 0} where
  -- of any other number nothing has to be shown
  pub no_other : {m : Outcome A} → Refused (λ cause. out_of_range (number cause) ≡ false) m → Refused (IfOutOfRange X) m
  no_other by = refused_map by (λ cause right wrong. absurd (false≢true (sym right ∙ wrong)))

  pub other_numbers : {m : Outcome A} {numbers : List ℕ} → By numbers m → all (λ n. not (out_of_range n)) numbers ≡ true → Refused (IfOutOfRange X) m
  other_numbers by right = no_other (refused_map (by_passing _ right by) (λ cause e. not-true _ e))

  pub by_other : (cause : Refusal) → out_of_range (number cause) ≡ false → Refused {A = A} (IfOutOfRange X) (refused cause)
  by_other cause right = no_other (refused_by right)
