-- The digits of a part that is read lie in the text: what evaluation asks for. Assumes nothing.
use Rattle.std.specs.Prelude.{Bool, List, ℕ, ◌+◌, ◌≤◌, length}
use Rattle.std.proofs.Common.{arith}
use Rattle.std.proofs.lemmas.Bool.{not-false}
use Rattle.rules.specs.declared.Settings.{Settings}
use Rattle.rules.specs.declared.Repr.{Repr}
use Rattle.rules.specs.declared.Repr.TheVariants.{Typed, Spoken}
use Rattle.rules.specs.Common.{run}
use Rattle.rules.specs.SettingsAndUnitTable.{DIGIT, POINT, is, Card}
use Rattle.rules.specs.ReadingOnePart.{fraction_step, number_step, infinite_part, finite_part, spoken_part, unsigned_part, part}
use Rattle.rules.proofs.Laws.Ahead.{sign_ahead}
use Rattle.rules.proofs.Laws.Outcomes.{All, all_got, all_refused, all_if, all_bind, always}
use Rattle.rules.proofs.Laws.Texts.{not_ends_lt, sees_in, run_within}
use Rattle.value.specs.Numbers.{Spans}
use Rattle.value.specs.Places.{spans_whole, spans_both, spans_none}

-- of what was typed; a spoken number has no digits
abbrev pub PartSpans : List ℕ → Repr → Type 0
PartSpans text (Typed d) = Spans text d.whole d.fract
PartSpans text (Spoken d) = Unit {0}

module _ (card : Card) (text : List ℕ) where
  abbrev s : Settings
  s = card.settings

  number_spans : (place : ℕ) → place ≤ length text → All (λ n. Spans text n.whole n.fract) (number_step s text place)
  unfolding number_step fraction_step
  number_spans place h =
      let end = run (is DIGIT) text place in
      all_if (λ _. all_got (spans_whole text place end h (run_within (is DIGIT) text place h)))
      (λ e. all_if (λ _. all_refused)
      (λ _. all_if (λ _. all_refused)
      (λ _. all_got (spans_both text place (end + 1) h (omega (arith, sees_in (is POINT) text end (not-false _ e)))))))

  finite_spans : (negative : Bool) (place : ℕ) → place ≤ length text → All (λ p. PartSpans text p.repr) (finite_part card text negative place)
  unfolding finite_part
  finite_spans negative place h =
      all_bind (number_spans place h)
      (λ number n. all_bind (always _)
      (λ scaled _. all_bind (always _)
      (λ name _. all_bind (always _)
      (λ unit _. all_bind (always _)
      (λ next _. all_got n)))))

  spoken_spans : (negative : Bool) (place : ℕ) → All (λ p. PartSpans text p.repr) (spoken_part card text negative place)
  unfolding spoken_part
  spoken_spans negative place =
      all_bind (always _) (λ numeral _. all_bind (always _) (λ unit _. all_bind (always _) (λ next _. all_got tt)))

  pub part_spans : (place : ℕ) → All (λ p. PartSpans text p.repr) (part card text place)
  unfolding part unsigned_part infinite_part
  part_spans place =
      all_if (λ _. all_refused)
      (λ e. all_bind (sign_ahead s text place (not_ends_lt text place e))
      (λ signed a. all_if (λ _. finite_spans signed.negative signed.next a.within)
      (λ _. all_if
      (λ _. all_bind (always _) (λ next _. all_got (spans_none text signed.next a.within)))
      (λ _. spoken_spans signed.negative signed.next))))
