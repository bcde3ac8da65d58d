-- What a part comes to, as it is evaluated: that its product is out of range, or its length. Assumes nothing.
use Rattle.std.specs.Prelude.{◌≡◌, refl, Bool, List, ℕ}
use Rattle.std.proofs.Math.Path.{sym, ap}
use Rattle.std.proofs.Common.{◌∙◌}
use Rattle.rules.specs.declared.Multiplier.{Multiplier}
use Rattle.rules.specs.declared.Repr.{Repr}
use Rattle.rules.specs.declared.Repr.TheVariants.{Typed, Spoken}
use Rattle.rules.specs.declared.Part.{Part}
use Rattle.rules.specs.declared.Refusal.{Refusal}
use Rattle.rules.specs.declared.DurationRepr.{DurationRepr}
use Rattle.rules.specs.NumbersHandedBack.{Outcome, got, refused, ◌>>=◌}
use Rattle.rules.specs.SettingsAndUnitTable.{Card}
use Rattle.rules.specs.ReadingOnePart.{part}
use Rattle.rules.specs.Evaluation.{digits_of, spoken_multiplier, worth, evaluate_spoken, evaluated, allowed, part_reading}
use Rattle.rules.proofs.Laws.Outcomes.{all_of, not_got, bind_got, bind_refused}
use Rattle.rules.specs.Laws.Powers.{net}
use Rattle.value.specs.Numbers.{Spans, Counts, typed, spoken, evaluate_counted}
use Rattle.value.specs.Sums.{digits_none}
use Rattle.value.specs.Evaluating.{one, no_digits, evaluate_summed, evaluate_one}
use Rattle.value.specs.Net.{worth_net}
use Rattle.spoken.specs.Products.{product, spoken_product}
use Rattle.reading.specs.declared.typed.SummedPart.{SummedPart}
use Rattle.reading.specs.Coded.{coded, codes, coded_got, coded_end}
use Rattle.reading.specs.Spans.{PartSpans, part_spans}

-- what evaluation asks of a part, once it is in range
abbrev pub Asked : List ℕ → DurationRepr → ℕ → Type 0
Asked text d number = Spans text d.whole d.fract × Counts number (digits_of text d.whole d.fract)

abbrev one_got : Bool → Outcome Multiplier → Outcome DurationRepr
one_got negative m = m >>= λ m. got (one negative m)

pub coded_asked : (text : List ℕ) (d : Repr) (next : ℕ) → PartSpans text d → {repr : DurationRepr} → (coded text d next).repr ≡ got repr → Asked text repr (coded text d next).number
unfolding ◌>>=◌
coded_asked text (Typed d) next spans {repr = repr} e = let same : d ≡ repr = cc in rw (← same) (spans, typed refl)
coded_asked text (Spoken d) next spans {repr = repr} e = go (spoken_product d) e
  where
    go : (m : Outcome Multiplier) → one_got d.negative m ≡ got repr → Asked text repr 1
    go (got m) e = let same : one d.negative m ≡ repr = cc in rw (← same) (no_digits text, spoken (digits_none text 0) refl)
    go (refused cause) e = absurd (not_got cause e)

pub coded_out : (text : List ℕ) (d : Repr) (next : ℕ) {cause : Refusal} → (coded text d next).repr ≡ refused cause → refused cause ≡ evaluated text d
unfolding evaluated evaluate_spoken spoken_product product ◌>>=◌
coded_out text (Typed d) next {cause = cause} e = absurd (not_got cause (sym e))
coded_out text (Spoken d) next {cause = cause} e = go (spoken_multiplier d) e
  where
    go : (m : Outcome Multiplier) → one_got d.negative (product m) ≡ refused cause → refused cause ≡ (m >>= λ m. got (worth d.negative m))
    go (got m) e = absurd (not_got cause (sym e))
    go (refused first) e = let same : cause ≡ first = cc in ap refused same

pub coded_in : (text : List ℕ) (d : Repr) (next : ℕ) {repr : DurationRepr} → (coded text d next).repr ≡ got repr → evaluated text d ≡ got (evaluate_counted text repr (coded text d next).number)
unfolding evaluated evaluate_spoken spoken_product product ◌>>=◌
coded_in text (Typed d) next {repr = repr} e = let same : d ≡ repr = cc in rw (← same) (ap got (sym (evaluate_summed text d refl)))
coded_in text (Spoken d) next {repr = repr} e = go (spoken_multiplier d) e
  where
    go : (m : Outcome Multiplier) → one_got d.negative (product m) ≡ got repr → (m >>= λ m. got (worth d.negative m)) ≡ got (evaluate_counted text repr 1)
    go (got m) e =
        let same : one d.negative (net m) ≡ repr = cc in
        rw (← same) (ap got (sym (evaluate_one text d.negative (net m) ∙ worth_net d.negative m)))
    go (refused cause) e = absurd (not_got cause e)

-- ---- the reading of a part

module _ (card : Card) (text : List ℕ) (place : ℕ) {found : SummedPart} (read : codes text (part card text place) ≡ got found) where
  -- the part that was read, as its definition has it
  it : (p : Part) × (part card text place ≡ got p) × (coded text p.repr p.next ≡ found)
  it = coded_got text _ read

  module _ {repr : DurationRepr} (ranged : found.repr ≡ got repr) where
    pub reading_asked : Asked text repr found.number
    reading_asked =
        let (p, step, is) = it in
        rw is at (coded_asked text p.repr p.next (all_of (part_spans card text place) step) (ap (λ f. f.repr) is ∙ ranged))

    pub reading_in : allowed card.settings place found.next (evaluate_counted text repr found.number) ≡ part_reading card text place
    unfolding part_reading
    reading_in =
        let (p, step, is) = it in
        ap (λ f. allowed card.settings place f.next (evaluate_counted text repr f.number)) (sym is)
        ∙ ap (λ next. allowed card.settings place next (evaluate_counted text repr (coded text p.repr p.next).number)) (coded_end text p.repr p.next)
        ∙ sym (bind_got _ step ∙ bind_got _ (coded_in text p.repr p.next (ap (λ f. f.repr) is ∙ ranged)))

  pub reading_out : {cause : Refusal} → found.repr ≡ refused cause → refused cause ≡ part_reading card text place
  unfolding part_reading
  reading_out out =
      let (p, step, is) = it in
      sym (bind_got _ step ∙ bind_refused _ (sym (coded_out text p.repr p.next (ap (λ f. f.repr) is ∙ out))))
