-- A part is refused by 15 exactly if it is a spoken one without a unit. Assumes nothing.
use Rattle.std.specs.Prelude.{◌≡◌, true, false, not, ◌↔◌, ℕ, Option, Some, None}
use Rattle.std.proofs.Math.Path.{refl, ap}
use Rattle.std.proofs.Common.{sym, ◌∙◌, arith}
use Rattle.std.proofs.lemmas.Bool.{false≢true, not-true}
use mathlib.Core.List.{List, [], ◌∷◌}
use Rattle.std.proofs.Math.Seq.{slice}
use Rattle.rules.specs.declared.ByteSet.{ByteSet}
use Rattle.rules.specs.declared.Refusal.{Refusal}
use Rattle.rules.specs.declared.Refusal.TheVariants.{NoUnit}
use Rattle.rules.specs.Common.{when◌then◌else◌, all, ends, sees, run}
use Rattle.rules.specs.NumbersHandedBack as numbers
use Rattle.rules.specs.NumbersHandedBack.{Outcome, got, refused, ◌>>=◌, position}
use Rattle.rules.specs.SettingsAndUnitTable.{is, holds, Card, lookup, row, row_multiplier}
use Rattle.rules.specs.ReadingOnePart.{delimiters, ago_step, find_unit, numeral_end, numeral_found, numeral_step, spoken_unit_found, spoken_unit_step, part}
use Rattle.rules.specs.Evaluation.{evaluated, part_reading}
use Rattle.rules.proofs.Laws.Outcomes.{All, all_got, all_refused, all_of, all_if, all_bind, Refused, not_refused, refused_by, the_cause, refused_map, refused_bind}
use Rattle.rules.proofs.Laws.Refusals.{among, By, by_passing, by_one, sign_by, number_by, exponent_by, gap_by, unit_by, infinity_by, ago_by, connection_by, numeral_by, evaluated_by, allowed_by}
use Rattle.handed_back.specs.TheStepsOfAPart.{Step, does, Comes, sign, number, exponent, before_a_unit, unit, infinity, numeral, spoken_unit, connection, begins, to_numeral, to_spoken_unit}
use Rattle.handed_back.specs.AStepRefuses.{part_told, due}
use Rattle.spoken_numbers.specs.WhenNoUnitFollows.{NumeralAt, NoUnitAt}

-- ---- the steps

-- a run of delimiters that stands there goes on to a byte behind it, or is refused
delimiters_behind : (set : ByteSet) (text : List ℕ) (place : ℕ) → sees (holds set) text place ≡ true → All (λ q. (run (holds set) text place ≡ q) × (ends text q ≡ false)) (delimiters set text place)
unfolding delimiters
delimiters_behind set text place stands = all_if (λ _. all_refused) (λ e. all_got (refl, rw stands at e))

module _ (card : Card) (text : List ℕ) where
  -- what the numeral's step gets is a numeral, with its row
  pub numeral_got : (place : ℕ) → All (λ n. (i : ℕ) × (n.multiplier ≡ row_multiplier (row card.numerals i)) × NumeralAt card text place i n.next) (numeral_step card text place)
  unfolding numeral_step numeral_found
  numeral_got place = go (lookup card.numerals (slice place (numeral_end card.settings text place) text)) refl
    where
      go : (f : Option ℕ) → lookup card.numerals (slice place (numeral_end card.settings text place) text) ≡ f → All (λ n. (i : ℕ) × (n.multiplier ≡ row_multiplier (row card.numerals i)) × NumeralAt card text place i n.next) (numeral_found card text place f)
      go (Some i) found =
          all_if
          (λ followed.
          all_bind (delimiters_behind card.settings.inner text (numeral_end card.settings text place) followed)
          (λ q (behind, goes_on). all_got (i, refl, record { found = found; followed = followed; behind = behind; goes_on = goes_on })))
          (λ _. all_refused)
      go None found = all_refused

  -- and it gets every numeral
  numeral_gets : (place i q : ℕ) → NumeralAt card text place i q → numeral_step card text place ≡ got (record { multiplier = row_multiplier (row card.numerals i); next = q })
  unfolding numeral_step numeral_found delimiters ◌>>=◌ when◌then◌else◌
  numeral_gets place i q h = rw (h.found, h.followed, h.behind, h.goes_on)

  -- without a unit the refusal is at the place
  unit_refuses : (q : ℕ) → find_unit card text q ≡ [] → spoken_unit_step card text q ≡ refused (NoUnit q)
  unfolding spoken_unit_step spoken_unit_found
  unit_refuses q none = rw none

  module _ (place : ℕ) where
    -- why the part is refused: by another number than a spoken one alone has, or by 15
    pub data Why : Refusal → Type 0 where
      otherwise : {cause : Refusal} → among (15 ∷ 16 ∷ []) (numbers.number cause) ≡ false → Why cause
      no_unit : {q : ℕ} → NoUnitAt card text place q → Why (NoUnit q)

    others : {A : Type 0} {m : Outcome A} {numbers : List ℕ} → By numbers m → all (λ n. not (among (15 ∷ 16 ∷ []) n)) numbers ≡ true → Refused Why m
    others by right = refused_map (by_passing _ right by) (λ cause e. otherwise (not-true _ e))

    unit_why : (q : ℕ) → (find_unit card text q ≡ [] → NoUnitAt card text place q) → Refused Why (spoken_unit_step card text q)
    unfolding spoken_unit_step spoken_unit_found among all
    unit_why q missing = go (find_unit card text q) missing
      where
        go : (r : List ℕ) → (r ≡ [] → NoUnitAt card text place q) → Refused Why (spoken_unit_found card.settings text q r)
        go [] missing = refused_by (no_unit (missing refl))
        go (size ∷ r) missing = refused_bind (ago_step card.settings text _ _) (others (ago_by card.settings text _ _) refl) (λ unit _. not_refused)

    -- a step to which the reading comes with the unit of a numeral has come there by the numeral
    no_unit_at : {q : ℕ} → Comes card text place spoken_unit q → find_unit card text q ≡ [] → NoUnitAt card text place q
    no_unit_at (to_spoken_unit {found = found} (to_numeral {signed = signed} (begins not_at_end) signed_got no_number no_infinity) read) none =
        let (i, _, numeral_at) = all_of (numeral_got signed.next) read in
        record {
          signed = signed;
          asked = record { not_at_end = not_at_end; sign = signed_got; no_number = no_number; no_infinity = no_infinity };
          i = i;
          numeral = numeral_at;
          no_unit = none;
        }

    step_why : (step : Step) (p : ℕ) → Comes card text place step p → Refused Why (does card text step p)
    unfolding among all
    step_why spoken_unit p c = unit_why p (no_unit_at c)
    step_why sign p c = others (sign_by card.settings text p) refl
    step_why number p c = others (number_by card.settings text p) refl
    step_why exponent p c = others (exponent_by card.settings text p) refl
    step_why before_a_unit p c = others (gap_by card.settings text card.settings.before_unit p) refl
    step_why unit p c = others (unit_by card text p) refl
    step_why infinity p c = others (infinity_by card.settings text p) refl
    step_why numeral p c = others (numeral_by card text p) refl
    step_why connection p c = others (connection_by card.settings text p) refl

    pub part_why : Refused Why (part card text place)
    unfolding numbers.number among
    part_why = part_told card text place step_why (otherwise refl)

    -- ---- refused by 15

    -- no other step refuses by it
    pub reading_told : Refused (λ cause. numbers.number cause ≡ 15 → (q : ℕ) × (cause ≡ NoUnit q) × NoUnitAt card text place q) (part_reading card text place)
    unfolding part_reading among
    reading_told =
        refused_bind (part card text place) (refused_map part_why told)
        (λ p _.
        refused_bind (evaluated text p.repr) (refused_map (by_one (evaluated_by text p.repr)) (λ cause e is. absurd (omega arith)))
        (λ l _. refused_map (by_one (allowed_by card.settings place p.next l)) (λ cause e is. absurd (omega arith))))
      where
        told : (cause : Refusal) → Why cause → numbers.number cause ≡ 15 → (q : ℕ) × (cause ≡ NoUnit q) × NoUnitAt card text place q
        told cause (otherwise h) is = absurd (false≢true (sym h ∙ ap (among (15 ∷ 16 ∷ [])) is))
        told cause (no_unit {q = q} missing) is = (q, refl, missing)

    -- and the steps do where it is due
    reading_refuses : (q : ℕ) → NoUnitAt card text place q → part_reading card text place ≡ refused (NoUnit q)
    reading_refuses q h =
        due card text place
        (to_spoken_unit (to_numeral (begins h.asked.not_at_end) h.asked.sign h.asked.no_number h.asked.no_infinity) (numeral_gets h.signed.next h.i q h.numeral))
        (unit_refuses q h.no_unit)

    pub no_unit_exactly : (q : ℕ) → (part_reading card text place ≡ refused (NoUnit q)) ↔ NoUnitAt card text place q
    unfolding numbers.number position
    no_unit_exactly q = (there, reading_refuses q)
      where
        there : part_reading card text place ≡ refused (NoUnit q) → NoUnitAt card text place q
        there e = let (at, same, missing) = the_cause reading_told e refl in rw (ap position same) missing
