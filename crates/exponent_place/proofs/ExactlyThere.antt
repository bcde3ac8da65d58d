-- A part is refused by 3 or 4 exactly at the digit at which its exponent passes the range. Assumes nothing.
use Rattle.std.specs.Prelude.{◌≡◌, Bool, true, false, List, ◌↔◌, ℕ}
use Rattle.std.proofs.Math.Path.{refl}
use Rattle.std.proofs.Common.{sym, ap, ◌∙◌, arith}
use Rattle.std.proofs.lemmas.Bool.{false≢true}
use Rattle.rules.specs.declared.Settings.{Settings}
use Rattle.rules.specs.declared.Refusal.{Refusal}
use Rattle.rules.specs.Common.{when◌then◌else◌, all}
use Rattle.rules.specs.NumbersHandedBack as numbers
use Rattle.rules.specs.NumbersHandedBack.{refused, position}
use Rattle.rules.specs.SettingsAndUnitTable.{Card}
use Rattle.rules.specs.ReadingOnePart.{exponent_passed, part}
use Rattle.rules.specs.Evaluation.{evaluated, part_reading}
use Rattle.rules.proofs.Laws.Outcomes.{Refused, the_cause, refused_map, refused_bind}
use Rattle.rules.proofs.Laws.Refusals.{sign_by, number_by, gap_by, unit_by, connection_by, infinity_by, numeral_by, spoken_unit_by, evaluated_by, allowed_by}
use Rattle.handed_back.specs.TheStepsOfAPart.{Step, does, Comes, sign, number, exponent, before_a_unit, unit, infinity, numeral, spoken_unit, connection}
use Rattle.handed_back.specs.AStepRefuses.{part_told, due}
use Rattle.handed_back.specs.RefusedWith.{RefusedWith, once}
use Rattle.exponent_place.specs.TheWrongDigit.{minus_behind, WrongDigit, number_of, out_of_range}
use Rattle.exponent_place.proofs.StepFour as step_four
use Rattle.exponent_place.proofs.StepFour.{step_refuses}
use Rattle.exponent_place.specs.OtherNumbers.{IfOutOfRange, other_numbers}

-- ---- what an exponent out of range is refused with

passed_number : (negative : Bool) (q : ℕ) → numbers.number (exponent_passed negative q) ≡ number_of negative
unfolding numbers.number exponent_passed when◌then◌else◌
passed_number true q = refl
passed_number false q = refl

passed_position : (negative : Bool) (q : ℕ) → position (exponent_passed negative q) ≡ q
unfolding position exponent_passed when◌then◌else◌
passed_position true q = refl
passed_position false q = refl

number_out : (negative : Bool) → out_of_range (number_of negative) ≡ true
unfolding out_of_range when◌then◌else◌
number_out true = refl
number_out false = refl

-- the number tells the sign
same_sign : (n m : Bool) → number_of n ≡ number_of m → n ≡ m
unfolding when◌then◌else◌
same_sign true true e = refl
same_sign false false e = refl
same_sign true false e = absurd (omega arith)
same_sign false true e = absurd (omega arith)

-- refused by 3 or 4, with a sign and a place of which X holds
abbrev pub PassedWith : (Bool → ℕ → Type 0) → Refusal → Type 0
PassedWith X cause = (negative : Bool) × (q : ℕ) × (cause ≡ exponent_passed negative q) × X negative q

-- ---- a part

module _ (card : Card) (text : List ℕ) where
  abbrev s : Settings
  s = card.settings

  -- what the part that begins at `from` is refused with, if it is 3 or 4
  abbrev Told : ℕ → Refusal → Type 0
  Told from = IfOutOfRange (PassedWith (WrongDigit card text from))

  -- step 4 alone refuses so
  step_told : (from : ℕ) (step : Step) (p : ℕ) → Comes card text from step p → Refused (Told from) (does card text step p)
  unfolding out_of_range all
  step_told from exponent e c =
      refused_map (step_four.step_told text e s)
      (λ cause told wrong.
      let (on, (q, is, passed)) = told wrong in
      (minus_behind text e, q, is, record { e = e; comes = c; exponents_on = on; sign = refl; passed = passed }))
  step_told from sign p c = other_numbers (sign_by s text p) refl
  step_told from number p c = other_numbers (number_by s text p) refl
  step_told from before_a_unit p c = other_numbers (gap_by s text s.before_unit p) refl
  step_told from unit p c = other_numbers (unit_by card text p) refl
  step_told from infinity p c = other_numbers (infinity_by s text p) refl
  step_told from numeral p c = other_numbers (numeral_by card text p) refl
  step_told from spoken_unit p c = other_numbers (spoken_unit_by card text p) refl
  step_told from connection p c = other_numbers (connection_by s text p) refl

  reading_told : (from : ℕ) → Refused (Told from) (part_reading card text from)
  unfolding part_reading out_of_range numbers.number all
  reading_told from =
      refused_bind (part card text from) (part_told card text from (step_told from) (λ wrong. absurd (false≢true wrong)))
      (λ p _.
      refused_bind (evaluated text p.repr) (other_numbers (evaluated_by text p.repr) refl)
      (λ l _. other_numbers (allowed_by s from p.next l) refl))

  -- the part is refused so exactly if its exponent passes the range there
  pub part_exactly : (from : ℕ) (negative : Bool) (q : ℕ) → RefusedWith (part_reading card text from) (number_of negative) q ↔ WrongDigit card text from negative q
  part_exactly from negative q = (there, back)
    where
      there : RefusedWith (part_reading card text from) (number_of negative) q → WrongDigit card text from negative q
      there h =
          let (n, p, is, wrong) = the_cause (reading_told from) h.refuses (ap out_of_range h.its_number ∙ number_out negative) in
          let sign : n ≡ negative = same_sign n negative (sym (passed_number n p) ∙ ap numbers.number (sym is) ∙ h.its_number) in
          let place : p ≡ q = sym (passed_position n p) ∙ ap position (sym is) ∙ h.its_position in
          rw (sign, place) at wrong

      back : WrongDigit card text from negative q → RefusedWith (part_reading card text from) (number_of negative) q
      back wrong = record {
        cause = exponent_passed negative q;
        refuses = due card text from wrong.comes (step_refuses text wrong.e s q wrong.exponents_on wrong.passed) ∙ ap (λ n. refused (exponent_passed n q)) wrong.sign;
        its_number = passed_number negative q;
        its_position = passed_position negative q;
      }

  -- so there is one such digit at most
  pub one_digit : (from : ℕ) {n m : Bool} {p q : ℕ} → WrongDigit card text from n p → WrongDigit card text from m q → (n ≡ m) × (p ≡ q)
  one_digit from {n} {m} {p} {q} one another =
      let (same, place) = once ((part_exactly from n p).1 one) ((part_exactly from m q).1 another) in
      (same_sign n m same, place)
