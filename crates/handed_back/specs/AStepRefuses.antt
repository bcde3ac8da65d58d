-- What a step refuses at a place to which the reading of a part comes, the part is refused with; and the part is refused with nothing else, but
-- where nothing is there. Assumes nothing.
use Rattle.std.specs.Prelude.{◌≡◌, Bool, true, false, List, ℕ, ◌+◌, drop}
use Rattle.std.proofs.Math.Path.{ap}
use Rattle.std.proofs.Common.{◌∙◌}
use Rattle.rules.specs.declared.Part.{Part}
use Rattle.rules.specs.declared.Refusal.{Refusal}
use Rattle.rules.specs.declared.Refusal.TheVariants.{Nothing}
use Rattle.rules.specs.declared.Scaled.{Scaled}
use Rattle.rules.specs.declared.Settings.{Settings}
use Rattle.rules.specs.declared.SpokenUnit.{SpokenUnit}
use Rattle.rules.specs.declared.Unit as declared_unit
use Rattle.rules.specs.Common.{ascii}
use Rattle.rules.specs.NumbersHandedBack.{Outcome, got, refused, ◌>>=◌}
use Rattle.rules.specs.SettingsAndUnitTable.{Card}
use Rattle.rules.specs.ReadingOnePart.{says, gap, sign_step, number_step, exponent_step, unit_step, closes_infinity, infinity_closed, infinity_step, numeral_step, spoken_unit_step, finite, spoken, infinite, infinite_part, finite_part, spoken_part, unsigned_part, part}
use Rattle.rules.specs.ReadingOnePart as reader
use Rattle.rules.specs.Evaluation.{part_reading}
use Rattle.rules.proofs.Laws.Choices.{if_then, if_else}
use Rattle.rules.proofs.Laws.Outcomes.{bind_got, bind_refused, Refused, not_refused, refused_by, refused_if, refused_bind}
use Rattle.handed_back.specs.TheLettersOfAWord.{letters_all}
use Rattle.handed_back.specs.TheStepsOfAPart.{Step, Found, does, Comes, sign, number, exponent, before_a_unit, unit, infinity, numeral, spoken_unit, connection, begins, to_number, to_infinity, to_numeral, to_exponent, to_gap, to_unit, to_spoken_unit, behind_unit, behind_spoken_unit, behind_inf, behind_infinity}

module _ (card : Card) (text : List ℕ) (from : ℕ) where
  abbrev s : Settings
  s = card.settings

  abbrev At : Step → ℕ → Type 0
  At = Comes card text from

  -- ---- what holds of whatever a step refuses, holds of what the part is refused with

  module _ {X : Refusal → Type 0} (told : (step : Step) (p : ℕ) → At step p → Refused X (does card text step p)) where
    finite_told : (negative : Bool) {p : ℕ} → At number p → Refused X (finite_part card text negative p)
    unfolding finite_part
    finite_told negative {p} c =
        refused_bind (number_step s text p) (told number _ c)
        (λ found read.
        let c : At exponent found.next = to_exponent c read in
        refused_bind (exponent_step s text found.next) (told exponent _ c)
        (λ scaled read.
        let c : At before_a_unit scaled.next = to_gap c read in
        refused_bind (gap s.before_unit s text scaled.next) (told before_a_unit _ c)
        (λ name read.
        let c : At unit name = to_unit c read in
        refused_bind (unit_step card text name) (told unit _ c)
        (λ found read. refused_bind (reader.connection s text found.next) (told connection _ (behind_unit c read)) (λ next _. not_refused)))))

    spoken_told : (negative : Bool) {p : ℕ} → At numeral p → Refused X (spoken_part card text negative p)
    unfolding spoken_part
    spoken_told negative {p} c =
        refused_bind (numeral_step card text p) (told numeral _ c)
        (λ found read.
        let c : At spoken_unit found.next = to_spoken_unit c read in
        refused_bind (spoken_unit_step card text found.next) (told spoken_unit _ c)
        (λ found read. refused_bind (reader.connection s text found.next) (told connection _ (behind_spoken_unit c read)) (λ next _. not_refused)))

    pub part_told : X (Nothing from) → Refused X (part card text from)
    unfolding part unsigned_part infinite_part
    part_told nothing =
        refused_if (λ _. refused_by nothing)
        (λ on.
        refused_bind (sign_step s text from) (told sign _ (begins on))
        (λ signed read.
        refused_if (λ starts. finite_told signed.negative (to_number (begins on) read starts))
        (λ none.
        refused_if (λ inf. refused_bind (infinity_step s text signed.next) (told infinity _ (to_infinity (begins on) read none inf)) (λ next _. not_refused))
        (λ no_inf. spoken_told signed.negative (to_numeral (begins on) read none no_inf)))))

  -- ---- infinity as far as its connection

  short_word : (i : ℕ) → closes_infinity s text (i + 3) ≡ true → infinity_step s text i ≡ reader.connection s text (i + 3)
  unfolding infinity_step
  short_word i closes = if_then _ _ closes

  long_word : (i : ℕ) → closes_infinity s text (i + 3) ≡ false → says (ascii "inity") text (i + 3) ≡ true → closes_infinity s text (i + 3 + 5) ≡ true → infinity_step s text i ≡ reader.connection s text (i + 3 + 5)
  unfolding infinity_step infinity_closed says ascii
  long_word i more said closes =
      if_else _ _ more ∙ bind_got _ (letters_all i (ascii "inity") (drop (i + 3) text) (i + 3) said) ∙ if_then _ _ closes

  -- ---- what is left of the part at each step, whatever is made of what the steps find

  abbrev connected : (ℕ → Part) → ℕ → Outcome Part
  connected make p = reader.connection s text p >>= λ next. got (make next)

  abbrev from_unit : (declared_unit.Unit → ℕ → Part) → ℕ → Outcome Part
  from_unit make p = unit_step card text p >>= λ found. connected (make found) found.next

  abbrev from_gap : (declared_unit.Unit → ℕ → Part) → ℕ → Outcome Part
  from_gap make p = gap s.before_unit s text p >>= λ name. from_unit make name

  abbrev from_exponent : (Scaled → declared_unit.Unit → ℕ → Part) → ℕ → Outcome Part
  from_exponent make p = exponent_step s text p >>= λ found. from_gap (make found) found.next

  abbrev from_spoken_unit : (SpokenUnit → ℕ → Part) → ℕ → Outcome Part
  from_spoken_unit make p = spoken_unit_step card text p >>= λ found. connected (make found) found.next

  abbrev Is : Outcome Part → Type 0
  Is m = part card text from ≡ m

  Left : Step → ℕ → Type 0
  Left sign p = Is (sign_step s text p >>= λ signed. unsigned_part card text signed.negative signed.next)
  Left number p = (negative : Bool) × Is (finite_part card text negative p)
  Left exponent p = (make : Scaled → declared_unit.Unit → ℕ → Part) × Is (from_exponent make p)
  Left before_a_unit p = (make : declared_unit.Unit → ℕ → Part) × Is (from_gap make p)
  Left unit p = (make : declared_unit.Unit → ℕ → Part) × Is (from_unit make p)
  Left infinity p = (negative : Bool) × Is (infinite_part s text negative p)
  Left numeral p = (negative : Bool) × Is (spoken_part card text negative p)
  Left spoken_unit p = (make : SpokenUnit → ℕ → Part) × Is (from_spoken_unit make p)
  Left connection p = (make : ℕ → Part) × Is (connected make p)

  left : {step : Step} {p : ℕ} → At step p → Left step p
  unfolding Left part unsigned_part finite_part infinite_part spoken_part
  left (begins on) = if_else _ _ on
  left (to_number {signed = signed} c read starts) = (signed.negative, left c ∙ bind_got _ read ∙ if_then _ _ starts)
  left (to_infinity {signed = signed} c read none inf) = (signed.negative, left c ∙ bind_got _ read ∙ if_else _ _ none ∙ if_then _ _ inf)
  left (to_numeral {signed = signed} c read none no_inf) = (signed.negative, left c ∙ bind_got _ read ∙ if_else _ _ none ∙ if_else _ _ no_inf)
  left (to_exponent {found = found} c read) = let (negative, e) = left c in ((λ scaled unit next. finite negative found scaled unit next), e ∙ bind_got _ read)
  left (to_gap {found = found} c read) = let (make, e) = left c in (make found, e ∙ bind_got _ read)
  left (to_unit c read) = let (make, e) = left c in (make, e ∙ bind_got _ read)
  left (to_spoken_unit {found = found} c read) = let (negative, e) = left c in ((λ unit next. spoken negative found unit next), e ∙ bind_got _ read)
  left (behind_unit {found = found} c read) = let (make, e) = left c in (make found, e ∙ bind_got _ read)
  left (behind_spoken_unit {found = found} c read) = let (make, e) = left c in (make found, e ∙ bind_got _ read)
  left (behind_inf {i = i} c closes) =
      let (negative, e) = left c in
      ((λ next. infinite s negative i next), e ∙ ap (λ m. m >>= λ next. got (infinite s negative i next)) (short_word i closes))
  left (behind_infinity {i = i} c more said closes) =
      let (negative, e) = left c in
      ((λ next. infinite s negative i next), e ∙ ap (λ m. m >>= λ next. got (infinite s negative i next)) (long_word i more said closes))

  -- ---- so what a step refuses, the part is refused with

  -- the part is the step, and then what is made of what it finds
  begun : (step : Step) {p : ℕ} → At step p → (next : Found step → Outcome Part) × Is (does card text step p >>= next)
  unfolding Left finite_part infinite_part spoken_part
  begun sign c = (_, left c)
  begun number c = (_, (left c).1)
  begun exponent c = (_, (left c).1)
  begun before_a_unit c = (_, (left c).1)
  begun unit c = (_, (left c).1)
  begun infinity c = (_, (left c).1)
  begun numeral c = (_, (left c).1)
  begun spoken_unit c = (_, (left c).1)
  begun connection c = (_, (left c).1)

  pub due : {step : Step} {p : ℕ} {cause : Refusal} → At step p → does card text step p ≡ refused cause → part_reading card text from ≡ refused cause
  unfolding part_reading
  due {step} c e = bind_refused _ ((begun step c).1 ∙ bind_refused _ e)
