-- A part up to its connection, as the steps give it, and that with the connection it is document 01's part. Assumes nothing.
use Rattle.std.specs.Prelude.{◌≡◌, ◌&&◌, ◌||◌, ◌⊎◌, eqb, length, get_or, take, drop}
use Rattle.std.proofs.Math.Path.{refl, sym}
use Rattle.std.proofs.Common.{◌∙◌, arith, drop_of_length-le, drop-cons}
use Rattle.std.proofs.Math.Bool.{Bool, true, false, not}
use Rattle.std.proofs.lemmas.Bool.{false≢true}
use mathlib.Core.List.{List, [], ◌∷◌}
use Rattle.std.proofs.Math.Logic.{⊎_elim}
use Prim.Native.Nat.{ℕ, zero, suc, ◌+◌, ◌-◌, ◌≤◌, ◌<◌}
use borrow.Author.Tests.{le-leb, lt-leb, leb-true, leb-false, eqb-true, ne_eqb}
use Rattle.std.proofs.Math.Dec.{leb}
use Rattle.std.proofs.Math.Seq.{slice}
use Rattle.rules.specs.declared.Settings.{Settings}
use Rattle.rules.specs.declared.Signed.{Signed}
use Rattle.rules.specs.declared.Part.{Part}
use Rattle.rules.specs.declared.Refusal.{Refusal}
use Rattle.rules.specs.declared.Refusal.TheVariants.{Nothing, NoNumber}
use Rattle.rules.specs.Common.{when◌then◌else◌, ascii, between, ends, starts, sees, run}
use Rattle.rules.specs.NumbersHandedBack.{Outcome, got, refused, ◌>>=◌}
use Rattle.rules.specs.SettingsAndUnitTable.{DIGIT, SIGN, POINT, LETTER, OTHER, class, is, lower, holds, Card}
use Rattle.rules.specs.ReadingOnePart.{same_letter, prefix, says, gap, sign_step, number_step, exponent_step, unit_step, numeral_end, numeral_found, numeral_step, spoken_unit_step, connection, infinite, finite, spoken, infinite_part, finite_part, spoken_part, unsigned_part, part}
use Rattle.rules.proofs.Laws.Ahead.{says_within}
use Rattle.rules.proofs.Laws.Choices.{and_left, and_both, if_then, if_else}
use Rattle.rules.proofs.Laws.Outcomes.{all_got, all_refused, all_if, all_bind, all_of, always, bind_got, bind_refused, bind_assoc}
use Rattle.rules.proofs.Laws.Tests.{and_false}
use Rattle.rules.proofs.Laws.Texts.{sees_here, sees_end, run_from}
use Rattle.steps.specs.Signs.{sign_other}
use Rattle.steps.specs.Stretches.{stretch_part}
use Rattle.steps.specs.Numerals.{Sayable}
use Rattle.steps.specs.Joined.{then_joined, if_joined}
use Rattle.steps.specs.Infinity.{infinity_word, infinity_then}
use Rattle.reading.specs.declared.start.Start.{Start}

-- ---- the start

-- the class of the byte at a place; at the end there is none
unfoldable pub class_at : List ℕ → ℕ → ℕ
class_at text place = when ends text place then OTHER else class (get_or text place 0)

-- the sign, and the class of what follows it
abbrev pub start_of : List ℕ → Signed → Start
start_of text signed = record { negative = signed.negative; class = class_at text signed.next; next = signed.next }

unfoldable pub signed_start : Settings → List ℕ → ℕ → Outcome Start
signed_start s text place = sign_step s text place >>= λ signed. got (start_of text signed)

unfoldable pub part_start : Settings → List ℕ → ℕ → Outcome Start
part_start s text place = when ends text place then refused (Nothing place) else signed_start s text place

-- ---- up to the connection

unfoldable pub typed_infinite : Settings → List ℕ → Bool → ℕ → Outcome Part
typed_infinite s text negative place = infinity_word s text place >>= λ next. got (infinite s negative place next)

unfoldable pub typed_finite : Card → List ℕ → Bool → ℕ → Outcome Part
typed_finite card text negative place = do
  number ← number_step card.settings text place
  scaled ← exponent_step card.settings text number.next
  name ← gap card.settings.before_unit card.settings text scaled.next
  unit ← unit_step card text name
  got (finite negative number scaled unit unit.next)

unfoldable pub typed_spoken : Card → List ℕ → Bool → ℕ → Outcome Part
typed_spoken card text negative place = do
  numeral ← numeral_step card text place
  unit ← spoken_unit_step card text numeral.next
  got (spoken negative numeral unit unit.next)

unfoldable pub typed_word : Card → List ℕ → Bool → ℕ → Outcome Part
typed_word card text negative place =
    when card.settings.infinity && says (ascii "inf") text place
    then typed_infinite card.settings text negative place
    else typed_spoken card text negative place

unfoldable pub typed_unsigned : Card → List ℕ → Bool → ℕ → Outcome Part
typed_unsigned card text negative place =
    when sees (λ b. is DIGIT b || is POINT b) text place then typed_finite card text negative place else typed_word card text negative place

unfoldable pub typed_part : Card → List ℕ → ℕ → Outcome Part
typed_part card text place = part_start card.settings text place >>= λ start. typed_unsigned card text start.negative start.next

-- ---- with the connection

unfoldable pub connected : Settings → List ℕ → Part → Outcome Part
connected s text typed = connection s text typed.next >>= λ next. got (record { repr = typed.repr; next = next })

module _ (card : Card) (text : List ℕ) where
  abbrev s : Settings
  s = card.settings

  module _ (negative : Bool) (place : ℕ) where
    infinite_connected : infinite_part s text negative place ≡ (typed_infinite s text negative place >>= connected s text)
    unfolding infinite_part typed_infinite connected ◌>>=◌
    infinite_connected =
        rw (infinity_then s text place)
        (bind_assoc (infinity_word s text place) _ _ ∙ then_joined _ (infinity_word s text place) _ (λ next. refl))

    finite_connected : finite_part card text negative place ≡ (typed_finite card text negative place >>= connected s text)
    unfolding finite_part typed_finite connected ◌>>=◌
    finite_connected =
        then_joined _ (number_step s text place) _
        (λ number. then_joined _ (exponent_step s text number.next) _
        (λ scaled. then_joined _ (gap s.before_unit s text scaled.next) _
        (λ name. then_joined _ (unit_step card text name) _ (λ unit. refl))))

    spoken_connected : spoken_part card text negative place ≡ (typed_spoken card text negative place >>= connected s text)
    unfolding spoken_part typed_spoken connected ◌>>=◌
    spoken_connected =
        then_joined _ (numeral_step card text place) _
        (λ numeral. then_joined _ (spoken_unit_step card text numeral.next) _ (λ unit. refl))

    unsigned_connected : unsigned_part card text negative place ≡ (typed_unsigned card text negative place >>= connected s text)
    unfolding unsigned_part typed_unsigned typed_word ◌>>=◌
    unsigned_connected =
        if_joined _ _ _ _ finite_connected (if_joined _ _ _ _ infinite_connected spoken_connected)

  -- a part is what was typed, and its connection
  pub part_connected : (place : ℕ) → part card text place ≡ (typed_part card text place >>= connected s text)
  unfolding part typed_part part_start signed_start ◌>>=◌
  part_connected place =
      if_joined after (ends text place) _ _ refl
      (then_joined after (sign_step s text place) _ (λ signed. unsigned_connected signed.negative signed.next))
      ∙ sym (bind_assoc (part_start s text place) _ _)
    where
      after : Start → Outcome Part
      after start = typed_unsigned card text start.negative start.next >>= connected s text

-- ---- laws of the start

module _ (text : List ℕ) (place : ℕ) where
  pub class_end : length text ≤ place → OTHER ≡ class_at text place
  unfolding class_at ends when◌then◌else◌
  class_end h = rw (le-leb (length text) place h)

  pub class_here : place < length text → class (get_or text place 0) ≡ class_at text place
  unfolding class_at ends when◌then◌else◌
  class_here h = rw (lt-leb (length text) place h)

  -- a byte that is known to be of a class has it
  pub class_known : (c : ℕ) → place < length text → is c (get_or text place 0) ≡ true → c ≡ class_at text place
  unfolding is
  class_known c h e = sym (eqb-true _ c e) ∙ class_here h

module _ (s : Settings) (text : List ℕ) (place : ℕ) where
  pub signed_refused : {cause : Refusal} → sign_step s text place ≡ refused cause → refused cause ≡ signed_start s text place
  unfolding signed_start
  signed_refused e = sym (bind_refused _ e)

  pub signed_got :
      {signed : Signed}
      → sign_step s text place ≡ got signed
      → {class : ℕ}
      → class ≡ class_at text signed.next
      → got (record { negative = signed.negative; class = class; next = signed.next }) ≡ signed_start s text place
  unfolding signed_start
  signed_got e f = rw f (sym (bind_got _ e))

  pub start_nothing : length text ≤ place → refused (Nothing place) ≡ part_start s text place
  unfolding part_start ends when◌then◌else◌
  start_nothing h = rw (le-leb (length text) place h)

  module _ (h : place < length text) where
    pub start_signed : signed_start s text place ≡ part_start s text place
    unfolding part_start ends when◌then◌else◌
    start_signed = rw (lt-leb (length text) place h)

    pub start_plain :
        {c : ℕ}
        → c ≡ class_at text place
        → (c ≡ SIGN → ⊥)
        → got (record { negative = false; class = c; next = place }) ≡ part_start s text place
    unfolding is
    start_plain f other =
        signed_got (sym (sign_other s text place h (ne_eqb _ SIGN (λ e. other (f ∙ sym (class_here text place h) ∙ e))))) f ∙ start_signed

  -- the class is that of the byte at the next place
  pub start_class : {start : Start} → part_start s text place ≡ got start → start.class ≡ class_at text start.next
  unfolding part_start signed_start
  start_class e =
      all_of {P = λ start. start.class ≡ class_at text start.next}
      (all_if (λ _. all_refused) (λ _. all_bind (always (sign_step s text place)) (λ signed _. all_got refl))) e

-- ---- the class decides how the part goes on

-- a byte of `inf` is a letter
inf_letter : (b : ℕ) → same_letter 105 b ≡ true → class b ≡ LETTER
unfolding same_letter lower class between when◌then◌else◌
inf_letter b e = go (between 65 90 b) refl
  where
    capital : between 65 90 b ≡ true → lower b ≡ b + 32
    capital f = rw f

    small : between 65 90 b ≡ false → lower b ≡ b
    small f = rw f

    go : (c : Bool) → between 65 90 b ≡ c → class b ≡ LETTER
    go true f =
        let seventy_three : b ≡ 73 = omega (arith, eqb-true 105 (lower b) e, capital f) in
        rw seventy_three
    go false f =
        let hundred_five : b ≡ 105 = omega (arith, eqb-true 105 (lower b) e, small f) in
        rw hundred_five

inf_there : (text : List ℕ) (place : ℕ) → says (ascii "inf") text place ≡ true → (place < length text) × (same_letter 105 (get_or text place 0) ≡ true)
unfolding says ascii prefix
inf_there text place e = go (leb (length text) place) refl
  where
    go : (c : Bool) → leb (length text) place ≡ c → (place < length text) × (same_letter 105 (get_or text place 0) ≡ true)
    go true f = absurd (false≢true (rw (drop_of_length-le text (leb-true (length text) place f)) at e))
    go false f =
        let h : place < length text = leb-false (length text) place f in
        (h, and_left _ _ (rw (drop-cons text place 0 h) at e))

pub inf_within : (text : List ℕ) (place : ℕ) → says (ascii "inf") text place ≡ true → place + 3 ≤ length text
unfolding ascii
inf_within text place e = says_within (ascii "inf") text place (omega (arith, (inf_there text place e).0)) e

-- a number begins with a byte of these classes
abbrev begins : ℕ → Bool
begins c = eqb c DIGIT || eqb c POINT

module _ (card : Card) (text : List ℕ) (negative : Bool) (place : ℕ) where
  -- what stands at the place, from its class
  numeric : Bool
  numeric = sees (λ b. is DIGIT b || is POINT b) text place

  numeric_class : numeric ≡ begins (class_at text place)
  unfolding numeric class_at ends is when◌then◌else◌
  numeric_class = go (leb (length text) place) refl
    where
      go : (c : Bool) → leb (length text) place ≡ c → numeric ≡ begins (when c then OTHER else class (get_or text place 0))
      go true f = sees_end _ text place (leb-true (length text) place f)
      go false f = sees_here _ text place (leb-false (length text) place f)

  pub unsigned_number :
      (class_at text place ≡ DIGIT) ⊎ (class_at text place ≡ POINT)
      → typed_finite card text negative place ≡ typed_unsigned card text negative place
  unfolding typed_unsigned numeric when◌then◌else◌
  unsigned_number f = rw (numeric_class ∙ either f)
    where
      either : (class_at text place ≡ DIGIT) ⊎ (class_at text place ≡ POINT) → begins (class_at text place) ≡ true
      either f = ⊎_elim (λ e. rw e) (λ e. rw e) f

  not_numeric :
      (class_at text place ≡ DIGIT → ⊥)
      → (class_at text place ≡ POINT → ⊥)
      → typed_word card text negative place ≡ typed_unsigned card text negative place
  unfolding typed_unsigned numeric when◌then◌else◌
  not_numeric d p = rw (numeric_class, ne_eqb _ DIGIT d, ne_eqb _ POINT p)

  -- ---- a word: infinity, if it is allowed, or a numeral

  module _ (e : class_at text place ≡ LETTER) where
    word : typed_word card text negative place ≡ typed_unsigned card text negative place
    word = not_numeric (λ d. omega arith) (λ p. omega arith)

    pub word_infinite : card.settings.infinity ≡ true → says (ascii "inf") text place ≡ true → typed_infinite card.settings text negative place ≡ typed_unsigned card text negative place
    unfolding typed_word
    word_infinite on said = sym (if_then _ _ (and_both on said)) ∙ word

    pub word_off : card.settings.infinity ≡ false → typed_spoken card text negative place ≡ typed_unsigned card text negative place
    unfolding typed_word
    word_off off = sym (if_else _ _ (rw off)) ∙ word

    pub word_other : says (ascii "inf") text place ≡ false → typed_spoken card text negative place ≡ typed_unsigned card text negative place
    unfolding typed_word
    word_other said = sym (if_else _ _ (rw (said, and_false))) ∙ word

  -- ---- what begins with no letter is no numeral

  starts_part : (test : ℕ → Bool) (n : ℕ) (rest : List ℕ) → starts test rest ≡ false → starts test (take n rest) ≡ false
  unfolding starts
  starts_part test zero rest e = refl
  starts_part test (suc n) [] e = refl
  starts_part test (suc n) (b ∷ rest) e = e

  unlettered : (class_at text place ≡ LETTER → ⊥) → starts (is LETTER) (slice place (numeral_end card.settings text place) text) ≡ false
  unfolding numeral_end sees is
  unlettered l =
      rw (← (stretch_part text place end (run_from outside text place)))
      (starts_part (is LETTER) (end - place) (drop place text) (no_letter (leb (length text) place) refl))
    where
      outside : ℕ → Bool
      outside b = not (holds card.settings.inner b)

      end : ℕ
      end = run outside text place

      no_letter : (c : Bool) → leb (length text) place ≡ c → sees (is LETTER) text place ≡ false
      no_letter true f = sees_end (is LETTER) text place (leb-true (length text) place f)
      no_letter false f =
          let h : place < length text = leb-false (length text) place f in
          sees_here (is LETTER) text place h ∙ ne_eqb _ LETTER (λ e. l (sym (class_here text place h) ∙ e))

  pub unsigned_none :
      Sayable card.numerals
      → (class_at text place ≡ DIGIT → ⊥)
      → (class_at text place ≡ POINT → ⊥)
      → (class_at text place ≡ LETTER → ⊥)
      → refused (NoNumber place) ≡ typed_unsigned card text negative place
  unfolding typed_word typed_spoken numeral_step numeral_found when◌then◌else◌
  unsigned_none sayable d p l = no_word (says (ascii "inf") text place) refl ∙ not_numeric d p
    where
      no_numeral : numeral_step card text place ≡ refused (NoNumber place)
      no_numeral = rw (sayable.lettered _ (unlettered l))

      no_word : (b : Bool) → says (ascii "inf") text place ≡ b → refused (NoNumber place) ≡ typed_word card text negative place
      no_word true e = let there = inf_there text place e in absurd (l (sym (class_here text place there.0) ∙ inf_letter _ there.1))
      no_word false e = rw (e, and_false) (sym (bind_refused _ no_numeral))

-- ---- infinity

module _ (s : Settings) (text : List ℕ) (negative : Bool) (place : ℕ) where
  pub infinite_refused : {cause : Refusal} → infinity_word s text place ≡ refused cause → refused cause ≡ typed_infinite s text negative place
  unfolding typed_infinite
  infinite_refused w = sym (bind_refused _ w)

  pub infinite_got : {next : ℕ} → infinity_word s text place ≡ got next → got (infinite s negative place next) ≡ typed_infinite s text negative place
  unfolding typed_infinite
  infinite_got w = sym (bind_got _ w)
