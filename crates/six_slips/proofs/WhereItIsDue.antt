-- Wherever one of the six slips stands, the part is refused with its number there: what is left of the part at each step, and the refusal that
-- the step gives. Assumes nothing.
use Rattle.std.specs.Prelude.{◌≡◌, Bool, true, false, ◌||◌, List, ◌∷◌, ◌++◌, ℕ, ◌+◌, ◌<◌, drop}
use Rattle.std.proofs.Math.Path.{refl, ap}
use Rattle.std.proofs.Common.{sym, ◌∙◌, arith}
use Rattle.std.proofs.Math.Bool.{not}
use borrow.Author.Tests.{lt-leb, ne_eqb, not-true}
use Rattle.std.proofs.Math.ListN.{length, length-drop}
use Rattle.rules.specs.declared.ByteSet.{ByteSet}
use Rattle.rules.specs.declared.Multiplier.{Multiplier}
use Rattle.rules.specs.declared.Refusal.{Refusal}
use Rattle.rules.specs.declared.Refusal.TheVariants.{SignEnds, DelimiterEnds, FractionOff, FractionEmpty, ExponentOff, ExponentByte, ExponentEnds, InfinityByte, InfinityEnds, InfinityGoesOn, ConjunctionEnds, ConjunctionGoesOn}
use Rattle.rules.specs.declared.Settings.{Settings}
use Rattle.rules.specs.Common.{ascii, ends, sees, run}
use Rattle.rules.specs.NumbersHandedBack as numbers
use Rattle.rules.specs.NumbersHandedBack.{refused, position}
use Rattle.rules.specs.SettingsAndUnitTable.{DIGIT, POINT, is, is_next_duration, holds, Card}
use Rattle.rules.specs.ReadingOnePart.{says, delimiters, gap, sign_step, fraction_step, number_step, exponent_number, exponent_step, ago_step, unit_found, unit_step, after_conjunction, conjunction_step, letters_step, infinity_closed, infinity_step, numeral_found, numeral_step, spoken_unit_found, spoken_unit_step}
use Rattle.rules.specs.ReadingOnePart as reader
use Rattle.rules.specs.Evaluation.{part_reading}
use Rattle.rules.proofs.Laws.Choices.{and_both, or_neither, if_then, if_else}
use Rattle.rules.proofs.Laws.Outcomes.{bind_got, bind_refused}
use Rattle.rules.proofs.Laws.Texts.{ends_le, sees_in, sees_end, sees_here, sees_or, sees_shift, run_stop}
use Rattle.exponent_place.specs.TheWrongDigit.{first_digit}
use Rattle.handed_back.specs.RefusedWith.{RefusedWith}
use Rattle.handed_back.specs.AStepRefuses.{due}
use Rattle.handed_back.specs.TheLettersOfAWord.{letters_all, letters_wrong, letters_short}
use Rattle.handed_back.specs.TheStepsOfAPart.{Step, Comes}
use Rattle.six_slips.specs.TheSixSlips.{LastRun, TextEnds, behind_sign, in_exponent, Conjoins, Takes, behind_a_sign, between_number_and_unit, before_ago, before_spoken_ago, behind_numeral, of_connection, behind_conjunction, DelimitersEnd, ConjunctionSlip, conjunction_ends, conjunction_goes_on, FractionSlip, fractions_off, bare_point, ExponentSlip, exponents_off, no_digit, RightLetters, InfinitySlip, wrong_letter, ends_within, word_goes_on}

module _ (card : Card) (text : List ℕ) (from : ℕ) where
  abbrev s : Settings
  s = card.settings

  abbrev At : Step → ℕ → Type 0
  At = Comes card text from

  abbrev Due : ℕ → ℕ → Type 0
  Due = RefusedWith (part_reading card text from)

  abbrev Refuses : Refusal → Type 0
  Refuses cause = part_reading card text from ≡ refused cause

  conjunction_due : {word size : ℕ} {cause : Refusal} → Conjoins card text from word size → after_conjunction s text word (word + size) ≡ refused cause → Refuses cause
  unfolding reader.connection conjunction_step
  conjunction_due {word} {size} c e =
      due card text from c.comes
      (if_else _ _ (ap not c.stand)
      ∙ bind_got _ c.behind
      ∙ ap (conjunction_step s text word) c.found
      ∙ if_else _ _ (ne_eqb size 0 (λ none. omega (arith, c.some)))
      ∙ e)

  given : {n q : ℕ} (cause : Refusal) → numbers.number cause ≡ n → position cause ≡ q → Refuses cause → Due n q
  given cause n q refuses = record { cause = cause; refuses = refuses; its_number = n; its_position = q }

  -- ---- 17

  pub text_ends : {q : ℕ} → TextEnds card text from q → Due 17 q
  unfolding sign_step exponent_step exponent_number first_digit numbers.number position
  text_ends (behind_sign {p = p} c stands end) = given (SignEnds (p + 1)) refl refl (due card text from c (if_else _ _ (ap not stands) ∙ if_then _ _ end))
  text_ends (in_exponent {e = e} c letter on end) =
      given (ExponentEnds (first_digit text e)) refl refl
      (due card text from c
      (if_else _ _ (ap not letter)
      ∙ if_else _ _ (ap not on)
      ∙ if_else _ _ (sees_end (is DIGIT) text (first_digit text e) (ends_le text (first_digit text e) end))
      ∙ if_then _ _ end))

  -- ---- 18

  module _ {set : ByteSet} {q : ℕ} (last : LastRun text set q) where
    run_ends_text : delimiters set text q ≡ refused (DelimiterEnds q)
    unfolding delimiters
    run_ends_text = if_then _ _ (and_both last.stand last.end)

    -- where they stand the text goes on
    goes_on : ends text q ≡ false
    unfolding ends
    goes_on = lt-leb (length text) q (sees_in (holds set) text q last.stand)

  ago_ends : (m : Multiplier) {q : ℕ} → s.ago ≡ true → LastRun text s.inner q → ago_step s text m q ≡ refused (DelimiterEnds q)
  unfolding ago_step
  ago_ends m on last = if_else _ _ (ap not (and_both on last.stand)) ∙ bind_refused _ (run_ends_text last)

  taken_ends : {set : ByteSet} {q : ℕ} → Takes card text from set q → LastRun text set q → Refuses (DelimiterEnds q)
  unfolding sign_step gap unit_step unit_found spoken_unit_step spoken_unit_found numeral_step numeral_found reader.connection after_conjunction
  taken_ends (behind_a_sign c stands on) last =
      due card text from c (if_else _ _ (ap not stands) ∙ if_else _ _ (goes_on last) ∙ bind_refused _ (if_then _ _ on ∙ run_ends_text last))
  taken_ends (between_number_and_unit c on) last = due card text from c (if_then _ _ on ∙ run_ends_text last)
  taken_ends (before_ago {p = p} c found on) last = due card text from c (ap (unit_found s text p) found ∙ ago_ends _ on last)
  taken_ends (before_spoken_ago {p = p} c found on) last = due card text from c (ap (spoken_unit_found s text p) found ∙ bind_refused _ (ago_ends _ on last))
  taken_ends (behind_numeral {p = p} c found) last =
      due card text from c (ap (numeral_found card text p) found ∙ if_then _ _ last.stand ∙ bind_refused _ (run_ends_text last))
  taken_ends (of_connection c) last = due card text from c (if_else _ _ (ap not last.stand) ∙ bind_refused _ (run_ends_text last))
  taken_ends (behind_conjunction c) last = conjunction_due c (if_else _ _ (goes_on last) ∙ if_then _ _ last.stand ∙ run_ends_text last)

  pub delimiters_end : {q : ℕ} → DelimitersEnd card text from q → Due 18 q
  unfolding numbers.number position
  delimiters_end {q} h = given (DelimiterEnds q) refl refl (taken_ends h.taken h.last)

  -- ---- a byte that fails a test

  -- the text goes on there, and the test fails
  other_byte : (test : ℕ → Bool) (q : ℕ) → sees (λ b. not (test b)) text q ≡ true → (ends text q ≡ false) × (sees test text q ≡ false)
  unfolding ends
  other_byte test q other =
      let within : q < length text = sees_in (λ b. not (test b)) text q other in
      (lt-leb (length text) q within, sees_here test text q within ∙ not-true _ (sym (sees_here (λ b. not (test b)) text q within) ∙ other))

  -- ---- 19

  pub conjunction_slip : {q : ℕ} → ConjunctionSlip card text from q → Due 19 q
  unfolding after_conjunction numbers.number position
  conjunction_slip (conjunction_ends {word = word} c end) = given (ConjunctionEnds word) refl refl (conjunction_due c (if_then _ _ end))
  conjunction_slip (conjunction_goes_on {word = word} {size = size} c other) =
      let (on, none) = other_byte (λ b. holds s.outer b || is_next_duration b) (word + size) other in
      let (no_delimiter, no_next) = or_neither _ _ (sym (sees_or (holds s.outer) is_next_duration text (word + size)) ∙ none) in
      given (ConjunctionGoesOn (word + size)) refl refl (conjunction_due c (if_else _ _ on ∙ if_else _ _ no_delimiter ∙ if_else _ _ no_next))

  -- ---- 20

  pub fraction_slip : {q : ℕ} → FractionSlip card text from q → Due 20 q
  unfolding number_step fraction_step numbers.number position
  fraction_slip (fractions_off {p = p} c point off) =
      given (FractionOff (run (is DIGIT) text p)) refl refl (due card text from c (if_else _ _ (ap not point) ∙ if_then _ _ (ap not off)))
  fraction_slip (bare_point {p = p} c none point after) = go s.fractions refl
    where
      here : run (is DIGIT) text p ≡ p
      here = run_stop (is DIGIT) text p none

      stands : not (sees (is POINT) text (run (is DIGIT) text p)) ≡ false
      stands = ap not (ap (sees (is POINT) text) here ∙ point)

      neither : not (sees (is DIGIT) text p || sees (is DIGIT) text (run (is DIGIT) text p + 1)) ≡ true
      neither = rw (here, none, after)

      go : (on : Bool) → s.fractions ≡ on → Due 20 p
      go true on =
          given (FractionEmpty (run (is DIGIT) text p)) refl here (due card text from c (if_else _ _ stands ∙ if_else _ _ (ap not on) ∙ if_then _ _ neither))
      go false off = given (FractionOff (run (is DIGIT) text p)) refl here (due card text from c (if_else _ _ stands ∙ if_then _ _ (ap not off)))

  -- ---- 21

  pub exponent_slip : {q : ℕ} → ExponentSlip card text from q → Due 21 q
  unfolding exponent_step exponent_number first_digit numbers.number position
  exponent_slip (exponents_off {e = e} c letter off) = given (ExponentOff e) refl refl (due card text from c (if_else _ _ (ap not letter) ∙ if_then _ _ (ap not off)))
  exponent_slip (no_digit {e = e} c letter on other) =
      let (more, none) = other_byte (is DIGIT) (first_digit text e) other in
      given (ExponentByte (first_digit text e)) refl refl
      (due card text from c (if_else _ _ (ap not letter) ∙ if_else _ _ (ap not on) ∙ if_else _ _ none ∙ if_else _ _ more))

  -- ---- 22

  module _ {i w : ℕ} {right rest : List ℕ} (h : RightLetters card text from i right w rest) where
    -- what `inity` comes to, its letters told apart
    within : {cause : Refusal} → letters_step i (right ++ w ∷ rest) (drop (i + 3) text) (i + 3) ≡ refused cause → Refuses cause
    unfolding infinity_step
    within e =
        due card text from h.comes
        (if_else _ _ h.more ∙ bind_refused _ (ap (λ word. letters_step i word (drop (i + 3) text) (i + 3)) h.word ∙ e))

  pub infinity_slip : {q : ℕ} → InfinitySlip card text from q → Due 22 q
  unfolding infinity_step infinity_closed says ascii numbers.number position
  infinity_slip (wrong_letter {i = i} {w = w} {right = right} {rest = rest} h other) =
      given (InfinityByte (i + 3 + length right)) refl refl
      (within h (letters_wrong i w rest right (drop (i + 3) text) (i + 3) h.stand (sees_shift text (i + 3) _ (length right) ∙ other)))
  infinity_slip (ends_within {i = i} {w = w} {right = right} {rest = rest} h end) =
      given (InfinityEnds i) refl refl
      (within h (letters_short i w rest right (drop (i + 3) text) (i + 3) h.stand (omega (arith, length-drop (i + 3) text, ends_le text (i + 3 + length right) end))))
  infinity_slip (word_goes_on {i = i} c more said on) =
      given (InfinityGoesOn (i + 3 + 5)) refl refl
      (due card text from c (if_else _ _ more ∙ bind_got _ (letters_all i (ascii "inity") (drop (i + 3) text) (i + 3) said) ∙ if_else _ _ on))
