-- Whatever the reading of a part is refused with, by one of the six numbers it names what stands there: step by step. Assumes nothing.
use Rattle.std.specs.Prelude.{◌≡◌, Bool, ℕ, ◌+◌, length, drop, Option, Some, None}
use Rattle.std.proofs.Math.Path.{refl, ap}
use Rattle.std.proofs.Common.{sym, ◌∙◌, arith, length-drop}
use Rattle.std.proofs.Math.Bool.{true, false, not, false≢true}
use mathlib.Core.List.{List, [], ◌∷◌}
use borrow.Author.Tests.{eqb-false, ne_eqb, le-leb, not-true, not-false}
use Rattle.std.proofs.Math.Seq.{slice}
use Rattle.rules.specs.declared.ByteSet.{ByteSet}
use Rattle.rules.specs.declared.Multiplier.{Multiplier}
use Rattle.rules.specs.declared.Refusal.{Refusal}
use Rattle.rules.specs.declared.Refusal.TheVariants.{SignEnds, DelimiterEnds, FractionOff, FractionEmpty, ExponentOff, ExponentByte, ExponentEnds, InfinityGoesOn, ConjunctionEnds, ConjunctionGoesOn}
use Rattle.rules.specs.declared.Settings.{Settings}
use Rattle.rules.specs.Common.{ascii, between, all, ends, sees, run}
use Rattle.rules.specs.NumbersHandedBack as numbers
use Rattle.rules.specs.NumbersHandedBack.{Outcome, refused, position}
use Rattle.rules.specs.SettingsAndUnitTable.{DIGIT, POINT, is, is_next_duration, holds, conjunctions_of, Card, lookup}
use Rattle.rules.specs.ReadingOnePart.{says, delimiters, gap, sign_step, fraction_step, number_step, exponent_number, exponent_step, ago_step, find_unit, unit_found, unit_step, conjunction_size, after_conjunction, conjunction_step, closes_infinity, letters_step, infinity_closed, infinity_step, numeral_end, numeral_found, numeral_step, spoken_unit_found, spoken_unit_step, part}
use Rattle.rules.specs.ReadingOnePart as reader
use Rattle.rules.specs.Evaluation.{evaluated, part_reading}
use Rattle.rules.proofs.Laws.Choices.{and_left, and_right, or_neither}
use Rattle.rules.proofs.Laws.Outcomes.{all_of, Refused, not_refused, refused_by, refused_map, refused_if, refused_bind}
use Rattle.rules.proofs.Laws.Refusals.{By, by_passing, digits_by, evaluated_by, allowed_by}
use Rattle.rules.proofs.Laws.Texts.{not_ends_lt, sees_here, sees_or, sees_shift, run_stop}
use Rattle.exponent_place.specs.TheWrongDigit.{first_digit}
use Rattle.handed_back.specs.AStepRefuses.{part_told}
use Rattle.handed_back.specs.TheLettersOfAWord.{letters_got, Breaks, another_byte, no_byte, Broken, letters_broken}
use Rattle.six_slips.specs.TheAnswerBefore.{slip}
use Rattle.handed_back.specs.TheStepsOfAPart.{Step, does, Comes, sign, number, exponent, before_a_unit, unit, infinity, numeral, spoken_unit, connection, behind_inf, behind_infinity}
use Rattle.six_slips.specs.TheSixSlips.{behind_sign, in_exponent, Conjoins, Takes, behind_a_sign, between_number_and_unit, before_ago, before_spoken_ago, behind_numeral, of_connection, behind_conjunction, conjunction_ends, conjunction_goes_on, FractionSlip, fractions_off, bare_point, exponents_off, no_digit, RightLetters, wrong_letter, ends_within, word_goes_on, by_test, where_it_is, Says}

-- ---- a byte that stands there and passes no test

-- within the text, where the test fails its opposite passes
other_byte : (test : ℕ → Bool) (text : List ℕ) (place : ℕ) → ends text place ≡ false → sees test text place ≡ false → sees (λ b. not (test b)) text place ≡ true
other_byte test text place on none =
    sees_here _ text place (not_ends_lt text place on) ∙ ap not (sym (sees_here test text place (not_ends_lt text place on)) ∙ none)

module _ (card : Card) (text : List ℕ) (from : ℕ) where
  abbrev s : Settings
  s = card.settings

  abbrev At : Step → ℕ → Type 0
  At = Comes card text from

  -- what the number of a refusal says of its position
  abbrev pub Told : Refusal → Type 0
  Told cause = Says card text from (numbers.number cause) (position cause)

  -- of a number that is none of the six nothing has to be shown
  not_it : (n m : ℕ) (X : Type 0) {Y : Type 0} → slip n ≡ false → slip m ≡ true → Y → where_it_is n m X Y
  unfolding where_it_is by_test
  not_it n m X none it y = rw (ne_eqb n m (λ e. false≢true (sym none ∙ ap slip e ∙ it))) y

  says_nothing : (n q : ℕ) → slip n ≡ false → Says card text from n q
  unfolding Says slip between
  says_nothing n q none =
      not_it n 17 _ none refl
      (not_it n 18 _ none refl (not_it n 19 _ none refl (not_it n 20 _ none refl (not_it n 21 _ none refl (not_it n 22 _ none refl tt)))))

  other_numbers : {A : Type 0} {m : Outcome A} {listed : List ℕ} → By listed m → all (λ n. not (slip n)) listed ≡ true → Refused Told m
  other_numbers by right = refused_map (by_passing _ right by) (λ cause e. says_nothing _ _ (not-true _ e))

  by : {A : Type 0} (cause : Refusal) → Told cause → Refused {A = A} Told (refused cause)
  by cause told = refused_by told

  -- ---- the steps

  delimiters_told : {set : ByteSet} {q : ℕ} → Takes card text from set q → Refused Told (delimiters set text q)
  unfolding delimiters Says where_it_is by_test numbers.number position
  delimiters_told {set = set} {q = q} t =
      refused_if (λ e. by (DelimiterEnds q) (record { set = set; taken = t; last = record { stand = and_left (sees (holds set) text q) _ e; end = and_right (sees (holds set) text q) _ e } }))
      (λ _. not_refused)

  gap_told : (on : Bool) (p : ℕ) → (on ≡ true → Takes card text from s.inner p) → Refused Told (gap on s text p)
  unfolding gap
  gap_told on p taken = refused_if (λ e. delimiters_told (taken e)) (λ _. not_refused)

  sign_told : {p : ℕ} → At sign p → Refused Told (sign_step s text p)
  unfolding sign_step Says where_it_is by_test numbers.number position
  sign_told {p} c =
      refused_if (λ _. not_refused)
      (λ stands.
      refused_if (λ end. by (SignEnds (p + 1)) (behind_sign c (not-false _ stands) end))
      (λ _. refused_bind (gap s.after_sign s text (p + 1)) (gap_told s.after_sign (p + 1) (behind_a_sign c (not-false _ stands))) (λ next _. not_refused)))

  number_told : {p : ℕ} → At number p → Refused Told (number_step s text p)
  unfolding number_step fraction_step Says where_it_is by_test numbers.number position
  number_told {p} c =
      refused_if (λ _. not_refused)
      (λ point.
      refused_if (λ off. by (FractionOff (run (is DIGIT) text p)) (fractions_off c (not-false _ point) (not-true _ off)))
      (λ _. refused_if (λ neither. let (before, after) = or_neither _ _ (not-true _ neither) in by (FractionEmpty (run (is DIGIT) text p)) (bare point before after)) (λ _. not_refused)))
    where
      bare : not (sees (is POINT) text (run (is DIGIT) text p)) ≡ false → sees (is DIGIT) text p ≡ false → sees (is DIGIT) text (run (is DIGIT) text p + 1) ≡ false → FractionSlip card text from (run (is DIGIT) text p)
      bare point before after =
          let here : run (is DIGIT) text p ≡ p = run_stop (is DIGIT) text p before in
          let stands : sees (is POINT) text (run (is DIGIT) text p) ≡ true = not-false _ point in
          rw here (bare_point c before (rw here at stands) (rw here at after))

  exponent_told : {p : ℕ} → At exponent p → Refused Told (exponent_step s text p)
  unfolding exponent_step exponent_number first_digit Says where_it_is by_test numbers.number position slip between all
  exponent_told {p} c =
      refused_if (λ _. not_refused)
      (λ letter.
      refused_if (λ off. by (ExponentOff p) (exponents_off c (not-false _ letter) (not-true _ off)))
      (λ on.
      refused_if (λ _. other_numbers (digits_by s text _ _ _ _) refl)
      (λ none.
      refused_if (λ end. by (ExponentEnds (first_digit text p)) (in_exponent c (not-false _ letter) (not-false _ on) end))
      (λ more. by (ExponentByte (first_digit text p)) (no_digit c (not-false _ letter) (not-false _ on) (other_byte _ text (first_digit text p) more none))))))

  ago_told : (m : Multiplier) {q : ℕ} → (s.ago ≡ true → Takes card text from s.inner q) → Refused Told (ago_step s text m q)
  unfolding ago_step
  ago_told m {q} taken =
      refused_if (λ _. not_refused)
      (λ on.
      refused_bind (delimiters s.inner text q) (delimiters_told (taken (and_left _ _ (not-false _ on)))) (λ word _. refused_if (λ _. not_refused) (λ _. not_refused)))

  unit_told : {p : ℕ} → At unit p → Refused Told (unit_step card text p)
  unfolding unit_step unit_found
  unit_told {p} c = go (find_unit card text p) refl
    where
      go : (r : List ℕ) → find_unit card text p ≡ r → Refused Told (unit_found s text p r)
      go [] _ = not_refused
      go (size ∷ r) found = ago_told _ (before_ago c found)

  spoken_unit_told : {p : ℕ} → At spoken_unit p → Refused Told (spoken_unit_step card text p)
  unfolding spoken_unit_step spoken_unit_found Says where_it_is by_test numbers.number position
  spoken_unit_told {p} c = go (find_unit card text p) refl
    where
      go : (r : List ℕ) → find_unit card text p ≡ r → Refused Told (spoken_unit_found s text p r)
      go [] _ = refused_by tt
      go (size ∷ r) found = refused_bind (ago_step s text _ _) (ago_told _ (before_spoken_ago c found)) (λ found _. not_refused)

  numeral_told : {p : ℕ} → At numeral p → Refused Told (numeral_step card text p)
  unfolding numeral_step numeral_found Says where_it_is by_test numbers.number position
  numeral_told {p} c = go (lookup card.numerals (slice p (numeral_end s text p) text)) refl
    where
      go : (row : Option ℕ) → lookup card.numerals (slice p (numeral_end s text p) text) ≡ row → Refused Told (numeral_found card text p row)
      go (Some i) found =
          refused_if (λ _. refused_bind (delimiters s.inner text _) (delimiters_told (behind_numeral c found)) (λ next _. not_refused)) (λ _. refused_by tt)
      go None found = refused_by tt

  conjunction_told : {word size : ℕ} → Conjoins card text from word size → Refused Told (after_conjunction s text word (word + size))
  unfolding after_conjunction Says where_it_is by_test numbers.number position
  conjunction_told {word} {size} c =
      refused_if (λ end. by (ConjunctionEnds word) (conjunction_ends c end))
      (λ more.
      refused_if (λ _. delimiters_told (behind_conjunction c))
      (λ no_delimiter.
      refused_if (λ _. not_refused)
      (λ no_next. by (ConjunctionGoesOn (word + size)) (conjunction_goes_on c (other_byte _ text (word + size) more (sees_or (holds s.outer) is_next_duration text (word + size) ∙ rw (no_delimiter, no_next)))))))

  connection_told : {p : ℕ} → At connection p → Refused Told (reader.connection s text p)
  unfolding reader.connection conjunction_step
  connection_told {p} c =
      refused_if (λ _. not_refused)
      (λ stand.
      refused_bind (delimiters s.outer text p) (delimiters_told (of_connection c))
      (λ word behind.
      refused_if (λ _. not_refused)
      (λ some.
      conjunction_told
      (record {
        p = p;
        comes = c;
        stand = not-false _ stand;
        behind = behind;
        found = refl;
        some = omega (arith, eqb-false (conjunction_size (conjunctions_of s) text word) 0 some);
      }))))

  -- ---- infinity

  module _ {i : ℕ} (c : At infinity i) (more : closes_infinity s text (i + 3) ≡ false) where
    -- what is refused within `inity`, places counted in the text
    broken : (cause : Refusal) → Broken i (ascii "inity") (drop (i + 3) text) (i + 3) cause → Told cause
    unfolding says ends Says where_it_is by_test numbers.number position
    broken cause h = go h.why
      where
        letters : RightLetters card text from i h.right h.w h.more
        letters = record { comes = c; more = more; word = h.split; stand = h.stand }

        go : {cause : Refusal} → Breaks i (i + 3) h.right h.w (drop (i + 3) text) cause → Told cause
        go (another_byte other) = wrong_letter letters (sym (sees_shift text (i + 3) _ (length h.right)) ∙ other)
        go (no_byte short) = ends_within letters (le-leb (length text) (i + 3 + length h.right) (omega (arith, length-drop (i + 3) text)))

    closed_told : (end : ℕ) → says (ascii "inity") text (i + 3) ≡ true → end ≡ i + 3 + 5 → Refused Told (infinity_closed s text end)
    unfolding infinity_closed Says where_it_is by_test numbers.number position
    closed_told end said at =
        rw at
        (refused_if (λ closes. connection_told (behind_infinity c more said closes)) (λ on. by (InfinityGoesOn (i + 3 + 5)) (word_goes_on c more said on)))

  infinity_told : {i : ℕ} → At infinity i → Refused Told (infinity_step s text i)
  unfolding infinity_step says ascii
  infinity_told {i} c =
      refused_if (λ closes. connection_told (behind_inf c closes))
      (λ more.
      refused_bind (letters_step i (ascii "inity") (drop (i + 3) text) (i + 3)) (refused_map (letters_broken i (ascii "inity") (drop (i + 3) text) (i + 3)) (broken c more))
      (λ end read. let (said, at) = all_of (letters_got i (ascii "inity") (drop (i + 3) text) (i + 3)) read in closed_told c more end said at))

  -- ---- the part

  step_told : (step : Step) (p : ℕ) → At step p → Refused Told (does card text step p)
  step_told sign p c = sign_told c
  step_told number p c = number_told c
  step_told exponent p c = exponent_told c
  step_told before_a_unit p c = gap_told s.before_unit p (between_number_and_unit c)
  step_told unit p c = unit_told c
  step_told infinity p c = infinity_told c
  step_told numeral p c = numeral_told c
  step_told spoken_unit p c = spoken_unit_told c
  step_told connection p c = connection_told c

  -- what is evaluated, and a negative that is forbidden, has other numbers
  pub reading_told : Refused Told (part_reading card text from)
  unfolding part_reading slip between all Says where_it_is by_test numbers.number position
  reading_told =
      refused_bind (part card text from) (part_told card text from step_told tt)
      (λ p _.
      refused_bind (evaluated text p.repr) (other_numbers (evaluated_by text p.repr) refl)
      (λ l _. other_numbers (allowed_by s from p.next l) refl))
