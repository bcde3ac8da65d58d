-- Laws of refusals: by which numbers each step and each check refuses, whatever it is asked. Assumes nothing.
use Rattle.std.specs.Prelude.{◌≡◌, Bool, true, false, ◌||◌, ℕ, zero, suc, ◌+◌, ◌*◌, ◌-◌, eqb, drop, Option, Some, None}
use Rattle.std.proofs.Math.Path.{refl}
use Rattle.std.proofs.Common.{ap, ◌∙◌, eqb-true, eq-eqb}
use Rattle.std.proofs.lemmas.Bool.{false≢true}
use mathlib.Core.List.{List, [], ◌∷◌}
use Rattle.std.proofs.Math.Seq.{slice}
use Rattle.rules.specs.declared.ByteSet.{ByteSet}
use Rattle.rules.specs.declared.Length.{Length}
use Rattle.rules.specs.declared.Multiplier.{Multiplier}
use Rattle.rules.specs.declared.Refusal.{Refusal}
use Rattle.rules.specs.declared.Refusal.TheVariants.{Delimiters, Conjunctions, DefaultKind, TableSize, BadRow, LineSize, BadLineRow, NumeralsSize, BadNumeral, OutOfRange}
use Rattle.rules.specs.declared.Repr.{Repr}
use Rattle.rules.specs.declared.Repr.TheVariants.{Typed, Spoken}
use Rattle.rules.specs.declared.Settings.{Settings}
use Rattle.rules.specs.Common.{when◌then◌else◌, ascii, all}
use Rattle.rules.specs.NumbersHandedBack.{Outcome, ◌>>◌, number, unless}
use Rattle.rules.specs.SettingsAndUnitTable.{row, lookup, Card, settings_check, rows_check, units_check_in, table_check, line_check, numerals_check_in, card_check}
use Rattle.rules.specs.ReadingOnePart.{delimiters, gap, sign_step, fraction_step, number_step, exponent_passed, exponent_digits, exponent_number, exponent_step, ago_step, find_unit, unit_found, unit_step, numeral_end, numeral_found, numeral_step, spoken_unit_found, spoken_unit_step, after_conjunction, conjunction_step, connection, letters_step, infinity_closed, infinity_step}
use Rattle.rules.specs.Evaluation.{multiplied, spoken_multiplier, evaluate_spoken, evaluated, allowed}
use Rattle.rules.proofs.Laws.Choices.{all_first, all_others}
use Rattle.rules.proofs.Laws.Outcomes.{Refused, not_refused, refused_by, refused_map, refused_if, refused_bind, refused_then, refused_unless}

-- the number is one of these
unfoldable pub among : List ℕ → ℕ → Bool
among [] n = false
among (m ∷ numbers) n = eqb n m || among numbers n

pub record Among (numbers : List ℕ) (n : ℕ) : Type 0 where
  pub is : among numbers n ≡ true

one_of : {numbers : List ℕ} {n : ℕ} → among numbers n ≡ true → Among numbers n
one_of e = record { is = e }

-- what all of them pass, it passes
among_all : (test : ℕ → Bool) (numbers : List ℕ) (n : ℕ) → all test numbers ≡ true → among numbers n ≡ true → test n ≡ true
unfolding among
among_all test [] n passed e = absurd (false≢true e)
among_all test (m ∷ numbers) n passed e = go (eqb n m) refl e (among_all test numbers n (all_others test m numbers passed))
  where
    go : (b : Bool) → eqb n m ≡ b → (b || among numbers n) ≡ true → (among numbers n ≡ true → test n ≡ true) → test n ≡ true
    go true is e others = ap test (eqb-true n m is) ∙ all_first test m numbers passed
    go false is e others = others e

-- by these numbers alone
abbrev pub By : {A : Type 0} → List ℕ → Outcome A → Type 0
By numbers m = Refused (λ cause. Among numbers (number cause)) m

-- what all of them pass, the number passes by which it refuses; so it refuses by no others than more numbers have
pub by_passing : {A : Type 0} {m : Outcome A} {numbers : List ℕ} (test : ℕ → Bool) → all test numbers ≡ true → By numbers m → Refused (λ cause. test (number cause) ≡ true) m
by_passing {numbers = numbers} test passed by = refused_map by (λ cause one. among_all test numbers (number cause) passed one.is)

by_more : {A : Type 0} {m : Outcome A} {numbers : List ℕ} (more : List ℕ) → all (among more) numbers ≡ true → By numbers m → By more m
by_more more within by = refused_map (by_passing (among more) within by) (λ cause e. one_of e)

pub by_one : {A : Type 0} {m : Outcome A} {n : ℕ} → By (n ∷ []) m → Refused (λ cause. number cause ≡ n) m
unfolding all among
by_one {n = n} by = refused_map (by_passing (λ k. eqb k n) (rw (eq-eqb n n refl)) by) (λ cause e. eqb-true (number cause) n e)

-- ---- the steps

passed_by : (negative : Bool) (place : ℕ) → Among (3 ∷ 4 ∷ []) (number (exponent_passed negative place))
unfolding among number exponent_passed when◌then◌else◌
passed_by true place = one_of refl
passed_by false place = one_of refl

delimiters_by : (set : ByteSet) (text : List ℕ) (place : ℕ) → By (18 ∷ []) (delimiters set text place)
unfolding delimiters number among
delimiters_by set text place = refused_if (λ _. refused_by (one_of refl)) (λ _. not_refused)

module _ (s : Settings) (text : List ℕ) where
  pub gap_by : (on : Bool) (place : ℕ) → By (18 ∷ []) (gap on s text place)
  unfolding gap
  gap_by on place = refused_if (λ _. delimiters_by s.inner text place) (λ _. not_refused)

  pub sign_by : (place : ℕ) → By (17 ∷ 18 ∷ []) (sign_step s text place)
  unfolding sign_step number among all
  sign_by place =
      refused_if (λ _. not_refused)
      (λ _.
      refused_if (λ _. refused_by (one_of refl))
      (λ _. refused_bind (gap s.after_sign s text (place + 1)) (by_more _ refl (gap_by s.after_sign (place + 1))) (λ next _. not_refused)))

  pub number_by : (place : ℕ) → By (20 ∷ []) (number_step s text place)
  unfolding number_step fraction_step number among
  number_by place =
      refused_if (λ _. not_refused) (λ _. refused_if (λ _. refused_by (one_of refl)) (λ _. refused_if (λ _. refused_by (one_of refl)) (λ _. not_refused)))

  pub digits_by : (negative : Bool) (rest : List ℕ) (power place : ℕ) → By (3 ∷ 4 ∷ []) (exponent_digits negative rest power place)
  unfolding exponent_digits
  digits_by negative [] power place = not_refused
  digits_by negative (b ∷ rest) power place =
      refused_if (λ _. not_refused)
      (λ _. refused_if (λ _. digits_by negative rest (power * 10 + (b - 48)) (suc place)) (λ _. refused_by (passed_by negative place)))

  pub exponent_by : (place : ℕ) → By (3 ∷ 4 ∷ 17 ∷ 21 ∷ []) (exponent_step s text place)
  unfolding exponent_step exponent_number number among all
  exponent_by place =
      refused_if (λ _. not_refused)
      (λ _.
      refused_if (λ _. refused_by (one_of refl))
      (λ _. refused_if (λ _. by_more _ refl (digits_by _ _ _ _)) (λ _. refused_if (λ _. refused_by (one_of refl)) (λ _. refused_by (one_of refl)))))

  pub ago_by : (m : Multiplier) (place : ℕ) → By (18 ∷ []) (ago_step s text m place)
  unfolding ago_step
  ago_by m place =
      refused_if (λ _. not_refused)
      (λ _.
      refused_bind (delimiters s.inner text place) (delimiters_by s.inner text place) (λ word _. refused_if (λ _. not_refused) (λ _. not_refused)))

  after_conjunction_by : (word place : ℕ) → By (18 ∷ 19 ∷ []) (after_conjunction s text word place)
  unfolding after_conjunction number among all
  after_conjunction_by word place =
      refused_if (λ _. refused_by (one_of refl))
      (λ _. refused_if (λ _. by_more _ refl (delimiters_by s.outer text place)) (λ _. refused_if (λ _. not_refused) (λ _. refused_by (one_of refl))))

  pub connection_by : (place : ℕ) → By (18 ∷ 19 ∷ []) (connection s text place)
  unfolding connection conjunction_step among all
  connection_by place =
      refused_if (λ _. not_refused)
      (λ _.
      refused_bind (delimiters s.outer text place) (by_more _ refl (delimiters_by s.outer text place))
      (λ word _. refused_if (λ _. not_refused) (λ _. after_conjunction_by word _)))

  letters_by : (inf : ℕ) (word rest : List ℕ) (place : ℕ) → By (22 ∷ []) (letters_step inf word rest place)
  unfolding letters_step number among
  letters_by inf [] rest place = not_refused
  letters_by inf (w ∷ word) [] place = refused_by (one_of refl)
  letters_by inf (w ∷ word) (b ∷ rest) place = refused_if (λ _. letters_by inf word rest (suc place)) (λ _. refused_by (one_of refl))

  pub infinity_by : (place : ℕ) → By (18 ∷ 19 ∷ 22 ∷ []) (infinity_step s text place)
  unfolding infinity_step infinity_closed number among all
  infinity_by place =
      refused_if (λ _. by_more _ refl (connection_by (place + 3)))
      (λ _.
      refused_bind (letters_step place (ascii "inity") (drop (place + 3) text) (place + 3)) (by_more _ refl (letters_by place (ascii "inity") (drop (place + 3) text) (place + 3)))
      (λ end _. refused_if (λ _. by_more _ refl (connection_by end)) (λ _. refused_by (one_of refl))))

module _ (card : Card) (text : List ℕ) where
  pub unit_by : (place : ℕ) → By (18 ∷ []) (unit_step card text place)
  unfolding unit_step unit_found
  unit_by place = go (find_unit card text place)
    where
      go : (r : List ℕ) → By (18 ∷ []) (unit_found card.settings text place r)
      go [] = not_refused
      go (size ∷ r) = ago_by card.settings text _ _

  -- a numeral has 6 besides, where it is none, and its unit 15
  pub numeral_by : (place : ℕ) → By (6 ∷ 18 ∷ []) (numeral_step card text place)
  unfolding numeral_step numeral_found number among all
  numeral_by place = go (lookup card.numerals (slice place (numeral_end card.settings text place) text))
    where
      go : (found : Option ℕ) → By (6 ∷ 18 ∷ []) (numeral_found card text place found)
      go (Some i) =
          refused_if (λ _. refused_bind (delimiters card.settings.inner text _) (by_more _ refl (delimiters_by card.settings.inner text _)) (λ next _. not_refused))
          (λ _. refused_by (one_of refl))
      go None = refused_by (one_of refl)

  pub spoken_unit_by : (place : ℕ) → By (15 ∷ 18 ∷ []) (spoken_unit_step card text place)
  unfolding spoken_unit_step spoken_unit_found number among all
  spoken_unit_by place = go (find_unit card text place)
    where
      go : (r : List ℕ) → By (15 ∷ 18 ∷ []) (spoken_unit_found card.settings text place r)
      go [] = refused_by (one_of refl)
      go (size ∷ r) = refused_bind (ago_step card.settings text _ _) (by_more _ refl (ago_by card.settings text _ _)) (λ unit _. not_refused)

-- ---- what is evaluated

product_by : (m n : Multiplier) → By (16 ∷ []) (multiplied m n)
unfolding multiplied number among
product_by m n = refused_then (unless OutOfRange _) (refused_unless OutOfRange _ (λ _. one_of refl)) not_refused

pub evaluated_by : (text : List ℕ) (r : Repr) → By (16 ∷ []) (evaluated text r)
unfolding evaluated evaluate_spoken spoken_multiplier
evaluated_by text (Typed d) = not_refused
evaluated_by text (Spoken d) =
    refused_bind (spoken_multiplier d)
    (refused_bind (multiplied d.numeral d.kind) (product_by d.numeral d.kind) (λ m _. product_by m d.row))
    (λ m _. not_refused)

pub allowed_by : (s : Settings) (place next : ℕ) (l : Length) → By (5 ∷ []) (allowed s place next l)
unfolding allowed number among
allowed_by s place next l = refused_if (λ _. refused_by (one_of refl)) (λ _. not_refused)

-- ---- the card

rows_by : (accepted : ℕ → Bool) (bad : ℕ → Refusal) → ((i : ℕ) → Among (7 ∷ []) (number (bad i))) → (i n : ℕ) → By (7 ∷ []) (rows_check accepted bad i n)
unfolding rows_check
rows_by accepted bad seven i zero = not_refused
rows_by accepted bad seven i (suc n) = refused_if (λ _. rows_by accepted bad seven (suc i) n) (λ _. refused_by (seven i))

-- a table: its size, then its rows
table_by :
    (size : Refusal) (bad : ℕ → Refusal) → Among (7 ∷ []) (number size) → ((i : ℕ) → Among (7 ∷ []) (number (bad i)))
    → (whole : Bool) (accepted : ℕ → Bool) (n : ℕ) → By (7 ∷ []) (unless size whole >> rows_check accepted bad 0 n)
table_by size bad seven sevens whole accepted n = refused_then (unless size whole) (refused_unless size whole (λ _. seven)) (rows_by accepted bad sevens 0 n)

pub card_by : (card : Card) → By (7 ∷ []) (card_check card)
unfolding card_check settings_check units_check_in table_check line_check numerals_check_in number among
card_by card =
    refused_then (settings_check card.settings)
    (refused_then (unless Delimiters _) (refused_unless Delimiters _ (λ _. one_of refl))
    (refused_then (unless Conjunctions _) (refused_unless Conjunctions _ (λ _. one_of refl)) (refused_unless DefaultKind _ (λ _. one_of refl))))
    (refused_then (table_check card.settings card.hall) (table_by TableSize BadRow (one_of refl) (λ i. one_of refl) _ _ _)
    (refused_then (line_check card.settings card.line) (table_by LineSize BadLineRow (one_of refl) (λ i. one_of refl) _ _ _)
    (table_by NumeralsSize BadNumeral (one_of refl) (λ i. one_of refl) _ _ _)))
