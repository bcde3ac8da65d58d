-- The reading of a part from a place depends only on the text from that place on, places counted from there.
-- Each step is compared at two texts: at p in the text from k on, and at q, which is k + p, in the whole text. Assumes nothing.
use Rattle.std.specs.Prelude.{◌≡◌, true, false, eqb, length, drop, Option, Some, None}
use Rattle.std.proofs.Math.Path.{refl, ap, ap₂}
use Rattle.std.proofs.Common.{sym, ◌∙◌, add_assoc}
use Rattle.std.proofs.Math.Bool.{Bool, not, ◌&&◌, ◌||◌}
use mathlib.Core.List.{List, [], ◌∷◌}
use Prim.Native.Nat.{ℕ, suc, ◌+◌, ◌*◌, ◌-◌}
use native.Mathlib.Omega.{arith}
use Rattle.std.proofs.Math.Seq.{slice}
use Rattle.rules.specs.declared.ByteSet.{ByteSet}
use Rattle.rules.specs.declared.Conjunction.{Conjunction}
use Rattle.rules.specs.declared.Settings.{Settings}
use Rattle.rules.specs.declared.Multiplier.{Multiplier}
use Rattle.rules.specs.declared.Span.{Span}
use Rattle.rules.specs.declared.Signed.{Signed}
use Rattle.rules.specs.declared.Number.{Number}
use Rattle.rules.specs.declared.Scaled.{Scaled}
use Rattle.rules.specs.declared.Unit as declared_unit
use Rattle.rules.specs.declared.Numeral.{Numeral}
use Rattle.rules.specs.declared.SpokenUnit.{SpokenUnit}
use Rattle.rules.specs.declared.DurationRepr.{DurationRepr}
use Rattle.rules.specs.declared.Repr.{Repr}
use Rattle.rules.specs.declared.Repr.TheVariants.{Typed, Spoken}
use Rattle.rules.specs.declared.Part.{Part}
use Rattle.rules.specs.declared.Reading.{Reading}
use Rattle.rules.specs.declared.Refusal.TheVariants.{Nothing, SignEnds, DelimiterEnds, FractionOff, FractionEmpty, ExponentOff, ExponentByte, ExponentEnds, ExponentAbove, ExponentBelow, InfinityByte, InfinityEnds, ConjunctionEnds, ConjunctionGoesOn, NoNumber, NoUnit, OutOfRange}
use Rattle.rules.specs.Common.{when◌then◌else◌, ascii, ends, sees, run}
use Rattle.rules.specs.NumbersHandedBack.{got, ◌>>=◌, ◌>>◌, unless}
use Rattle.rules.specs.SettingsAndUnitTable.{DIGIT, SIGN, POINT, is, holds, is_next_duration, letters_of, conjunctions_of, times, in_range, Card, lookup, find_row, row, row_multiplier, product}
use Rattle.rules.specs.ReadingOnePart.{same_letter, says, delimiters, gap, sign_step, fraction_step, number_step, exponent_passed, exponent_digits, exponent_number, exponent_step, in_stretch, closes_unit, ago_step, find_unit, unit_found, unit_step, numeral_end, numeral_found, numeral_step, spoken_unit_found, spoken_unit_step, conjunction_size, after_conjunction, conjunction_step, connection, closes_infinity, letters_step, infinity_closed, infinity_step, infinite_part, finite_part, spoken_part, unsigned_part, part}
use Rattle.rules.specs.Evaluation.{digits_of, evaluate, multiplied, spoken_multiplier, evaluate_spoken, evaluated, allowed, part_reading}
use Rattle.rules.proofs.Laws.Outcomes.{later, Moved, moved_got, moved_refused, moved_to, moved_cause, moved_if, moved_bind}
use Rattle.rules.proofs.Laws.Texts.{ends_shift, drop_shift, sees_shift, run_shift, slice_shift}

-- ---- what each step finds, its places moved

abbrev move_whole : ℕ → Span → Span
move_whole k w = record { start = k + w.start; end = k + w.end }

abbrev move_fract : ℕ → Span → Span
move_fract k f = record { start = k + f.start; end = k + f.end }

abbrev move_signed : ℕ → Signed → Signed
move_signed k r = record { negative = r.negative; next = k + r.next }

abbrev move_number : ℕ → Number → Number
move_number k r = record { whole = move_whole k r.whole; fract = move_fract k r.fract; next = k + r.next }

abbrev move_scaled : ℕ → Scaled → Scaled
move_scaled k r = record { exponent = r.exponent; next = k + r.next }

abbrev move_unit : ℕ → declared_unit.Unit → declared_unit.Unit
move_unit k r = record { multiplier = r.multiplier; next = k + r.next }

abbrev move_numeral : ℕ → Numeral → Numeral
move_numeral k r = record { multiplier = r.multiplier; next = k + r.next }

abbrev move_spoken_unit : ℕ → SpokenUnit → SpokenUnit
move_spoken_unit k r = record { kind = r.kind; row = r.row; next = k + r.next }

abbrev move_typed : ℕ → DurationRepr → DurationRepr
move_typed k d = record {
  negative = d.negative;
  infinite = d.infinite;
  whole = move_whole k d.whole;
  fract = move_fract k d.fract;
  exponent = d.exponent;
  multiplier = d.multiplier;
}

abbrev move_repr : ℕ → Repr → Repr
move_repr k (Typed d) = Typed (move_typed k d)
move_repr k (Spoken d) = Spoken d

abbrev move_part : ℕ → Part → Part
move_part k p = record { repr = move_repr k p.repr; next = k + p.next }

abbrev pub move_reading : ℕ → Reading → Reading
move_reading k r = record { length = r.length; next = k + r.next }

passed_later : (negative : Bool) (k p q : ℕ) → q ≡ k + p → exponent_passed negative q ≡ later k (exponent_passed negative p)
unfolding exponent_passed later when◌then◌else◌
passed_later true k p q e = ap ExponentBelow e
passed_later false k p q e = ap ExponentAbove e

behind_a_sign : (k p q : ℕ) → q ≡ k + p → {b b' : Bool} → b ≡ b' → (when b' then q + 2 else q + 1) ≡ k + (when b then p + 2 else p + 1)
unfolding when◌then◌else◌
behind_a_sign k p q e {b} f = rw (← f) (go b)
  where
    go : (c : Bool) → (when c then q + 2 else q + 1) ≡ k + (when c then p + 2 else p + 1)
    go true = omega arith
    go false = omega arith

-- a product has no place
product_from : (k : ℕ) (m n : Multiplier) → Moved (λ _ r. r) k (multiplied m n) (multiplied m n)
unfolding multiplied unless ◌>>◌ later
product_from k m n = go (in_range (times m n))
  where
    go : (b : Bool) → Moved (λ _ r. r) k (unless OutOfRange b >> got (times m n)) (unless OutOfRange b >> got (times m n))
    go true = moved_got
    go false = moved_refused

module _ (card : Card) (text : List ℕ) (k : ℕ) where
  abbrev s : Settings
  s = card.settings

  -- ---- tests and runs

  ends_at : (p q : ℕ) → q ≡ k + p → ends (drop k text) p ≡ ends text q
  ends_at p q e = ends_shift text k p ∙ ap (ends text) (sym e)

  sees_at : (test : ℕ → Bool) (p q : ℕ) → q ≡ k + p → sees test (drop k text) p ≡ sees test text q
  sees_at test p q e = sees_shift text k test p ∙ ap (sees test text) (sym e)

  run_at : (test : ℕ → Bool) (p q : ℕ) → q ≡ k + p → run test text q ≡ k + run test (drop k text) p
  run_at test p q e = ap (run test text) e ∙ sym (run_shift text k test p)

  drop_at : (p q : ℕ) → q ≡ k + p → drop p (drop k text) ≡ drop q text
  drop_at p q e = drop_shift text k p ∙ ap (λ n. drop n text) (sym e)

  says_at : (word : List ℕ) (p q : ℕ) → q ≡ k + p → says word (drop k text) p ≡ says word text q
  unfolding says
  says_at word p q e = rw (drop_at p q e)

  -- ---- the steps

  delimiters_from : (set : ByteSet) (p q : ℕ) → q ≡ k + p → Moved ◌+◌ k (delimiters set (drop k text) p) (delimiters set text q)
  unfolding delimiters later
  delimiters_from set p q e =
      moved_if (ap₂ ◌&&◌ (sees_at (holds set) p q e) (ends_at _ _ (run_at (holds set) p q e)))
      (moved_cause (ap DelimiterEnds e))
      (moved_to (run_at (holds set) p q e))

  gap_from : (on : Bool) (p q : ℕ) → q ≡ k + p → Moved ◌+◌ k (gap on s (drop k text) p) (gap on s text q)
  unfolding gap
  gap_from on p q e = moved_if refl (delimiters_from s.inner p q e) (moved_to e)

  sign_from : (p q : ℕ) → q ≡ k + p → Moved move_signed k (sign_step s (drop k text) p) (sign_step s text q)
  unfolding sign_step later
  sign_from p q e =
      moved_if (ap not (sees_at (is SIGN) p q e)) (moved_to (cc))
      (moved_if (ends_at (p + 1) (q + 1) (omega arith)) (moved_cause (ap SignEnds (omega arith)))
      (moved_bind _ _ (gap_from s.after_sign (p + 1) (q + 1) (omega arith)) (λ next. moved_to (cc (sees_at (eqb 45) p q e)))))

  number_from : (p q : ℕ) → q ≡ k + p → Moved move_number k (number_step s (drop k text) p) (number_step s text q)
  unfolding number_step fraction_step later
  number_from p q e = go _ _ (run_at (eqb 48) p q e) _ _ (run_at (is DIGIT) p q e) (sees_at (is DIGIT) p q e)
    where
      -- from the digits on, after the zeros
      go : (z z' : ℕ) → z' ≡ k + z → (d d' : ℕ) → d' ≡ k + d → {b b' : Bool} → b ≡ b' → Moved move_number k (fraction_step s (drop k text) b (record { start = z; end = d }) d) (fraction_step s text b' (record { start = z'; end = d' }) d')
      go z z' ez d d' ed eb =
          let next : d' + 1 ≡ k + (d + 1) = omega arith in
          moved_if (ap not (sees_at (is POINT) d d' ed)) (moved_to (cc))
          (moved_if refl (moved_cause (ap FractionOff ed))
          (moved_if (ap not (ap₂ ◌||◌ eb (sees_at (is DIGIT) (d + 1) (d' + 1) next))) (moved_cause (ap FractionEmpty ed))
          (moved_to (cc (run_at (is DIGIT) (d + 1) (d' + 1) next)))))

  digits_from : (negative : Bool) (rest : List ℕ) (power p q : ℕ) → q ≡ k + p → Moved move_scaled k (exponent_digits negative rest power p) (exponent_digits negative rest power q)
  unfolding exponent_digits exponent_passed later
  digits_from negative [] power p q e = moved_to (cc)
  digits_from negative (b ∷ rest) power p q e =
      moved_if refl (moved_to (cc))
      (moved_if refl (digits_from negative rest (power * 10 + (b - 48)) (suc p) (suc q) (omega arith)) (moved_cause (passed_later negative k p q e)))

  exponent_number_from : {b b' : Bool} → b ≡ b' → (p q : ℕ) → q ≡ k + p → Moved move_scaled k (exponent_number (drop k text) b p) (exponent_number text b' q)
  unfolding exponent_number later
  exponent_number_from {b} f p q e =
      moved_if (sees_at (is DIGIT) p q e) (rw (← f, drop_at p q e) (digits_from b (drop q text) 0 p q e))
      (moved_if (ends_at p q e) (moved_cause (ap ExponentEnds e)) (moved_cause (ap ExponentByte e)))

  exponent_from : (p q : ℕ) → q ≡ k + p → Moved move_scaled k (exponent_step s (drop k text) p) (exponent_step s text q)
  unfolding exponent_step later
  exponent_from p q e =
      moved_if (ap not (sees_at (same_letter 101) p q e)) (moved_to (cc))
      (moved_if refl (moved_cause (ap ExponentOff e))
      (exponent_number_from (sees_at (eqb 45) (p + 1) (q + 1) next) _ _ (behind_a_sign k p q e (sees_at (is SIGN) (p + 1) (q + 1) next))))
    where
      next : q + 1 ≡ k + (p + 1)
      next = omega arith

  closes_unit_at : (p q : ℕ) → q ≡ k + p → closes_unit s (drop k text) p ≡ closes_unit s text q
  unfolding closes_unit
  closes_unit_at p q e = ap₂ ◌||◌ (ends_at p q e) (sees_at _ p q e)

  ago_from : (m : Multiplier) (p q : ℕ) → q ≡ k + p → Moved move_unit k (ago_step s (drop k text) m p) (ago_step s text m q)
  unfolding ago_step
  ago_from m p q e =
      moved_if (ap (λ b. not (s.ago && b)) (sees_at (holds s.inner) p q e)) (moved_to (cc))
      (moved_bind _ _ (delimiters_from s.inner p q e)
      (λ word. moved_if (ap₂ ◌&&◌ (says_at (ascii "ago") word (k + word) refl) (closes_unit_at (word + 3) (k + word + 3) (omega arith)))
      (moved_to (cc (add_assoc k word 3))) (moved_to (cc))))

  -- the same stretch stands between the same places
  stretch_at : (test : ℕ → Bool) (p q : ℕ) → q ≡ k + p → slice p (run test (drop k text) p) (drop k text) ≡ slice q (run test text q) text
  stretch_at test p q e = slice_shift text k p _ ∙ ap₂ (λ a b. slice a b text) (sym e) (sym (run_at test p q e))

  find_at : (p q : ℕ) → q ≡ k + p → find_unit card (drop k text) p ≡ find_unit card text q
  unfolding find_unit
  find_at p q e = ap (find_row card.hall card.line) (stretch_at (in_stretch s) p q e)

  unit_from : (p q : ℕ) → q ≡ k + p → Moved move_unit k (unit_step card (drop k text) p) (unit_step card text q)
  unfolding unit_step unit_found
  unit_from p q e = rw (find_at p q e) (go (find_unit card text q))
    where
      go : (r : List ℕ) → Moved move_unit k (unit_found s (drop k text) p r) (unit_found s text q r)
      go [] = moved_to (cc)
      go (size ∷ r) = ago_from (product (size ∷ r)) _ _ (run_at (in_stretch s) p q e)

  spoken_unit_from : (p q : ℕ) → q ≡ k + p → Moved move_spoken_unit k (spoken_unit_step card (drop k text) p) (spoken_unit_step card text q)
  unfolding spoken_unit_step spoken_unit_found later
  spoken_unit_from p q e = rw (find_at p q e) (go (find_unit card text q))
    where
      go : (r : List ℕ) → Moved move_spoken_unit k (spoken_unit_found s (drop k text) p r) (spoken_unit_found s text q r)
      go [] = moved_cause (ap NoUnit e)
      go (size ∷ r) = moved_bind _ _ (ago_from (row_multiplier (size ∷ r)) _ _ (run_at (in_stretch s) p q e)) (λ unit. moved_got)

  numeral_from : (p q : ℕ) → q ≡ k + p → Moved move_numeral k (numeral_step card (drop k text) p) (numeral_step card text q)
  unfolding numeral_step numeral_found numeral_end later
  numeral_from p q e = rw (stretch_at _ p q e) (go (lookup card.numerals (slice q (run outside text q) text)))
    where
      outside : ℕ → Bool
      outside b = not (holds s.inner b)

      ended : run outside text q ≡ k + run outside (drop k text) p
      ended = run_at outside p q e

      go : (f : Option ℕ) → Moved move_numeral k (numeral_found card (drop k text) p f) (numeral_found card text q f)
      go (Some i) =
          moved_if (sees_at (holds s.inner) _ _ ended)
          (moved_bind _ _ (delimiters_from s.inner _ _ ended) (λ next. moved_got))
          (moved_cause (ap NoNumber e))
      go None = moved_cause (ap NoNumber e)

  conjunction_at : (list : List Conjunction) (p q : ℕ) → q ≡ k + p → conjunction_size list (drop k text) p ≡ conjunction_size list text q
  unfolding conjunction_size
  conjunction_at [] p q e = refl
  conjunction_at (c ∷ others) p q e = rw (says_at (letters_of c) p q e, conjunction_at others p q e)

  after_conjunction_from : (w v p q : ℕ) → v ≡ k + w → q ≡ k + p → Moved ◌+◌ k (after_conjunction s (drop k text) w p) (after_conjunction s text v q)
  unfolding after_conjunction later
  after_conjunction_from w v p q f e =
      moved_if (ends_at p q e) (moved_cause (ap ConjunctionEnds f))
      (moved_if (sees_at (holds s.outer) p q e) (delimiters_from s.outer p q e)
      (moved_if (sees_at is_next_duration p q e) (moved_to e) (moved_cause (ap ConjunctionGoesOn e))))

  connection_from : (p q : ℕ) → q ≡ k + p → Moved ◌+◌ k (connection s (drop k text) p) (connection s text q)
  unfolding connection conjunction_step
  connection_from p q e =
      moved_if (ap not (sees_at (holds s.outer) p q e)) (moved_to e)
      (moved_bind _ _ (delimiters_from s.outer p q e) (λ word. step word (conjunction_at (conjunctions_of s) word (k + word) refl)))
    where
      step : (word : ℕ) {n n' : ℕ} → n ≡ n' → Moved ◌+◌ k (conjunction_step s (drop k text) word n) (conjunction_step s text (k + word) n')
      step word {n} f = rw (← f) (moved_if refl moved_got (after_conjunction_from word (k + word) (word + n) (k + word + n) refl (add_assoc k word n)))

  closes_infinity_at : (p q : ℕ) → q ≡ k + p → closes_infinity s (drop k text) p ≡ closes_infinity s text q
  unfolding closes_infinity
  closes_infinity_at p q e = ap₂ ◌||◌ (ends_at p q e) (sees_at _ p q e)

  letters_from : (i j : ℕ) (word rest : List ℕ) (p q : ℕ) → j ≡ k + i → q ≡ k + p → Moved ◌+◌ k (letters_step i word rest p) (letters_step j word rest q)
  unfolding letters_step later
  letters_from i j [] rest p q f e = moved_to e
  letters_from i j (w ∷ word) [] p q f e = moved_cause (ap InfinityEnds f)
  letters_from i j (w ∷ word) (b ∷ rest) p q f e =
      moved_if refl (letters_from i j word rest (suc p) (suc q) f (omega arith)) (moved_cause (ap InfinityByte e))

  infinity_from : (p q : ℕ) → q ≡ k + p → Moved ◌+◌ k (infinity_step s (drop k text) p) (infinity_step s text q)
  unfolding infinity_step infinity_closed later
  infinity_from p q e =
      moved_if (closes_infinity_at (p + 3) (q + 3) three) (connection_from (p + 3) (q + 3) three)
      (moved_bind _ _ letters
      (λ place. moved_if (closes_infinity_at place (k + place) refl) (connection_from place (k + place) refl) moved_refused))
    where
      three : q + 3 ≡ k + (p + 3)
      three = omega arith

      letters : Moved ◌+◌ k (letters_step p (ascii "inity") (drop (p + 3) (drop k text)) (p + 3)) (letters_step q (ascii "inity") (drop (q + 3) text) (q + 3))
      letters = rw (drop_at (p + 3) (q + 3) three) (letters_from p q (ascii "inity") (drop (q + 3) text) (p + 3) (q + 3) e three)

  infinite_from : (negative : Bool) (p q : ℕ) → q ≡ k + p → Moved move_part k (infinite_part s (drop k text) negative p) (infinite_part s text negative q)
  unfolding infinite_part
  infinite_from negative p q e = moved_bind _ _ (infinity_from p q e) (λ next. moved_to (cc))

  finite_from : (negative : Bool) (p q : ℕ) → q ≡ k + p → Moved move_part k (finite_part card (drop k text) negative p) (finite_part card text negative q)
  unfolding finite_part
  finite_from negative p q e =
      moved_bind _ _ (number_from p q e)
      (λ number. moved_bind _ _ (exponent_from number.next (k + number.next) refl)
      (λ scaled. moved_bind _ _ (gap_from s.before_unit scaled.next (k + scaled.next) refl)
      (λ name. moved_bind _ _ (unit_from name (k + name) refl)
      (λ unit. moved_bind _ _ (connection_from unit.next (k + unit.next) refl)
      (λ next. moved_got)))))

  spoken_from : (negative : Bool) (p q : ℕ) → q ≡ k + p → Moved move_part k (spoken_part card (drop k text) negative p) (spoken_part card text negative q)
  unfolding spoken_part
  spoken_from negative p q e =
      moved_bind _ _ (numeral_from p q e)
      (λ numeral. moved_bind _ _ (spoken_unit_from numeral.next (k + numeral.next) refl)
      (λ unit. moved_bind _ _ (connection_from unit.next (k + unit.next) refl)
      (λ next. moved_got)))

  part_from : (p q : ℕ) → q ≡ k + p → Moved move_part k (part card (drop k text) p) (part card text q)
  unfolding part unsigned_part later
  part_from p q e =
      moved_if (ends_at p q e) (moved_cause (ap Nothing e))
      (moved_bind _ _ (sign_from p q e)
      (λ signed. moved_if (sees_at _ signed.next (k + signed.next) refl) (finite_from signed.negative signed.next (k + signed.next) refl)
      (moved_if (ap (λ b. s.infinity && b) (says_at (ascii "inf") signed.next (k + signed.next) refl)) (infinite_from signed.negative signed.next (k + signed.next) refl)
      (spoken_from signed.negative signed.next (k + signed.next) refl))))

  -- ---- the same digits, so the same length

  evaluate_from : (d : DurationRepr) → evaluate (drop k text) d ≡ evaluate text (move_typed k d)
  unfolding evaluate digits_of
  evaluate_from d =
      let sizes : k + d.fract.end - (k + d.fract.start) ≡ d.fract.end - d.fract.start = omega arith in
      rw (slice_shift text k d.whole.start d.whole.end, slice_shift text k d.fract.start d.fract.end, sizes)

  -- and a spoken number has no places
  evaluated_from : (d : Repr) → Moved (λ _ l. l) k (evaluated (drop k text) d) (evaluated text (move_repr k d))
  unfolding evaluated evaluate_spoken spoken_multiplier
  evaluated_from (Typed d) = moved_to (sym (evaluate_from d))
  evaluated_from (Spoken d) = moved_bind {moveB = λ _ m. m} _ _ (moved_bind {moveB = λ _ m. m} _ _ (product_from k d.numeral d.kind) (λ m. product_from k m d.row)) (λ m. moved_got)

  pub reading_from : (p : ℕ) → Moved move_reading k (part_reading card (drop k text) p) (part_reading card text (k + p))
  unfolding part_reading allowed later
  reading_from p =
      moved_bind _ _ (part_from p (k + p) refl)
      (λ part. moved_bind _ _ (evaluated_from part.repr) (λ l. moved_if refl moved_refused moved_got))
