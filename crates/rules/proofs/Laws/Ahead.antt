-- A part that is read ends beyond where it began and not beyond the text: each step goes on from where it stands, within the text.
-- Assumes nothing.
use Rattle.std.specs.Prelude.{◌≡◌, Bool, false, ◌||◌, eqb, drop, Option, Some, None}
use Rattle.std.proofs.Math.Path.{refl}
use Rattle.std.proofs.Common.{sym, ◌∙◌, true≢false}
use Rattle.std.proofs.Math.Bool.{true, not}
use Rattle.std.proofs.lemmas.Bool.{false≢true, not-true, not-false}
use mathlib.Core.List.{List, [], ◌∷◌}
use Prim.Native.Nat.{ℕ, suc, ◌+◌, ◌*◌, ◌-◌, ◌≤◌, ◌<◌, zero-le, suc-le-suc}
use Rattle.std.proofs.Math.Nat.{le_refl, le-add_right}
use native.Mathlib.Omega.{arith}
use Rattle.std.proofs.Math.ListN.{length, length-drop}
use Rattle.std.proofs.Math.Seq.{slice}
use Rattle.rules.specs.declared.ByteSet.{ByteSet}
use Rattle.rules.specs.declared.Settings.{Settings}
use Rattle.rules.specs.declared.Multiplier.{Multiplier}
use Rattle.rules.specs.Common.{when◌then◌else◌, ascii, sees, run}
use Rattle.rules.specs.NumbersHandedBack.{◌>>=◌}
use Rattle.rules.specs.SettingsAndUnitTable.{DIGIT, SIGN, POINT, is, holds, Card, lookup, row_multiplier, product}
use Rattle.rules.specs.ReadingOnePart.{prefix, says, delimiters, gap, sign_step, fraction_step, number_step, exponent_digits, exponent_number, exponent_step, same_letter, in_stretch, ago_step, find_unit, unit_found, unit_step, numeral_end, numeral_found, numeral_step, spoken_unit_found, spoken_unit_step, after_conjunction, conjunction_step, connection, letters_step, infinity_closed, infinity_step, infinite_part, finite_part, spoken_part, unsigned_part, part}
use Rattle.rules.proofs.Laws.Choices.{and_left, and_right}
use Rattle.rules.proofs.Laws.Outcomes.{All, all_got, all_refused, all_if, all_bind, all_map}
use Rattle.rules.proofs.Laws.Texts.{not_ends_lt, sees_in, sees_or, run_from, run_within, run_past, run_stop}

-- from here on, and within the text
pub record Ahead (text : List ℕ) (place next : ℕ) : Type 0 where
  pub from : place ≤ next
  pub within : next ≤ length text

-- beyond this place, and within the text
pub record Beyond (text : List ℕ) (place next : ℕ) : Type 0 where
  pub past : place < next
  pub within : next ≤ length text

prefix_length : (word rest : List ℕ) → prefix word rest ≡ true → length word ≤ length rest
unfolding prefix
prefix_length [] rest e = zero-le
prefix_length (w ∷ word) [] e = absurd (false≢true e)
prefix_length (w ∷ word) (b ∷ rest) e = suc-le-suc (prefix_length word rest (and_right (same_letter w b) (prefix word rest) e))

pub says_within : (word text : List ℕ) (place : ℕ) → place ≤ length text → says word text place ≡ true → place + length word ≤ length text
unfolding says
says_within word text place h e = omega (arith, prefix_length word (drop place text) e, length-drop place text)

behind_a_sign : (b : Bool) (place : ℕ) → place ≤ (when b then place + 2 else place + 1)
unfolding when◌then◌else◌
behind_a_sign true place = omega arith
behind_a_sign false place = omega arith

module _ (s : Settings) (text : List ℕ) where
  pub delimiters_ahead : (set : ByteSet) (place : ℕ) → place ≤ length text → All (Ahead text place) (delimiters set text place)
  unfolding delimiters
  delimiters_ahead set place h =
      all_if (λ _. all_refused) (λ _. all_got (record { from = run_from (holds set) text place; within = run_within (holds set) text place h }))

  pub gap_ahead : (on : Bool) (place : ℕ) → place ≤ length text → All (Ahead text place) (gap on s text place)
  unfolding gap
  gap_ahead on place h = all_if (λ _. delimiters_ahead s.inner place h) (λ _. all_got (record { from = omega arith; within = h }))

  pub sign_ahead : (place : ℕ) → place < length text → All (λ r. Ahead text place r.next) (sign_step s text place)
  unfolding sign_step
  sign_ahead place h =
      all_if (λ _. all_got (record { from = omega arith; within = omega arith }))
      (λ _. all_if (λ _. all_refused)
      (λ e. all_bind (gap_ahead s.after_sign (place + 1) (omega (arith, not_ends_lt text (place + 1) e)))
      (λ next a. all_got (record { from = omega arith; within = a.within }))))

  -- a digit or a point is read, so the number ends beyond where it began
  pub number_beyond : (place : ℕ) → sees (λ b. is DIGIT b || is POINT b) text place ≡ true → All (λ r. Beyond text place r.next) (number_step s text place)
  unfolding number_step fraction_step
  number_beyond place h =
      all_if (λ e. all_got (record { past = digits (sees (is DIGIT) text place) refl e; within = run_within _ text place inside }))
      (λ e. all_if (λ _. all_refused) (λ _. all_if (λ _. all_refused)
      (λ _. all_got (record { past = omega (arith, run_from (is DIGIT) text place, run_from (is DIGIT) text (run (is DIGIT) text place + 1)); within = run_within (is DIGIT) text (run (is DIGIT) text place + 1) (omega (arith, sees_in (is POINT) text (run (is DIGIT) text place) (not-false _ e))) }))))
    where
      inside : place ≤ length text
      inside = omega (arith, sees_in _ text place h)

      digits : (d : Bool) → sees (is DIGIT) text place ≡ d → not (sees (is POINT) text (run (is DIGIT) text place)) ≡ true → place < run (is DIGIT) text place
      digits true d e = run_past (is DIGIT) text place d
      digits false d e =
          let p : sees (is POINT) text place ≡ true = rw d at (sym (sees_or (is DIGIT) (is POINT) text place) ∙ h) in
          absurd (true≢false (sym p ∙ not-true _ (rw (run_stop (is DIGIT) text place d) at e)))

  exponent_digits_ahead : (negative : Bool) (rest : List ℕ) (power place : ℕ) → All (λ r. (place ≤ r.next) × (r.next ≤ place + length rest)) (exponent_digits negative rest power place)
  unfolding exponent_digits
  exponent_digits_ahead negative [] power place = all_got (le_refl place, le-add_right place 0)
  exponent_digits_ahead negative (b ∷ rest) power place =
      all_if (λ _. all_got (le_refl place, le-add_right place (suc (length rest))))
      (λ _. all_if
      (λ _. all_map (exponent_digits_ahead negative rest (power * 10 + (b - 48)) (suc place)) (λ r w. (omega arith, omega arith)))
      (λ _. all_refused))

  pub exponent_ahead : (place : ℕ) → place ≤ length text → All (λ r. Ahead text place r.next) (exponent_step s text place)
  unfolding exponent_step exponent_number
  exponent_ahead place h =
      all_if (λ _. all_got (record { from = le_refl place; within = h }))
      (λ _. all_if (λ _. all_refused)
      (λ _. all_if (λ d. digits _ (behind_a_sign (sees (is SIGN) text (place + 1)) place) d) (λ _. all_if (λ _. all_refused) (λ _. all_refused))))
    where
      digits : (p : ℕ) → place ≤ p → sees (is DIGIT) text p ≡ true → All (λ r. Ahead text place r.next) (exponent_digits (sees (eqb 45) text (place + 1)) (drop p text) 0 p)
      digits p l d =
          all_map (exponent_digits_ahead _ (drop p text) 0 p)
          (λ r w. record { from = omega arith; within = omega (arith, length-drop p text, sees_in (is DIGIT) text p d) })

  pub connection_ahead : (place : ℕ) → place ≤ length text → All (Ahead text place) (connection s text place)
  unfolding connection conjunction_step after_conjunction
  connection_ahead place h =
      all_if (λ _. all_got (record { from = le_refl place; within = h }))
      (λ _. all_bind (delimiters_ahead s.outer place h)
      (λ word a. all_if (λ _. all_got a) (λ _. after word _ a)))
    where
      after : (word size : ℕ) → Ahead text place word → All (Ahead text place) (after_conjunction s text word (word + size))
      after word size a =
          all_if (λ _. all_refused)
          (λ e. all_if (λ _. all_map (delimiters_ahead s.outer (word + size) (omega (arith, not_ends_lt text (word + size) e))) (λ next b. record { from = omega arith; within = b.within }))
          (λ _. all_if (λ _. all_got (record { from = omega arith; within = omega (arith, not_ends_lt text (word + size) e) })) (λ _. all_refused)))

  pub ago_ahead : (m : Multiplier) (place : ℕ) → place ≤ length text → All (λ r. Ahead text place r.next) (ago_step s text m place)
  unfolding ago_step ascii
  ago_ahead m place h =
      all_if (λ _. all_got (record { from = le_refl place; within = h }))
      (λ _. all_bind (delimiters_ahead s.inner place h)
      (λ word a. all_if (λ e. all_got (record { from = omega arith; within = says_within (ascii "ago") text word a.within (and_left _ _ e) })) (λ _. all_got (record { from = le_refl place; within = h }))))

  letters_ahead : (inf : ℕ) (word rest : List ℕ) (place : ℕ) → All (λ next. (place ≤ next) × (next ≤ place + length rest)) (letters_step inf word rest place)
  unfolding letters_step
  letters_ahead inf [] rest place = all_got (le_refl place, le-add_right place (length rest))
  letters_ahead inf (w ∷ word) [] place = all_refused
  letters_ahead inf (w ∷ word) (b ∷ rest) place =
      all_if (λ _. all_map (letters_ahead inf word rest (suc place)) (λ next w. (omega arith, omega arith))) (λ _. all_refused)

  pub infinity_ahead : (inf : ℕ) → inf + 3 ≤ length text → All (Ahead text (inf + 3)) (infinity_step s text inf)
  unfolding infinity_step infinity_closed
  infinity_ahead inf h =
      all_if (λ _. connection_ahead (inf + 3) h)
      (λ _. all_bind (letters_ahead inf (ascii "inity") (drop (inf + 3) text) (inf + 3))
      (λ place w. all_if
      (λ _. all_map (connection_ahead place (omega (arith, length-drop (inf + 3) text))) (λ next a. record { from = omega arith; within = a.within }))
      (λ _. all_refused)))

module _ (card : Card) (text : List ℕ) where
  abbrev s : Settings
  s = card.settings

  -- ---- the unit

  module _ (place : ℕ) (h : place ≤ length text) where
    -- `ago` after the stretch
    after_stretch : (m : Multiplier) → All (λ r. Ahead text place r.next) (ago_step s text m (run (in_stretch s) text place))
    after_stretch m =
        all_map (ago_ahead s text m (run (in_stretch s) text place) (run_within _ text place h))
        (λ r a. record { from = omega (arith, run_from (in_stretch s) text place); within = a.within })

    pub unit_ahead : All (λ r. Ahead text place r.next) (unit_step card text place)
    unfolding unit_step unit_found
    unit_ahead = go (find_unit card text place)
      where
        go : (r : List ℕ) → All (λ r. Ahead text place r.next) (unit_found s text place r)
        go [] = all_got (record { from = le_refl place; within = h })
        go (size ∷ r) = after_stretch (product (size ∷ r))

    pub spoken_unit_ahead : All (λ r. Ahead text place r.next) (spoken_unit_step card text place)
    unfolding spoken_unit_step spoken_unit_found
    spoken_unit_ahead = go (find_unit card text place)
      where
        go : (r : List ℕ) → All (λ r. Ahead text place r.next) (spoken_unit_found s text place r)
        go [] = all_refused
        go (size ∷ r) = all_bind (after_stretch (row_multiplier (size ∷ r))) (λ unit a. all_got a)

  -- a numeral and the delimiters behind it are read, so a spoken number ends beyond where it began
  pub numeral_beyond : (place : ℕ) → place ≤ length text → All (λ r. Beyond text place r.next) (numeral_step card text place)
  unfolding numeral_step numeral_found numeral_end delimiters
  numeral_beyond place h = go (lookup card.numerals (slice place (numeral_end s text place) text))
    where
      end : ℕ
      end = run (λ b. not (holds s.inner b)) text place

      from : place ≤ end
      from = run_from _ text place

      behind : sees (holds s.inner) text end ≡ true → All (λ next. Beyond text place next) (delimiters s.inner text end)
      behind e =
          all_if (λ _. all_refused)
          (λ _. all_got (record {
            past = omega (arith, from, run_past (holds s.inner) text end e);
            within = run_within (holds s.inner) text end (omega (arith, sees_in (holds s.inner) text end e));
          }))

      go : (f : Option ℕ) → All (λ r. Beyond text place r.next) (numeral_found card text place f)
      go (Some i) = all_if (λ e. all_bind (behind e) (λ next b. all_got b)) (λ _. all_refused)
      go None = all_refused

  -- ---- a part that is read ends beyond where it began and not beyond the text

  finite_beyond : (negative : Bool) (place : ℕ) → sees (λ b. is DIGIT b || is POINT b) text place ≡ true → All (λ p. Beyond text place p.next) (finite_part card text negative place)
  unfolding finite_part
  finite_beyond negative place h =
      all_bind (number_beyond s text place h)
      (λ number n. all_bind (exponent_ahead s text number.next n.within)
      (λ scaled e. all_bind (gap_ahead s text s.before_unit scaled.next e.within)
      (λ name g. all_bind (unit_ahead name g.within)
      (λ unit u. all_bind (connection_ahead s text unit.next u.within)
      (λ next c. all_got (record { past = omega arith; within = c.within }))))))

  spoken_beyond : (negative : Bool) (place : ℕ) → place ≤ length text → All (λ p. Beyond text place p.next) (spoken_part card text negative place)
  unfolding spoken_part
  spoken_beyond negative place h =
      all_bind (numeral_beyond place h)
      (λ numeral n. all_bind (spoken_unit_ahead numeral.next n.within)
      (λ unit u. all_bind (connection_ahead s text unit.next u.within)
      (λ next c. all_got (record { past = omega arith; within = c.within }))))

  pub part_beyond : (place : ℕ) → All (λ p. Beyond text place p.next) (part card text place)
  unfolding part unsigned_part infinite_part ascii
  part_beyond place =
      all_if (λ _. all_refused)
      (λ e. all_bind (sign_ahead s text place (not_ends_lt text place e))
      (λ signed a. all_if
      (λ d. all_map (finite_beyond signed.negative signed.next d) (λ p b. record { past = omega arith; within = b.within }))
      (λ _. all_if
      (λ i. all_bind (infinity_ahead s text signed.next (says_within (ascii "inf") text signed.next a.within (and_right s.infinity _ i)))
      (λ next b. all_got (record { past = omega arith; within = b.within })))
      (λ _. all_map (spoken_beyond signed.negative signed.next a.within) (λ p b. record { past = omega arith; within = b.within })))))
