-- Demand 3: what the writer writes reads back. Lengths are written one after another, each with its sign, and none that fits is refused;
-- read part by part, and in total, they are those lengths in that order, and their sum. Assumes nothing.
use Rattle.std.specs.Prelude.{◌≡◌, refl, Bool, true, false, leb, ltb, eqb, take, drop}
use Rattle.std.proofs.Math.Path.{sym, ap}
use Rattle.std.proofs.Common.{ap₂, ◌∙◌, arith, length-drop}
use mathlib.Core.List.{List, [], ◌∷◌, ◌++◌, append_cancel_left}
use Prim.Native.Nat.{ℕ, ◌+◌, ◌-◌, ◌≤◌, ◌<◌}
use borrow.Author.Tests.{le-leb, lt-leb, lt-ltb, le-ltb, leb-true, leb-false}
use Rattle.std.proofs.Math.ListN.{length, length-append}
use Rattle.rules.specs.declared.Length.{Length}
use Rattle.rules.specs.declared.Reading.{Reading}
use Rattle.rules.specs.Common.{when◌then◌else◌, all, ends, starts}
use Rattle.rules.specs.NumbersHandedBack.{Outcome, got, refused, ◌>>=◌, ◌>>◌, unless, done, refusal, number}
use Rattle.rules.specs.ThePartOfTheCrateWeTake.{longest_text, zero_length, well_formed}
use Rattle.rules.specs.SettingsAndUnitTable.{Card, card_check}
use Rattle.rules.specs.Evaluation.{part_reading, sum, sum_all}
use Rattle.rules.specs.WriterAndShiftTotal.{sign_byte, written}
use Rattle.rules.specs.WhatEveryEntryOwes.{read_part, read_total, write_answer}
use Rattle.rules.proofs.Laws.Choices.{all_first, all_others}
use Rattle.rules.specs.CardAAndItsReadings.{space, conjunction, settings, settings_A, unspoken}
use Rattle.rules.specs.Computing.{computing}
use Rattle.rules.proofs.Laws.Totals.{total_from, total_is, total_step}
use Rattle.rules.proofs.Laws.Written.{written_sign}
use Rattle.writing.specs.Laid.{laid, laid_then, laid_length, laid_nothing}
use Rattle.writing.specs.Forms.{write_done, write_no_room}
use Rattle.readback.specs.ExactSum.{all_plus, all_minus, difference, stays}
use Rattle.readback.proofs.ExactSum.{sum_all_difference}
use Rattle.rules.proofs.Laws.Layout.{behind}
use Rattle.readback.specs.OnePart.{Follows, part_reads}
use Rattle.readback.specs.Demand3.{written_all, numbers_answered, buffer_then, ReadsTo, at_end, one_more}

-- with room for all none is refused, and the buffer holds the written forms there, and every other byte as before
pub all_are_written :
    (lengths : List Length) (buffer : List ℕ) (place : ℕ)
    → all well_formed lengths ≡ true
    → place + length (written_all lengths) ≤ length buffer
    → (all (eqb 0) (numbers_answered lengths buffer place) ≡ true)
    × (buffer_then lengths buffer place ≡ take place buffer ++ written_all lengths ++ drop (place + length (written_all lengths)) buffer)
unfolding written_all numbers_answered buffer_then laid done all
all_are_written [] buffer place good room = (refl, laid_nothing buffer place)
all_are_written (l ∷ more) buffer place good room =
    let here : length (written l ++ written_all more) ≡ length (written l) + length (written_all more) = length-append (written l) (written_all more) in
    let wrote = write_done l buffer place (all_first well_formed l more good) (omega arith) (omega (arith, here)) in
    let next : ℕ = place + length (written l) in
    let kept : length (laid buffer place (written l)) ≡ length buffer = laid_length buffer place (written l) (omega (arith, here)) in
    let others = all_are_written more (laid buffer place (written l)) next (all_others well_formed l more good) (omega (arith, here, kept)) in
    rw (← wrote.0, ← wrote.1) (others.0, others.1 ∙ laid_then buffer place next (written l) (written_all more) refl (omega arith))

-- a length is refused by 9 exactly if it does not fit
pub refused_if_it_does_not_fit :
    (l : Length) (buffer : List ℕ) (place : ℕ)
    → well_formed l ≡ true
    → place ≤ length buffer
    → eqb (write_answer l buffer place).number 9 ≡ ltb (length buffer - place) (length (written l))
unfolding done refusal number
refused_if_it_does_not_fit l buffer place good within = go (leb (length (written l)) (length buffer - place)) refl
  where
    go : (b : Bool) → leb (length (written l)) (length buffer - place) ≡ b → eqb (write_answer l buffer place).number 9 ≡ ltb (length buffer - place) (length (written l))
    go true e =
        let fits = leb-true (length (written l)) (length buffer - place) e in
        rw (← (write_done l buffer place good within fits).0, le-ltb (length buffer - place) (length (written l)) fits)
    go false e =
        let full = leb-false (length (written l)) (length buffer - place) e in
        rw (← (write_no_room l buffer place good within full).0, lt-ltb (length buffer - place) (length (written l)) full)

first_byte : (l : Length) (more : List Length) → 0 < length (written_all (l ∷ more))
unfolding written_all written
first_byte l more = omega arith

follows : (lengths : List Length) → Follows (written_all lengths)
unfolding written_all written starts
follows [] test fails = refl
follows (l ∷ more) test fails = fails (sign_byte l.negative) (written_sign l.negative)

module _
    (card : Card) (accepted : card_check card ≡ got tt)
    (default : card.settings.default_kind ≡ 3) (fractions : card.settings.fractions ≡ true) (negatives : card.settings.negatives ≡ true) where
  module _ (text : List ℕ) (short : length text ≤ longest_text) where
    reads_from :
        (lengths : List Length) (place : ℕ)
        → all well_formed lengths ≡ true
        → place ≤ length text
        → drop place text ≡ written_all lengths
        → ReadsTo card text place lengths
    unfolding written_all read_part unless ◌>>◌
    reads_from [] place good within here = at_end {place = place} (omega (arith, sym (length-drop place text) ∙ ap length here))
    reads_from (l ∷ more) place good within here =
        one_more (part (part_reads card accepted default fractions negatives l (all_first well_formed l more good) (written_all more) (follows more) text place here))
        (reads_from more (place + length (written l)) (all_others well_formed l more good) next_within (behind text place (written l) (written_all more) here))
      where
        next_within : place + length (written l) ≤ length text
        next_within = omega (arith, sym (length-drop place text) ∙ ap length here ∙ length-append (written l) (written_all more))

        part : {r : Reading} → part_reading card text place ≡ got r → read_part card text place ≡ got r
        part e = rw (accepted, le-leb (length text) longest_text short, le-leb place (length text) within) e

  -- under every accepted card with seconds as default, negatives and fractions on, whatever the hall's units, the line's and the numerals
  pub written_reads_back :
      (lengths : List Length)
      → all well_formed lengths ≡ true
      → length (written_all lengths) ≤ longest_text
      → ReadsTo card (written_all lengths) 0 lengths
  written_reads_back lengths good short = reads_from (written_all lengths) short lengths 0 good (omega arith) refl

-- ---- 3. no two lists share a line

-- under card A without a table
plain_card : card_check (unspoken settings_A []) ≡ got tt
unfolding computing space conjunction settings settings_A unspoken
plain_card = refl

length_got : Outcome Reading → Length
length_got (got r) = r.length
length_got (refused cause) = zero_length

pub no_two_share_a_line : (ls ms : List Length) → all well_formed ls ≡ true → all well_formed ms ≡ true → written_all ls ≡ written_all ms → ls ≡ ms
unfolding written_all written length_got settings settings_A unspoken
no_two_share_a_line [] [] good fine same = refl
no_two_share_a_line [] (m ∷ ms) good fine same = absurd (omega (arith, ap length same))
no_two_share_a_line (l ∷ ls) [] good fine same = absurd (omega (arith, ap length same))
no_two_share_a_line (l ∷ ls) (m ∷ ms) good fine same =
    let text : List ℕ = written_all (l ∷ ls) in
    let one = part_reads (unspoken settings_A []) plain_card refl refl refl l (all_first well_formed l ls good) (written_all ls) (follows ls) text 0 refl in
    let other = part_reads (unspoken settings_A []) plain_card refl refl refl m (all_first well_formed m ms fine) (written_all ms) (follows ms) text 0 same in
    let first : l ≡ m = ap length_got (sym one ∙ other) in
    let rest : written_all ls ≡ written_all ms =
    append_cancel_left (written l) (written_all ls) (written_all ms) (same ∙ ap (λ x. written x ++ written_all ms) (sym first)) in
    ap₂ (λ x xs. x ∷ xs) first (no_two_share_a_line ls ms (all_others well_formed l ls good) (all_others well_formed m ms fine) rest)

-- ---- 4. the total

module _
    (card : Card) (accepted : card_check card ≡ got tt)
    (default : card.settings.default_kind ≡ 3) (fractions : card.settings.fractions ≡ true) (negatives : card.settings.negatives ≡ true) where
  module _ (text : List ℕ) where
    -- the parts from the place on, added in order to what was summed up before it
    totals_from :
        (l : Length) (more : List Length) (so_far : Length) (place : ℕ)
        → all well_formed (l ∷ more) ≡ true
        → place ≤ length text
        → drop place text ≡ written_all (l ∷ more)
        → total_from card text so_far place ≡ got (sum_all so_far (l ∷ more))
    unfolding written_all sum_all when◌then◌else◌ ◌>>=◌ ends
    totals_from l [] so_far place good within here =
        let size : length text - place ≡ length (written l) + 0 = sym (length-drop place text) ∙ ap length here ∙ length-append (written l) [] in
        total_step card text so_far place
        ∙ rw (
          part_reads card accepted default fractions negatives l (all_first well_formed l [] good) [] (follows []) text place here,
          le-leb (length text) (place + length (written l)) (omega (arith, size)),
        )
    totals_from l (m ∷ more) so_far place good within here =
        let rest : List ℕ = written_all (m ∷ more) in
        let size : length text - place ≡ length (written l) + length rest = sym (length-drop place text) ∙ ap length here ∙ length-append (written l) rest in
        let some : 0 < length rest = first_byte m more in
        total_step card text so_far place
        ∙ rw (
          part_reads card accepted default fractions negatives l (all_first well_formed l (m ∷ more) good) rest (follows (m ∷ more)) text place here,
          lt-leb (length text) (place + length (written l)) (omega (arith, size, some)),
        )
        (totals_from m more (sum so_far l) (place + length (written l)) (all_others well_formed l (m ∷ more) good) (omega (arith, size)) (behind text place (written l) rest here))

  -- the total is the clamped sum of the lengths, in order
  pub written_totals :
      (l : Length) (more : List Length)
      → all well_formed (l ∷ more) ≡ true
      → length (written_all (l ∷ more)) ≤ longest_text
      → read_total card (written_all (l ∷ more)) ≡ got (sum_all zero_length (l ∷ more))
  unfolding read_total unless ◌>>◌
  written_totals l more good short =
      let text : List ℕ = written_all (l ∷ more) in
      rw (accepted, le-leb (length text) longest_text short) (total_is card text ∙ totals_from text l more zero_length 0 good (omega arith) refl)

  -- and where no sum on the way passes the largest length, it is their sum exactly: what has a plus less what has a minus
  pub written_sums :
      (l : Length) (more : List Length)
      → all well_formed (l ∷ more) ≡ true
      → length (written_all (l ∷ more)) ≤ longest_text
      → stays 0 0 (l ∷ more) ≡ true
      → read_total card (written_all (l ∷ more)) ≡ got (difference (all_plus 0 (l ∷ more)) (all_minus 0 (l ∷ more)))
  unfolding difference zero_length
  written_sums l more good short within = written_totals l more good short ∙ ap got (sum_all_difference 0 0 (l ∷ more) within)
