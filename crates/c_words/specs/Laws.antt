-- Laws of the words: what they say is what was meant, and what no field can hold is refused. Assumes nothing.
use Rattle.std.specs.Prelude.{◌≡◌, ◌≢◌, false, List, ℕ, ◌≤◌, length}
use Rattle.std.proofs.Math.Path.{refl}
use Rattle.std.proofs.Common.{arith, le-ltb}
use Rattle.rules.specs.declared.Length.{Length}
use Rattle.rules.specs.declared.Answer.{Answer}
use Rattle.rules.specs.ThePartOfTheCrateWeTake.{nanoseconds_per_second, well_formed}
use Rattle.rules.specs.SettingsAsWords.{word, held_to}
use Rattle.rules.specs.NumbersHandedBack.{Outcome, got, refused, ◌>>◌, done, refusal, answered}
use Rattle.rules.specs.SettingsAndUnitTable.{Card}
use Rattle.rules.proofs.Laws.Answers.{refusal_number}
use Rattle.rules.proofs.Laws.SettingsAsWords.{held_fits, held_reaches, bit_back}
use Rattle.rules.proofs.Laws.Tests.{and_false}
use Rattle.rules.specs.WriterAndShiftTotal.{record_after}
use Rattle.rules.specs.WhatEveryEntryOwes.{add_total, shift_answer, shifted_record}
use Rattle.index.specs.declared.LookedUp.{LookedUp}
use Rattle.index.specs.TheSortedIndex.{Indexed, indexed_check, indexed_shift_answer, indexed_shifted_record}
use Rattle.c_words.specs.Words.{most_of_a_half, length_of, length_words, answer_words, words_after, shifted_words, indexed_shifted_words, found_words}

-- ---- what no field can hold is refused, as is all else that is too large

pub nanoseconds_refused : (words : List ℕ) → nanoseconds_per_second ≤ word words 2 → well_formed (length_of words) ≡ false
unfolding length_of well_formed
nanoseconds_refused words h =
    rw (le-ltb (held_to most_of_a_half (word words 2)) nanoseconds_per_second (held_reaches most_of_a_half (word words 2) nanoseconds_per_second (omega arith) h), and_false)

-- ---- every length can be said

pub length_back : (l : Length) → l.nanoseconds ≤ most_of_a_half → length_of (length_words l) ≡ l
unfolding length_of
length_back l h = rw (bit_back l.negative, ← held_fits most_of_a_half l.nanoseconds h)

-- ---- what is handed back of an answer is handed back of its equal

pub handed : {a b : Answer} {n : ℕ} {words : List ℕ} → (n ≡ a.number) × (words ≡ answer_words a) → a ≡ b → (n ≡ b.number) × (words ≡ answer_words b)
handed h e = rw e at h

-- and so of what a lookup found
pub handed_found :
    {a b : LookedUp} {n : ℕ} {words : List ℕ} → (n ≡ a.number) × (words ≡ found_words a) → a ≡ b → (n ≡ b.number) × (words ≡ found_words b)
handed_found h e = rw e at h

-- ---- the shift total's words afterwards

module _ (so_far : List ℕ) (size : ℕ) where
  after_done : (m : Outcome Length) → (answered (done size) m).number ≡ 0 → length_words (record_after (length_of so_far) m) ≡ words_after so_far m
  unfolding answered refusal record_after words_after
  after_done (got l) e = refl
  after_done (refused cause) e = absurd (refusal_number cause e)

  after_kept : (m : Outcome Length) → (answered (done size) m).number ≢ 0 → so_far ≡ words_after so_far m
  unfolding answered done words_after
  after_kept (got l) e = absurd (e refl)
  after_kept (refused cause) e = refl

module _ (so_far : List ℕ) (card : Card) (text : List ℕ) where
  pub shifted_done : (shift_answer (length_of so_far) card text).number ≡ 0 → length_words (shifted_record (length_of so_far) card text) ≡ shifted_words so_far card text
  unfolding shift_answer shifted_record shifted_words
  shifted_done e = after_done so_far (length text) (add_total (length_of so_far) card text) e

  pub shifted_kept : (shift_answer (length_of so_far) card text).number ≢ 0 → so_far ≡ shifted_words so_far card text
  unfolding shift_answer shifted_words
  shifted_kept e = after_kept so_far (length text) (add_total (length_of so_far) card text) e

module _ (so_far : List ℕ) (c : Indexed) (text : List ℕ) where
  pub indexed_shifted_done :
      (indexed_shift_answer (length_of so_far) c text).number ≡ 0
      → length_words (indexed_shifted_record (length_of so_far) c text) ≡ indexed_shifted_words so_far c text
  unfolding indexed_shift_answer indexed_shifted_record indexed_shifted_words
  indexed_shifted_done e = after_done so_far (length text) (indexed_check c >> add_total (length_of so_far) c.card text) e

  pub indexed_shifted_kept : (indexed_shift_answer (length_of so_far) c text).number ≢ 0 → so_far ≡ indexed_shifted_words so_far c text
  unfolding indexed_shift_answer indexed_shifted_words
  indexed_shifted_kept e = after_kept so_far (length text) (indexed_check c >> add_total (length_of so_far) c.card text) e
