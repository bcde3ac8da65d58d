-- Laws of the answers behind the check of a card with its indexes: what was refused is handed back, and where all passes the readers are those
-- without indexes. Assumes nothing.
use Rattle.std.specs.Prelude.{◌≡◌, List, ℕ}
use Rattle.rules.specs.declared.Length.{Length}
use Rattle.rules.specs.declared.Answer.{Answer}
use Rattle.rules.specs.declared.Refusal.{Refusal}
use Rattle.rules.specs.NumbersHandedBack.{got, refused, ◌>>◌, refusal, answered}
use Rattle.rules.specs.WriterAndShiftTotal.{record_after}
use Rattle.rules.specs.WhatEveryEntryOwes.{part_answer, total_answer, shift_answer, shifted_record}
use Rattle.index.specs.TheSortedIndex.{Indexed, indexed_check, indexed_part_answer, indexed_total_answer, indexed_shift_answer, indexed_shifted_record}

-- ---- the readers

module _ (c : Indexed) where
  module _ (text : List ℕ) where
    module _ (place : ℕ) where
      pub part_refused : {cause : Refusal} → indexed_check c ≡ refused cause → refusal cause ≡ indexed_part_answer c text place
      unfolding indexed_part_answer answered ◌>>◌
      part_refused e = rw e

      pub part_passed : indexed_check c ≡ got tt → part_answer c.card text place ≡ indexed_part_answer c text place
      unfolding indexed_part_answer part_answer ◌>>◌
      part_passed e = rw e

    pub total_refused : {cause : Refusal} → indexed_check c ≡ refused cause → refusal cause ≡ indexed_total_answer c text
    unfolding indexed_total_answer answered ◌>>◌
    total_refused e = rw e

    pub total_passed : indexed_check c ≡ got tt → total_answer c.card text ≡ indexed_total_answer c text
    unfolding indexed_total_answer total_answer ◌>>◌
    total_passed e = rw e

    -- ---- the shift total

    module _ (so_far : Length) {answer : Answer} {then : Length} where
      pub shift_refused :
          {cause : Refusal}
          → indexed_check c ≡ refused cause
          → (answer ≡ refusal cause) × (then ≡ so_far)
          → (answer ≡ indexed_shift_answer so_far c text) × (then ≡ indexed_shifted_record so_far c text)
      unfolding indexed_shift_answer indexed_shifted_record answered record_after ◌>>◌
      shift_refused e kept = rw e kept

      pub shift_passed :
          indexed_check c ≡ got tt
          → (answer ≡ shift_answer so_far c.card text) × (then ≡ shifted_record so_far c.card text)
          → (answer ≡ indexed_shift_answer so_far c text) × (then ≡ indexed_shifted_record so_far c text)
      unfolding indexed_shift_answer indexed_shifted_record shift_answer shifted_record ◌>>◌
      shift_passed e shifted = rw e shifted
