-- Under indexes that are accepted every reading is the reading without them, so all that is promised of the one is of the other; and what is refused
-- is refused by 7 as without, or by 23. Assumes nothing.
use Rattle.std.specs.Prelude.{◌≡◌, Bool, List, eqb, length}
use Rattle.std.proofs.Math.Path.{refl}
use Rattle.std.proofs.Common.{◌∙◌}
use Prim.Native.Nat.{ℕ, zero, suc}
use Rattle.rules.specs.declared.Length.{Length}
use Rattle.rules.specs.declared.Refusal.{Refusal}
use Rattle.rules.specs.declared.Refusal.TheVariants.{WrongIndex, WrongLineIndex}
use Rattle.rules.specs.NumbersHandedBack.{Outcome, got, refused, ◌>>◌, unless, number, refusal, answered}
use Rattle.rules.specs.SettingsAndUnitTable.{card_check, rows, rows_check}
use Rattle.rules.specs.WriterAndShiftTotal.{record_after}
use Rattle.rules.specs.WhatEveryEntryOwes.{read_part, part_answer, read_total, total_answer, add_total, shift_answer, shifted_record}
use Rattle.rules.proofs.Laws.Outcomes.{Refused, not_refused, refused_by, refused_if, refused_then, refused_unless}
use Rattle.index.specs.TheSortedIndex.{entry_right, index_check, Indexed, indexed_check, indexed_part_answer, indexed_total_answer, indexed_shift_answer, indexed_shifted_record}

module _ (c : Indexed) (good : indexed_check c ≡ got tt) where
  pub part_alike : (text : List ℕ) (place : ℕ) → indexed_part_answer c text place ≡ part_answer c.card text place
  unfolding indexed_part_answer part_answer ◌>>◌
  part_alike text place = rw good

  pub total_alike : (text : List ℕ) → indexed_total_answer c text ≡ total_answer c.card text
  unfolding indexed_total_answer total_answer ◌>>◌
  total_alike text = rw good

  pub shift_alike : (so_far : Length) (text : List ℕ) → indexed_shift_answer so_far c text ≡ shift_answer so_far c.card text
  unfolding indexed_shift_answer shift_answer ◌>>◌
  shift_alike so_far text = rw good

  pub record_alike : (so_far : Length) (text : List ℕ) → indexed_shifted_record so_far c text ≡ shifted_record so_far c.card text
  unfolding indexed_shifted_record shifted_record ◌>>◌
  record_alike so_far text = rw good

-- ---- 7 stands before 23: a card that is refused is refused so with whatever indexes

module _ (c : Indexed) {cause : Refusal} (bad : card_check c.card ≡ refused cause) where
  pub part_refused_alike : (text : List ℕ) (place : ℕ) → indexed_part_answer c text place ≡ part_answer c.card text place
  unfolding indexed_part_answer part_answer read_part indexed_check answered ◌>>◌
  part_refused_alike text place = rw bad

  pub total_refused_alike : (text : List ℕ) → indexed_total_answer c text ≡ total_answer c.card text
  unfolding indexed_total_answer total_answer read_total indexed_check answered ◌>>◌
  total_refused_alike text = rw bad

  pub shift_refused_alike : (so_far : Length) (text : List ℕ) → indexed_shift_answer so_far c text ≡ shift_answer so_far c.card text
  unfolding indexed_shift_answer shift_answer add_total indexed_check answered ◌>>◌
  shift_refused_alike so_far text = rw bad

-- ---- and an accepted card with a wrong index is refused by 23, whatever is read

module _ (wrong : ℕ → Refusal) (numbered : (k : ℕ) → number (wrong k) ≡ 23) where
  entries_by : (test : ℕ → Bool) (k n : ℕ) → Refused (λ cause. number cause ≡ 23) (rows_check test wrong k n)
  unfolding rows_check
  entries_by test k zero = not_refused
  entries_by test k (suc n) = refused_if (λ _. entries_by test (suc k) n) (λ _. refused_by (numbered k))

  index_by : (table index : List ℕ) → Refused (λ cause. number cause ≡ 23) (index_check wrong table index)
  unfolding index_check
  index_by table index =
      refused_then (unless (wrong (rows table)) (eqb (length index) (rows table)))
      (refused_unless (wrong (rows table)) (eqb (length index) (rows table)) (λ _. numbered (rows table)))
      (entries_by (entry_right table index) 0 (rows table))

-- both indexes
indexes_by : (c : Indexed) → Refused (λ cause. number cause ≡ 23) (index_check WrongIndex c.card.hall c.hall_index >> index_check WrongLineIndex c.card.line c.line_index)
unfolding number
indexes_by c = refused_then (index_check WrongIndex c.card.hall c.hall_index) (index_by WrongIndex (λ k. refl) _ _) (index_by WrongLineIndex (λ k. refl) _ _)

module _ (c : Indexed) (accepted : card_check c.card ≡ got tt) (wrong : indexed_check c ≡ got tt → ⊥) where
  -- what the indexes are refused with
  refused_so : (cause : Refusal) × (indexed_check c ≡ refused cause) × (number cause ≡ 23)
  unfolding indexed_check ◌>>◌
  refused_so = go (index_check WrongIndex c.card.hall c.hall_index >> index_check WrongLineIndex c.card.line c.line_index) refl (indexes_by c)
    where
      rest : Outcome (Unit {0})
      rest = index_check WrongIndex c.card.hall c.hall_index >> index_check WrongLineIndex c.card.line c.line_index

      whole : indexed_check c ≡ rest
      whole = rw accepted

      go : (m : Outcome (Unit {0})) → rest ≡ m → Refused (λ cause. number cause ≡ 23) m → (cause : Refusal) × (indexed_check c ≡ refused cause) × (number cause ≡ 23)
      go (got tt) e by = absurd (wrong (whole ∙ e))
      go (refused cause) e (refused_by is) = (cause, whole ∙ e, is)

  pub part_23 : (text : List ℕ) (place : ℕ) → (indexed_part_answer c text place).number ≡ 23
  unfolding indexed_part_answer answered refusal ◌>>◌
  part_23 text place = let (cause, e, is) = refused_so in rw e is

  pub total_23 : (text : List ℕ) → (indexed_total_answer c text).number ≡ 23
  unfolding indexed_total_answer answered refusal ◌>>◌
  total_23 text = let (cause, e, is) = refused_so in rw e is

  -- with the total left as it was
  pub shift_23 : (so_far : Length) (text : List ℕ) → ((indexed_shift_answer so_far c text).number ≡ 23) × (indexed_shifted_record so_far c text ≡ so_far)
  unfolding indexed_shift_answer indexed_shifted_record record_after answered refusal ◌>>◌
  shift_23 so_far text = let (cause, e, is) = refused_so in (rw e is, rw e)
