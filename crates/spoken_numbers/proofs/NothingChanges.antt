-- With an empty numeral table nothing changes: whatever its other arguments, every entry answers as before request four, when a line had no
-- table of its own. The writer did not move. Assumes nothing.
use Rattle.std.specs.Prelude.{◌≡◌, Bool, true, false, Option, Some, None}
use Rattle.std.proofs.Math.Path.{refl}
use mathlib.Core.List.{List, []}
use Prim.Native.Nat.{ℕ, zero, suc, zero-le}
use Rattle.std.proofs.Common.{le-leb, arith, drop-cons}
use Rattle.std.proofs.Math.Seq.{slice}
use Rattle.rules.specs.declared.Length.{Length}
use Rattle.rules.specs.declared.Part.{Part}
use Rattle.rules.specs.declared.Refusal.TheVariants.{BadRow}
use Rattle.rules.specs.declared.Repr.TheVariants.{Typed}
use Rattle.rules.specs.declared.Settings.{Settings}
use Rattle.rules.specs.Common.{when◌then◌else◌, between, run}
use Rattle.rules.specs.NumbersHandedBack.{Outcome, got, refused, ◌>>=◌, ◌>>◌, unless}
use Rattle.rules.specs.SettingsAndUnitTable.{rows_in, row, kind, row_formed_in, row_right_in, row_accepted, row_accepted_in, whole_rows_in, rows_check, units_check_in, table_check, line_check, numerals_check_in, card_check, lookup_from_in, lookup, lookup_in, line_first, stands, held_row, find_row}
use Rattle.rules.specs.ReadingOnePart.{in_stretch, find_unit, unit_found, unit_step, numeral_found, numeral_step, infinite_part, finite_part, spoken_part, unsigned_part, part}
use Rattle.rules.specs.Evaluation.{evaluated, part_reading, parts, total}
use Rattle.rules.specs.WhatEveryEntryOwes.{read_part, part_answer, read_total, total_answer, add_total, shift_answer, shifted_record}
use Rattle.rules.specs.CardAAndItsReadings.{unspoken}
use Rattle.rules.proofs.Laws.Outcomes.{bind_assoc}
use Rattle.rows.specs.Laws.Rows.{length_row}
use Rattle.rows.specs.Laws.Lookup.{lookup_found}
use Rattle.spoken_numbers.specs.TheReadingBefore as before

-- a check with nothing behind it
alone : (check : Outcome (Unit {0})) → (check >> got tt) ≡ check
unfolding ◌>>◌
alone (got tt) = refl
alone (refused cause) = refl

-- a part as it was, as it is now
abbrev typed : before.Part → Part
typed p = record { repr = Typed p.repr; next = p.next }

-- what follows a choice follows either case
if_bind : {A B : Type 0} (b : Bool) (x y : Outcome A) (next : A → Outcome B) → ((when b then x else y) >>= next) ≡ (when b then x >>= next else y >>= next)
unfolding when◌then◌else◌
if_bind true x y next = refl
if_bind false x y next = refl

module _ (s : Settings) (table : List ℕ) where
  -- ---- the card

  row_as_before : (i : ℕ) → row_accepted s table i ≡ before.row_accepted s table i
  unfolding row_accepted_in row_right_in row_formed_in between before.row_accepted before.row_right
  row_as_before i = rw (le-leb 0 (kind (row table i)) zero-le)

  rows_as_before : (i n : ℕ) → rows_check (row_accepted s table) BadRow i n ≡ before.rows_check s table i n
  unfolding rows_check before.rows_check
  rows_as_before i zero = refl
  rows_as_before i (suc n) = rw (rows_as_before (suc i) n, row_as_before i)

  pub card_as_before : card_check (unspoken s table) ≡ before.card_check s table
  unfolding unspoken card_check units_check_in table_check line_check numerals_check_in whole_rows_in rows_in rows_check unless ◌>>◌ before.card_check before.table_check
  card_as_before = simp (rows_as_before, alone)

  module _ (text : List ℕ) where
    -- ---- a part

    unit_as_before : (place : ℕ) → unit_step (unspoken s table) text place ≡ before.unit_step s table text place
    unfolding unspoken unit_step find_unit find_row stands held_row line_first unit_found lookup_in lookup_from_in rows_in before.unit_step before.unit_found
    unit_as_before place = go (lookup table name) refl
      where
        name : List ℕ
        name = slice place (run (in_stretch s) text place) text

        go : (found : Option ℕ) → lookup table name ≡ found → unit_found s text place (held_row table [] (line_first None found)) ≡ before.unit_found s table text place found
        go (Some i) at = rw (drop-cons (row table i) 0 0 (omega (arith, length_row table i (lookup_found table name i at).0)))
        go None at = refl

    finite_as_before : (negative : Bool) (place : ℕ) → finite_part (unspoken s table) text negative place ≡ (before.finite_part s table text negative place >>= λ p. got (typed p))
    unfolding unspoken finite_part before.finite_part ◌>>=◌
    finite_as_before negative place = simp (bind_assoc, unit_as_before)

    -- where no number stands there is no numeral either
    unsigned_as_before : (negative : Bool) (place : ℕ) → unsigned_part (unspoken s table) text negative place ≡ (before.unsigned_part s table text negative place >>= λ p. got (typed p))
    unfolding unspoken unsigned_part infinite_part spoken_part numeral_step numeral_found lookup_in lookup_from_in rows_in before.unsigned_part before.infinite_part ◌>>=◌
    unsigned_as_before negative place = simp (if_bind, bind_assoc, finite_as_before)

    part_as_before : (place : ℕ) → part (unspoken s table) text place ≡ (before.part s table text place >>= λ p. got (typed p))
    unfolding unspoken part before.part ◌>>=◌
    part_as_before place = simp (if_bind, bind_assoc, unsigned_as_before)

    reading_as_before : (place : ℕ) → part_reading (unspoken s table) text place ≡ before.part_reading s table text place
    unfolding unspoken part_reading evaluated before.part_reading ◌>>=◌
    reading_as_before place = simp (part_as_before, bind_assoc)

    -- ---- the total

    parts_as_before : (n place : ℕ) → parts (unspoken s table) text n place ≡ before.parts s table text n place
    unfolding parts before.parts
    parts_as_before zero place = refl
    parts_as_before (suc n) place = simp (reading_as_before, parts_as_before n)

    total_as_before : total (unspoken s table) text ≡ before.total s table text
    unfolding total before.total
    total_as_before = simp parts_as_before

    -- ---- the entries

    pub part_answer_as_before : (place : ℕ) → part_answer (unspoken s table) text place ≡ before.part_answer s table text place
    unfolding part_answer read_part before.part_answer before.read_part
    part_answer_as_before place = simp (card_as_before, reading_as_before)

    pub total_answer_as_before : total_answer (unspoken s table) text ≡ before.total_answer s table text
    unfolding total_answer read_total before.total_answer before.read_total
    total_answer_as_before = simp (card_as_before, total_as_before)

    module _ (so_far : Length) where
      added_as_before : add_total so_far (unspoken s table) text ≡ before.add_total so_far s table text
      unfolding add_total before.add_total
      added_as_before = simp (card_as_before, total_as_before)

      pub shift_answer_as_before : shift_answer so_far (unspoken s table) text ≡ before.shift_answer so_far s table text
      unfolding shift_answer before.shift_answer
      shift_answer_as_before = simp added_as_before

      pub shifted_record_as_before : shifted_record so_far (unspoken s table) text ≡ before.shifted_record so_far s table text
      unfolding shifted_record before.shifted_record
      shifted_record_as_before = simp added_as_before
