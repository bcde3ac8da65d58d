-- Cards of the same settings and numerals whose tables find the same row for every name read every text to the same, and every entry answers
-- the same under both if the check says the same of both; so two tables and the merged one read every text to the same. Assumes nothing.
use Rattle.std.specs.Prelude.{◌≡◌, List, Option, Some, None}
use Rattle.std.proofs.Math.Path.{refl}
use Prim.Native.Nat.{ℕ, zero, suc}
use Rattle.rules.specs.declared.Length.{Length}
use Rattle.rules.specs.declared.Settings.{Settings}
use Rattle.rules.specs.SettingsAndUnitTable.{Card, card_check}
use Rattle.rules.specs.ReadingOnePart.{find_unit, unit_step, numeral_found, numeral_step, spoken_unit_step, finite_part, spoken_part, unsigned_part, part}
use Rattle.rules.specs.Evaluation.{part_reading, parts, total}
use Rattle.rules.specs.WhatEveryEntryOwes.{read_part, part_answer, read_total, total_answer, add_total, shift_answer, shifted_record}
use Rattle.line_names.specs.OneBehindAnother.{Whole}
use Rattle.line_names.proofs.FoundAlike.{merged_finds}
use Rattle.line_names.specs.ReadAlike.{Alike}
use Rattle.line_names.specs.ReadAlike as two

module _ {a b : Card} (alike : Alike a b) (text : List ℕ) where
  found_alike : (place : ℕ) → find_unit a text place ≡ find_unit b text place
  unfolding find_unit
  found_alike place = rw alike.settings (alike.finds _)

  numeral_found_alike : (place : ℕ) (f : Option ℕ) → numeral_found a text place f ≡ numeral_found b text place f
  unfolding numeral_found
  numeral_found_alike place (Some i) = rw (alike.settings, alike.numerals)
  numeral_found_alike place None = refl

  numeral_alike : (place : ℕ) → numeral_step a text place ≡ numeral_step b text place
  unfolding numeral_step
  numeral_alike place = rw (numeral_found_alike, alike.settings, alike.numerals)

  pub part_alike : (place : ℕ) → part a text place ≡ part b text place
  unfolding part unsigned_part finite_part spoken_part unit_step spoken_unit_step
  part_alike place = simp (found_alike, numeral_alike, alike.settings)

  pub reading_alike : (place : ℕ) → part_reading a text place ≡ part_reading b text place
  unfolding part_reading
  reading_alike place = simp (part_alike, alike.settings)

  parts_alike : (n place : ℕ) → parts a text n place ≡ parts b text n place
  unfolding parts
  parts_alike zero place = refl
  parts_alike (suc n) place = simp (reading_alike, parts_alike n)

  pub total_alike : total a text ≡ total b text
  unfolding total
  total_alike = simp parts_alike

-- ---- where the check says the same of both cards, every entry answers the same

module _ {a b : Card} (alike : Alike a b) (checked : card_check a ≡ card_check b) (text : List ℕ) where
  pub part_answer_alike : (place : ℕ) → part_answer a text place ≡ part_answer b text place
  unfolding part_answer read_part
  part_answer_alike place = rw (checked, reading_alike alike text place)

  pub total_answer_alike : total_answer a text ≡ total_answer b text
  unfolding total_answer read_total
  total_answer_alike = rw (checked, total_alike alike text)

  module _ (so_far : Length) where
    added_alike : add_total so_far a text ≡ add_total so_far b text
    unfolding add_total
    added_alike = rw (checked, total_alike alike text)

    pub shift_answer_alike : shift_answer so_far a text ≡ shift_answer so_far b text
    unfolding shift_answer
    shift_answer_alike = rw added_alike

    pub shifted_record_alike : shifted_record so_far a text ≡ shifted_record so_far b text
    unfolding shifted_record
    shifted_record_alike = rw added_alike

-- ---- two tables and the merged one

module _ (s : Settings) (hall line numerals : List ℕ) where
  abbrev of_both : Card
  of_both = two.of_both s hall line numerals

  abbrev of_merged : Card
  of_merged = two.of_merged s hall line numerals

  module _ (whole : Whole line) where
    pub merged_alike : Alike of_merged of_both
    merged_alike = record { settings = refl; numerals = refl; finds = merged_finds hall line whole }

    module _ (text : List ℕ) where
      pub merged_part : (place : ℕ) → part of_merged text place ≡ part of_both text place
      merged_part = part_alike merged_alike text

      pub merged_reading : (place : ℕ) → part_reading of_merged text place ≡ part_reading of_both text place
      merged_reading = reading_alike merged_alike text

      pub merged_total : total of_merged text ≡ total of_both text
      merged_total = total_alike merged_alike text
