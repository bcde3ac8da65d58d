-- What an entry hands back with 15 and 16: exactly if its checks pass and a part that it reads has a numeral and no unit, or a product that leaves
-- its range. Of every entry that reads, whatever its arguments. Assumes nothing.
use Rattle.std.specs.Prelude.{◌≡◌, List, ◌↔◌, ℕ}
use Rattle.std.proofs.Math.Path.{refl}
use Rattle.std.proofs.Common.{sym, ap, ◌∙◌}
use Rattle.rules.specs.declared.Length.{Length}
use Rattle.rules.specs.declared.Refusal.TheVariants.{NoUnit, OutOfRange}
use Rattle.rules.specs.NumbersHandedBack.{number, position}
use Rattle.rules.specs.SettingsAndUnitTable.{Card}
use Rattle.rules.specs.Evaluation.{part_reading}
use Rattle.rules.specs.WhatEveryEntryOwes.{part_answer, total_answer, shift_answer}
use Rattle.rules.proofs.Laws.Outcomes.{the_cause}
use Rattle.rules.proofs.Laws.Refusals.{among}
use Rattle.handed_back.specs.RefusedWith.{RefusedWith, refused_at}
use Rattle.handed_back.specs.BehindTheChecks as handed
use Rattle.handed_back.specs.BehindTheChecks.{of_the_text, InPart, InTotal, InShift}
use Rattle.spoken_numbers.proofs.WhenNoUnitFollows as no_unit
use Rattle.spoken_numbers.specs.WhenNoUnitFollows.{NoUnitAt}
use Rattle.spoken_numbers.proofs.WhenNoUnitFollows.{no_unit_exactly}
use Rattle.spoken_numbers.proofs.WhenAProductLeavesItsRange as out_of_range
use Rattle.spoken_numbers.specs.WhenAProductLeavesItsRange.{OutOfItsRange}
use Rattle.spoken_numbers.proofs.WhenAProductLeavesItsRange.{out_of_range_exactly}

module _ (card : Card) (text : List ℕ) where
  -- ---- a part

  pub fifteen_exactly : (from q : ℕ) → RefusedWith (part_reading card text from) 15 q ↔ NoUnitAt card text from q
  unfolding number position
  fifteen_exactly from q = (there, back)
    where
      there : RefusedWith (part_reading card text from) 15 q → NoUnitAt card text from q
      there h =
          let (at, is, missing) = the_cause (no_unit.reading_told card text from) h.refuses h.its_number in
          rw (ap position (sym is) ∙ h.its_position) at missing

      back : NoUnitAt card text from q → RefusedWith (part_reading card text from) 15 q
      back missing = record { cause = NoUnit q; refuses = (no_unit_exactly card text from q).1 missing; its_number = refl; its_position = refl }

  -- 16 has no place, so its position is 0
  pub sixteen_exactly : (from : ℕ) → RefusedWith (part_reading card text from) 16 0 ↔ OutOfItsRange card text from
  unfolding number position
  sixteen_exactly from = (
    (λ h. (the_cause (out_of_range.reading_told card text from) h.refuses h.its_number).1),
    λ out. record { cause = OutOfRange; refuses = (out_of_range_exactly card text from).1 out; its_number = refl; its_position = refl },
  )

  -- ---- the entries

  pub part_fifteen : (place q : ℕ) → (part_answer card text place ≡ refused_at 15 q) ↔ InPart card text place (NoUnitAt card text place q)
  unfolding of_the_text among
  part_fifteen place q = handed.part_exactly card text 15 q refl place (fifteen_exactly place q)

  pub part_sixteen : (place : ℕ) → (part_answer card text place ≡ refused_at 16 0) ↔ InPart card text place (OutOfItsRange card text place)
  unfolding of_the_text among
  part_sixteen place = handed.part_exactly card text 16 0 refl place (sixteen_exactly place)

  pub total_fifteen : (q : ℕ) → (total_answer card text ≡ refused_at 15 q) ↔ InTotal card text (λ from. NoUnitAt card text from q)
  unfolding of_the_text among
  total_fifteen q = handed.total_exactly card text 15 q refl (λ from. fifteen_exactly from q)

  pub total_sixteen : (total_answer card text ≡ refused_at 16 0) ↔ InTotal card text (OutOfItsRange card text)
  unfolding of_the_text among
  total_sixteen = handed.total_exactly card text 16 0 refl sixteen_exactly

  module _ (so_far : Length) where
    pub shift_fifteen : (q : ℕ) → (shift_answer so_far card text ≡ refused_at 15 q) ↔ InShift card text so_far (λ from. NoUnitAt card text from q)
    unfolding of_the_text among
    shift_fifteen q = handed.shift_exactly card text 15 q refl (λ from. fifteen_exactly from q) so_far

    pub shift_sixteen : (shift_answer so_far card text ≡ refused_at 16 0) ↔ InShift card text so_far (OutOfItsRange card text)
    unfolding of_the_text among
    shift_sixteen = handed.shift_exactly card text 16 0 refl sixteen_exactly so_far
