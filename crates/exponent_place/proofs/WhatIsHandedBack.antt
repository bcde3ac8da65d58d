-- What an entry says with 3 or 4: the digit at which the exponent of a part that is read passes the range, places counted in the whole text;
-- and it says so wherever there is one. Of every entry that reads, whatever its arguments. Assumes nothing.
use Rattle.std.specs.Prelude.{◌≡◌, refl, Bool, true, false, List, ◌↔◌, ℕ}
use Rattle.rules.specs.declared.Length.{Length}
use Rattle.rules.specs.Common.{when◌then◌else◌}
use Rattle.rules.specs.SettingsAndUnitTable.{Card}
use Rattle.rules.specs.WhatEveryEntryOwes.{part_answer, total_answer, shift_answer}
use Rattle.rules.proofs.Laws.Refusals.{among}
use Rattle.handed_back.specs.RefusedWith.{refused_at}
use Rattle.handed_back.specs.BehindTheChecks as handed
use Rattle.handed_back.specs.BehindTheChecks.{of_the_text, InPart, InTotal, InShift}
use Rattle.exponent_place.specs.TheWrongDigit.{WrongDigit, number_of}
use Rattle.exponent_place.proofs.ExactlyThere.{part_exactly}

-- no check refuses by 3 or 4
no_check : (negative : Bool) → of_the_text (number_of negative) ≡ true
unfolding of_the_text among when◌then◌else◌
no_check true = refl
no_check false = refl

-- 3, or 4 for a minus, is handed back at q exactly if the checks pass and the wrong digit of a part that is read stands there
module _ (card : Card) (text : List ℕ) (negative : Bool) (q : ℕ) where
  -- the wrong digit of the part that begins at a place
  abbrev pub Wrong : ℕ → Type 0
  Wrong from = WrongDigit card text from negative q

  pub part_answer_exactly : (place : ℕ) → (part_answer card text place ≡ refused_at (number_of negative) q) ↔ InPart card text place (Wrong place)
  part_answer_exactly place = handed.part_exactly card text (number_of negative) q (no_check negative) place (part_exactly card text place negative q)

  pub total_answer_exactly : (total_answer card text ≡ refused_at (number_of negative) q) ↔ InTotal card text Wrong
  total_answer_exactly = handed.total_exactly card text (number_of negative) q (no_check negative) (λ from. part_exactly card text from negative q)

  pub shift_answer_exactly : (so_far : Length) → (shift_answer so_far card text ≡ refused_at (number_of negative) q) ↔ InShift card text so_far Wrong
  shift_answer_exactly so_far = handed.shift_exactly card text (number_of negative) q (no_check negative) (λ from. part_exactly card text from negative q) so_far
