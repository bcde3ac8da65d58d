-- What an entry hands back with one of the six numbers: exactly if its checks pass, what the number names stands there, in the part that is read
-- or in one that the total comes to read, places counted in the whole text. Of every entry that reads, whatever its arguments. Assumes nothing.
use Rattle.std.specs.Prelude.{◌≡◌, true, false, List, ◌↔◌, ℕ, ◌≤◌, eqb}
use Rattle.std.proofs.Common.{arith, ne_eqb}
use Rattle.rules.specs.declared.Length.{Length}
use Rattle.rules.specs.SettingsAndUnitTable.{Card}
use Rattle.rules.specs.WhatEveryEntryOwes.{part_answer, total_answer, shift_answer}
use Rattle.rules.proofs.Laws.Refusals.{among}
use Rattle.rules.proofs.Laws.Tests.{between_from}
use Rattle.handed_back.specs.RefusedWith.{refused_at}
use Rattle.handed_back.specs.BehindTheChecks as handed
use Rattle.handed_back.specs.BehindTheChecks.{of_the_text, InPart, InTotal, InShift}
use Rattle.six_slips.specs.TheAnswerBefore.{slip}
use Rattle.six_slips.specs.TheSixSlips.{Says}
use Rattle.six_slips.proofs.ExactlyThese.{exactly}

-- no check has one of the six
no_check : (n : ℕ) → slip n ≡ true → of_the_text n ≡ true
unfolding slip of_the_text among
no_check n six = rw (other 0 (omega arith), other 7 (omega arith), other 8 (omega arith), other 10 (omega arith), other 11 (omega arith))
  where
    from : 17 ≤ n
    from = between_from 17 22 n six

    other : (k : ℕ) → k ≤ 16 → eqb n k ≡ false
    other k below = ne_eqb n k (λ e. omega (arith, from))

module _ (card : Card) (text : List ℕ) (n q : ℕ) (six : slip n ≡ true) where
  pub part_exactly : (place : ℕ) → (part_answer card text place ≡ refused_at n q) ↔ InPart card text place (Says card text place n q)
  part_exactly place = handed.part_exactly card text n q (no_check n six) place (exactly card text place n q six)

  pub total_exactly : (total_answer card text ≡ refused_at n q) ↔ InTotal card text (λ from. Says card text from n q)
  total_exactly = handed.total_exactly card text n q (no_check n six) (λ from. exactly card text from n q six)

  pub shift_exactly : (so_far : Length) → (shift_answer so_far card text ≡ refused_at n q) ↔ InShift card text so_far (λ from. Says card text from n q)
  shift_exactly so_far = handed.shift_exactly card text n q (no_check n six) (λ from. exactly card text from n q six) so_far
