-- There and back as the entries hand it back. Assumes nothing.
use Rattle.std.specs.Prelude.{◌≡◌, ℕ, ◌≤◌, length, drop}
use Rattle.std.proofs.Math.Path.{refl}
use mathlib.Core.List.{List}
use Rattle.std.proofs.Math.Seq.{take-append_seam}
use Rattle.rules.specs.ThePartOfTheCrateWeTake.{zero_length}
use Rattle.rules.specs.NumbersHandedBack.{Outcome, got, refused, done, refusal, answered}
use Rattle.rules.proofs.Laws.Answers.{refusal_number}
use Rattle.moves.specs.NamesLongerThanSixteenBytes.{moving, move_answer, written_over, moved_target}
use Rattle.moved.proofs.ThereAndBack.{there_and_back}
use Rattle.moved.specs.HandedBack.{written}

module _ (from to : ℕ) (source target : List ℕ) where
  module _ {there : List ℕ} (e : moving from to source target ≡ got there) where
    answer_got : move_answer from to source target ≡ done (length there) zero_length
    unfolding move_answer answered
    answer_got = rw e

    written_got : written (move_answer from to source target) (moved_target from to source target) ≡ there
    unfolding written moved_target written_over done
    written_got = rw (answer_got, e) (take-append_seam there (drop (length there) target))

  -- 0 is handed back only for what was moved
  moved_for_zero : (move_answer from to source target).number ≡ 0 → (there : List ℕ) × (moving from to source target ≡ got there)
  unfolding move_answer answered refusal
  moved_for_zero zero_number = go (moving from to source target) refl zero_number
    where
      go : (m : Outcome (List ℕ)) → moving from to source target ≡ m → (answered (λ moved. done (length moved) zero_length) m).number ≡ 0 → (there : List ℕ) × (moving from to source target ≡ got there)
      go (got there) e n = (there, e)
      go (refused cause) e n = absurd (refusal_number cause n)

pub there_and_back_written :
    (from to : ℕ) (source target back_target : List ℕ) → (move_answer from to source target).number ≡ 0 → length source ≤ length back_target
    → let there = written (move_answer from to source target) (moved_target from to source target) in
    (move_answer to from there back_target ≡ done (length source) zero_length) × (written (move_answer to from there back_target) (moved_target to from there back_target) ≡ source)
there_and_back_written from to source target back_target zero_number room =
    let (there, e) = moved_for_zero from to source target zero_number in
    let back : moving to from there back_target ≡ got source = there_and_back from to source target back_target e room in
    rw (written_got from to source target e) (answer_got to from there back_target back, written_got to from there back_target back)
