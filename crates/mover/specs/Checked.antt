-- What a check of all lines comes to: so many, all of which may be moved, or the first refusal; and what is to be done then. Assumes nothing.
use Rattle.std.specs.Prelude.{◌≡◌, List, ℕ, ◌*◌, ◌/◌, ◌≤◌, ◌<◌, length}
use Rattle.std.proofs.Common.{sym, ap, ◌∙◌, zero-add, le-div_iff_mul-le, div-lt_iff_lt-mul, arith}
use Rattle.rules.specs.declared.Refusal.TheVariants.{NoRoom}
use Rattle.rules.specs.ThePartOfTheCrateWeTake.{zero_length}
use Rattle.rules.specs.NumbersHandedBack.{Outcome, got, refused, done, refusal}
use Rattle.stored.specs.Lines.{line_size_in}
use Rattle.writing.specs.Laid.{laid}
use Rattle.moves.specs.NamesLongerThanSixteenBytes.{lines, move_lines, move_answer, moved_target}
use Rattle.moves.specs.Laws.Moves.{AllMove, moved_pieces}
use Rattle.moves.proofs.Laws.Moves.{moved_pieces_long, all_moved, no_room, enough, not_moved, is_moved}

abbrev pub CheckedSo : ℕ → ℕ → List ℕ → Outcome ℕ → Type 0
CheckedSo from to source (got count) = (length source ≡ count * line_size_in from) × AllMove from to source count
CheckedSo from to source (refused cause) = move_lines from to 0 (lines source) ≡ refused cause

module _ (from to count size : ℕ) (source target : List ℕ) (right : CheckedSo from to source (got count)) (sized : size ≡ line_size_in to) where
  moved_all : move_lines from to 0 (lines source) ≡ got (moved_pieces from to source count)
  moved_all = all_moved from to source count right.1 right.0

  moved_long : length (moved_pieces from to source count) ≡ count * size
  moved_long = moved_pieces_long from to source count right.1 ∙ ap (λ n. count * n) (sym sized)

  -- a target that is too short for as many lines of the other form
  pub too_short : length target / size < count → (refusal (NoRoom 0) ≡ move_answer from to source target) × (target ≡ moved_target from to source target)
  too_short few =
      let short : length target < count * size = (div-lt_iff_lt-mul {k = size} (omega arith)).0 few in
      not_moved from to source target (NoRoom 0) (no_room from to source target (moved_pieces from to source count) moved_all (rw moved_long short))

  -- and one that is not
  pub long_enough : count ≤ length target / size → count * size ≤ length target
  long_enough many = (le-div_iff_mul-le {k = size} (omega arith)).0 many

  pub moved_so : count * size ≤ length target → (done (count * size) zero_length ≡ move_answer from to source target) × (laid target 0 (moved_pieces from to source count) ≡ moved_target from to source target)
  unfolding laid
  moved_so fits =
      let laws = is_moved from to source target (moved_pieces from to source count) (enough from to source target (moved_pieces from to source count) moved_all (rw moved_long fits)) in
      (rw (← moved_long) laws.0, rw (zero-add (length (moved_pieces from to source count))) laws.1)
