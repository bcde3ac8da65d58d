-- Laws of moving all lines: a source is taken apart into pieces of a line's length, one by one, as long as they are right. Assumes nothing.
use Rattle.std.specs.Prelude.{◌≡◌, ◌&&◌, eqb, leb}
use Rattle.std.proofs.Math.Path.{refl, sym, ap}
use Rattle.std.proofs.Common.{◌∙◌, arith}
use Rattle.std.proofs.Math.Bool.{Bool, true, false}
use mathlib.Core.List.{List, [], ◌++◌, append-nil, append_assoc}
use Prim.Native.Nat.{ℕ, zero, suc, ◌*◌, ◌≤◌, ◌<◌}
use Rattle.std.proofs.Math.Nat.{suc-mul, zero-mul}
use Rattle.std.proofs.Math.ListN.{length, take, drop, length-append, drop_of_length-le}
use Rattle.std.proofs.Math.Seq.{drop-drop}
use borrow.Author.Tests.{leb-true, le-leb, lt-leb}
use Rattle.rules.specs.declared.Refusal.{Refusal}
use Rattle.rules.specs.declared.Refusal.TheVariants.{NoRoom, NoStoredRow, NameTooLong}
use Rattle.rules.specs.Common.{between, all}
use Rattle.rules.specs.ThePartOfTheCrateWeTake.{zero_length}
use Rattle.rules.specs.NumbersHandedBack.{Outcome, got, refused, ◌>>=◌, ◌>>◌, unless, done, refusal, answered}
use Rattle.rules.specs.SettingsAndUnitTable.{zeros_at_in, name_size, after_name_in}
use Rattle.rules.proofs.Laws.Choices.{and_left, and_right}
use Rattle.rules.proofs.Laws.Tests.{between_to}
use Rattle.rules.proofs.Laws.Outcomes.{bind_assoc}
use Rattle.stored.specs.Lines.{line_size_in, line_accepted_in, restored_in}
use Rattle.stored.specs.Laws.{line_long}
use Rattle.moves.specs.NamesLongerThanSixteenBytes.{lines, row_stands, line_stands, move_line, move_lines, moving, move_answer, written_over, moved_target}
use Rattle.moves.specs.Laws.Moves.{line_moves, moved_line, piece, moved_pieces, AllMove}
use Rattle.moves.proofs.Laws.Lines.{first_line, not_a_line}
use Rattle.moves.specs.Laws.Digits.{told}
use Rattle.moves.proofs.Laws.Digits.{size_told, moved_long}

module _ (from to : ℕ) where
  -- ---- one line

  pub line_got : (i : ℕ) (line : List ℕ) → line_moves from to line ≡ true → move_line from to i line ≡ got (moved_line from to line)
  unfolding line_moves moved_line move_line ◌>>◌ unless
  line_got i line right =
      rw (
        and_left (line_stands from line) (leb (name_size (restored_in from line)) to) right,
        and_right (line_stands from line) (leb (name_size (restored_in from line)) to) right,
      )

module _ (room : ℕ) (line : List ℕ) (right : line_stands room line ≡ true) where
  pub stands_accepted : line_accepted_in room line ≡ true
  unfolding line_stands
  stands_accepted = and_left (line_accepted_in room line) (row_stands room (restored_in room line)) right

  pub stands_small : told line ≤ room
  unfolding line_stands row_stands
  stands_small =
      let r : List ℕ = restored_in room line in
      let named : Bool = between 1 room (name_size r) in
      let after : Bool = all (eqb 0) (after_name_in room r) in
      let last : Bool = all (eqb 0) (drop (zeros_at_in room) r) in
      let row : row_stands room r ≡ true = and_right (line_accepted_in room line) (row_stands room r) right in
      rw (size_told room line stands_accepted) at (between_to 1 room (name_size r) (and_left named after (and_left (named && after) last row)))

pub stands_moves : (from to : ℕ) (line : List ℕ) → line_stands from line ≡ true → told line ≤ to → line_moves from to line ≡ true
unfolding line_moves
stands_moves from to line right fits = rw (right, size_told from line (stands_accepted from line right), le-leb (told line) to fits)

module _ (from to : ℕ) (line : List ℕ) (right : line_moves from to line ≡ true) where
  pub moves_stand : line_stands from line ≡ true
  unfolding line_moves
  moves_stand = and_left (line_stands from line) (leb (name_size (restored_in from line)) to) right

  pub moves_long : length line ≡ line_size_in from
  moves_long = line_long from line (stands_accepted from line moves_stand)

  pub moves_small : told line ≤ from
  moves_small = stands_small from line moves_stand

  pub moves_fit : told line ≤ to
  unfolding line_moves
  moves_fit =
      rw (size_told from line (stands_accepted from line moves_stand)) at (leb-true (name_size (restored_in from line)) to (and_right (line_stands from line) (leb (name_size (restored_in from line)) to) right))

-- ---- the lines of a source, from one of them on

module _ (from to i : ℕ) (rest : List ℕ) where
  pub moved_first : line_moves from to (take (line_size_in from) rest) ≡ true → move_lines from to i (lines rest) ≡ (move_lines from to (suc i) (lines (drop (line_size_in from) rest)) >>= λ others. got (moved_line from to (take (line_size_in from) rest) ++ others))
  unfolding move_lines ◌>>=◌
  moved_first right =
      let line : List ℕ = take (line_size_in from) rest in
      rw (first_line from rest (stands_accepted from line (moves_stand from to line right)), line_got from to i line right)

  pub not_stored : 0 < length rest → line_stands from (take (line_size_in from) rest) ≡ false → move_lines from to i (lines rest) ≡ refused (NoStoredRow i)
  unfolding move_lines move_line line_stands unless ◌>>◌ ◌>>=◌
  not_stored some wrong = go (line_accepted_in from (take (line_size_in from) rest)) refl
    where
      go : (accepted : Bool) → line_accepted_in from (take (line_size_in from) rest) ≡ accepted → move_lines from to i (lines rest) ≡ refused (NoStoredRow i)
      go true is = rw (first_line from rest is, wrong)
      go false is = let bad = not_a_line from rest some is in rw (bad.are, bad.wrong)

  pub too_long : line_stands from (take (line_size_in from) rest) ≡ true → to < told (take (line_size_in from) rest) → move_lines from to i (lines rest) ≡ refused (NameTooLong i)
  unfolding move_lines move_line unless ◌>>◌ ◌>>=◌
  too_long right long =
      let line : List ℕ = take (line_size_in from) rest in
      let good : line_accepted_in from line ≡ true = stands_accepted from line right in
      rw (first_line from rest good, right, size_told from line good, lt-leb (told line) to long)

-- ---- all of them

unbound : {A : Type 0} (m : Outcome A) → (m >>= λ a. got a) ≡ m
unfolding ◌>>=◌
unbound (got a) = refl
unbound (refused cause) = refl

module _ (from to : ℕ) (source : List ℕ) where
  -- where the first k may be moved, the others decide
  others_decide : (k : ℕ) → AllMove from to source k → move_lines from to 0 (lines source) ≡ (move_lines from to k (lines (drop (k * line_size_in from) source)) >>= λ others. got (moved_pieces from to source k ++ others))
  unfolding moved_pieces ◌>>=◌
  others_decide zero right = rw zero-mul (sym (unbound (move_lines from to 0 (lines source))))
  others_decide (suc k) right =
      let size : ℕ = line_size_in from in
      let before : List ℕ = moved_pieces from to source k in
      let line : List ℕ = moved_line from to (piece from source k) in
      let behind : drop size (drop (k * size) source) ≡ drop (suc k * size) source = drop-drop size (k * size) source ∙ ap (λ n. drop n source) (sym (suc-mul k size)) in
      others_decide k (λ j below. right j (omega arith))
      ∙ ap (λ m. m >>= λ others. got (before ++ others)) (moved_first from to k (drop (k * size) source) (right k (omega arith)))
      ∙ bind_assoc (move_lines from to (suc k) (lines (drop size (drop (k * size) source)))) (λ others. got (line ++ others)) (λ others. got (before ++ others))
      ∙ ap (λ l. move_lines from to (suc k) (lines l) >>= λ others. got (before ++ (line ++ others))) behind
      ∙ simp append_assoc

  -- the first that is refused
  pub refused_at : (k : ℕ) {cause : Refusal} → AllMove from to source k → move_lines from to k (lines (drop (k * line_size_in from) source)) ≡ refused cause → move_lines from to 0 (lines source) ≡ refused cause
  unfolding ◌>>=◌
  refused_at k right e = others_decide k right ∙ rw e

  -- and if none is left
  pub all_moved : (k : ℕ) → AllMove from to source k → length source ≡ k * line_size_in from → move_lines from to 0 (lines source) ≡ got (moved_pieces from to source k)
  unfolding ◌>>=◌ move_lines lines
  all_moved k right long =
      let none : drop (k * line_size_in from) source ≡ [] = drop_of_length-le source {i = k * line_size_in from} (omega arith) in
      others_decide k right ∙ rw (none, append-nil)

  pub moved_pieces_long : (k : ℕ) → AllMove from to source k → length (moved_pieces from to source k) ≡ k * line_size_in to
  unfolding moved_pieces moved_line
  moved_pieces_long zero right = sym (zero-mul (line_size_in to))
  moved_pieces_long (suc k) right =
      let line : List ℕ = piece from source k in
      let may : line_moves from to line ≡ true = right k (omega arith) in
      let stands : line_stands from line ≡ true = moves_stand from to line may in
      let long : length (moved_line from to line) ≡ line_size_in to = moved_long from line (stands_accepted from line stands) to (stands_small from line stands) (moves_fit from to line may) in
      length-append (moved_pieces from to source k) (moved_line from to line)
      ∙ rw (moved_pieces_long k (λ j below. right j (omega arith)), long, suc-mul k (line_size_in to))

-- ---- what a move comes to

module _ (from to : ℕ) (source target : List ℕ) where
  pub lines_refused : {cause : Refusal} → move_lines from to 0 (lines source) ≡ refused cause → moving from to source target ≡ refused cause
  unfolding moving ◌>>=◌
  lines_refused e = rw e

  module _ (moved : List ℕ) (all : move_lines from to 0 (lines source) ≡ got moved) where
    pub no_room : length target < length moved → moving from to source target ≡ refused (NoRoom 0)
    unfolding moving ◌>>=◌ ◌>>◌ unless
    no_room short = rw (all, lt-leb (length moved) (length target) short)

    pub enough : length moved ≤ length target → moving from to source target ≡ got moved
    unfolding moving ◌>>=◌ ◌>>◌ unless
    enough room = rw (all, le-leb (length moved) (length target) room)

  -- a refusal, and the target as it was
  pub not_moved : (cause : Refusal) → moving from to source target ≡ refused cause → (refusal cause ≡ move_answer from to source target) × (target ≡ moved_target from to source target)
  unfolding move_answer moved_target written_over answered
  not_moved cause e = (rw e, rw e)

  -- the place behind what was written, and the rest of the target as it was
  pub is_moved : (moved : List ℕ) → moving from to source target ≡ got moved → (done (length moved) zero_length ≡ move_answer from to source target) × (moved ++ drop (length moved) target ≡ moved_target from to source target)
  unfolding move_answer moved_target written_over answered
  is_moved moved e = (rw e, rw e)
