-- A walk over the lines of a source, one line further: what the check of a line decides, and what its writing leaves in the target. Assumes nothing.
use Rattle.std.specs.Prelude.{◌≡◌, refl, true, false, List, ◌++◌, ℕ, ◌+◌, ◌*◌, ◌/◌, ◌≤◌, ◌<◌, min, length, take, drop}
use Rattle.std.proofs.Math.Nat.{mul-div_cancel}
use Rattle.std.proofs.Math.Seq.{take-append_seam, drop-append_seam, drop-drop}
use Rattle.std.proofs.lemmas.List.{take_min}
use Rattle.std.proofs.Common.{sym, ap, ◌∙◌, suc-mul, mul-le-mul_right, add-one, arith, length-take, length-drop, below_more}
use Rattle.rules.specs.declared.Refusal.TheVariants.{NoStoredRow, NameTooLong}
use Rattle.rules.specs.NumbersHandedBack.{refused}
use Rattle.stored.specs.Lines.{line_size_in}
use Rattle.stored.specs.Laws.{line_long}
use Rattle.writing.specs.Laid.{laid, laid_then}
use Rattle.moves.specs.NamesLongerThanSixteenBytes.{lines, line_stands, move_lines}
use Rattle.moves.specs.Laws.Digits.{told}
use Rattle.moves.specs.Laws.Moves.{line_moves, moved_line}
use Rattle.moves.specs.Laws.Moves.{piece, moved_pieces, AllMove}
use Rattle.moves.proofs.Laws.Moves.{stands_accepted, stands_moves, not_stored, too_long, refused_at, moved_pieces_long}

-- the place behind a line more
pub next_place : (k at size long : ℕ) → at ≡ k * long → size ≡ long → at + size ≡ (k + 1) * long
next_place k at size long is_at sized = rw (is_at, sized, add-one k) (sym (suc-mul k long))

-- ---- a chunk comes off the front of what is left behind the first k

module _ (size k : ℕ) (source left : List ℕ) (is : left ≡ drop (k * size) source) where
  pub chunk_is : (line others : List ℕ) {asked : ℕ} → asked ≡ size → left ≡ line ++ others → length line ≡ min asked (length left) → line ≡ take size (drop (k * size) source)
  chunk_is line others sized both long =
      sym (take-append_seam line others)
      ∙ ap (take (length line)) (sym both)
      ∙ ap (λ n. take n left) (long ∙ ap (λ n. min n (length left)) sized)
      ∙ take_min size left
      ∙ ap (take size) is

  pub some_left : 0 < length left → k * size < length source
  some_left some = omega (arith, simp length-drop at (ap length is))

  pub others_are : (line others : List ℕ) → left ≡ line ++ others → length line ≡ size → others ≡ drop ((k + 1) * size) source
  others_are line others both long =
      sym (drop-append_seam line others)
      ∙ ap (drop (length line)) (sym both ∙ is)
      ∙ ap (λ n. drop n (drop (k * size) source)) long
      ∙ drop-drop size (k * size) source
      ∙ ap (λ n. drop n source) (next_place k (k * size) size size refl refl)

  -- and where none is left, all were counted
  pub all_counted : length left ≡ 0 → k * size ≤ length source → 0 < size → (length source ≡ k * size) × (length source / size ≡ k)
  all_counted none within some =
      let long : length source ≡ k * size = omega (arith, simp length-drop at (sym (ap length is) ∙ none)) in
      (long, rw long (mul-div_cancel k some))

-- ---- a line further

-- a line further is within what all lines take
pub room_for_next : (k count size at all : ℕ) → k < count → count * size ≤ all → at ≡ k * size → at + size ≤ all
room_for_next k count size at all below enough is_at =
    let next : (k + 1) * size ≤ count * size = mul-le-mul_right size (omega arith) in
    omega (arith, next_place k at size size is_at refl)

module _ (from k at size : ℕ) (source line : List ℕ) (is_at : at ≡ k * line_size_in from) (sized : size ≡ line_size_in from) (here : line ≡ take size (drop at source)) where
  pub the_piece : line ≡ piece from source k
  the_piece = here ∙ rw (is_at, sized)

  -- a line that is right is whole
  pub line_whole : line_stands from line ≡ true → length line ≡ size
  line_whole right = line_long from line (stands_accepted from line right) ∙ sym sized

  pub line_within : line_stands from line ≡ true → at + size ≤ length source
  line_within right =
      let long : length (take size (drop at source)) ≡ size = rw (← here) (line_whole right) in
      omega (arith, simp (length-take, length-drop) at long)

  -- the check of a line decides
  module _ (to : ℕ) (before : AllMove from to source k) where
    pub wrong_there : at < length source → line_stands from line ≡ false → move_lines from to 0 (lines source) ≡ refused (NoStoredRow k)
    wrong_there some wrong =
        refused_at from to source k before
        (not_stored from to k (drop (k * line_size_in from) source) (simp length-drop (omega arith)) (ap (line_stands from) (sym the_piece) ∙ wrong))

    pub long_there : line_stands from line ≡ true → to < told line → move_lines from to 0 (lines source) ≡ refused (NameTooLong k)
    long_there right long =
        refused_at from to source k before
        (too_long from to k (drop (k * line_size_in from) source) (ap (line_stands from) (sym the_piece) ∙ right) (rw the_piece at long))

    pub right_there : line_stands from line ≡ true → told line ≤ to → AllMove from to source (k + 1)
    right_there right fits =
        below_more (λ j. line_moves from to (piece from source j) ≡ true) k before (ap (line_moves from to) (sym the_piece) ∙ stands_moves from to line right fits)

-- a line laid behind those before it
pub pieces_turn : (from to k at : ℕ) (source line before target : List ℕ) → AllMove from to source k → at ≡ k * line_size_in to → line ≡ piece from source k → target ≡ laid before 0 (moved_pieces from to source k) → laid target at (moved_line from to line) ≡ laid before 0 (moved_pieces from to source (k + 1))
unfolding moved_pieces
pieces_turn from to k at source line before target right is_at is so_far =
    rw (so_far, is, add-one k)
    (laid_then before 0 at (moved_pieces from to source k) (moved_line from to (piece from source k)) (omega (arith, moved_pieces_long from to source k right)) (omega arith))
