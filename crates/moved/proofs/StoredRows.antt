-- A row of bytes that moves, stored, is a line that moves, and is moved to the moved row stored. Assumes nothing.
use Rattle.std.specs.Prelude.{◌≡◌, true, List, [], ◌∷◌, ◌++◌, ℕ, zero, suc, ◌+◌, ◌-◌, ◌<◌, drop}
use Rattle.std.proofs.Common.{lit<, le-leb}
use Rattle.std.proofs.Math.ListN.{replicate}
use Rattle.std.proofs.Math.Seq.{get_or-drop}
use Rattle.rules.specs.SettingsAndUnitTable.{name_size, name, kind_at_in, stored}
use Rattle.rules.proofs.Laws.Choices.{and_both}
use Rattle.rules.specs.Laws.Lists.{Bytes}
use Rattle.words.specs.LowFirst.{bytes_part}
use Rattle.stored.specs.Lines.{restored_in}
use Rattle.stored.specs.Laws.{stored_accepted, restored_stored}
use Rattle.moves.specs.NamesLongerThanSixteenBytes.{line_stands, moved_row}
use Rattle.moved.specs.Rows.{Movable}
use Rattle.moves.specs.Laws.Moves.{line_moves, moved_line}

-- ---- bytes

bytes_append : (xs ys : List ℕ) → Bytes xs → Bytes ys → Bytes (xs ++ ys)
bytes_append [] ys p q k = q k
bytes_append (x ∷ xs) ys p q zero = p 0
bytes_append (x ∷ xs) ys p q (suc k) = bytes_append xs ys (λ i. p (suc i)) q k

bytes_zeros : (n : ℕ) → Bytes (replicate n 0)
bytes_zeros zero k = lit< tt
bytes_zeros (suc n) zero = lit< tt
bytes_zeros (suc n) (suc k) = bytes_zeros n k

bytes_first : (b : ℕ) (l : List ℕ) → b < 256 → Bytes l → Bytes (b ∷ l)
bytes_first b l h p zero = h
bytes_first b l h p (suc k) = p k

module _ (from to : ℕ) where
  pub bytes_moved : (r : List ℕ) → Bytes r → Bytes (moved_row from to r)
  unfolding moved_row name_size name
  bytes_moved r b =
      bytes_append (name_size r ∷ name r ++ replicate (to - name_size r) 0) (drop (kind_at_in from) r)
      (bytes_append (name_size r ∷ name r) (replicate (to - name_size r) 0)
      (bytes_first (name_size r) (name r) (b 0) (bytes_part r (name_size r) 1 b))
      (bytes_zeros (to - name_size r)))
      (λ k. rw get_or-drop (b (kind_at_in from + k)))

  -- ---- a row that moves, stored

  module _ (r : List ℕ) (m : Movable from to r) (b : Bytes r) where
    restored_itself : restored_in from (stored r) ≡ r
    restored_itself = restored_stored from r m.whole b

    pub stored_moves : line_moves from to (stored r) ≡ true
    unfolding line_moves line_stands
    stored_moves =
        and_both
        (and_both (stored_accepted from r m.whole b) (rw restored_itself m.stands))
        (rw restored_itself (le-leb (name_size r) to m.fits))

    pub stored_moved : moved_line from to (stored r) ≡ stored (moved_row from to r)
    unfolding moved_line
    stored_moved = rw restored_itself
