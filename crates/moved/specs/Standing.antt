-- A row that stands in a form: its length byte, its name, zeros up to the end of the name's room, and what is behind the room. Assumes nothing.
use Rattle.std.specs.Prelude.{◌≡◌, refl, true, List, ◌∷◌, ◌++◌, ℕ, zero, suc, ◌+◌, ◌-◌, ◌≤◌, eqb}
use Rattle.std.proofs.Math.Path.{sym, ap}
use Rattle.std.proofs.Common.{◌∙◌, arith, length-take, length-drop, drop-cons, take-add}
use Rattle.std.proofs.Math.ListN.{length, take, drop, replicate, take-append-drop}
use Rattle.rules.specs.Common.{all, between}
use Rattle.rules.specs.SettingsAndUnitTable.{name_at, kind_at_in, zeros_at_in, row_size_in, name_size, name, after_name_in}
use Rattle.rules.proofs.Laws.Choices.{and_left, and_right, and_both}
use Rattle.rules.proofs.Laws.Lists.{zeros_only}
use Rattle.rules.proofs.Laws.Tests.{between_to}
use Rattle.moves.specs.NamesLongerThanSixteenBytes.{row_stands, moved_row}

pub all_zeros : (n : ℕ) → all (eqb 0) (replicate n 0) ≡ true
unfolding all
all_zeros zero = refl
all_zeros (suc n) = all_zeros n

module _ (room : ℕ) (r : List ℕ) where
  pub stands_of : between 1 room (name_size r) ≡ true → all (eqb 0) (after_name_in room r) ≡ true → all (eqb 0) (drop (zeros_at_in room) r) ≡ true → row_stands room r ≡ true
  unfolding row_stands
  stands_of sized after end = and_both (and_both sized after) end

  module _ (stands : row_stands room r ≡ true) where
    pub stands_sized : between 1 room (name_size r) ≡ true
    unfolding row_stands
    stands_sized = search (and_left, and_right)

    pub stands_after : all (eqb 0) (after_name_in room r) ≡ true
    unfolding row_stands
    stands_after = search (and_left, and_right)

    pub stands_end : all (eqb 0) (drop (zeros_at_in room) r) ≡ true
    unfolding row_stands
    stands_end = search (and_left, and_right)

    pub name_within : name_size r ≤ room
    name_within = between_to 1 room (name_size r) stands_sized

    module _ (whole : length r ≡ row_size_in room) where
      pub length_name : length (name r) ≡ name_size r
      unfolding name
      length_name = simp (length-take, length-drop) (omega (arith, name_within))

      name_first : name_size r ∷ name r ≡ take (name_at + name_size r) r
      unfolding name name_size
      name_first = sym (take-add 1 (name_size r) r ∙ ap (λ l. take 1 l ++ name r) (drop-cons r 0 0 (omega arith)))

      zeros_after : replicate (room - name_size r) 0 ≡ after_name_in room r
      unfolding after_name_in
      zeros_after =
          let long : length (after_name_in room r) ≡ room - name_size r = simp (length-take, length-drop) (omega (arith, name_within)) in
          sym (zeros_only (after_name_in room r) stands_after ∙ ap (λ k. replicate k 0) long)

      -- moved to its own form it is what it was
      pub row_itself : moved_row room room r ≡ r
      unfolding moved_row after_name_in
      row_itself =
          let filled : name_at + name_size r + (room - name_size r) ≡ kind_at_in room = omega (arith, name_within) in
          let front : name_size r ∷ name r ++ replicate (room - name_size r) 0 ≡ take (kind_at_in room) r =
          ap (λ l. name_size r ∷ name r ++ l) zeros_after
          ∙ ap (λ l. l ++ after_name_in room r) name_first
          ∙ sym (take-add (name_at + name_size r) (room - name_size r) r)
          ∙ ap (λ k. take k r) filled
          in
          ap (λ l. l ++ drop (kind_at_in room) r) front ∙ take-append-drop (kind_at_in room) r
