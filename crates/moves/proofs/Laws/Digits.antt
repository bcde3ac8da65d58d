-- Laws of a line by its digits: the name's length is told by the first two, zeros by the digits `0`, and a moved line is made of parts of the line.
-- Assumes nothing.
use Rattle.std.specs.Prelude.{◌≡◌, refl, true, false, ◌&&◌, eqb, ltb, length, get_or}
use Rattle.std.proofs.Common.{sym, ◌∙◌, arith, length-append, ltb-false, eq-eqb, eqb-true}
use Rattle.std.proofs.Math.Path.{ap}
use mathlib.Core.List.{List, [], ◌∷◌, ◌++◌, append_assoc}
use Prim.Native.Nat.{ℕ, zero, suc, ◌+◌, ◌*◌, ◌-◌, ◌/◌, ◌%◌, ◌≤◌, ◌<◌}
use Rattle.std.proofs.Math.ListN.{take, drop, replicate, length-take, length-drop}
use Rattle.std.proofs.lemmas.List.{length-replicate, take-append-le, drop-append-le}
use Rattle.std.proofs.Math.Seq.{take-nil, drop-nil, take_all, get_or-take}
use Rattle.rules.specs.Common.{when◌then◌else◌, between, all}
use Rattle.rules.specs.SettingsAndUnitTable.{kind_at_in, zeros_at_in, row_size_in, name_size, name, after_name_in, hexadecimal, two_digits, stored}
use Rattle.rules.proofs.Laws.Choices.{if_either, and_left, and_right, and_both}
use Rattle.rules.proofs.Laws.Tests.{and_assoc, same_test, eqb_iff, between_to}
use Rattle.stored.specs.Lines.{digits_size_in, line_size_in, digit_value, paired, line_accepted_in, restored_in}
use Rattle.stored.specs.Laws.{two_digits_append, length_two_digits, line_long, stored_restored, length_restored}
use Rattle.moves.specs.NamesLongerThanSixteenBytes.{newline, row_stands, line_stands, moved_row}
use Rattle.moves.specs.Laws.Digits.{zero_digit, told}

-- ---- parts of a row, and the digits of zeros

two_digits_take : (k : ℕ) (l : List ℕ) → two_digits (take k l) ≡ take (2 * k) (two_digits l)
unfolding two_digits
two_digits_take zero l = refl
two_digits_take (suc k) [] = sym (take-nil (2 * suc k))
two_digits_take (suc k) (b ∷ l) = let twice : 2 * suc k ≡ suc (suc (2 * k)) = omega arith in rw (twice, two_digits_take k l)

two_digits_drop : (k : ℕ) (l : List ℕ) → two_digits (drop k l) ≡ drop (2 * k) (two_digits l)
unfolding two_digits
two_digits_drop zero l = refl
two_digits_drop (suc k) [] = sym (drop-nil (2 * suc k))
two_digits_drop (suc k) (b ∷ l) = let twice : 2 * suc k ≡ suc (suc (2 * k)) = omega arith in rw (twice, two_digits_drop k l)

two_digits_zeros : (k : ℕ) → two_digits (replicate k 0) ≡ replicate (2 * k) zero_digit
unfolding two_digits hexadecimal when◌then◌else◌
two_digits_zeros zero = refl
two_digits_zeros (suc k) = let twice : 2 * suc k ≡ suc (suc (2 * k)) = omega arith in rw (twice, two_digits_zeros k)

zero_told : (d : ℕ) → eqb 0 d ≡ eqb zero_digit (hexadecimal d)
unfolding hexadecimal
zero_told d =
    if_either (λ digit. eqb 0 d ≡ eqb zero_digit digit) (ltb d 10)
    (λ low. eqb_iff 0 d 48 (48 + d) (λ e. omega arith) (λ e. omega arith))
    (λ high. let above : 10 ≤ d = ltb-false d 10 high in eqb_iff 0 d 48 (87 + d) (λ e. omega arith) (λ e. omega arith))

zero_byte_told : (b : ℕ) → eqb 0 b ≡ (eqb 0 (b / 16) && eqb 0 (b % 16))
zero_byte_told b =
    same_test (eqb 0 b) (eqb 0 (b / 16) && eqb 0 (b % 16))
    (λ e. let none : 0 ≡ b = eqb-true 0 b e in and_both (eq-eqb 0 (b / 16) (omega arith)) (eq-eqb 0 (b % 16) (omega arith)))
    (λ e.
    let high : 0 ≡ b / 16 = eqb-true 0 (b / 16) (and_left (eqb 0 (b / 16)) (eqb 0 (b % 16)) e) in
    let low : 0 ≡ b % 16 = eqb-true 0 (b % 16) (and_right (eqb 0 (b / 16)) (eqb 0 (b % 16)) e) in
    eq-eqb 0 b (omega arith))

zeros_told : (l : List ℕ) → all (eqb 0) l ≡ all (eqb zero_digit) (two_digits l)
unfolding all two_digits
zeros_told [] = refl
zeros_told (b ∷ l) = rw (zero_byte_told b, zero_told (b / 16), zero_told (b % 16), and_assoc, zeros_told l)

-- ---- the name's length

told_first : (digits : List ℕ) → 1 < length digits → get_or (paired digits) 0 0 ≡ told digits
unfolding paired
told_first [] h = absurd (omega arith)
told_first (a ∷ []) h = absurd (omega arith)
told_first (a ∷ b ∷ digits) h = refl

-- ---- a line that is accepted

-- the name's length and the name stand first in a row
pub headed : (r : List ℕ) → 0 < length r → name_size r ∷ name r ≡ take (1 + name_size r) r
unfolding name_size name
headed [] h = absurd (omega arith)
headed (n ∷ r) h = let one : 1 + n ≡ suc n = omega arith in rw one

module _ (room : ℕ) (line : List ℕ) (good : line_accepted_in room line ≡ true) where
  pub size_told : name_size (restored_in room line) ≡ told line
  unfolding name_size restored_in
  size_told =
      told_first (take (digits_size_in room) line) (simp length-take (omega (arith, line_long room line good)))
      ∙ rw (get_or-take (digits_size_in room) line 0 0 (omega arith), get_or-take (digits_size_in room) line 1 0 (omega arith))

  row_and_newline : two_digits (restored_in room line) ++ newline ∷ [] ≡ line
  unfolding stored
  row_and_newline = stored_restored room line good

  digits_long : length (two_digits (restored_in room line)) ≡ digits_size_in room
  digits_long = length_two_digits (restored_in room line) ∙ ap (λ n. 2 * n) (length_restored room line good)

  -- the digits of a part of the row
  part_digits : (from count : ℕ) → from + count ≤ row_size_in room → two_digits (take count (drop from (restored_in room line))) ≡ take (2 * count) (drop (2 * from) line)
  part_digits from count within =
      let digits : List ℕ = two_digits (restored_in room line) in
      let enough : 2 * count ≤ length (drop (2 * from) digits) = simp length-drop (omega (arith, digits_long)) in
      two_digits_take count (drop from (restored_in room line))
      ∙ ap (take (2 * count)) (two_digits_drop from (restored_in room line))
      ∙ sym (take-append-le (2 * count) (drop (2 * from) digits) (newline ∷ []) enough)
      ∙ ap (take (2 * count)) (sym (drop-append-le (2 * from) digits (newline ∷ []) (omega (arith, digits_long))) ∙ ap (drop (2 * from)) row_and_newline)

  -- those from a place on, and the newline
  rest_digits : (from : ℕ) → from ≤ row_size_in room → two_digits (drop from (restored_in room line)) ++ newline ∷ [] ≡ drop (2 * from) line
  rest_digits from within =
      ap (λ l. l ++ newline ∷ []) (two_digits_drop from (restored_in room line))
      ∙ sym (drop-append-le (2 * from) (two_digits (restored_in room line)) (newline ∷ []) (omega (arith, digits_long)))
      ∙ ap (drop (2 * from)) row_and_newline

  -- a name length that the form has no room for
  pub stands_nowhere : between 1 room (told line) ≡ false → line_stands room line ≡ false
  unfolding line_stands row_stands
  stands_nowhere outside = rw (good, size_told, outside)

  -- else the zeros decide
  pub stands_by_zeros : between 1 room (told line) ≡ true → line_stands room line ≡ (all (eqb zero_digit) (take (2 * (room - told line)) (drop (2 * (1 + told line)) line)) && all (eqb zero_digit) (take 8 (drop (2 * zeros_at_in room) line)))
  unfolding line_stands row_stands after_name_in
  stands_by_zeros inside =
      let r : List ℕ = restored_in room line in
      let small : told line ≤ room = between_to 1 room (told line) inside in
      let last : take 4 (drop (zeros_at_in room) r) ≡ drop (zeros_at_in room) r = take_all 4 (drop (zeros_at_in room) r) (simp length-drop (omega (arith, length_restored room line good))) in
      rw (
        good,
        size_told,
        inside,
        ← last,
        zeros_told (take (room - told line) (drop (1 + told line) r)),
        part_digits (1 + told line) (room - told line) (omega arith),
        zeros_told (take 4 (drop (zeros_at_in room) r)),
        part_digits (zeros_at_in room) 4 (omega arith),
      )

  -- moved: the digits of its length and name, those of zeros, and the line from the kind on
  pub moved_digits : (to : ℕ) → told line ≤ room → stored (moved_row room to (restored_in room line)) ≡ take (2 * (1 + told line)) line ++ replicate (2 * (to - told line)) zero_digit ++ drop (2 * kind_at_in room) line
  unfolding stored moved_row
  moved_digits to small =
      let r : List ℕ = restored_in room line in
      let head : name_size r ∷ name r ≡ take (1 + told line) r = headed r (omega (arith, length_restored room line good)) ∙ ap (λ n. take (1 + n) r) size_told in
      let zeros : List ℕ = replicate (to - told line) 0 in
      let fields : List ℕ = drop (kind_at_in room) r in
      ap (λ n. two_digits (name_size r ∷ name r ++ replicate (to - n) 0 ++ fields) ++ newline ∷ []) size_told
      ∙ ap (λ l. two_digits (l ++ zeros ++ fields) ++ newline ∷ []) head
      ∙ rw (
        two_digits_append (take (1 + told line) r ++ zeros) fields,
        two_digits_append (take (1 + told line) r) zeros,
        append_assoc (two_digits (take (1 + told line) r) ++ two_digits zeros) (two_digits fields) (newline ∷ []),
        rest_digits (kind_at_in room) (omega arith),
        part_digits 0 (1 + told line) (omega arith),
        two_digits_zeros (to - told line),
      )

  -- and as long as a line of its form
  pub moved_long : (to : ℕ) → told line ≤ room → told line ≤ to → length (stored (moved_row room to (restored_in room line))) ≡ line_size_in to
  moved_long to small fits =
      ap length (moved_digits to small)
      ∙ simp (length-append, length-take, length-drop, length-replicate) (omega (arith, line_long room line good))
