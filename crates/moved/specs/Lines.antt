-- The lines of some bytes, appended, are those bytes; and the lines of stored rows, appended, are those stored rows. Assumes nothing.
use Rattle.std.specs.Prelude.{◌≡◌, refl, true, ℕ, ◌/◌, ◌%◌, ◌≤◌, eqb, ltb}
use Rattle.std.proofs.Common.{ap, ◌∙◌, arith, ne_eqb}
use mathlib.Core.List.{List, [], ◌∷◌, ◌++◌, map, flatten, append_assoc}
use Rattle.rules.specs.Common.{all}
use Rattle.rules.specs.SettingsAndUnitTable.{hexadecimal, two_digits, stored}
use Rattle.rules.proofs.Laws.Choices.{if_either, and_both}
use Rattle.moves.specs.NamesLongerThanSixteenBytes.{newline, with_byte, lines}
use Rattle.moves.proofs.Laws.Lines.{in_line, line_first}

-- ---- the bytes are the lines appended

appended_with : (b : ℕ) (ls : List (List ℕ)) → flatten (with_byte b ls) ≡ b ∷ flatten ls
unfolding flatten with_byte
appended_with b [] = refl
appended_with b (line ∷ more) = refl

pub lines_appended : (source : List ℕ) → flatten (lines source) ≡ source
unfolding lines flatten
lines_appended [] = refl
lines_appended (b ∷ bs) =
    if_either (λ ls. flatten ls ≡ b ∷ bs) (eqb b newline)
    (λ _. ap (λ l. b ∷ l) (lines_appended bs))
    (λ _. appended_with b (lines bs) ∙ ap (λ l. b ∷ l) (lines_appended bs))

-- ---- stored rows: no digit is a newline

digit_from : (d : ℕ) → 48 ≤ hexadecimal d
unfolding hexadecimal
digit_from d = if_either (λ x. 48 ≤ x) (ltb d 10) (λ _. omega arith) (λ _. omega arith)

digit_in_line : (d : ℕ) → in_line (hexadecimal d) ≡ true
unfolding in_line
digit_in_line d = rw (ne_eqb (hexadecimal d) newline (omega (arith, digit_from d)))

digits_in_line : (r : List ℕ) → all in_line (two_digits r) ≡ true
unfolding two_digits all
digits_in_line [] = refl
digits_in_line (b ∷ r) = and_both (digit_in_line (b / 16)) (and_both (digit_in_line (b % 16)) (digits_in_line r))

pub stored_first : (r rest : List ℕ) → lines (stored r ++ rest) ≡ stored r ∷ lines rest
unfolding stored
stored_first r rest = rw (append_assoc (two_digits r) (newline ∷ []) rest) (line_first (two_digits r) rest (digits_in_line r))

-- of whatever the rows are made
pub lines_stored : {A : Type 0} (row : A → List ℕ) (xs : List A) → lines (flatten (map (λ x. stored (row x)) xs)) ≡ map (λ x. stored (row x)) xs
unfolding lines flatten
lines_stored row [] = refl
lines_stored row (x ∷ xs) = stored_first (row x) (flatten (map (λ y. stored (row y)) xs)) ∙ ap (λ ls. stored (row x) ∷ ls) (lines_stored row xs)
