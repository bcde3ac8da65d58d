-- Request eight's rules, computed, each from both sides: lines moved both ways, each refusal at its line, their order, and the target at its limits.
-- Assumes nothing.
use Rattle.std.specs.Prelude.{Bool, ◌&&◌, List, [], ◌∷◌, ◌++◌, ℕ, zero, suc, ◌+◌, ◌-◌, ◌^◌, T, eqb, length, take, drop, set, replicate}
use Rattle.rules.specs.declared.Answer.{Answer}
use Rattle.rules.specs.Common.{ascii, all, same}
use Rattle.rules.specs.ThePartOfTheCrateWeTake.{zero_length}
use Rattle.rules.specs.NumbersHandedBack.{done}
use Rattle.rules.specs.SettingsAndUnitTable.{name_room, old_room, kind_at_in, zeros_at_in, coefficient_size, power_size, low_bytes, stored}
use Rattle.rules.specs.CardAAndItsReadings.{row_of, same_length, same_answer}
use Rattle.stored.specs.Lines.{digits_size_in}
use Rattle.moves.specs.NamesLongerThanSixteenBytes.{newline, lines, line_stands, to_new_answer, new_target, to_old_answer, old_target}
use Rattle.moves.specs.Computing.{computing_moves}

-- ---- rows and lines of either form

-- all of a row behind its name: kind, and what coefficient and power come to in two's complement
unfoldable pub fields : ℕ → ℕ → ℕ → List ℕ
fields kind coefficient power = kind ∷ low_bytes coefficient_size coefficient ++ low_bytes power_size power ++ replicate 4 0

unfoldable pub row_for : ℕ → List ℕ → List ℕ → List ℕ
row_for room n behind = length n ∷ n ++ replicate (room - length n) 0 ++ behind

unfoldable pub line_for : ℕ → List ℕ → List ℕ → List ℕ
line_for room n behind = stored (row_for room n behind)

-- a name of so many bytes, and one of so many letters of two bytes each
unfoldable pub letters : ℕ → List ℕ
letters n = replicate n 97

unfoldable pub wide_letters : ℕ → List ℕ
wide_letters zero = []
wide_letters (suc n) = 206 ∷ 188 ∷ wide_letters n

-- right lines: `jaw`, and 16 bytes of name with a kind that no table accepts, and with any coefficient and power
unfoldable pub jaw_in : ℕ → List ℕ
jaw_in room = line_for room (ascii "jaw") (fields 2 40 0)

unfoldable pub odd_in : ℕ → List ℕ
odd_in room = line_for room (wide_letters 8) (fields 255 (2 ^ 64 - 2) 43981)

-- the rows of a table, and the text that is stored
pub so_they_stand :
    T (same (row_for name_room (ascii "jaw") (fields 2 40 0)) (row_of "jaw" 2 40 0))
    × T (same (jaw_in old_room) (ascii "036a617700000000000000000000000000022800000000000000000000000000" ++ newline ∷ []))
    × T (same (jaw_in name_room) (ascii "036a61770000000000000000000000000000000000000000000000000000000000022800000000000000000000000000" ++ newline ∷ []))
unfolding computing_moves row_of fields row_for line_for jaw_in
so_they_stand = (tt, tt, tt)

-- ---- lines: a newline ends each, and bytes behind the last newline are one

pub lines_so :
    T (eqb (length (lines [])) 0 && eqb (length (lines (newline ∷ []))) 1 && eqb (length (lines (newline ∷ newline ∷ []))) 2)
    × T (eqb (length (lines (jaw_in old_room))) 1 && eqb (length (lines (jaw_in old_room ++ 48 ∷ []))) 2 && eqb (length (lines (jaw_in old_room ++ odd_in name_room))) 2)
unfolding computing_moves fields row_for line_for wide_letters jaw_in odd_in
lines_so = (tt, tt)

-- ---- what a move comes to: its answer, and each byte that the target then holds

unfoldable pub to_new : List ℕ → List ℕ → Answer → List ℕ → Bool
to_new source target a then = same_answer (to_new_answer source target) a && same (new_target source target) then

unfoldable pub to_old : List ℕ → List ℕ → Answer → List ℕ → Bool
to_old source target a then = same_answer (to_old_answer source target) a && same (old_target source target) then

unfoldable pub written : ℕ → Answer
written place = done place zero_length

unfoldable pub refuses : ℕ → ℕ → Answer
refuses n p = record { number = n; position = p; length = zero_length }

-- a target of so many bytes
unfoldable pub lent : ℕ → List ℕ
lent n = replicate n 7

-- kind, coefficient and power as they are; the bytes behind those written as they were
pub moved_so :
    T (to_new (jaw_in old_room) (lent 100) (written 97) (jaw_in name_room ++ lent 3))
    × T (to_old (jaw_in name_room) (lent 100) (written 65) (jaw_in old_room ++ lent 35))
    × T (to_new (jaw_in old_room ++ odd_in old_room ++ jaw_in old_room) (lent 300) (written 291) (jaw_in name_room ++ odd_in name_room ++ jaw_in name_room ++ lent 9))
    × T (to_old (odd_in name_room ++ jaw_in name_room) (lent 131) (written 130) (odd_in old_room ++ jaw_in old_room ++ lent 1))
    × T (to_new (line_for old_room (letters 1) (fields 0 0 0)) (lent 97) (written 97) (line_for name_room (letters 1) (fields 0 0 0)))
    × T (to_new (line_for old_room (0 ∷ 0 ∷ []) (fields 0 0 0)) (lent 97) (written 97) (line_for name_room (0 ∷ 0 ∷ []) (fields 0 0 0)))
    -- nothing to move
    × T (to_new [] [] (written 0) [] && to_new [] (lent 5) (written 0) (lent 5) && to_old [] [] (written 0) [] && to_old [] (lent 5) (written 0) (lent 5))
unfolding computing_moves same_length same_answer fields row_for line_for letters wide_letters jaw_in odd_in to_new to_old written lent
moved_so = (tt, tt, tt, tt, tt, tt, tt)

-- ---- 24: at the line that is wrong, and the target as it was

unfoldable pub new_refused : ℕ → ℕ → List ℕ → Bool
new_refused n i source = to_new source (lent 300) (refuses n i) (lent 300)

unfoldable pub old_refused : ℕ → ℕ → List ℕ → Bool
old_refused n i source = to_old source (lent 300) (refuses n i) (lent 300)

-- wrong length or bytes: a digit short or over, a capital digit, a byte that is no digit, no newline at the end, a newline among the digits, no digits
-- at all, the digits of a byte in front of the newline
unfoldable pub wrong_texts : ℕ → List (List ℕ)
wrong_texts room =
    drop 1 (jaw_in room)
    ∷ (48 ∷ jaw_in room)
    ∷ set (jaw_in room) 3 65
    ∷ set (jaw_in room) (digits_size_in room - 1) 103
    ∷ take (digits_size_in room) (jaw_in room)
    ∷ set (jaw_in room) (digits_size_in room) 48
    ∷ set (jaw_in room) 10 newline
    ∷ (newline ∷ [])
    ∷ (take (digits_size_in room) (jaw_in room) ++ 13 ∷ newline ∷ [])
    ∷ []

-- the line of a row of that name, one byte of which is another
unfoldable pub with_byte_at : ℕ → List ℕ → ℕ → ℕ → List ℕ
with_byte_at room n at b = stored (set (row_for room n (fields 2 40 0)) at b)

-- wrong name length: 0, and one more than the room; and bytes after the name and at the row's end that are not zero
unfoldable pub wrong_rows : ℕ → List (List ℕ)
wrong_rows room =
    line_for room [] (fields 2 40 0)
    ∷ with_byte_at room (letters room) 0 (room + 1)
    ∷ with_byte_at room (letters room) 0 255
    ∷ with_byte_at room (ascii "jaw") 0 2
    ∷ with_byte_at room (ascii "jaw") 4 1
    ∷ with_byte_at room (ascii "jaw") (kind_at_in room - 1) 128
    ∷ with_byte_at room (ascii "jaw") (zeros_at_in room) 1
    ∷ with_byte_at room (ascii "jaw") (zeros_at_in room + 1) 1
    ∷ with_byte_at room (ascii "jaw") (zeros_at_in room + 2) 1
    ∷ with_byte_at room (ascii "jaw") (zeros_at_in room + 3) 16
    ∷ []

-- each of them alone, in front of a right line, behind one, and between two
unfoldable pub wrong_anywhere : (ℕ → ℕ → List ℕ → Bool) → List ℕ → List ℕ → Bool
wrong_anywhere refused right wrong = refused 24 0 wrong && refused 24 0 (wrong ++ right) && refused 24 1 (right ++ wrong) && refused 24 1 (right ++ wrong ++ right)

pub no_stored_row :
    T (all (wrong_anywhere new_refused (odd_in old_room)) (wrong_texts old_room ++ wrong_rows old_room))
    × T (all (wrong_anywhere old_refused (odd_in name_room)) (wrong_texts name_room ++ wrong_rows name_room))
    -- a line of the other form, and a line that is right but for its last byte behind two that are right
    × T (new_refused 24 0 (jaw_in name_room) && old_refused 24 0 (jaw_in old_room) && new_refused 24 2 (jaw_in old_room ++ jaw_in old_room ++ 48 ∷ []))
unfolding computing_moves same_length same_answer fields row_for line_for letters wide_letters jaw_in odd_in to_new to_old refuses lent new_refused old_refused wrong_texts with_byte_at wrong_rows wrong_anywhere
no_stored_row = (tt, tt, tt)

-- ---- 25: a right line whose name has more than 16 bytes, and the first bad line first

unfoldable pub long_in : List ℕ → List ℕ
long_in n = line_for name_room n (fields 3 1 0)

pub name_too_long :
    T (line_stands name_room (long_in (letters 17)) && line_stands name_room (long_in (letters 32)) && line_stands name_room (long_in (wide_letters 16)))
    × T (line_stands old_room (line_for old_room (letters 16) (fields 3 1 0)) && to_old (long_in (letters 16)) (lent 65) (written 65) (line_for old_room (letters 16) (fields 3 1 0)))
    × T (old_refused 25 0 (long_in (letters 17)) && old_refused 25 0 (long_in (letters 32)) && old_refused 25 0 (long_in (wide_letters 16)))
    × T (old_refused 25 2 (jaw_in name_room ++ odd_in name_room ++ long_in (letters 17) ++ jaw_in name_room))
    -- an earlier 24 before it, a later one behind it, and that of the same line before it
    × T (old_refused 24 0 (set (jaw_in name_room) 3 65 ++ long_in (letters 17)) && old_refused 25 0 (long_in (letters 17) ++ drop 1 (jaw_in name_room)))
    × T (old_refused 25 1 (jaw_in name_room ++ long_in (letters 17) ++ 48 ∷ []) && old_refused 24 1 (jaw_in name_room ++ with_byte_at name_room (letters 17) (zeros_at_in name_room) 1))
unfolding computing_moves same_length same_answer fields row_for line_for letters wide_letters jaw_in odd_in to_old written refuses lent old_refused with_byte_at long_in
name_too_long = (tt, tt, tt, tt, tt, tt)

-- ---- 9: last of all, a target that is a byte too short for all lines, which keeps each of its bytes

pub no_room :
    T (to_new (jaw_in old_room) (lent 96) (refuses 9 0) (lent 96) && to_new (jaw_in old_room) (lent 97) (written 97) (jaw_in name_room) && to_new (jaw_in old_room) [] (refuses 9 0) [])
    × T (to_new (jaw_in old_room ++ odd_in old_room) (lent 193) (refuses 9 0) (lent 193) && to_new (jaw_in old_room ++ odd_in old_room) (lent 194) (written 194) (jaw_in name_room ++ odd_in name_room))
    × T (to_old (jaw_in name_room) (lent 64) (refuses 9 0) (lent 64) && to_old (jaw_in name_room) (lent 65) (written 65) (jaw_in old_room) && to_old (jaw_in name_room) [] (refuses 9 0) [])
    × T (to_old (jaw_in name_room ++ odd_in name_room) (lent 129) (refuses 9 0) (lent 129) && to_old (jaw_in name_room ++ odd_in name_room) (lent 130) (written 130) (jaw_in old_room ++ odd_in old_room))
    -- a wrong line, and a name that is too long, before it
    × T (to_new (jaw_in old_room ++ 48 ∷ []) [] (refuses 24 1) [] && to_old (jaw_in name_room ++ 48 ∷ []) (lent 64) (refuses 24 1) (lent 64))
    × T (to_old (jaw_in name_room ++ long_in (letters 17)) [] (refuses 25 1) [] && to_old (long_in (letters 17)) (lent 64) (refuses 25 0) (lent 64))
unfolding computing_moves same_length same_answer fields row_for line_for letters wide_letters jaw_in odd_in to_new to_old written refuses lent long_in
no_room = (tt, tt, tt, tt, tt, tt)
