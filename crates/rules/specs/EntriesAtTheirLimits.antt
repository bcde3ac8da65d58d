-- The entries at their limits, computed: exactly full and one over, each refusal, and which of two comes first. Each line is one that a wrong
-- definition would miss. Assumes nothing.
use Rattle.std.specs.Prelude.{Bool, true, ◌&&◌, List, ◌++◌, ℕ, ◌+◌, ◌*◌, ◌-◌, ◌/◌, ◌^◌, T, length, replicate}
use Prim.Native.String.{String}
use Rattle.rules.specs.declared.Answer.{Answer}
use Rattle.rules.specs.declared.ByteSet.{ByteSet}
use Rattle.rules.specs.declared.Conjunction.{Conjunction}
use Rattle.rules.specs.declared.Length.{Length}
use Rattle.rules.specs.declared.Settings.{Settings}
use Rattle.rules.specs.Common.{ascii, same}
use Rattle.rules.specs.ThePartOfTheCrateWeTake.{zero_length, largest}
use Rattle.rules.specs.NumbersHandedBack.{done}
use Rattle.rules.specs.SettingsAndUnitTable.{stored}
use Rattle.rules.specs.WhatEveryEntryOwes.{part_answer, total_answer, write_answer, written_buffer, shift_answer, shifted_record}
use Rattle.rules.specs.Computing.{computing}
use Rattle.rules.specs.CardAAndItsReadings.{space, conjunction, settings, settings_A, row_of, table_A, unspoken, card_A, same_length, same_answer, reads, plus, minus, fails, holds_under}

unfoldable pub refusal_of : ℕ → ℕ → Answer
refusal_of number position = record { number = number; position = position; length = zero_length }

-- ---- the card: 65, 66, 67, 64, rows upward

-- card A with another inner set, conjunction and default kind
unfoldable pub limited : ByteSet → Conjunction → ℕ → Settings
limited inner first default = record {
  negatives = settings_A.negatives;
  fractions = settings_A.fractions;
  exponents = settings_A.exponents;
  infinity = settings_A.infinity;
  ago = settings_A.ago;
  after_sign = settings_A.after_sign;
  before_unit = settings_A.before_unit;
  inner = inner;
  outer = settings_A.outer;
  conjunctions = settings_A.conjunctions;
  first = first;
  second = settings_A.second;
  third = settings_A.third;
  fourth = settings_A.fourth;
  default_kind = default;
}

-- the set that holds the point alone
unfoldable pub point : ByteSet
point = record { word0 = 2 ^ 46; word1 = 0; word2 = 0; word3 = 0 }

-- tables of so many bytes, all of them 0: their first row is bad
unfoldable pub blank : ℕ → List ℕ
blank size = replicate size 0

pub cards_in_order :
    T (holds_under (unspoken (limited point (conjunction "andandand") 8) (blank 47)) (fails "1s" 7 65))
    × T (holds_under (unspoken (limited space (conjunction "andandand") 8) (blank 47)) (fails "1s" 7 66))
    × T (holds_under (unspoken (limited space (conjunction "and") 8) (blank 47)) (fails "1s" 7 67))
    × T (holds_under (unspoken (limited space (conjunction "and") 7) (blank 47)) (fails "1s" 7 64))
    × T (holds_under (unspoken settings_A (blank (65 * 48))) (fails "1s" 7 64))
    × T (holds_under (unspoken settings_A (blank (64 * 48))) (fails "1s" 7 0))
    × T (holds_under (unspoken (limited space (conjunction "andandan") 7) table_A) (reads "1s andandan 2s" (plus 3 0)))
unfolding computing space conjunction settings settings_A row_of table_A unspoken card_A same_length same_answer reads plus fails holds_under limited point blank
cards_in_order = (tt, tt, tt, tt, tt, tt, tt)

-- of two equal names the later is the bad one; kind times row is held to its range, from both sides; a name is found whole
pub rows_in_order :
    T (holds_under (unspoken settings_A (row_of "s" 3 1 0 ++ row_of "ms" 2 1 0 ++ row_of "s" 3 2 0)) (fails "1s" 7 2))
    × T (holds_under (unspoken settings_A (row_of "s" 3 (2 ^ 63) 0)) (fails "1s" 7 0))
    × T (holds_under (unspoken settings_A (row_of "s" 3 (2 ^ 63 + 1) 0)) (reads "1s" (minus (2 ^ 63 - 1) 0)))
    × T (holds_under (unspoken settings_A (row_of "h" 5 (2 ^ 63 / 3600 + 1) 0)) (fails "1h" 7 0))
    × T (holds_under (unspoken settings_A (row_of "h" 5 (2 ^ 63 / 3600) 0)) (reads "1h" (plus (2 ^ 63 / 3600 * 3600) 0)))
    × T (holds_under card_A (fails "1m" 6 1))
unfolding computing space conjunction settings settings_A row_of table_A unspoken card_A same_length same_answer reads plus minus fails holds_under
rows_in_order = (tt, tt, tt, tt, tt, tt)

-- a row as a stored line
pub a_stored_row : T (same (stored (row_of "min" 4 (2 ^ 64 - 10) 11)) (ascii "036d696e000000000000000000000000000000000000000000000000000000000004f6ffffffffffffff0b0000000000\n"))
unfolding computing row_of
a_stored_row = tt

-- ---- one part from a place: 8, 10, then left to right; the text's end is no place beyond it

unfoldable pub part_gives : List ℕ → ℕ → Answer → Bool
part_gives text place answer = same_answer (part_answer card_A text place) answer

-- so many bytes that begin no number
unfoldable pub wordy : ℕ → List ℕ
wordy size = replicate size 120

pub parts_at_their_limits :
    T (part_gives (ascii "1s 2s") 0 (done 3 (plus 1 0)))
    × T (part_gives (ascii "1s 2s") 3 (done 5 (plus 2 0)))
    × T (part_gives (ascii "1s 2s") 5 (refusal_of 1 5))
    × T (part_gives (ascii "1s 2s") 6 (refusal_of 10 6))
    × T (part_gives (wordy 4096) 4095 (refusal_of 6 4095))
    × T (part_gives (wordy 4097) 4098 (refusal_of 8 4096))
unfolding computing space conjunction settings settings_A row_of table_A unspoken card_A same_length same_answer plus refusal_of part_gives wordy
parts_at_their_limits = (tt, tt, tt, tt, tt, tt)

-- ---- a text's total: 8

pub totals_at_their_limits :
    T (same_answer (total_answer card_A (wordy 4096)) (refusal_of 6 0))
    × T (same_answer (total_answer card_A (wordy 4097)) (refusal_of 8 4096))
unfolding computing space conjunction settings settings_A row_of table_A unspoken card_A same_length same_answer refusal_of wordy
totals_at_their_limits = (tt, tt)

-- ---- the writer: 11, 10, 9; what it writes, and no other byte

unfoldable pub writes : Length → ℕ → ℕ → String → Bool
writes l size place text =
    same_answer (write_answer l (replicate size 7) place) (done (place + length (ascii text)) l)
    && same (written_buffer l (replicate size 7) place) (replicate place 7 ++ ascii text ++ replicate (size - place - length (ascii text)) 7)

unfoldable pub writes_nothing : Length → ℕ → ℕ → ℕ → ℕ → Bool
writes_nothing l size place number position =
    same_answer (write_answer l (replicate size 7) place) (refusal_of number position)
    && same (written_buffer l (replicate size 7) place) (replicate size 7)

pub writes_at_their_limits :
    T (writes (plus 0 500000000) 6 1 "+0.5" && writes (plus 0 500000000) 5 1 "+0.5")
    × T (writes_nothing (plus 0 500000000) 4 1 9 1 && writes_nothing (plus 0 500000000) 5 5 9 5)
    × T (writes_nothing (plus 0 500000000) 5 6 10 6)
    × T (writes_nothing (minus 0 0) 5 6 11 0 && writes_nothing (plus 0 1000000000) 5 0 11 0)
    × T (writes (plus 0 0) 2 0 "+0" && writes (minus 10 0) 3 0 "-10" && writes (minus 1 1) 12 0 "-1.000000001")
    × T (writes (largest true) 31 0 "-18446744073709551615.999999999")
unfolding computing same_length same_answer plus minus refusal_of writes writes_nothing
writes_at_their_limits = (tt, tt, tt, tt, tt, tt)

-- ---- the shift total: 7, 11, 8, then left to right; on a refusal it stays as it was

unfoldable pub shifts : Length → List ℕ → List ℕ → Answer → Length → Bool
shifts total table text answer after =
    same_answer (shift_answer total (unspoken settings_A table) text) answer && same_length (shifted_record total (unspoken settings_A table) text) after

pub shifts_at_their_limits :
    T (shifts (plus 1 0) table_A (ascii "2s") (done 2 (plus 3 0)) (plus 3 0))
    × T (shifts (largest true) table_A (ascii "-2s") (done 3 (largest true)) (largest true))
    × T (shifts (minus 0 0) (blank 47) (wordy 4097) (refusal_of 7 64) (minus 0 0))
    × T (shifts (minus 0 0) table_A (wordy 4097) (refusal_of 11 0) (minus 0 0))
    × T (shifts (plus 1 0) table_A (wordy 4097) (refusal_of 8 4096) (plus 1 0))
    × T (shifts (plus 1 0) table_A (ascii "2s and") (refusal_of 19 3) (plus 1 0))
unfolding computing space conjunction settings settings_A row_of table_A unspoken card_A same_length same_answer plus minus refusal_of blank wordy shifts
shifts_at_their_limits = (tt, tt, tt, tt, tt, tt)
