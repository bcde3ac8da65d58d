-- Request four, "Spoken numbers": its cards and readings, computed, each rule from both sides. Assumes nothing.
use Rattle.std.specs.Prelude.{Bool, true, false, ◌&&◌, List, [], ◌∷◌, ◌++◌, ℕ, zero, suc, ◌+◌, ◌-◌, ◌^◌, T, ltb, drop, replicate}
use Prim.Native.String.{String}
use Rattle.rules.specs.declared.ByteSet.{ByteSet}
use Rattle.rules.specs.declared.Settings.{Settings}
use Rattle.rules.specs.Common.{when◌then◌else◌, ascii, all}
use Rattle.rules.specs.ThePartOfTheCrateWeTake.{largest}
use Rattle.rules.specs.NumbersHandedBack.{done}
use Rattle.rules.specs.SettingsAndUnitTable.{Card}
use Rattle.rules.specs.WhatEveryEntryOwes.{part_answer, shift_answer, shifted_record}
use Rattle.rules.specs.Computing.{computing}
use Rattle.rules.specs.CardAAndItsReadings.{space, conjunction, settings, settings_A, row_of, table_A, same_length, same_answer, Case, reads, plus, minus, fails, holds_under}

-- a numeral: name, and what coefficient and power come to in two's complement
unfoldable pub numeral : String → ℕ → ℕ → List ℕ
numeral name coefficient power = row_of name 3 coefficient power

-- card A with numerals
unfoldable pub speaking : List ℕ → Card
speaking numerals = record { settings = settings_A; hall = table_A; line = []; numerals = numerals }

-- ---- the numeral table, after the unit table: 100, then 68 and the row

-- so many numerals of one letter each
unfoldable pub lettered : ℕ → List ℕ
lettered zero = []
lettered (suc n) = 1 ∷ (when ltb n 26 then 65 + n else 71 + n) ∷ replicate 31 0 ++ 3 ∷ 1 ∷ replicate 13 0 ++ lettered n

unfoldable pub refused_with : ℕ → List ℕ → Bool
refused_with position numerals = holds_under (speaking numerals) (fails "1s" 7 position)

unfoldable pub accepted : List ℕ → Bool
accepted numerals = holds_under (speaking numerals) (reads "1s" (plus 1 0))

pub tables_in_order :
    T (accepted [] && accepted (lettered 32) && refused_with 100 (lettered 33))
    × T (refused_with 100 (replicate 47 0) && refused_with 68 (replicate 48 0) && refused_with 100 (replicate 49 0))
    × T (holds_under (record { settings = settings_A; hall = replicate 48 0; line = []; numerals = replicate 47 0 }) (fails "1s" 7 0))
    × T (refused_with 99 (lettered 31 ++ numeral "" 5 0))
unfolding computing space conjunction settings settings_A row_of table_A same_length same_answer reads plus fails holds_under numeral speaking lettered refused_with accepted
tables_in_order = (tt, tt, tt, tt)

-- 1 to 32 letters; kind 3 alone; kind times row in range; of two equal names the later is the bad one; a unit's name, a conjunction or `inf` will do
pub rows_in_order :
    T (accepted (numeral "a" 5 0) && accepted (numeral "thirtytwolettersabcdefghijklmnop" 5 0) && refused_with 68 (33 ∷ drop 1 (numeral "thirtytwolettersabcdefghijklmnop" 5 0)))
    × T (refused_with 68 (numeral "f5" 5 0) && refused_with 68 (numeral "a b" 5 0) && refused_with 68 (numeral "f-g" 5 0))
    × T (refused_with 68 (row_of "five" 2 5 0) && refused_with 68 (row_of "five" 4 5 0))
    × T (accepted (numeral "most" (2 ^ 63 - 1) 0) && accepted (numeral "least" (2 ^ 63 + 1) 0) && refused_with 68 (numeral "below" (2 ^ 63) 0))
    × T (refused_with 70 (numeral "five" 5 0 ++ numeral "six" 6 0 ++ numeral "five" 5 0) && accepted (numeral "five" 5 0 ++ numeral "Five" 5 0))
    × T (accepted (numeral "s" 5 0 ++ numeral "and" 6 0 ++ numeral "inf" 7 0))
unfolding computing space conjunction settings settings_A row_of table_A same_length same_answer reads plus fails holds_under numeral speaking refused_with accepted
rows_in_order = (tt, tt, tt, tt, tt, tt)

-- ---- readings under card A

unfoldable pub some : List ℕ
some =
    numeral "five" 5 0
    ++ numeral "half" 5 (2 ^ 16 - 1)
    ++ numeral "minus" (2 ^ 64 - 1) 0
    ++ numeral "no" 0 0
    ++ numeral "big" 1 20
    ++ numeral "inf" 7 0
    ++ numeral "s" 2 0

-- a numeral and a unit, one after another, with a sign, with `ago`, joined to what follows; worth 1 of their product
unfoldable pub spoken : List Case
spoken =
    reads "five min" (plus 300 0)
    ∷ reads "five   min" (plus 300 0)
    ∷ reads "half s" (plus 0 500000000)
    ∷ reads "-five s" (minus 5 0)
    ∷ reads "minus s" (minus 1 0)
    ∷ reads "-minus s" (plus 1 0)
    ∷ reads "five s ago" (minus 5 0)
    ∷ reads "no min" (plus 0 0)
    ∷ reads "s s" (plus 2 0)
    ∷ reads "five s and 2ms" (plus 5 2000000)
    ∷ reads "1min five s half s" (plus 65 500000000)
    ∷ reads "five s1s" (plus 6 0)
    ∷ reads "big s" (largest false)
    ∷ reads "-big s" (largest true)
    ∷ reads "inf inf" (largest false)
    ∷ []

-- no numeral, or nothing behind it: 6 at its first byte; delimiters that end the text: 18 at the first of them; no unit: 15 behind them
unfoldable pub unspoken_for : List Case
unspoken_for =
    fails "five" 6 0
    ∷ fails "fivemin" 6 0
    ∷ fails "Five min" 6 0
    ∷ fails "six min" 6 0
    ∷ fails "1s six min" 6 3
    ∷ fails "five5 min" 6 0
    ∷ fails "five " 18 4
    ∷ fails "five  " 18 4
    ∷ fails "five pouch" 15 5
    ∷ fails "five  pouch" 15 6
    ∷ fails "five 5s" 15 5
    ∷ fails "five five min" 15 5
    ∷ fails "1s five and" 15 8
    ∷ fails "five min " 18 8
    ∷ fails "five min and" 19 9
    ∷ []

pub readings_spoken : T (all (holds_under (speaking some)) spoken) × T (all (holds_under (speaking some)) unspoken_for)
unfolding computing space conjunction settings settings_A row_of table_A same_length same_answer reads plus minus fails holds_under numeral speaking some spoken unspoken_for
readings_spoken = (tt, tt)

-- ---- the stretch goes up to an inner delimiter, over outer ones; and with ago off a part begins where a lookup failed

unfoldable pub comma : ByteSet
comma = record { word0 = 2 ^ 44; word1 = 0; word2 = 0; word3 = 0 }

-- inner `,`, outer space, exponents, fractions and all other switches off; negatives as given
unfoldable pub commas : Bool → Settings
commas negatives = record {
  negatives = negatives;
  fractions = false;
  exponents = false;
  infinity = false;
  ago = false;
  after_sign = false;
  before_unit = false;
  inner = comma;
  outer = space;
  conjunctions = 0;
  first = conjunction "";
  second = conjunction "";
  third = conjunction "";
  fourth = conjunction "";
  default_kind = 3;
}

unfoldable pub with_commas : List ℕ → Card
with_commas numerals = record { settings = commas true; hall = row_of "min" 4 1 0 ++ row_of "s" 3 1 0; line = []; numerals = numerals }

pub readings_with_commas :
    T
    (all (holds_under (with_commas (numeral "five" 5 0 ++ numeral "inf" 7 0)))
    (reads "five,min" (plus 300 0)
    ∷ reads "1 five,min" (plus 301 0)
    ∷ reads "1five,min" (plus 301 0)
    ∷ reads "inf,s" (plus 7 0)
    ∷ fails "five min" 6 0
    ∷ fails "five ,min" 6 0
    ∷ fails "five," 18 4
    ∷ fails "five,," 18 4
    ∷ fails "five, min" 15 5
    ∷ []))
unfolding computing space conjunction row_of same_length same_answer reads plus fails holds_under numeral comma commas with_commas
readings_with_commas = tt

-- ---- both products are tested, from left to right, after every refusal of the steps and before 5

-- a numeral of seconds and a unit
unfoldable pub times : List ℕ → List ℕ → Bool → Card
times one unit negatives = record { settings = commas negatives; hall = unit; line = []; numerals = one }

unfoldable pub comes_to : List ℕ → List ℕ → Case → Bool
comes_to one unit case = holds_under (times one unit true) case

unfoldable pub most : ℕ
most = 2 ^ 63 - 1

pub products :
    T (comes_to (numeral "n" most 0) (row_of "u" 3 1 0) (reads "n,u" (plus most 0)) && comes_to (numeral "n" most 0) (row_of "u" 3 2 0) (fails "n,u" 16 0))
    × T (comes_to (numeral "n" most 0) (row_of "u" 4 0 0) (fails "n,u" 16 0) && comes_to (numeral "n" most 0) (row_of "u" 3 0 0) (reads "n,u" (plus 0 0)))
    × T (comes_to (numeral "n" (2 ^ 62) 0) (row_of "u" 3 (2 ^ 64 - 2) 0) (fails "n,u" 16 0) && comes_to (numeral "n" (2 ^ 62) 0) (row_of "u" 3 (2 ^ 64 - 1) 0) (reads "n,u" (minus (2 ^ 62) 0)))
    × T (comes_to (numeral "n" 1 (2 ^ 15)) (row_of "u" 2 1 3) (fails "n,u" 16 0) && comes_to (numeral "n" 1 (2 ^ 15 + 3)) (row_of "u" 2 1 0) (reads "n,u" (plus 0 0)))
    × T (comes_to (numeral "n" 1 (2 ^ 15)) (row_of "u" 3 1 (2 ^ 15)) (fails "n,u" 16 0) && comes_to (numeral "n" 1 (2 ^ 15)) (row_of "u" 3 1 (2 ^ 16 - 1)) (fails "n,u" 16 0))
    × T (comes_to (numeral "n" 1 (2 ^ 15 - 1)) (row_of "u" 3 1 1) (fails "n,u" 16 0) && comes_to (numeral "n" 1 (2 ^ 15 - 1)) (row_of "u" 3 1 0) (reads "n,u" (largest false)))
    × T (comes_to (numeral "n" 3 (2 ^ 16 - 18)) (row_of "u" 3 (10 ^ 9) 0) (reads "n,u" (plus 0 3)) && comes_to (numeral "n" 3 (2 ^ 16 - 19)) (row_of "u" 3 (10 ^ 12) 0) (reads "n,u" (plus 0 0)))
unfolding computing space conjunction row_of same_length same_answer reads plus minus fails holds_under numeral comma commas times comes_to most
products = (tt, tt, tt, tt, tt, tt, tt)

-- 16 comes after every refusal of the same part's steps, and before 5; an earlier part's 5 comes before it
pub found_when_evaluated :
    T
    (all (holds_under (times (numeral "n" most 0) (row_of "u" 3 2 0) false))
    (fails "-n,u" 16 0 ∷ fails "-n,u " 18 4 ∷ fails "1s -n,u" 6 1 ∷ fails "-1 -n,u" 5 0 ∷ fails "-n,u -1" 16 0 ∷ []))
unfolding computing space conjunction row_of same_length same_answer fails holds_under numeral comma commas times most
found_when_evaluated = tt

-- ---- a part read from a place, and a text added to the shift total, which stays as it was on a refusal

pub elsewhere :
    T (same_answer (part_answer (speaking some) (ascii "1s five min 2s") 3) (done 12 (plus 300 0)))
    × T (same_answer (part_answer (speaking some) (ascii "1s five pouch") 3) (fails "" 15 8).comes_to)
    × T (same_answer (shift_answer (plus 1 0) (speaking some) (ascii "five min")) (done 8 (plus 301 0)))
    × T (same_answer (shift_answer (plus 1 0) (speaking some) (ascii "five pouch")) (fails "" 15 5).comes_to)
    × T (same_length (shifted_record (plus 1 0) (speaking some) (ascii "five pouch")) (plus 1 0))
unfolding computing space conjunction settings settings_A row_of table_A same_length same_answer plus fails numeral speaking some
elsewhere = (tt, tt, tt, tt, tt)
