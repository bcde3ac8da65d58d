-- Merged tables, readings under two tables and under the merged one, full tables, and readings as they were, computed. Assumes nothing.
use Rattle.std.specs.Prelude.{◌≡◌, refl, Bool, false, ◌&&◌, List, [], ◌∷◌, ◌++◌, ℕ, zero, suc, ◌+◌, T, leb, length, replicate}
use Rattle.rules.specs.declared.Refusal.TheVariants.{TableSize, LineSize, TextTooLong, Beyond}
use Rattle.rules.specs.Common.{ascii, all, same}
use Rattle.rules.specs.ThePartOfTheCrateWeTake.{longest_text, largest}
use Rattle.rules.specs.NumbersHandedBack.{got, refused, ◌>>◌, unless, done, answered}
use Rattle.rules.specs.SettingsAndUnitTable.{rows, table_check, line_check, Card, card_check}
use Rattle.rules.specs.WhatEveryEntryOwes.{read_part, part_answer, shifted_record}
use Rattle.rules.specs.Evaluation.{part_reading}
use Rattle.rules.specs.Computing.{computing}
use Rattle.rules.specs.CardAAndItsReadings.{space, conjunction, settings, settings_A, row_of, table_A, same_length, same_answer, Case, reads, plus, minus, fails, holds_under}
use Rattle.rules.specs.TheLinesOwnUnitNames.{jaw, line_7, five, blank}
use Rattle.line_names.specs.TheReadingBefore as before
use Rattle.line_names.specs.TheMergedTable.{others, merged}
use Rattle.line_names.specs.ReadAlike.{of_both, of_merged}

-- ---- merged tables

-- a turn as the hall has it, and as the line has it
unfoldable pub halls_turn : List ℕ
halls_turn = row_of "turn" 2 123 0

unfoldable pub lines_turn : List ℕ
lines_turn = row_of "turn" 2 15 0

unfoldable pub second : List ℕ
second = row_of "s" 3 1 0

unfoldable pub comes_to : List ℕ → List ℕ → List ℕ → Bool
comes_to hall line table = same (merged hall line) table

-- the line's rows first; a shared name stands once, as the line's, whichever row of either it is; a row that shares only a beginning stays; a
-- tail of the hall's that is no row falls off; and what the hall has twice stays twice
pub merged_tables :
    T (comes_to (second ++ halls_turn) (jaw ++ lines_turn) (jaw ++ lines_turn ++ second))
    × T (comes_to (halls_turn ++ second) (lines_turn ++ jaw) (lines_turn ++ jaw ++ second))
    × T (comes_to (row_of "jaws" 2 1 0 ++ row_of "ja" 2 1 0) jaw (jaw ++ row_of "jaws" 2 1 0 ++ row_of "ja" 2 1 0))
    × T (comes_to (halls_turn ++ second) [] (halls_turn ++ second) && comes_to [] (jaw ++ lines_turn) (jaw ++ lines_turn) && comes_to [] [] [])
    × T (comes_to halls_turn lines_turn lines_turn && comes_to (halls_turn ++ halls_turn) lines_turn lines_turn)
    × T (comes_to (second ++ second) jaw (jaw ++ second ++ second))
    × T (comes_to (second ++ 3 ∷ 106 ∷ []) jaw (jaw ++ second) && comes_to (blank 47) jaw jaw)
unfolding computing row_of jaw others merged halls_turn lines_turn second blank comes_to
merged_tables = (tt, tt, tt, tt, tt, tt, tt)

-- ---- readings, under the two and under the merged one

unfoldable pub alike : Case → Bool
alike c = holds_under (of_both settings_A table_A line_7 five) c && holds_under (of_merged settings_A table_A line_7 five) c

pub readings_alike :
    T
    (all alike
    (reads "3jaw" (plus 0 120000000)
    ∷ reads "1turn" (plus 0 15000000)
    ∷ reads "2ms 1jaw" (plus 0 42000000)
    ∷ reads "five turn ago" (minus 0 75000000)
    ∷ reads "five min" (plus 300 0)
    ∷ fails "1pouch" 6 1
    ∷ fails "five pouch" 15 5
    ∷ []))
unfolding computing space conjunction settings settings_A row_of table_A same_length same_answer reads plus minus fails holds_under jaw line_7 five others merged alike
readings_alike = tt

-- a part from a place, and the shift total
pub elsewhere_alike :
    T (same_answer (part_answer (of_both settings_A table_A line_7 []) (ascii "1s 1turn 2s") 3) (done 9 (plus 0 15000000)))
    × T (same_answer (part_answer (of_merged settings_A table_A line_7 []) (ascii "1s 1turn 2s") 3) (done 9 (plus 0 15000000)))
    × T (same_length (shifted_record (plus 1 0) (of_both settings_A table_A line_7 []) (ascii "1turn")) (plus 1 15000000))
    × T (same_length (shifted_record (plus 1 0) (of_merged settings_A table_A line_7 []) (ascii "1turn")) (plus 1 15000000))
unfolding computing space conjunction settings settings_A row_of table_A same_length same_answer plus jaw line_7 others merged
elsewhere_alike = (tt, tt, tt, tt)

-- ---- both tables full

-- so many rows of a second times a coefficient, with names of one byte each
unfoldable pub lettered : ℕ → ℕ → ℕ → List ℕ
lettered first coefficient zero = []
lettered first coefficient (suc n) = 1 ∷ (first + n) ∷ replicate 31 0 ++ 3 ∷ coefficient ∷ replicate 13 0 ++ lettered first coefficient n

-- the line's names are the bytes from 160 on, the hall's those from 161 on: 63 are shared
unfoldable pub full : Card
full = of_both settings_A (lettered 161 2 64) (lettered 160 3 64) []

pub full_accepted : card_check full ≡ got tt
unfolding computing space conjunction settings settings_A lettered full
full_accepted = refl

-- one row more is too many, for either table; and a full one with one row behind it has so many when merged
pub one_too_many :
    (table_check settings_A (lettered 161 2 65) ≡ refused TableSize)
    × (line_check settings_A (lettered 160 3 65) ≡ refused LineSize)
    × (rows (merged (lettered 224 2 1) (lettered 160 3 64)) ≡ 65)
unfolding computing lettered others merged
one_too_many = (refl, refl, refl)

-- under an accepted card what comes behind its check is left, so that full tables are checked once for all readings
read_at_once :
    (card : Card) → card_check card ≡ got tt
    → (text : List ℕ) (place : ℕ)
    → part_answer card text place
    ≡ answered (λ r. done r.next r.length)
    (unless TextTooLong (leb (length text) longest_text) >> (unless (Beyond place) (leb place (length text)) >> part_reading card text place))
unfolding part_answer read_part ◌>>◌
read_at_once card good text place = rw good

-- the byte that only the line has; the first and the last that both have; the one that only the hall has; and one that neither has
pub full_readings :
    (part_answer full (49 ∷ 160 ∷ []) 0 ≡ done 2 (plus 3 0))
    × (part_answer full (49 ∷ 161 ∷ []) 0 ≡ done 2 (plus 3 0))
    × (part_answer full (49 ∷ 223 ∷ []) 0 ≡ done 2 (plus 3 0))
    × (part_answer full (49 ∷ 224 ∷ []) 0 ≡ done 2 (plus 2 0))
    × (part_answer full (49 ∷ 225 ∷ []) 0 ≡ done 1 (plus 1 0))
unfolding computing space conjunction settings settings_A plus lettered full
full_readings = (
  read_at_once full full_accepted (49 ∷ 160 ∷ []) 0,
  read_at_once full full_accepted (49 ∷ 161 ∷ []) 0,
  read_at_once full full_accepted (49 ∷ 223 ∷ []) 0,
  read_at_once full full_accepted (49 ∷ 224 ∷ []) 0,
  read_at_once full full_accepted (49 ∷ 225 ∷ []) 0,
)

-- ---- as it was

unfoldable pub was : List ℕ → List ℕ → Case → Bool
was units numerals c = same_answer (before.total_answer (record { settings = settings_A; units = units; numerals = numerals }) (ascii c.typed)) c.comes_to

-- the unit table alone was asked; and it was checked before the numerals
pub readings_before :
    T
    (all (was table_A five)
    (fails "3jaw" 6 1
    ∷ reads "10turn" (plus 0 123000000)
    ∷ reads "five min" (plus 300 0)
    ∷ fails "five jaw" 15 5
    ∷ reads "2s ago" (minus 2 0)
    ∷ reads "inf" (largest false)
    ∷ []))
    × T (was (blank 47) (blank 47) (fails "1s" 7 64) && was (table_A ++ blank 48) (blank 47) (fails "1s" 7 6))
    × T (was table_A (blank 47) (fails "1s" 7 100) && was table_A (five ++ blank 48) (fails "1s" 7 69))
unfolding computing space conjunction settings settings_A row_of table_A same_length same_answer reads plus minus fails five blank was before.table_check before.card_check before.find_unit before.unit_found before.unit_step before.numeral_found before.numeral_step before.spoken_unit_found before.spoken_unit_step before.finite_part before.spoken_part before.unsigned_part before.part before.part_reading before.parts before.total before.read_total before.total_answer
readings_before = (tt, tt, tt)
