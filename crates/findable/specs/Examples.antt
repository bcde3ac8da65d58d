-- What texts find, computed, in each table by itself and in both: the request's own, a text of several parts, and the text for each row; a row
-- that no text finds, before one that is bad itself; and a row that a spoken number finds, and no text that counts. Assumes nothing.
use Rattle.std.specs.Prelude.{◌≡◌, refl, Bool, true, false, not, ◌&&◌, List, [], ◌++◌, ℕ, ◌-◌, ◌^◌, T}
use Prim.Native.String.{String}
use Rattle.rules.specs.declared.Settings.{Settings}
use Rattle.rules.specs.declared.Length.{Length}
use Rattle.rules.specs.Common.{ascii, same}
use Rattle.rules.specs.ThePartOfTheCrateWeTake.{zero_length}
use Rattle.rules.specs.NumbersHandedBack.{Outcome, got, refused}
use Rattle.rules.specs.SettingsAndUnitTable.{row, name, row_right, Card, Line, Hall, Neither}
use Rattle.rules.specs.Evaluation.{total}
use Rattle.rules.specs.Computing.{computing}
use Rattle.rules.specs.CardAAndItsReadings.{space, conjunction, settings, settings_A, row_of, same_length, plus}
use Rattle.rules.specs.AUnitNobodyCouldType.{none, asked, seconds}
use Rattle.rules.specs.SpokenNumbers.{numeral}
use Rattle.findable.specs.WhereAPartFindsItsUnit.{unit_stands, number_unit, unsigned_unit, unit_of, counted, units, same_holder, among, among_got, finds}
use Rattle.findable.specs.OneOfTheTwoTables.{Whose, OfHall, OfLine, row_in}
use Rattle.findable.specs.TheReadersOwn.{HasSpoken, spoken_here, spoken_later}
use Rattle.findable.specs.TheTextForARow.{first_held, joint, text_for}

-- `eon`, `s` and a row of minus five seconds
unfoldable pub table : List ℕ
table = seconds "eon" 7 ++ seconds "s" 1 ++ seconds "owed" (2 ^ 64 - 5)

-- the rows 0, 1 and 2 of a table, as the text finds them or not
unfoldable pub card_finds : Card → Whose → String → Bool → Bool → Bool → Bool
card_finds card whose typed first second third = test first 0 && test second 1 && test third 2
  where
    test : Bool → ℕ → Bool
    test true i = finds card (ascii typed) (row_in whose i)
    test false i = not (finds card (ascii typed) (row_in whose i))

-- the table by itself
unfoldable pub only : Whose → Settings → List ℕ → List ℕ → Card
only OfHall s units numerals = record { settings = s; hall = units; line = []; numerals = numerals }
only OfLine s units numerals = record { settings = s; hall = []; line = units; numerals = numerals }

-- of either table
unfoldable pub for_each : (Whose → Bool) → Bool
for_each test = test OfHall && test OfLine

-- each by itself, without numerals
unfoldable pub finds_rows : Settings → String → Bool → Bool → Bool → Bool
finds_rows s typed eon second owed = for_each (λ whose. card_finds (only whose s table []) whose typed eon second owed)

-- an exponent or a delimiter leads to `eon`; each part of a text counts, and of a text that is refused none
pub found :
    T (finds_rows (asked true false none) "3e0eon" true false false)
    × T (finds_rows (asked true false none) "3eon" false false false)
    × T (finds_rows (asked false true space) "3 eon" true false false)
    × T (finds_rows (asked false false space) "3eon" false false false)
    × T (finds_rows (asked false false space) "3 eon" false false false)
    × T (finds_rows settings_A "1s and 3 eon inf 2owed 4" true true true)
    × T (finds_rows settings_A "1s and 3 eon 5 and" false false false)
unfolding computing space conjunction settings settings_A row_of none asked seconds table card_finds only for_each finds_rows unit_stands number_unit unsigned_unit unit_of counted units same_holder among among_got finds
found = (tt, tt, tt, tt, tt, tt, tt)

-- the text for a row is read, comes to zero and finds the row, with negatives off and a row below zero too
unfoldable pub is_zero : Outcome Length → Bool
is_zero (got l) = same_length l zero_length
is_zero (refused cause) = false

unfoldable pub reads_row : Settings → ℕ → String → Bool
reads_row s i typed =
    same (text_for s (name (row table i))) (ascii typed)
    && for_each (λ whose. finds (only whose s table []) (ascii typed) (row_in whose i) && is_zero (total (only whose s table []) (ascii typed)))

pub texts :
    T (reads_row settings_A 0 "0e0eon" && reads_row settings_A 1 "0s" && reads_row settings_A 2 "0owed")
    × T (reads_row (asked false true space) 0 "0 eon")
    × T (reads_row (settings false 1 "and" "") 2 "0owed")
unfolding computing space conjunction settings settings_A row_of same_length none asked seconds table only for_each unit_stands number_unit unsigned_unit unit_of counted units same_holder among among_got finds first_held joint text_for is_zero reads_row
texts = (tt, tt, tt)

-- ---- both tables

-- the line has an `s` of two seconds, and `jaw`
unfoldable pub both : Card
both = record { settings = settings_A; hall = table; line = seconds "s" 2 ++ seconds "jaw" 40; numerals = [] }

-- the line's `s` is found and never the hall's; behind the line's rows stand the hall's
pub found_in_both :
    T (card_finds both OfLine "1s" true false false && card_finds both OfHall "1s" false false false)
    × T (card_finds both OfLine "2jaw" false true false && card_finds both OfHall "2jaw" false false false)
    × T (card_finds both OfLine "0e0eon 2owed" false false false && card_finds both OfHall "0e0eon 2owed" true false true)
    × T (card_finds both OfLine "1s 3 jaw 2owed 4" true true false && card_finds both OfHall "1s 3 jaw 2owed 4" false false true)
    × T (finds both (ascii "0s") (Line 0) && is_zero (total both (ascii "0s")) && finds both (ascii "0owed") (Hall 2) && is_zero (total both (ascii "0owed")))
    × T (finds both (ascii "4 inf") Neither && not (finds both (ascii "1s 2jaw") Neither))
    × (total both (ascii "1s") ≡ got (plus 2 0))
unfolding computing space conjunction settings settings_A row_of same_length plus seconds table card_finds is_zero both unit_stands number_unit unsigned_unit unit_of counted units same_holder among among_got finds
found_in_both = (tt, tt, tt, tt, tt, tt, refl)

-- ---- a row that nobody could type

-- and after it one of kind 9: the first passes document 01's tests, the second does not
unfoldable pub eon_and_kind_9 : List ℕ
eon_and_kind_9 = seconds "eon" 7 ++ row_of "s" 9 1 0

pub right_and_wrong :
    (row_right (asked false false space) eon_and_kind_9 0 ≡ true)
    × (row_right (asked false false space) eon_and_kind_9 1 ≡ false)
unfolding computing space conjunction settings settings_A row_of none asked seconds eon_and_kind_9
right_and_wrong = (refl, refl)

-- ---- spoken numbers (request four)

-- exponents off, nothing before units, and the numeral `five`
unfoldable pub speaking : Whose → Card
speaking whose = only whose (asked false false space) table (numeral "five" 5 0)

-- the card taken as accepted, `five eon` is read and multiplies by `eon`, though no digits can stand before it; such a text does not count, nor
-- do its other parts; texts without a spoken number count as they do without numerals
pub not_counted :
    (total (speaking OfHall) (ascii "five eon") ≡ got (plus 35 0))
    × (total (speaking OfLine) (ascii "five eon") ≡ got (plus 35 0))
    × T (for_each (λ whose. card_finds (speaking whose) whose "five eon" false false false && card_finds (speaking whose) whose "3eon" false false false))
    × HasSpoken (speaking OfHall) (ascii "1s five eon") 0
    × T (for_each (λ whose. card_finds (speaking whose) whose "1s five eon" false false false && card_finds (speaking whose) whose "1s inf 2owed" false true true))
unfolding computing space conjunction settings settings_A row_of plus numeral none asked seconds table only for_each speaking card_finds unit_stands number_unit unsigned_unit unit_of counted units same_holder among among_got finds
not_counted = (refl, refl, tt, spoken_later refl refl (spoken_here refl), tt)
