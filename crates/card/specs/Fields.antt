-- Parts of a row that the contracts name. Assumes nothing.
use Rattle.std.specs.Prelude.{◌≡◌, Bool, true, false, not, ◌&&◌, List, ℕ, ◌<◌, eqb, drop, Result, ⊤}
use Rattle.rules.specs.declared.ByteSet.{ByteSet}
use Rattle.rules.specs.declared.Settings.{Settings}
use Rattle.rules.specs.declared.Refusal.{Refusal}
use Rattle.rules.specs.Common.{between, all}
use Rattle.rules.specs.NumbersHandedBack.{Outcome, got, refused, ◌>>◌, unless}
use Rattle.rules.specs.SettingsAndUnitTable.{LETTER, is, holds, last_kind, second_kind, zeros_at, row, name, kind, product, in_range, led_by_e, row_formed, rows, whole_rows, rows_check}
use Rattle.settings.specs.Sets.{bytes_of, either, passes}
use Rattle.settings.specs.declared.sets.AsciiSet.{AsciiSet}
use Rattle.rows.specs.Named.{padded}
use Rattle.card.specs.declared.row.Further.{Further}
use Rattle.card.specs.declared.row.Further.TheVariants.{Nothing, NotLedByE, AsciiSeconds}
use Rattle.card.specs.declared.row.RowRule.{RowRule}
use Rattle.card.specs.declared.table.TableFault.{TableFault}
use Rattle.card.specs.declared.table.TableFault.TheVariants.{WrongSize, BadRow}

-- ---- names

-- `+`, `-`, `.` and the digits, as bits of a set's first word
unfoldable pub number_set : ByteSet
number_set = record { word0 = 288063250384289792; word1 = 0; word2 = 0; word3 = 0 }

-- the bytes that no name holds: both sets, and those of a number
unfoldable pub unnameable : Settings → ByteSet
unnameable s = either (either s.inner s.outer) number_set

-- the bytes below 128 but the letters, as bits of a set's words
unfoldable pub no_letters : ByteSet
no_letters = record { word0 = 18446744073709551615; word1 = 17870283329861844993; word2 = 0; word3 = 0 }

-- a set without letters
abbrev pub Letterless : ByteSet → Type 0
Letterless set = (b : ℕ) → b < 256 → is LETTER b ≡ true → holds set b ≡ false

-- ---- what a rule asks of a row

-- a name in its room that a set holds no byte of
unfoldable pub name_right : AsciiSet → List ℕ → Bool
name_right set r = padded r && all (passes (bytes_of set) false) (name r)

-- the fields behind it
unfoldable pub fields_right : List ℕ → Bool
fields_right r = between 0 last_kind (kind r) && (all (eqb 0) (drop zeros_at r) && in_range (product r))

-- after its form
unfoldable pub asked_further : Further → List ℕ → Bool
asked_further Nothing r = true
asked_further NotLedByE r = not (led_by_e (name r))
asked_further AsciiSeconds r = eqb (kind r) second_kind && all (between 0 127) (name r)

-- all of it that a row has by itself
unfoldable pub alone : RowRule → List ℕ → Bool
alone rule r = name_right rule.set r && (fields_right r && asked_further rule.further r)

-- a row as nearly all are: a name of letters in its room, and right fields. What is left is what is asked further
abbrev pub Simple : List ℕ → Type 0
Simple r = (padded r ≡ true) × (all (is LETTER) (name r) ≡ true) × (fields_right r ≡ true)

-- each of the first rows of a table
abbrev pub Each : (List ℕ → Type 0) → List ℕ → ℕ → Type 0
Each Holds table n = (j : ℕ) → j < n → Holds (row table j)

-- and no earlier row has its name
unfoldable pub ruled : RowRule → List ℕ → ℕ → Bool
ruled rule table i =
    row_formed (between 0 last_kind) (passes (bytes_of rule.set) false) table i && asked_further rule.further (row table i)

-- with the names before a row, or without
abbrev pub tested : RowRule → Bool → List ℕ → ℕ → Bool
tested rule true table i = ruled rule table i
tested rule false table i = alone rule (row table i)

-- what was found, said of a table
abbrev pub said : Refusal → (ℕ → Refusal) → Result ⊤ TableFault → Outcome (Unit {0})
said size bad (got found) = got found
said size bad (refused WrongSize) = refused size
said size bad (refused (BadRow i)) = refused (bad i)

-- a table's size, and then its rows
abbrev pub tabled : Refusal → ℕ → (ℕ → Bool) → (ℕ → Refusal) → List ℕ → Outcome (Unit {0})
tabled size most test bad table = unless size (whole_rows most table) >> rows_check test bad 0 (rows table)
