-- "Card A and its readings": the card, and the readings that document 01 marks with a star, as one table. Assumes nothing.
use Rattle.std.specs.Prelude.{Bool, true, false, ◌&&◌, List, [], ◌∷◌, ◌++◌, ℕ, ◌+◌, ◌-◌, ◌^◌, T, eqb, length, replicate}
use Rattle.std.specs.Bool.{beq}
use Prim.Native.String.{String}
use Rattle.rules.specs.declared.ByteSet.{ByteSet}
use Rattle.rules.specs.declared.Length.{Length}
use Rattle.rules.specs.declared.Answer.{Answer}
use Rattle.rules.specs.declared.Conjunction.{Conjunction}
use Rattle.rules.specs.declared.Settings.{Settings}
use Rattle.rules.specs.Common.{ascii, all}
use Rattle.rules.specs.ThePartOfTheCrateWeTake.{zero_length, largest}
use Rattle.rules.specs.NumbersHandedBack.{done}
use Rattle.rules.specs.SettingsAndUnitTable.{name_room, coefficient_size, power_size, low_bytes, low_first, Card}
use Rattle.rules.specs.WhatEveryEntryOwes.{total_answer}
use Rattle.rules.specs.Computing.{computing}

-- ---- the card

-- the set that holds the space alone
unfoldable pub space : ByteSet
space = record { word0 = 2 ^ 32; word1 = 0; word2 = 0; word3 = 0 }

unfoldable pub conjunction : String → Conjunction
conjunction w = record { size = length (ascii w); letters = low_first (ascii w) }

-- all switches on but the one after a sign, and negatives as given; both sets hold the space; default 3; and so many of two
-- conjunctions
unfoldable pub settings : Bool → ℕ → String → String → Settings
settings negatives conjunctions first second = record {
  negatives = negatives;
  fractions = true;
  exponents = true;
  infinity = true;
  ago = true;
  after_sign = false;
  before_unit = true;
  inner = space;
  outer = space;
  conjunctions = conjunctions;
  first = conjunction first;
  second = conjunction second;
  third = conjunction "";
  fourth = conjunction "";
  default_kind = 3;
}

-- conjunction `and`
unfoldable pub settings_A : Settings
settings_A = settings true 1 "and" ""

-- a row: name, kind, and what coefficient and power come to in two's complement
unfoldable pub row_of : String → ℕ → ℕ → ℕ → List ℕ
row_of n kind coefficient power =
    length (ascii n)
    ∷ ascii n
    ++ replicate (name_room - length (ascii n)) 0
    ++ kind
    ∷ low_bytes coefficient_size coefficient
    ++ low_bytes power_size power
    ++ replicate 4 0

unfoldable pub table_A : List ℕ
table_A =
    row_of "ns" 0 1 0
    ++ row_of "ms" 2 1 0
    ++ row_of "s" 3 1 0
    ++ row_of "min" 4 1 0
    ++ row_of "turn" 2 123 (2 ^ 16 - 1)
    ++ row_of "block" 3 10000000000 0

-- a card without a table of the line's and without numerals
unfoldable pub unspoken : Settings → List ℕ → Card
unspoken s hall = record { settings = s; hall = hall; line = []; numerals = [] }

unfoldable pub card_A : Card
card_A = unspoken settings_A table_A

-- ---- the readings

unfoldable pub same_length : Length → Length → Bool
same_length a b = beq a.negative b.negative && eqb a.seconds b.seconds && eqb a.nanoseconds b.nanoseconds

unfoldable pub same_answer : Answer → Answer → Bool
same_answer a b = eqb a.number b.number && eqb a.position b.position && same_length a.length b.length

pub record Case : Type 0 where
  pub typed : String
  pub comes_to : Answer

-- read to its end, so the position is the text's length
unfoldable pub reads : String → Length → Case
reads t l = record { typed = t; comes_to = done (length (ascii t)) l }

unfoldable pub plus : ℕ → ℕ → Length
plus s n = record { negative = false; seconds = s; nanoseconds = n }

unfoldable pub minus : ℕ → ℕ → Length
minus s n = record { negative = true; seconds = s; nanoseconds = n }

unfoldable pub fails : String → ℕ → ℕ → Case
fails t n p = record { typed = t; comes_to = record { number = n; position = p; length = zero_length } }

unfoldable pub starred : List Case
starred =
    reads "61.7ms" (plus 0 61700000)
    ∷ fails "" 1 0
    ∷ fails "." 20 0
    ∷ reads "1." (plus 1 0)
    ∷ fails "1e32768" 3 6
    ∷ reads "18446744073709551615s" (plus 18446744073709551615 0)
    ∷ reads "18446744073709551616s" (largest false)
    ∷ reads "1.9e-18block" (plus 0 10)
    ∷ reads "1.5.5" (plus 2 0)
    ∷ reads "1s and 2ms" (plus 1 2000000)
    ∷ fails "1 and 2" 6 2
    ∷ fails "inf+1" 22 3
    ∷ reads "+1.5-2+0" (minus 0 500000000)
    ∷ []

unfoldable pub holds_under : Card → Case → Bool
holds_under card c = same_answer (total_answer card (ascii c.typed)) c.comes_to

pub starred_readings : T (all (holds_under card_A) starred)
unfolding computing space conjunction settings settings_A row_of table_A unspoken card_A same_length same_answer reads plus minus fails starred holds_under
starred_readings = tt

-- ---- readings beside them, each of which a wrong definition would miss

-- the limit is tested after the multiplier; nanoseconds are rounded down; a typed sign and `ago` undo each other, and `ago` must
-- be followed by an end, an outer delimiter, a digit or a sign; each sum is clamped, and not the last alone; a stretch that is no
-- unit is not passed over; and those of document 01's table that have no star
unfoldable pub beside : List Case
beside =
    reads "18446744073709551615min" (largest false)
    ∷ reads "0.9ns" (plus 0 0)
    ∷ reads "-2s ago" (plus 2 0)
    ∷ fails "2s agog" 6 3
    ∷ reads "inf inf -inf" (plus 0 0)
    ∷ fails "1x" 6 1
    ∷ reads "1e-32768" (plus 0 0)
    ∷ reads "3turn" (plus 0 36900000)
    ∷ fails "1s android" 19 6
    ∷ fails "1s and" 19 3
    ∷ fails "1s " 18 2
    ∷ fails "infi" 22 0
    ∷ []

pub readings_beside : T (all (holds_under card_A) beside)
unfolding computing space conjunction settings settings_A row_of table_A unspoken card_A same_length same_answer reads plus minus fails beside holds_under
readings_beside = tt

-- card A with two conjunctions, `a` before `and`
unfoldable pub card_A_with_a : Card
card_A_with_a = unspoken (settings true 2 "a" "and") table_A

-- the first listed conjunction that is a prefix, not the longest
pub first_listed_reading : T (holds_under card_A_with_a (fails "1s and 2ms" 19 4))
unfolding computing space conjunction settings row_of table_A unspoken card_A_with_a same_length same_answer fails holds_under
first_listed_reading = tt

-- card A with negatives off
unfoldable pub card_A_without_negatives : Card
card_A_without_negatives = unspoken (settings false 1 "and" "") table_A

-- a part is read to its end, connection included, before it is tested for 5; and an earlier part's 5 comes before a later part's 17
pub forbidden_readings : T (all (holds_under card_A_without_negatives) (fails "-1s and" 19 4 ∷ fails "-1s 1e" 5 0 ∷ []))
unfolding computing space conjunction settings row_of table_A unspoken card_A_without_negatives same_length same_answer fails holds_under
forbidden_readings = tt
