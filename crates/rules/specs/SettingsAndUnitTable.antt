-- "Settings and unit table": byte classes, delimiters, conjunctions, kinds, rows, numerals, what is accepted, and lookup.
-- Assumes nothing.
use Rattle.std.specs.Prelude.{Bool, false, not, ◌&&◌, ◌||◌, List, [], ◌∷◌, ◌++◌, ℕ, zero, suc, ◌+◌, ◌*◌, ◌-◌, ◌/◌, ◌%◌, ◌^◌, leb, ltb, eqb, length, get_or, take, drop, Option, Some, None}
use Rattle.std.specs.Bool.{xor}
use Rattle.rules.specs.declared.ByteSet.{ByteSet}
use Rattle.rules.specs.declared.Conjunction.{Conjunction}
use Rattle.rules.specs.declared.Settings.{Settings}
use Rattle.rules.specs.declared.Multiplier.{Multiplier}
use Rattle.rules.specs.declared.Refusal.{Refusal}
use Rattle.rules.specs.declared.Refusal.TheVariants.{Delimiters, Conjunctions, DefaultKind, TableSize, BadRow, LineSize, BadLineRow, NumeralsSize, BadNumeral}
use Rattle.rules.specs.Common.{when◌then◌else◌, between, all, runs, same, starts}
use Rattle.rules.specs.NumbersHandedBack.{Outcome, got, refused, ◌>>◌, unless}

-- ---- byte classes

abbrev pub DIGIT : ℕ
DIGIT = 0

abbrev pub SIGN : ℕ
SIGN = 1

abbrev pub POINT : ℕ
POINT = 2

abbrev pub LETTER : ℕ
LETTER = 3

abbrev pub OTHER : ℕ
OTHER = 4

-- the rule of the 256 byte classes: `0` to `9`; `+` and `-`; `.`; `A` to `Z` and `a` to `z`; all others
unfoldable pub class : ℕ → ℕ
class b =
    when between 48 57 b
    then DIGIT
    else when eqb b 43 || eqb b 45 then SIGN else when eqb b 46 then POINT else when between 65 90 b || between 97 122 b then LETTER else OTHER

unfoldable pub is : ℕ → ℕ → Bool
is wanted b = eqb (class b) wanted

-- a digit or a sign begins the next part
unfoldable pub is_next_duration : ℕ → Bool
is_next_duration b = is DIGIT b || is SIGN b

-- ASCII letters compare in any case
unfoldable pub lower : ℕ → ℕ
lower b = when between 65 90 b then b + 32 else b

-- ---- delimiters

unfoldable pub word : ByteSet → ℕ → ℕ
word set zero = set.word0
word set (suc zero) = set.word1
word set (suc (suc zero)) = set.word2
word set (suc (suc (suc i))) = set.word3

unfoldable pub holds : ByteSet → ℕ → Bool
holds set b = eqb (word set (b / 64) / 2 ^ (b % 64) % 2) 1

-- a delimiter is below 128 and is no letter, digit, `+`, `-` or `.`
unfoldable pub may_delimit : ℕ → Bool
may_delimit b = ltb b 128 && is OTHER b

-- so does each of the n bytes from b on that the set holds
unfoldable pub delimits : ByteSet → ℕ → ℕ → Bool
delimits set b n = runs (λ k. not (holds set k) || may_delimit k) b n

unfoldable pub delimiters_accepted : Settings → Bool
delimiters_accepted s = delimits s.inner 0 256 && delimits s.outer 0 256

-- it holds none of the 256 bytes
unfoldable pub empty : ByteSet → Bool
empty set = runs (λ k. not (holds set k)) 0 256

-- ---- conjunctions

abbrev pub most_conjunctions : ℕ
most_conjunctions = 4

abbrev pub most_letters : ℕ
most_letters = 8

-- the n low bytes of a number, the lowest first
unfoldable pub low_bytes : ℕ → ℕ → List ℕ
low_bytes zero x = []
low_bytes (suc n) x = x % 256 ∷ low_bytes n (x / 256)

unfoldable pub letters_of : Conjunction → List ℕ
letters_of c = low_bytes c.size c.letters

unfoldable pub conjunctions_of : Settings → List Conjunction
conjunctions_of s = take s.conjunctions (s.first ∷ s.second ∷ s.third ∷ s.fourth ∷ [])

-- 1 to 8 ASCII letters
unfoldable pub conjunction_accepted : Conjunction → Bool
conjunction_accepted c = between 1 most_letters c.size && all (is LETTER) (letters_of c)

unfoldable pub conjunctions_accepted : Settings → Bool
conjunctions_accepted s = leb s.conjunctions most_conjunctions && all conjunction_accepted (conjunctions_of s)

-- ---- kinds: coefficient, and power of ten, which is never above zero

unfoldable pub kind_coefficients : List ℕ
kind_coefficients = 1 ∷ 1 ∷ 1 ∷ 1 ∷ 60 ∷ 3600 ∷ 86400 ∷ 604800 ∷ []

unfoldable pub kind_downs : List ℕ
kind_downs = 9 ∷ 6 ∷ 3 ∷ 0 ∷ 0 ∷ 0 ∷ 0 ∷ 0 ∷ []

abbrev pub last_kind : ℕ
last_kind = 7

abbrev pub second_kind : ℕ
second_kind = 3

unfoldable pub kind_multiplier : ℕ → Multiplier
kind_multiplier kind = record { negative = false; coefficient = get_or kind_coefficients kind 0; up = 0; down = get_or kind_downs kind 0 }

unfoldable pub settings_check : Settings → Outcome (Unit {0})
settings_check s = do
  unless Delimiters (delimiters_accepted s)
  unless Conjunctions (conjunctions_accepted s)
  unless DefaultKind (leb s.default_kind last_kind)

-- ---- rows: what each field of a row is, and where it stands

abbrev pub most_rows : ℕ
most_rows = 64

abbrev pub most_numerals : ℕ
most_numerals = 32

abbrev pub name_at : ℕ
name_at = 1

-- how many bytes a coefficient and a power have
abbrev pub coefficient_size : ℕ
coefficient_size = 8

abbrev pub power_size : ℕ
power_size = 2

unfoldable pub name_size : List ℕ → ℕ
name_size r = get_or r 0 0

unfoldable pub name : List ℕ → List ℕ
name r = take (name_size r) (drop name_at r)

-- a number of which the bytes stand low byte first
unfoldable pub low_first : List ℕ → ℕ
low_first [] = 0
low_first (b ∷ bs) = b + 256 * low_first bs

-- two's complement of so many bytes: sign, and magnitude
unfoldable pub below_zero : ℕ → ℕ → Bool
below_zero bytes x = leb (256 ^ bytes / 2) x

unfoldable pub magnitude : ℕ → ℕ → ℕ
magnitude bytes x = when below_zero bytes x then 256 ^ bytes - x else x

-- coefficients multiplied, powers added
unfoldable pub times : Multiplier → Multiplier → Multiplier
times m n = record {
  negative = xor m.negative n.negative;
  coefficient = m.coefficient * n.coefficient;
  up = m.up + n.up;
  down = m.down + n.down;
}

-- within plus or minus 9223372036854775807, and -32768 to 32767
unfoldable pub in_range : Multiplier → Bool
in_range m = ltb m.coefficient (2 ^ 63) && leb m.up (m.down + 32767) && leb m.down (m.up + 32768)

-- a name holds no delimiter, digit, sign or `.`
unfoldable pub may_name : Settings → ℕ → Bool
may_name s b = not (holds s.inner b || holds s.outer b || is DIGIT b || is SIGN b || is POINT b)

-- "A unit nobody could type" (request two): straight after a number `e` and `E` begin an exponent
unfoldable pub led_by_e : List ℕ → Bool
led_by_e n = starts (λ b. eqb 101 (lower b)) n

-- so a name led by one needs exponents on (`3e0eon`), or the switch before units on with an inner set that is not empty (`3 eon`)
unfoldable pub e_may_lead : Settings → Bool
e_may_lead s = s.exponents || s.before_unit && not (empty s.inner)

unfoldable pub can_be_typed : Settings → List ℕ → Bool
can_be_typed s n = not (led_by_e n) || e_may_lead s

-- the first bad row of the n from i on
unfoldable pub rows_check : (ℕ → Bool) → (ℕ → Refusal) → ℕ → ℕ → Outcome (Unit {0})
rows_check accepted bad i zero = got tt
rows_check accepted bad i (suc n) = let more = rows_check accepted bad (suc i) n in when accepted i then more else refused (bad i)

-- "Names longer than sixteen bytes" (request eight): all else of a row stands behind the room that its name has
module _ (room : ℕ) where
  abbrev pub kind_at_in : ℕ
  kind_at_in = name_at + room

  abbrev pub coefficient_at_in : ℕ
  coefficient_at_in = kind_at_in + 1

  abbrev pub power_at_in : ℕ
  power_at_in = coefficient_at_in + coefficient_size

  abbrev pub zeros_at_in : ℕ
  zeros_at_in = power_at_in + power_size

  abbrev pub row_size_in : ℕ
  row_size_in = zeros_at_in + 4

  unfoldable pub rows_in : List ℕ → ℕ
  rows_in table = length table / row_size_in

  unfoldable pub row_in : List ℕ → ℕ → List ℕ
  row_in table i = take row_size_in (drop (row_size_in * i) table)

  unfoldable pub after_name_in : List ℕ → List ℕ
  after_name_in r = take (room - name_size r) (drop (name_at + name_size r) r)

  unfoldable pub kind_in : List ℕ → ℕ
  kind_in r = get_or r kind_at_in 0

  unfoldable pub coefficient_field_in : List ℕ → ℕ
  coefficient_field_in r = low_first (take coefficient_size (drop coefficient_at_in r))

  unfoldable pub power_field_in : List ℕ → ℕ
  power_field_in r = low_first (take power_size (drop power_at_in r))

  unfoldable pub row_multiplier_in : List ℕ → Multiplier
  row_multiplier_in r = record {
    negative = below_zero coefficient_size (coefficient_field_in r);
    coefficient = magnitude coefficient_size (coefficient_field_in r);
    up = when below_zero power_size (power_field_in r) then 0 else power_field_in r;
    down = when below_zero power_size (power_field_in r) then magnitude power_size (power_field_in r) else 0;
  }

  -- kind times row
  unfoldable pub product_in : List ℕ → Multiplier
  product_in r = times (kind_multiplier (kind_in r)) (row_multiplier_in r)

  -- one of the first n rows has the name
  unfoldable pub named_in : List ℕ → List ℕ → ℕ → Bool
  named_in table wanted zero = false
  named_in table wanted (suc n) = same (name (row_in table n)) wanted || named_in table wanted n

  -- the form of a row, of which the kind and each byte of the name pass a test
  unfoldable pub row_formed_in : (ℕ → Bool) → (ℕ → Bool) → List ℕ → ℕ → Bool
  row_formed_in of_kind of_name table i =
      let r = row_in table i in
      between 1 room (name_size r)
      && all (eqb 0) (after_name_in r)
      && of_kind (kind_in r)
      && all (eqb 0) (drop zeros_at_in r)
      && all of_name (name r)
      && not (named_in table (name r) i)
      && in_range (product_in r)

  -- document 01's tests of a row
  unfoldable pub row_right_in : Settings → List ℕ → ℕ → Bool
  row_right_in s table i = row_formed_in (between 0 last_kind) (may_name s) table i

  -- and its name can be typed
  unfoldable pub row_accepted_in : Settings → List ℕ → ℕ → Bool
  row_accepted_in s table i = row_right_in s table i && can_be_typed s (name (row_in table i))

  -- "Spoken numbers" (request four): a numeral is a row of letters, of seconds
  unfoldable pub numeral_accepted_in : List ℕ → ℕ → Bool
  numeral_accepted_in numerals i = row_formed_in (between second_kind second_kind) (is LETTER) numerals i

  -- at most so many rows, all of them whole
  unfoldable pub whole_rows_in : ℕ → List ℕ → Bool
  whole_rows_in most table = eqb (length table % row_size_in) 0 && leb (rows_in table) most

  -- 0 to 64 rows, each table by itself; what is wrong is said of that table
  unfoldable pub units_check_in : Refusal → (ℕ → Refusal) → Settings → List ℕ → Outcome (Unit {0})
  units_check_in size bad s table = do
    unless size (whole_rows_in most_rows table)
    rows_check (row_accepted_in s table) bad 0 (rows_in table)

  -- 0 to 32 rows of the same form
  unfoldable pub numerals_check_in : List ℕ → Outcome (Unit {0})
  numerals_check_in numerals = do
    unless NumeralsSize (whole_rows_in most_numerals numerals)
    rows_check (numeral_accepted_in numerals) BadNumeral 0 (rows_in numerals)

  -- lookup, byte for byte: the first of the n rows from i on that has the name
  unfoldable pub lookup_from_in : List ℕ → List ℕ → ℕ → ℕ → Option ℕ
  lookup_from_in table wanted i zero = None
  lookup_from_in table wanted i (suc n) =
      let more = lookup_from_in table wanted (suc i) n in when same (name (row_in table i)) wanted then Some i else more

  unfoldable pub lookup_in : List ℕ → List ℕ → Option ℕ
  lookup_in table wanted = lookup_from_in table wanted 0 (rows_in table)

-- the rows of all tables have a room of 32 bytes; the old form had 16
abbrev pub name_room : ℕ
name_room = 32

abbrev pub old_room : ℕ
old_room = 16

abbrev pub kind_at : ℕ
kind_at = kind_at_in name_room

abbrev pub coefficient_at : ℕ
coefficient_at = coefficient_at_in name_room

abbrev pub power_at : ℕ
power_at = power_at_in name_room

abbrev pub zeros_at : ℕ
zeros_at = zeros_at_in name_room

abbrev pub row_size : ℕ
row_size = row_size_in name_room

abbrev pub rows : List ℕ → ℕ
rows = rows_in name_room

abbrev pub row : List ℕ → ℕ → List ℕ
row = row_in name_room

abbrev pub after_name : List ℕ → List ℕ
after_name = after_name_in name_room

abbrev pub kind : List ℕ → ℕ
kind = kind_in name_room

abbrev pub coefficient_field : List ℕ → ℕ
coefficient_field = coefficient_field_in name_room

abbrev pub power_field : List ℕ → ℕ
power_field = power_field_in name_room

abbrev pub row_multiplier : List ℕ → Multiplier
row_multiplier = row_multiplier_in name_room

abbrev pub product : List ℕ → Multiplier
product = product_in name_room

abbrev pub named : List ℕ → List ℕ → ℕ → Bool
named = named_in name_room

abbrev pub row_formed : (ℕ → Bool) → (ℕ → Bool) → List ℕ → ℕ → Bool
row_formed = row_formed_in name_room

abbrev pub row_right : Settings → List ℕ → ℕ → Bool
row_right = row_right_in name_room

abbrev pub row_accepted : Settings → List ℕ → ℕ → Bool
row_accepted = row_accepted_in name_room

abbrev pub numeral_accepted : List ℕ → ℕ → Bool
numeral_accepted = numeral_accepted_in name_room

abbrev pub whole_rows : ℕ → List ℕ → Bool
whole_rows = whole_rows_in name_room

abbrev pub units_check : Refusal → (ℕ → Refusal) → Settings → List ℕ → Outcome (Unit {0})
units_check = units_check_in name_room

abbrev pub numerals_check : List ℕ → Outcome (Unit {0})
numerals_check = numerals_check_in name_room

abbrev pub lookup_from : List ℕ → List ℕ → ℕ → ℕ → Option ℕ
lookup_from = lookup_from_in name_room

abbrev pub lookup : List ℕ → List ℕ → Option ℕ
lookup = lookup_in name_room

-- the hall's table
unfoldable pub table_check : Settings → List ℕ → Outcome (Unit {0})
table_check s hall = units_check TableSize BadRow s hall

-- "The line's own unit names" (request five): the line's table
unfoldable pub line_check : Settings → List ℕ → Outcome (Unit {0})
line_check s line = units_check LineSize BadLineRow s line

-- what a reading is made under: settings, the hall's unit table, the line's, and the numeral table
pub record Card : Type 0 where
  pub settings : Settings
  pub hall : List ℕ
  pub line : List ℕ
  pub numerals : List ℕ

-- settings first, then the hall's table, then the line's, then the numerals
unfoldable pub card_check : Card → Outcome (Unit {0})
card_check card = do
  settings_check card.settings
  table_check card.settings card.hall
  line_check card.settings card.line
  numerals_check card.numerals

-- ---- lookup in both tables

-- in which of the two unit tables a name stands, and at which row
pub data Holder : Type 0 where
  Line : ℕ → Holder
  Hall : ℕ → Holder
  Neither : Holder

-- the line's rows win
unfoldable pub line_first : Option ℕ → Option ℕ → Holder
line_first (Some i) in_hall = Line i
line_first None (Some i) = Hall i
line_first None None = Neither

unfoldable pub stands : List ℕ → List ℕ → List ℕ → Holder
stands hall line wanted = line_first (lookup line wanted) (lookup hall wanted)

-- the row itself, from whichever table holds it; nothing if none does
unfoldable pub held_row : List ℕ → List ℕ → Holder → List ℕ
held_row hall line (Line i) = row line i
held_row hall line (Hall i) = row hall i
held_row hall line Neither = []

unfoldable pub find_row : List ℕ → List ℕ → List ℕ → List ℕ
find_row hall line wanted = held_row hall line (stands hall line wanted)

-- ---- the stored form of a row: two lower-case hexadecimal digits for each byte, 96 in all, and a newline

unfoldable pub hexadecimal : ℕ → ℕ
hexadecimal d = when ltb d 10 then 48 + d else 87 + d

unfoldable pub two_digits : List ℕ → List ℕ
two_digits [] = []
two_digits (b ∷ bs) = hexadecimal (b / 16) ∷ hexadecimal (b % 16) ∷ two_digits bs

unfoldable pub stored : List ℕ → List ℕ
stored r = two_digits r ++ 10 ∷ []
