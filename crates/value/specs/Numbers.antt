-- What the numbers of a text come to in words of 64 bits. Assumes nothing.
use Rattle.std.specs.Prelude.{◌≡◌, true, List, [], ◌∷◌, ℕ, ◌+◌, ◌*◌, ◌-◌, ◌/◌, ◌%◌, ◌^◌, ◌≤◌, ltb, length, take, Option, Some, None}
use Rattle.std.specs.Bool.{xor}
use Rattle.rules.specs.declared.Length.{Length}
use Rattle.rules.specs.declared.Span.{Span}
use Rattle.rules.specs.declared.DurationRepr.{DurationRepr}
use Rattle.rules.specs.Common.{when◌then◌else◌, all}
use Rattle.rules.specs.ThePartOfTheCrateWeTake.{largest}
use Rattle.rules.specs.SettingsAndUnitTable.{DIGIT, is}
use Rattle.rules.specs.Evaluation.{spelled, digits_of, up, down, attos, nanos, length_of}
use Rattle.value.specs.declared.number.Shifted.{Shifted}

-- a number, if 64 bits hold it
unfoldable pub as_word : ℕ → Option ℕ
as_word n = when ltb n (2 ^ 64) then Some n else None

-- digits summed up after those that spelled n, for as long as a word surely holds one more
unfoldable pub summed : ℕ → List ℕ → ℕ
summed n [] = n
summed n (d ∷ digits) = when ltb n (10 ^ 18) then summed (n * 10 + (d - 48)) digits else n

-- the number that goes beside digits: their sum, where it was typed; 1, and no digits, where it was spoken
pub data Counts (number : ℕ) (digits : List ℕ) : Type 0 where
  typed : number ≡ summed 0 digits → Counts number digits
  spoken : digits ≡ [] → number ≡ 1 → Counts number digits

-- what the digits spell; where there are none, the number beside them
unfoldable pub counted : ℕ → List ℕ → ℕ
counted number [] = number
counted number (d ∷ digits) = spelled 0 (d ∷ digits)

-- the number that the first so many digits spell, with zeros put in where there are fewer
unfoldable pub places : ℕ → List ℕ → ℕ
places count digits = spelled 0 (take count digits) * 10 ^ (count - length digits)

-- how many digits stand before the typed point, and after it
abbrev pub whole_size : Span → ℕ
whole_size whole = whole.end - whole.start

abbrev pub fract_size : Span → ℕ
fract_size fract = fract.end - fract.start

-- a typed number: both spans lie in the text, and digits stand in them
pub record Spans (text : List ℕ) (whole : Span) (fract : Span) : Type 0 where
  pub whole_starts : whole.start ≤ whole.end
  pub whole_ends : whole.end ≤ length text
  pub fract_starts : fract.start ≤ fract.end
  pub fract_ends : fract.end ≤ length text
  pub digits : all (is DIGIT) (digits_of text whole fract) ≡ true

-- A of document 01, for the number that counts and these powers of ten
abbrev pub counted_attos : ℕ → List ℕ → Span → Span → ℕ → ℕ → ℕ
counted_attos number text whole fract up down = attos (counted number (digits_of text whole fract)) (fract_size fract) up down

-- that of a part, before it is multiplied
unfoldable pub attos_of : List ℕ → DurationRepr → ℕ → ℕ
attos_of text d number =
    counted_attos number text d.whole d.fract (up d.exponent d.multiplier) (down d.exponent d.multiplier)

-- document 01's evaluation, of the number that counts
unfoldable pub evaluate_counted : List ℕ → DurationRepr → ℕ → Length
evaluate_counted text d number =
    when d.infinite
    then largest d.negative
    else length_of (xor d.negative d.multiplier.negative) (nanos d.multiplier.coefficient (attos_of text d number))

-- so many attoseconds, if 64 bits hold their seconds
unfoldable pub shifted_of : ℕ → Option Shifted
shifted_of a = when ltb (a / 10 ^ 18) (2 ^ 64) then Some (record { seconds = a / 10 ^ 18; attos = a % 10 ^ 18 }) else None

-- seconds as a word, with the attoseconds behind them
abbrev pub with_attos : Option ℕ → ℕ → Option Shifted
with_attos (Some seconds) attos = Some (record { seconds = seconds; attos = attos })
with_attos None attos = None
