-- Request two, "A unit nobody could type": its cards and names, as one table of readings. Assumes nothing.
use Rattle.std.specs.Prelude.{Bool, true, false, List, [], ◌∷◌, ◌++◌, ℕ, T}
use Prim.Native.String.{String}
use Rattle.rules.specs.declared.ByteSet.{ByteSet}
use Rattle.rules.specs.declared.Settings.{Settings}
use Rattle.rules.specs.Common.{all}
use Rattle.rules.specs.Computing.{computing}
use Rattle.rules.specs.CardAAndItsReadings.{space, conjunction, settings, settings_A, row_of, unspoken, same_length, same_answer, Case, reads, plus, fails, holds_under}

unfoldable pub none : ByteSet
none = record { word0 = 0; word1 = 0; word2 = 0; word3 = 0 }

-- card A, but for exponents, the switch before units and the inner set
unfoldable pub asked : Bool → Bool → ByteSet → Settings
asked exponents before_a_unit inner = record {
  negatives = settings_A.negatives;
  fractions = settings_A.fractions;
  exponents = exponents;
  infinity = settings_A.infinity;
  ago = settings_A.ago;
  after_sign = settings_A.after_sign;
  before_unit = before_a_unit;
  inner = inner;
  outer = settings_A.outer;
  conjunctions = settings_A.conjunctions;
  first = settings_A.first;
  second = settings_A.second;
  third = settings_A.third;
  fourth = settings_A.fourth;
  default_kind = settings_A.default_kind;
}

-- a row of so many seconds
unfoldable pub seconds : String → ℕ → List ℕ
seconds name n = row_of name 3 n 0

-- a row that nobody could type is 7 with its number, the first first: under `e` and under `E`, with nothing before a unit, and
-- with an inner set that is empty
unfoldable pub refused : List Case
refused = fails "3s" 7 1 ∷ fails "" 7 1 ∷ []

pub nobody :
    T (all (holds_under (unspoken (asked false false space) (seconds "s" 1 ++ seconds "eon" 5 ++ seconds "Eon" 5))) refused)
    × T (all (holds_under (unspoken (asked false false space) (seconds "s" 1 ++ seconds "Eon" 5))) refused)
    × T (all (holds_under (unspoken (asked false true none) (seconds "s" 1 ++ seconds "eon" 5))) refused)
    × T (all (holds_under (unspoken (asked false false none) (seconds "s" 1 ++ seconds "E" 5 ++ seconds "t" 5))) refused)
unfolding computing space conjunction settings settings_A row_of unspoken same_length same_answer reads plus fails holds_under none asked seconds refused
nobody = (tt, tt, tt, tt)

-- with exponents on, or with a delimiter before units, both letters can be typed; and any other name always
pub somebody :
    T (all (holds_under (unspoken (asked true false none) (seconds "eon" 5 ++ seconds "E" 7))) (reads "3e0eon" (plus 15 0) ∷ reads "3e0E" (plus 21 0) ∷ []))
    × T (all (holds_under (unspoken (asked false true space) (seconds "eon" 5 ++ seconds "E" 7))) (reads "3 eon" (plus 15 0) ∷ reads "3 E" (plus 21 0) ∷ fails "3eon" 21 1 ∷ []))
    × T (all (holds_under (unspoken (asked false false none) (seconds "neon" 5 ++ seconds "sE" 7))) (reads "3neon" (plus 15 0) ∷ reads "3sE" (plus 21 0) ∷ []))
unfolding computing space conjunction settings settings_A row_of unspoken same_length same_answer reads plus fails holds_under none asked seconds
somebody = (tt, tt, tt)
