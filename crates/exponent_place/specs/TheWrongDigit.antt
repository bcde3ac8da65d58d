-- Request three: the exponent that step 4 reads, the digit of it at which the range is passed, and what is handed back for it. An exponent
-- is named by the place of its `e`. Assumes nothing.
use Rattle.std.specs.Prelude.{◌≡◌, Bool, true, ◌||◌, List, ℕ, suc, ◌+◌, ◌≤◌, ◌<◌, eqb}
use Rattle.std.proofs.Math.Seq.{slice}
use Rattle.rules.specs.Common.{when◌then◌else◌, sees, run}
use Rattle.rules.specs.SettingsAndUnitTable.{DIGIT, SIGN, is, Card}
use Rattle.rules.specs.ReadingOnePart.{same_letter, exponent_limit}
use Rattle.rules.specs.Evaluation.{spelled}
use Rattle.handed_back.specs.TheStepsOfAPart.{Comes, exponent}

-- ---- an exponent

-- a minus stands behind the `e`
unfoldable pub minus_behind : List ℕ → ℕ → Bool
minus_behind text e = sees (eqb 45) text (e + 1)

-- the digits begin behind the sign, if there is one, else behind the `e`
unfoldable pub first_digit : List ℕ → ℕ → ℕ
first_digit text e = when sees (is SIGN) text (e + 1) then e + 2 else e + 1

-- the power that the digits before a place spell
unfoldable pub power_before : List ℕ → ℕ → ℕ → ℕ
power_before text e place = spelled 0 (slice (first_digit text e) place text)

-- at the place stands a digit of the exponent, the digits before it spell a power within the range, and with it the range is passed
pub record Passed (text : List ℕ) (e place : ℕ) : Type 0 where
  pub letter : sees (same_letter 101) text e ≡ true
  pub from_first : first_digit text e ≤ place
  pub digit : place < run (is DIGIT) text (first_digit text e)
  pub before : power_before text e place ≤ exponent_limit (minus_behind text e)
  pub with_it : exponent_limit (minus_behind text e) < power_before text e (suc place)

-- ---- the exponent of a part

-- the part that begins at a place has an exponent, below zero or not, which passes the range at `place`; infinity and a spoken number have none
pub record WrongDigit (card : Card) (text : List ℕ) (from : ℕ) (negative : Bool) (place : ℕ) : Type 0 where
  pub e : ℕ
  pub comes : Comes card text from exponent e
  pub exponents_on : card.settings.exponents ≡ true
  pub sign : minus_behind text e ≡ negative
  pub passed : Passed text e place

-- ---- what is handed back for an exponent out of range

-- 3, or 4 for one below zero
abbrev pub number_of : Bool → ℕ
number_of negative = when negative then 4 else 3

-- these numbers
unfoldable pub out_of_range : ℕ → Bool
out_of_range number = eqb number 3 || eqb number 4
