-- The steps of a part: what each does at a place, and to which places the reading comes with it, one line for each way from one step to the
-- next. Assumes nothing.
use Rattle.std.specs.Prelude.{◌≡◌, true, false, ◌&&◌, ◌||◌, List, ℕ, ◌+◌}
use Rattle.rules.specs.declared.Settings.{Settings}
use Rattle.rules.specs.declared.Signed.{Signed}
use Rattle.rules.specs.declared.Number.{Number}
use Rattle.rules.specs.declared.Scaled.{Scaled}
use Rattle.rules.specs.declared.Unit as declared_unit
use Rattle.rules.specs.declared.Numeral.{Numeral}
use Rattle.rules.specs.declared.SpokenUnit.{SpokenUnit}
use Rattle.rules.specs.Common.{ascii, ends, sees}
use Rattle.rules.specs.NumbersHandedBack.{Outcome, got}
use Rattle.rules.specs.SettingsAndUnitTable.{DIGIT, POINT, is, Card}
use Rattle.rules.specs.ReadingOnePart.{says, gap, sign_step, number_step, exponent_step, unit_step, closes_infinity, infinity_step, numeral_step, spoken_unit_step}
use Rattle.rules.specs.ReadingOnePart as reader

-- document 01's steps, infinity and a spoken number among them
pub data Step : Type 0 where
  sign : Step
  number : Step
  exponent : Step
  before_a_unit : Step
  unit : Step
  infinity : Step
  numeral : Step
  spoken_unit : Step
  connection : Step

-- what a step finds
abbrev pub Found : Step → Type 0
Found sign = Signed
Found number = Number
Found exponent = Scaled
Found before_a_unit = ℕ
Found unit = declared_unit.Unit
Found infinity = ℕ
Found numeral = Numeral
Found spoken_unit = SpokenUnit
Found connection = ℕ

abbrev pub does : Card → List ℕ → (step : Step) → ℕ → Outcome (Found step)
does card text sign p = sign_step card.settings text p
does card text number p = number_step card.settings text p
does card text exponent p = exponent_step card.settings text p
does card text before_a_unit p = gap card.settings.before_unit card.settings text p
does card text unit p = unit_step card text p
does card text infinity p = infinity_step card.settings text p
does card text numeral p = numeral_step card text p
does card text spoken_unit p = spoken_unit_step card text p
does card text connection p = reader.connection card.settings text p

module _ (card : Card) (text : List ℕ) (from : ℕ) where
  abbrev s : Settings
  s = card.settings

  -- the reading of the part that begins at `from` comes to this step at this place
  pub data Comes : Step → ℕ → Type 0 where
    -- 1, unless nothing is there
    begins : ends text from ≡ false → Comes sign from
    -- behind the sign 2, or `inf` if allowed, or else a numeral
    to_number : {p : ℕ} {signed : Signed} → Comes sign p → sign_step s text p ≡ got signed → sees (λ b. is DIGIT b || is POINT b) text signed.next ≡ true → Comes number signed.next
    to_infinity : {p : ℕ} {signed : Signed} → Comes sign p → sign_step s text p ≡ got signed → sees (λ b. is DIGIT b || is POINT b) text signed.next ≡ false → (s.infinity && says (ascii "inf") text signed.next) ≡ true → Comes infinity signed.next
    to_numeral : {p : ℕ} {signed : Signed} → Comes sign p → sign_step s text p ≡ got signed → sees (λ b. is DIGIT b || is POINT b) text signed.next ≡ false → (s.infinity && says (ascii "inf") text signed.next) ≡ false → Comes numeral signed.next
    -- from 2 and 3 to 4, to 5, to 6
    to_exponent : {p : ℕ} {found : Number} → Comes number p → number_step s text p ≡ got found → Comes exponent found.next
    to_gap : {p : ℕ} {found : Scaled} → Comes exponent p → exponent_step s text p ≡ got found → Comes before_a_unit found.next
    to_unit : {p name : ℕ} → Comes before_a_unit p → gap s.before_unit s text p ≡ got name → Comes unit name
    to_spoken_unit : {p : ℕ} {found : Numeral} → Comes numeral p → numeral_step card text p ≡ got found → Comes spoken_unit found.next
    -- and to 7: behind a unit, behind `inf` and behind `infinity`
    behind_unit : {p : ℕ} {found : declared_unit.Unit} → Comes unit p → unit_step card text p ≡ got found → Comes connection found.next
    behind_spoken_unit : {p : ℕ} {found : SpokenUnit} → Comes spoken_unit p → spoken_unit_step card text p ≡ got found → Comes connection found.next
    behind_inf : {i : ℕ} → Comes infinity i → closes_infinity s text (i + 3) ≡ true → Comes connection (i + 3)
    behind_infinity : {i : ℕ} → Comes infinity i → closes_infinity s text (i + 3) ≡ false → says (ascii "inity") text (i + 3) ≡ true → closes_infinity s text (i + 3 + 5) ≡ true → Comes connection (i + 3 + 5)
