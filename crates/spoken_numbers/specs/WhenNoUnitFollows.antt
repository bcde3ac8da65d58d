-- A part is refused by 15 exactly if the steps come to the numeral lookup, it finds a row, a run of inner delimiters that does not end the
-- text follows, and the stretch of step 6 from the byte after it names no row, of the line's table nor of the hall's; and 15 is at that byte. Assumes nothing.
use Rattle.std.specs.Prelude.{◌≡◌, true, false, ◌&&◌, ◌||◌, ℕ, Some}
use mathlib.Core.List.{List, []}
use Rattle.std.proofs.Math.Seq.{slice}
use Rattle.rules.specs.declared.Signed.{Signed}
use Rattle.rules.specs.Common.{ascii, ends, sees, run}
use Rattle.rules.specs.NumbersHandedBack.{got}
use Rattle.rules.specs.SettingsAndUnitTable.{DIGIT, POINT, is, holds, Card, lookup}
use Rattle.rules.specs.ReadingOnePart.{says, sign_step, find_unit, numeral_end}

-- ---- a numeral without a unit

-- the steps come to the numeral lookup: behind the sign stands no digit, no point and no allowed infinity
pub record NumeralAsked (card : Card) (text : List ℕ) (place : ℕ) (signed : Signed) : Type 0 where
  pub not_at_end : ends text place ≡ false
  pub sign : sign_step card.settings text place ≡ got signed
  pub no_number : sees (λ b. is DIGIT b || is POINT b) text signed.next ≡ false
  pub no_infinity : (card.settings.infinity && says (ascii "inf") text signed.next) ≡ false

-- the stretch from a place on is the name of row i of the numerals; a run of inner delimiters follows, which does not end the text: q is
-- the byte after it
pub record NumeralAt (card : Card) (text : List ℕ) (place i q : ℕ) : Type 0 where
  pub found : lookup card.numerals (slice place (numeral_end card.settings text place) text) ≡ Some i
  pub followed : sees (holds card.settings.inner) text (numeral_end card.settings text place) ≡ true
  pub behind : run (holds card.settings.inner) text (numeral_end card.settings text place) ≡ q
  pub goes_on : ends text q ≡ false

-- the part that begins at a place has a numeral and no unit at q
pub record NoUnitAt (card : Card) (text : List ℕ) (place q : ℕ) : Type 0 where
  pub signed : Signed
  pub asked : NumeralAsked card text place signed
  pub i : ℕ
  pub numeral : NumeralAt card text signed.next i q
  pub no_unit : find_unit card text q ≡ []
