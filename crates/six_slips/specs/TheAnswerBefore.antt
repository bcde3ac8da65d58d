-- What was handed back before request six, by document 01's table and the requests up to five: 2 for each of the six slips. Folding 17 to 22
-- back to 2 gives just that, and nothing is handed back with 2 any more: of every entry, whatever its arguments. Assumes nothing.
use Rattle.std.specs.Prelude.{◌≡◌, Bool, ◌≢◌, List, ℕ, length}
use Rattle.rules.specs.declared.Answer.{Answer}
use Rattle.rules.specs.declared.Length.{Length}
use Rattle.rules.specs.declared.Refusal.{Refusal}
use Rattle.rules.specs.declared.Refusal.TheVariants.{Nothing, SignEnds, DelimiterEnds, FractionOff, FractionEmpty, ExponentOff, ExponentByte, ExponentEnds, ExponentAbove, ExponentBelow, InfinityByte, InfinityEnds, InfinityGoesOn, ConjunctionEnds, ConjunctionGoesOn, NegativeForbidden, NoNumber, NoUnit, OutOfRange, Delimiters, Conjunctions, DefaultKind, TableSize, BadRow, LineSize, BadLineRow, NumeralsSize, BadNumeral, WrongIndex, WrongLineIndex, TextTooLong, NoRoom, Beyond, Malformed, NotIso, YearOrMonth, TooLarge, NoStoredRow, NameTooLong}
use Rattle.rules.specs.Common.{when◌then◌else◌, between}
use Rattle.rules.specs.NumbersHandedBack.{position, done}
use Rattle.handed_back.specs.ByAnotherTable.{Table, answered_by}
use Rattle.iso.specs.IsoTimings.{read_iso, writing_iso}

-- ---- as it was

-- written out, so that it does not follow what is handed back now
unfoldable pub number_before : Refusal → ℕ
number_before (Nothing p) = 1
number_before (SignEnds p) = 2
number_before (DelimiterEnds p) = 2
number_before (FractionOff p) = 2
number_before (FractionEmpty p) = 2
number_before (ExponentOff p) = 2
number_before (ExponentByte p) = 2
number_before (ExponentEnds p) = 2
number_before (ExponentAbove p) = 3
number_before (ExponentBelow p) = 4
number_before (InfinityByte p) = 2
number_before (InfinityEnds p) = 2
number_before (InfinityGoesOn p) = 2
number_before (ConjunctionEnds p) = 2
number_before (ConjunctionGoesOn p) = 2
number_before (NegativeForbidden p) = 5
number_before (NoNumber p) = 6
number_before (NoUnit p) = 15
number_before OutOfRange = 16
number_before Delimiters = 7
number_before Conjunctions = 7
number_before DefaultKind = 7
number_before TableSize = 7
number_before (BadRow i) = 7
number_before LineSize = 7
number_before (BadLineRow i) = 7
number_before NumeralsSize = 7
number_before (BadNumeral i) = 7
number_before (WrongIndex k) = 23
number_before (WrongLineIndex k) = 23
number_before TextTooLong = 8
number_before (NoRoom p) = 9
number_before (Beyond p) = 10
number_before Malformed = 11
number_before (NotIso p) = 12
number_before (YearOrMonth p) = 13
number_before TooLarge = 14
number_before (NoStoredRow i) = 24
number_before (NameTooLong i) = 25

-- the positions were as they are
unfoldable pub before : Table
before = record { number = number_before; position = position }

unfoldable pub iso_before : List ℕ → Answer
iso_before text = answered_by before (done (length text)) (read_iso text)

unfoldable pub iso_write_before : Length → List ℕ → ℕ → Answer
iso_write_before l buffer place = answered_by before (λ r. done r.next r.length) (writing_iso l buffer place)

-- ---- folded back: 17 to 22 are 2 again, and nothing else is touched

unfoldable pub slip : ℕ → Bool
slip n = between 17 22 n

unfoldable pub fold_number : ℕ → ℕ
fold_number n = when slip n then 2 else n

unfoldable pub folded : Answer → Answer
folded a = record { number = fold_number a.number; position = a.position; length = a.length }

-- an answer folded is the one before, and its own number is not 2
pub record AsBefore (now old : Answer) : Type 0 where
  pub folds_back : folded now ≡ old
  pub never_two : now.number ≢ 2
