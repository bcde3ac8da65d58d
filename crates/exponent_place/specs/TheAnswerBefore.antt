-- What was handed back before request three, by document 01's table: 3 and 4 at position 0. Folding the place back to 0 gives just that,
-- of every entry that document 01 has, whatever its arguments. Assumes nothing.
use Rattle.std.specs.Prelude.{Bool, ◌&&◌, ℕ, ◌+◌, T}
use Prim.Native.String.{String}
use Rattle.rules.specs.declared.Answer.{Answer}
use Rattle.rules.specs.declared.Refusal.{Refusal}
use Rattle.rules.specs.declared.Refusal.TheVariants.{Nothing, SignEnds, DelimiterEnds, FractionOff, FractionEmpty, ExponentOff, ExponentByte, ExponentEnds, ExponentAbove, ExponentBelow, InfinityByte, InfinityEnds, InfinityGoesOn, ConjunctionEnds, ConjunctionGoesOn, NegativeForbidden, NoNumber, NoUnit, OutOfRange, Delimiters, Conjunctions, DefaultKind, TableSize, BadRow, LineSize, BadLineRow, NumeralsSize, BadNumeral, WrongIndex, WrongLineIndex, TextTooLong, NoRoom, Beyond, Malformed, NotIso, YearOrMonth, TooLarge, NoStoredRow, NameTooLong}
use Rattle.rules.specs.Common.{when◌then◌else◌, ascii}
use Rattle.rules.specs.ThePartOfTheCrateWeTake.{longest_text}
use Rattle.rules.specs.NumbersHandedBack.{number, position}
use Rattle.rules.specs.WhatEveryEntryOwes.{total_answer}
use Rattle.rules.specs.Computing.{computing}
use Rattle.rules.specs.CardAAndItsReadings.{space, conjunction, settings, settings_A, row_of, table_A, unspoken, card_A, same_length, same_answer, fails}
use Rattle.handed_back.specs.ByAnotherTable.{Table, answered_by, total_by}
use Rattle.exponent_place.specs.TheWrongDigit.{out_of_range}

-- ---- as it was

-- written out, so that it does not follow what is handed back now; what later requests refuse has the place that they give it
unfoldable pub position_before : Refusal → ℕ
position_before (Nothing p) = p
position_before (SignEnds p) = p
position_before (DelimiterEnds p) = p
position_before (FractionOff p) = p
position_before (FractionEmpty p) = p
position_before (ExponentOff p) = p
position_before (ExponentByte p) = p
position_before (ExponentEnds p) = p
position_before (ExponentAbove p) = 0
position_before (ExponentBelow p) = 0
position_before (InfinityByte p) = p
position_before (InfinityEnds p) = p
position_before (InfinityGoesOn p) = p
position_before (ConjunctionEnds p) = p
position_before (ConjunctionGoesOn p) = p
position_before (NegativeForbidden p) = 0
position_before (NoNumber p) = p
position_before (NoUnit p) = p
position_before OutOfRange = 0
position_before Delimiters = 65
position_before Conjunctions = 66
position_before DefaultKind = 67
position_before TableSize = 64
position_before (BadRow i) = i
position_before LineSize = 128 + 64
position_before (BadLineRow i) = 128 + i
position_before NumeralsSize = 100
position_before (BadNumeral i) = 68 + i
position_before (WrongIndex k) = k
position_before (WrongLineIndex k) = 128 + k
position_before TextTooLong = longest_text
position_before (NoRoom p) = p
position_before (Beyond p) = p
position_before Malformed = 0
position_before (NotIso p) = p
position_before (YearOrMonth p) = p
position_before TooLarge = 0
position_before (NoStoredRow i) = i
position_before (NameTooLong i) = i

-- the numbers were as they are
unfoldable pub before : Table
before = record { number = number; position = position_before }

-- ---- folded back: the place of 3 and 4 is 0 again, and nothing else is touched

unfoldable pub fold_position : ℕ → ℕ → ℕ
fold_position number position = when out_of_range number then 0 else position

unfoldable pub folded : Answer → Answer
folded a = record { number = a.number; position = fold_position a.number a.position; length = a.length }

-- ---- computed

-- an exponent out of range was handed back with 0, and a wrong byte in one with its place, as now
unfoldable pub was : String → ℕ → ℕ → Bool
was text n p =
    same_answer (total_by before card_A (ascii text)) (fails text n p).comes_to
    && same_answer (folded (total_answer card_A (ascii text))) (fails text n p).comes_to

pub was_before : T (was "1e-0032769" 4 0 && was "1s 1e99999s" 3 0 && was "1s 1e-x" 21 6 && was "1s 1e9 x" 6 7)
unfolding computing space conjunction settings settings_A row_of table_A unspoken card_A same_length same_answer fails was position_before before answered_by total_by fold_position folded out_of_range
was_before = tt
