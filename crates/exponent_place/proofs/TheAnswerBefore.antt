-- Folding the place of 3 and 4 back to 0 gives just what was handed back before request three, of every entry that document 01 has, whatever its
-- arguments. Assumes nothing.
use Rattle.std.specs.Prelude.{◌≡◌, refl, List, ℕ}
use Rattle.std.proofs.Common.{ap}
use Rattle.rules.specs.declared.Length.{Length}
use Rattle.rules.specs.declared.Refusal.{Refusal}
use Rattle.rules.specs.declared.Refusal.TheVariants.{Nothing, SignEnds, DelimiterEnds, FractionOff, FractionEmpty, ExponentOff, ExponentByte, ExponentEnds, ExponentAbove, ExponentBelow, InfinityByte, InfinityEnds, InfinityGoesOn, ConjunctionEnds, ConjunctionGoesOn, NegativeForbidden, NoNumber, NoUnit, OutOfRange, Delimiters, Conjunctions, DefaultKind, TableSize, BadRow, LineSize, BadLineRow, NumeralsSize, BadNumeral, WrongIndex, WrongLineIndex, TextTooLong, NoRoom, Beyond, Malformed, NotIso, YearOrMonth, TooLarge, NoStoredRow, NameTooLong}
use Rattle.rules.specs.Common.{when◌then◌else◌}
use Rattle.rules.specs.NumbersHandedBack.{number, position, refusal}
use Rattle.rules.specs.SettingsAndUnitTable.{Card}
use Rattle.rules.specs.WhatEveryEntryOwes.{part_answer, total_answer, write_answer, shift_answer}
use Rattle.handed_back.specs.RefusedWith.{refused_at}
use Rattle.handed_back.specs.ByAnotherTable as by_table
use Rattle.handed_back.specs.ByAnotherTable.{Table, answered_by, part_by, total_by, write_by, shift_by, Folds}
use Rattle.exponent_place.specs.TheWrongDigit.{out_of_range}
use Rattle.exponent_place.specs.TheAnswerBefore.{position_before, before, fold_position, folded}

position_folded : (cause : Refusal) → fold_position (number cause) (position cause) ≡ position_before cause
unfolding fold_position out_of_range when◌then◌else◌ number position position_before
position_folded (Nothing p) = refl
position_folded (SignEnds p) = refl
position_folded (DelimiterEnds p) = refl
position_folded (FractionOff p) = refl
position_folded (FractionEmpty p) = refl
position_folded (ExponentOff p) = refl
position_folded (ExponentByte p) = refl
position_folded (ExponentEnds p) = refl
position_folded (ExponentAbove p) = refl
position_folded (ExponentBelow p) = refl
position_folded (InfinityByte p) = refl
position_folded (InfinityEnds p) = refl
position_folded (InfinityGoesOn p) = refl
position_folded (ConjunctionEnds p) = refl
position_folded (ConjunctionGoesOn p) = refl
position_folded (NegativeForbidden p) = refl
position_folded (NoNumber p) = refl
position_folded (NoUnit p) = refl
position_folded OutOfRange = refl
position_folded Delimiters = refl
position_folded Conjunctions = refl
position_folded DefaultKind = refl
position_folded TableSize = refl
position_folded (BadRow i) = refl
position_folded LineSize = refl
position_folded (BadLineRow i) = refl
position_folded NumeralsSize = refl
position_folded (BadNumeral i) = refl
position_folded (WrongIndex k) = refl
position_folded (WrongLineIndex k) = refl
position_folded TextTooLong = refl
position_folded (NoRoom p) = refl
position_folded (Beyond p) = refl
position_folded Malformed = refl
position_folded (NotIso p) = refl
position_folded (YearOrMonth p) = refl
position_folded TooLarge = refl
position_folded (NoStoredRow i) = refl
position_folded (NameTooLong i) = refl

-- of every refusal, and of nothing else
folds : Folds before folded
unfolding before folded fold_position refusal out_of_range when◌then◌else◌
folds = record {
  refusals = λ cause. ap (λ place. refused_at (number cause) place) (position_folded cause);
  others = λ a read. rw read refl;
}

-- ---- the entries

pub part_folded : (card : Card) (text : List ℕ) (place : ℕ) → folded (part_answer card text place) ≡ part_by before card text place
part_folded = by_table.part_folded before folded folds

pub total_folded : (card : Card) (text : List ℕ) → folded (total_answer card text) ≡ total_by before card text
total_folded = by_table.total_folded before folded folds

pub write_folded : (l : Length) (buffer : List ℕ) (place : ℕ) → folded (write_answer l buffer place) ≡ write_by before l buffer place
write_folded = by_table.write_folded before folded folds

pub shift_folded : (so_far : Length) (card : Card) (text : List ℕ) → folded (shift_answer so_far card text) ≡ shift_by before so_far card text
shift_folded = by_table.shift_folded before folded folds
