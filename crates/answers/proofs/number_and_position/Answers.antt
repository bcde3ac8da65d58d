-- `answers::number_and_position` meets its contract: in each arm the cause is known, and its number and position compute.
-- Assumes nothing.
use mathlib.Core.Path.{◌≡◌, sym, ap}
use borrow.Author.Rules.{rules}
use Rattle.rules.specs.declared.Refusal.{Refusal}
use Rattle.rules.specs.NumbersHandedBack.{number, position}
use Rattle.answers.proofs.number_and_position.Goals as goal

told : {cause known : Refusal} → cause ≡ known → (number known ≡ number cause) × (position known ≡ position cause)
told e = (ap number (sym e), ap position (sym e))

pub enum_known-cause : goal.enum_known-cause
unfolding number position
enum_known-cause c = search rules

pub enum_known-cause-in-SignEnds-1 : goal.enum_known-cause-in-SignEnds-1
unfolding number position
enum_known-cause-in-SignEnds-1 c = search rules

pub enum_known-cause-in-DelimiterEnds-1 : goal.enum_known-cause-in-DelimiterEnds-1
unfolding number position
enum_known-cause-in-DelimiterEnds-1 c = search rules

pub enum_known-cause-in-FractionOff-1 : goal.enum_known-cause-in-FractionOff-1
unfolding number position
enum_known-cause-in-FractionOff-1 c = search rules

pub enum_known-cause-in-FractionEmpty-1 : goal.enum_known-cause-in-FractionEmpty-1
unfolding number position
enum_known-cause-in-FractionEmpty-1 c = search rules

pub enum_known-cause-in-ExponentOff-1 : goal.enum_known-cause-in-ExponentOff-1
unfolding number position
enum_known-cause-in-ExponentOff-1 c = search rules

pub enum_known-cause-in-ExponentByte-1 : goal.enum_known-cause-in-ExponentByte-1
unfolding number position
enum_known-cause-in-ExponentByte-1 c = search rules

pub enum_known-cause-in-ExponentEnds-1 : goal.enum_known-cause-in-ExponentEnds-1
unfolding number position
enum_known-cause-in-ExponentEnds-1 c = search rules

pub enum_known-cause-in-ExponentAbove-1 : goal.enum_known-cause-in-ExponentAbove-1
unfolding number position
enum_known-cause-in-ExponentAbove-1 c = search rules

pub enum_known-cause-in-ExponentBelow-1 : goal.enum_known-cause-in-ExponentBelow-1
unfolding number position
enum_known-cause-in-ExponentBelow-1 c = search rules

pub enum_known-cause-in-InfinityByte-1 : goal.enum_known-cause-in-InfinityByte-1
unfolding number position
enum_known-cause-in-InfinityByte-1 c = search rules

pub enum_known-cause-in-InfinityEnds-1 : goal.enum_known-cause-in-InfinityEnds-1
unfolding number position
enum_known-cause-in-InfinityEnds-1 c = search rules

pub enum_known-cause-in-InfinityGoesOn-1 : goal.enum_known-cause-in-InfinityGoesOn-1
unfolding number position
enum_known-cause-in-InfinityGoesOn-1 c = search rules

pub enum_known-cause-in-ConjunctionEnds-1 : goal.enum_known-cause-in-ConjunctionEnds-1
unfolding number position
enum_known-cause-in-ConjunctionEnds-1 c = search rules

pub enum_known-cause-in-ConjunctionGoesOn-1 : goal.enum_known-cause-in-ConjunctionGoesOn-1
unfolding number position
enum_known-cause-in-ConjunctionGoesOn-1 c = search rules

pub enum_told-1 : goal.enum_told-1
unfolding number position
enum_told-1 c = search rules

pub enum_known-cause-in-NoNumber-1 : goal.enum_known-cause-in-NoNumber-1
unfolding number position
enum_known-cause-in-NoNumber-1 c = search rules

pub enum_known-cause-in-NoUnit-1 : goal.enum_known-cause-in-NoUnit-1
unfolding number position
enum_known-cause-in-NoUnit-1 c = search rules

pub enum_told-in-OutOfRange : goal.enum_told-in-OutOfRange
unfolding number position
enum_told-in-OutOfRange c = search rules

pub enum_told-in-Delimiters : goal.enum_told-in-Delimiters
unfolding number position
enum_told-in-Delimiters c = search rules

pub enum_told-in-Conjunctions : goal.enum_told-in-Conjunctions
unfolding number position
enum_told-in-Conjunctions c = search rules

pub enum_told-in-DefaultKind : goal.enum_told-in-DefaultKind
unfolding number position
enum_told-in-DefaultKind c = search rules

pub enum_told-in-TableSize : goal.enum_told-in-TableSize
unfolding number position
enum_told-in-TableSize c = search rules

pub enum_known-cause-in-BadRow-1 : goal.enum_known-cause-in-BadRow-1
unfolding number position
enum_known-cause-in-BadRow-1 c = search rules

pub enum_told-in-LineSize : goal.enum_told-in-LineSize
unfolding number position
enum_told-in-LineSize c = search rules

pub enum_known-cause-in-BadLineRow-1 : goal.enum_known-cause-in-BadLineRow-1
unfolding number position
enum_known-cause-in-BadLineRow-1 c = search rules

pub overflow_cast-result : goal.overflow_cast-result
unfolding number position
overflow_cast-result c = search rules

pub overflow_add-result : goal.overflow_add-result
unfolding number position
overflow_add-result c = search rules

pub enum_told-in-NumeralsSize : goal.enum_told-in-NumeralsSize
unfolding number position
enum_told-in-NumeralsSize c = search rules

pub enum_known-cause-in-BadNumeral-1 : goal.enum_known-cause-in-BadNumeral-1
unfolding number position
enum_known-cause-in-BadNumeral-1 c = search rules

pub overflow_cast-result-in-BadNumeral : goal.overflow_cast-result-in-BadNumeral
unfolding number position
overflow_cast-result-in-BadNumeral c = search rules

pub overflow_add-result-in-BadNumeral : goal.overflow_add-result-in-BadNumeral
unfolding number position
overflow_add-result-in-BadNumeral c = search rules

pub enum_known-cause-in-WrongIndex-1 : goal.enum_known-cause-in-WrongIndex-1
unfolding number position
enum_known-cause-in-WrongIndex-1 c = search rules

pub overflow_cast-result-in-WrongIndex : goal.overflow_cast-result-in-WrongIndex
unfolding number position
overflow_cast-result-in-WrongIndex c = search rules

pub enum_known-cause-in-WrongLineIndex-1 : goal.enum_known-cause-in-WrongLineIndex-1
unfolding number position
enum_known-cause-in-WrongLineIndex-1 c = search rules

pub overflow_cast-result-in-WrongLineIndex : goal.overflow_cast-result-in-WrongLineIndex
unfolding number position
overflow_cast-result-in-WrongLineIndex c = search rules

pub overflow_add-result-in-WrongLineIndex : goal.overflow_add-result-in-WrongLineIndex
unfolding number position
overflow_add-result-in-WrongLineIndex c = search rules

pub enum_told-in-TextTooLong : goal.enum_told-in-TextTooLong
unfolding number position
enum_told-in-TextTooLong c = search rules

pub enum_known-cause-in-NoRoom-1 : goal.enum_known-cause-in-NoRoom-1
unfolding number position
enum_known-cause-in-NoRoom-1 c = search rules

pub enum_known-cause-in-Beyond-1 : goal.enum_known-cause-in-Beyond-1
unfolding number position
enum_known-cause-in-Beyond-1 c = search rules

pub enum_told-in-Malformed : goal.enum_told-in-Malformed
unfolding number position
enum_told-in-Malformed c = search rules

pub enum_known-cause-in-NotIso-1 : goal.enum_known-cause-in-NotIso-1
unfolding number position
enum_known-cause-in-NotIso-1 c = search rules

pub enum_known-cause-in-YearOrMonth-1 : goal.enum_known-cause-in-YearOrMonth-1
unfolding number position
enum_known-cause-in-YearOrMonth-1 c = search rules

pub enum_told-in-TooLarge : goal.enum_told-in-TooLarge
unfolding number position
enum_told-in-TooLarge c = search rules

pub enum_known-cause-in-NoStoredRow-1 : goal.enum_known-cause-in-NoStoredRow-1
unfolding number position
enum_known-cause-in-NoStoredRow-1 c = search rules

pub enum_known-cause-in-NameTooLong-1 : goal.enum_known-cause-in-NameTooLong-1
unfolding number position
enum_known-cause-in-NameTooLong-1 c = search rules

pub returns-in-Nothing : goal.returns-in-Nothing
unfolding number position
returns-in-Nothing c = told c.in-Nothing.is

pub returns-in-SignEnds : goal.returns-in-SignEnds
unfolding number position
returns-in-SignEnds c = told c.in-SignEnds.is

pub returns-in-DelimiterEnds : goal.returns-in-DelimiterEnds
unfolding number position
returns-in-DelimiterEnds c = told c.in-DelimiterEnds.is

pub returns-in-FractionOff : goal.returns-in-FractionOff
unfolding number position
returns-in-FractionOff c = told c.in-FractionOff.is

pub returns-in-FractionEmpty : goal.returns-in-FractionEmpty
unfolding number position
returns-in-FractionEmpty c = told c.in-FractionEmpty.is

pub returns-in-ExponentOff : goal.returns-in-ExponentOff
unfolding number position
returns-in-ExponentOff c = told c.in-ExponentOff.is

pub returns-in-ExponentByte : goal.returns-in-ExponentByte
unfolding number position
returns-in-ExponentByte c = told c.in-ExponentByte.is

pub returns-in-ExponentEnds : goal.returns-in-ExponentEnds
unfolding number position
returns-in-ExponentEnds c = told c.in-ExponentEnds.is

pub returns-in-ExponentAbove : goal.returns-in-ExponentAbove
unfolding number position
returns-in-ExponentAbove c = told c.in-ExponentAbove.is

pub returns-in-ExponentBelow : goal.returns-in-ExponentBelow
unfolding number position
returns-in-ExponentBelow c = told c.in-ExponentBelow.is

pub returns-in-InfinityByte : goal.returns-in-InfinityByte
unfolding number position
returns-in-InfinityByte c = told c.in-InfinityByte.is

pub returns-in-InfinityEnds : goal.returns-in-InfinityEnds
unfolding number position
returns-in-InfinityEnds c = told c.in-InfinityEnds.is

pub returns-in-InfinityGoesOn : goal.returns-in-InfinityGoesOn
unfolding number position
returns-in-InfinityGoesOn c = told c.in-InfinityGoesOn.is

pub returns-in-ConjunctionEnds : goal.returns-in-ConjunctionEnds
unfolding number position
returns-in-ConjunctionEnds c = told c.in-ConjunctionEnds.is

pub returns-in-ConjunctionGoesOn : goal.returns-in-ConjunctionGoesOn
unfolding number position
returns-in-ConjunctionGoesOn c = told c.in-ConjunctionGoesOn.is

pub returns-in-NegativeForbidden : goal.returns-in-NegativeForbidden
unfolding number position
returns-in-NegativeForbidden c = told c.in-NegativeForbidden.is

pub returns-in-NoNumber : goal.returns-in-NoNumber
unfolding number position
returns-in-NoNumber c = told c.in-NoNumber.is

pub returns-in-NoUnit : goal.returns-in-NoUnit
unfolding number position
returns-in-NoUnit c = told c.in-NoUnit.is

pub returns-in-OutOfRange : goal.returns-in-OutOfRange
unfolding number position
returns-in-OutOfRange c = told c.in-OutOfRange.is

pub returns-in-Delimiters : goal.returns-in-Delimiters
unfolding number position
returns-in-Delimiters c = told c.in-Delimiters.is

pub returns-in-Conjunctions : goal.returns-in-Conjunctions
unfolding number position
returns-in-Conjunctions c = told c.in-Conjunctions.is

pub returns-in-DefaultKind : goal.returns-in-DefaultKind
unfolding number position
returns-in-DefaultKind c = told c.in-DefaultKind.is

pub returns-in-TableSize : goal.returns-in-TableSize
unfolding number position
returns-in-TableSize c = told c.in-TableSize.is

pub returns-in-BadRow : goal.returns-in-BadRow
unfolding number position
returns-in-BadRow c = told c.in-BadRow.is

pub returns-in-LineSize : goal.returns-in-LineSize
unfolding number position
returns-in-LineSize c = told c.in-LineSize.is

pub returns-in-BadLineRow : goal.returns-in-BadLineRow
unfolding number position
returns-in-BadLineRow c = told c.in-BadLineRow.is

pub returns-in-NumeralsSize : goal.returns-in-NumeralsSize
unfolding number position
returns-in-NumeralsSize c = told c.in-NumeralsSize.is

pub returns-in-BadNumeral : goal.returns-in-BadNumeral
unfolding number position
returns-in-BadNumeral c = told c.in-BadNumeral.is

pub returns-in-WrongIndex : goal.returns-in-WrongIndex
unfolding number position
returns-in-WrongIndex c = told c.in-WrongIndex.is

pub returns-in-WrongLineIndex : goal.returns-in-WrongLineIndex
unfolding number position
returns-in-WrongLineIndex c = told c.in-WrongLineIndex.is

pub returns-in-TextTooLong : goal.returns-in-TextTooLong
unfolding number position
returns-in-TextTooLong c = told c.in-TextTooLong.is

pub returns-in-NoRoom : goal.returns-in-NoRoom
unfolding number position
returns-in-NoRoom c = told c.in-NoRoom.is

pub returns-in-Beyond : goal.returns-in-Beyond
unfolding number position
returns-in-Beyond c = told c.in-Beyond.is

pub returns-in-Malformed : goal.returns-in-Malformed
unfolding number position
returns-in-Malformed c = told c.in-Malformed.is

pub returns-in-NotIso : goal.returns-in-NotIso
unfolding number position
returns-in-NotIso c = told c.in-NotIso.is

pub returns-in-YearOrMonth : goal.returns-in-YearOrMonth
unfolding number position
returns-in-YearOrMonth c = told c.in-YearOrMonth.is

pub returns-in-TooLarge : goal.returns-in-TooLarge
unfolding number position
returns-in-TooLarge c = told c.in-TooLarge.is

pub returns-in-NoStoredRow : goal.returns-in-NoStoredRow
unfolding number position
returns-in-NoStoredRow c = told c.in-NoStoredRow.is

pub returns-in-NameTooLong : goal.returns-in-NameTooLong
unfolding number position
returns-in-NameTooLong c = told c.in-NameTooLong.is
