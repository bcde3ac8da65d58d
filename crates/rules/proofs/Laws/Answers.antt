-- A refusal's number is not 0, and its length is a plus-signed zero: of every entry, whatever its arguments. Assumes nothing.
use Rattle.std.specs.Prelude.{◌≡◌, refl, ◌≢◌, List, ℕ, length}
use Rattle.std.proofs.Common.{arith}
use Rattle.rules.specs.declared.Length.{Length}
use Rattle.rules.specs.declared.Answer.{Answer}
use Rattle.rules.specs.declared.Refusal.{Refusal}
use Rattle.rules.specs.declared.Refusal.TheVariants.{Nothing, SignEnds, DelimiterEnds, FractionOff, FractionEmpty, ExponentOff, ExponentByte, ExponentEnds, ExponentAbove, ExponentBelow, InfinityByte, InfinityEnds, InfinityGoesOn, ConjunctionEnds, ConjunctionGoesOn, NegativeForbidden, NoNumber, NoUnit, OutOfRange, Delimiters, Conjunctions, DefaultKind, TableSize, BadRow, LineSize, BadLineRow, NumeralsSize, BadNumeral, WrongIndex, WrongLineIndex, TextTooLong, NoRoom, Beyond, Malformed, NotIso, YearOrMonth, TooLarge, NoStoredRow, NameTooLong}
use Rattle.rules.specs.ThePartOfTheCrateWeTake.{zero_length}
use Rattle.rules.specs.NumbersHandedBack.{Outcome, got, refused, number, done, refusal, answered}
use Rattle.rules.specs.SettingsAndUnitTable.{Card}
use Rattle.rules.specs.WriterAndShiftTotal.{writing}
use Rattle.rules.specs.WhatEveryEntryOwes.{read_part, part_answer, read_total, total_answer, write_answer, add_total, shift_answer}

-- the number of a refusal is not 0
pub refusal_number : (cause : Refusal) → number cause ≢ 0
unfolding number
refusal_number (Nothing p) e = omega arith
refusal_number (SignEnds p) e = omega arith
refusal_number (DelimiterEnds p) e = omega arith
refusal_number (FractionOff p) e = omega arith
refusal_number (FractionEmpty p) e = omega arith
refusal_number (ExponentOff p) e = omega arith
refusal_number (ExponentByte p) e = omega arith
refusal_number (ExponentEnds p) e = omega arith
refusal_number (ExponentAbove p) e = omega arith
refusal_number (ExponentBelow p) e = omega arith
refusal_number (InfinityByte p) e = omega arith
refusal_number (InfinityEnds p) e = omega arith
refusal_number (InfinityGoesOn p) e = omega arith
refusal_number (ConjunctionEnds p) e = omega arith
refusal_number (ConjunctionGoesOn p) e = omega arith
refusal_number (NegativeForbidden p) e = omega arith
refusal_number (NoNumber p) e = omega arith
refusal_number (NoUnit p) e = omega arith
refusal_number OutOfRange e = omega arith
refusal_number Delimiters e = omega arith
refusal_number Conjunctions e = omega arith
refusal_number DefaultKind e = omega arith
refusal_number TableSize e = omega arith
refusal_number (BadRow i) e = omega arith
refusal_number LineSize e = omega arith
refusal_number (BadLineRow i) e = omega arith
refusal_number NumeralsSize e = omega arith
refusal_number (BadNumeral i) e = omega arith
refusal_number (WrongIndex k) e = omega arith
refusal_number (WrongLineIndex k) e = omega arith
refusal_number TextTooLong e = omega arith
refusal_number (NoRoom p) e = omega arith
refusal_number (Beyond p) e = omega arith
refusal_number Malformed e = omega arith
refusal_number (NotIso p) e = omega arith
refusal_number (YearOrMonth p) e = omega arith
refusal_number TooLarge e = omega arith
refusal_number (NoStoredRow i) e = omega arith
refusal_number (NameTooLong i) e = omega arith

-- whatever is handed back with a number that is not 0 has a plus-signed zero length
pub refused_zero : {A : Type 0} (show : A → Answer) (m : Outcome A) → ((a : A) → (show a).number ≡ 0) → (answered show m).number ≢ 0 → (answered show m).length ≡ zero_length
unfolding answered refusal
refused_zero show (got a) ok h = absurd (h (ok a))
refused_zero show (refused cause) ok h = refl

pub part_refused : (card : Card) (text : List ℕ) (place : ℕ) → (part_answer card text place).number ≢ 0 → (part_answer card text place).length ≡ zero_length
unfolding part_answer done
part_refused card text place h = refused_zero _ (read_part card text place) (λ r. refl) h

pub total_refused : (card : Card) (text : List ℕ) → (total_answer card text).number ≢ 0 → (total_answer card text).length ≡ zero_length
unfolding total_answer done
total_refused card text h = refused_zero _ (read_total card text) (λ r. refl) h

pub write_refused : (l : Length) (buffer : List ℕ) (place : ℕ) → (write_answer l buffer place).number ≢ 0 → (write_answer l buffer place).length ≡ zero_length
unfolding write_answer done
write_refused l buffer place h = refused_zero _ (writing l buffer place) (λ r. refl) h

pub shift_refused : (so_far : Length) (card : Card) (text : List ℕ) → (shift_answer so_far card text).number ≢ 0 → (shift_answer so_far card text).length ≡ zero_length
unfolding shift_answer done
shift_refused so_far card text h = refused_zero _ (add_total so_far card text) (λ r. refl) h
