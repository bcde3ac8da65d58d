-- Folding 17 to 22 back to 2 gives just what was handed back before request six, and nothing is handed back with 2 any more: of every entry, whatever
-- its arguments. Assumes nothing.
use Rattle.std.specs.Prelude.{◌≡◌, refl, false, ◌≢◌, List, ℕ, eqb}
use Rattle.std.proofs.Common.{sym, ap, ◌∙◌}
use Rattle.std.proofs.lemmas.Bool.{false≢true}
use Rattle.rules.specs.declared.Answer.{Answer}
use Rattle.rules.specs.declared.Length.{Length}
use Rattle.rules.specs.declared.Refusal.{Refusal}
use Rattle.rules.specs.declared.Refusal.TheVariants.{Nothing, SignEnds, DelimiterEnds, FractionOff, FractionEmpty, ExponentOff, ExponentByte, ExponentEnds, ExponentAbove, ExponentBelow, InfinityByte, InfinityEnds, InfinityGoesOn, ConjunctionEnds, ConjunctionGoesOn, NegativeForbidden, NoNumber, NoUnit, OutOfRange, Delimiters, Conjunctions, DefaultKind, TableSize, BadRow, LineSize, BadLineRow, NumeralsSize, BadNumeral, WrongIndex, WrongLineIndex, TextTooLong, NoRoom, Beyond, Malformed, NotIso, YearOrMonth, TooLarge, NoStoredRow, NameTooLong}
use Rattle.rules.specs.Common.{when◌then◌else◌, between}
use Rattle.rules.specs.NumbersHandedBack.{Outcome, got, refused, number, position, done, refusal, answered}
use Rattle.rules.specs.SettingsAndUnitTable.{Card}
use Rattle.rules.specs.WriterAndShiftTotal.{writing}
use Rattle.rules.specs.WhatEveryEntryOwes.{read_part, part_answer, read_total, total_answer, write_answer, add_total, shift_answer}
use Rattle.handed_back.specs.RefusedWith.{refused_at}
use Rattle.handed_back.specs.ByAnotherTable as by_table
use Rattle.handed_back.specs.ByAnotherTable.{Table, answered_by, part_by, total_by, write_by, shift_by, Folds, part_folded, total_folded, write_folded, shift_folded}
use Rattle.iso.specs.IsoTimings.{read_iso, iso_answer, writing_iso, iso_write_answer}
use Rattle.six_slips.specs.TheAnswerBefore.{number_before, before, iso_before, iso_write_before, slip, fold_number, folded, AsBefore}

-- of each refusal: its number folded is the one before, and it is not 2
number_folded : (cause : Refusal) → (fold_number (number cause) ≡ number_before cause) × (eqb (number cause) 2 ≡ false)
unfolding fold_number slip between when◌then◌else◌ number number_before
number_folded (Nothing p) = (refl, refl)
number_folded (SignEnds p) = (refl, refl)
number_folded (DelimiterEnds p) = (refl, refl)
number_folded (FractionOff p) = (refl, refl)
number_folded (FractionEmpty p) = (refl, refl)
number_folded (ExponentOff p) = (refl, refl)
number_folded (ExponentByte p) = (refl, refl)
number_folded (ExponentEnds p) = (refl, refl)
number_folded (ExponentAbove p) = (refl, refl)
number_folded (ExponentBelow p) = (refl, refl)
number_folded (InfinityByte p) = (refl, refl)
number_folded (InfinityEnds p) = (refl, refl)
number_folded (InfinityGoesOn p) = (refl, refl)
number_folded (ConjunctionEnds p) = (refl, refl)
number_folded (ConjunctionGoesOn p) = (refl, refl)
number_folded (NegativeForbidden p) = (refl, refl)
number_folded (NoNumber p) = (refl, refl)
number_folded (NoUnit p) = (refl, refl)
number_folded OutOfRange = (refl, refl)
number_folded Delimiters = (refl, refl)
number_folded Conjunctions = (refl, refl)
number_folded DefaultKind = (refl, refl)
number_folded TableSize = (refl, refl)
number_folded (BadRow i) = (refl, refl)
number_folded LineSize = (refl, refl)
number_folded (BadLineRow i) = (refl, refl)
number_folded NumeralsSize = (refl, refl)
number_folded (BadNumeral i) = (refl, refl)
number_folded (WrongIndex k) = (refl, refl)
number_folded (WrongLineIndex k) = (refl, refl)
number_folded TextTooLong = (refl, refl)
number_folded (NoRoom p) = (refl, refl)
number_folded (Beyond p) = (refl, refl)
number_folded Malformed = (refl, refl)
number_folded (NotIso p) = (refl, refl)
number_folded (YearOrMonth p) = (refl, refl)
number_folded TooLarge = (refl, refl)
number_folded (NoStoredRow i) = (refl, refl)
number_folded (NameTooLong i) = (refl, refl)

-- of every refusal, and of nothing else
folds : Folds before folded
unfolding before folded fold_number slip between refusal when◌then◌else◌
folds = record {
  refusals = λ cause. ap (λ n. refused_at n (position cause)) (number_folded cause).0;
  others = λ a read. rw read refl;
}

-- whatever is handed back
never : {A : Type 0} (show : A → Answer) (m : Outcome A) → ((a : A) → (show a).number ≡ 0) → (answered show m).number ≢ 2
unfolding answered refusal
never show (got a) read e = false≢true (ap (λ n. eqb n 2) (sym (read a) ∙ e))
never show (refused cause) read e = false≢true (sym (number_folded cause).1 ∙ ap (λ n. eqb n 2) e)

-- ---- the entries

pub part_as_before : (card : Card) (text : List ℕ) (place : ℕ) → AsBefore (part_answer card text place) (part_by before card text place)
unfolding part_answer done
part_as_before card text place = record { folds_back = part_folded before folded folds card text place; never_two = never _ (read_part card text place) (λ r. refl) }

pub total_as_before : (card : Card) (text : List ℕ) → AsBefore (total_answer card text) (total_by before card text)
unfolding total_answer done
total_as_before card text = record { folds_back = total_folded before folded folds card text; never_two = never _ (read_total card text) (λ l. refl) }

pub write_as_before : (l : Length) (buffer : List ℕ) (place : ℕ) → AsBefore (write_answer l buffer place) (write_by before l buffer place)
unfolding write_answer done
write_as_before l buffer place = record { folds_back = write_folded before folded folds l buffer place; never_two = never _ (writing l buffer place) (λ r. refl) }

pub shift_as_before : (so_far : Length) (card : Card) (text : List ℕ) → AsBefore (shift_answer so_far card text) (shift_by before so_far card text)
unfolding shift_answer done
shift_as_before so_far card text = record { folds_back = shift_folded before folded folds so_far card text; never_two = never _ (add_total so_far card text) (λ l. refl) }

pub iso_as_before : (text : List ℕ) → AsBefore (iso_answer text) (iso_before text)
unfolding iso_answer iso_before done
iso_as_before text = record { folds_back = by_table.folded before folded folds _ (read_iso text) (λ l. refl); never_two = never _ (read_iso text) (λ l. refl) }

pub iso_write_as_before : (l : Length) (buffer : List ℕ) (place : ℕ) → AsBefore (iso_write_answer l buffer place) (iso_write_before l buffer place)
unfolding iso_write_answer iso_write_before done
iso_write_as_before l buffer place = record {
  folds_back = by_table.folded before folded folds _ (writing_iso l buffer place) (λ r. refl);
  never_two = never _ (writing_iso l buffer place) (λ r. refl);
}
