-- Laws of single bytes: what class a byte has, told by comparisons. Each is one computation over all 256. Assumes nothing.
use Rattle.std.specs.Prelude.{◌≡◌, refl, Bool, true, false, not, ◌&&◌, ◌||◌, ℕ, ◌<◌, eqb}
use Rattle.std.proofs.Common.{sym, ap, ◌∙◌, arith, ne_eqb, eqb-true}
use Rattle.std.proofs.lemmas.Bool.{false≢true, not-true}
use Rattle.std.specs.Int.Bits.{bit_or}
use Rattle.rules.specs.Common.{when◌then◌else◌, between}
use Rattle.rules.specs.SettingsAndUnitTable.{SIGN, POINT, LETTER, class, is, lower}
use Rattle.rules.specs.ReadingOnePart.{same_letter}
use Rattle.rules.proofs.Laws.Choices.{and_left, and_right}
use Rattle.rules.proofs.Laws.Lists.{runs_below}
use Rattle.settings.specs.Laws.Sets.{runs, agree}

pub sign_byte : (b : ℕ) → b < 256 → is SIGN b ≡ (eqb b 43 || eqb b 45)
unfolding runs is class between when◌then◌else◌
sign_byte b h = agree (is SIGN) (λ b. eqb b 43 || eqb b 45) 0 256 refl b (omega arith) h

pub point_byte : (b : ℕ) → b < 256 → is POINT b ≡ eqb b 46
unfolding runs is class between when◌then◌else◌
point_byte b h = agree (is POINT) (λ b. eqb b 46) 0 256 refl b (omega arith) h

-- ---- letters in any case

-- a letter with the bit of its case set is its lower case, and a letter; of no other byte is the one or the other a letter
folds : ℕ → Bool
folds b = when is LETTER b then eqb (lower b) (bit_or b 32) && is LETTER (lower b) else not (is LETTER (lower b)) && not (is LETTER (bit_or b 32))

all_fold : (b : ℕ) → b < 256 → folds b ≡ true
unfolding folds runs is class between lower when◌then◌else◌
all_fold b h = runs_below folds 256 b refl h

letter_folds : (b : ℕ) → b < 256 → is LETTER b ≡ true → (lower b ≡ bit_or b 32) × (is LETTER (lower b) ≡ true)
unfolding folds when◌then◌else◌
letter_folds b h e =
    let both = rw e at (all_fold b h) in
    (eqb-true _ _ (and_left (eqb (lower b) (bit_or b 32)) (is LETTER (lower b)) both), and_right (eqb (lower b) (bit_or b 32)) (is LETTER (lower b)) both)

other_folds : (b : ℕ) → b < 256 → is LETTER b ≡ false → (is LETTER (lower b) ≡ false) × (is LETTER (bit_or b 32) ≡ false)
unfolding folds when◌then◌else◌
other_folds b h e =
    let both = rw e at (all_fold b h) in
    (not-true _ (and_left (not (is LETTER (lower b))) (not (is LETTER (bit_or b 32))) both), not-true _ (and_right (not (is LETTER (lower b))) (not (is LETTER (bit_or b 32))) both))

-- so one operation compares a letter with a byte in any case
pub letter_bit : (letter b : ℕ) → letter < 256 → b < 256 → is LETTER letter ≡ true → eqb (bit_or letter 32) (bit_or b 32) ≡ same_letter letter b
unfolding same_letter
letter_bit letter b fits h e = go (is LETTER b) refl
  where
    folded : lower letter ≡ bit_or letter 32
    folded = (letter_folds letter fits e).0

    small : is LETTER (lower letter) ≡ true
    small = (letter_folds letter fits e).1

    go : (t : Bool) → is LETTER b ≡ t → eqb (bit_or letter 32) (bit_or b 32) ≡ eqb (lower letter) (lower b)
    go true l = rw (folded, (letter_folds b h l).0)
    go false l =
        let (lower_none, bit_none) = other_folds b h l in
        ne_eqb _ _ (λ same. false≢true (sym bit_none ∙ ap (is LETTER) (sym same) ∙ ap (is LETTER) (sym folded) ∙ small))
        ∙ sym (ne_eqb _ _ (λ same. false≢true (sym lower_none ∙ ap (is LETTER) (sym same) ∙ small)))
