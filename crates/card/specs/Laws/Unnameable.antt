-- Laws of the bytes that no name holds, as one set, and of those below 128 that no numeral holds. Assumes nothing.
use Rattle.std.specs.Prelude.{◌≡◌, refl, Bool, true, false, not, ◌&&◌, ◌||◌, ℕ, ◌<◌}
use Rattle.std.proofs.Common.{sym, ◌∙◌, arith, eqb-true}
use Rattle.std.specs.Bool.{beq}
use Rattle.std.proofs.lemmas.Bool.{not-true}
use Rattle.rules.specs.declared.ByteSet.{ByteSet}
use Rattle.rules.specs.declared.Settings.{Settings}
use Rattle.rules.specs.Common.{when◌then◌else◌, between}
use Rattle.rules.specs.SettingsAndUnitTable.{DIGIT, SIGN, POINT, LETTER, may_delimit, may_name, class, is, word, holds, settings_check}
use Rattle.rules.specs.NumbersHandedBack.{got}
use Rattle.rules.proofs.Laws.Choices.{and_left}
use Rattle.rules.proofs.Laws.Tests.{or_assoc}
use Rattle.settings.specs.Sets.{passes}
use Rattle.settings.specs.Laws.Sets.{runs, agree, either_holds, first_word}
use Rattle.settings.specs.Laws.Accepted.{delimiter_class, inner_delimits, outer_delimits}
use Rattle.card.specs.Fields.{Letterless, number_set, unnameable, no_letters}

of_a_number : ℕ → Bool
of_a_number b = is DIGIT b || is SIGN b || is POINT b

number_holds : (b : ℕ) → b < 256 → holds number_set b ≡ of_a_number b
unfolding runs number_set of_a_number is class between when◌then◌else◌
number_holds b h = first_word 288063250384289792 of_a_number refl refl b h

pub outside : (set : ByteSet) (b : ℕ) → passes set false b ≡ not (holds set b)
unfolding passes
outside set b = go (holds set b)
  where
    go : (held : Bool) → beq held false ≡ not held
    go true = refl
    go false = refl

-- what that set holds none of is what a name may hold
pub outside_names : (s : Settings) (b : ℕ) → b < 256 → passes (unnameable s) false b ≡ may_name s b
unfolding may_name unnameable of_a_number
outside_names s b h = outside (unnameable s) b ∙ rw (either_holds, either_holds, number_holds b h) (simp or_assoc)

-- and a byte below 128 that the other set does not hold is a letter
pub outside_letters : (b : ℕ) → b < 256 → (passes no_letters false b && between 0 127 b) ≡ is LETTER b
unfolding passes no_letters holds word runs is class between when◌then◌else◌
outside_letters b h = agree (λ b. passes no_letters false b && between 0 127 b) (is LETTER) 0 256 refl b (omega arith) h

-- ---- sets without letters

-- a delimiter is none, nor is a byte of a number
letter_apart : (b : ℕ) → is LETTER b ≡ true → (of_a_number b ≡ false) × (may_delimit b ≡ true → ⊥)
unfolding of_a_number is
letter_apart b letter =
    let class_of : class b ≡ LETTER = eqb-true (class b) LETTER letter in
    (rw class_of refl, λ delimits. omega (arith, class_of, delimiter_class b delimits))

-- so a set that holds delimiters alone holds none
letter_outside : (set : ByteSet) → ((b : ℕ) → b < 256 → holds set b ≡ true → may_delimit b ≡ true) → Letterless set
letter_outside set delimiters b h letter = go (holds set b) refl
  where
    go : (held : Bool) → holds set b ≡ held → held ≡ false
    go true e = absurd ((letter_apart b letter).1 (delimiters b h e))
    go false e = refl

pub unnameable_letterless : (s : Settings) → settings_check s ≡ got tt → Letterless (unnameable s)
unfolding unnameable
unnameable_letterless s good b h letter =
    rw (
      either_holds,
      either_holds,
      letter_outside s.inner (inner_delimits s good) b h letter,
      letter_outside s.outer (outer_delimits s good) b h letter,
      number_holds b h,
      (letter_apart b letter).0,
    )

pub no_letters_letterless : Letterless no_letters
no_letters_letterless b h letter =
    not-true (holds no_letters b) (sym (outside no_letters b) ∙ and_left (passes no_letters false b) (between 0 127 b) (outside_letters b h ∙ letter))
