-- The examples of request one, computed. Assumes nothing.
use Rattle.std.specs.Prelude.{◌≡◌, refl, Bool, true, false, ◌&&◌, [], ◌∷◌, ℕ, eqb, replicate}
use Prim.Native.String.{String}
use Rattle.rules.specs.declared.Refusal.TheVariants.{TextTooLong, NotIso}
use Rattle.rules.specs.Common.{ascii, all, same}
use Rattle.rules.specs.NumbersHandedBack.{refusal}
use Rattle.iso.specs.IsoTimings.{iso_answer, iso_written}
use Rattle.iso.specs.Computing.{computing_iso}

-- a text, and its number, position, seconds and nanoseconds
pub record Example : Type 0 where
  pub text : String
  pub number : ℕ
  pub position : ℕ
  pub seconds : ℕ
  pub nanoseconds : ℕ

unfoldable pub agrees : Example → Bool
agrees e =
    let a = iso_answer (ascii e.text) in
    eqb a.number e.number && eqb a.position e.position && eqb a.length.seconds e.seconds && eqb a.length.nanoseconds e.nanoseconds

abbrev refused_at : String → ℕ → ℕ → Example
refused_at text number position = record { text = text; number = number; position = position; seconds = 0; nanoseconds = 0 }

abbrev read_to : String → ℕ → ℕ → ℕ → Example
read_to text size seconds nanoseconds = record { text = text; number = 0; position = size; seconds = seconds; nanoseconds = nanoseconds }

pub refusals : all agrees (
    refused_at "P1Y" 13 2
    ∷ refused_at "P1.5M" 13 4
    ∷ refused_at "PT1Y" 12 3
    ∷ refused_at "P1D1M" 12 3
    ∷ refused_at "PY" 12 1
    ∷ refused_at "P1.Y" 12 3
    ∷ refused_at "PT1.5H3M" 12 6
    ∷ refused_at "PT1M1H" 12 5
    ∷ refused_at "PT1S1M" 12 4
    ∷ refused_at "P1W1D" 12 3
    ∷ refused_at "P1WT1S" 12 3
    ∷ refused_at "P1DT" 12 4
    ∷ refused_at "P" 12 1
    ∷ refused_at "PT.5S" 12 2
    ∷ refused_at "pT1S" 12 0
    ∷ refused_at "PT18446744073709551616S" 14 0
    ∷ refused_at "PT18446744073709551616S1" 12 23
    ∷ []) ≡ true
unfolding agrees computing_iso
refusals = refl

pub readings : all agrees (
    read_to "P0D" 3 0 0
    ∷ read_to "PT0,1S" 6 0 100000000
    ∷ read_to "P1W" 3 604800 0
    ∷ read_to "P2DT3H4M5.6S" 12 183845 600000000
    ∷ read_to "PT0.0000000019H" 15 0 6840
    ∷ read_to "P0.00000000000000165344W" 24 0 1
    ∷ read_to "PT18446744073709551615.9999999999S" 34 18446744073709551615 999999999
    ∷ []) ≡ true
unfolding agrees computing_iso
readings = refl

-- lengths written
unfoldable pub writes : ℕ → ℕ → String → Bool
writes seconds nanoseconds text = same (iso_written (record { negative = false; seconds = seconds; nanoseconds = nanoseconds })) (ascii text)

pub written : (
    writes 0 0 "PT0S"
    && writes 0 61700000 "PT0.0617S"
    && writes 3600 0 "PT1H"
    && writes 3661 500000000 "PT1H1M1.5S"
    && writes 86400 1 "PT24H0.000000001S"
    && writes 18446744073709551615 999999999 "PT5124095576030431H15.999999999S") ≡ true
unfolding writes computing_iso
written = refl

-- a right text has any length; the limit of 4,096 bytes is asked before. So `P` and 4,095 digits, which begin only right texts that are too
-- long, are 12 at their end; with one digit more they are 8
pub at_the_limit : iso_answer (80 ∷ replicate 4095 49) ≡ refusal (NotIso 4096)
unfolding computing_iso
at_the_limit = refl

pub past_the_limit : iso_answer (80 ∷ replicate 4096 49) ≡ refusal TextTooLong
unfolding computing_iso
past_the_limit = refl
