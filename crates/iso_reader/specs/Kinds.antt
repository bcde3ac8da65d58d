-- The units of the code, as the numbers that document 01 gives their kinds. Assumes nothing.
use Rattle.std.specs.Prelude.{◌≡◌, refl, true, false, ℕ, leb, Option, Some, None, is_some}
use Rattle.iso.specs.IsoTimings.{SECONDS, MINUTES, HOURS, DAYS, WEEKS, ANY}
use Rattle.iso_reader.specs.declared.counted.Kind.{Kind}
use Rattle.iso_reader.specs.declared.counted.Kind.TheVariants.{Seconds, Minutes, Hours, Days, Weeks}

abbrev pub kind_number : Kind → ℕ
kind_number Seconds = SECONDS
kind_number Minutes = MINUTES
kind_number Hours = HOURS
kind_number Days = DAYS
kind_number Weeks = WEEKS

-- of a letter, and 0 of any other byte
abbrev pub letter_kind : Option Kind → ℕ
letter_kind (Some kind) = kind_number kind
letter_kind None = 0

-- what the next component's kind is below
abbrev pub bound : Option Kind → ℕ
bound (Some last) = kind_number last
bound None = ANY

kind_most : (kind : Kind) → leb ANY (kind_number kind) ≡ false
kind_most Seconds = refl
kind_most Minutes = refl
kind_most Hours = refl
kind_most Days = refl
kind_most Weeks = refl

-- before the first component, and after another
pub bound_first : (below : Option Kind) → is_some below ≡ false → bound below ≡ ANY
bound_first None e = refl
bound_first (Some last) e = cc

pub bound_later : (below : Option Kind) → is_some below ≡ true → leb ANY (bound below) ≡ false
bound_later (Some last) e = kind_most last
bound_later None e = cc
