-- "Writer and shift total": what the writer writes, and what the buffer and the record then hold. A byte is written as its number:
-- 43 is `+`, 45 `-`, 46 `.`, 48 `0`. Assumes nothing.
use Rattle.std.specs.Prelude.{Bool, true, false, List, [], ◌∷◌, ◌++◌, ℕ, zero, suc, ◌+◌, ◌-◌, ◌/◌, ◌%◌, ◌^◌, leb, eqb, length, take, drop}
use Rattle.rules.specs.declared.Length.{Length}
use Rattle.rules.specs.declared.Reading.{Reading}
use Rattle.rules.specs.declared.Refusal.TheVariants.{NoRoom, Beyond, Malformed}
use Rattle.rules.specs.Common.{when◌then◌else◌}
use Rattle.rules.specs.ThePartOfTheCrateWeTake.{well_formed}
use Rattle.rules.specs.NumbersHandedBack.{Outcome, got, refused, ◌>>=◌, ◌>>◌, unless}
use Rattle.rules.specs.Evaluation.{sum}

-- ---- the writer

-- n decimal digits of a number, the highest first
unfoldable pub decimals : ℕ → ℕ → List ℕ
decimals zero x = []
decimals (suc n) x = (48 + x / 10 ^ n % 10) ∷ decimals n x

-- without needless zeros: the last digit always stays
unfoldable pub no_leading_zeros : List ℕ → List ℕ
no_leading_zeros [] = []
no_leading_zeros (d ∷ []) = d ∷ []
no_leading_zeros (d ∷ e ∷ digits) = let more = no_leading_zeros (e ∷ digits) in when eqb d 48 then more else d ∷ e ∷ digits

unfoldable pub before_zeros : ℕ → List ℕ → List ℕ
before_zeros d [] = when eqb d 48 then [] else d ∷ []
before_zeros d (e ∷ digits) = d ∷ e ∷ digits

unfoldable pub no_trailing_zeros : List ℕ → List ℕ
no_trailing_zeros [] = []
no_trailing_zeros (d ∷ digits) = before_zeros d (no_trailing_zeros digits)

-- the most digits that seconds have, and the digits of nanoseconds
abbrev pub second_digits : ℕ
second_digits = 20

abbrev pub nanosecond_digits : ℕ
nanosecond_digits = 9

unfoldable pub sign_byte : Bool → ℕ
sign_byte negative = when negative then 45 else 43

-- seconds without needless zeros
unfoldable pub whole_digits : ℕ → List ℕ
whole_digits seconds = no_leading_zeros (decimals second_digits seconds)

-- nine digits less trailing zeros
unfoldable pub fraction_digits : ℕ → List ℕ
fraction_digits nanoseconds = no_trailing_zeros (decimals nanosecond_digits nanoseconds)

-- if nanoseconds are not 0, a point and their digits
unfoldable pub written_fraction : ℕ → List ℕ
written_fraction nanoseconds = when eqb nanoseconds 0 then [] else 46 ∷ fraction_digits nanoseconds

-- the sign always, the seconds, and the fraction
unfoldable pub written : Length → List ℕ
written l = sign_byte l.negative ∷ whole_digits l.seconds ++ written_fraction l.nanoseconds

-- 11, 10, 9; or the length, and the place after it
unfoldable pub writing : Length → List ℕ → ℕ → Outcome Reading
writing l buffer place = do
  unless Malformed (well_formed l)
  unless (Beyond place) (leb place (length buffer))
  unless (NoRoom place) (leb (length (written l)) (length buffer - place))
  got (record { length = l; next = place + length (written l) })

-- no other byte changes, and none on a refusal
unfoldable pub buffer_after : Length → List ℕ → ℕ → Outcome Reading → List ℕ
buffer_after l buffer place (got r) = take place buffer ++ written l ++ drop r.next buffer
buffer_after l buffer place (refused cause) = buffer

-- ---- the shift total

-- the record is added to by a text's total, clamped
unfoldable pub shifting : Length → Outcome Length → Outcome Length
shifting so_far text_total = text_total >>= λ l. got (sum so_far l)

-- the record afterwards: on a refusal it stays as it was
unfoldable pub record_after : Length → Outcome Length → Length
record_after so_far (got l) = l
record_after so_far (refused cause) = so_far
