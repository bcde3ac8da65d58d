-- "Evaluation": from what was typed to a length, exactly, and the sum. A digit is a byte: 48 is `0`. Assumes nothing.
use Rattle.std.specs.Prelude.{Bool, true, false, not, ◌&&◌, List, [], ◌∷◌, ◌++◌, ℕ, zero, suc, ◌+◌, ◌*◌, ◌-◌, ◌/◌, ◌%◌, ◌^◌, leb, eqb, length}
use Rattle.std.specs.Bool.{xor, beq}
use Rattle.std.proofs.Math.Seq.{slice}
use Rattle.rules.specs.declared.Length.{Length}
use Rattle.rules.specs.declared.Settings.{Settings}
use Rattle.rules.specs.declared.Span.{Span}
use Rattle.rules.specs.declared.Exponent.{Exponent}
use Rattle.rules.specs.declared.Multiplier.{Multiplier}
use Rattle.rules.specs.declared.DurationRepr.{DurationRepr}
use Rattle.rules.specs.declared.SpokenRepr.{SpokenRepr}
use Rattle.rules.specs.declared.Repr.{Repr}
use Rattle.rules.specs.declared.Repr.TheVariants.{Typed, Spoken}
use Rattle.rules.specs.declared.Reading.{Reading}
use Rattle.rules.specs.declared.Refusal.TheVariants.{Nothing, NegativeForbidden, OutOfRange}
use Rattle.rules.specs.Common.{when◌then◌else◌, ends}
use Rattle.rules.specs.ThePartOfTheCrateWeTake.{nanoseconds_per_second, seconds_limit, zero_length, largest, size}
use Rattle.rules.specs.NumbersHandedBack.{Outcome, got, refused, ◌>>=◌, ◌>>◌, unless}
use Rattle.rules.specs.SettingsAndUnitTable.{times, in_range, Card}
use Rattle.rules.specs.ReadingOnePart.{part}

-- ---- the typed number

-- the number that digits spell, after those that spelled n
unfoldable pub spelled : ℕ → List ℕ → ℕ
spelled n [] = n
spelled n (d ∷ digits) = spelled (n * 10 + (d - 48)) digits

-- whole and fraction digits together
unfoldable pub digits_of : List ℕ → Span → Span → List ℕ
digits_of text whole fract = slice whole.start whole.end text ++ slice fract.start fract.end text

-- the powers of ten collected: those above zero, and those below
unfoldable pub up : Exponent → Multiplier → ℕ
up e m = m.up + (when e.negative then 0 else e.power)

unfoldable pub down : Exponent → Multiplier → ℕ
down e m = m.down + (when e.negative then e.power else 0)

-- A: the number n with f of its digits after the point, times ten to the power up - down, cut at the eighteenth decimal
unfoldable pub attos : ℕ → ℕ → ℕ → ℕ → ℕ
attos n f up down = n * 10 ^ (18 + up) / 10 ^ (f + down)

-- R: multiplied by the coefficient and rounded down to nanoseconds
unfoldable pub nanos : ℕ → ℕ → ℕ
nanos c a = c * a / 10 ^ 9

-- ---- the length

-- so many nanoseconds with a sign: zero is plus, and 2^64 x 10^9 or more is MAX or MIN
unfoldable pub length_of : Bool → ℕ → Length
length_of negative r =
    when eqb r 0
    then zero_length
    else when leb (seconds_limit * nanoseconds_per_second) r
    then largest negative
    else record { negative = negative; seconds = r / nanoseconds_per_second; nanoseconds = r % nanoseconds_per_second }

unfoldable pub evaluate : List ℕ → DurationRepr → Length
evaluate text d =
    when d.infinite
    then largest d.negative
    else
    length_of (xor d.negative d.multiplier.negative)
    (nanos d.multiplier.coefficient
    (attos (spelled 0 (digits_of text d.whole d.fract)) (d.fract.end - d.fract.start)
    (up d.exponent d.multiplier) (down d.exponent d.multiplier)))

-- ---- "Spoken numbers" (request four)

-- a product, which must lie in the range
unfoldable pub multiplied : Multiplier → Multiplier → Outcome Multiplier
multiplied m n = unless OutOfRange (in_range (times m n)) >> got (times m n)

-- numeral, kind and row are multiplied from left to right
unfoldable pub spoken_multiplier : SpokenRepr → Outcome Multiplier
spoken_multiplier d = multiplied d.numeral d.kind >>= λ m. multiplied m d.row

-- the number 1, without an exponent, times a multiplier
unfoldable pub worth : Bool → Multiplier → Length
worth negative m = length_of (xor negative m.negative) (nanos m.coefficient (attos 1 0 m.up m.down))

unfoldable pub evaluate_spoken : SpokenRepr → Outcome Length
evaluate_spoken d = spoken_multiplier d >>= λ m. got (worth d.negative m)

-- ---- what a part comes to

unfoldable pub evaluated : List ℕ → Repr → Outcome Length
evaluated text (Typed d) = got (evaluate text d)
evaluated text (Spoken d) = evaluate_spoken d

-- a part is read to its end, then evaluated, then tested for 5
unfoldable pub allowed : Settings → ℕ → ℕ → Length → Outcome Reading
allowed s place next l =
    when l.negative && not s.negatives then refused (NegativeForbidden place) else got (record { length = l; next = next })

unfoldable pub part_reading : Card → List ℕ → ℕ → Outcome Reading
part_reading card text place = do
  p ← part card text place
  l ← evaluated text p.repr
  allowed card.settings place p.next l

-- ---- the sum, clamped between MIN and MAX

unfoldable pub sum : Length → Length → Length
sum a b =
    when beq a.negative b.negative
    then length_of a.negative (size a + size b)
    else when leb (size b) (size a)
    then length_of a.negative (size a - size b)
    else length_of b.negative (size b - size a)

unfoldable pub sum_all : Length → List Length → Length
sum_all so_far [] = so_far
sum_all so_far (l ∷ more) = sum_all (sum so_far l) more

-- the parts of a text from a place on, one after another, at most n of them; each ends beyond where it began
unfoldable pub parts : Card → List ℕ → ℕ → ℕ → Outcome (List Length)
parts card text zero place = refused (Nothing place)
parts card text (suc n) place =
    part_reading card text place
    >>= λ r.
    let others = parts card text n r.next in
    when ends text r.next then got (r.length ∷ []) else (others >>= λ more. got (r.length ∷ more))

-- the total adds the parts in order
unfoldable pub total : Card → List ℕ → Outcome Length
total card text = parts card text (suc (length text)) 0 >>= λ lengths. got (sum_all zero_length lengths)
