-- The sum of lengths, exactly: all nanoseconds with a plus together, all with a minus together, and the difference of the two.
-- Where no running sum passes the largest length the clamped sum is that. Assumes nothing.
use Rattle.std.specs.Prelude.{Bool, ◌&&◌, List, [], ◌∷◌, ℕ, ◌+◌, ◌-◌, ◌/◌, ◌%◌, ◌^◌, ltb}
use Rattle.std.proofs.Math.Bool.{true}
use Rattle.rules.specs.declared.Length.{Length}
use Rattle.rules.specs.Common.{when◌then◌else◌}
use Rattle.rules.specs.ThePartOfTheCrateWeTake.{size}
use Rattle.rules.proofs.Laws.Lengths.{limit}

-- the nanoseconds of a length that has a plus, and of one that has a minus
unfoldable pub plus : Length → ℕ
plus l = when l.negative then 0 else size l

unfoldable pub minus : Length → ℕ
minus l = when l.negative then size l else 0

unfoldable pub all_plus : ℕ → List Length → ℕ
all_plus so_far [] = so_far
all_plus so_far (l ∷ more) = all_plus (so_far + plus l) more

unfoldable pub all_minus : ℕ → List Length → ℕ
all_minus so_far [] = so_far
all_minus so_far (l ∷ more) = all_minus (so_far + minus l) more

-- the difference of two numbers of nanoseconds: its sign, its seconds, and what is left
abbrev pub apart_by : ℕ → ℕ → ℕ
apart_by p m = p - m + (m - p)

unfoldable pub difference : ℕ → ℕ → Length
difference p m = record { negative = ltb p m; seconds = apart_by p m / 10 ^ 9; nanoseconds = apart_by p m % 10 ^ 9 }

-- each sum on the way has fewer nanoseconds than are too many for a length
unfoldable pub stays : ℕ → ℕ → List Length → Bool
stays p m [] = true
stays p m (l ∷ more) = ltb (apart_by (p + plus l) (m + minus l)) limit && stays (p + plus l) (m + minus l) more
