-- "The part of the crate we take": what a length is. Assumes nothing.
use Rattle.std.specs.Prelude.{Bool, true, false, not, ◌&&◌, ℕ, ◌+◌, ◌*◌, ◌-◌, ◌^◌, ltb, eqb}
use Rattle.rules.specs.declared.Length.{Length}

-- a text has at most this many bytes
abbrev pub longest_text : ℕ
longest_text = 4096

abbrev pub nanoseconds_per_second : ℕ
nanoseconds_per_second = 10 ^ 9

-- one more than the most seconds that a length can have
abbrev pub seconds_limit : ℕ
seconds_limit = 2 ^ 64

-- zero always has a plus sign
unfoldable pub zero_length : Length
zero_length = record { negative = false; seconds = 0; nanoseconds = 0 }

-- MAX, and MIN, which is MAX with a minus
unfoldable pub largest : Bool → Length
largest negative = record { negative = negative; seconds = seconds_limit - 1; nanoseconds = nanoseconds_per_second - 1 }

-- a length without its sign, in nanoseconds
unfoldable pub size : Length → ℕ
size l = l.seconds * nanoseconds_per_second + l.nanoseconds

-- the seconds are a u64, the nanoseconds 0 to 999,999,999, and zero has no minus
unfoldable pub well_formed : Length → Bool
well_formed l = ltb l.seconds seconds_limit && ltb l.nanoseconds nanoseconds_per_second && not (l.negative && eqb (size l) 0)
