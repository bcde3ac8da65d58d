-- What a component is worth by itself, in its two parts. Assumes nothing.
use Rattle.std.specs.Prelude.{ℕ, ◌*◌, ◌/◌, ◌^◌, drop}
use Rattle.rules.specs.ThePartOfTheCrateWeTake.{nanoseconds_per_second}
use Rattle.rules.specs.Evaluation.{spelled}
use Rattle.iso.specs.IsoTimings.{Component, decimals, seconds_of}

-- digits before the mark and digits after it, so many nanoseconds each, in the decimals of all
unfoldable pub whole_worth : Component → ℕ
whole_worth c = spelled 0 c.whole * seconds_of c.kind * nanoseconds_per_second

unfoldable pub fraction_worth : Component → ℕ
fraction_worth c = spelled 0 (drop 1 c.fraction) * (seconds_of c.kind * nanoseconds_per_second) / 10 ^ decimals c
