-- A power taken apart, and when kind times row can be made. Assumes nothing.
use Rattle.std.specs.Prelude.{◌≡◌, true, ℕ, ◌≤◌}
use Rattle.rules.specs.declared.Multiplier.{Multiplier}
use Rattle.rules.specs.Common.{when◌then◌else◌}
use Rattle.rules.specs.SettingsAndUnitTable.{power_size, below_zero, magnitude, kind_multiplier, times, in_range}

-- how far above zero it is, and how far below
unfoldable pub risen : ℕ → ℕ
risen x = when below_zero power_size x then 0 else x

unfoldable pub fallen : ℕ → ℕ
fallen x = when below_zero power_size x then magnitude power_size x else 0

-- a row's own multiplier of which kind times row is in range
abbrev pub Fitting : ℕ → Multiplier → Type 0
Fitting kind own = (own.down ≤ 32768) × (in_range (times (kind_multiplier kind) own) ≡ true)
