-- The powers of ten of a multiplier. Assumes nothing.
use Rattle.std.specs.Prelude.{◌-◌}
use Rattle.rules.specs.declared.Multiplier.{Multiplier}

-- those above zero and those below, taken off each other
unfoldable pub net : Multiplier → Multiplier
net m = record { negative = m.negative; coefficient = m.coefficient; up = m.up - m.down; down = m.down - m.up }
