-- A part is refused by 16 exactly if it is a spoken one, read to its end, connection included, and one of its two products leaves its range;
-- and what is multiplied are the rows that were found. Assumes nothing.
use Rattle.std.specs.Prelude.{◌≡◌, List, ◌⊎◌, ℕ, ◌+◌, ◌^◌, ◌≤◌, ◌<◌}
use Rattle.rules.specs.declared.Multiplier.{Multiplier}
use Rattle.rules.specs.declared.Part.{Part}
use Rattle.rules.specs.declared.Repr.TheVariants.{Spoken}
use Rattle.rules.specs.declared.SpokenRepr.{SpokenRepr}
use Rattle.rules.specs.NumbersHandedBack.{got}
use Rattle.rules.specs.SettingsAndUnitTable.{times, Card}
use Rattle.rules.specs.ReadingOnePart.{part}

-- ---- in numbers

-- the coefficient, of either sign, is above 9223372036854775807; or the power of ten, up - down, is above 32767 or below -32768
pub data Outside (m : Multiplier) : Type 0 where
  too_large : 2 ^ 63 ≤ m.coefficient → Outside m
  too_high : m.down + 32767 < m.up → Outside m
  too_low : m.up + 32768 < m.down → Outside m

-- numeral times kind, or that times the row
abbrev pub ProductOutside : SpokenRepr → Type 0
ProductOutside d = Outside (times d.numeral d.kind) ⊎ Outside (times (times d.numeral d.kind) d.row)

-- the part that begins at a place is read to its end and is a spoken one, of which a product leaves its range
pub record OutOfItsRange (card : Card) (text : List ℕ) (place : ℕ) : Type 0 where
  pub p : Part
  pub read : part card text place ≡ got p
  pub d : SpokenRepr
  pub is_spoken : p.repr ≡ Spoken d
  pub product : ProductOutside d
