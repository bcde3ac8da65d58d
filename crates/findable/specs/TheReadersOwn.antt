-- `unit_of` follows the reader: a typed part is multiplied by the row at which it finds its unit, of the line's table or of the hall's, or by
-- the default kind; and the units of a text are those of the parts that its total reads, unless one of them is a spoken number. Assumes nothing.
use Rattle.std.specs.Prelude.{◌≡◌, false}
use mathlib.Core.List.{List}
use Prim.Native.Nat.{ℕ}
use Rattle.rules.specs.declared.SpokenRepr.{SpokenRepr}
use Rattle.rules.specs.declared.Repr.TheVariants.{Spoken}
use Rattle.rules.specs.declared.Reading.{Reading}
use Rattle.rules.specs.Common.{ends}
use Rattle.rules.specs.NumbersHandedBack.{got}
use Rattle.rules.specs.SettingsAndUnitTable.{Card}
use Rattle.rules.specs.ReadingOnePart.{part}
use Rattle.rules.specs.Evaluation.{part_reading}

-- one of the parts that the total reads from the place on is a spoken number
pub data HasSpoken (card : Card) (text : List ℕ) : ℕ → Type 0 where
  spoken_here : {place next : ℕ} {d : SpokenRepr} → part card text place ≡ got (record { repr = Spoken d; next = next }) → HasSpoken card text place
  spoken_later : {place : ℕ} {r : Reading} → part_reading card text place ≡ got r → ends text r.next ≡ false → HasSpoken card text r.next → HasSpoken card text place
