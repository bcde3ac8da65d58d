-- What a spoken part multiplies: the row of its numeral, the kind of its unit's row, and that row, which `ago` negates. Assumes nothing.
use Rattle.std.specs.Prelude.{◌≡◌, true, ℕ}
use mathlib.Core.List.{List, ◌∷◌}
use Rattle.rules.specs.declared.Multiplier.{Multiplier}
use Rattle.rules.specs.declared.Repr.{Repr}
use Rattle.rules.specs.declared.Repr.TheVariants.{Typed, Spoken}
use Rattle.rules.specs.declared.Signed.{Signed}
use Rattle.rules.specs.declared.SpokenRepr.{SpokenRepr}
use Rattle.rules.specs.Common.{ascii}
use Rattle.rules.specs.SettingsAndUnitTable.{kind_multiplier, row, kind, row_multiplier, Card}
use Rattle.rules.specs.ReadingOnePart.{says, negated, find_unit}
use Rattle.spoken_numbers.specs.WhenNoUnitFollows.{NumeralAsked, NumeralAt}

-- the row as it is, or negated by an `ago` that stands in the text
pub data RowOrAgo (text : List ℕ) (m : Multiplier) : Multiplier → Type 0 where
  as_it_is : RowOrAgo text m m
  by_ago : (word : ℕ) → says (ascii "ago") text word ≡ true → RowOrAgo text m (negated m)

-- the part that begins at a place speaks row i of the numerals and a row of the units, the line's or else the hall's: its bytes are the size of
-- its name and the rest
pub record Rows (card : Card) (text : List ℕ) (place : ℕ) (d : SpokenRepr) : Type 0 where
  pub signed : Signed
  pub asked : NumeralAsked card text place signed
  pub i : ℕ
  pub q : ℕ
  pub numeral_at : NumeralAt card text signed.next i q
  pub size : ℕ
  pub rest : List ℕ
  pub unit_at : find_unit card text q ≡ size ∷ rest
  pub sign : d.negative ≡ signed.negative
  pub numeral : d.numeral ≡ row_multiplier (row card.numerals i)
  pub its_kind : d.kind ≡ kind_multiplier (kind (size ∷ rest))
  pub its_row : RowOrAgo text (row_multiplier (size ∷ rest)) d.row

abbrev pub IfSpoken : (SpokenRepr → Type 0) → Repr → Type 0
IfSpoken X (Typed d) = Unit {0}
IfSpoken X (Spoken d) = X d
