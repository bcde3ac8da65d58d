-- `value::number::raise` meets its contract: the zeros are put into the seconds, and no attoseconds are left. Assumes nothing.
use mathlib.Core.Path.{refl, sym, ◌∙◌}
use native.Mathlib.Nat.{add-zero}
use lib.Dec.{lit<}
use Rattle.value.specs.Places.{shifted_is}
use Rattle.value.proofs.number.raise.Goals as goal

pub returns : goal.returns
returns c = c.seconds_alone.ensures ∙ shifted_is _ (sym (add-zero _)) (lit< tt) c.put_zeros.ensures refl
