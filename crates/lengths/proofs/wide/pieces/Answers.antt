-- `lengths::wide::pieces` meets its contract: the halves of a word, and the halves of these, are its pieces. Assumes nothing.
use mathlib.Core.Path.{◌≡◌}
use mathlib.Core.List.{[], ◌∷◌}
use Prim.Native.Nat.{ℕ, ◌/◌, ◌^◌}
use native.Mathlib.Omega.{arith}
use lib.Arith.{mod-mul}
use lib.Dec.{lit<}
use Rattle.lengths.specs.Columns.{pieces}
use Rattle.lengths.proofs.wide.pieces.Goals as goal

-- four pieces, each by itself
four : {p q r s p' q' r' s' : ℕ} → p ≡ p' → q ≡ q' → r ≡ r' → s ≡ s' → p ∷ q ∷ r ∷ s ∷ [] ≡ p' ∷ q' ∷ r' ∷ s' ∷ []
four e f g h = cc

pub returns : goal.returns
unfolding pieces
returns c =
    let word = c.args.word in
    let halved : word / 2 ^ 16 / 2 ^ 16 ≡ word / 2 ^ 32 = omega arith in
    four (omega arith)
    (omega (arith, mod-mul word {m = 2 ^ 16} {c = 2 ^ 16} (lit< tt) (lit< tt)))
    (rw halved)
    (rw halved (omega arith))
