-- `card::row::zero_words` meets its contract: what is left of the room decides. The measure is how much that is. Assumes nothing.
use mathlib.Core.Path.{◌≡◌}
use Prim.Native.Nat.{◌-◌, ◌%◌}
use lib.Dec.{eqb}
use lib.ListN.{take, drop}
use Rattle.rules.specs.SettingsAndUnitTable.{kind_at}
use Rattle.rules.specs.Common.{all}
use Rattle.card.proofs.row.zero_words.Given as goal

abbrev pub invariant-loop-at : goal.invariant-loop-at
invariant-loop-at l = (l.at % 8 ≡ 1) × (all (eqb 0) (take (kind_at - l.at) (drop l.at l.row)) ≡ all (eqb 0) (take (kind_at - l.from) (drop l.from l.row)))

abbrev pub decreases-loop-at : goal.decreases-loop-at
decreases-loop-at l = kind_at - l.at
