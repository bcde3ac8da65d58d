-- `sorted::replaced::named_elsewhere` meets its contract: none of the rows passed has the name. Assumes nothing.
use Prim.Native.Nat.{ℕ, ◌<◌}
use mathlib.Core.Path.{◌≡◌}
use mathlib.Core.Logic.{◌≢◌}
use Rattle.rules.specs.SettingsAndUnitTable.{row, name}
use Rattle.sorted.proofs.replaced.named_elsewhere.Given as goal

abbrev pub invariant-loop-j : goal.invariant-loop-j
invariant-loop-j l = (k : ℕ) → k < l.j → k ≢ l.i → name (row l.table k) ≡ name l.new → ⊥
