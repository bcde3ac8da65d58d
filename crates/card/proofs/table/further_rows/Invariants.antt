-- `card::table::further_rows` meets its contract: each row passed has it. Assumes nothing.
use mathlib.Core.Path.{◌≡◌}
use mathlib.Core.Bool.{true}
use Prim.Native.Nat.{◌≤◌}
use Rattle.card.specs.Fields.{asked_further, Each}
use Rattle.card.proofs.table.further_rows.Given as goal

abbrev pub invariant-loop-i : goal.invariant-loop-i
invariant-loop-i l = (l.i ≤ l.count) × Each (λ row. asked_further l.further row ≡ true) l.table l.i
