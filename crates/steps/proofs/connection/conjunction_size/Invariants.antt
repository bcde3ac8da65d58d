-- `steps::connection::conjunction_size` meets its contract: the conjunctions from here on decide what all of them do. Assumes nothing.
use mathlib.Core.Path.{◌≡◌}
use Prim.Native.Nat.{◌-◌}
use Rattle.rules.specs.SettingsAsWords.{settings_of}
use Rattle.steps.specs.Connections.{size_from}
use Rattle.steps.proofs.connection.conjunction_size.Given as goal

abbrev pub invariant-loop-i : goal.invariant-loop-i
invariant-loop-i l = (l.count ≡ (settings_of l.settings).conjunctions) × (size_from (settings_of l.settings) l.text l.place l.i ≡ size_from (settings_of l.settings) l.text l.place 0)

abbrev pub decreases-loop-i : goal.decreases-loop-i
decreases-loop-i l = l.count - l.i
