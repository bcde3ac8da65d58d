-- `lookup::names::first_word` meets its contract: the word is that of the bytes passed. Assumes nothing.
use mathlib.Core.Path.{◌≡◌}
use lib.ListN.{take}
use Rattle.rules.specs.SettingsAndUnitTable.{low_first}
use Rattle.lookup.proofs.names.first_word.Given as goal

abbrev pub invariant-loop-i : goal.invariant-loop-i
invariant-loop-i l = l.word ≡ low_first (take l.i l.name)
