-- `steps::letters::next_is_letters` meets its contract: the letters that are left decide what all of them do. Assumes nothing.
use mathlib.Core.Path.{◌≡◌}
use mathlib.Core.Bool.{true}
use Rattle.rules.specs.SettingsAndUnitTable.{LETTER, is, low_bytes}
use Rattle.rules.specs.Common.{all}
use Rattle.rules.specs.ReadingOnePart.{says}
use Rattle.steps.proofs.letters.next_is_letters.Given as goal

abbrev pub invariant-loop-left : goal.invariant-loop-left
invariant-loop-left l = (says (low_bytes l.left l.rest) l.text l.next ≡ says (low_bytes l.size l.letters) l.text l.place) × (all (is LETTER) (low_bytes l.left l.rest) ≡ true)

abbrev pub decreases-loop-left : goal.decreases-loop-left
decreases-loop-left l = l.left
