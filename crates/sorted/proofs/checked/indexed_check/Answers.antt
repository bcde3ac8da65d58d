-- `sorted::checked::indexed_check` meets its contract: both tables in one pass each and the rest of the card, or all one after another.
-- Assumes nothing.
use mathlib.Core.Path.{◌≡◌, sym, ◌∙◌}
use Rattle.rules.specs.NumbersHandedBack.{got}
use Rattle.rules.specs.SettingsAsWords.{settings_of}
use Rattle.rules.specs.SettingsAndUnitTable.{settings_check, numerals_check}
use Rattle.index.specs.TheSortedIndex.{indexed_of}
use Rattle.sorted.specs.Checks.{without_tables, all_right}
use Rattle.sorted.specs.Found.{accepted}
use Rattle.sorted.proofs.checked.indexed_check.Goals as goal
use Rattle.sorted.proofs.checked.indexed_check.Goals.{Then-is_ok}

-- settings and numerals were accepted
good :
    (c : Then-is_ok)
    → (settings_check (settings_of c.args.settings.now) ≡ got tt) × (numerals_check c.args.numerals.now ≡ got tt)
good c = without_tables _ _ (sym c.card_check.ensures ∙ accepted (sym c.is_ok.ensures.value ∙ c.if-is_ok.true))

pub returns-then-told_right-2 : goal.returns-then-told_right-2
returns-then-told_right-2 c =
    let all = indexed_of c.args.settings.now c.args.hall.now c.args.hall_index.now c.args.line.now c.args.line_index.now c.args.numerals.now in
    all_right all (good (goal.at.returns-then-told_right-2 c).Then-is_ok) (c.told_right.ensures c.if-told_right.true) (c.told_right-then-told_right.ensures c.if-told_right-2.true)

pub told_right-requires : goal.told_right-requires
told_right-requires c = (good c).0

pub told_right-requires-then-told_right : goal.told_right-requires-then-told_right
told_right-requires-then-told_right c = (good (goal.at.told_right-requires-then-told_right c).Then-is_ok).0
