-- A row that no text finds, and so its card is refused. Assumes nothing.
use Rattle.std.specs.Prelude.{◌≡◌, refl, false, []}
use Rattle.std.proofs.Common.{arith}
use Rattle.rules.specs.declared.Refusal.TheVariants.{BadRow, BadLineRow}
use Rattle.rules.specs.NumbersHandedBack.{refused, position}
use Rattle.rules.specs.SettingsAndUnitTable.{Card, card_check}
use Rattle.rules.specs.Computing.{computing}
use Rattle.rules.specs.CardAAndItsReadings.{space, conjunction, settings, settings_A, row_of}
use Rattle.rules.specs.AUnitNobodyCouldType.{none, asked, seconds}
use Rattle.rules.specs.SpokenNumbers.{numeral}
use Rattle.findable.specs.OneOfTheTwoTables.{OfHall, OfLine}
use Rattle.findable.specs.ExactlyIf.{Findable}
use Rattle.findable.proofs.ExactlyIf.{bad_row_exactly}
use Rattle.findable.specs.Examples.{only, table, eon_and_kind_9, speaking}

-- the card is refused by 7 with the first, and so no text finds it
pub eon_not_found : (card_check (only OfHall (asked false false space) eon_and_kind_9 []) ≡ refused (BadRow 0)) × (Findable (only OfHall (asked false false space) eon_and_kind_9 []) OfHall 0 → ⊥)
unfolding computing space conjunction settings settings_A row_of none asked seconds only eon_and_kind_9
eon_not_found =
    let card : Card = only OfHall (asked false false space) eon_and_kind_9 [] in
    (refl, (bad_row_exactly card OfHall refl refl refl 0 (omega arith) refl (λ j before. absurd (omega arith))).0 refl)

-- so the row is refused as without numerals, with 128 more if it is the line's, and no text that counts finds it
pub still_refused :
    (card_check (speaking OfHall) ≡ refused (BadRow 0))
    × (card_check (speaking OfLine) ≡ refused (BadLineRow 0))
    × (position (BadLineRow 0) ≡ 128)
    × (Findable (speaking OfLine) OfLine 0 → ⊥)
unfolding computing space conjunction settings settings_A row_of numeral none asked seconds table only speaking
still_refused = (refl, refl, refl, (bad_row_exactly (speaking OfLine) OfLine refl refl refl 0 (omega arith) refl (λ j before. absurd (omega arith))).0 refl)
