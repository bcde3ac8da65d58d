-- `sorted::checked::checked_apart` meets its contract: the card, then the hall's index, then the line's. Assumes nothing.
use mathlib.Core.Path.{◌≡◌, sym, ◌∙◌}
use Rattle.std.proofs.lemmas.Result.{err_from_is_err_and}
use Rattle.rules.specs.declared.Refusal.TheVariants.{WrongIndex, WrongLineIndex}
use Rattle.rules.specs.NumbersHandedBack.{got}
use Rattle.rules.specs.SettingsAndUnitTable.{card_check}
use Rattle.index.specs.TheSortedIndex.{index_check, Indexed, indexed_of}
use Rattle.sorted.specs.Checks.{refused_card, refused_hall, behind_hall, hall_few, line_few}
use Rattle.sorted.specs.Found.{told_by}
use Rattle.sorted.proofs.checked.checked_apart.Goals as goal
use Rattle.sorted.proofs.checked.checked_apart.Goals.{In_ok-card_check, In_ok-map_err, Start}

abbrev card : Start → Indexed
card c = indexed_of c.args.settings.now c.args.hall.now c.args.hall_index.now c.args.line.now c.args.line_index.now c.args.numerals.now

-- the card was accepted, and then the hall's index
good-card : (c : In_ok-card_check) → card_check (indexed_of c.args.settings.now c.args.hall.now c.args.hall_index.now c.args.line.now c.args.line_index.now c.args.numerals.now).card ≡ got tt
good-card c = sym c.in_ok-card_check.ensures

good-hall : (c : In_ok-map_err) → index_check WrongIndex c.args.hall.now c.args.hall_index.now ≡ got tt
good-hall c = sym (told_by WrongIndex _ c.in_ok-map_err.ensures.cases ∙ c.index_found.ensures WrongIndex)

pub returns-in_err-card_check : goal.returns-in_err-card_check
returns-in_err-card_check c = let p = err_from_is_err_and c.from_residual.result c.from_residual.ensures.1 in rw (p.1, p.2) (refused_card (card (goal.at.returns-in_err-card_check c).Start) (sym c.in_err-card_check.ensures))

pub returns-in_err-map_err : goal.returns-in_err-map_err
returns-in_err-map_err c =
    let p = err_from_is_err_and c.from_residual-in_err-map_err.result c.from_residual-in_err-map_err.ensures.1 in rw (p.1, p.2) (refused_hall (card (goal.at.returns-in_err-map_err c).Start) (good-card (goal.at.returns-in_err-map_err c).In_ok-card_check)
    (sym (told_by WrongIndex _ c.in_err-map_err.ensures.cases ∙ c.index_found.ensures WrongIndex)))

pub returns : goal.returns
returns c =
    told_by WrongLineIndex _ c.map_err-2.ensures.cases
    ∙ c.index_found-2.ensures WrongLineIndex
    ∙ behind_hall (card (goal.at.returns c).Start) (good-card (goal.at.returns c).In_ok-card_check) (good-hall (goal.at.returns c).In_ok-map_err)

pub index_found-requires : goal.index_found-requires
index_found-requires c = hall_few (card (goal.at.index_found-requires c).Start) (good-card c)

pub index_found-requires-2 : goal.index_found-requires-2
index_found-requires-2 c = line_few (card (goal.at.index_found-requires-2 c).Start) (good-card (goal.at.index_found-requires-2 c).In_ok-card_check)
