-- `reading::shift::added` meets its contract: 11, and then the text's total, added. Assumes nothing.
use Rattle.std.proofs.Common.{◌≡◌, true, sym, ap, ◌∙◌, not, rules}
use borrow.Author.Tests.{not-true, not-false}
use Rattle.rules.specs.ThePartOfTheCrateWeTake.{well_formed}
use Rattle.rules.specs.NumbersHandedBack.{refused}
use Rattle.rules.specs.WhatEveryEntryOwes.{add_total}
use Rattle.rules.proofs.Laws.Outcomes.{all_of, bind_got, bind_refused}
use Rattle.reading.specs.Meant.{meant}
use Rattle.reading.specs.Shifts.{malformed_refused, total_shifted, read_well_formed}
use Rattle.reading.proofs.shift.added.Goals as goal
use Rattle.reading.proofs.shift.added.Goals.{Else-not-well_formed}

-- a total that is not refused is well formed
proper : (c : Else-not-well_formed) → well_formed c.args.total ≡ true
proper c = sym c.well_formed-2.ensures ∙ not-false _ (ap not c.if-not-well_formed.false)

pub returns-then-not-well_formed : goal.returns-then-not-well_formed
returns-then-not-well_formed c = malformed_refused _ (meant c.args.card.now.ready) _ c.args.card.now.accepted (sym c.well_formed-2.ensures ∙ not-true _ (ap not c.if-not-well_formed.true))

pub returns-in_err-length : goal.returns-in_err-length
returns-in_err-length c =
    let refusal : refused c.in_err-length.field-0.0 ≡ add_total c.args.total (meant c.args.card.now.ready) c.args.text.now =
    sym (total_shifted _ (meant c.args.card.now.ready) _ c.args.card.now.accepted (proper (goal.at.returns-in_err-length c).Else-not-well_formed) ∙ bind_refused _ (sym c.in_err-length.ensures)) in
    search rules

pub saturating_add-requires : goal.saturating_add-requires
saturating_add-requires c = (proper (goal.at.saturating_add-requires c).Else-not-well_formed, all_of (read_well_formed (meant c.args.card.now.ready) _) (sym c.in_ok-length.ensures))

pub returns : goal.returns
returns c =
    rw c.saturating_add.ensures
    (sym (total_shifted _ (meant c.args.card.now.ready) _ c.args.card.now.accepted (proper (goal.at.returns c).Else-not-well_formed) ∙ bind_got _ (sym c.in_ok-length.ensures)))
