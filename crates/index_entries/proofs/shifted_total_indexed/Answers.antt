-- `index_entries::shifted_total_indexed` meets its contract: 7 and 23, and then what a checked card gives. Assumes nothing.
use Rattle.std.proofs.Common.{sym, ap, ◌∙◌}
use Rattle.rules.specs.WhatEveryEntryOwes.{shift_answer, shifted_record}
use Rattle.sorted.specs.Indexed.{card_good, both_beside}
use Rattle.index_entries.specs.Answers.{shift_refused, shift_passed}
use Rattle.index_entries.proofs.shifted_total_indexed.Goals as goal

pub returns-in-Err : goal.returns-in-Err
returns-in-Err c = shift_refused _ _ _ (sym c.in-Err.ensures) c.kept.ensures

pub with_indexes-checked-requires : goal.with_indexes-checked-requires
with_indexes-checked-requires c = record { accepted = card_good _ (sym c.in-Ok.ensures); beside = both_beside _ (sym c.in-Ok.ensures) }

pub returns-in-Ok : goal.returns-in-Ok
returns-in-Ok c =
    shift_passed _ _ _ (sym c.in-Ok.ensures)
    (c.shifted_total_checked.ensures.0 ∙ ap (λ card. shift_answer c.args.total card c.args.text.now) c.with_indexes-checked.ensures, c.shifted_total_checked.ensures.1 ∙ ap (λ card. shifted_record c.args.total card c.args.text.now) c.with_indexes-checked.ensures)
