-- `index_entries::read_part_indexed` meets its contract: 7 and 23, and then what a checked card gives. Assumes nothing.
use Rattle.std.proofs.Common.{sym, ap, ◌∙◌}
use Rattle.rules.specs.WhatEveryEntryOwes.{part_answer}
use Rattle.sorted.specs.Indexed.{card_good, both_beside}
use Rattle.index_entries.specs.Answers.{part_refused, part_passed}
use Rattle.index_entries.proofs.read_part_indexed.Goals as goal

pub returns-in-Err : goal.returns-in-Err
returns-in-Err c = c.refusal.ensures ∙ part_refused _ _ _ (sym c.in-Err.ensures)

pub with_indexes-card-requires : goal.with_indexes-card-requires
with_indexes-card-requires c = record { accepted = card_good _ (sym c.in-Ok.ensures); beside = both_beside _ (sym c.in-Ok.ensures) }

pub returns-in-Ok : goal.returns-in-Ok
returns-in-Ok c = c.read_part_checked.ensures ∙ ap (λ card. part_answer card c.args.text.now c.args.place) c.with_indexes-card.ensures ∙ part_passed _ _ _ (sym c.in-Ok.ensures)
