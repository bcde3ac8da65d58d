-- `index_entries::read_total_indexed` meets its contract: 7 and 23, and then what a checked card gives. Assumes nothing.
use Rattle.std.proofs.Common.{sym, ap, ◌∙◌}
use Rattle.rules.specs.WhatEveryEntryOwes.{total_answer}
use Rattle.sorted.specs.Indexed.{card_good, both_beside}
use Rattle.index_entries.specs.Answers.{total_refused, total_passed}
use Rattle.index_entries.proofs.read_total_indexed.Goals as goal

pub returns-in-Err : goal.returns-in-Err
returns-in-Err c = c.refusal.ensures ∙ total_refused _ _ (sym c.in-Err.ensures)

pub with_indexes-accepted-requires : goal.with_indexes-accepted-requires
with_indexes-accepted-requires c = record { accepted = card_good _ (sym c.in-Ok.ensures); beside = both_beside _ (sym c.in-Ok.ensures) }

pub returns-in-Ok : goal.returns-in-Ok
returns-in-Ok c = c.read_total_checked.ensures ∙ ap (λ card. total_answer card c.args.text.now) c.with_indexes-accepted.ensures ∙ total_passed _ _ (sym c.in-Ok.ensures)
