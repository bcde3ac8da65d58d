-- `entries::read_total` meets its contract: 7, and then what a checked card gives. Assumes nothing.
use Rattle.std.proofs.Common.{sym, ap, ◌∙◌}
use Rattle.rules.specs.WhatEveryEntryOwes.{total_answer}
use Rattle.reading.specs.Entries.{total_card}
use Rattle.entries.proofs.read_total.Goals as goal

pub returns-in-Err : goal.returns-in-Err
returns-in-Err c = c.refusal.ensures ∙ total_card _ _ (sym c.in-Err.ensures)
