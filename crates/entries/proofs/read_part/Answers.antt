-- `entries::read_part` meets its contract: 7, and then what a checked card gives. Assumes nothing.
use Rattle.std.proofs.Common.{sym, ap, ◌∙◌}
use Rattle.rules.specs.WhatEveryEntryOwes.{part_answer}
use Rattle.reading.specs.Entries.{part_card}
use Rattle.entries.proofs.read_part.Goals as goal

pub returns-in-Err : goal.returns-in-Err
returns-in-Err c = c.refusal.ensures ∙ part_card _ _ _ (sym c.in-Err.ensures)
