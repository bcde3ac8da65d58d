-- `entries::shifted_total` meets its contract: 7, and then what a checked card gives. Assumes nothing.
use Rattle.std.proofs.Common.{sym, ap, ◌∙◌}
use Rattle.rules.specs.WhatEveryEntryOwes.{shift_answer, shifted_record}
use Rattle.reading.specs.Shifts.{card_refuses, kept}
use Rattle.entries.proofs.shifted_total.Goals as goal

pub returns-in-Err : goal.returns-in-Err
returns-in-Err c =
    let laws = kept _ _ _ (card_refuses _ _ _ (sym c.in-Err.ensures)) in
    (c.kept.ensures.0 ∙ laws.0, c.kept.ensures.1 ∙ laws.1)
