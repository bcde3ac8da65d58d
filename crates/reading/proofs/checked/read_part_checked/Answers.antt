-- `reading::checked::read_part_checked` meets its contract: what came of the reading, handed back. Assumes nothing.
use Rattle.rules.specs.NumbersHandedBack.{answered}
use Rattle.rules.specs.WhatEveryEntryOwes.{part_answer}
use Rattle.reading.proofs.checked.read_part_checked.Goals as goal

pub returns-in-Ok : goal.returns-in-Ok
unfolding part_answer answered
returns-in-Ok c = rw (c.done.ensures, ← c.in-Ok.ensures)

pub returns-in-Err : goal.returns-in-Err
unfolding part_answer answered
returns-in-Err c = rw (c.refusal.ensures, ← c.in-Err.ensures)
