-- `card::row::further_right` meets its contract: what each rule asks. Assumes nothing.
use Rattle.card.specs.Fields.{asked_further}
use Rattle.card.proofs.row.further_right.Goals as goal

pub returns-in-Nothing : goal.returns-in-Nothing
unfolding asked_further
returns-in-Nothing c = rw c.in-Nothing.is

pub returns-in-NotLedByE : goal.returns-in-NotLedByE
unfolding asked_further
returns-in-NotLedByE c = rw (c.in-NotLedByE.is, c.led_by_e.ensures)

pub returns-in-AsciiSeconds : goal.returns-in-AsciiSeconds
returns-in-AsciiSeconds c = rw c.in-AsciiSeconds.is c.ascii_seconds.ensures
