-- `table_entries::not_looked_up` meets its contract: number and position of the cause, and zeros. Assumes nothing.
use Rattle.rules.specs.NumbersHandedBack.{refusal}
use Rattle.index.specs.TheSortedIndex.{looked_up}
use Rattle.table_entries.proofs.not_looked_up.Goals as goal

pub returns : goal.returns
unfolding looked_up refusal
returns c in_line in_hall = rw c.refusal-answer.ensures
