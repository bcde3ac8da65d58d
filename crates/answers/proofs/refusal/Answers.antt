-- `answers::refusal` meets its contract: number and position of the cause, and a zero length. Assumes nothing.
use Rattle.rules.specs.NumbersHandedBack.{refusal}
use Rattle.answers.proofs.refusal.Goals as goal

pub returns : goal.returns
unfolding refusal
returns c = rw (c.number_and_position-found.ensures.0, c.number_and_position-found.ensures.1, c.zero.ensures)
