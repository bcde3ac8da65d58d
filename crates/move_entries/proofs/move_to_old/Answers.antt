-- `move_entries::move_to_old` meets its contract, which is that of the function it hands on to. Assumes nothing.
use Rattle.moves.specs.NamesLongerThanSixteenBytes.{to_old_answer, old_target}
use Rattle.move_entries.proofs.move_to_old.Goals as goal

pub returns : goal.returns
unfolding to_old_answer old_target
returns c = record { value = c.move_lines.ensures.value; target_after = c.move_lines.ensures.target_after }
