-- `move_entries::move_to_new` meets its contract, which is that of the function it hands on to. Assumes nothing.
use Rattle.moves.specs.NamesLongerThanSixteenBytes.{to_new_answer, new_target}
use Rattle.move_entries.proofs.move_to_new.Goals as goal

pub returns : goal.returns
unfolding to_new_answer new_target
returns c = record { value = c.move_lines.ensures.value; target_after = c.move_lines.ensures.target_after }
