-- `c_moves::herovinga_move_to_old` meets its contract. Assumes nothing.
use Rattle.c_words.specs.Laws.{handed}
use Rattle.c_moves.proofs.herovinga_move_to_old.Goals as goal

pub returns : goal.returns
returns c =
    let answer = handed c.put_answer.ensures c.move_to_old-moved.ensures.value in
    record { value = answer.0; answer_after = answer.1; target_after = c.move_to_old-moved.ensures.target_after }
