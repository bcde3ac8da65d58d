-- `c_timings::herovinga_read_total` meets its contract. Assumes nothing.
use Rattle.c_words.specs.Laws.{handed}
use Rattle.c_timings.proofs.herovinga_read_total.Goals as goal

pub returns : goal.returns
returns c = let both = handed c.put_answer.ensures c.read_total.ensures in record { value = both.0; answer_after = both.1 }
