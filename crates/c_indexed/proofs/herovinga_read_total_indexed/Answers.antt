-- `c_indexed::herovinga_read_total_indexed` meets its contract. Assumes nothing.
use Rattle.c_words.specs.Laws.{handed}
use Rattle.c_indexed.proofs.herovinga_read_total_indexed.Goals as goal

pub returns : goal.returns
returns c = let both = handed c.put_answer.ensures c.read_total_indexed-total.ensures in record { value = both.0; answer_after = both.1 }
