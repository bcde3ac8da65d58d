-- `c_indexed::herovinga_add_total_indexed` meets its contract: the words are stored exactly if the number is 0. Assumes nothing.
use Rattle.std.proofs.Common.{arith}
use Rattle.c_words.specs.Laws.{indexed_shifted_done, indexed_shifted_kept}
use Rattle.c_indexed.proofs.herovinga_add_total_indexed.Goals as goal

pub returns-clause-total_after : goal.returns-clause-total_after
returns-clause-total_after c = grind (arith, indexed_shifted_done, indexed_shifted_kept)
