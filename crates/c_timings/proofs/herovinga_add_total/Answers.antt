-- `c_timings::herovinga_add_total` meets its contract: the words are stored exactly if the number is 0. Assumes nothing.
use Rattle.std.proofs.Common.{arith}
use Rattle.c_words.specs.Laws.{shifted_done, shifted_kept}
use Rattle.c_timings.proofs.herovinga_add_total.Goals as goal

pub returns-clause-total_after : goal.returns-clause-total_after
returns-clause-total_after c = grind (arith, shifted_done, shifted_kept)
