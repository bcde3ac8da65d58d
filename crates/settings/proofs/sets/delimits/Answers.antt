-- `settings::sets::delimits` meets its contract: the tests are those of the runs of bytes that may not delimit. Assumes nothing.
use Rattle.std.proofs.Common.{arith}
use Rattle.std.proofs.lemmas.Grind.{common_steps}
use Rattle.std.proofs.lemmas.Bool.Decides.{nat_tests}
use Rattle.settings.specs.Laws.Sets.{delimits_runs}
use Rattle.settings.proofs.sets.delimits.Goals as goal

pub returns-then-set-eq0-6 : goal.returns-then-set-eq0-6
returns-then-set-eq0-6 c = let runs = delimits_runs c.args.set (omega arith) (omega arith) in grind (arith, common_steps, nat_tests, runs)

pub returns-else-set-eq0-6 : goal.returns-else-set-eq0-6
returns-else-set-eq0-6 c = let runs = delimits_runs c.args.set (omega arith) (omega arith) in grind (arith, common_steps, nat_tests, runs)
