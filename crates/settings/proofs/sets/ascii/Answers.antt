-- `settings::sets::ascii` meets its contract: the upper words of such a set are zero. Assumes nothing.
use native.Mathlib.Omega.{arith}
use Rattle.settings.specs.Laws.Sets.{two_words}
use Rattle.settings.proofs.sets.ascii.Goals as goal

pub returns : goal.returns
returns c = two_words c.args.set (omega arith) (omega arith) c.requires
