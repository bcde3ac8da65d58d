-- `settings::sets::empty` meets its contract: the words of an empty set are zero, and of no other. Assumes nothing.
use native.Mathlib.Omega.{arith}
use borrow.Author.Tests.{eq-eqb, ne_eqb}
use Rattle.settings.specs.Laws.Sets.{empty_words}
use Rattle.settings.proofs.sets.empty.Goals as goal

pub returns-then-set-eq0 : goal.returns-then-set-eq0
returns-then-set-eq0 c = rw (empty_words c.args.set (omega arith) (omega arith), eq-eqb _ _ c.if-set-eq0.true)

pub returns-else-set-eq0 : goal.returns-else-set-eq0
returns-else-set-eq0 c = rw (empty_words c.args.set (omega arith) (omega arith), ne_eqb _ _ c.if-set-eq0.false)
