-- `value::digits::past` meets its contract: at each turn the run from here is the run from the start, since a byte from low to high goes
-- on with it, and any other byte and the text's end stop it. Assumes nothing.
use Rattle.std.proofs.Common.{sym, ◌∙◌, rules}
use Rattle.rules.proofs.Laws.Tests.{between_in}
use Rattle.value.specs.Digits.{run_on, run_off, run_over, between_off}
use Rattle.value.proofs.digits.past.Goals as goal

pub returns-then-byte-low : goal.returns-then-byte-low
returns-then-byte-low c = sym (run_off _ _ _ (search rules) (between_off _ _ _ c.then-byte-low.either)) ∙ c.loop-next.invariant

pub loop-next-preserved : goal.loop-next-preserved
loop-next-preserved c = sym (run_on _ _ _ (search rules) (between_in _ _ _ c.if-byte-low.false c.if-high-byte.false)) ∙ c.loop-next.invariant

pub returns : goal.returns
returns c = run_over _ _ _ _ c.loop-next-test.false c.loop-next.auto.next-end c.loop-next.invariant c.max.ensures
