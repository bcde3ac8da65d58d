-- `steps::delimiters::try_consume_delimiter` meets its contract: where the run ends decides. Assumes nothing.
use native.Mathlib.Omega.{arith}
use Rattle.rules.proofs.Laws.Texts.{sees_in}
use Rattle.steps.specs.Delimiters.{delimiters_end, delimiters_past}
use Rattle.steps.proofs.delimiters.try_consume_delimiter.Goals as goal

pub overflow_add-place : goal.overflow_add-place
overflow_add-place c = omega (arith, sees_in _ _ _ c.requires)

pub returns-then-text-end : goal.returns-then-text-end
returns-then-text-end c = delimiters_end _ _ _ c.requires c.past-end.ensures c.if-text-end.true

pub returns : goal.returns
returns c = delimiters_past _ _ _ c.requires c.past-end.ensures c.if-text-end.false
