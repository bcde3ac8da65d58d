-- `lookup::names::order` meets its contract: the bytes from `i` on decide what all of them do. Assumes nothing.
use mathlib.Core.Path.{refl, sym, ◌∙◌}
use native.Mathlib.Omega.{arith}
use Rattle.lookup.specs.Laws.Names.{after_prefix, less_byte, more_byte, same_byte, before_longer, all_same}
use Rattle.lookup.proofs.names.order.Goals as goal

pub loop-i-init : goal.loop-i-init
loop-i-init c = (omega arith, refl)

pub returns-then-b-i : goal.returns-then-b-i
returns-then-b-i c = sym (after_prefix _ _ c.loop-i.i (omega arith) (omega arith)) ∙ c.loop-i.invariant.1

pub returns-then-a-i : goal.returns-then-a-i
returns-then-a-i c = sym (less_byte _ _ c.loop-i.i (omega arith) (omega arith) c.if-a-i.true) ∙ c.loop-i.invariant.1

pub returns-then-b-i-2 : goal.returns-then-b-i-2
returns-then-b-i-2 c = sym (more_byte _ _ c.loop-i.i (omega arith) (omega arith) c.if-b-i-2.true) ∙ c.loop-i.invariant.1

pub loop-i-preserved : goal.loop-i-preserved
loop-i-preserved c = (omega arith, sym (same_byte _ _ c.loop-i.i (omega arith) (omega arith) c.if-a-i.false c.if-b-i-2.false) ∙ c.loop-i.invariant.1)

pub returns-then-a-b : goal.returns-then-a-b
returns-then-a-b c = sym (before_longer _ _ c.loop-i.i (omega arith) (omega arith)) ∙ c.loop-i.invariant.1

pub returns : goal.returns
returns c = sym (all_same _ _ c.loop-i.i (omega arith) (omega arith)) ∙ c.loop-i.invariant.1
