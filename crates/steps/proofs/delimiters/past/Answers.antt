-- `steps::delimiters::past` meets its contract: the run from here on ends where the run from the first place does. Assumes nothing.
use mathlib.Core.Path.{refl, sym, ◌∙◌}
use mathlib.Core.Bool.{xor}
use borrow.Author.Rules.{rules}
use Rattle.value.specs.Digits.{run_end}
use Rattle.steps.specs.Sets.{passes_on, passes_off}
use Rattle.steps.proofs.delimiters.past.Goals as goal

pub loop-next-init : goal.loop-next-init
loop-next-init c = refl

pub returns-then-holds-held : goal.returns-then-holds-held
unfolding xor
returns-then-holds-held c =
    sym (passes_off _ _ _ _ (search rules) c.holds.ensures c.if-holds-held.true)
    ∙ c.loop-next.invariant

pub loop-next-preserved : goal.loop-next-preserved
unfolding xor
loop-next-preserved c =
    sym (passes_on _ _ _ _ (search rules) c.holds.ensures c.if-holds-held.false)
    ∙ c.loop-next.invariant

pub returns : goal.returns
returns c = sym (run_end _ _ _ c.loop-next-test.false) ∙ c.loop-next.invariant
