-- `value::evaluation::evaluate` meets its contract: what is too large stays so whatever multiplies it, and what fits is multiplied
-- as seconds and attoseconds. Assumes nothing.
use mathlib.Core.Path.{sym, ◌∙◌}
use mathlib.Core.Bool.{xor}
use Rattle.value.specs.Evaluating.{evaluate_infinite, evaluate_nothing, evaluate_large, evaluate_fits, fits_parts}
use Rattle.value.proofs.evaluation.evaluate.Goals as goal

pub returns-then-d : goal.returns-then-d
returns-then-d c = c.largest.ensures ∙ sym (evaluate_infinite _ c.args.d _ c.if-d.true)

pub returns-then-coefficient-eq0 : goal.returns-then-coefficient-eq0
returns-then-coefficient-eq0 c = c.zero.ensures ∙ sym (evaluate_nothing _ c.args.d _ c.if-d.false c.if-coefficient-eq0.true)

pub returns-in_default : goal.returns-in_default
unfolding xor
returns-in_default c =
    c.largest-in_default.ensures
    ∙ sym (evaluate_large _ c.args.d _ c.if-d.false c.if-coefficient-eq0.false
    (sym c.shift_typed.ensures ∙ c.in_default.is))

pub calculate_duration-requires : goal.calculate_duration-requires
calculate_duration-requires c = (fits_parts _ _ (sym c.shift_typed.ensures ∙ c.in-Some.is)).below

pub returns : goal.returns
unfolding xor
returns c =
    c.calculate_duration.ensures
    ∙ sym (evaluate_fits _ c.args.d _ c.if-d.false _
    (sym c.shift_typed.ensures ∙ c.in-Some.is))
