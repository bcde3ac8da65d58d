-- `value::evaluation::shift_typed` meets its contract: a typed exponent goes to the powers of its sign, and one of zero to
-- neither. Assumes nothing.
use Rattle.std.proofs.Common.{refl, ap, ◌∙◌}
use Rattle.value.specs.Numbers.{shifted_of}
use Rattle.value.specs.Evaluating.{typed_down, typed_up, typed_none}
use Rattle.value.specs.Places.{spans_whole_digits, spans_fract_digits, spans_digits, spans_attos}
use Rattle.value.proofs.evaluation.shift_typed.Goals as goal
use Rattle.value.proofs.evaluation.shift_typed.Goals.{then-typed-gt0+then-d, then-typed-gt0+else-d, else-typed-gt0}

pub invariant_of-digits : goal.invariant_of-digits
invariant_of-digits c = record { whole_digits = spans_whole_digits c.requires.spans refl refl; fract_digits = spans_fract_digits c.requires.spans refl refl }

pub shift-requires : goal.shift-requires
shift-requires c = rw (spans_digits c.requires.spans refl refl) c.requires.counts

pub returns : goal.returns
returns c =
    c.shift.ensures
    ∙ ap shifted_of
    (spans_attos c.requires.spans refl refl _ _ _
    ∙ elim c.if-typed-gt0.branch [
      | then-typed-gt0+then-d w ↦ typed_down _ _ _ w.if-d.true w.up-is w.down-is
      | then-typed-gt0+else-d w ↦ typed_up _ _ _ w.if-d.false w.up-is w.down-is
      | else-typed-gt0 w ↦ typed_none _ _ _ w.if-typed-gt0.false w.up-is w.down-is
    ])
