-- `steps::number::is_point` meets its contract: nothing stands at the text's end, and elsewhere the byte there. Assumes nothing.
use mathlib.Core.Path.{sym, ◌∙◌}
use native.Mathlib.Omega.{arith}
use Rattle.rules.proofs.Laws.Texts.{sees_here, sees_end}
use Rattle.steps.specs.Bytes.{point_byte}
use Rattle.steps.proofs.number.is_point.Goals as goal

pub returns-then-text-place : goal.returns-then-text-place
returns-then-text-place c = sym (sees_end _ _ _ c.if-text-place.true)

pub returns : goal.returns
returns c = sym (sees_here _ _ _ c.if-text-place.false ∙ point_byte _ (omega (arith, c.shared_slice_known-1.given c.args.place)))
