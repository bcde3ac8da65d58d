-- `steps::sign::sign_at` meets its contract: no byte, a sign, and any other byte. Assumes nothing.
use mathlib.Core.Path.{sym, ◌∙◌}
use Rattle.steps.specs.Signs.{sign_ends, sign_none, sign_there}
use Rattle.steps.proofs.sign.sign_at.Goals as goal

pub returns-then-text-place : goal.returns-then-text-place
returns-then-text-place c = sign_ends _ _ c.if-text-place.true

pub returns-then-is_sign : goal.returns-then-is_sign
returns-then-is_sign c = sign_there _ _ c.if-text-place.false (sym c.is_sign.ensures ∙ c.if-is_sign.true)

pub returns : goal.returns
returns c = sign_none _ _ c.if-text-place.false (sym c.is_sign.ensures ∙ c.if-is_sign.false)
