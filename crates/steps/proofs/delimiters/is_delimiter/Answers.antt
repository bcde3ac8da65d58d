-- `steps::delimiters::is_delimiter` meets its contract: nothing stands at the text's end, and elsewhere the byte there. Assumes nothing.
use mathlib.Core.Path.{sym, ◌∙◌}
use Rattle.rules.proofs.Laws.Texts.{sees_here, sees_end}
use Rattle.steps.proofs.delimiters.is_delimiter.Goals as goal

pub returns-then-text-place : goal.returns-then-text-place
returns-then-text-place c = sym (sees_end _ _ _ c.if-text-place.true)

pub returns : goal.returns
returns c = c.holds.ensures ∙ sym (sees_here _ _ _ c.if-text-place.false)
