-- `reading::start::class_at` meets its contract: no byte, a digit, and any other. Assumes nothing.
use mathlib.Core.Path.{sym, ◌∙◌}
use Rattle.rules.specs.SettingsAndUnitTable.{DIGIT}
use Rattle.reading.specs.Typed.{class_end, class_here, class_known}
use Rattle.reading.proofs.start.class_at.Goals as goal

pub returns-then-text-place : goal.returns-then-text-place
returns-then-text-place c = class_end _ _ c.if-text-place.true

pub returns-then-is_digit : goal.returns-then-is_digit
returns-then-is_digit c = class_known _ _ DIGIT c.if-text-place.false (sym c.is_digit.ensures ∙ c.if-is_digit.true)

pub returns : goal.returns
returns c = c.class_of.ensures ∙ class_here _ _ c.if-text-place.false
