-- `steps::unit::closes_unit` meets its contract: the text's end, an outer delimiter, a digit or a sign. Assumes nothing.
use mathlib.Core.Path.{sym, ◌∙◌}
use Rattle.rules.specs.SettingsAsWords.{settings_of}
use Rattle.steps.specs.Units.{closes_end, closes_outer, closes_next}
use Rattle.steps.proofs.unit.closes_unit.Goals as goal

pub returns-then-text-place : goal.returns-then-text-place
returns-then-text-place c = closes_end (settings_of c.args.settings.now) _ _ c.if-text-place.true

pub returns-then-holds : goal.returns-then-holds
returns-then-holds c =
    c.if-holds.true
    ∙ closes_outer (settings_of c.args.settings.now) (sym c.outer_delimiters.ensures) _ _ c.if-text-place.false
    (sym c.holds.ensures ∙ c.if-holds.true)

pub returns-else-holds : goal.returns-else-holds
returns-else-holds c =
    c.is_next_duration.ensures
    ∙ closes_next (settings_of c.args.settings.now) (sym c.outer_delimiters.ensures) _ _ c.if-text-place.false
    (sym c.holds.ensures ∙ c.if-holds.false)
