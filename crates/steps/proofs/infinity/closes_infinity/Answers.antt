-- `steps::infinity::closes_infinity` meets its contract: the text's end, or an outer delimiter. Assumes nothing.
use mathlib.Core.Path.{sym, ◌∙◌}
use Rattle.rules.specs.SettingsAsWords.{settings_of}
use Rattle.steps.specs.Infinity.{closes_end, closes_here}
use Rattle.steps.proofs.infinity.closes_infinity.Goals as goal

pub returns-then-text-place : goal.returns-then-text-place
returns-then-text-place c = closes_end (settings_of c.args.settings.now) _ _ c.if-text-place.true

pub returns : goal.returns
returns c =
    c.is_delimiter.ensures
    ∙ closes_here (settings_of c.args.settings.now) _ _ c.if-text-place.false (sym c.outer_delimiters.ensures)
