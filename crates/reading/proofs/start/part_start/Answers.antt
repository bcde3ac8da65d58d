-- `reading::start::part_start` meets its contract: no byte, a sign, and any other byte. Assumes nothing.
use Rattle.std.proofs.Common.{◌∙◌}
use Rattle.rules.specs.SettingsAsWords.{settings_of}
use Rattle.reading.specs.Typed.{start_nothing, start_signed, start_plain}
use Rattle.reading.proofs.start.part_start.Goals as goal

pub returns-then-text-place : goal.returns-then-text-place
returns-then-text-place c = start_nothing (settings_of c.args.settings.now) _ _ c.if-text-place.true

pub returns-in-1 : goal.returns-in-1
returns-in-1 c = c.signed_start.ensures ∙ start_signed (settings_of c.args.settings.now) _ _ c.if-text-place.false

pub returns-in_default : goal.returns-in_default
returns-in_default c = start_plain (settings_of c.args.settings.now) _ _ c.if-text-place.false c.class_at-class.ensures c.in_default.in_default-own.rest.1
