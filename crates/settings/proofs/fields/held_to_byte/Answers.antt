-- `settings::fields::held_to_byte` meets its contract: over the limit, or within it. Assumes nothing.
use Rattle.std.proofs.Common.{◌∙◌}
use Rattle.settings.specs.Laws.Settings.{held_tried}
use Rattle.settings.proofs.fields.held_to_byte.Goals as goal

pub returns : goal.returns
returns c = c.unwrap_or.ensures ∙ held_tried 255 c.try_from.result c.args.word c.try_from.ensures
