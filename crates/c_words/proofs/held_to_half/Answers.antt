-- `c_words::held_to_half` meets its contract: over the limit, or within it. Assumes nothing.
use Rattle.std.proofs.Common.{◌∙◌}
use Rattle.settings.specs.Laws.Settings.{held_tried}
use Rattle.c_words.proofs.held_to_half.Goals as goal

pub returns : goal.returns
returns c = c.unwrap_or.ensures ∙ held_tried 4294967295 c.try_from.result c.args.word c.try_from.ensures
