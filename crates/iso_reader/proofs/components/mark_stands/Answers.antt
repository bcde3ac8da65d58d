-- `iso_reader::components::mark_stands` meets its contract: `.`, or `,`. Assumes nothing.
use Rattle.std.proofs.Common.{sym, ◌∙◌}
use Rattle.iso_reader.specs.Steps.{sees_mark}
use Rattle.iso_reader.proofs.components.mark_stands.Goals as goal

pub returns-then-stands : goal.returns-then-stands
returns-then-stands c = c.if-stands.true ∙ sym (sees_mark _ _ ∙ rw (sym c.if-stands.ensures))

pub returns-else-stands : goal.returns-else-stands
returns-else-stands c = c.stands-else-stands.ensures ∙ sym (sees_mark _ _ ∙ rw (sym c.if-stands.ensures))
