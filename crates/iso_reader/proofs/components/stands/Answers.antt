-- `iso_reader::components::stands` meets its contract: the byte there, and none beyond the end. Assumes nothing.
use Rattle.std.proofs.Common.{◌∙◌}
use Rattle.iso_reader.specs.Steps.{stands_there}
use Rattle.iso_reader.proofs.components.stands.Goals as goal

pub returns : goal.returns
returns c =
    c.eq.ensures ∙ stands_there c.args.text.now c.args.place c.get.result _ c.get.ensures.lookup.0 c.get.ensures.lookup.1
