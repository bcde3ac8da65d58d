-- `iso_writer::writer::counted` meets its contract: the three components are what is written of the length. Assumes nothing.
use Rattle.iso_writer.specs.Forms.{parts_written}
use Rattle.iso_writer.proofs.writer.counted.Goals as goal

pub returns : goal.returns
returns c = parts_written c.args.length _ _ _ c.counted_part.ensures c.counted_part-2.ensures c.counted_part-3.ensures
