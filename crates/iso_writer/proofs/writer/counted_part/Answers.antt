-- `iso_writer::writer::counted_part` meets its contract: nothing, or the digits that are written. Assumes nothing.
use Rattle.std.proofs.Common.{sym}
use Rattle.iso_writer.specs.Forms.{part_is, part_not}
use Rattle.iso_writer.proofs.writer.counted_part.Goals as goal

pub returns-then-not-shows : goal.returns-then-not-shows
returns-then-not-shows c = part_not _ c.args.needed c.args.number c.args.nanoseconds (sym c.if-not-shows.ensures)

pub returns : goal.returns
returns c =
    part_is c.whole.result c.fraction.result c.args.letter c.args.needed c.args.number c.args.nanoseconds c.requires (sym c.if-not-shows.ensures) c.whole.ensures.0 c.fraction.ensures.0
