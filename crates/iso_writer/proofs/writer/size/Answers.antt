-- `iso_writer::writer::size` meets its contract: at each turn the bytes of the components so far. Assumes nothing.
use Rattle.std.proofs.Common.{◌<◌, length, arith}
use Rattle.iso_writer.specs.Forms.{parts_most, part_fits}
use Rattle.iso_writer.proofs.writer.size.Goals as goal

pub overflow_add-size : goal.overflow_add-size
overflow_add-size c =
    let form = c.args.form.now in
    let within : c.loop-part.part-index < length form = omega arith in
    record { fits = omega (arith, c.loop-part.invariant, c.part_size-size.ensures, part_fits form c.loop-part.part-index c.part-item.result within, parts_most form) }
