-- `iso_writer::writer::size` meets its contract: at each turn the bytes of the components so far. Assumes nothing.
use Rattle.std.proofs.Common.{◌≡◌, ◌+◌, take}
use Rattle.iso_writer.specs.Forms.{parts_size}
use Rattle.iso_writer.proofs.writer.size.Given as goal

abbrev pub invariant-loop-part : goal.invariant-loop-part
invariant-loop-part l = l.size ≡ 2 + parts_size (take l.part-index l.form)
