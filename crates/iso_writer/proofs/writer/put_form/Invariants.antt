-- `iso_writer::writer::put_form` meets its contract: at each turn the components so far stand behind `PT`. Assumes nothing.
use Rattle.std.proofs.Common.{◌≡◌, ◌+◌, take}
use Rattle.writing.specs.Laid.{laid}
use Rattle.iso_writer.specs.Forms.{parts_size, parts_bytes}
use Rattle.iso_writer.proofs.writer.put_form.Given as goal

abbrev pub invariant-loop-part : goal.invariant-loop-part
invariant-loop-part l =
    (l.next ≡ l.place + 1 + 1 + parts_size (take l.part-index l.form))
    × (l.buffer ≡ laid l.initial.buffer (l.place + 1 + 1) (parts_bytes (take l.part-index l.form)))
