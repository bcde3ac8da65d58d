-- `iso_writer::writer::put_form` meets its contract: at each turn the components so far stand behind `PT`. Assumes nothing.
use Rattle.std.proofs.Common.{◌≡◌, ◌<◌, ◌+◌, ◌∙◌, ap, length, length-set, take_all, set, arith}
use Rattle.writing.specs.Laid.{laid, laid_nothing}
use Rattle.iso_writer.specs.Forms.{parts_bytes, form_laid, form_more, more_size}
use Rattle.iso_writer.proofs.writer.put_form.Goals as goal

pub loop-part-init : goal.loop-part-init
loop-part-init c = (omega arith, laid_nothing _ _)

pub loop-part-preserved : goal.loop-part-preserved
loop-part-preserved c =
    let form = c.args.form.now in
    let i = c.loop-part.part-index in
    let item = c.part-item.result in
    let within : i < length form = omega arith in
    let letters = set (set c.args.buffer.now c.args.place 80) (c.args.place + 1) 84 in
    let kept : length letters ≡ length c.args.buffer.now = length-set (set c.args.buffer.now c.args.place 80) (c.args.place + 1) 84 ∙ length-set c.args.buffer.now c.args.place 80 in (
      omega (arith, c.put_part-next.ensures.value, c.loop-part.invariant.0, more_size form i item within),
      c.put_part-next.ensures.buffer_after
          ∙ rw (c.loop-part.invariant.1, c.loop-part.invariant.0) (form_more form i item within letters (c.args.place + 1 + 1) (omega (arith, kept, c.requires))),
    )

pub returns : goal.returns
returns c =
    let form = c.args.form.now in
    c.loop-part.invariant.1
    ∙ ap (λ l. laid (set (set c.args.buffer.now c.args.place 80) (c.args.place + 1) 84) (c.args.place + 1 + 1) (parts_bytes l)) (take_all c.loop-part.part-index form (omega arith))
    ∙ form_laid form c.args.buffer.now c.args.place c.requires
