-- `iso_writer::writer::put_part` meets its contract: nothing, or the digits, behind them the decimals, and behind them the letter.
-- Assumes nothing.
use Rattle.std.proofs.Common.{◌+◌, ap, ap₂, ◌∙◌, set}
use Rattle.writing.specs.Forms.{behind_point}
use Rattle.writing.specs.Laid.{laid, laid_nothing}
use Rattle.iso_writer.specs.Forms.{part_laid}
use Rattle.iso_writer.proofs.writer.put_part.Goals as goal

pub returns-in_default-clause-buffer_after : goal.returns-in_default-clause-buffer_after
returns-in_default-clause-buffer_after c = rw c.in_default.is (laid_nothing _ _)

pub returns-clause-buffer_after : goal.returns-clause-buffer_after
returns-clause-buffer_after c =
    let part = c.in-Some.part in
    let point = c.args.place + part.whole.count in
    let decimals = c.put_fraction.ensures ∙ ap (λ b. laid b point (behind_point part.decimals)) c.put.ensures in
    rw c.in-Some.is
    (ap₂ (λ b n. set b (point + n) part.letter) decimals c.fraction_size.ensures
    ∙ part_laid part c.args.buffer.now c.args.place (rw c.in-Some.is at c.requires))
