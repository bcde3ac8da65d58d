-- `iso_reader::reader::read_iso` meets its contract: a text that is too long, one that is refused, and one that is read. Assumes nothing.
use Rattle.std.proofs.Common.{◌∙◌}
use Rattle.iso_reader.specs.Answers.{answer_too_long, answer_refused, answer_read}
use Rattle.iso_reader.proofs.reader.read_iso.Goals as goal

pub returns-then-text-gt-LONGEST_TEXT : goal.returns-then-text-gt-LONGEST_TEXT
returns-then-text-gt-LONGEST_TEXT c = c.refusal.ensures ∙ answer_too_long _ c.if-text-gt-LONGEST_TEXT.true

pub returns-in-Err : goal.returns-in-Err
returns-in-Err c = c.refusal-in-Err.ensures ∙ answer_refused _ c.if-text-gt-LONGEST_TEXT.false c.in-Err.ensures

pub returns-in-Ok : goal.returns-in-Ok
returns-in-Ok c = c.done.ensures ∙ answer_read _ c.if-text-gt-LONGEST_TEXT.false c.in-Ok.ensures
