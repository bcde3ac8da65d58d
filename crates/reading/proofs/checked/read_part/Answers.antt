-- `reading::checked::read_part` meets its contract: 8, 10, and the part. Assumes nothing.
use Rattle.std.proofs.Common.{◌∙◌}
use Rattle.reading.specs.Meant.{meant}
use Rattle.reading.specs.Entries.{reads_long, reads_far, reads_passed}
use Rattle.reading.proofs.checked.read_part.Goals as goal

pub returns-then-text-gt-LONGEST_TEXT : goal.returns-then-text-gt-LONGEST_TEXT
returns-then-text-gt-LONGEST_TEXT c = reads_long (meant c.args.card.now.ready) _ _ c.args.card.now.accepted c.if-text-gt-LONGEST_TEXT.true

pub returns-then-place-text : goal.returns-then-place-text
returns-then-place-text c = reads_far (meant c.args.card.now.ready) _ _ c.args.card.now.accepted c.if-text-gt-LONGEST_TEXT.false c.if-place-text.true

pub returns : goal.returns
returns c = c.parse_part.ensures ∙ reads_passed (meant c.args.card.now.ready) _ _ c.args.card.now.accepted c.if-text-gt-LONGEST_TEXT.false c.if-place-text.false
