-- `reading::checked::read_total` meets its contract: 8, and the total. Assumes nothing.
use Rattle.std.proofs.Common.{◌∙◌}
use Rattle.reading.specs.Meant.{meant}
use Rattle.reading.specs.Entries.{totals_long, totals_passed}
use Rattle.reading.proofs.checked.read_total.Goals as goal

pub returns-then-text-gt-LONGEST_TEXT : goal.returns-then-text-gt-LONGEST_TEXT
returns-then-text-gt-LONGEST_TEXT c = totals_long (meant c.args.card.now.ready) _ c.args.card.now.accepted c.if-text-gt-LONGEST_TEXT.true

pub returns : goal.returns
returns c = c.parse_multiple.ensures ∙ totals_passed (meant c.args.card.now.ready) _ c.args.card.now.accepted c.if-text-gt-LONGEST_TEXT.false
