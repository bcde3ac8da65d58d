-- `iso_reader::reader::ended` meets its contract: something comes, or nothing. Assumes nothing.
use Rattle.std.proofs.Common.{sym, ap, ◌∙◌}
use Rattle.rules.proofs.Laws.Outcomes.{bind_got, bind_refused}
use Rattle.iso_reader.specs.Due.{due}
use Rattle.iso_reader.specs.Sums.{closed_ends, closed_refused}
use Rattle.iso_reader.proofs.reader.ended.Goals as goal

pub returns-then-counted-text : goal.returns-then-counted-text
returns-then-counted-text c = sym (bind_refused _ (closed_refused _ _ c.if-counted-text.true))

pub returns : goal.returns
returns c =
    c.length_of.ensures
    ∙ ap (due c.args.total) c.fraction_of.ensures
    ∙ sym (bind_got _ (closed_ends c.args.text.now _ c.if-counted-text.false))
