-- `iso_reader::worth::with_whole` meets its contract: the number that the digits spell, times the seconds of the kind. Assumes nothing.
use Rattle.std.proofs.Common.{ap, ◌∙◌, ◌+◌, ◌*◌, ◌^◌}
use Rattle.rules.specs.Evaluation.{spelled}
use Rattle.iso.specs.Laws.Worth.{whole_worth}
use Rattle.iso_reader.specs.Due.{due}
use Rattle.iso_reader.proofs.worth.with_whole.Goals as goal

pub returns : goal.returns
unfolding whole_worth
returns c n =
    let whole = c.args.counted.now.typed.whole.now in
    c.add.ensures (spelled 0 whole) n c.append-number.ensures
    ∙ ap (λ u. due c.args.total (spelled 0 whole * u * 10 ^ 9 + n)) c.seconds_of.ensures.value
