-- `iso_reader::worth::fraction_of` meets its contract: no digits behind a mark, and some. Assumes nothing.
use Rattle.std.proofs.Common.{◌∙◌, ap, ◌*◌, ◌^◌, drop}
use Rattle.std.proofs.lemmas.List.{take_rest}
use Rattle.iso.specs.Laws.Worth.{fraction_worth}
use Rattle.iso.specs.IsoTimings.{decimals}
use Rattle.iso_reader.specs.Tenths.{tenths}
use Rattle.iso_reader.specs.Sums.{fraction_none}
use Rattle.iso_reader.proofs.worth.fraction_of.Goals as goal

pub returns-in_default : goal.returns-in_default
returns-in_default c = fraction_none c.args.counted.now c.in_default.len_below

pub returns : goal.returns
unfolding tenths fraction_worth decimals
returns c =
    let fraction = c.args.counted.now.typed.fraction.now in
    c.fraction_nanoseconds.ensures
    ∙ ap (tenths (c.seconds_of.result * 10 ^ 9)) (take_rest fraction 1)
    ∙ ap (λ u. tenths (u * 10 ^ 9) (drop 1 fraction)) c.seconds_of.ensures.value
