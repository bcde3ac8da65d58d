-- `iso_reader::worth::length_of` meets its contract: too large already, with the nanoseconds, and not at all. Assumes nothing.
use Rattle.std.proofs.Common.{◌∙◌, ap, arith}
use Rattle.rules.specs.NumbersHandedBack.{refused}
use Rattle.iso_reader.specs.Due.{due, held_over, held_is}
use Rattle.iso_reader.specs.Steps.{handed_on, none_there}
use Rattle.iso_reader.proofs.worth.length_of.Goals as goal

pub returns-in_err-whole : goal.returns-in_err-whole
unfolding due
returns-in_err-whole c =
    handed_on c.from_residual.result c.from_residual.ensures.1
    ∙ ap refused (none_there c.args.total c.in_err-whole.ensures.value)
    ∙ rw c.in_err-whole.ensures.ok_part

pub returns-in_err-seconds : goal.returns-in_err-seconds
returns-in_err-seconds c =
    let over = rw c.in_err-seconds.ensures.ok_part at c.checked_add.ensures in
    handed_on c.from_residual-in_err-seconds.result c.from_residual-in_err-seconds.ensures.1
    ∙ ap refused (none_there c.checked_add.result c.in_err-seconds.ensures.value)
    ∙ rw c.in_ok-whole.ensures.ok_part (held_over c.in_ok-whole.whole c.args.nanoseconds (omega (arith, over)))

pub returns : goal.returns
returns c =
    let sum = rw c.in_ok-seconds.ensures.ok_part at c.checked_add.ensures in
    rw (c.in_ok-whole.ensures.ok_part, sum.1) (held_is c.in_ok-whole.whole c.args.nanoseconds sum.0)
