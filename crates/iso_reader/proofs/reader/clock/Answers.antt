-- `iso_reader::reader::clock` meets its contract: what components come to from here on, with the seconds so far, is what they come to from the
-- start. The kinds fall. Assumes nothing.
use Rattle.std.proofs.Common.{◌≡◌, ◌<◌, sym, ap, ◌∙◌, drop, arith}
use Rattle.rules.specs.NumbersHandedBack.{◌>>=◌}
use Rattle.rules.proofs.Laws.Outcomes.{bind_refused}
use Rattle.iso.specs.IsoTimings.{DAYS, wanted, read_from}
use Rattle.iso_reader.specs.Kinds.{kind_number}
use Rattle.iso_reader.specs.Steps.{component_then, handed_on}
use Rattle.iso_reader.specs.Sums.{summed, falls, sum_closes, sum_ends, sum_goes_on}
use Rattle.iso_reader.proofs.reader.clock.Goals as goal
use Rattle.iso_reader.proofs.reader.clock.Goals.{In_ok-counted}

pub returns-in_err-counted : goal.returns-in_err-counted
unfolding ◌>>=◌
returns-in_err-counted c =
    handed_on c.from_residual.result c.from_residual.ensures.1
    ∙ sym (bind_refused _ (sym c.in_err-counted.ensures.outcome))
    ∙ c.loop-counted.invariant.1

-- what comes of the component that was read
comes : (c : In_ok-counted) → summed (component_then c.args.text.now c.in_ok-counted.counted) c.loop-counted.sum ≡ summed (read_from (wanted DAYS) c.args.place (drop c.args.place c.args.text.now)) c.args.total
unfolding ◌>>=◌
comes c = ap (λ read. summed read c.loop-counted.sum) c.in_ok-counted.ensures.outcome ∙ c.loop-counted.invariant.1

pub returns-then-closes : goal.returns-then-closes
returns-then-closes c =
    c.ended.ensures
    ∙ sum_closes c.in_ok-counted.counted _ _ c.with_whole-sum.ensures c.args.text.now (sym c.if-closes.ensures)
    ∙ comes (goal.at.returns-then-closes c).In_ok-counted

pub returns-then-next-text : goal.returns-then-next-text
returns-then-next-text c =
    c.length_of.ensures
    ∙ sum_ends c.args.text.now c.in_ok-counted.counted _ _ c.with_whole-sum.ensures (sym c.if-closes.ensures) c.if-next-text.true
    ∙ comes (goal.at.returns-then-next-text c).In_ok-counted

fallen : (c : In_ok-counted) → kind_number c.in_ok-counted.counted.kind < kind_number c.loop-counted.least
fallen c = falls c.in_ok-counted.counted c.loop-counted.least c.loop-counted.invariant.0 c.in_ok-counted.ensures.comes

pub loop-counted-smaller : goal.loop-counted-smaller
loop-counted-smaller c = fallen (goal.at.loop-counted-smaller c).In_ok-counted

pub loop-counted-preserved : goal.loop-counted-preserved
loop-counted-preserved c =
    let at = (goal.at.loop-counted-preserved c).In_ok-counted in
    let least = c.loop-counted.invariant.0 in (
      omega (arith, fallen at, least),
      sum_goes_on c.args.text.now c.in_ok-counted.counted _ _ c.with_whole-sum.ensures (sym c.if-closes.ensures) (omega (arith, fallen at, least)) c.if-next-text.false ∙ comes at,
    )
