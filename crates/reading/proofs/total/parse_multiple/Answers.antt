-- `reading::total::parse_multiple` meets its contract: the parts from here on, summed up after the sum so far, come to the text's total.
-- What is left of the text falls with each part. Assumes nothing.
use Rattle.std.proofs.Common.{◌≡◌, sym, ◌∙◌, arith, rules}
use Rattle.rules.specs.NumbersHandedBack.{refused}
use Rattle.rules.specs.Evaluation.{total}
use Rattle.rules.proofs.Laws.Totals.{total_is, reading_beyond, reading_well_formed}
use Rattle.rules.proofs.Laws.Lengths.{zero_well_formed, sum_well_formed}
use Rattle.rules.proofs.Laws.Outcomes.{all_of}
use Rattle.reading.specs.Meant.{meant}
use Rattle.reading.specs.Totals.{total_refuses, total_ends, total_goes_on}
use Rattle.reading.proofs.total.parse_multiple.Goals as goal

pub loop-reading-init : goal.loop-reading-init
loop-reading-init c = (rw c.zero-sum.ensures (sym (total_is (meant c.args.card.now) _)), rw c.zero-sum.ensures zero_well_formed)

pub returns-in_err-reading : goal.returns-in_err-reading
returns-in_err-reading c =
    let refusal : refused c.in_err-reading.field-0.0 ≡ total (meant c.args.card.now) c.args.text.now =
    total_refuses (meant c.args.card.now) _ _ _ (sym c.in_err-reading.ensures) ∙ c.loop-reading.invariant.0 in
    search rules

pub saturating_add-sum-requires : goal.saturating_add-sum-requires
saturating_add-sum-requires c = (c.loop-reading.invariant.1, all_of (reading_well_formed (meant c.args.card.now) _ _) (sym c.in_ok-reading.ensures))

pub returns-then-text-reading : goal.returns-then-text-reading
returns-then-text-reading c =
    total_ends (meant c.args.card.now) _ _ _ (sym c.in_ok-reading.ensures) c.saturating_add-sum.ensures c.if-text-reading.true
    ∙ c.loop-reading.invariant.0

pub loop-reading-smaller : goal.loop-reading-smaller
loop-reading-smaller c = omega (arith, c.if-text-reading.false, (all_of (reading_beyond (meant c.args.card.now) _ _) (sym c.in_ok-reading.ensures)).past)

pub loop-reading-preserved : goal.loop-reading-preserved
loop-reading-preserved c = (
  total_goes_on (meant c.args.card.now) _ _ _ (sym c.in_ok-reading.ensures) c.saturating_add-sum.ensures c.if-text-reading.false
      ∙ c.loop-reading.invariant.0,
  rw c.saturating_add-sum.ensures (sum_well_formed _ _),
)
