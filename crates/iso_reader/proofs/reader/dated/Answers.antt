-- `iso_reader::reader::dated` meets its contract: a component that closes, the end, no `T`, and `T`. Assumes nothing.
use Rattle.std.proofs.Common.{◌∙◌, sym, ap, arith, eqb}
use borrow.Author.Tests.{ne_eqb}
use Rattle.iso_reader.specs.Steps.{found_there}
use Rattle.iso_reader.specs.Sums.{days, none_so_far, sum_closes, sum_ends, sum_clock, sum_no_clock}
use Rattle.iso_reader.proofs.reader.dated.Goals as goal

pub returns-then-closes : goal.returns-then-closes
returns-then-closes c =
    c.ended.ensures ∙ sum_closes c.args.counted.now _ _ c.with_whole-sum.ensures c.args.text.now (sym c.if-closes.ensures) ∙ none_so_far _

pub returns-in-None : goal.returns-in-None
returns-in-None c =
    c.length_of.ensures ∙ sum_ends c.args.text.now c.args.counted.now _ _ c.with_whole-sum.ensures (sym c.if-closes.ensures) c.in-None.ensures.lookup.3 ∙ none_so_far _

pub returns-in-Some-eq84 : goal.returns-in-Some-eq84
returns-in-Some-eq84 c =
    let more = sym c.if-closes.ensures in
    c.clock.ensures ∙ sum_clock c.args.text.now c.args.counted.now _ _ c.with_whole-sum.ensures more (days c.args.counted.now c.requires more) (found_there (eqb 84) _ _ _ c.in-Some-eq84.ensures.lookup.3.0 (c.in-Some-eq84.ensures.lookup.4 (omega arith) 0) ∙ ap (eqb 84) c.in-Some-eq84.field-0-test) ∙ none_so_far _

pub returns-in-Some : goal.returns-in-Some
returns-in-Some c =
    let more = sym c.if-closes.ensures in
    sum_no_clock c.args.text.now c.args.counted.now _ _ c.with_whole-sum.ensures more (days c.args.counted.now c.requires more) c.in-Some.ensures.lookup.3.0 (found_there (eqb 84) _ _ c.in-Some.field-0.now c.in-Some.ensures.lookup.3.0 (c.in-Some.ensures.lookup.4 (omega arith) 0) ∙ ne_eqb 84 c.in-Some.field-0.now (λ e. c.in-Some.field-0-test.1 (sym e))) ∙ none_so_far _
