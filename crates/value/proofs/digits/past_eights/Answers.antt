-- `value::digits::past_eights` meets its contract: eight bytes that pass go on with the run, so that at each turn the run from here is the
-- run from the start. Assumes nothing.
use Rattle.std.proofs.Common.{◌≡◌, ap, ◌∙◌, ◌+◌, arith, rules}
use Rattle.rules.specs.Common.{run}
use Rattle.value.specs.Digits.{run_many}
use Rattle.value.proofs.digits.past_eights.Goals as goal

pub returns-then-not-eight-2 : goal.returns-then-not-eight-2
returns-then-not-eight-2 g c test stands =
    run_many test _ _ 8 (search rules) (stands c.loop-next.next (search rules) c.if-not-eight.ensures) ∙ c.loop-next.invariant.same_run test stands

pub loop-next-preserved : goal.loop-next-preserved
loop-next-preserved g c = record {
  same_run = λ test stands.
      let both : c.loop-next.next + 16 ≡ c.loop-next.next + 8 + 8 = omega arith in
      ap (run test c.args.text.now) both
      ∙ run_many test _ _ 8 (search rules) (stands _ (search rules) c.if-not-eight-2.ensures)
      ∙ run_many test _ _ 8 (search rules) (stands _ (search rules) c.if-not-eight.ensures)
      ∙ c.loop-next.invariant.same_run test stands;
  within = search rules;
}
