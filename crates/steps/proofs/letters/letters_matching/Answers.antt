-- `steps::letters::letters_matching` meets its contract: the letters counted, and those that match from here on, are all that match. Assumes nothing.
use mathlib.Core.Path.{sym, ◌∙◌}
use native.Mathlib.Omega.{arith}
use borrow.Author.Rules.{rules}
use borrow.Author.Tests.{not-true, not-false}
use Rattle.rules.specs.SettingsAndUnitTable.{LETTER, is}
use Rattle.rules.proofs.Laws.Lists.{all_index}
use Rattle.steps.specs.Letters.{matching_ends, matching_done, matching_more, matching_stops}
use Rattle.std.proofs.Common.{ap, not}
use Rattle.steps.proofs.letters.letters_matching.Goals as goal

pub loop-count-init : goal.loop-count-init
loop-count-init c = (search rules, search rules)

pub returns-then-text-next : goal.returns-then-text-next
returns-then-text-next c = omega (arith, matching_ends c.args.word.now c.args.text.now c.loop-count.count c.loop-count.next c.if-text-next.true, c.loop-count.invariant.0)

pub same_letter-requires : goal.same_letter-requires
same_letter-requires c = all_index (is LETTER) c.args.word.now c.loop-count.count 0 c.requires c.loop-count-test.true

pub returns-then-not-same_letter : goal.returns-then-not-same_letter
returns-then-not-same_letter c =
    omega (
      arith,
      matching_stops c.args.word.now c.args.text.now c.loop-count.count c.loop-count.next (search rules) (search rules)
          (sym c.same_letter.ensures ∙ not-true c.same_letter.result (ap not c.if-not-same_letter.true)),
      c.loop-count.invariant.0,
    )

pub loop-count-preserved : goal.loop-count-preserved
loop-count-preserved c = (
  omega (
    arith,
    matching_more c.args.word.now c.args.text.now c.loop-count.count c.loop-count.next (search rules) (search rules)
        (sym c.same_letter.ensures ∙ not-false c.same_letter.result (ap not c.if-not-same_letter.false)),
    c.loop-count.invariant.0,
  ),
  search rules,
)

pub returns : goal.returns
returns c = omega (arith, matching_done c.args.word.now c.args.text.now c.loop-count.count c.loop-count.next c.loop-count-test.false, c.loop-count.invariant.0)
