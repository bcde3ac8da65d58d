-- `steps::letters::next_is_letters` meets its contract: the letters that are left decide what all of them do. Assumes nothing.
use mathlib.Core.Path.{◌≡◌, refl, sym, ◌∙◌}
use mathlib.Core.Bool.{true, ◌&&◌}
use Prim.Native.Nat.{◌-◌, ◌/◌, ◌%◌}
use borrow.Author.Rules.{rules}
use borrow.Author.Tests.{not-true, not-false}
use Rattle.rules.specs.SettingsAndUnitTable.{LETTER, is, low_bytes}
use Rattle.rules.specs.Common.{all}
use Rattle.rules.proofs.Laws.Choices.{and_left, and_right}
use Rattle.steps.specs.Letters.{all_letters, letters_done, letters_end, letters_more, letters_stop}
use Rattle.std.proofs.Common.{ap, not}
use Rattle.steps.proofs.letters.next_is_letters.Goals as goal
use Rattle.steps.proofs.letters.next_is_letters.Goals.{After-shared_slice_known-in-loop-left-1}

pub loop-left-init : goal.loop-left-init
loop-left-init c = (refl, c.requires)

pub returns-then-text-next : goal.returns-then-text-next
returns-then-text-next c = sym (letters_end _ _ _ _ (search rules) c.if-text-next.true) ∙ c.loop-left.invariant.0

-- the lowest of the letters that are left, and those above it
both : (c : After-shared_slice_known-in-loop-left-1) → (is LETTER (c.loop-left.rest % 256) && all (is LETTER) (low_bytes (c.loop-left.left - 1) (c.loop-left.rest / 256))) ≡ true
both c =
    sym (all_letters (is LETTER) c.loop-left.left c.loop-left.rest c.loop-left-test.true) ∙ c.loop-left.invariant.1

pub same_letter-requires : goal.same_letter-requires
same_letter-requires c = and_left _ _ (both c)

pub returns-then-not-same_letter : goal.returns-then-not-same_letter
returns-then-not-same_letter c =
    sym (letters_stop c.loop-left.left c.loop-left.rest _ c.loop-left.next (search rules) (search rules)
    (sym c.same_letter.ensures ∙ not-true c.same_letter.result (ap not c.if-not-same_letter.true)))
    ∙ c.loop-left.invariant.0

pub loop-left-preserved : goal.loop-left-preserved
loop-left-preserved c = (
  sym (letters_more c.loop-left.left c.loop-left.rest _ c.loop-left.next (search rules) (search rules)
      (sym c.same_letter.ensures ∙ not-false c.same_letter.result (ap not c.if-not-same_letter.false)))
      ∙ c.loop-left.invariant.0,
  and_right (is LETTER (c.loop-left.rest % 256)) _ (both (goal.at.loop-left-preserved c).After-shared_slice_known-in-loop-left-1),
)

pub returns : goal.returns
returns c = sym (letters_done _ _ _ _ c.loop-left-test.false) ∙ c.loop-left.invariant.0
