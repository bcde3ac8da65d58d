-- `steps::connection::conjunction_size` meets its contract: the conjunctions from here on decide what all of them do. Assumes nothing.
use mathlib.Core.Path.{refl, sym, ◌∙◌}
use Prim.Native.Nat.{◌<◌}
use native.Mathlib.Omega.{arith}
use Rattle.rules.specs.SettingsAsWords.{settings_of}
use Rattle.rules.specs.SettingsAndUnitTable.{letters_of, most_conjunctions}
use Rattle.settings.specs.Laws.Accepted.{conjunctions_most}
use Rattle.steps.specs.Connections.{size_end, size_here, size_next, listed_letters}
use Rattle.steps.proofs.connection.conjunction_size.Goals as goal
use Rattle.steps.proofs.connection.conjunction_size.Goals.{In-loop-i}

-- the conjunction counts, and is one of four
counts : (c : In-loop-i) → c.loop-i.i < (settings_of c.args.settings.now).conjunctions
counts c = rw (← c.loop-i.invariant.0) c.loop-i-test.true

one-of-four : (c : In-loop-i) → c.loop-i.i < most_conjunctions
one-of-four c =
    omega (arith, counts c, conjunctions_most (settings_of c.args.settings.now) c.requires)

pub next_is_letters-requires : goal.next_is_letters-requires
unfolding letters_of
next_is_letters-requires c =
    listed_letters (settings_of c.args.settings.now) c.requires c.loop-i.i (counts (goal.at.next_is_letters-requires c).In-loop-i) (one-of-four (goal.at.next_is_letters-requires c).In-loop-i)
    c.conjunction_at-conjunction.ensures

pub returns-then-next_is_letters : goal.returns-then-next_is_letters
unfolding letters_of
returns-then-next_is_letters c =
    sym (size_here (settings_of c.args.settings.now) _ _ c.loop-i.i (counts (goal.at.returns-then-next_is_letters c).In-loop-i)
    (one-of-four (goal.at.returns-then-next_is_letters c).In-loop-i) c.conjunction_at-conjunction.ensures (sym c.next_is_letters.ensures ∙ c.if-next_is_letters.true))
    ∙ c.loop-i.invariant.1

pub loop-i-preserved : goal.loop-i-preserved
unfolding letters_of
loop-i-preserved c = (
  c.loop-i.invariant.0,
  sym (size_next (settings_of c.args.settings.now) _ _ c.loop-i.i (counts (goal.at.loop-i-preserved c).In-loop-i)
      (one-of-four (goal.at.loop-i-preserved c).In-loop-i) c.conjunction_at-conjunction.ensures (sym c.next_is_letters.ensures ∙ c.if-next_is_letters.false))
      ∙ c.loop-i.invariant.1,
)

pub returns : goal.returns
returns c =
    sym (size_end (settings_of c.args.settings.now) _ _ c.loop-i.i (rw (← c.loop-i.invariant.0) c.loop-i-test.false))
    ∙ c.loop-i.invariant.1

pub loop-i-init : goal.loop-i-init
loop-i-init c = (c.conjunctions-count.ensures, refl)
