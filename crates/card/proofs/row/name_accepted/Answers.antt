-- `card::row::name_accepted` meets its contract: the bytes that are left decide what all of them do. The measure is how many there are. Assumes nothing.
use mathlib.Core.Path.{◌≡◌, sym, ◌∙◌}
use mathlib.Core.Bool.{false}
use mathlib.Core.List.{List}
use Prim.Native.Nat.{ℕ, ◌≤◌}
use native.Mathlib.Omega.{arith}
use lib.ListN.{length, take, length-take, length-drop}
use borrow.Author.Tests.{not-true, not-false}
use Rattle.card.specs.Laws.Names.{word_fails, word_passes}
use Rattle.std.proofs.Common.{ap, not}
use Rattle.card.proofs.row.name_accepted.Goals as goal

-- eight bytes are left
eight : (left : List ℕ) → 8 ≤ length left → length (take 8 left) ≡ 8
eight left more = simp length-take (omega arith)

pub returns-then-not-word_accepted : goal.returns-then-not-word_accepted
returns-then-not-word_accepted c =
    let loop = c.loop-rest in
    sym (sym loop.invariant ∙ word_fails _ loop.rest.now (sym c.word_accepted.ensures ∙ not-true c.word_accepted.result (ap not c.if-not-word_accepted.true)))

pub loop-rest-preserved : goal.loop-rest-preserved
loop-rest-preserved c =
    let loop = c.loop-rest in
    sym (word_passes _ loop.rest.now (sym c.word_accepted.ensures ∙ not-false c.word_accepted.result (ap not c.if-not-word_accepted.false))) ∙ loop.invariant

pub slice_bounds-word_accepted-end : goal.slice_bounds-word_accepted-end
slice_bounds-word_accepted-end c = sym (eight c.loop-rest.rest.now c.loop-rest-test.true)

pub word_accepted-requires : goal.word_accepted-requires
word_accepted-requires c = (eight c.loop-rest.rest.now c.loop-rest-test.true, c.requires)

pub loop-rest-smaller : goal.loop-rest-smaller
loop-rest-smaller c = simp (length-take, length-drop) (omega arith)

pub returns : goal.returns
returns c = c.none_held.ensures ∙ c.loop-rest.invariant
