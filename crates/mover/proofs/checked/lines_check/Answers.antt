-- `mover::checked::lines_check` meets its contract: before each turn as many lines as were counted may be moved, and the others are left. Assumes
-- nothing.
use mathlib.Core.Bool.{true}
use mathlib.Core.Path.{◌≡◌, refl, sym, ap, ◌∙◌}
use Prim.Native.Nat.{ℕ, ◌*◌}
use native.Mathlib.Omega.{arith}
use lib.ListN.{length, take, drop}
use native.Mathlib.Nat.{zero-mul}
use borrow.Author.Count.{below_none}
use Rattle.std.specs.Iterator.Adapters.{enumerate_count}
use Rattle.stored.specs.Lines.{line_size_in}
use Rattle.moves.specs.NamesLongerThanSixteenBytes.{line_stands}
use Rattle.mover.specs.Walks.{chunk_is, some_left, others_are, all_counted, next_place, wrong_there, long_there, right_there, line_whole, line_within}
use Rattle.mover.proofs.checked.lines_check.Goals as goal
use Rattle.mover.proofs.checked.lines_check.Goals.{In-Some, Else-not-line_stands}

-- how many were counted before the turn, and where the next line begins
abbrev counted : In-Some → ℕ
counted c = enumerate_count c.loop-count.count-iterator

begins :
    (c : In-Some)
    → counted c * c.line_size-size.result ≡ counted c * line_size_in c.args.from.bytes
begins c = ap (λ n. counted c * n) c.line_size-size.ensures

-- the turn's line is the next of the form's length, or what is left
here :
    (c : In-Some)
    → c.in-Some.line.now ≡ take c.line_size-size.result (drop (counted c * c.line_size-size.result) c.args.source.now)
here c = chunk_is _ _ c.args.source.now _ c.loop-count.invariant.rest _ _ c.loop-count.invariant.sized c.in-Some.ensures.steps.0.1.0 c.in-Some.ensures.steps.0.1.1

-- behind the first test it is right, and so whole
right : (c : Else-not-line_stands) → line_stands c.args.from.bytes c.in-Some.line.now ≡ true
right c = sym c.line_stands.ensures ∙ c.if-not-line_stands.false

whole : (c : Else-not-line_stands) → length c.in-Some.line.now ≡ c.line_size-size.result
whole c = let turn = (goal.at.name_size-requires c).In-Some in line_whole _ _ _ _ _ _ (begins turn) c.line_size-size.ensures (here turn) (right c)

pub loop-count-init : goal.loop-count-init
loop-count-init c =
    rw (c.into_iter-count-iterator.ensures.into_iter_gives, c.enumerate-count-items.ensures.count, c.enumerate-count-items.ensures.source)
    (record { sized = c.chunks.ensures.size; within = rw (zero-mul c.line_size-size.result) (omega arith); rest = rw (zero-mul c.line_size-size.result) c.chunks.ensures.rest; moves = below_none _ })

pub loop-count-preserved : goal.loop-count-preserved
loop-count-preserved c =
    let stands = (goal.at.loop-count-preserved c).Else-not-line_stands in
    let turn = (goal.at.loop-count-preserved c).In-Some in
    let steps = c.in-Some.ensures.steps in
    let next = next_place (counted turn) _ c.line_size-size.result c.line_size-size.result refl refl in
    rw steps.2
    (record {
      sized = steps.0.0 ∙ c.loop-count.invariant.sized;
      within = rw (← next) (line_within _ _ _ _ _ _ (begins turn) c.line_size-size.ensures (here turn) (right stands));
      rest = others_are _ _ c.args.source.now _ c.loop-count.invariant.rest _ _ steps.0.1.0 (whole stands);
      moves = right_there _ _ _ _ _ _ (begins turn) c.line_size-size.ensures (here turn) _ c.loop-count.invariant.moves (right stands) (rw c.name_size.ensures at c.if-name_size-to.false);
    })

pub returns : goal.returns
returns c =
    let all = all_counted c.line_size-size.result _ c.args.source.now _ c.loop-count.invariant.rest c.in-None.ensures.steps.0.1.0 c.loop-count.invariant.within (omega arith) in
    rw all.1 (all.0 ∙ ap (λ n. enumerate_count c.loop-count.count-iterator * n) c.line_size-size.ensures, c.loop-count.invariant.moves)

pub returns-then-not-line_stands : goal.returns-then-not-line_stands
returns-then-not-line_stands c =
    let turn = (goal.at.returns-then-not-line_stands c).In-Some in
    rw c.in-Some.ensures.steps.1
    (wrong_there _ _ _ _ _ _ (begins turn) c.line_size-size.ensures (here turn) _ c.loop-count.invariant.moves (some_left _ _ c.args.source.now _ c.loop-count.invariant.rest c.in-Some.ensures.steps.0.1.2) (sym c.line_stands.ensures ∙ c.if-not-line_stands.true))

pub returns-then-name_size-to : goal.returns-then-name_size-to
returns-then-name_size-to c =
    let turn = (goal.at.returns-then-name_size-to c).In-Some in
    rw c.in-Some.ensures.steps.1
    (long_there _ _ _ _ _ _ (begins turn) c.line_size-size.ensures (here turn) _ c.loop-count.invariant.moves (right (goal.at.returns-then-name_size-to c).Else-not-line_stands) (rw c.name_size.ensures at c.if-name_size-to.true))

pub name_size-requires : goal.name_size-requires
name_size-requires c = omega (arith, whole c)
