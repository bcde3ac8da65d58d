-- `lookup::rows_in_order::find` meets its contract: the rows that are left decide. Assumes nothing.
use mathlib.Core.Path.{sym, ap, ◌∙◌}
use native.Mathlib.Omega.{arith}
use Rattle.std.specs.Slice.Iter.{chunks_exact_size}
use Rattle.lookup.specs.Laws.Walks.{walk_starts, walk_ends, walk_padded, walk_finds, walk_goes_on}
use Rattle.lookup.proofs.rows_in_order.find.Goals as goal

pub loop-row-init : goal.loop-row-init
loop-row-init c =
    let same = c.into_iter-row-iterator.ensures.into_iter_gives in
    let chunks = c.chunks_exact-row-items.ensures in
    (ap chunks_exact_size same ∙ chunks.size, rw (same, chunks.rest) (walk_starts _ _))

pub has_name-requires : goal.has_name-requires
has_name-requires c =
    let (size, (parts, sized), rem) = c.in-Some.ensures.steps in
    record { row_len = walk_padded c.loop-row.invariant.1 _ _ parts (sized ∙ c.loop-row.invariant.0) c.requires.0; first_value = c.requires.1 }

pub returns-then-has_name : goal.returns-then-has_name
returns-then-has_name c =
    let (size, (parts, sized), rem) = c.in-Some.ensures.steps in
    walk_finds c.loop-row.invariant.1 _ _ parts (sized ∙ c.loop-row.invariant.0) (sym c.has_name.ensures ∙ c.if-has_name.true)

pub loop-row-preserved : goal.loop-row-preserved
loop-row-preserved c =
    let (size, (parts, sized), rem) = c.in-Some.ensures.steps in
    (size ∙ c.loop-row.invariant.0, walk_goes_on c.loop-row.invariant.1 _ _ parts (sized ∙ c.loop-row.invariant.0) (sym c.has_name.ensures ∙ c.if-has_name.false))

pub returns : goal.returns
returns c =
    let (size, (short, same), rem) = c.in-None.ensures.steps in
    walk_ends c.loop-row.invariant.1 (omega (arith, short, c.loop-row.invariant.0))
