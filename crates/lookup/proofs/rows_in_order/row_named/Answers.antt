-- `lookup::rows_in_order::row_named` meets its contract: the rows that are left decide. Assumes nothing.
use mathlib.Core.Path.{sym, ap, ◌∙◌}
use native.Mathlib.Omega.{arith}
use Rattle.std.specs.Slice.Iter.{chunks_exact_size}
use Rattle.rows.specs.Named.{found_row}
use Rattle.index.specs.declared.Searched.{Searched}
use Rattle.lookup.specs.Laws.Walks.{named_found, walk_starts, walk_ends, walk_row, walk_padded, walk_finds, walk_goes_on}
use Rattle.lookup.proofs.rows_in_order.row_named.Goals as goal

pub loop-row-init : goal.loop-row-init
loop-row-init c =
    let same = c.into_iter-row-iterator.ensures.into_iter_gives in
    let chunks = c.chunks_exact-row-items.ensures in
    (ap chunks_exact_size same ∙ chunks.size, rw (same, chunks.rest) (walk_starts _ _))

pub has_name-requires : goal.has_name-requires
has_name-requires c =
    let (size, (parts, sized), rem) = c.in-Some.ensures.steps in
    record { row_len = walk_padded c.loop-row.invariant.1 _ _ parts (sized ∙ c.loop-row.invariant.0) c.requires.0; first_value = c.requires.1 }

pub returns-then-has_name : goal.returns-then-has_name
unfolding found_row
returns-then-has_name c =
    let (size, (parts, sized), rem) = c.in-Some.ensures.steps in
    let w = c.loop-row.invariant.1 in
    let whole = sized ∙ c.loop-row.invariant.0 in
    let found = walk_finds w _ _ parts whole (sym c.has_name.ensures ∙ c.if-has_name.true) in
    record { result_value = walk_row w _ _ parts whole ∙ named_found _ _ found; compared_after = ap (λ (s : Searched). s.compared) found }

pub loop-row-preserved : goal.loop-row-preserved
loop-row-preserved c =
    let (size, (parts, sized), rem) = c.in-Some.ensures.steps in
    (size ∙ c.loop-row.invariant.0, walk_goes_on c.loop-row.invariant.1 _ _ parts (sized ∙ c.loop-row.invariant.0) (sym c.has_name.ensures ∙ c.if-has_name.false))

pub returns : goal.returns
unfolding found_row
returns c =
    let (size, (short, same), rem) = c.in-None.ensures.steps in
    let ended = walk_ends c.loop-row.invariant.1 (omega (arith, short, c.loop-row.invariant.0)) in
    record { result_value = named_found _ _ ended; compared_after = ap (λ (s : Searched). s.compared) ended }
