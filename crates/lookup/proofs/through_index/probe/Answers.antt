-- `lookup::through_index::probe` meets its contract: the entries from `low` up to `high` decide, and their number is the measure. Assumes nothing.
use mathlib.Core.Path.{◌≡◌, sym, ap, ◌∙◌}
use Prim.Native.Nat.{◌+◌, ◌/◌, ◌<◌}
use lib.ListN.{length, get_or}
use Rattle.rules.specs.SettingsAndUnitTable.{rows, name}
use Rattle.rows.specs.Laws.Rows.{length_row}
use Rattle.index.specs.TheSortedIndex.{order}
use Rattle.index.specs.Laws.Right.{entry_name}
use Rattle.index.proofs.Laws.Right.{right_within}
use Rattle.index.proofs.Laws.Order.{order_is}
use Rattle.lookup.specs.Laws.Walks.{probe_starts, probe_ends, middle_within, probe_finds, probe_below, probe_above}
use Rattle.lookup.proofs.through_index.probe.Goals as goal
use Rattle.lookup.proofs.through_index.probe.Goals.{After-cmp, After-shared_slice_known-in-loop-low-1}

-- the entry that is probed is a row
within :
    (c : After-shared_slice_known-in-loop-low-1)
    → let loop = c.loop-low in
    let args = c.args in
    get_or args.index.now ((loop.low + loop.high) / 2) 0 < rows args.table.now
within c =
    right_within c.args.table.now c.args.index.now c.requires _ (middle_within c.loop-low.invariant c.loop-low-test.true)

pub name_of-requires : goal.name_of-requires
name_of-requires c = ap length c.row_at.ensures ∙ length_row _ _ (within (goal.at.name_of-requires c).After-shared_slice_known-in-loop-low-1)

-- and its name is compared
asked :
    (c : After-cmp)
    → let args = c.args in
    c.cmp.result ≡ order args.wanted.now (entry_name args.table.now args.index.now ((c.loop-low.low + c.loop-low.high) / 2))
asked c = c.cmp.ensures ∙ order_is _ _ ∙ ap (order _) (c.name_of.ensures ∙ ap name c.row_at.ensures)

pub loop-low-preserved-in-Less : goal.loop-low-preserved-in-Less
loop-low-preserved-in-Less c = probe_below c.loop-low.invariant c.loop-low-test.true (sym (asked (goal.at.loop-low-preserved-in-Less c).After-cmp) ∙ c.in-Less.is)

pub returns-in-Equal : goal.returns-in-Equal
returns-in-Equal c = probe_finds c.loop-low.invariant c.loop-low-test.true (sym (asked (goal.at.returns-in-Equal c).After-cmp) ∙ c.in-Equal.is)

pub loop-low-preserved : goal.loop-low-preserved
loop-low-preserved c = probe_above c.loop-low.invariant c.loop-low-test.true (sym (asked (goal.at.loop-low-preserved c).After-cmp) ∙ c.in-Greater.is)

pub loop-low-init : goal.loop-low-init
loop-low-init c = probe_starts _ _ _ c.requires.long

pub row_at-requires : goal.row_at-requires
row_at-requires c = within (goal.at.row_at-requires c).After-shared_slice_known-in-loop-low-1

pub returns : goal.returns
returns c = probe_ends c.loop-low.invariant c.loop-low-test.false
