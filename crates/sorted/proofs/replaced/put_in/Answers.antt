-- `sorted::replaced::put_in` meets its contract: the row is put, its entry moved to the end, and sunk. Assumes nothing.
use Prim.Native.Nat.{◌-◌}
use lib.ListN.{length}
use Rattle.index.specs.TheSortedIndex.{with_row}
use Rattle.sorted.specs.Sifting.{Sifting}
use Rattle.sorted.specs.Replacing.{stands, moved_sifting, sunk}
use Rattle.sorted.proofs.replaced.put_in.Goals as goal
use Rattle.sorted.proofs.replaced.put_in.Goals.{After-move_last}

pub place_of-place-requires : goal.place_of-place-requires
place_of-place-requires c = stands _ _ _ c.args.new.now c.requires.i_bound.0 c.requires.i_bound.1 c.requires.right.0

-- the entry, moved to the end, may sink
sinks :
    (c : After-move_last)
    → Sifting (with_row c.args.table.now c.args.i c.args.new.now) c.move_last.new.index (length c.move_last.new.index - 1)
sinks c =
    rw c.move_last.ensures.long
    (moved_sifting _ _ _ _ c.requires.i_bound.0 c.requires.i_bound.1 c.requires.right.0 c.place_of-place.ensures.0 c.place_of-place.ensures.1 c.move_last.ensures)

pub sift_down-requires : goal.sift_down-requires
sift_down-requires c = (rw c.put_row.ensures c.requires.right.1, rw c.put_row.ensures (sinks (goal.at.sift_down-requires c).After-move_last))

pub returns : goal.returns
returns c =
    record {
      table_after = c.put_row.ensures;
      index_after = sunk _ _ _ _ c.requires.i_bound.0 c.requires.i_bound.1 c.requires.right.0 c.place_of-place.ensures.0 c.place_of-place.ensures.1 c.move_last.ensures c.requires.right.1
          (rw c.put_row.ensures at c.sift_down.ensures);
    }
