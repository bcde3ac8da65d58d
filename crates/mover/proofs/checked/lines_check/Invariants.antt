-- `mover::checked::lines_check` meets its contract: before each turn as many lines as were counted may be moved, and the others are left. Assumes
-- nothing.
use mathlib.Core.Path.{◌≡◌}
use Prim.Native.Nat.{◌*◌, ◌≤◌}
use lib.ListN.{length, drop}
use Rattle.std.specs.Iterator.Adapters.{enumerate_count, enumerate_source}
use Rattle.std.specs.Slice.Iter.{chunks_rest, chunks_size}
use Rattle.moves.specs.Laws.Moves.{AllMove}
use Rattle.mover.proofs.checked.lines_check.Given as goal

abbrev pub invariant-loop-count : goal.invariant-loop-count
invariant-loop-count l =
    let count = enumerate_count l.count-iterator in
    let left = enumerate_source l.count-iterator in
    record {
      sized : chunks_size left ≡ l.size;
      within : count * l.size ≤ length l.source;
      rest : chunks_rest left ≡ drop (count * l.size) l.source;
      moves : AllMove l.from.bytes l.to.bytes l.source count;
    }
