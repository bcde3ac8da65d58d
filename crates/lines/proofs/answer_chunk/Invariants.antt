-- `lines::answer_chunk` is safe and ends: each turn answers some bytes of the chunk, and the buffer keeps its length. Assumes nothing.
use mathlib.Core.Path.{◌≡◌}
use Prim.Native.Nat.{◌-◌}
use lib.ListN.{length}
use Rattle.lines.proofs.answer_chunk.Given as goal

abbrev pub invariant-loop-answered : goal.invariant-loop-answered
invariant-loop-answered l = length l.out ≡ length l.initial.out

abbrev pub decreases-loop-answered : goal.decreases-loop-answered
decreases-loop-answered l = length l.chunk - l.answered
