-- `mover::written::put_lines` meets its contract: before each turn the first `line` lines are laid over the target from its start on. Assumes nothing.
use mathlib.Core.Path.{◌≡◌}
use Rattle.writing.specs.Laid.{laid}
use Rattle.moves.specs.Laws.Moves.{moved_pieces}
use Rattle.mover.proofs.written.put_lines.Given as goal

abbrev pub invariant-loop-line : goal.invariant-loop-line
invariant-loop-line l = l.target ≡ laid l.initial.target 0 (moved_pieces l.from.bytes l.to.bytes l.source l.line)
