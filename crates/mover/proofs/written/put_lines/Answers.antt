-- `mover::written::put_lines` meets its contract: before each turn the first `line` lines are laid over the target from its start on. Assumes nothing.
use mathlib.Core.Path.{◌≡◌, ap, ◌∙◌}
use Prim.Native.Nat.{◌+◌, ◌*◌, ◌≤◌}
use native.Mathlib.Omega.{arith}
use lib.ListN.{length}
use Rattle.stored.specs.Lines.{line_size_in}
use Rattle.writing.specs.Laid.{laid_nothing}
use Rattle.moves.specs.Laws.Moves.{line_moves, moved_pieces, piece}
use Rattle.mover.specs.Walks.{room_for_next, the_piece, pieces_turn}
use Rattle.mover.proofs.written.put_lines.Goals as goal
use Rattle.mover.proofs.written.put_lines.Goals.{After-line_at-piece, In-loop-line}

-- in a turn both the source and the target have a line more
lines_left :
    (c : In-loop-line)
    → (c.loop-line.line * c.line_size-old_size.result + line_size_in c.args.from.bytes ≤ length c.args.source.now) × (c.loop-line.line * c.line_size-new_size.result + line_size_in c.args.to.bytes ≤ length c.args.target.now)
lines_left c = (
  room_for_next c.loop-line.line c.args.count _ _ _ (omega arith) (omega arith) (ap (λ n. c.loop-line.line * n) c.line_size-old_size.ensures),
  room_for_next c.loop-line.line c.args.count _ _ _ (omega arith) (omega arith) (ap (λ n. c.loop-line.line * n) c.line_size-new_size.ensures),
)

pub loop-line-init : goal.loop-line-init
unfolding moved_pieces
loop-line-init c = laid_nothing c.args.target.now 0

-- the line that is put is the next piece of the source
next-piece : (c : After-line_at-piece) → c.line_at-piece.result.now ≡ piece c.args.from.bytes c.args.source.now c.loop-line.line
next-piece c =
    the_piece _ _ _ _ _ _ (ap (λ n. c.loop-line.line * n) c.line_size-old_size.ensures) c.line_size-old_size.ensures c.line_at-piece.ensures

pub put_line-requires : goal.put_line-requires
put_line-requires c =
    let left = lines_left (goal.at.put_line-requires c).In-loop-line in
    record { moves = ap (line_moves c.args.from.bytes c.args.to.bytes) (next-piece (goal.at.put_line-requires c).After-line_at-piece) ∙ c.requires.all_move c.loop-line.line (omega arith); fits = omega arith }

pub loop-line-preserved : goal.loop-line-preserved
loop-line-preserved c =
    c.put_line.ensures
    ∙ pieces_turn c.args.from.bytes c.args.to.bytes c.loop-line.line _ c.args.source.now _ c.args.target.now c.loop-line.target (λ k below. c.requires.all_move k (omega arith)) (ap (λ n. c.loop-line.line * n) c.line_size-new_size.ensures) (next-piece (goal.at.loop-line-preserved c).After-line_at-piece) c.loop-line.invariant

pub returns : goal.returns
returns c =
    let all : c.loop-line.line ≡ c.args.count = omega arith in
    rw (← all) c.loop-line.invariant

pub line_at-piece-requires : goal.line_at-piece-requires
line_at-piece-requires c = omega (arith, lines_left (goal.at.line_at-piece-requires c).In-loop-line)

pub overflow_mul-line : goal.overflow_mul-line
overflow_mul-line c = omega (arith, lines_left (goal.at.overflow_mul-line c).In-loop-line)

pub overflow_mul-line-in-loop-line : goal.overflow_mul-line-in-loop-line
overflow_mul-line-in-loop-line c = omega (arith, lines_left (goal.at.overflow_mul-line-in-loop-line c).In-loop-line)
