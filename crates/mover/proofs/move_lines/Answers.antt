-- `mover::move_lines` meets its contract: all lines are checked, then the target's length, and then they are written. Assumes nothing.
use mathlib.Core.Path.{ap, ◌∙◌}
use Prim.Native.Nat.{◌*◌, ◌≤◌}
use native.Mathlib.Omega.{arith}
use lib.ListN.{length}
use Rattle.rules.specs.NumbersHandedBack.{got, refused, done}
use Rattle.moves.proofs.Laws.Moves.{lines_refused, not_moved}
use Rattle.mover.specs.Checked.{CheckedSo, too_short, long_enough, moved_so}
use Rattle.mover.proofs.move_lines.Goals as goal
use Rattle.mover.proofs.move_lines.Goals.{Else-target-size, In-Ok}

-- all lines may be moved
right :
    (c : In-Ok)
    → CheckedSo c.args.from.bytes c.args.to.bytes c.args.source.now (got c.in-Ok.count)
right c = rw c.in-Ok.is at c.lines_check.ensures

-- and the target has room for them
enough :
    (c : Else-target-size)
    → c.in-Ok.count * c.line_size-size.result
    ≤ length c.args.target.now
enough c =
    long_enough _ _ _ _ c.args.source.now c.args.target.now (rw c.in-Ok.is at c.lines_check.ensures) c.line_size-size.ensures c.if-target-size.false

pub returns-then-target-size : goal.returns-then-target-size
returns-then-target-size c =
    let laws = too_short _ _ _ _ c.args.source.now c.args.target.now (right (goal.at.returns-then-target-size c).In-Ok) c.line_size-size.ensures c.if-target-size.true in
    record { value = c.refusal-then-target-size.ensures ∙ laws.0; target_after = laws.1 }

pub put_lines-requires : goal.put_lines-requires
put_lines-requires c =
    let checked = right (goal.at.put_lines-requires c).In-Ok in
    record { source_len = checked.0; fits = rw (← c.line_size-size.ensures) (enough (goal.at.put_lines-requires c).Else-target-size); all_move = checked.1 }

pub returns-in-Err : goal.returns-in-Err
returns-in-Err c =
    let wrong : CheckedSo c.args.from.bytes c.args.to.bytes c.args.source.now (refused c.in-Err.cause) = rw c.in-Err.is at c.lines_check.ensures in
    let laws = not_moved _ _ c.args.source.now c.args.target.now _ (lines_refused _ _ _ _ wrong) in
    record { value = c.refusal.ensures ∙ laws.0; target_after = laws.1 }

pub returns-else-target-size : goal.returns-else-target-size
returns-else-target-size c =
    let laws = moved_so _ _ _ _ c.args.source.now c.args.target.now (right (goal.at.returns-else-target-size c).In-Ok) c.line_size-size.ensures (enough (goal.at.returns-else-target-size c).Else-target-size) in
    record { value = c.done.ensures ∙ ap (done _) c.zero.ensures ∙ laws.0; target_after = c.put_lines.ensures ∙ laws.1 }

pub overflow_mul-count : goal.overflow_mul-count
overflow_mul-count c = omega (arith, enough (goal.at.overflow_mul-count c).Else-target-size)
