-- `mover::written::put_line` meets its contract: three parts, one laid behind another. Assumes nothing.
use mathlib.Core.Path.{◌≡◌, ap, ◌∙◌}
use Prim.Native.Nat.{◌+◌, ◌*◌, ◌≤◌}
use native.Mathlib.Omega.{arith}
use lib.ListN.{length, length-take, length-drop}
use Rattle.stored.specs.Lines.{line_size_in}
use Rattle.moves.specs.Laws.Digits.{told}
use Rattle.moves.proofs.Laws.Moves.{moves_long, moves_small, moves_fit}
use Rattle.mover.specs.Parts.{laid_line}
use Rattle.mover.proofs.written.put_line.Goals as goal
use Rattle.mover.proofs.written.put_line.Goals.{Start}

-- how long the line is, and that its name has room in both forms
sizes :
    (c : Start)
    → (length c.args.line.now ≡ line_size_in c.args.from.bytes) × (told c.args.line.now ≤ c.args.from.bytes) × (told c.args.line.now ≤ c.args.to.bytes)
sizes c = (moves_long _ _ _ c.requires.moves, moves_small _ _ _ c.requires.moves, moves_fit _ _ _ c.requires.moves)

pub returns : goal.returns
returns c =
    rw (
      c.copy-2.ensures,
      c.put_zeros.ensures,
      c.copy.ensures,
    )
    (laid_line _ _ _ _ _ c.digits_up_to-name_end.result c.digits_up_to-room_end.result c.digits_up_to.result c.requires.moves (c.digits_up_to-name_end.ensures ∙ ap (λ n. 2 * (1 + n)) c.name_size-size.ensures) c.digits_up_to-room_end.ensures c.digits_up_to.ensures c.requires.fits)

pub name_size-size-requires : goal.name_size-size-requires
name_size-size-requires c = omega (arith, sizes (goal.at.name_size-size-requires c).Start)

pub digits_up_to-name_end-requires : goal.digits_up_to-name_end-requires
digits_up_to-name_end-requires c = omega (arith, sizes (goal.at.digits_up_to-name_end-requires c).Start)

pub overflow_add-zeros_at : goal.overflow_add-zeros_at
overflow_add-zeros_at c = omega (arith, sizes (goal.at.overflow_add-zeros_at c).Start)

pub slice_bounds-copy-end : goal.slice_bounds-copy-end
slice_bounds-copy-end c = let known = sizes (goal.at.slice_bounds-copy-end c).Start in simp length-take (omega arith)

pub copy-requires : goal.copy-requires
copy-requires c = let known = sizes (goal.at.copy-requires c).Start in simp length-take (omega arith)

pub overflow_sub-fields_at : goal.overflow_sub-fields_at
overflow_sub-fields_at c = let known = sizes (goal.at.overflow_sub-fields_at c).Start in omega arith

pub put_zeros-requires : goal.put_zeros-requires
put_zeros-requires c = let known = sizes (goal.at.put_zeros-requires c).Start in omega arith

pub slice_bounds-copy-count : goal.slice_bounds-copy-count
slice_bounds-copy-count c = let known = sizes (goal.at.slice_bounds-copy-count c).Start in omega arith

pub slice_bounds-copy-start : goal.slice_bounds-copy-start
slice_bounds-copy-start c = let known = sizes (goal.at.slice_bounds-copy-start c).Start in omega arith

pub copy-requires-2 : goal.copy-requires-2
copy-requires-2 c = let known = sizes (goal.at.copy-requires-2 c).Start in simp (length-take, length-drop) (omega arith)
