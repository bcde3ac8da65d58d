-- `stored::put_bytes` meets its contract: before turn `i` the row begins with the bytes of the first `i` pairs of digits, and goes
-- on as it was. Assumes nothing.
use mathlib.Core.Path.{◌≡◌, refl}
use Prim.Native.Nat.{◌+◌, ◌*◌}
use native.Mathlib.Omega.{arith}
use lib.ListN.{length-set}
use Rattle.stored.specs.Laws.{bytes_turn, digit_below}
use Rattle.stored.specs.Lines.{digit_value, paired}
use Rattle.stored.proofs.put_bytes.Goals as goal

pub loop-i-init : goal.loop-i-init
unfolding paired
loop-i-init c = (omega arith, refl, refl)

pub overflow_mul-row : goal.overflow_mul-row
overflow_mul-row c =
    rw c.digit_value.ensures
    (omega (arith, digit_below c.args.line.now (2 * c.loop-i.i) c.requires.line_value c.requires.digits_size_in_bounds.0 (omega arith)))

pub overflow_add-row : goal.overflow_add-row
overflow_add-row c =
    rw (
      c.digit_value.ensures,
      c.digit_value-in-loop-i.ensures,
    )
    (omega (arith, digit_below c.args.line.now (2 * c.loop-i.i) c.requires.line_value c.requires.digits_size_in_bounds.0 (omega arith), digit_below c.args.line.now (2 * c.loop-i.i + 1) c.requires.line_value c.requires.digits_size_in_bounds.0 (omega arith)))

pub loop-i-preserved : goal.loop-i-preserved
loop-i-preserved c =
    let args = c.args in
    let loop = c.loop-i in (
      omega arith,
      simp length-set loop.invariant.1,
      rw (c.digit_value.ensures, c.digit_value-in-loop-i.ensures) (bytes_turn args.line.now args.row.now loop.row loop.i (omega arith) (omega arith) loop.invariant.2),
    )

pub shape_of-row : goal.shape_of-row
shape_of-row c = c.loop-i.invariant.1

pub returns : goal.returns
returns c =
    let done : c.loop-i.i ≡ 48 = omega arith in
    rw (c.loop-i.invariant.2, done)
