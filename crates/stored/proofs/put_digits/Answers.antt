-- `stored::put_digits` meets its contract: before turn `i` the line begins with the digits of the first `i` bytes, and goes on as
-- it was. Assumes nothing.
use mathlib.Core.Path.{◌≡◌, refl}
use native.Mathlib.Omega.{arith}
use lib.Seq.{take_all}
use lib.ListN.{length-set}
use Rattle.rules.specs.SettingsAndUnitTable.{hexadecimal, two_digits}
use Rattle.stored.specs.Laws.{digits_turn}
use Rattle.stored.proofs.put_digits.Goals as goal

pub loop-i-init : goal.loop-i-init
unfolding two_digits
loop-i-init c = (omega arith, refl, refl)

pub hexadecimal-requires : goal.hexadecimal-requires
hexadecimal-requires c = omega (arith, c.shared_slice_known-in-loop-i-1.given c.loop-i.i)

pub bounds-line-low : goal.bounds-line-low
bounds-line-low c = simp length-set (omega arith)

pub loop-i-preserved : goal.loop-i-preserved
loop-i-preserved c =
    let args = c.args in
    let loop = c.loop-i in (
      omega arith,
      simp length-set loop.invariant.1,
      rw (c.hexadecimal.ensures, c.hexadecimal-in-loop-i.ensures) (digits_turn args.row.now args.line.now loop.line loop.i (omega arith) (omega arith) loop.invariant.2),
    )

pub shape_of-line : goal.shape_of-line
shape_of-line c = c.loop-i.invariant.1

pub returns : goal.returns
returns c =
    let row = c.args.row.now in
    let done : c.loop-i.i ≡ 48 = omega arith in
    rw (c.loop-i.invariant.2, done, take_all 48 row (omega arith))
