-- `card::row::none_held` meets its contract: the bytes from `i` on decide what all of them do. Assumes nothing.
use mathlib.Core.Path.{refl}
use mathlib.Core.Bool.{false}
use native.Mathlib.Omega.{arith}
use Rattle.rules.proofs.Laws.Lists.{all_from, all_done}
use Rattle.settings.specs.Sets.{bytes_of, passes}
use Rattle.card.specs.Laws.Unnameable.{outside}
use Rattle.card.proofs.row.none_held.Goals as goal

pub returns-then-holds : goal.returns-then-holds
returns-then-holds c =
    let args = c.args in
    let loop = c.loop-i in
    rw (← loop.invariant.1, all_from (passes (bytes_of args.set) false) args.bytes.now loop.i 0 (omega arith), outside, ← c.holds.ensures, c.if-holds.true)

pub loop-i-preserved : goal.loop-i-preserved
loop-i-preserved c =
    let args = c.args in
    let loop = c.loop-i in
    (omega arith, rw (← loop.invariant.1, all_from (passes (bytes_of args.set) false) args.bytes.now loop.i 0 (omega arith), outside, ← c.holds.ensures, c.if-holds.false))

pub returns : goal.returns
returns c =
    rw (
      ← c.loop-i.invariant.1,
      all_done (passes (bytes_of c.args.set) false) c.args.bytes.now c.loop-i.i (omega arith),
    )

pub loop-i-init : goal.loop-i-init
loop-i-init c = (omega arith, refl)
