-- `stored::spells` meets its contract: the bytes from `i` on decide what all of them do. Assumes nothing.
use mathlib.Core.Path.{refl}
use native.Mathlib.Omega.{arith}
use borrow.Author.Tests.{lt-ltb, le-ltb}
use Rattle.rules.proofs.Laws.Lists.{all_from, all_done}
use Rattle.stored.specs.Lines.{spells}
use Rattle.stored.proofs.spells.Goals as goal

pub loop-i-init : goal.loop-i-init
loop-i-init c = (omega arith, refl)

pub returns-then-digit_value-gt15 : goal.returns-then-digit_value-gt15
unfolding spells
returns-then-digit_value-gt15 c =
    let part = c.args.part.now in
    let loop = c.loop-i in
    rw (← loop.invariant.1, all_from spells part loop.i 0 (omega arith), ← c.digit_value.ensures, le-ltb _ _ c.if-digit_value-gt15.true)

pub loop-i-preserved : goal.loop-i-preserved
unfolding spells
loop-i-preserved c =
    let part = c.args.part.now in
    let loop = c.loop-i in
    let value = c.digit_value.result in
    (omega arith, rw (← loop.invariant.1, all_from spells part loop.i 0 (omega arith), ← c.digit_value.ensures, lt-ltb value 16 (omega arith)))

pub returns : goal.returns
returns c = rw (← c.loop-i.invariant.1, all_done spells c.args.part.now c.loop-i.i (omega arith))
