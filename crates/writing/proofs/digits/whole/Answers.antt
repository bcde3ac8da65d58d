-- `writing::digits::whole` meets its contract: digits counted in fours, and those of what is left, are the digits of the number. Assumes
-- nothing.
use Prim.Native.Nat.{◌+◌, ◌≤◌}
use native.Mathlib.Omega.{arith}
use borrow.Author.Rules.{rules}
use Rattle.writing.specs.Digits.{Digits, counted_four, counted_most, counted_on, leads_most, whole_is}
use Rattle.writing.proofs.digits.whole.Goals as goal
use Rattle.writing.proofs.digits.whole.Goals.{After-few_digits}

-- the digits counted, and those of what was left
found : (c : After-few_digits) → Digits c.args.seconds (c.loop-rest.count + c.few_digits.result)
found c = counted_on _ _ _ _ c.loop-rest.invariant c.few_digits.ensures

most : (c : After-few_digits) → c.loop-rest.count + c.few_digits.result ≤ 20
most c = leads_most _ c.args.seconds (search rules) (found c).2

pub overflow_add-count : goal.overflow_add-count
overflow_add-count c =
    let turn = c.loop-rest in
    omega (arith, counted_most c.args.seconds turn.count turn.rest (search rules) turn.invariant (search rules))

pub loop-rest-preserved : goal.loop-rest-preserved
loop-rest-preserved c = counted_four _ _ _ c.loop-rest.invariant c.loop-rest-test.true

pub overflow_add-result : goal.overflow_add-result
overflow_add-result c = omega (arith, most c)

pub returns : goal.returns
returns c = (whole_is c.args.seconds _ (search rules) (found c), most c)
