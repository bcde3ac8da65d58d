-- `value::number::Digits::attos` meets its contract: as many digits of both as there is room for, with zeros for the others, are their first
-- places, which nineteen places hold. Assumes nothing.
use Rattle.std.proofs.Common.{◌≡◌, ◌++◌, ◌*◌, ◌^◌, ◌∙◌, lt_trans, lit<, arith}
use Rattle.value.specs.Numbers.{places}
use Rattle.value.specs.Digits.{ten_pos}
use Rattle.value.specs.Places.{taken_both, no_zeros, room_filled}
use Rattle.value.proofs.number.Digits.attos.Goals as goal
use Rattle.value.proofs.number.Digits.attos.Goals.{After-then-both}

pub invariant_of-none : goal.invariant_of-none
invariant_of-none c = record { fits = (omega arith, ten_pos _) }

-- what was taken, with zeros
filled : (c : After-then-both) → c.then-both.result.number * 10 ^ c.then-both.result.room ≡ places c.args.room (c.args.self.whole.now ++ c.args.self.fract.now)
filled c = taken_both _ _ _ c.then.ensures.number c.then.ensures.room c.then-both.ensures.number c.then-both.ensures.room

pub returns-then-both-eq0 : goal.returns-then-both-eq0
returns-then-both-eq0 c = no_zeros c.then-both-eq0.either ∙ filled (goal.at.returns-then-both-eq0 c).After-then-both

pub overflow_mul-result : goal.overflow_mul-result
overflow_mul-result c = record { fits = rw c.pow10.ensures (lt_trans (room_filled _ _ c.then-both.result.fits) (lit< tt)) }

pub returns : goal.returns
returns c = rw c.pow10.ensures (filled (goal.at.returns c).After-then-both)
