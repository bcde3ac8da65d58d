-- `words::with_byte` meets its contract: the byte stays within the word. Assumes nothing.
use mathlib.Core.Path.{◌≡◌, ap}
use Prim.Native.Nat.{◌+◌, ◌*◌, ◌%◌, ◌^◌, ◌<◌}
use native.Mathlib.Nat.{mod-eq_of_lt}
use native.Mathlib.Omega.{arith}
use Rattle.words.specs.LowFirst.{above_fits}
use Rattle.words.proofs.with_byte.Goals as goal
use Rattle.words.proofs.with_byte.Goals.{Start}

fits : (c : Start) → c.args.word + c.args.byte * 2 ^ c.args.bits < 2 ^ 64
fits c = above_fits c.args.word c.args.bits c.args.byte c.requires.0 c.requires.1 (omega (arith, c.well_formed.1.1.0))

-- so that nothing of it is lost
whole : (c : Start) → c.args.byte * 2 ^ c.args.bits % 18446744073709551616 ≡ c.args.byte * 2 ^ c.args.bits
whole c = mod-eq_of_lt (omega (arith, fits c))

pub overflow_shl-result : goal.overflow_shl-result
overflow_shl-result c = omega (arith, c.requires.1)

pub overflow_add-result : goal.overflow_add-result
overflow_add-result c = rw (whole c) (omega (arith, fits c))

pub returns : goal.returns
returns c = ap (λ b. c.args.word + b) (whole c)
