-- `mover::written::put_zeros` meets its contract: a part of the target is written anew. Assumes nothing.
use mathlib.Core.Path.{◌≡◌}
use native.Mathlib.Omega.{arith}
use lib.ListN.{replicate, length-replicate}
use Rattle.std.proofs.Common.{rules}
use Rattle.moves.specs.Laws.Digits.{zero_digit}
use Rattle.mover.specs.Parts.{part_laid}
use Rattle.mover.proofs.written.put_zeros.Goals as goal

-- each byte of the part is the digit
filled : (c : goal.After-slice_known-2-1) → c.fill.new.self ≡ replicate c.args.count zero_digit
filled c = search rules

pub returns : goal.returns
returns c = part_laid _ _ _ _ (replicate c.args.count zero_digit) (filled c) (omega (arith, length-replicate c.args.count zero_digit))
