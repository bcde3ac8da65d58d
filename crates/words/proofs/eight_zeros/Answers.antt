-- `words::eight_zeros` meets its contract: only zeros spell that number. Assumes nothing.
use native.Mathlib.Omega.{arith}
use lib.ListN.{take, drop, length-take, length-drop}
use borrow.Author.Tests.{eqb-true}
use Rattle.words.specs.LowFirst.{bytes_part}
use Rattle.words.specs.Bytewise.{eight_zeros_only}
use Rattle.words.proofs.eight_zeros.Goals as goal

pub returns : goal.returns
returns c e =
    let bytes = c.args.bytes.now in
    eight_zeros_only (take 8 (drop c.args.at bytes)) (simp (length-take, length-drop) (omega (arith, c.requires)))
    (bytes_part bytes 8 c.args.at (λ k. (c.shared_slice_known-1.given k).fits))
    (rw (← c.word_at.ensures) (eqb-true _ _ e))
