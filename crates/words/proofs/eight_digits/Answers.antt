-- `words::eight_digits` meets its contract: both tests are tests of each byte. Assumes nothing.
use mathlib.Core.Path.{◌≡◌}
use mathlib.Core.Bool.{false≢true}
use native.Mathlib.Omega.{arith}
use lib.ListN.{length, take, drop, length-take, length-drop}
use borrow.Author.Tests.{eqb-true}
use Rattle.rules.specs.Laws.Lists.{Bytes}
use Rattle.words.specs.LowFirst.{bytes_part}
use Rattle.words.specs.Bytewise.{eight_sixes_fit, eight_digits_only}
use Rattle.words.proofs.eight_digits.Goals as goal
use Rattle.words.proofs.eight_digits.Goals.{Else-word-ne-ZEROS}

pub returns-then-word-ne-ZEROS : goal.returns-then-word-ne-ZEROS
returns-then-word-ne-ZEROS c e = absurd (false≢true e)

-- the eight bytes
eight :
    (c : Else-word-ne-ZEROS)
    → let args = c.args in
    let bytes = take 8 (drop args.at args.bytes.now) in
    (length bytes ≡ 8) × Bytes bytes
eight c = (
  simp (length-take, length-drop) (omega (arith, c.requires)),
  bytes_part c.args.bytes.now 8 c.args.at (λ k. (c.shared_slice_known-1.given k).fits),
)

pub overflow_add-result : goal.overflow_add-result
overflow_add-result c =
    let args = c.args in
    let (long, bytes) = eight c in
    let high = rw c.word_at-word.ensures at c.if-word-ne-ZEROS.false in
    rw c.word_at-word.ensures (omega (arith, eight_sixes_fit (take 8 (drop args.at args.bytes.now)) long bytes high))

pub returns : goal.returns
returns c e =
    let (long, bytes) = eight c in
    eight_digits_only _ long bytes (rw (← c.word_at-word.ensures) c.if-word-ne-ZEROS.false) (rw (← c.word_at-word.ensures) (eqb-true _ _ e))
