-- `words::letter_marks` meets its contract: each test and each sum is one of each byte. Assumes nothing.
use mathlib.Core.Path.{◌≡◌, sym, ◌∙◌}
use native.Mathlib.Omega.{arith}
use lib.Bits.{bit_and}
use lib.ListN.{length, take, drop, length-take, length-drop}
use lib.Seq.{take-take}
use Rattle.rules.specs.SettingsAndUnitTable.{low_first}
use Rattle.rules.specs.Laws.Lists.{Bytes}
use Rattle.words.specs.LowFirst.{bytes_part}
use Rattle.words.specs.Bytewise.{eight_small_fit, eight_marked, repeated, marked, marked_letters, marks_some}
use Rattle.words.proofs.letter_marks.Goals as goal
use Rattle.words.proofs.letter_marks.Goals.{Else-word-ne0}

pub returns-then-word-ne0 : goal.returns-then-word-ne0
returns-then-word-ne0 c = λ n some most e. absurd (marks_some n some e)

-- the eight bytes, of which none is from 128 on
eight :
    (c : Else-word-ne0)
    → let args = c.args in
    let bytes = take 8 (drop args.at args.bytes.now) in
    (length bytes ≡ 8) × Bytes bytes × (bit_and (low_first bytes) 9259542123273814144 ≡ 0)
eight c = (
  simp (length-take, length-drop) (omega (arith, c.requires)),
  bytes_part c.args.bytes.now 8 c.args.at (λ k. (c.shared_slice_known-1.given k).fits),
  rw (← c.word_at-word.ensures) c.if-word-ne0.false,
)

pub overflow_add-result : goal.overflow_add-result
overflow_add-result c = let (long, bytes, low) = eight c in rw c.word_at-word.ensures (omega (arith, eight_small_fit _ long bytes low))

pub overflow_add-result-2 : goal.overflow_add-result-2
overflow_add-result-2 c = let (long, bytes, low) = eight c in rw c.word_at-word.ensures (omega (arith, eight_small_fit _ long bytes low))

pub returns : goal.returns
returns c =
    let args = c.args in
    let (long, bytes, low) = eight c in
    λ n some most e.
    let marks : marked (take 8 (drop args.at args.bytes.now)) ≡ repeated 128 n = sym (eight_marked _ long bytes low) ∙ rw c.word_at-word.ensures at e in
    rw (take-take n 8 (drop args.at args.bytes.now) most) at (marked_letters (take 8 (drop args.at args.bytes.now)) n (omega (arith, long)) marks)
