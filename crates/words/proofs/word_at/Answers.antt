-- `words::word_at` meets its contract: the bytes are those from the place on. Assumes nothing.
use Rattle.std.proofs.Common.{◌≡◌, length, take, drop, ◌∙◌, arith, rules, length-drop, length-take, take-take, le_refl}
use Rattle.words.specs.LowFirst.{read_low_first}
use Rattle.words.proofs.word_at.Goals as goal

pub returns : goal.returns
returns c =
    let a = c.args in
    let part = take 8 (drop a.at a.bytes.now) in
    let chunk : c.unwrap.result.now ≡ part = search rules in
    c.from_le_bytes.ensures ∙ rw chunk (read_low_first part 7 (simp (length-take, length-drop) (omega (arith, c.requires))) ∙ rw (take-take 8 8 (drop a.at a.bytes.now) (le_refl 8)))
