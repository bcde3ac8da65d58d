-- `lookup::names::first_word` meets its contract: the word is that of the bytes passed. Assumes nothing.
use mathlib.Core.Path.{refl, sym, ap₂, ◌∙◌}
use native.Mathlib.Omega.{arith}
use Rattle.std.proofs.Common.{length-take, get_or-take, ◌+◌, ◌*◌, ◌^◌}
use Rattle.rules.specs.SettingsAndUnitTable.{low_first}
use Rattle.words.specs.LowFirst.{low_first_part, low_first_more}
use Rattle.lookup.proofs.names.first_word.Goals as goal

pub loop-i-init : goal.loop-i-init
unfolding low_first
loop-i-init c = refl

pub with_byte-word-requires : goal.with_byte-word-requires
with_byte-word-requires c =
    let name = c.args.name.now in
    (rw c.loop-i.invariant (low_first_part name c.loop-i.i (omega (arith, length-take c.min-size.result name)) (λ k. (c.shared_slice_known-1.given k).fits)), omega (arith, length-take c.min-size.result name))

pub loop-i-preserved : goal.loop-i-preserved
loop-i-preserved c =
    let name = c.args.name.now in
    c.with_byte-word.ensures
    ∙ ap₂ (λ word byte. word + byte * 2 ^ (8 * c.loop-i.i)) c.loop-i.invariant (get_or-take c.min-size.result name c.loop-i.i 0 (omega (arith, length-take c.min-size.result name)))
    ∙ sym (low_first_more name c.loop-i.i (omega (arith, length-take c.min-size.result name)))
