-- `writing::writer::write_length` meets its contract: each refusal in its order, before anything is written. Assumes nothing.
-- ---- what is known on the way
use mathlib.Core.Path.{◌≡◌, ◌∙◌, ap, sym}
use mathlib.Core.Bool.{true}
use Prim.Native.Nat.{◌+◌}
use native.Mathlib.Omega.{arith}
use borrow.Author.Tests.{not-true, not-false}
use lib.ListN.{length}
use Rattle.rules.specs.ThePartOfTheCrateWeTake.{well_formed}
use Rattle.rules.specs.NumbersHandedBack.{done}
use Rattle.rules.specs.WriterAndShiftTotal.{sign_byte, written}
use Rattle.writing.specs.Forms.{fraction_size_most, form_bytes, form_is, written_size, write_malformed, write_beyond, write_no_room, write_done}
use Rattle.writing.specs.Laid.{laid}
use Rattle.std.proofs.Common.{not}
use Rattle.writing.proofs.writer.write_length.Goals as goal
use Rattle.writing.proofs.writer.write_length.Goals.{After-fraction-decimals, After-fraction_size, Else-not-well_formed}

good : (c : Else-not-well_formed) → well_formed c.args.length ≡ true
good c = sym c.well_formed-2.ensures ∙ not-false _ (ap not c.if-not-well_formed.false)

-- the digits found are those of what is written
form :
    (c : After-fraction-decimals)
    → (good_here : well_formed c.args.length ≡ true) → let l = c.args.length in
    form_bytes (sign_byte l.negative) c.whole-seconds.result c.fraction-decimals.result ≡ written l
form c good_here = form_is _ c.whole-seconds.result c.fraction-decimals.result (good_here) c.whole-seconds.ensures.0 c.fraction-decimals.ensures.0

-- and the size is that of what is written
size_is :
    (c : After-fraction_size)
    → 1 + c.whole-seconds.result.count + c.fraction_size.result ≡ length (written c.args.length)
size_is c =
    ap (λ n. 1 + c.whole-seconds.result.count + n) c.fraction_size.ensures
    ∙ sym (written_size _ c.whole-seconds.result c.fraction-decimals.result (good (goal.at.overflow_add-size-2 c).Else-not-well_formed) c.whole-seconds.ensures.0 c.fraction-decimals.ensures.0)

pub returns-then-not-well_formed : goal.returns-then-not-well_formed
returns-then-not-well_formed c = let kept = write_malformed _ _ _ (sym c.well_formed-2.ensures ∙ not-true _ (ap not c.if-not-well_formed.true)) in record { value = c.refusal.ensures ∙ kept.0; buffer_after = kept.1 }

pub returns-then-place-buffer : goal.returns-then-place-buffer
returns-then-place-buffer c = let kept = write_beyond _ _ _ (good (goal.at.returns-then-place-buffer c).Else-not-well_formed) c.if-place-buffer.true in record { value = c.refusal-then-place-buffer.ensures ∙ kept.0; buffer_after = kept.1 }

pub overflow_add-size-2 : goal.overflow_add-size-2
overflow_add-size-2 c = omega (arith, c.fraction_size.ensures, fraction_size_most _ c.fraction-decimals.ensures.1, c.whole-seconds.ensures.1)

pub returns-then-size-buffer : goal.returns-then-size-buffer
returns-then-size-buffer c =
    let args = c.args in
    let kept =
    write_no_room args.length args.buffer.now args.place (good (goal.at.returns-then-size-buffer c).Else-not-well_formed) c.if-place-buffer.false
    (omega (arith, size_is (goal.at.returns-then-size-buffer c).After-fraction_size, c.if-size-buffer.true)) in record { value = c.refusal-then-size-buffer.ensures ∙ kept.0; buffer_after = kept.1 }

pub returns : goal.returns
returns c =
    let args = c.args in
    let kept =
    write_done args.length args.buffer.now args.place (good (goal.at.returns c).Else-not-well_formed) c.if-place-buffer.false
    (omega (arith, size_is (goal.at.returns c).After-fraction_size, c.if-size-buffer.false)) in record {
      value = c.done.ensures ∙ ap (λ n. done (args.place + n) args.length) (size_is (goal.at.returns c).After-fraction_size) ∙ kept.0;
      buffer_after = c.put_form.ensures
          ∙ ap (laid args.buffer.now args.place) (ap (λ b. form_bytes b c.whole-seconds.result c.fraction-decimals.result) c.sign_byte.ensures ∙ form (goal.at.returns c).After-fraction-decimals (good (goal.at.returns c).Else-not-well_formed))
          ∙ kept.1;
    }
