-- `iso_writer::writer::write_iso` meets its contract: each refusal in its order, before anything is written. Assumes nothing.
-- ---- what is known on the way
use mathlib.Core.Path.{◌≡◌, ◌∙◌, ap, sym}
use mathlib.Core.Bool.{true}
use Prim.Native.Nat.{◌+◌}
use native.Mathlib.Omega.{arith}
use borrow.Author.Tests.{not-true, not-false}
use lib.ListN.{length}
use Rattle.rules.specs.ThePartOfTheCrateWeTake.{well_formed}
use Rattle.rules.specs.NumbersHandedBack.{done}
use Rattle.rules.proofs.Laws.Apart.{proper}
use Rattle.iso.specs.IsoTimings.{iso_written}
use Rattle.writing.specs.Laid.{laid}
use Rattle.iso_writer.specs.Forms.{form_length, write_malformed, write_negative, write_beyond, write_no_room, write_done}
use Rattle.std.proofs.Common.{not}
use Rattle.iso_writer.proofs.writer.write_iso.Goals as goal
use Rattle.iso_writer.proofs.writer.write_iso.Goals.{After-size-size, Else-not-well_formed}

good : (c : Else-not-well_formed) → well_formed c.args.length ≡ true
good c = sym c.well_formed-2.ensures ∙ not-false _ (ap not c.if-not-well_formed.false)

-- the size is that of what is written
size_is : (c : After-size-size) → c.size-size.result ≡ length (iso_written c.args.length)
size_is c = c.size-size.ensures ∙ sym (form_length _) ∙ ap length c.counted-form.ensures

pub returns-then-not-well_formed : goal.returns-then-not-well_formed
returns-then-not-well_formed c = let kept = write_malformed _ _ _ (sym c.well_formed-2.ensures ∙ not-true _ (ap not c.if-not-well_formed.true)) in record { value = c.refusal.ensures ∙ kept.0; buffer_after = kept.1 }

pub returns-then-length : goal.returns-then-length
returns-then-length c = let kept = write_negative _ _ _ (good (goal.at.returns-then-length c).Else-not-well_formed) c.if-length.true in record { value = c.refusal-then-length.ensures ∙ kept.0; buffer_after = kept.1 }

pub returns-then-place-buffer : goal.returns-then-place-buffer
returns-then-place-buffer c = let kept = write_beyond _ _ _ (good (goal.at.returns-then-place-buffer c).Else-not-well_formed) c.if-length.false c.if-place-buffer.true in record { value = c.refusal-then-place-buffer.ensures ∙ kept.0; buffer_after = kept.1 }

pub counted-form-requires : goal.counted-form-requires
counted-form-requires c = proper _ (good (goal.at.counted-form-requires c).Else-not-well_formed)

pub returns-then-size-buffer : goal.returns-then-size-buffer
returns-then-size-buffer c =
    let kept =
    write_no_room c.args.length c.args.buffer.now c.args.place (good (goal.at.returns-then-size-buffer c).Else-not-well_formed) c.if-length.false c.if-place-buffer.false
    (omega (arith, size_is (goal.at.returns-then-size-buffer c).After-size-size, c.if-size-buffer.true)) in record { value = c.refusal-then-size-buffer.ensures ∙ kept.0; buffer_after = kept.1 }

pub returns : goal.returns
returns c =
    let kept =
    write_done c.args.length c.args.buffer.now c.args.place (good (goal.at.returns c).Else-not-well_formed) c.if-length.false c.if-place-buffer.false
    (omega (arith, size_is (goal.at.returns c).After-size-size, c.if-size-buffer.false)) in record { value = c.done.ensures ∙ ap (λ n. done (c.args.place + n) c.args.length) (size_is (goal.at.returns c).After-size-size) ∙ kept.0; buffer_after = c.put_form.ensures ∙ ap (laid c.args.buffer.now c.args.place) c.counted-form.ensures ∙ kept.1 }
