-- `writing::writer::put_fraction` meets its contract: nothing, or the point and the decimals behind it. Assumes nothing.
use mathlib.Core.Path.{◌∙◌, ap}
use native.Mathlib.Omega.{arith}
use lib.ListN.{length, length-set}
use Rattle.writing.specs.Forms.{behind_length, no_fraction, some_fraction, some_fraction_size}
use Rattle.writing.specs.Laid.{laid_length}
use Rattle.writing.proofs.writer.put_fraction.Goals as goal

pub returns-then-decimals-eq0 : goal.returns-then-decimals-eq0
returns-then-decimals-eq0 c = no_fraction c.args.decimals c.if-decimals-eq0.true _ _

pub bounds-buffer-point : goal.bounds-buffer-point
bounds-buffer-point c = omega (arith, some_fraction_size c.args.decimals c.if-decimals-eq0.false, c.requires)

pub put-requires : goal.put-requires
put-requires c = omega (arith, length-set c.args.buffer.now c.args.point 46, some_fraction_size c.args.decimals c.if-decimals-eq0.false, c.requires)

pub returns : goal.returns
returns c =
    let size = some_fraction_size c.args.decimals c.if-decimals-eq0.false in
    c.put.ensures ∙ some_fraction c.args.decimals c.if-decimals-eq0.false _ _ (omega (arith, size, c.requires))

pub shape_of-buffer : goal.shape_of-buffer
shape_of-buffer c = ap length (returns c) ∙ laid_length _ _ _ (omega (arith, behind_length c.args.decimals, c.requires))
