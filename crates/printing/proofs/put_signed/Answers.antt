-- `printing::put_signed` meets its contract: sign, space, and the digits behind them. Assumes nothing.
use mathlib.Core.Path.{ap, ◌∙◌}
use native.Mathlib.Omega.{arith}
use lib.ListN.{length, length-set}
use Rattle.printing.specs.Fields.{figures_length, signed_laid}
use Rattle.writing.specs.Laid.{laid_length}
use Rattle.printing.proofs.put_signed.Goals as goal

pub bounds-buffer-between : goal.bounds-buffer-between
bounds-buffer-between c = simp length-set (omega arith)

pub put_figures-requires : goal.put_figures-requires
put_figures-requires c = simp length-set (omega arith)

pub returns : goal.returns
returns c = record { value = omega (arith, c.put_figures.ensures.value); buffer_after = c.put_figures.ensures.buffer_after ∙ signed_laid c.args.buffer.now c.args.place c.args.sign _ (omega (arith, c.requires)) }

pub shape_of-buffer : goal.shape_of-buffer
shape_of-buffer c =
    ap length (returns c).buffer_after
    ∙ laid_length _ _ _ (omega (arith, figures_length c.args.digits c.args.behind, c.requires))
