-- `writing::writer::put_form` meets its contract: the sign, behind it the seconds, and behind them the decimals. Assumes nothing.
use mathlib.Core.Path.{◌∙◌, ap}
use Prim.Native.Nat.{◌+◌}
use native.Mathlib.Omega.{arith}
use Rattle.writing.specs.Laid.{laid}
use Rattle.writing.specs.Forms.{behind_point, form_laid}
use Rattle.writing.proofs.writer.put_form.Goals as goal

pub returns : goal.returns
returns c =
    c.put_fraction.ensures
    ∙ ap (λ b. laid b (c.args.place + 1 + c.args.seconds.count) (behind_point c.args.decimals)) c.put.ensures
    ∙ form_laid _ _ _ c.args.seconds c.args.decimals (omega (arith, c.requires))
