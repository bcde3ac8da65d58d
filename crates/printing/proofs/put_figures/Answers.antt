-- `printing::put_figures` meets its contract: the digits, and behind them the byte. Assumes nothing.
use mathlib.Core.Path.{ap, ◌∙◌}
use Prim.Native.Nat.{◌+◌}
use lib.ListN.{set}
use Rattle.printing.specs.Fields.{figures_laid}
use borrow.Author.Rules.{rules}
use Rattle.printing.proofs.put_figures.Goals as goal

pub returns : goal.returns
returns c =
    let digits = c.args.digits in record {
      value = search rules;
      buffer_after = ap (λ b. set b (c.args.place + digits.count) c.args.behind) c.put.ensures
          ∙ figures_laid c.args.buffer.now c.args.place digits c.args.behind c.requires;
    }
