-- `mover::checked::zeros` meets its contract. Assumes nothing.
use mathlib.Core.Path.{◌∙◌}
use lib.Dec.{eqb}
use Rattle.std.proofs.Common.{rules, tests}
use Rattle.std.proofs.lemmas.Iterator.{YieldsList-from_slice}
use Rattle.std.proofs.lemmas.Iterator.Search.{all_from_yields_List}
use Rattle.moves.specs.Laws.Digits.{zero_digit}
use Rattle.mover.specs.Parts.{all_of}
use Rattle.mover.proofs.checked.zeros.Goals as goal

pub returns : goal.returns
returns c =
    all_from_yields_List (eqb zero_digit) _ _ _ c.all.ensures.ran (YieldsList-from_slice c.args.part.now cc) (λ x b q k. search (rules, tests))
    ∙ all_of (eqb zero_digit) c.args.part.now
