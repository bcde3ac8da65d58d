-- `card::row::zeros` meets its contract: the number that bytes spell is 0 exactly if all of them are. Assumes nothing.
use mathlib.Core.Path.{sym, ap, ◌∙◌}
use native.Mathlib.Omega.{arith}
use lib.Dec.{eqb}
use lib.ListN.{drop, length-drop}
use lib.Seq.{take_all}
use Rattle.rules.specs.Common.{all}
use Rattle.rules.specs.SettingsAndUnitTable.{zeros_at}
use Rattle.rows.specs.Laws.Rooms.{zeros_number}
use Rattle.card.proofs.row.zeros.Goals as goal

pub returns : goal.returns
returns c =
    let row = c.args.row.now in
    ap (λ n. eqb n 0) c.half_at.ensures ∙ sym (zeros_number _) ∙ ap (all (eqb 0)) (take_all 4 (drop zeros_at row) (simp length-drop (omega (arith, c.requires))))
