-- `reading::shift::shifted_total_checked` meets its contract: what came of adding is handed back, and held. Assumes nothing.
use Rattle.std.proofs.Common.{sym, ◌∙◌}
use Rattle.reading.specs.Shifts.{kept, added}
use Rattle.reading.proofs.shift.shifted_total_checked.Goals as goal

pub returns-in-Ok : goal.returns-in-Ok
returns-in-Ok c = let laws = added _ _ _ (sym c.in-Ok.ensures) in (c.done.ensures ∙ laws.0, laws.1)

pub returns-in-Err : goal.returns-in-Err
returns-in-Err c = let laws = kept _ _ _ (sym c.in-Err.ensures) in (c.kept.ensures.0 ∙ laws.0, c.kept.ensures.1 ∙ laws.1)
