-- `card::table::unit_rule` meets its contract: the bytes that no name holds, and whether an `e` may lead. Assumes nothing.
use Rattle.rules.specs.Common.{when◌then◌else◌}
use Rattle.card.specs.Fields.{Letterless}
use Rattle.settings.specs.Sets.{bytes_of}
use Rattle.card.specs.Laws.Unnameable.{unnameable_letterless}
use Rattle.card.specs.Laws.Table.{unit_ruled}
use Rattle.card.proofs.table.unit_rule.Goals as goal
use Rattle.card.proofs.table.unit_rule.Goals.{After-unnameable}

letterless : (c : After-unnameable) → Letterless (bytes_of c.unnameable.result)
letterless c = rw c.unnameable.ensures (unnameable_letterless _ c.requires)

pub returns-then-e_may_lead : goal.returns-then-e_may_lead
unfolding when◌then◌else◌
returns-then-e_may_lead c = record { letterless = letterless (goal.at.returns-then-e_may_lead c).After-unnameable; by_index = unit_ruled _ _ c.unnameable.ensures (rw (← c.e_may_lead.ensures, c.if-e_may_lead.true)) }

pub returns-else-e_may_lead : goal.returns-else-e_may_lead
unfolding when◌then◌else◌
returns-else-e_may_lead c = record { letterless = letterless (goal.at.returns-else-e_may_lead c).After-unnameable; by_index = unit_ruled _ _ c.unnameable.ensures (rw (← c.e_may_lead.ensures, c.if-e_may_lead.false)) }
