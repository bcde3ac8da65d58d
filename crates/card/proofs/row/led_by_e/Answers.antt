-- `card::row::led_by_e` meets its contract: the name's first byte is one of two. Assumes nothing.
use mathlib.Core.Path.{◌≡◌}
use mathlib.Core.Bool.{◌||◌}
use native.Mathlib.Omega.{arith}
use lib.Dec.{eqb}
use lib.ListN.{get_or}
use borrow.Author.Tests.{eq-eqb, ne_eqb}
use Rattle.rules.specs.SettingsAndUnitTable.{name_at, name, led_by_e}
use Rattle.card.specs.Laws.Names.{led_first}
use Rattle.card.proofs.row.led_by_e.Goals as goal
use Rattle.card.proofs.row.led_by_e.Goals.{After-shared_slice_known-1}

asked : (c : After-shared_slice_known-1) → led_by_e (name c.args.row.now) ≡ (eqb (get_or c.args.row.now name_at 0) 101 || eqb (get_or c.args.row.now name_at 0) 69)
asked c = led_first c.args.row.now c.requires.0 c.requires.1 (λ k. (c.shared_slice_known-1.given k).fits)

pub bounds-row-1 : goal.bounds-row-1
bounds-row-1 c = omega (arith, c.requires.0)

pub returns-then-first-eq101 : goal.returns-then-first-eq101
returns-then-first-eq101 c = rw (asked (goal.at.returns-then-first-eq101 c).After-shared_slice_known-1, eq-eqb _ _ c.if-first-eq101.true)

pub returns-else-first-eq101 : goal.returns-else-first-eq101
returns-else-first-eq101 c = rw (asked (goal.at.returns-else-first-eq101 c).After-shared_slice_known-1, ne_eqb _ _ c.if-first-eq101.false)
