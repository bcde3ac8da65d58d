-- `spoken::times` meets its contract: in range the product fits, and so do its powers, taken off each other. Assumes nothing.
use native.Mathlib.Omega.{arith}
use Rattle.std.proofs.Common.{rules}
use mathlib.Core.Bool.{xor}
use Rattle.rules.specs.SettingsAndUnitTable.{times}
use Rattle.rules.specs.Laws.Powers.{net}
use Rattle.rows.specs.Laws.Rows.{in_range_bounds}
use Rattle.spoken.proofs.times.Goals as goal

pub overflow_mul-result : goal.overflow_mul-result
unfolding times
overflow_mul-result c = omega (arith, in_range_bounds _ c.requires)

pub above-requires : goal.above-requires
unfolding times
above-requires c = omega (arith, in_range_bounds _ c.requires)

pub above-requires-2 : goal.above-requires-2
unfolding times
above-requires-2 c = omega (arith, in_range_bounds _ c.requires)

pub returns : goal.returns
unfolding times net xor
returns c = search rules
