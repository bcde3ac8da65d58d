-- `sorted::rising::comes_before` meets its contract: the rooms are the same up to `at`. Assumes nothing.
use native.Mathlib.Omega.{arith}
use borrow.Author.Tests.{ltb-true}
use Rattle.rules.specs.SettingsAndUnitTable.{name_size}
use Rattle.sorted.specs.Rooms.{byte_decides, size_decides}
use Rattle.sorted.proofs.rising.comes_before.Goals as goal

pub returns-then-row-at : goal.returns-then-row-at
returns-then-row-at c = λ less. byte_decides c.args.row.now c.args.other.now c.requires.row_len.0 c.requires.row_len.1 c.requires.other_len.0 c.requires.other_len.1 c.loop-at.at c.loop-at.invariant.0 (omega arith) c.loop-at.invariant.1 (ltb-true _ _ less)

pub returns : goal.returns
unfolding name_size
returns c = λ less. size_decides c.args.row.now c.args.other.now c.requires.row_len.0 c.requires.row_len.1 c.requires.other_len.0 c.requires.other_len.1 c.loop-at.at (omega arith) c.loop-at.invariant.1 (ltb-true _ _ less)
