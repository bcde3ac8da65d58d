-- `stored::restore_row` meets its contract: the room and the line, and only then the bytes. Assumes nothing.
use mathlib.Core.Bool.{true}
use mathlib.Core.Path.{◌≡◌, sym, ◌∙◌}
use native.Mathlib.Omega.{arith}
use lib.ListN.{length}
use borrow.Author.Tests.{le-leb, lt-leb, not-true, not-false}
use Rattle.rules.specs.Common.{when◌then◌else◌}
use Rattle.rules.specs.SettingsAndUnitTable.{name_room, row_size}
use Rattle.rules.proofs.Laws.Tests.{and_false}
use Rattle.stored.specs.Lines.{line_accepted, restores, row_after, restored_in}
use Rattle.stored.specs.Laws.{row_kept, line_long, line_spelled}
use Rattle.std.proofs.Common.{ap, not}
use Rattle.stored.proofs.restore_row.Goals as goal
use Rattle.stored.proofs.restore_row.Goals.{Else-not-line_accepted}

pub returns-then-row-lt-ROW_SIZE : goal.returns-then-row-lt-ROW_SIZE
unfolding restores
returns-then-row-lt-ROW_SIZE c = let both = row_kept _ _ (rw (lt-leb _ _ c.if-row-lt-ROW_SIZE.true)) in record { value = both.0; row_after = both.1 }

pub returns-then-not-line_accepted : goal.returns-then-not-line_accepted
unfolding restores
returns-then-not-line_accepted c = let both = row_kept _ _ (rw (← c.line_accepted.ensures, not-true c.line_accepted.result (ap not c.if-not-line_accepted.true), and_false)) in record { value = both.0; row_after = both.1 }

-- behind both tests the line is accepted
accepted : (c : Else-not-line_accepted) → let args = c.args in line_accepted args.line.now ≡ true
accepted c = sym c.line_accepted.ensures ∙ not-false c.line_accepted.result (ap not c.if-not-line_accepted.false)

pub put_bytes-requires : goal.put_bytes-requires
put_bytes-requires c =
    let good = accepted (goal.at.put_bytes-requires c).Else-not-line_accepted in
    record { digits_size_in_bounds = (omega (arith, line_long name_room _ good), omega arith); line_value = line_spelled name_room _ good }

pub returns : goal.returns
unfolding restores restored_in row_after when◌then◌else◌
returns c =
    let args = c.args in
    let both : restores args.line.now args.row.now ≡ true = rw (le-leb row_size (length args.row.now) (omega arith), accepted (goal.at.returns c).Else-not-line_accepted) in
    record { value = sym both; row_after = rw both c.put_bytes.ensures }
