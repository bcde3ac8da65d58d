-- `stored::store_row` meets its contract: both lengths, then the digits and the newline. Assumes nothing.
use mathlib.Core.Path.{◌≡◌, ◌∙◌, ap}
use Prim.Native.Nat.{◌≤◌, ◌*◌}
use native.Mathlib.Omega.{arith}
use lib.ListN.{length, set}
use borrow.Author.Tests.{eq-eqb, ne_eqb, le-leb, lt-leb}
use Rattle.rules.specs.SettingsAndUnitTable.{stored, two_digits}
use Rattle.rules.specs.Common.{when◌then◌else◌}
use Rattle.stored.specs.Laws.{line_kept, put_one, length_two_digits}
use Rattle.rules.proofs.Laws.Tests.{and_false}
use Rattle.stored.specs.Lines.{stores, line_after}
use Rattle.stored.proofs.store_row.Goals as goal

pub returns-then-row-ne-ROW_SIZE : goal.returns-then-row-ne-ROW_SIZE
unfolding stores
returns-then-row-ne-ROW_SIZE c = let both = line_kept _ _ (rw (ne_eqb _ _ c.if-row-ne-ROW_SIZE.true)) in record { value = both.0; line_after = both.1 }

pub returns-then-line-lt-LINE_SIZE : goal.returns-then-line-lt-LINE_SIZE
unfolding stores
returns-then-line-lt-LINE_SIZE c = let both = line_kept _ _ (rw (lt-leb _ _ c.if-line-lt-LINE_SIZE.true, and_false)) in record { value = both.0; line_after = both.1 }

pub returns : goal.returns
unfolding stores line_after when◌then◌else◌ stored
returns c =
    let row = c.args.row.now in
    let line = c.args.line.now in
    let whole : length row ≡ 48 = omega arith in
    let room : 97 ≤ length line = omega arith in record {
      value = rw (eq-eqb (length row) 48 whole, le-leb 97 (length line) room);
      line_after = rw (eq-eqb (length row) 48 whole, le-leb 97 (length line) room)
          (ap (λ l. set l 96 10) c.put_digits.ensures
          ∙ put_one (two_digits row) line 96 10 (length_two_digits row ∙ ap (λ n. 2 * n) whole) room);
    }
