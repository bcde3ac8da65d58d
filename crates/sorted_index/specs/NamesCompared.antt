-- Both searches find what the lookup finds, and neither compares more names than there are rows; through an index no more than seven in a table of
-- 64. Assumes nothing.
use Rattle.std.specs.Prelude.{◌≡◌, List, ℕ, ◌^◌, ◌≤◌, ◌<◌}
use native.Mathlib.Omega.{arith}
use Rattle.rules.specs.declared.Refusal.TheVariants.{WrongIndex}
use Rattle.rules.specs.NumbersHandedBack.{got}
use Rattle.rules.specs.SettingsAndUnitTable.{most_rows, rows, lookup}
use Rattle.index.specs.TheSortedIndex.{index_check, row_search, index_search}
use Rattle.index.proofs.Laws.Right.{index_accepts}
use Rattle.index.proofs.Laws.Searches.{row_search_finds, row_search_most, index_search_finds, index_search_most, index_search_halves}

-- ---- one table: at most as many names as rows, and with fewer than 2 ^ k rows at most k of them

pub one_by_one : (table wanted : List ℕ) → ((row_search table wanted).found ≡ lookup table wanted) × ((row_search table wanted).compared ≤ rows table)
one_by_one table wanted = (row_search_finds table wanted, row_search_most table wanted)

pub probed :
    (table index wanted : List ℕ) → index_check WrongIndex table index ≡ got tt
    → ((index_search table index wanted).found ≡ lookup table wanted)
    × ((index_search table index wanted).compared ≤ rows table)
    × ((k : ℕ) → rows table < 2 ^ k → (index_search table index wanted).compared ≤ k)
probed table index wanted good =
    (index_search_finds table index wanted ((index_accepts WrongIndex table index).0 good), index_search_most table index wanted, index_search_halves table index wanted)

-- seven for 64 rows
pub at_most_seven : (table index wanted : List ℕ) → rows table ≤ most_rows → (index_search table index wanted).compared ≤ 7
at_most_seven table index wanted few = index_search_halves table index wanted 7 (omega arith)
