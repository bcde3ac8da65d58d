-- Cards of the same settings and numerals whose tables find the same row for every name read every text to the same, and every entry answers
-- the same under both if the check says the same of both; so two tables and the merged one read every text to the same. Assumes nothing.
use Rattle.std.specs.Prelude.{◌≡◌, List, []}
use Prim.Native.Nat.{ℕ}
use Rattle.rules.specs.declared.Settings.{Settings}
use Rattle.rules.specs.SettingsAndUnitTable.{Card, find_row}
use Rattle.line_names.specs.TheMergedTable.{merged}

pub record Alike (a b : Card) : Type 0 where
  pub settings : a.settings ≡ b.settings
  pub numerals : a.numerals ≡ b.numerals
  pub finds : (wanted : List ℕ) → find_row a.hall a.line wanted ≡ find_row b.hall b.line wanted

-- ---- two tables and the merged one

module _ (s : Settings) (hall line numerals : List ℕ) where
  -- a card of the two
  abbrev pub of_both : Card
  of_both = record { settings = s; hall = hall; line = line; numerals = numerals }

  -- and one of the merged table
  abbrev pub of_merged : Card
  of_merged = record { settings = s; hall = merged hall line; line = []; numerals = numerals }
