-- The merged table: the line's rows, and behind them the hall's rows whose names the line has not. It is what the runs hand to the crate, which
-- takes one table. Assumes nothing.
use Rattle.std.specs.Prelude.{List, [], ◌++◌, ℕ, zero, suc}
use Rattle.rules.specs.Common.{when◌then◌else◌}
use Rattle.rules.specs.SettingsAndUnitTable.{rows, row, name, named}

-- of the n rows of the hall's from i on, those whose names the line has not
unfoldable pub others : List ℕ → List ℕ → ℕ → ℕ → List ℕ
others hall line i zero = []
others hall line i (suc n) =
    let more = others hall line (suc i) n in
    when named line (name (row hall i)) (rows line) then more else row hall i ++ more

unfoldable pub merged : List ℕ → List ℕ → List ℕ
merged hall line = line ++ others hall line 0 (rows hall)
