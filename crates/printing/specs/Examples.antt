-- The sheet that document 01 gives for the line program, and others whose lines a wrong definition would miss, computed. Assumes nothing.
use Rattle.std.specs.Prelude.{Bool, List, [], ◌∷◌, T}
use Prim.Native.String.{String}
use Rattle.rules.specs.Common.{ascii, same, all}
use Rattle.rules.specs.CardAAndItsReadings.{space, conjunction, settings, settings_A, row_of, table_A, unspoken, card_A}
use Rattle.rules.specs.Computing.{computing}
use Rattle.printing.specs.Lines.{in_line, before_first, lines}
use Rattle.printing.specs.Printed.{field, printed, printed_all, sheet_printed}

pub record Sheet : Type 0 where
  pub typed : String
  pub gives : String

-- under card A
unfoldable pub holds : Sheet → Bool
holds s = same (sheet_printed card_A (ascii s.typed)) (ascii s.gives)

-- document 01's lines, the last without newline; nothing; newlines alone; an empty line between two; a carriage return, which is a
-- byte like any other
unfoldable pub sheets : List Sheet
sheets =
    record { typed = "61.7ms\n1.\n.\n2s ago"; gives = "0 6 + 0 61700000\n0 2 + 1 0\n20 0 + 0 0\n0 6 - 2 0\n" }
    ∷ record { typed = ""; gives = "" }
    ∷ record { typed = "\n\n"; gives = "1 0 + 0 0\n1 0 + 0 0\n" }
    ∷ record { typed = "1s\n\n2s\n"; gives = "0 2 + 1 0\n1 0 + 0 0\n0 2 + 2 0\n" }
    ∷ record { typed = "1s\r\n1s"; gives = "6 1 + 0 0\n0 2 + 1 0\n" }
    ∷ []

pub sheets_hold : T (all holds sheets)
unfolding computing space conjunction settings settings_A row_of table_A unspoken card_A in_line before_first lines field printed printed_all sheet_printed holds sheets
sheets_hold = tt
