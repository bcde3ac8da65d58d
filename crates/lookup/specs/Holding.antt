-- The table that holds a name, as the code has it. Assumes nothing.
use Rattle.std.specs.Prelude.{Option, Some, None}
use Rattle.rules.specs.SettingsAndUnitTable.{Holder, Line, Hall, Neither}
use Rattle.lookup.specs.declared.both_tables.Held.{Held}
use Rattle.lookup.specs.declared.both_tables.Held.TheVariants.{InLine, InHall}

abbrev pub holder : Option Held → Holder
holder (Some (InLine i)) = Line i
holder (Some (InHall i)) = Hall i
holder None = Neither
