-- Bytes of a set, and bytes outside it: a run of either. Assumes nothing.
use Rattle.std.specs.Prelude.{◌≡◌, Bool, true, false, List, ℕ, ◌+◌, ◌<◌, length, get_or}
use Rattle.std.specs.Bool.{xor}
use Rattle.rules.specs.declared.ByteSet.{ByteSet}
use Rattle.rules.specs.Common.{run}
use Rattle.rules.specs.SettingsAndUnitTable.{holds}
use Rattle.value.specs.Digits.{run_on, run_off}
use Rattle.settings.specs.Sets.{passes}
use Rattle.settings.specs.Laws.Sets.{held_alike, held_unlike}

module _
    (set : ByteSet) (held : Bool) (text : List ℕ) (place : ℕ) (h : place < length text)
    {found : Bool} (asked : found ≡ holds set (get_or text place 0)) where
  -- a byte that passes goes on with the run, and one that does not stops it
  pub passes_on : xor found held ≡ false → run (passes set held) text place ≡ run (passes set held) text (place + 1)
  passes_on e = run_on _ text place h (held_alike set held _ asked e)

  pub passes_off : xor found held ≡ true → run (passes set held) text place ≡ place
  passes_off e = run_off _ text place h (held_unlike set held _ asked e)
