-- Digits of a line. Assumes nothing.
use Rattle.std.specs.Prelude.{List, ℕ, ◌+◌, ◌*◌, get_or}
use Rattle.stored.specs.Lines.{digit_value}

-- the digit `0`
abbrev pub zero_digit : ℕ
zero_digit = 48

abbrev pub told : List ℕ → ℕ
told line = digit_value (get_or line 0 0) * 16 + digit_value (get_or line 1 0)
