-- Request two: a text that finds a row, zero of its unit, which is accepted whatever the row's coefficient. Assumes nothing.
use Rattle.std.specs.Prelude.{not, List, [], ◌∷◌, ◌++◌, ℕ, zero, suc}
use Rattle.rules.specs.declared.ByteSet.{ByteSet}
use Rattle.rules.specs.declared.Settings.{Settings}
use Rattle.rules.specs.Common.{when◌then◌else◌, ascii}
use Rattle.rules.specs.SettingsAndUnitTable.{holds, led_by_e}

-- the first byte of the n from b on that the set holds
unfoldable pub first_held : ByteSet → ℕ → ℕ → ℕ
first_held set b zero = b
first_held set b (suc n) = let more = first_held set (suc b) n in when holds set b then b else more

-- what stands between the number and the name: nothing, unless an `e` leads the name; then an exponent or else a delimiter
unfoldable pub joint : Settings → List ℕ → List ℕ
joint s n = when not (led_by_e n) then [] else when s.exponents then ascii "e0" else first_held s.inner 0 256 ∷ []

-- the text: `0s`, `0e0eon` or `0 eon`
unfoldable pub text_for : Settings → List ℕ → List ℕ
text_for s n = 48 ∷ joint s n ++ n
