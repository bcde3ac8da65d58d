-- The numbers that a lookup hands back: the names compared, and the row that table and row number lead to. Assumes nothing.
use Rattle.std.specs.Prelude.{◌≡◌, ℕ, ◌<◌, Option, Some, None}
use Rattle.std.proofs.Math.Path.{refl}
use Rattle.std.proofs.Common.{arith}
use mathlib.Core.List.{List, []}
use Rattle.rules.specs.SettingsAndUnitTable.{rows, row, lookup, Holder, Line, Hall, Neither, line_first, stands, held_row}
use Rattle.rows.specs.Laws.Lookup.{lookup_found}
use Rattle.index.specs.declared.LookedUp.{LookedUp}
use Rattle.index.specs.TheSortedIndex.{found_in}

-- with the names counted
pub found_compared : (h : Holder) (compared : ℕ) → (found_in h compared).compared ≡ compared
unfolding found_in
found_compared (Line i) compared = refl
found_compared (Hall i) compared = refl
found_compared Neither compared = refl

-- and the row that its numbers lead to is the one that is found
abbrev Led : List ℕ → List ℕ → List ℕ → ℕ → LookedUp → Holder → Type 0
Led hall line table number l h = l.table ≡ number → (l.row < rows table) × (row table l.row ≡ held_row hall line h)

module _ (hall line wanted : List ℕ) (compared : ℕ) {it : LookedUp} (held : it ≡ found_in (stands hall line wanted) compared) where
  pub led_to_line : Led hall line line 2 it (stands hall line wanted)
  unfolding found_in stands line_first held_row
  led_to_line = rw held (go (lookup line wanted) refl (lookup hall wanted))
    where
      go : (f : Option ℕ) → lookup line wanted ≡ f → (g : Option ℕ) → Led hall line line 2 (found_in (line_first f g) compared) (line_first f g)
      go (Some i) e g is = ((lookup_found line wanted i e).0, refl)
      go None e (Some i) is = absurd (omega (arith, is))
      go None e None is = absurd (omega (arith, is))

  pub led_to_hall : Led hall line hall 1 it (stands hall line wanted)
  unfolding found_in stands line_first held_row
  led_to_hall = rw held (go (lookup line wanted) (lookup hall wanted) refl)
    where
      go : (f g : Option ℕ) → lookup hall wanted ≡ g → Led hall line hall 1 (found_in (line_first f g) compared) (line_first f g)
      go (Some i) g e is = absurd (omega (arith, is))
      go None (Some i) e is = ((lookup_found hall wanted i e).0, refl)
      go None None e is = absurd (omega (arith, is))

  pub led_nowhere : (it.table ≡ 2 → ⊥) → (it.table ≡ 1 → ⊥) → [] ≡ held_row hall line (stands hall line wanted)
  unfolding found_in held_row
  led_nowhere = rw held (go (stands hall line wanted))
    where
      go : (h : Holder) → ((found_in h compared).table ≡ 2 → ⊥) → ((found_in h compared).table ≡ 1 → ⊥) → [] ≡ held_row hall line h
      go (Line i) not_line not_hall = absurd (not_line refl)
      go (Hall i) not_line not_hall = absurd (not_hall refl)
      go Neither not_line not_hall = refl
