-- A row of the hall's whose name the line has is found by no part, and by no text. Assumes nothing.
use Rattle.std.specs.Prelude.{◌≡◌, true, List, ℕ, Option, Some, None}
use Rattle.std.proofs.Math.Path.{refl, ap}
use Rattle.std.proofs.Common.{◌∙◌}
use Rattle.rules.specs.declared.Settings.{Settings}
use Rattle.rules.specs.NumbersHandedBack.{got}
use Rattle.rules.specs.SettingsAndUnitTable.{row, name, Card, lookup, Holder, Line, Hall, Neither, line_first, stands}
use Rattle.rules.specs.ReadingOnePart.{gap, sign_step, number_step, exponent_step}
use Rattle.rules.proofs.Laws.Outcomes.{All, all_got, all_of, all_if, all_bind, always}
use Rattle.rows.specs.Laws.Lookup.{lookup_found}
use Rattle.findable.specs.WhereAPartFindsItsUnit.{unit_stands, number_unit, unsigned_unit, unit_of, finds}
use Rattle.findable.proofs.OfEveryUnit.{found_holds}

module _ (card : Card) (text : List ℕ) where
  abbrev s : Settings
  s = card.settings

  -- whose row it is that was found: of one of the hall's the line has not the name
  abbrev Seen : Holder → Type 0
  Seen (Line i) = Unit {0}
  Seen (Hall i) = lookup card.line (name (row card.hall i)) ≡ None
  Seen Neither = Unit {0}

  looked_up : (wanted : List ℕ) → Seen (stands card.hall card.line wanted)
  unfolding stands line_first
  looked_up wanted = go (lookup card.line wanted) refl (lookup card.hall wanted) refl
    where
      go : (f : Option ℕ) → lookup card.line wanted ≡ f → (g : Option ℕ) → lookup card.hall wanted ≡ g → Seen (line_first f g)
      go (Some i) at g behind = tt
      go None at (Some i) behind = ap (lookup card.line) (lookup_found card.hall wanted i behind).1 ∙ at
      go None at None behind = tt

  seen : (place : ℕ) → All Seen (unit_of card text place)
  unfolding unit_of unsigned_unit number_unit unit_stands
  seen place =
      all_bind (always (sign_step s text place))
      (λ signed _.
      all_if
      (λ _.
      all_bind (always (number_step s text signed.next))
      (λ number _.
      all_bind (always (exponent_step s text number.next))
      (λ scaled _. all_bind (always (gap s.before_unit s text scaled.next)) (λ name _. all_got (looked_up _)))))
      (λ _. all_got tt))

  pub part_unhidden : (place i : ℕ) → unit_of card text place ≡ got (Hall i) → lookup card.line (name (row card.hall i)) ≡ None
  part_unhidden place i e = all_of (seen place) e

  pub found_unhidden : (i : ℕ) → finds card text (Hall i) ≡ true → lookup card.line (name (row card.hall i)) ≡ None
  found_unhidden i e = found_holds card text Seen seen (Hall i) e
