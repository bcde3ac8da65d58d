-- What a spoken part multiplies are the rows that were found. Assumes nothing.
use Rattle.std.specs.Prelude.{◌≡◌, ℕ}
use Rattle.std.proofs.Math.Path.{refl}
use mathlib.Core.List.{List, [], ◌∷◌}
use Rattle.rules.specs.declared.Multiplier.{Multiplier}
use Rattle.rules.specs.declared.Settings.{Settings}
use Rattle.rules.specs.declared.SpokenUnit.{SpokenUnit}
use Rattle.rules.specs.SettingsAndUnitTable.{kind_multiplier, kind, row_multiplier, Card}
use Rattle.rules.specs.ReadingOnePart.{sign_step, ago_step, find_unit, spoken_unit_found, spoken_unit_step, infinite_part, finite_part, spoken_part, unsigned_part, part}
use Rattle.rules.proofs.Laws.Choices.{and_left}
use Rattle.rules.proofs.Laws.Outcomes.{All, all_got, all_refused, all_if, all_bind, itself, always}
use Rattle.spoken_numbers.proofs.WhenNoUnitFollows.{numeral_got}
use Rattle.spoken_numbers.specs.WhatIsMultiplied.{RowOrAgo, as_it_is, by_ago, Rows, IfSpoken}

ago_got : (s : Settings) (text : List ℕ) (m : Multiplier) (place : ℕ) → All (λ unit. RowOrAgo text m unit.multiplier) (ago_step s text m place)
unfolding ago_step
ago_got s text m place =
    all_if (λ _. all_got as_it_is)
    (λ _. all_bind (always _) (λ word _. all_if (λ e. all_got (by_ago word (and_left _ _ e))) (λ _. all_got as_it_is)))

module _ (card : Card) (text : List ℕ) where
  -- a unit that was found, as it is multiplied
  abbrev Got : ℕ → SpokenUnit → Type 0
  Got q unit =
      (size : ℕ) × (rest : List ℕ) × (find_unit card text q ≡ size ∷ rest)
      × (unit.kind ≡ kind_multiplier (kind (size ∷ rest)))
      × RowOrAgo text (row_multiplier (size ∷ rest)) unit.row

  unit_got : (q : ℕ) → All (Got q) (spoken_unit_step card text q)
  unfolding spoken_unit_step spoken_unit_found
  unit_got q = go (find_unit card text q) refl
    where
      go : (r : List ℕ) → find_unit card text q ≡ r → All (Got q) (spoken_unit_found card.settings text q r)
      go [] found = all_refused
      go (size ∷ rest) found = all_bind (ago_got card.settings text _ _) (λ unit read. all_got (size, rest, found, refl, read))

  pub rows_multiplied : (place : ℕ) → All (λ p. IfSpoken (Rows card text place) p.repr) (part card text place)
  unfolding part unsigned_part finite_part infinite_part spoken_part
  rows_multiplied place =
      all_if (λ _. all_refused)
      (λ not_at_end.
      all_bind (itself (sign_step card.settings text place))
      (λ signed sign.
      all_if
      (λ _. all_bind (always _) (λ _ _. all_bind (always _) (λ _ _. all_bind (always _) (λ _ _. all_bind (always _) (λ _ _. all_bind (always _) (λ _ _. all_got tt))))))
      (λ no_number.
      all_if (λ _. all_bind (always _) (λ _ _. all_got tt))
      (λ no_infinity.
      all_bind (numeral_got card text signed.next)
      (λ numeral (i, numeral_is, numeral_at).
      all_bind (unit_got numeral.next)
      (λ unit (size, rest, unit_at, kind_is, row_is).
      all_bind (always _)
      (λ _ _.
      all_got
      (record {
        signed = signed;
        asked = record { not_at_end = not_at_end; sign = sign; no_number = no_number; no_infinity = no_infinity };
        i = i;
        q = numeral.next;
        numeral_at = numeral_at;
        size = size;
        rest = rest;
        unit_at = unit_at;
        sign = refl;
        numeral = numeral_is;
        its_kind = kind_is;
        its_row = row_is;
      }))))))))
