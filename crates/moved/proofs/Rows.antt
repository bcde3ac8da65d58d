-- A row moved from one form to another has the same fields, stands there, and moved back it is the row. Assumes nothing.
use Rattle.std.specs.Prelude.{◌≡◌, true, ℕ, ◌+◌, ◌-◌}
use Rattle.std.proofs.Math.Path.{refl, sym, ap}
use Rattle.std.proofs.Common.{◌∙◌, add-zero, arith, take_at, drop-drop}
use mathlib.Core.List.{List, ◌∷◌, ◌++◌, append_assoc}
use Rattle.std.proofs.Math.ListN.{length, get_or, drop, replicate, length-append, length-drop}
use Rattle.std.proofs.lemmas.List.{length-replicate}
use Rattle.std.proofs.Math.Seq.{drop_at, get_or-drop}
use Rattle.rules.specs.SettingsAndUnitTable.{name_at, kind_at_in, coefficient_at_in, power_at_in, zeros_at_in, row_size_in, coefficient_size, power_size, name_size, name, after_name_in, kind_in, coefficient_field_in, power_field_in, row_multiplier_in, product_in}
use Rattle.rules.proofs.Laws.Tests.{between_from, between_in}
use Rattle.moves.specs.NamesLongerThanSixteenBytes.{row_stands, moved_row}
use Rattle.moved.specs.Standing.{all_zeros, stands_of, stands_sized, stands_end, name_within, length_name, row_itself}
use Rattle.moved.specs.Rows.{Movable}

-- ---- two rows that are alike from the kind on

module _ (from to : ℕ) (r q : List ℕ) (alike : drop (kind_at_in to) q ≡ drop (kind_at_in from) r) where
  further : (a b k : ℕ) → drop a q ≡ drop b r → drop (a + k) q ≡ drop (b + k) r
  further a b k e = sym (drop-drop k a q) ∙ ap (drop k) e ∙ drop-drop k b r

  kinds : kind_in to q ≡ kind_in from r
  unfolding kind_in
  kinds =
      ap (λ at. get_or q at 0) (sym (add-zero (kind_at_in to)))
      ∙ sym (get_or-drop (kind_at_in to) q 0 0)
      ∙ ap (λ l. get_or l 0 0) alike
      ∙ get_or-drop (kind_at_in from) r 0 0
      ∙ ap (λ at. get_or r at 0) (add-zero (kind_at_in from))

  from_coefficients : drop (coefficient_at_in to) q ≡ drop (coefficient_at_in from) r
  from_coefficients = further (kind_at_in to) (kind_at_in from) 1 alike

  from_powers : drop (power_at_in to) q ≡ drop (power_at_in from) r
  from_powers = further (coefficient_at_in to) (coefficient_at_in from) coefficient_size from_coefficients

  from_zeros : drop (zeros_at_in to) q ≡ drop (zeros_at_in from) r
  from_zeros = further (power_at_in to) (power_at_in from) power_size from_powers

  coefficients : coefficient_field_in to q ≡ coefficient_field_in from r
  unfolding coefficient_field_in
  coefficients = rw from_coefficients

  powers : power_field_in to q ≡ power_field_in from r
  unfolding power_field_in
  powers = rw from_powers

  -- with one name they are one row, to whatever form they are moved
  moved_alike : (there : ℕ) → name_size q ≡ name_size r → name q ≡ name r → moved_row to there q ≡ moved_row from there r
  unfolding moved_row
  moved_alike there sizes names = rw (sizes, names, alike)

-- ---- a row that moves

module _ (from to : ℕ) (r : List ℕ) (m : Movable from to r) where
  name_long : length (name r) ≡ name_size r
  name_long = length_name from r m.stands m.whole

  room_filled : length (name_size r ∷ name r ++ replicate (to - name_size r) 0) ≡ kind_at_in to
  room_filled = simp (length-append, name_long, length-replicate) (omega (arith, m.fits))

  in_parts : moved_row from to r ≡ name_size r ∷ name r ++ (replicate (to - name_size r) 0 ++ drop (kind_at_in from) r)
  unfolding moved_row
  in_parts = append_assoc (name_size r ∷ name r) (replicate (to - name_size r) 0) (drop (kind_at_in from) r)

  pub same_size : name_size (moved_row from to r) ≡ name_size r
  unfolding name_size moved_row
  same_size = refl

  pub same_name : name (moved_row from to r) ≡ name r
  unfolding name name_size
  same_name = rw in_parts (take_at (name r) (replicate (to - name_size r) 0 ++ drop (kind_at_in from) r) (name_size r) name_long)

  zeros_behind : after_name_in to (moved_row from to r) ≡ replicate (to - name_size r) 0
  unfolding after_name_in name_size
  zeros_behind =
      let long : length (name_size r ∷ name r) ≡ name_at + name_size r = omega (arith, name_long) in
      rw (in_parts, drop_at (name_size r ∷ name r) (replicate (to - name_size r) 0 ++ drop (kind_at_in from) r) (name_at + name_size r) long)
      (take_at (replicate (to - name_size r) 0) (drop (kind_at_in from) r) (to - name_size r) (length-replicate (to - name_size r) 0))

  same_behind : drop (kind_at_in to) (moved_row from to r) ≡ drop (kind_at_in from) r
  unfolding moved_row
  same_behind = drop_at (name_size r ∷ name r ++ replicate (to - name_size r) 0) (drop (kind_at_in from) r) (kind_at_in to) room_filled

  pub same_kind : kind_in to (moved_row from to r) ≡ kind_in from r
  same_kind = kinds from to r (moved_row from to r) same_behind

  pub same_coefficient : coefficient_field_in to (moved_row from to r) ≡ coefficient_field_in from r
  same_coefficient = coefficients from to r (moved_row from to r) same_behind

  pub same_power : power_field_in to (moved_row from to r) ≡ power_field_in from r
  same_power = powers from to r (moved_row from to r) same_behind

  pub same_multiplier : row_multiplier_in to (moved_row from to r) ≡ row_multiplier_in from r
  unfolding row_multiplier_in
  same_multiplier = rw (same_coefficient, same_power)

  pub same_product : product_in to (moved_row from to r) ≡ product_in from r
  unfolding product_in
  same_product = rw (same_kind, same_multiplier)

  pub moved_whole : length (moved_row from to r) ≡ row_size_in to
  unfolding moved_row
  moved_whole =
      length-append (name_size r ∷ name r ++ replicate (to - name_size r) 0) (drop (kind_at_in from) r)
      ∙ omega (arith, room_filled, length-drop (kind_at_in from) r, m.whole)

  pub moved_stands : row_stands to (moved_row from to r) ≡ true
  moved_stands =
      stands_of to (moved_row from to r)
      (rw same_size (between_in 1 to (name_size r) (between_from 1 from (name_size r) (stands_sized from r m.stands)) m.fits))
      (rw zeros_behind (all_zeros (to - name_size r)))
      (rw (from_zeros from to r (moved_row from to r) same_behind) (stands_end from r m.stands))

  -- it can be moved back
  pub moved_movable : Movable to from (moved_row from to r)
  moved_movable = record { whole = moved_whole; stands = moved_stands; fits = rw same_size (name_within from r m.stands) }

  -- and is then the row that it was
  pub moved_back : moved_row to from (moved_row from to r) ≡ r
  moved_back = moved_alike from to r (moved_row from to r) same_behind from same_size same_name ∙ row_itself from r m.stands m.whole
