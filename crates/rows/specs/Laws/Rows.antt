-- Laws of rows and their fields. Assumes nothing.
use Rattle.std.specs.Prelude.{◌≡◌, refl, Bool, true, false, ◌&&◌, List, length, leb, ltb}
use Rattle.std.proofs.Common.{sym, ◌∙◌, zero-add, mul_comm, le-div_iff_mul-le, length-take, length-drop, lit<}
use Rattle.std.proofs.Math.Path.{ap}
use Rattle.std.proofs.Math.Bool.{xor}
use Prim.Native.Nat.{ℕ, zero-le, ◌+◌, ◌*◌, ◌-◌, ◌/◌, ◌^◌, ◌≤◌, ◌<◌}
use Rattle.std.proofs.Math.Nat.{mul-le-mul}
use native.Mathlib.Omega.{arith}
use Rattle.std.proofs.Math.ListN.{get_or}
use borrow.Author.Tests.{le-leb, lt-leb, leb-true, leb-false, ltb-true, ltb-false, lt-ltb, le-ltb}
use Rattle.std.specs.Prelude.{nat_abs}
use Rattle.std.specs.Int.{cast_signed, w16, w64}
use Rattle.rules.specs.declared.Multiplier.{Multiplier}
use Rattle.rules.specs.Common.{when◌then◌else◌, all}
use Rattle.rules.specs.SettingsAndUnitTable.{coefficient_size, coefficient_field, power_size, row_size, name_room, rows, rows_in, row, row_in, name_size, name, kind, power_field, below_zero, magnitude, kind_coefficients, kind_downs, kind_multiplier, row_multiplier, row_multiplier_in, times, product, product_in, in_range}
use Rattle.rules.proofs.Laws.Choices.{if_either, and_left, and_right}
use Rattle.rules.proofs.Laws.Tests.{and_true, same_test}
use Rattle.rules.proofs.Laws.Lists.{all_at}
use Rattle.rows.specs.Powers.{risen, fallen, Fitting}

-- a row of the table lies in it whole
pub row_within : (table : List ℕ) (i : ℕ) → i < rows table → row_size * i + row_size ≤ length table
unfolding rows_in
row_within table i h = omega arith

pub length_row : (table : List ℕ) (i : ℕ) → i < rows table → length (row table i) ≡ row_size
unfolding row_in
length_row table i h = simp (length-take, length-drop) (omega (arith, row_within table i h))

-- ---- powers and products

below : (bytes x : ℕ) → x < 256 ^ bytes / 2 → below_zero bytes x ≡ false
unfolding below_zero
below bytes x h = lt-leb (256 ^ bytes / 2) x h

pub magnitude_of : (bytes x : ℕ) → x < 256 ^ bytes / 2 → magnitude bytes x ≡ x
unfolding magnitude when◌then◌else◌
magnitude_of bytes x h = rw (below bytes x h)

pub magnitude_below : (bytes x : ℕ) → 256 ^ bytes / 2 ≤ x → magnitude bytes x ≡ 256 ^ bytes - x
unfolding magnitude when◌then◌else◌ below_zero
magnitude_below bytes x h = rw (le-leb (256 ^ bytes / 2) x h)

-- the library's magnitude of the signed number
pub signed_word : (x : ℕ) → x < 2 ^ 64 → nat_abs (cast_signed w64 x) ≡ magnitude 8 x
signed_word x fits = go (ltb x (2 ^ 63)) refl
  where
    go : (b : Bool) → ltb x (2 ^ 63) ≡ b → nat_abs (cast_signed w64 x) ≡ magnitude 8 x
    go true e = rw (e, magnitude_of 8 x (ltb-true x (2 ^ 63) e))
    go false e = rw (e, magnitude_below 8 x (ltb-false x (2 ^ 63) e)) (omega arith)

pub signed_short : (x : ℕ) → 32768 ≤ x → x < 65536 → nat_abs (cast_signed w16 x) ≡ 65536 - x
signed_short x h f = rw (le-ltb x 32768 h) (omega arith)

pub risen_of : (x : ℕ) → x < 32768 → risen x ≡ x
unfolding risen when◌then◌else◌
risen_of x h = rw (below power_size x h)

pub risen_below : (x : ℕ) → 32768 ≤ x → risen x ≡ 0
unfolding risen when◌then◌else◌ below_zero
risen_below x h = rw (le-leb 32768 x h)

pub fallen_of : (x : ℕ) → x < 32768 → fallen x ≡ 0
unfolding fallen when◌then◌else◌
fallen_of x h = rw (below power_size x h)

pub fallen_below : (x : ℕ) → 32768 ≤ x → fallen x ≡ 65536 - x
unfolding fallen when◌then◌else◌ below_zero
fallen_below x h = rw (le-leb 32768 x h, magnitude_below power_size x h)

pub risen_most : (x : ℕ) → risen x < 32768
unfolding risen below_zero
risen_most x = if_either (λ y. y < 32768) (leb 32768 x) (λ e. lit< tt) (λ e. leb-false 32768 x e)

pub fallen_most : (x : ℕ) → fallen x ≤ 32768
unfolding fallen below_zero
fallen_most x =
    if_either (λ y. y ≤ 32768) (leb 32768 x) (λ e. rw (magnitude_below power_size x (leb-true 32768 x e)) (omega (arith, leb-true 32768 x e))) (λ e. zero-le)

pub kind_down_most : (k : ℕ) → get_or kind_downs k 0 ≤ 9
unfolding kind_downs all
kind_down_most k = leb-true (get_or kind_downs k 0) 9 (all_at (λ x. leb x 9) kind_downs 0 refl refl k)

pub kind_coefficient_most : (k : ℕ) → get_or kind_coefficients k 0 ≤ 604800
unfolding kind_coefficients all
kind_coefficient_most k = leb-true (get_or kind_coefficients k 0) 604800 (all_at (λ x. leb x 604800) kind_coefficients 0 refl refl k)

-- a product is within a limit if what is multiplied is within the limit divided
pub within_divided : (factor m most : ℕ) → 0 < factor → leb m (most / factor) ≡ ltb (factor * m) (most + 1)
within_divided factor m most h =
    same_test (leb m (most / factor)) (ltb (factor * m) (most + 1))
    (λ e. lt-ltb (factor * m) (most + 1) (rw mul_comm (omega (arith, (le-div_iff_mul-le h).0 (leb-true m (most / factor) e)))))
    (λ e. le-leb m (most / factor) ((le-div_iff_mul-le h).1 (rw mul_comm (omega (arith, ltb-true (factor * m) (most + 1) e)))))

xor_false : (b : Bool) → xor false b ≡ b
unfolding xor
xor_false true = refl
xor_false false = refl

-- a kind has no sign, and no power above zero
pub kind_times :
    (k : ℕ) (own : Multiplier)
    → times (kind_multiplier k) own
    ≡ record {
      negative = own.negative;
      coefficient = (kind_multiplier k).coefficient * own.coefficient;
      up = own.up;
      down = (kind_multiplier k).down + own.down;
    }
unfolding times kind_multiplier
kind_times k own = rw (zero-add, xor_false own.negative)

-- what is made of a kind and of a row
pub product_is :
    (k : ℕ) (own : Multiplier) {unit : Multiplier} → unit ≡ kind_multiplier k
    → record {
      negative = own.negative;
      coefficient = unit.coefficient * own.coefficient;
      up = own.up;
      down = unit.down + own.down;
    }
    ≡ times (kind_multiplier k) own
product_is k own e = rw e (sym (kind_times k own))

module _ (r : List ℕ) where
  -- the fields of a row, as they are read
  pub multiplier_is :
      {c p size up down : ℕ} → c ≡ coefficient_field r → p ≡ power_field r → size ≡ magnitude coefficient_size c → up ≡ risen p → down ≡ fallen p
      → record { negative = leb 9223372036854775808 c; coefficient = size; up = up; down = down } ≡ row_multiplier r
  unfolding row_multiplier_in below_zero risen fallen
  multiplier_is e f m u d = rw (m, u, d, e, f)

  pub up_most : (row_multiplier r).up < 32768
  unfolding row_multiplier_in risen
  up_most = risen_most (power_field r)

  pub own_down_most : (row_multiplier r).down ≤ 32768
  unfolding row_multiplier_in fallen
  own_down_most = fallen_most (power_field r)

  pub down_most : (kind_multiplier (kind r)).down + (row_multiplier r).down ≤ 32777
  unfolding kind_multiplier
  down_most = omega (arith, kind_down_most (kind r), own_down_most)

  -- of a row in range they fit
  pub row_fitting : in_range (product r) ≡ true → Fitting (kind r) (row_multiplier r)
  unfolding product_in
  row_fitting e = (own_down_most, e)

  -- the range of kind times row: a power above zero is never too high
  pub in_range_product :
      in_range (product r)
      ≡ (ltb ((kind_multiplier (kind r)).coefficient * (row_multiplier r).coefficient) (2 ^ 63)
      && leb ((kind_multiplier (kind r)).down + (row_multiplier r).down) ((row_multiplier r).up + 32768))
  unfolding in_range product_in
  in_range_product =
      let down : ℕ = (kind_multiplier (kind r)).down + (row_multiplier r).down in
      rw (kind_times (kind r) (row_multiplier r), le-leb (row_multiplier r).up (down + 32767) (omega (arith, up_most)), and_true)

  -- which no kind takes a small row out of
  pub in_range_small : (ltb (row_multiplier r).coefficient 8796093022208 && ltb (row_multiplier r).down 32760) ≡ true → in_range (product r) ≡ true
  unfolding kind_multiplier
  in_range_small e =
      let c : ℕ = get_or kind_coefficients (kind r) 0 in
      let own : ℕ = (row_multiplier r).coefficient in
      let few : own < 8796093022208 = ltb-true own 8796093022208 (and_left _ _ e) in
      let near : (row_multiplier r).down < 32760 = ltb-true (row_multiplier r).down 32760 (and_right (ltb own 8796093022208) _ e) in
      let below : own ≤ 8796093022208 = omega arith in
      let most : c * own ≤ 604800 * 8796093022208 = mul-le-mul (kind_coefficient_most (kind r)) below in
      rw (
        in_range_product,
        lt-ltb (c * own) (2 ^ 63) (omega arith),
        le-leb (get_or kind_downs (kind r) 0 + (row_multiplier r).down) ((row_multiplier r).up + 32768) (omega (arith, kind_down_most (kind r))),
      )

  -- nor one of which the fields say as they stand that it is small
  pub in_range_plain : {c p : ℕ} → c ≡ coefficient_field r → p ≡ power_field r → c < 8796093022208 → fallen p < 32760 → in_range (product r) ≡ true
  unfolding row_multiplier_in fallen
  in_range_plain {c} {p} e f few near =
      let own : magnitude coefficient_size (coefficient_field r) ≡ c = ap (magnitude coefficient_size) (sym e) ∙ magnitude_of coefficient_size c (omega (arith, few)) in
      let down : fallen (power_field r) ≡ fallen p = ap fallen (sym f) in
      in_range_small (rw (own, down, lt-ltb c 8796093022208 few, lt-ltb (fallen p) 32760 near))

-- what the range says in numbers
pub in_range_bounds : (m : Multiplier) → in_range m ≡ true → (m.coefficient < 2 ^ 63) × (m.up ≤ m.down + 32767) × (m.down ≤ m.up + 32768)
unfolding in_range
in_range_bounds m e =
    let first : Bool = ltb m.coefficient (2 ^ 63) in
    let second : Bool = leb m.up (m.down + 32767) in
    let third : Bool = leb m.down (m.up + 32768) in
    let both = and_left (first && second) third e in (
      ltb-true m.coefficient (2 ^ 63) (and_left first second both),
      leb-true m.up (m.down + 32767) (and_right first second both),
      leb-true m.down (m.up + 32768) (and_right (first && second) third e),
    )

-- a name for which a row has room has as many bytes as the row says
pub name_length : (r : List ℕ) → length r ≡ row_size → name_size r ≤ name_room → length (name r) ≡ name_size r
unfolding name
name_length r long most = simp (length-take, length-drop) (omega arith)
