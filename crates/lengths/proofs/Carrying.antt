-- Laws of four columns made a word: of each sum the lowest piece comes in at the top of the word, and the rest is carried. Assumes nothing.
use mathlib.Core.Path.{◌≡◌, ◌∙◌, ap}
use mathlib.Core.List.{List}
use Prim.Native.Nat.{ℕ, suc, ◌+◌, ◌*◌, ◌-◌, ◌/◌, ◌%◌, ◌^◌, ◌≤◌, ◌<◌}
use native.Mathlib.Nat.{lt_of_le_of_lt, le-div_iff_mul-le, div-lt_iff_lt-mul, mul_assoc, pow-suc, pow-zero, add-sub_cancel_left}
use native.Mathlib.Numerals.{add-one}
use native.Mathlib.Omega.{arith}
use lib.Dec.{lit<}
use lib.ListN.{length}
use Rattle.lengths.specs.declared.wide.Wide.{Wide}
use Rattle.lengths.specs.Wide.{InPieces, Carries}
use Rattle.lengths.specs.Columns.{put_together, pieces, column, columns, pieces_below, pieces_back, product_most, columns_product, columns_split}

-- one sum, in numbers alone: m is what all of it comes to with room for one piece less. The word is shifted down, the piece up
come_in : (word carry here rest m : ℕ) → word + (carry + (here + 2 ^ 16 * rest)) * 2 ^ 64 ≡ m * 2 ^ 16 → word / 2 ^ 16 + (here + carry) % 2 ^ 16 * 2 ^ 48 % 2 ^ 64 + ((here + carry) / 2 ^ 16 + rest) * 2 ^ 64 ≡ m
come_in word carry here rest m w = omega arith

less_room : (base m left : ℕ) → m * base ^ suc left ≡ m * base ^ left * base
less_room base m left = rw (pow-suc base left, mul_assoc m (base ^ left) base)

module _ (x y : List ℕ) (from carried : ℕ) where
  -- what the four columns come to, with what is carried into the first
  abbrev all : ℕ
  all = carried + put_together (2 ^ 16) (columns x y from 4)

  -- before the column at a position: the pieces that are done stand at the top of the word, above room for those that are left
  unfoldable pub Carrying : ℕ → ℕ → ℕ → Type 0
  Carrying position word carry = word + (carry + put_together (2 ^ 16) (columns x y position (from + 4 - position))) * 2 ^ 64 ≡ all * (2 ^ 16) ^ (from + 4 - position)

  pub carry_start : Carrying from 0 carried
  unfolding Carrying
  carry_start = rw add-sub_cancel_left (omega arith)

  -- one column more
  pub carry_step : (position word carry : ℕ) {here : ℕ} → position < from + 4 → here ≡ column x y position → Carrying position word carry → Carrying (position + 1) (word / 2 ^ 16 + (here + carry) % 2 ^ 16 * 2 ^ 48 % 2 ^ 64) ((here + carry) / 2 ^ 16)
  unfolding Carrying put_together columns
  carry_step position word carry h e w =
      let left : from + 4 - position ≡ suc (from + 4 - (position + 1)) = omega arith in
      rw (e, add-one)
      (come_in word carry (column x y position) _ _ ((rw (left, add-one) at w) ∙ less_room (2 ^ 16) all (from + 4 - suc position)))

  pub carry_end : (position word carry : ℕ) → from + 4 ≤ position → Carrying position word carry → carry * 2 ^ 64 + word ≡ all
  unfolding Carrying put_together columns
  carry_end position word carry h w =
      let none : from + 4 - position ≡ 0 = omega arith in
      omega (arith, (rw (none, pow-zero) at w))

-- ---- both words

pub in_pieces : (n : ℕ) {x : List ℕ} → x ≡ pieces (2 ^ 16) 4 n → InPieces x
unfolding pieces
in_pieces n e = record { four = ap length e; below = λ i. rw e (pieces_below (2 ^ 16) 4 n (lit< tt) i) }

-- in numbers alone: what is above the low word stays below 2^64, so that nothing is carried out of the high one
fit : {a b above : ℕ} (low high carry : ℕ) → a < 2 ^ 64 → b < 2 ^ 64 → low + 2 ^ 64 * above ≡ a * b → carry * 2 ^ 64 + high ≡ above → high * 2 ^ 64 + low ≡ a * b
fit {a} {b} {above} low high carry ha hb e f =
    let most : a * b < 2 ^ 64 * 2 ^ 64 = lt_of_le_of_lt (product_most (2 ^ 64 - 1) ha hb) (lit< tt) in
    let room : above * 2 ^ 64 ≤ a * b = omega arith in
    let below : above < 2 ^ 64 = lt_of_le_of_lt ((le-div_iff_mul-le (lit< tt)).1 room) ((div-lt_iff_lt-mul (lit< tt)).1 most) in
    let none : high ≡ above = omega arith in
    rw none (omega arith)

-- all eight columns are the product
pub both_words : {a b : ℕ} {x y : List ℕ} {low high : Wide} → a < 2 ^ 64 → b < 2 ^ 64 → x ≡ pieces (2 ^ 16) 4 a → y ≡ pieces (2 ^ 16) 4 b → Carries x y 0 0 low → Carries x y 4 low.high high → high.low * 2 ^ 64 + low.low ≡ a * b
both_words {a} {b} {x} {y} ha hb ex ey l h =
    let sizes : length x + length y ≤ 8 = omega (arith, (in_pieces a ex).four, (in_pieces b ey).four) in
    let whole_a : put_together (2 ^ 16) x ≡ a = rw ex (pieces_back (2 ^ 16) 4 a (lit< tt) ha) in
    let whole_b : put_together (2 ^ 16) y ≡ b = rw ey (pieces_back (2 ^ 16) 4 b (lit< tt) hb) in
    let whole : put_together (2 ^ 16) (columns x y 0 8) ≡ put_together (2 ^ 16) x * put_together (2 ^ 16) y = columns_product (2 ^ 16) x y 8 sizes in
    fit _ _ _ ha hb (omega (arith, l.all, columns_split (2 ^ 16) x y 0 4 4, rw (whole_a, whole_b) at whole)) h.all
