-- Laws of a column summed up piece by piece. Assumes nothing.
use mathlib.Core.Path.{◌≡◌, refl, sym, ◌∙◌}
use mathlib.Core.Logic.{◌⊎◌, inl, inr}
use mathlib.Core.List.{List}
use mathlib.Core.Bool.{Bool, true, false}
use lib.Dec.{leb}
use borrow.Author.Tests.{leb-true, leb-false}
use Prim.Native.Nat.{ℕ, min, suc, ◌+◌, ◌*◌, ◌-◌, ◌≤◌, ◌<◌}
use native.Mathlib.Nat.{zero-add, add-zero, add_assoc, sub-zero}
use native.Mathlib.Numerals.{add-one}
use native.Mathlib.Omega.{arith}
use lib.ListN.{length, get_or, drop, drop_of_length-le}
use lib.Seq.{drop-cons}
use Rattle.lengths.specs.Columns.{crosswise, column, Below, crosswise_none, crosswise_skip, column_most}

-- before piece i of x: the sum, and what is left crosswise, are the column
unfoldable pub Walked : List ℕ → List ℕ → ℕ → ℕ → ℕ → Type 0
Walked x y position i sum = sum + crosswise (drop i x) y (position + 1 - i) ≡ column x y position

module _ (x y : List ℕ) (position : ℕ) where
  -- the walk may begin with the first piece of x, or behind pieces that would meet none of y,
  pub walk_start : (i : ℕ) → (i ≡ 0) ⊎ (length y + i ≤ position + 1) → Walked x y position i 0
  unfolding Walked column
  walk_start i (inl e) = zero-add _ ∙ rw (e, sub-zero, add-one)
  walk_start i (inr behind) =
      let whole : suc position ≡ i + (position + 1 - i) = omega arith in
      zero-add _ ∙ sym (rw whole (crosswise_skip x y i (position + 1 - i) (omega arith)))

  -- takes in a product with each step,
  pub walk_step : (i sum : ℕ) → i < length x → i ≤ position → Walked x y position i sum → Walked x y position (i + 1) (sum + get_or x i 0 * get_or y (position - i) 0)
  unfolding Walked crosswise
  walk_step i sum h below w =
      let here : position + 1 - i ≡ suc (position - i) = omega arith in
      let next : position + 1 - (i + 1) ≡ position - i = omega arith in
      rw (next, add-one, add_assoc) (rw (here, drop-cons x i 0 h) at w)

  -- and ends where either has no more
  pub walk_end : (i sum : ℕ) → (length x ≤ i) ⊎ (position + 1 ≤ i) → Walked x y position i sum → sum ≡ column x y position
  unfolding Walked crosswise
  walk_end i sum (inl h) w = sym (add-zero sum) ∙ (rw (drop_of_length-le x h) at w)
  walk_end i sum (inr h) w =
      let none : position + 1 - i ≡ 0 = omega arith in
      sym (add-zero sum) ∙ (rw (none, crosswise_none (drop i x) y) at w)

  -- So a walk over as many pieces as both have up to the position begins and ends.
  module _ {n end : ℕ} (e : end ≡ min n (position + 1)) where
    pub walk_from : length y ≡ n → Walked x y position (position + 1 - end) 0
    walk_from h = walk_start (position + 1 - end) (go (leb (position + 1) n) refl)
      where
        go : (c : Bool) → leb (position + 1) n ≡ c → (position + 1 - end ≡ 0) ⊎ (length y + (position + 1 - end) ≤ position + 1)
        go true f = inl (omega (arith, leb-true (position + 1) n f))
        go false f = inr (omega (arith, leb-false (position + 1) n f))

    pub walk_to : length x ≡ n → (i : ℕ) {sum : ℕ} → end ≤ i → Walked x y position i sum → sum ≡ column x y position
    walk_to h i k w = walk_end i _ (go (leb (position + 1) n) refl) w
      where
        go : (c : Bool) → leb (position + 1) n ≡ c → (length x ≤ i) ⊎ (position + 1 ≤ i)
        go true f = inr (omega (arith, leb-true (position + 1) n f))
        go false f = inl (omega (arith, leb-false (position + 1) n f))

-- the sum never passes the largest column
pub walk_most : (most : ℕ) (x y : List ℕ) (position i sum : ℕ) → Below (suc most) x → Below (suc most) y → Walked x y position i sum → sum ≤ length x * (most * most)
unfolding Walked
walk_most most x y position i sum bx by w = omega (arith, column_most most x y position bx by)
