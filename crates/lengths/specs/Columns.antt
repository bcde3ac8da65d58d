-- Multiplication as on paper: two numbers in pieces, the lowest first, and the products of two pieces in the columns where they stand. Over the
-- base that a piece is below. Assumes nothing.
use Rattle.std.specs.Prelude.{◌≡◌, refl, List, [], ◌∷◌, ℕ, zero, suc, ◌+◌, ◌*◌, ◌/◌, ◌%◌, ◌^◌, ◌≤◌, ◌<◌, length, get_or, drop}
use Rattle.std.proofs.Common.{mul-zero, zero-mul, mul-add, add-mul, mul_assoc, mul_left_comm, mul-le-mul, mod-lt, div-lt_iff_lt-mul, pow-suc, zero-add, add-zero, suc-add, add-suc, arith, drop_of_length-le}
use Rattle.std.proofs.Math.Nat.{mod-add-div, pow-zero, pow-succ'}
use Rattle.std.proofs.Math.ListN.{get_or-eq_default}

-- the number that pieces come to, put together; columns too, which are not below the base
unfoldable pub put_together : ℕ → List ℕ → ℕ
put_together base [] = 0
put_together base (p ∷ x) = p + base * put_together base x

-- so many pieces of a number
unfoldable pub pieces : ℕ → ℕ → ℕ → List ℕ
pieces base zero n = []
pieces base (suc count) n = n % base ∷ pieces base count (n / base)

-- the first piece of x times the last of the first n of y, the second times the one before that, and so on while both have one
unfoldable pub crosswise : List ℕ → List ℕ → ℕ → ℕ
crosswise [] y n = 0
crosswise (p ∷ x) y zero = 0
crosswise (p ∷ x) y (suc n) = p * get_or y n 0 + crosswise x y n

-- the column at a position: the products of two pieces whose positions add up to it
unfoldable pub column : List ℕ → List ℕ → ℕ → ℕ
column x y position = crosswise x y (suc position)

-- so many columns from a position on
unfoldable pub columns : List ℕ → List ℕ → ℕ → ℕ → List ℕ
columns x y from zero = []
columns x y from (suc count) = column x y from ∷ columns x y (suc from) count

-- each piece is below the base
abbrev pub Below : ℕ → List ℕ → Type 0
Below base x = (i : ℕ) → get_or x i 0 < base

-- ---- pieces

pub pieces_below : (base count n : ℕ) → zero < base → Below base (pieces base count n)
unfolding pieces
pieces_below base zero n pos i = pos
pieces_below base (suc count) n pos zero = mod-lt n pos
pieces_below base (suc count) n pos (suc i) = pieces_below base count (n / base) pos i

pub pieces_back : (base count n : ℕ) → zero < base → n < base ^ count → put_together base (pieces base count n) ≡ n
unfolding pieces put_together
pieces_back base zero n pos h = omega (arith, pow-zero base)
pieces_back base (suc count) n pos h =
    rw (pieces_back base count (n / base) pos ((div-lt_iff_lt-mul pos).1 (rw (pow-suc base count) at h))) (mod-add-div n base)

-- ---- a column

pub crosswise_none : (x y : List ℕ) → crosswise x y zero ≡ 0
unfolding crosswise
crosswise_none [] y = refl
crosswise_none (p ∷ x) y = refl

-- pieces of x that would meet none of y
pub crosswise_skip : (x y : List ℕ) (i n : ℕ) → length y ≤ n → crosswise x y (i + n) ≡ crosswise (drop i x) y n
unfolding crosswise
crosswise_skip x y zero n h = rw zero-add
crosswise_skip [] y (suc i) n h = refl
crosswise_skip (p ∷ x) y (suc i) n h =
    rw (suc-add, get_or-eq_default y 0 {n = i + n} (omega arith), mul-zero p, zero-add) (crosswise_skip x y i n h)

-- the largest product of two pieces, and the largest column
pub product_most : (most : ℕ) {p q : ℕ} → p < suc most → q < suc most → p * q ≤ most * most
product_most most hp hq = mul-le-mul {n₂ = most} {m₂ = most} (omega arith) (omega arith)

crosswise_most : (most : ℕ) (x y : List ℕ) (n : ℕ) → Below (suc most) x → Below (suc most) y → crosswise x y n ≤ length x * (most * most)
unfolding crosswise
crosswise_most most [] y n bx by = omega arith
crosswise_most most (p ∷ x) y zero bx by = omega arith
crosswise_most most (p ∷ x) y (suc n) bx by =
    omega (arith, product_most most (bx 0) (by n), crosswise_most most x y n (λ i. bx (suc i)) by)

pub column_most : (most : ℕ) (x y : List ℕ) (position : ℕ) → Below (suc most) x → Below (suc most) y → column x y position ≤ length x * (most * most)
unfolding column
column_most most x y position = crosswise_most most x y (suc position)

-- ---- all columns

-- the pieces of y from a position on: the one there, and those behind it
one_then_more : (base : ℕ) (y : List ℕ) (i : ℕ) → put_together base (drop i y) ≡ get_or y i 0 + base * put_together base (drop (suc i) y)
unfolding put_together
one_then_more base [] zero = omega (arith, mul-zero base)
one_then_more base [] (suc i) = omega (arith, mul-zero base)
one_then_more base (q ∷ y) zero = refl
one_then_more base (q ∷ y) (suc i) = one_then_more base y i

columns_none : (base : ℕ) (y : List ℕ) (from count : ℕ) → put_together base (columns [] y from count) ≡ 0
unfolding put_together columns column crosswise
columns_none base y from zero = refl
columns_none base y from (suc count) = rw (columns_none base y (suc from) count, mul-zero base)

-- a piece more before the others: its products with those of y from the position on come to the columns
columns_behind : (base p : ℕ) (x y : List ℕ) (from count : ℕ) → length y ≤ suc from + count → put_together base (columns (p ∷ x) y (suc from) count) ≡ p * put_together base (drop (suc from) y) + put_together base (columns x y from count)
unfolding put_together columns column crosswise
columns_behind base p x y from zero h = rw (drop_of_length-le y {i = suc from} (omega arith), mul-zero p)
columns_behind base p x y from (suc count) h =
    rw (columns_behind base p x y (suc from) count (omega arith), one_then_more base y (suc from), mul-add base, mul-add p, mul_left_comm base p) (omega arith)

columns_more : (base p : ℕ) (x y : List ℕ) (count : ℕ) → length y ≤ suc count → put_together base (columns (p ∷ x) y 0 (suc count)) ≡ p * put_together base y + base * put_together base (columns x y 0 count)
unfolding put_together columns column crosswise
columns_more base p x y count h =
    rw (crosswise_none x y, columns_behind base p x y 0 count (omega arith), one_then_more base y 0, mul-add base, mul-add p, mul_left_comm base p) (omega arith)

-- put together, the columns are the product, whatever the base
pub columns_product : (base : ℕ) (x y : List ℕ) (count : ℕ) → length x + length y ≤ count → put_together base (columns x y 0 count) ≡ put_together base x * put_together base y
unfolding put_together
columns_product base [] y count h = rw (columns_none base y 0 count, zero-mul)
columns_product base (p ∷ x) y zero h = absurd (omega arith)
columns_product base (p ∷ x) y (suc count) h =
    rw (columns_more base p x y count (omega arith), columns_product base x y count (omega arith), add-mul p, mul_assoc base)

-- some columns, and those behind them
pub columns_split : (base : ℕ) (x y : List ℕ) (from first more : ℕ) → put_together base (columns x y from (first + more)) ≡ put_together base (columns x y from first) + base ^ first * put_together base (columns x y (from + first) more)
unfolding put_together columns
columns_split base x y from zero more = rw (zero-add more, add-zero from, pow-zero base) (omega arith)
columns_split base x y from (suc first) more =
    rw (suc-add first more, columns_split base x y (suc from) first more, mul-add base, pow-succ' base first, mul_assoc base, suc-add from first, add-suc from first) (omega arith)
