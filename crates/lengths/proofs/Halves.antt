-- Laws of numbers written by halves, as digits in a base: a product, and a step of long division. Assumes nothing.
use mathlib.Core.Path.{◌≡◌}
use Prim.Native.Nat.{ℕ, zero, ◌+◌, ◌*◌, ◌-◌, ◌/◌, ◌%◌, ◌^◌, ◌≤◌, ◌<◌}
use native.Mathlib.Nat.{mul_comm, add-mul, mul-add, mul_assoc, mul_right_comm, mul-mul-mul_comm, mul-le-mul, mul-add-div_right, mul-add-mod_self_right, div-add-mod', div-lt_iff_lt-mul}
use native.Mathlib.Omega.{arith}
use lib.Arith.{digits_lt}

-- ---- a product

-- two numbers of two digits: the four products, and their weights
pub four_products : (base u v x y : ℕ) → (u * base + v) * (x * base + y) ≡ u * x * (base * base) + (u * y + v * x) * base + v * y
four_products base u v x y =
    rw (
      add-mul (u * base) v (x * base + y),
      mul-add (u * base) (x * base) y,
      mul-add v (x * base) y,
      mul-mul-mul_comm u base x base,
      mul_right_comm u base y,
      ← mul_assoc v x base,
      add-mul (u * y) (v * x) base,
    )
    (omega arith)

-- the largest product of two halves: its word has room for two halves more
abbrev pub most : ℕ
most = (2 ^ 32 - 1) * (2 ^ 32 - 1)

most_of : {u x : ℕ} → u < 2 ^ 32 → x < 2 ^ 32 → u * x ≤ most
most_of hu hx = mul-le-mul {n₂ = 2 ^ 32 - 1} {m₂ = 2 ^ 32 - 1} (omega arith) (omega arith)

-- no product of a half of a and a half of b is larger
pub record Products (a b : ℕ) : Type 0 where
  pub bottom : a % 2 ^ 32 * (b % 2 ^ 32) ≤ most
  pub middle : a / 2 ^ 32 * (b % 2 ^ 32) ≤ most
  pub cross : a % 2 ^ 32 * (b / 2 ^ 32) ≤ most
  pub top : a / 2 ^ 32 * (b / 2 ^ 32) ≤ most

pub products : {a b : ℕ} → a < 2 ^ 64 → b < 2 ^ 64 → Products a b
products ha hb =
    record {
      bottom = most_of (omega arith) (omega arith);
      middle = most_of (omega arith) (omega arith);
      cross = most_of (omega arith) (omega arith);
      top = most_of (omega arith) (omega arith);
    }

-- the four products, each carried into the next: what stands in the two words is the product
pub carried : (u v x y bottom middle cross : ℕ) → bottom ≡ v * y → middle ≡ u * y + bottom / 2 ^ 32 → cross ≡ v * x + middle % 2 ^ 32 → (u * x + middle / 2 ^ 32 + cross / 2 ^ 32) * 2 ^ 64 + (cross % 2 ^ 32 * 2 ^ 32 + bottom % 2 ^ 32) ≡ (u * 2 ^ 32 + v) * (x * 2 ^ 32 + y)
carried u v x y bottom middle cross p q r = omega (arith, four_products (2 ^ 32) u v x y)

-- ---- long division

-- the number x divided by d: the quotient q, and r is left
pub record Long (x d q r : ℕ) : Type 0 where
  pub quotient : x / d ≡ q
  pub rest : x % d ≡ r

-- one digit more: it stands behind what was left, and what that gives is the quotient's next digit
pub next : (base digit : ℕ) {x d q r : ℕ} → zero < d → Long x d q r → Long (x * base + digit) d (q * base + (r * base + digit) / d) ((r * base + digit) % d)
next base digit {x} {d} {q} {r} pos l =
    record { quotient = rw split (mul-add-div_right pos (q * base) _); rest = rw split (mul-add-mod_self_right (q * base) d _) }
  where
    whole : x ≡ q * d + r
    whole = cc (div-add-mod' x d)

    split : x * base + digit ≡ q * base * d + (r * base + digit)
    split = rw (whole, add-mul (q * d) r base, mul_right_comm q d base) (omega arith)

-- what is left, with a digit behind it, gives one digit
pub digit_fits : {base d r digit : ℕ} → zero < d → r < d → digit < base → (r * base + digit) / d < base
digit_fits {base} {d} pos hr hd = (div-lt_iff_lt-mul pos).1 (rw (mul_comm base d) (digits_lt hr hd))

-- the halves of two words, and of a two-word quotient
pub halves : (high low : ℕ) → high * 2 ^ 64 + low ≡ ((high / 2 ^ 32 * 2 ^ 32 + high % 2 ^ 32) * 2 ^ 32 + low / 2 ^ 32) * 2 ^ 32 + low % 2 ^ 32
halves high low = omega arith

pub words : (p q r s : ℕ) → (p * 2 ^ 32 + q) * 2 ^ 64 + (r * 2 ^ 32 + s) ≡ ((p * 2 ^ 32 + q) * 2 ^ 32 + r) * 2 ^ 32 + s
words p q r s = omega arith
