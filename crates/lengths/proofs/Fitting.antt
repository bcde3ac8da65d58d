-- Laws of what fits one word: a product that is tested by a division. Assumes nothing.
use Prim.Native.Nat.{ℕ, zero, ◌*◌, ◌-◌, ◌/◌, ◌^◌, ◌≤◌, ◌<◌}
use native.Mathlib.Nat.{lt_of_le_of_lt, le_of_lt, mul_comm, mul-le-mul, le-div_iff_mul-le, div-lt_iff_lt-mul}
use native.Mathlib.Omega.{arith}
use lib.Dec.{lit<}

-- x times c fits exactly if x is at most the quotient of the largest word by c
pub fits : (c x : ℕ) → zero < c → x ≤ (2 ^ 64 - 1) / c → c * x < 2 ^ 64
fits c x pos h = omega (arith, (le-div_iff_mul-le pos).0 h, mul_comm c x)

pub passes : (c x : ℕ) → zero < c → (2 ^ 64 - 1) / c < x → 2 ^ 64 ≤ c * x
passes c x pos h = omega (arith, (div-lt_iff_lt-mul pos).0 h, mul_comm c x)

-- a word times less than a second in attoseconds is below 2^64 seconds
pub seconds_fit : {c a : ℕ} → c < 2 ^ 64 → a < 10 ^ 18 → c * a < 2 ^ 64 * 10 ^ 18
seconds_fit hc ha = lt_of_le_of_lt (mul-le-mul {n₂ = 2 ^ 64} {m₂ = 10 ^ 18 - 1} (le_of_lt hc) (omega arith)) (lit< tt)
