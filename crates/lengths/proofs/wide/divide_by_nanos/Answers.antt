-- `lengths::wide::divide_by_nanos` meets its contract: each of the three halves after the first is a step of long division.
-- Assumes nothing.
use mathlib.Core.Path.{refl, sym, ◌∙◌}
use Prim.Native.Nat.{ℕ, ◌+◌, ◌*◌, ◌/◌, ◌%◌, ◌^◌, ◌<◌}
use native.Mathlib.Nat.{mod-lt, lt_of_lt_of_le, mul-lt-mul_of_pos_right}
use lib.Dec.{lit<, lit≤}
use lib.Arith.{digits_lt}
use borrow.Author.Rules.{rules}
use Rattle.lengths.proofs.Halves.{Long, next, digit_fits, halves, words}
use Rattle.lengths.proofs.wide.divide_by_nanos.Goals as goal
use Rattle.lengths.proofs.wide.divide_by_nanos.Goals.{After-struct_known-3-1, After-struct_known-4-1}

half : (c : After-struct_known-3-1) → c.args.n.low / 2 ^ 32 < 2 ^ 32
half c = search rules

pub overflow_add-third : goal.overflow_add-third
overflow_add-third c = record { fits = lt_of_lt_of_le (digits_lt {m = 10 ^ 9} {c = 2 ^ 32} (mod-lt _ (lit< tt)) (half c)) (lit≤ tt) }

third-digit : (c : After-struct_known-4-1) (r : ℕ) → (r % 10 ^ 9 * 2 ^ 32 + c.args.n.low / 2 ^ 32) / 10 ^ 9 < 2 ^ 32
third-digit c r = digit_fits (lit< tt) (mod-lt r (lit< tt)) (half (goal.at.overflow_mul-low c).After-struct_known-3-1)

pub overflow_mul-low : goal.overflow_mul-low
overflow_mul-low c = record { fits = mul-lt-mul_of_pos_right (third-digit c _) (lit< tt) }

pub overflow_add-low : goal.overflow_add-low
overflow_add-low c = record { fits = digits_lt {m = 2 ^ 32} {c = 2 ^ 32} (third-digit c _) (digit_fits (lit< tt) (mod-lt _ (lit< tt)) (mod-lt _ (lit< tt))) }

pub returns : goal.returns
returns c =
    let n = c.args.n in
    let pos : 0 < 10 ^ 9 = lit< tt in
    let first : Long (n.high / 2 ^ 32) (10 ^ 9) (n.high / 2 ^ 32 / 10 ^ 9) (n.high / 2 ^ 32 % 10 ^ 9) = record { quotient = refl; rest = refl } in
    let fourth = next (2 ^ 32) (n.low % 2 ^ 32) pos (next (2 ^ 32) (n.low / 2 ^ 32) pos (next (2 ^ 32) (n.high % 2 ^ 32) pos first)) in
    record {
      quotient = words _ _ _ _ ∙ sym (rw (halves n.high n.low) fourth.quotient);
      remainder = sym (rw (halves n.high n.low) fourth.rest);
    }
