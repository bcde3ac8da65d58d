-- A match whose arms read a table: what its last arm knows of a number, and one entry for a run of numbers. Assumes nothing.
use Rattle.std.specs.Prelude.{◌≡◌, refl, Bool, true, false, ◌||◌, ℕ, zero, suc, ◌+◌, ◌-◌, ◌≤◌, ◌<◌, eqb}
use Rattle.std.proofs.Common.{arith, eqb-true}
use Rattle.rules.specs.Common.{runs}
use Rattle.rules.proofs.Laws.Lists.{runs_at}

-- after arms for 0 to n - 1: x is none of these
abbrev pub Passed : ℕ → ℕ → Type 0
Passed zero x = Unit {0}
Passed (suc n) x = Passed n x × (x ≡ n → ⊥)

pub beyond : (n : ℕ) {x : ℕ} → Passed n x → n ≤ x
beyond zero p = omega arith
beyond (suc n) p = omega (arith, beyond n p.0, p.1)

-- the rule gives the same at k and at each number of a run: one computation for the run
module _ (rule : ℕ → ℕ) (k from n : ℕ) {x : ℕ} where
  -- but for numbers that are left out
  pub alike_but : (out : ℕ → Bool) → runs (λ y. out y || eqb (rule k) (rule y)) from n ≡ true → from ≤ x → x < from + n → out x ≡ false → rule k ≡ rule x
  alike_but out e low high not_out =
      let here : from + (x - from) ≡ x = omega arith in
      eqb-true (rule k) (rule x) (rw (here, not_out) at (runs_at (λ y. out y || eqb (rule k) (rule y)) n from (x - from) e (omega arith)))

  pub alike : runs (λ y. eqb (rule k) (rule y)) from n ≡ true → from ≤ x → x < from + n → rule k ≡ rule x
  alike e low high = alike_but (λ y. false) e low high refl
