-- Laws of a check row by row: what one that passes says of each row, and tests that agree. Assumes nothing.
use Rattle.std.specs.Prelude.{◌≡◌, refl, Bool, true, false, ℕ, zero, suc, ◌+◌, ◌<◌}
use Rattle.std.proofs.Common.{add-zero, zero-add, suc-add, add-suc, le_of_suc-le-suc, arith}
use Rattle.rules.specs.declared.Refusal.{Refusal}
use Rattle.rules.specs.Common.{when◌then◌else◌}
use Rattle.rules.specs.NumbersHandedBack.{Outcome, got, refused}
use Rattle.rules.specs.SettingsAndUnitTable.{rows_check}
use Rattle.rules.proofs.Laws.Outcomes.{not_got}

chosen : (bad : Refusal) (test : Bool) (more : Outcome (Unit {0})) → (when test then more else refused bad) ≡ got tt → (test ≡ true) × (more ≡ got tt)
unfolding when◌then◌else◌
chosen bad true more e = (refl, e)
chosen bad false more e = absurd (not_got bad e)

good_from : (test : ℕ → Bool) (bad : ℕ → Refusal) (n i k : ℕ) → rows_check test bad i n ≡ got tt → k < n → test (i + k) ≡ true
unfolding rows_check
good_from test bad zero i k e below = absurd (omega arith)
good_from test bad (suc n) i zero e below = rw add-zero (chosen (bad i) (test i) (rows_check test bad (suc i) n) e).0
good_from test bad (suc n) i (suc k) e below =
    rw (add-suc i k, ← (suc-add i k))
    (good_from test bad n (suc i) k (chosen (bad i) (test i) (rows_check test bad (suc i) n) e).1 (le_of_suc-le-suc below))

pub rows_good : (test : ℕ → Bool) (bad : ℕ → Refusal) (n k : ℕ) → rows_check test bad 0 n ≡ got tt → k < n → test k ≡ true
rows_good test bad n k e below = rw zero-add at (good_from test bad n 0 k e below)

all_from : (test : ℕ → Bool) (bad : ℕ → Refusal) (n i : ℕ) → ((k : ℕ) → k < n → test (i + k) ≡ true) → rows_check test bad i n ≡ got tt
unfolding rows_check when◌then◌else◌
all_from test bad zero i each = refl
all_from test bad (suc n) i each =
    let here : test i ≡ true = rw (← (add-zero i)) (each 0 (omega arith)) in
    rw (here, all_from test bad n (suc i) (λ k below. rw (suc-add i k, ← (add-suc i k)) (each (suc k) (omega arith))))

pub rows_all : (test : ℕ → Bool) (bad : ℕ → Refusal) (n : ℕ) → ((k : ℕ) → k < n → test k ≡ true) → rows_check test bad 0 n ≡ got tt
rows_all test bad n each = all_from test bad n 0 (λ k below. rw zero-add (each k below))

-- tests that agree at each of the rows come to the same
alike_from : (f g : ℕ → Bool) (bad : ℕ → Refusal) (n i : ℕ) → ((k : ℕ) → k < i + n → f k ≡ g k) → rows_check f bad i n ≡ rows_check g bad i n
unfolding rows_check
alike_from f g bad zero i same = refl
alike_from f g bad (suc n) i same = rw (same i (omega arith), alike_from f g bad n (suc i) (λ k below. same k (omega arith)))

pub rows_alike : (f g : ℕ → Bool) (bad : ℕ → Refusal) (n : ℕ) → ((k : ℕ) → k < n → f k ≡ g k) → rows_check f bad 0 n ≡ rows_check g bad 0 n
rows_alike f g bad n same = alike_from f g bad n 0 (λ k below. same k (omega arith))
