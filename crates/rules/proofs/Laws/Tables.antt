-- A table's rule, proved at all of its entries by one computation: the table is what the rule lists. Assumes nothing.
use Rattle.std.specs.Prelude.{◌≡◌, List, [], ◌∷◌, ℕ, zero, suc, ◌+◌, ◌<◌, get_or}
use Rattle.std.proofs.Common.{ap, ◌∙◌, add-zero, zero-add, add-suc, suc-add, le_of_suc-le-suc, not-suc-le-zero}

-- what the rule gives at i, i + 1, .., n entries in all
unfoldable pub listed : (ℕ → ℕ) → ℕ → ℕ → List ℕ
listed rule i zero = []
listed rule i (suc n) = rule i ∷ listed rule (suc i) n

listed_from : (rule : ℕ → ℕ) (n i k : ℕ) → k < n → get_or (listed rule i n) k 0 ≡ rule (i + k)
unfolding listed
listed_from rule zero i k h = absurd (not-suc-le-zero h)
listed_from rule (suc n) i zero h = rw add-zero
listed_from rule (suc n) i (suc k) h = rw (add-suc, ← (suc-add i k)) (listed_from rule n (suc i) k (le_of_suc-le-suc h))

-- the entry at k, of a table of n entries that the rule lists
pub entry : (rule : ℕ → ℕ) (n : ℕ) (table : List ℕ) → table ≡ listed rule 0 n → (k : ℕ) → k < n → get_or table k 0 ≡ rule k
entry rule n table e k h = ap (λ l. get_or l k 0) e ∙ listed_from rule n 0 k h ∙ ap rule (zero-add k)
