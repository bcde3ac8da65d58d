-- What a search asks of a table and the index beside it, and which search is made. Assumes nothing.
use Rattle.std.specs.Prelude.{◌≡◌, List, [], ◌∷◌, ◌⊎◌, ℕ, length}
use Rattle.std.proofs.Common.{refl, inl, inr, arith}
use Rattle.std.proofs.Math.Logic.{∥∥₁_elim, ∥∥₁_map}
use Rattle.std.proofs.Math.Bool.{Bool-set}
use Rattle.std.proofs.Math.Nat.{ℕ_set}
use Rattle.rows.specs.Named.{Padded}
use Rattle.index.specs.declared.Searched.{Searched}
use Rattle.index.specs.TheSortedIndex.{row_search, index_search}
use Rattle.index.specs.Laws.Right.{Right}

-- the index beside a table: empty, or right
abbrev pub Beside : List ℕ → List ℕ → Type 0
Beside table index = (length index ≡ 0) ⊎ Right table index

-- what is searched: rows with zeros after their names
pub record Searchable (table index : List ℕ) : Type 0 where
  pub rooms : Padded table
  pub beside : Beside table index

-- an empty index means the old search
unfoldable pub searched : List ℕ → List ℕ → List ℕ → Searched
searched table [] wanted = row_search table wanted
searched table (k ∷ index) wanted = index_search table (k ∷ index) wanted

-- that there is a proof of it gives one: whether the index is empty decides which, and the rest are equations
module _ {table index : List ℕ} (it : ∥ Searchable table index ∥₁) where
  searched_right : (length index ≡ 0 → ⊥) → Right table index
  searched_right some = record {
    long = ∥∥₁_elim it (ℕ_set _ _) (λ s. (of s.beside).long);
    each = λ k below. ∥∥₁_elim it (Bool-set _ _) (λ s. (of s.beside).each k below);
  }
    where
      of : Beside table index → Right table index
      of (inl none) = absurd (some none)
      of (inr right) = right

searchable_held : (table index : List ℕ) → ∥ Searchable table index ∥₁ → Searchable table index
searchable_held table index it = record { rooms = λ i below. ∥∥₁_elim it (Bool-set _ _) (λ s. s.rooms i below); beside = beside index it }
  where
    beside : (index : List ℕ) → ∥ Searchable table index ∥₁ → Beside table index
    beside [] it = inl refl
    beside (k ∷ more) it = inr (searched_right it (λ e. omega (arith, e)))

-- both tables with their indexes
pub both_searchable :
    {hall hall_index line line_index : List ℕ} → ∥ Searchable hall hall_index × Searchable line line_index ∥₁
    → Searchable hall hall_index × Searchable line line_index
both_searchable both = (searchable_held _ _ (∥∥₁_map both (λ b. b.0)), searchable_held _ _ (∥∥₁_map both (λ b. b.1)))
