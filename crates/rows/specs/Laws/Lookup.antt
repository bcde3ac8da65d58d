-- Laws of equal names and of lookup. Assumes nothing.
use Rattle.std.specs.Prelude.{◌≡◌, Bool, true, false, ◌&&◌, List, [], ◌∷◌, ◌⊎◌, eqb, length, get_or, drop, Option, Some, None}
use Rattle.std.proofs.Math.Path.{refl}
use Rattle.std.proofs.Common.{sym, ap, ◌∙◌, ⊎_elim, inl, inr, drop_of_length-le, drop-cons, eq-eqb, eqb-true}
use Rattle.std.proofs.lemmas.Bool.{false≢true, eqb-false}
use Prim.Native.Nat.{ℕ, zero, suc, ◌+◌, ◌-◌, ◌≤◌, ◌<◌}
use Rattle.std.proofs.Math.Nat.{sub-zero}
use Rattle.std.proofs.Math.Numerals.{add-one}
use native.Mathlib.Omega.{arith}
use Rattle.rules.specs.Common.{when◌then◌else◌, same}
use Rattle.rules.specs.SettingsAndUnitTable.{row_size, rows, row, name, named, named_in, lookup_from, lookup_from_in, lookup, lookup_in, line_first, stands, held_row, find_row}
use Rattle.rules.proofs.Laws.Choices.{if_either, and_left, and_right, or_neither}
use Rattle.rows.specs.Named.{found_row, row_named}
use Rattle.rows.specs.Laws.Rows.{length_row}

pub same_refl : (a : List ℕ) → same a a ≡ true
unfolding same
same_refl [] = refl
same_refl (x ∷ a) = rw (eq-eqb x x refl, same_refl a)

pub same_equal : (a b : List ℕ) → same a b ≡ true → a ≡ b
unfolding same
same_equal [] [] e = refl
same_equal [] (y ∷ b) e = absurd (false≢true e)
same_equal (x ∷ a) [] e = absurd (false≢true e)
same_equal (x ∷ a) (y ∷ b) e =
    let here : x ≡ y = eqb-true x y (and_left (eqb x y) (same a b) e) in
    let rest : a ≡ b = same_equal a b (and_right (eqb x y) (same a b) e) in
    cc

pub not_same : (a b : List ℕ) → (a ≡ b → ⊥) → same a b ≡ false
not_same a b h = go (same a b) refl
  where
    go : (t : Bool) → same a b ≡ t → t ≡ false
    go true e = absurd (h (same_equal a b e))
    go false e = refl

-- from place i on: the bytes at i, and those after them
pub same_from : (a b : List ℕ) (i : ℕ) → i < length a → i < length b → same (drop i a) (drop i b) ≡ (eqb (get_or a i 0) (get_or b i 0) && same (drop (i + 1) a) (drop (i + 1) b))
unfolding same
same_from a b i ha hb = rw (add-one, drop-cons a i 0 ha, drop-cons b i 0 hb)

pub same_done : (a b : List ℕ) (i : ℕ) → length a ≤ i → length b ≤ i → same (drop i a) (drop i b) ≡ true
same_done a b i ha hb = rw (drop_of_length-le a ha, drop_of_length-le b hb) (same_refl [])

-- ---- lookup row by row: what the rows from i on give

unfoldable pub rest_of_lookup : List ℕ → List ℕ → ℕ → Option ℕ
rest_of_lookup table wanted i = lookup_from table wanted i (rows table - i)

module _ (table wanted : List ℕ) where
  pub lookup_start : rest_of_lookup table wanted 0 ≡ lookup table wanted
  unfolding lookup_in rest_of_lookup
  lookup_start = rw sub-zero

  pub lookup_here : (i : ℕ) → i < rows table → same (name (row table i)) wanted ≡ true → rest_of_lookup table wanted i ≡ Some i
  unfolding rest_of_lookup lookup_from_in when◌then◌else◌
  lookup_here i h e =
      let counted : rows table - i ≡ suc (rows table - (i + 1)) = omega arith in
      rw (counted, e)

  pub lookup_next : (i : ℕ) → i < rows table → same (name (row table i)) wanted ≡ false → rest_of_lookup table wanted i ≡ rest_of_lookup table wanted (i + 1)
  unfolding rest_of_lookup lookup_from_in when◌then◌else◌
  lookup_next i h e =
      let counted : rows table - i ≡ suc (rows table - (i + 1)) = omega arith in
      rw (counted, e, add-one i)

-- names of other sizes differ
pub other_size : (a b : List ℕ) → (length a ≡ length b → ⊥) → same a b ≡ false
other_size a b h = not_same a b (λ e. h (ap length e))

-- ---- what is found

-- what the rows from i on give
data Looked (table wanted : List ℕ) (i n : ℕ) : Option ℕ → Type 0 where
  found : {k : ℕ} → i ≤ k → k < i + n → name (row table k) ≡ wanted → Looked table wanted i n (Some k)
  nowhere : ((k : ℕ) → i ≤ k → k < i + n → name (row table k) ≡ wanted → ⊥) → Looked table wanted i n None

looked : (table wanted : List ℕ) (n i : ℕ) → Looked table wanted i n (lookup_from table wanted i n)
unfolding lookup_from_in
looked table wanted zero i = nowhere (λ k from to e. omega arith)
looked table wanted (suc n) i =
    if_either (Looked table wanted i (suc n)) (same (name (row table i)) wanted)
    (λ e. found {k = i} (omega arith) (omega arith) (same_equal (name (row table i)) wanted e))
    (λ e. later e (looked table wanted n (suc i)))
  where
    later : same (name (row table i)) wanted ≡ false → {f : Option ℕ} → Looked table wanted (suc i) n f → Looked table wanted i (suc n) f
    later other (found {k = k} from to e) = found {k = k} (omega arith) (omega arith) e
    later other (nowhere none) = nowhere (λ k from to e. go k (eqb i k) refl from to e)
      where
        go : (k : ℕ) (t : Bool) → eqb i k ≡ t → i ≤ k → k < i + suc n → name (row table k) ≡ wanted → ⊥
        go k true p from to e =
            false≢true (sym other ∙ rw (eqb-true i k p, e) (same_refl wanted))
        go k false p from to e = none k (omega (arith, eqb-false i k p)) (omega arith) e

found_in : {table wanted : List ℕ} {i n k : ℕ} → Looked table wanted i n (Some k) → (k < i + n) × (name (row table k) ≡ wanted)
found_in (found from to e) = (to, e)

found_nowhere : {table wanted : List ℕ} {i n : ℕ} → Looked table wanted i n None → (k : ℕ) → i ≤ k → k < i + n → name (row table k) ≡ wanted → ⊥
found_nowhere (nowhere none) = none

module _ (table wanted : List ℕ) where
  looked_all : Looked table wanted 0 (rows table) (lookup table wanted)
  unfolding lookup_in
  looked_all = looked table wanted (rows table) 0

  -- a row that is found lies in the table and has the name
  pub lookup_found : (i : ℕ) → lookup table wanted ≡ Some i → (i < rows table) × (name (row table i) ≡ wanted)
  lookup_found i e =
      let at_row = found_in (rw e at looked_all) in
      (omega (arith, at_row.0), at_row.1)

  -- and if none is found, none has it
  pub lookup_nowhere : lookup table wanted ≡ None → (i : ℕ) → i < rows table → name (row table i) ≡ wanted → ⊥
  lookup_nowhere e i below = found_nowhere (rw e at looked_all) i (omega arith) (omega arith)

-- a lookup goes past rows that have other names
pub past : (table wanted : List ℕ) (n : ℕ) → n ≤ rows table → named table wanted n ≡ false → lookup table wanted ≡ rest_of_lookup table wanted n
unfolding named_in
past table wanted zero most none = sym (lookup_start table wanted)
past table wanted (suc n) most none =
    let (other, others) = or_neither (same (name (row table n)) wanted) (named table wanted n) none in
    past table wanted n (omega arith) others ∙ lookup_next table wanted n (omega arith) other ∙ ap (rest_of_lookup table wanted) (add-one n)

-- a name that no row has is nowhere
pub unnamed : (table wanted : List ℕ) → ((i : ℕ) → i < rows table → name (row table i) ≡ wanted → ⊥) → lookup table wanted ≡ None
unnamed table wanted none = go (lookup table wanted) refl
  where
    go : (f : Option ℕ) → lookup table wanted ≡ f → f ≡ None
    go (Some k) e = let at_row = lookup_found table wanted k e in absurd (none k at_row.0 at_row.1)
    go None e = refl

-- ---- over two tables

module _ (hall line wanted : List ℕ) where
  -- a row of the line's that has the name is found
  pub line_wins : {i : ℕ} → lookup line wanted ≡ Some i → row line i ≡ find_row hall line wanted
  unfolding find_row held_row stands line_first
  line_wins e = rw e

  -- else the hall's
  pub hall_behind : lookup line wanted ≡ None → row_named hall wanted ≡ find_row hall line wanted
  unfolding row_named found_row find_row held_row stands line_first
  hall_behind e = rw e (go (lookup hall wanted))
    where
      go : (f : Option ℕ) → found_row hall f ≡ held_row hall line (line_first None f)
      go (Some i) = refl
      go None = refl

-- what holds of each row of both tables holds of the row that is found, unless none is
pub found_holds :
    (P : List ℕ → Type 0) (hall line wanted : List ℕ)
    → ((i : ℕ) → i < rows hall → P (row hall i))
    → ((i : ℕ) → i < rows line → P (row line i))
    → (find_row hall line wanted ≡ []) ⊎ P (find_row hall line wanted)
unfolding find_row held_row stands line_first
found_holds P hall line wanted halls lines = go (lookup line wanted) refl (lookup hall wanted) refl
  where
    go :
        (f : Option ℕ) → lookup line wanted ≡ f → (g : Option ℕ) → lookup hall wanted ≡ g
        → (held_row hall line (line_first f g) ≡ []) ⊎ P (held_row hall line (line_first f g))
    go (Some i) at g behind = inr (lines i (lookup_found line wanted i at).0)
    go None at (Some i) behind = inr (halls i (lookup_found hall wanted i behind).0)
    go None at None behind = inl refl

-- and what is found is whole
pub found_whole : (hall line wanted : List ℕ) → (length (find_row hall line wanted) ≡ 0 → ⊥) → length (find_row hall line wanted) ≡ row_size
found_whole hall line wanted some =
    ⊎_elim (λ none. absurd (some (ap length none))) (λ whole. whole) (found_holds (λ r. length r ≡ row_size) hall line wanted (length_row hall) (length_row line))
