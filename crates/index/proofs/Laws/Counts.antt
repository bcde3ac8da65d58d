-- Laws of counting: tests that imply each other, and as many numbers that pass a test as there are places with different ones. Assumes nothing.
use Rattle.std.specs.Prelude.{◌≡◌, refl, Bool, true, false, not, ◌⊎◌, ltb, eqb}
use Rattle.std.proofs.Common.{sym, ap, ◌∙◌, ⊎_elim, inl, inr, arith, ltb-true, ltb-false, eqb-true, eq-eqb, ne_eqb}
use Rattle.std.proofs.lemmas.Bool.{false≢true, eqb-false}
use Prim.Native.Nat.{ℕ, zero, suc, zero-le, ◌+◌, ◌≤◌, ◌<◌}
use Rattle.rules.specs.Common.{when◌then◌else◌}
use Rattle.index.specs.TheSortedIndex.{count}

-- ---- one number more

pub count_passed : (test : ℕ → Bool) (n : ℕ) → test n ≡ true → count test (suc n) ≡ suc (count test n)
unfolding count when◌then◌else◌
count_passed test n e = rw e

pub count_failed : (test : ℕ → Bool) (n : ℕ) → test n ≡ false → count test (suc n) ≡ count test n
unfolding count when◌then◌else◌
count_failed test n e = rw e

count_grows : (test : ℕ → Bool) (n : ℕ) → count test n ≤ count test (suc n)
count_grows test n = go (test n) refl
  where
    go : (t : Bool) → test n ≡ t → count test n ≤ count test (suc n)
    go true e = omega (arith, count_passed test n e)
    go false e = omega (arith, count_failed test n e)

-- ---- one test that implies another

module _ (test other : ℕ → Bool) where
  Implied : ℕ → Type 0
  Implied n = (i : ℕ) → i < n → test i ≡ true → other i ≡ true

  -- what one number more says of both, by what the tests say of it
  both : (n : ℕ) → (test n ≡ true → other n ≡ true) → {P : Type 0}
      → (count test (suc n) ≡ suc (count test n) → count other (suc n) ≡ suc (count other n) → P)
      → (count test (suc n) ≡ count test n → count other (suc n) ≡ suc (count other n) → P)
      → (count test (suc n) ≡ count test n → count other (suc n) ≡ count other n → P)
      → P
  both n implies {P} each gains neither = go (test n) refl (other n) refl
    where
      go : (a : Bool) → test n ≡ a → (b : Bool) → other n ≡ b → P
      go true p true q = each (count_passed test n p) (count_passed other n q)
      go true p false q = absurd (false≢true (sym q ∙ implies p))
      go false p true q = gains (count_failed test n p) (count_passed other n q)
      go false p false q = neither (count_failed test n p) (count_failed other n q)

  pub count_implied : (n : ℕ) → ((i : ℕ) → i < n → test i ≡ true → other i ≡ true) → count test n ≤ count other n
  unfolding count
  count_implied zero h = zero-le
  count_implied (suc n) h =
      let fewer = count_implied n (λ i below. h i (omega arith)) in
      both n (h n (omega arith)) (λ p q. omega arith) (λ p q. omega arith) (λ p q. omega arith)

  -- and a number that only the other passes makes it more
  pub count_more : (n i : ℕ) → i < n → ((i : ℕ) → i < n → test i ≡ true → other i ≡ true) → test i ≡ false → other i ≡ true → count test n < count other n
  count_more zero i below h fails passes = absurd (omega arith)
  count_more (suc n) i below h fails passes = go (eqb i n) refl (λ smaller. count_more n i smaller (λ j less. h j (omega arith)) fails passes)
    where
      go : (t : Bool) → eqb i n ≡ t → (i < n → count test n < count other n) → count test (suc n) < count other (suc n)
      go true e rest =
          let at : i ≡ n = eqb-true i n e in
          omega (arith, count_failed test n (rw (← at) fails), count_passed other n (rw (← at) passes), count_implied n (λ j less. h j (omega arith)))
      go false e rest =
          let fewer = rest (omega (arith, eqb-false i n e)) in
          both n (h n (omega arith)) (λ p q. omega arith) (λ p q. omega arith) (λ p q. omega arith)

all_pass : (n : ℕ) → count (λ k. true) n ≡ n
unfolding count when◌then◌else◌
all_pass zero = refl
all_pass (suc n) = ap suc (all_pass n)

pub count_most : (test : ℕ → Bool) (n : ℕ) → count test n ≤ n
count_most test n = omega (arith, count_implied test (λ k. true) n (λ i below e. refl), all_pass n)

-- where a number fails, not all are counted
pub count_misses : (test : ℕ → Bool) (n i : ℕ) → i < n → test i ≡ false → count test n < n
count_misses test n i below e = omega (arith, count_more test (λ k. true) n i below (λ j less p. refl) e refl, all_pass n)

-- a test and its contrary count all
pub count_both : (test : ℕ → Bool) (n : ℕ) → count test n + count (λ k. not (test k)) n ≡ n
unfolding count
count_both test zero = refl
count_both test (suc n) = go (test n) refl (count_both test n)
  where
    go : (t : Bool) → test n ≡ t → count test n + count (λ k. not (test k)) n ≡ n → count test (suc n) + count (λ k. not (test k)) (suc n) ≡ suc n
    go true e rest = omega (arith, count_passed test n e, count_failed (λ k. not (test k)) n (ap not e))
    go false e rest = omega (arith, count_failed test n e, count_passed (λ k. not (test k)) n (ap not e))

-- ---- different numbers at so many places

-- at each of the first m places stands a number below n, and no two are the same
pub record Places (f : ℕ → ℕ) (m n : ℕ) : Type 0 where
  pub below : (k : ℕ) → k < m → f k < n
  pub apart : (j k : ℕ) → j < k → k < m → f j ≡ f k → ⊥

-- whether a number stands at one of them
pub data Stands (f : ℕ → ℕ) (v m : ℕ) : Type 0 where
  stands : (k : ℕ) → k < m → f k ≡ v → Stands f v m
  missing : ((k : ℕ) → k < m → f k ≡ v → ⊥) → Stands f v m

pub whether : (f : ℕ → ℕ) (v m : ℕ) → Stands f v m
whether f v zero = missing (λ k h e. omega arith)
whether f v (suc m) = go (eqb (f m) v) refl (whether f v m)
  where
    go : (t : Bool) → eqb (f m) v ≡ t → Stands f v m → Stands f v (suc m)
    go true e rest = stands m (omega arith) (eqb-true (f m) v e)
    go false e (stands k h at) = stands k (omega arith) at
    go false e (missing none) =
        missing (λ k h at. ⊎_elim (λ less. none k less at) (λ is. eqb-false (f m) v e (ap f (sym is) ∙ at)) (last k h))
      where
        last : (k : ℕ) → k < suc m → (k < m) ⊎ (k ≡ m)
        last k h = cases (ltb k m) refl
          where
            cases : (t : Bool) → ltb k m ≡ t → (k < m) ⊎ (k ≡ m)
            cases true e = inl (ltb-true k m e)
            cases false e = inr (omega (arith, ltb-false k m e))

-- the places but one
unfoldable pub skip : ℕ → ℕ → ℕ
skip v k = when ltb k v then k else suc k

pub skipped : (v k : ℕ) → ((k < v) × (skip v k ≡ k)) ⊎ ((v ≤ k) × (skip v k ≡ suc k))
unfolding skip when◌then◌else◌
skipped v k = go (ltb k v) refl
  where
    go : (t : Bool) → ltb k v ≡ t → ((k < v) × ((when ltb k v then k else suc k) ≡ k)) ⊎ ((v ≤ k) × ((when ltb k v then k else suc k) ≡ suc k))
    go true e = inl (ltb-true k v e, rw e)
    go false e = inr (ltb-false k v e, rw e)

pub skip_rises : (v j k : ℕ) → j < k → skip v j < skip v k
skip_rises v j k h =
    ⊎_elim (λ p. ⊎_elim (λ q. omega arith) (λ q. omega arith) (skipped v k)) (λ p. ⊎_elim (λ q. omega arith) (λ q. omega arith) (skipped v k)) (skipped v j)

pub skip_most : (v k : ℕ) → skip v k ≤ suc k
skip_most v k = ⊎_elim (λ p. omega arith) (λ p. omega arith) (skipped v k)

-- different numbers that pass a test are no more than pass it
pub at_least : (test : ℕ → Bool) (n m : ℕ) (f : ℕ → ℕ) → Places f m n → ((k : ℕ) → k < m → test (f k) ≡ true) → m ≤ count test n
at_least test zero zero f places passes = zero-le
at_least test zero (suc m) f places passes = absurd (omega (arith, places.below 0 (omega arith)))
at_least test (suc n) zero f places passes = zero-le
at_least test (suc n) (suc m) f places passes = go (at_least test n) (whether f n (suc m))
  where
    go : ((m : ℕ) (f : ℕ → ℕ) → Places f m n → ((k : ℕ) → k < m → test (f k) ≡ true) → m ≤ count test n) → Stands f n (suc m) → suc m ≤ count test (suc n)
    go fewer (missing none) =
        let most : suc m ≤ count test n = fewer (suc m) f (record { below = λ k h. omega (arith, places.below k h, none k h); apart = places.apart }) passes in
        omega (arith, count_grows test n)
    go fewer (stands at h last) =
        let most : m ≤ count test n =
        fewer m (λ k. f (skip at k))
        (record {
          below = λ k less. smaller k less;
          apart = λ j k less few. places.apart (skip at j) (skip at k) (skip_rises at j k less) (omega (arith, skip_most at k));
        })
        (λ k less. passes (skip at k) (omega (arith, skip_most at k)))
        in
        omega (arith, count_passed test n (rw (← last) (passes at h)))
      where
        other : (k : ℕ) → k < m → f (skip at k) ≡ n → ⊥
        other k less e =
            ⊎_elim (λ p. places.apart (skip at k) at (omega arith) h (e ∙ sym last)) (λ p. places.apart at (skip at k) (omega arith) (omega arith) (last ∙ sym e)) (skipped at k)

        smaller : (k : ℕ) → k < m → f (skip at k) < n
        smaller k less = omega (arith, places.below (skip at k) (omega (arith, skip_most at k)), other k less)

-- so with as many places as numbers each number stands at one
pub onto : (f : ℕ → ℕ) (n : ℕ) → Places f n n → (v : ℕ) → v < n → (k : ℕ) × (k < n) × (f k ≡ v)
onto f n places v below = go (whether f v n)
  where
    but : ℕ → Bool
    but j = not (eqb j v)

    go : Stands f v n → (k : ℕ) × (k < n) × (f k ≡ v)
    go (stands k h e) = (k, h, e)
    go (missing none) =
        absurd
        (omega (
          arith,
          at_least but n n f places (λ k h. ap not (ne_eqb (f k) v (none k h))),
          count_misses but n v below (ap not (eq-eqb v v refl)),
        ))
