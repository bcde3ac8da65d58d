-- Laws of tests and of the choice between two cases. Assumes nothing.
use Rattle.std.specs.Prelude.{◌≡◌, refl, Bool, true, false, ◌&&◌, ◌||◌, ◌⊎◌, List, [], ◌∷◌, ◌++◌}
use Rattle.std.proofs.Common.{sym, inl, inr}
use Rattle.std.proofs.lemmas.Bool.{false≢true}
use Rattle.rules.specs.Common.{when◌then◌else◌, all}

pub and_left : (a b : Bool) → (a && b) ≡ true → a ≡ true
and_left true b e = refl
and_left false b e = absurd (false≢true e)

pub and_right : (a b : Bool) → (a && b) ≡ true → b ≡ true
and_right true b e = e
and_right false b e = absurd (false≢true e)

pub and_both : {a b : Bool} → a ≡ true → b ≡ true → (a && b) ≡ true
and_both p q = rw (p, q)

pub and_either : (a b : Bool) → (a && b) ≡ false → (a ≡ false) ⊎ (b ≡ false)
and_either true b e = inr e
and_either false b e = inl refl

pub or_neither : (a b : Bool) → (a || b) ≡ false → (a ≡ false) × (b ≡ false)
or_neither true b e = absurd (false≢true (sym e))
or_neither false b e = (refl, e)

-- what holds of either case holds of the choice
pub if_either : {A : Type 0} (P : A → Type 0) (b : Bool) {x y : A} → (b ≡ true → P x) → (b ≡ false → P y) → P (when b then x else y)
unfolding when◌then◌else◌
if_either P true f g = f refl
if_either P false f g = g refl

pub if_then : {A : Type 0} {b : Bool} (x y : A) → b ≡ true → (when b then x else y) ≡ x
unfolding when◌then◌else◌
if_then x y e = rw e

pub if_else : {A : Type 0} {b : Bool} (x y : A) → b ≡ false → (when b then x else y) ≡ y
unfolding when◌then◌else◌
if_else x y e = rw e

pub all_first : {A : Type 0} (test : A → Bool) (x : A) (xs : List A) → all test (x ∷ xs) ≡ true → test x ≡ true
unfolding all
all_first test x xs e = and_left (test x) (all test xs) e

pub all_others : {A : Type 0} (test : A → Bool) (x : A) (xs : List A) → all test (x ∷ xs) ≡ true → all test xs ≡ true
unfolding all
all_others test x xs e = and_right (test x) (all test xs) e

pub all_append : {A : Type 0} (test : A → Bool) (xs ys : List A) → all test xs ≡ true → all test ys ≡ true → all test (xs ++ ys) ≡ true
unfolding all
all_append test [] ys p q = q
all_append test (x ∷ xs) ys p q = and_both (and_left (test x) (all test xs) p) (all_append test xs ys (and_right (test x) (all test xs) p) q)

-- what passes one test passes another that it implies
pub all_weaken : {A : Type 0} (test other : A → Bool) → ((x : A) → test x ≡ true → other x ≡ true) → (xs : List A) → all test xs ≡ true → all other xs ≡ true
unfolding all
all_weaken test other h [] p = refl
all_weaken test other h (x ∷ xs) p =
    and_both (h x (and_left (test x) (all test xs) p)) (all_weaken test other h xs (and_right (test x) (all test xs) p))
