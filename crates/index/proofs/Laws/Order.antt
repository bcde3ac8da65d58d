-- Laws of the order of names: it is the library's order of lists of numbers, so that of two names exactly one comes first, or they are one name, and it
-- goes on from name to name. Assumes nothing.
use Rattle.std.specs.Prelude.{◌≡◌, refl, true, List, [], ◌∷◌, ℕ, ◌<◌}
use Rattle.std.proofs.Common.{sym, ap, ◌∙◌, arith}
use Rattle.std.proofs.lemmas.Bool.{false≢true}
use Rattle.std.proofs.lemmas.Bool.Decides.{nat_tests}
use Rattle.std.proofs.lemmas.Cmp.{nat_list_cmp_total, tied_itself}
use Rattle.std.proofs.lemmas.Map.Lookups.{exact_bytes}
use Rattle.std.specs.Cmp.Lexicographic.{slice_cmp}
use Rattle.std.specs.Ordering.{nat_cmp, ordering_reverse}
use borrow.Author.Tests.{lt-ltb, le-ltb}
use Rattle.rules.specs.Common.{when◌then◌else◌}
use Rattle.std.specs.declared.cmp.Ordering.{Ordering}
use Rattle.std.specs.declared.cmp.Ordering.TheVariants.{Less, Equal, Greater}
use Rattle.index.specs.TheSortedIndex.{order, is_before, before}

pub order_is : (a b : List ℕ) → slice_cmp nat_cmp a b ≡ order a b
unfolding order when◌then◌else◌
order_is [] [] = refl
order_is [] (y ∷ b) = refl
order_is (x ∷ a) [] = refl
order_is (x ∷ a) (y ∷ b) = let rest = order_is a b in grind (arith, nat_tests)

-- ---- one byte, and what is behind it

pub before_less : (a b : ℕ) (more bs : List ℕ) → a < b → before (a ∷ more) (b ∷ bs) ≡ true
unfolding before is_before order when◌then◌else◌
before_less a b more bs h = rw (lt-ltb a b h)

pub before_further : (a b : ℕ) (more bs : List ℕ) → a ≡ b → before more bs ≡ true → before (a ∷ more) (b ∷ bs) ≡ true
unfolding before order when◌then◌else◌
before_further a b more bs e rest = rw (le-ltb a b (omega arith), le-ltb b a (omega arith)) rest

-- ---- which comes first

-- with the two exchanged it is the other way round
turned : (a b : List ℕ) → order b a ≡ ordering_reverse (order a b)
turned a b = sym (order_is b a) ∙ nat_list_cmp_total.antisymm b a ∙ ap ordering_reverse (order_is a b)

pub says_before : (a b : List ℕ) → order a b ≡ Less → before a b ≡ true
unfolding before is_before
says_before a b e = rw e

pub says_same : (a b : List ℕ) → order a b ≡ Equal → a ≡ b
says_same a b e = exact_bytes a b (order_is a b ∙ e)

pub says_after : (a b : List ℕ) → order a b ≡ Greater → before b a ≡ true
says_after a b e = says_before b a (turned a b ∙ ap ordering_reverse e)

pub data Compared (a b : List ℕ) : Ordering → Type 0 where
  comes_before : before a b ≡ true → Compared a b Less
  is_same : a ≡ b → Compared a b Equal
  comes_after : before b a ≡ true → Compared a b Greater

pub compared : (a b : List ℕ) → Compared a b (order a b)
compared a b = go (order a b) refl
  where
    go : (o : Ordering) → order a b ≡ o → Compared a b o
    go Less e = comes_before (says_before a b e)
    go Equal e = is_same (says_same a b e)
    go Greater e = comes_after (says_after a b e)

-- what comes first is less
is_less : (a b : List ℕ) → before a b ≡ true → order a b ≡ Less
unfolding before is_before
is_less a b = go (order a b)
  where
    go : (o : Ordering) → is_before o ≡ true → o ≡ Less
    go Less e = refl
    go Equal e = absurd (false≢true e)
    go Greater e = absurd (false≢true e)

pub never_before : (a : List ℕ) → before a a ≡ true → ⊥
unfolding before is_before
never_before a e = false≢true (ap is_before (sym (tied_itself nat_list_cmp_total a) ∙ order_is a a) ∙ e)

pub before_trans : (a b c : List ℕ) → before a b ≡ true → before b c ≡ true → before a c ≡ true
before_trans a b c p q =
    says_before a c (sym (order_is a c) ∙ nat_list_cmp_total.trans a b c (order_is a b ∙ is_less a b p) (order_is b c ∙ is_less b c q))
