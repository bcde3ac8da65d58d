-- Laws of tests. Assumes nothing.
use Rattle.std.specs.Prelude.{◌≡◌, refl, Bool, true, false, ◌&&◌, ◌||◌, ℕ, ◌≤◌, ◌<◌, eqb, leb}
use Rattle.std.proofs.Common.{sym, eq-eqb, eqb-true, leb-true, le-leb}
use Rattle.std.proofs.lemmas.Bool.{lt-leb}
use Rattle.rules.specs.Common.{between}
use Rattle.rules.proofs.Laws.Choices.{and_left, and_right}

pub and_assoc : (a b c : Bool) → ((a && b) && c) ≡ (a && (b && c))
and_assoc true b c = refl
and_assoc false b c = refl

pub or_assoc : (a b c : Bool) → ((a || b) || c) ≡ (a || (b || c))
or_assoc true b c = refl
or_assoc false b c = refl

pub and_true : (a : Bool) → (a && true) ≡ a
and_true true = refl
and_true false = refl

pub and_false : (a : Bool) → (a && false) ≡ false
and_false true = refl
and_false false = refl

pub or_true : (a : Bool) → (a || true) ≡ true
or_true true = refl
or_true false = refl

pub or_false : (a : Bool) → (a || false) ≡ a
or_false true = refl
or_false false = refl

-- two tests are one if either passes where the other does
pub same_test : (a b : Bool) → (a ≡ true → b ≡ true) → (b ≡ true → a ≡ true) → a ≡ b
same_test true true f g = refl
same_test true false f g = sym (f refl)
same_test false true f g = g refl
same_test false false f g = refl

pub eqb_iff : (a b c d : ℕ) → (a ≡ b → c ≡ d) → (c ≡ d → a ≡ b) → eqb a b ≡ eqb c d
eqb_iff a b c d f g =
    same_test (eqb a b) (eqb c d) (λ e. eq-eqb c d (f (eqb-true a b e))) (λ e. eq-eqb a b (g (eqb-true c d e)))

pub eqb_sym : (a b : ℕ) → eqb a b ≡ eqb b a
eqb_sym a b = eqb_iff a b b a sym sym

pub between_from : (low high b : ℕ) → between low high b ≡ true → low ≤ b
unfolding between
between_from low high b e = leb-true low b (and_left (leb low b) (leb b high) e)

pub between_to : (low high b : ℕ) → between low high b ≡ true → b ≤ high
unfolding between
between_to low high b e = leb-true b high (and_right (leb low b) (leb b high) e)

pub between_in : (low high b : ℕ) → low ≤ b → b ≤ high → between low high b ≡ true
unfolding between
between_in low high b l h = rw (le-leb low b l, le-leb b high h)

pub between_below : (low high b : ℕ) → b < low → between low high b ≡ false
unfolding between
between_below low high b h = rw (lt-leb low b h)

pub between_above : (low high b : ℕ) → high < b → between low high b ≡ false
unfolding between
between_above low high b h = rw (lt-leb b high h, and_false)
