-- What components are worth, from the first on: whole numbers add up, and only what stands behind a mark has anything to round.
-- Assumes nothing.
use Rattle.std.specs.Prelude.{◌≡◌, refl, List, [], ◌∷◌, ◌++◌, ◌⊎◌, ℕ, ◌+◌, ◌*◌, ◌/◌, ◌^◌, length, drop}
use Rattle.std.proofs.Common.{subst, sym, ap, ◌∙◌, append-nil, ⊎_elim, add-zero, add_comm, add-mul, mul_assoc, mul_comm, mul-one, div-one, zero-mul}
use Rattle.std.proofs.Math.Nat.{add-mul-div_right, max-zero, zero-max, sub-zero, sub_self, pow-zero}
use Rattle.rules.specs.ThePartOfTheCrateWeTake.{nanoseconds_per_second}
use Rattle.rules.specs.Evaluation.{spelled}
use Rattle.value.specs.Digits.{ten_pos, spelled_append, spelled_from}
use Rattle.iso.specs.IsoTimings.{Component, decimals, most_decimals, seconds_of, exact, nanoseconds_of}
use Rattle.iso.specs.Laws.Worth.{whole_worth, fraction_worth}

-- what is whole comes out of a division
pub whole_out : (a b n : ℕ) → (a * 10 ^ n + b) / 10 ^ n ≡ a + b / 10 ^ n
whole_out a b n = ap (λ x. x / 10 ^ n) (add_comm (a * 10 ^ n) b) ∙ add-mul-div_right b a (ten_pos n) ∙ add_comm (b / 10 ^ n) a

pub worth_none : nanoseconds_of [] ≡ 0
unfolding nanoseconds_of exact most_decimals
worth_none = refl

abbrev Apart : Component → List Component → Type 0
Apart c cs = nanoseconds_of (c ∷ cs) ≡ whole_worth c + fraction_worth c + nanoseconds_of cs

-- so many in the decimals of all
moved_up : (w n u e : ℕ) → (w * 10 ^ n * u + e) * nanoseconds_per_second / 10 ^ n ≡ w * u * nanoseconds_per_second + e * nanoseconds_per_second / 10 ^ n
moved_up w n u e = ap (λ x. x / 10 ^ n) (add-mul (w * 10 ^ n * u) e nanoseconds_per_second ∙ ap (λ x. x + e * nanoseconds_per_second) swapped) ∙ whole_out (w * u * nanoseconds_per_second) (e * nanoseconds_per_second) n
  where
    swapped : w * 10 ^ n * u * nanoseconds_per_second ≡ w * u * nanoseconds_per_second * 10 ^ n
    swapped = rw (mul_assoc w (10 ^ n) u, mul_comm (10 ^ n) u, ← mul_assoc w u (10 ^ n), mul_assoc (w * u) (10 ^ n) nanoseconds_per_second, mul_comm (10 ^ n) nanoseconds_per_second, ← mul_assoc (w * u) nanoseconds_per_second (10 ^ n))

no_fraction : (c : Component) (cs : List Component) → c.fraction ≡ [] → Apart c cs
unfolding nanoseconds_of exact most_decimals decimals whole_worth fraction_worth spelled
no_fraction c cs e = subst (λ n. exact n (c ∷ cs) * nanoseconds_per_second / 10 ^ n ≡ whole_worth c + fraction_worth c + nanoseconds_of cs) (sym most) whole
  where
    most : most_decimals (c ∷ cs) ≡ most_decimals cs
    most = rw e (zero-max (most_decimals cs))

    whole : exact (most_decimals cs) (c ∷ cs) * nanoseconds_per_second / 10 ^ most_decimals cs ≡ whole_worth c + fraction_worth c + nanoseconds_of cs
    whole = rw (e, append-nil c.whole, sub-zero, zero-mul, div-one, add-zero) (moved_up (spelled 0 c.whole) (most_decimals cs) (seconds_of c.kind) (exact (most_decimals cs) cs))

alone : (c : Component) → nanoseconds_of (c ∷ []) ≡ whole_worth c + fraction_worth c
unfolding nanoseconds_of exact most_decimals decimals whole_worth fraction_worth
alone c =
    rw (max-zero d, sub_self d, pow-zero 10, mul-one, both, add-zero, add-mul (w * 10 ^ d) f u) (moved_up w d u (f * u) ∙ ap (λ x. w * u * nanoseconds_per_second + x / 10 ^ d) (mul_assoc f u nanoseconds_per_second))
  where
    w : ℕ
    w = spelled 0 c.whole

    f : ℕ
    f = spelled 0 (drop 1 c.fraction)

    d : ℕ
    d = length (drop 1 c.fraction)

    u : ℕ
    u = seconds_of c.kind

    both : spelled 0 (c.whole ++ drop 1 c.fraction) ≡ w * 10 ^ d + f
    both = spelled_append 0 c.whole (drop 1 c.fraction) ∙ spelled_from w (drop 1 c.fraction)

last : (c : Component) (cs : List Component) → cs ≡ [] → Apart c cs
last c cs e = rw (e, worth_none, add-zero) (alone c)

pub worth_first : (c : Component) (cs : List Component) → (c.fraction ≡ []) ⊎ (cs ≡ []) → nanoseconds_of (c ∷ cs) ≡ whole_worth c + fraction_worth c + nanoseconds_of cs
worth_first c cs either = ⊎_elim (no_fraction c cs) (last c cs) either
