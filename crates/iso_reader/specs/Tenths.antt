-- What digits behind a mark are worth, of a unit, rounded down once: digit by digit from the last. Assumes nothing.
use Rattle.std.specs.Prelude.{◌≡◌, true, List, [], ◌∷◌, ◌++◌, ℕ, ◌+◌, ◌*◌, ◌-◌, ◌/◌, ◌^◌, ◌≤◌, ◌<◌, length}
use Rattle.std.proofs.Common.{append-nil, append_assoc, sym, ap, ◌∙◌, add-mul, mul_assoc, mul_comm, zero-add, zero-mul, div-lt_iff_lt-mul, mul-lt-mul_of_pos_right, mul-le-mul_right, arith, lit<}
use Rattle.std.proofs.Math.Nat.{one-le-pow, pow-succ', div-div-eq-div-mul}
use Rattle.rules.specs.Common.{all}
use Rattle.rules.specs.SettingsAndUnitTable.{DIGIT, is}
use Rattle.rules.specs.Evaluation.{spelled}
use Rattle.rules.proofs.Laws.Choices.{and_right, all_first, all_others}
use Rattle.rules.proofs.Laws.Lists.{all_both}
use Rattle.value.specs.Digits.{spelled_from, spelled_below, digit_high}
use Rattle.iso.proofs.Laws.Worth.{whole_out}

unfoldable pub tenths : ℕ → List ℕ → ℕ
tenths unit ds = spelled 0 ds * unit / 10 ^ length ds

pub tenths_none : (unit : ℕ) → tenths unit [] ≡ 0
unfolding tenths spelled
tenths_none unit = omega arith

-- a tenth of the first digit's units and of what stands behind it
pub tenths_more : (unit d : ℕ) (ds : List ℕ) → tenths unit (d ∷ ds) ≡ ((d - 48) * unit + tenths unit ds) / 10
unfolding tenths spelled
tenths_more unit d ds =
    rw (zero-mul 10, zero-add (d - 48), spelled_from (d - 48) ds, pow-succ' 10 n, mul_comm 10 (10 ^ n), ← div-div-eq-div-mul ((e * 10 ^ n + y) * unit) (10 ^ n) 10)
    (ap (λ x. x / 10) (ap (λ x. x / 10 ^ n) moved ∙ whole_out (e * unit) (y * unit) n))
  where
    n : ℕ
    n = length ds

    e : ℕ
    e = d - 48

    y : ℕ
    y = spelled 0 ds

    moved : (e * 10 ^ n + y) * unit ≡ e * unit * 10 ^ n + y * unit
    moved = add-mul (e * 10 ^ n) y unit ∙ ap (λ x. x + y * unit) (mul_assoc e (10 ^ n) unit ∙ ap (λ x. e * x) (mul_comm (10 ^ n) unit) ∙ sym (mul_assoc e unit (10 ^ n)))

-- less than a unit
pub tenths_below : (unit : ℕ) (ds : List ℕ) → 0 < unit → all (is DIGIT) ds ≡ true → tenths unit ds < unit
unfolding tenths
tenths_below unit ds some h = (div-lt_iff_lt-mul (one-le-pow (length ds) 10 (lit< tt))).1 (rw (mul_comm unit (10 ^ length ds)) (mul-lt-mul_of_pos_right digits some))
  where
    digits : spelled 0 ds < 10 ^ length ds
    digits = rw (zero-add (length ds)) at (spelled_below 0 0 ds h (lit< tt))

-- ---- digits from the last to the first

-- those that are left and those that are done are all of them, and so much is what those done are worth
pub record Behind (ds : List ℕ) (unit : ℕ) (rest : List ℕ) (behind : ℕ) : Type 0 where
  pub done : List ℕ
  pub all_of_them : ds ≡ rest ++ done
  pub worth : behind ≡ tenths unit done

pub behind_none : (ds : List ℕ) (unit : ℕ) → Behind ds unit ds 0
behind_none ds unit = record { done = []; all_of_them = sym (append-nil ds); worth = sym (tenths_none unit) }

pub behind_done : (ds : List ℕ) (unit : ℕ) (rest : List ℕ) (behind : ℕ) → Behind ds unit rest behind → length rest ≡ 0 → behind ≡ tenths unit ds
behind_done ds unit [] behind b h = b.worth ∙ ap (tenths unit) (sym b.all_of_them)
behind_done ds unit (x ∷ rest) behind b h = absurd (omega (arith, h))

module _ (ds : List ℕ) (unit : ℕ) (rest : List ℕ) (behind d : ℕ) (b : Behind ds unit (rest ++ (d ∷ [])) behind) where
  at_the_end : ds ≡ rest ++ (d ∷ b.done)
  at_the_end = b.all_of_them ∙ append_assoc rest (d ∷ []) b.done

  pub behind_more : Behind ds unit rest (((d - 48) * unit + behind) / 10)
  behind_more = record {
    done = d ∷ b.done;
    all_of_them = at_the_end;
    worth = ap (λ x. ((d - 48) * unit + x) / 10) b.worth ∙ sym (tenths_more unit d b.done);
  }

  module _ (digits : all (is DIGIT) ds ≡ true) where
    passes : all (is DIGIT) (d ∷ b.done) ≡ true
    passes = and_right (all (is DIGIT) rest) (all (is DIGIT) (d ∷ b.done)) (sym (all_both (is DIGIT) rest (d ∷ b.done)) ∙ rw at_the_end at digits)

    pub behind_digit : is DIGIT d ≡ true
    behind_digit = all_first (is DIGIT) d b.done passes

    -- fits a word
    pub behind_fits : 0 < unit → unit ≤ 604800 * 10 ^ 9 → (d - 48) * unit + behind < 2 ^ 64
    behind_fits some h =
        let digit : d - 48 ≤ 9 = omega (arith, digit_high d behind_digit) in
        let below : behind < unit = rw b.worth (tenths_below unit b.done some (all_others (is DIGIT) d b.done passes)) in
        omega (arith, mul-le-mul_right unit digit, below)
