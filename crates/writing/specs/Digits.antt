-- Laws of decimal digits: without leading zeros, without trailing zeros, and put into a buffer one by one. Assumes nothing.
use Rattle.std.specs.Prelude.{◌≡◌, refl, Bool, true, false, List, [], ◌∷◌, ◌++◌, ◌⊎◌, leb, eqb, length, set}
use Rattle.std.proofs.Math.Path.{sym, ap}
use Rattle.std.proofs.Common.{ap₂, ◌∙◌, append_assoc, inl, inr, ⊎_elim, zero-add, mul_comm, div-one, div-lt_iff_lt-mul, le-div_iff_mul-le, mod-eq_of_lt, lt_of_lt_of_le, le_of_suc-le-suc, not-suc-le-zero, ne_eqb, leb-true, leb-false, lit<, pow-add, length-append, length-take, length-drop, take-append-drop}
use Prim.Native.Nat.{ℕ, zero, suc, ◌+◌, ◌*◌, ◌-◌, ◌/◌, ◌%◌, ◌^◌, ◌≤◌, ◌<◌}
use Rattle.std.proofs.Math.Nat.{add-zero, sub-zero, div-eq_of_lt, div-div-eq-div-mul, one-le-pow, pow-le-pow_right, pow-succ'}
use native.Mathlib.Omega.{arith}
use Rattle.std.proofs.Math.ListN.{take, drop}
use Rattle.rules.specs.Common.{when◌then◌else◌}
use Rattle.rules.proofs.Laws.Choices.{if_either}
use Rattle.rules.specs.WriterAndShiftTotal.{decimals, no_leading_zeros, before_zeros, no_trailing_zeros, whole_digits}
use Rattle.writing.specs.Laid.{laid}

pub ten_pos : (k : ℕ) → 0 < 10 ^ k
ten_pos k = one-le-pow k 10 (lit< tt)

pub ten_more : (n x : ℕ) → x / 10 / 10 ^ n ≡ x / 10 ^ suc n
ten_more n x = div-div-eq-div-mul x 10 (10 ^ n) ∙ ap (λ p. x / p) (sym (pow-succ' 10 n))

next_ten : (n x : ℕ) → x / 10 ^ n / 10 ≡ x / 10 ^ suc n
next_ten n x = div-div-eq-div-mul x (10 ^ n) 10 ∙ ap (λ p. x / p) (mul_comm (10 ^ n) 10 ∙ sym (pow-succ' 10 n))

pub decimals_length : (n x : ℕ) → length (decimals n x) ≡ n
unfolding decimals
decimals_length zero x = refl
decimals_length (suc n) x = ap suc (decimals_length n x)

-- the last digit, and those before it
pub decimals_last : (n x : ℕ) → decimals (suc n) x ≡ decimals n (x / 10) ++ (48 + x % 10) ∷ []
unfolding decimals
decimals_last zero x = ap (λ d. (48 + d % 10) ∷ []) (div-one x)
decimals_last (suc n) x = ap₂ (λ d rest. (48 + d % 10) ∷ rest) (sym (ten_more n x)) (decimals_last n x)

-- ---- without leading zeros

leading_zero : (n x : ℕ) → x < 10 ^ suc n → no_leading_zeros (decimals (suc (suc n)) x) ≡ no_leading_zeros (decimals (suc n) x)
unfolding no_leading_zeros decimals when◌then◌else◌
leading_zero n x h = rw (div-eq_of_lt h)

-- more digits than a number has are zeros in front
stripped : (k n x : ℕ) → x < 10 ^ suc n → no_leading_zeros (decimals (k + suc n) x) ≡ no_leading_zeros (decimals (suc n) x)
stripped zero n x h = ap (λ m. no_leading_zeros (decimals m x)) (zero-add (suc n))
stripped (suc k) n x h =
    let count : suc k + suc n ≡ suc (suc (k + n)) = omega arith in
    let fewer : suc (k + n) ≡ k + suc n = omega arith in
    ap (λ m. no_leading_zeros (decimals m x)) count
    ∙ leading_zero (k + n) x (lt_of_lt_of_le h (pow-le-pow_right (lit< tt) (omega arith)))
    ∙ ap (λ m. no_leading_zeros (decimals m x)) fewer
    ∙ stripped k n x h

-- a number has so many digits: one, or the first is none of zero
abbrev pub Leads : ℕ → ℕ → Type 0
Leads x n = (n ≡ 1) ⊎ (10 ^ (n - 1) ≤ x)

-- and it has no more
abbrev pub Digits : ℕ → ℕ → Type 0
Digits x n = (1 ≤ n) × (x < 10 ^ n) × Leads x n

kept : (n x : ℕ) → x < 10 ^ suc n → Leads x (suc n) → no_leading_zeros (decimals (suc n) x) ≡ decimals (suc n) x
unfolding no_leading_zeros decimals when◌then◌else◌
kept zero x h l = refl
kept (suc n) x h l = rw (ne_eqb (48 + x / 10 ^ suc n % 10) 48 (first l))
  where
    place : suc (suc n) - 1 ≡ suc n
    place = omega arith

    some : Leads x (suc (suc n)) → 0 < x / 10 ^ suc n
    some l = ⊎_elim (λ e. absurd (omega arith)) (λ k. (le-div_iff_mul-le (ten_pos (suc n))).1 (omega (arith, rw place at k))) l

    below : x / 10 ^ suc n < 10
    below = (div-lt_iff_lt-mul (ten_pos (suc n))).1 (rw (pow-succ' 10 (suc n)) at h)

    first : Leads x (suc (suc n)) → 48 + x / 10 ^ suc n % 10 ≡ 48 → ⊥
    first l e = omega (arith, some l, mod-eq_of_lt below)

pub leads_most : (n x : ℕ) → x < 2 ^ 64 → Leads x n → n ≤ 20
leads_most n x h l = ⊎_elim (λ e. omega arith) (λ k. few k) l
  where
    few : 10 ^ (n - 1) ≤ x → n ≤ 20
    few k = go (leb n 20) refl
      where
        go : (b : Bool) → leb n 20 ≡ b → n ≤ 20
        go true e = leb-true n 20 e
        go false e =
            absurd
            (omega (arith, k, pow-le-pow_right {n = 10} (lit< tt) {i = 20} {j = n - 1} (omega (arith, leb-false n 20 e)), h))

-- a number is counted in pieces: of all but so many digits something is left, unless none were counted
abbrev pub Counted : ℕ → ℕ → ℕ → Type 0
Counted x count rest = (rest ≡ x / 10 ^ count) × ((count ≡ 0) ⊎ (0 < rest))

pub counted_on : (x count rest n : ℕ) → Counted x count rest → Digits rest n → Digits x (count + n)
counted_on x count rest n c d = (omega (arith, d.0), below, ⊎_elim one many d.2)
  where
    powers : (k : ℕ) → 10 ^ (count + k) ≡ 10 ^ k * 10 ^ count
    powers k = pow-add 10 count k ∙ mul_comm (10 ^ count) (10 ^ k)

    below : x < 10 ^ (count + n)
    below = rw (powers n) ((div-lt_iff_lt-mul (ten_pos count)).0 (rw c.0 at d.1))

    leads : (k : ℕ) → 10 ^ k ≤ rest → count + n - 1 ≡ count + k → Leads x (count + n)
    leads k h e = inr (rw (e, powers k) ((le-div_iff_mul-le (ten_pos count)).0 (rw c.0 at h)))

    one : n ≡ 1 → Leads x (count + n)
    one e = ⊎_elim (λ none. inl (omega arith)) (λ some. leads 0 some (omega arith)) c.1

    many : 10 ^ (n - 1) ≤ rest → Leads x (count + n)
    many h = leads (n - 1) h (omega (arith, d.0))

pub counted_none : (x : ℕ) → Counted x 0 x
counted_none x = (sym (div-one x), inl refl)

-- four digits more, where more than four are left
pub counted_four : (x count rest : ℕ) → Counted x count rest → 10000 ≤ rest → Counted x (count + 4) (rest / 10000)
counted_four x count rest c h =
    (rw c.0 (div-div-eq-div-mul x (10 ^ count) 10000 ∙ ap (λ p. x / p) (sym (pow-add 10 count 4))), inr (omega arith))

pub counted_most : (x count rest : ℕ) → x < 2 ^ 64 → Counted x count rest → 0 < rest → count < 20
counted_most x count rest h c some =
    let back : count + 1 - 1 ≡ count = omega arith in
    let some_left : 10 ^ count ≤ x = omega (arith, (le-div_iff_mul-le (ten_pos count)).0 (rw c.0 at some)) in
    omega (arith, leads_most (count + 1) x h (inr (rw back some_left)))

pub whole_is : (x n : ℕ) → x < 2 ^ 64 → Digits x n → whole_digits x ≡ decimals n x
unfolding whole_digits
whole_is x zero h d = absurd (omega (arith, d.0))
whole_is x (suc n) h d =
    let few : suc n ≤ 20 = leads_most (suc n) x h d.2 in
    let count : 20 ≡ 20 - suc n + suc n = omega arith in
    ap (λ m. no_leading_zeros (decimals m x)) count ∙ stripped (20 - suc n) n x d.1 ∙ kept n x d.1 d.2

-- no digit comes of dropping zeros, and the last one stays
leading_fewer : (digits : List ℕ) → length (no_leading_zeros digits) ≤ length digits
unfolding no_leading_zeros
leading_fewer [] = omega arith
leading_fewer (d ∷ []) = omega arith
leading_fewer (d ∷ e ∷ digits) =
    if_either (λ l. length l ≤ suc (suc (length digits))) (eqb d 48) {x = no_leading_zeros (e ∷ digits)} {y = d ∷ e ∷ digits} (λ _. omega (arith, leading_fewer (e ∷ digits))) (λ _. omega arith)

leading_some : (d : ℕ) (digits : List ℕ) → 0 < length (no_leading_zeros (d ∷ digits))
unfolding no_leading_zeros
leading_some d [] = omega arith
leading_some d (e ∷ digits) = if_either (λ l. 0 < length l) (eqb d 48) {x = no_leading_zeros (e ∷ digits)} {y = d ∷ e ∷ digits} (λ _. leading_some e digits) (λ _. omega arith)

pub whole_some : (x : ℕ) → 0 < length (whole_digits x)
unfolding whole_digits decimals
whole_some x = leading_some _ _

-- a number below a power of ten has no more digits than that
pub whole_few : (k x : ℕ) → k < 20 → x < 10 ^ suc k → length (whole_digits x) ≤ suc k
unfolding whole_digits
whole_few k x few h =
    let count : 20 ≡ 19 - k + suc k = omega arith in
    let shorter : whole_digits x ≡ no_leading_zeros (decimals (suc k) x) = ap (λ m. no_leading_zeros (decimals m x)) count ∙ stripped (19 - k) k x h in
    omega (arith, ap length shorter, leading_fewer (decimals (suc k) x), decimals_length (suc k) x)

-- ---- without trailing zeros

trailing_zero : (digits : List ℕ) → no_trailing_zeros (digits ++ 48 ∷ []) ≡ no_trailing_zeros digits
unfolding no_trailing_zeros before_zeros when◌then◌else◌
trailing_zero [] = refl
trailing_zero (d ∷ digits) = rw (trailing_zero digits)

trailing_digit : (digits : List ℕ) (e : ℕ) → (e ≡ 48 → ⊥) → no_trailing_zeros (digits ++ e ∷ []) ≡ digits ++ e ∷ []
unfolding no_trailing_zeros before_zeros when◌then◌else◌
trailing_digit [] e h = rw (ne_eqb e 48 h)
trailing_digit (d ∷ digits) e h = rw (trailing_digit digits e h) (go digits)
  where
    go : (ds : List ℕ) → before_zeros d (ds ++ e ∷ []) ≡ d ∷ ds ++ e ∷ []
    go [] = refl
    go (x ∷ ds) = refl

-- of so many digits of a number: a last one that is none of zero stays with all before it, and a zero goes
module _ (n x : ℕ) (some : 0 < n) where
  one_more : n ≡ suc (n - 1)
  one_more = omega arith

  pub trailing_kept : (x % 10 ≡ 0 → ⊥) → no_trailing_zeros (decimals n x) ≡ decimals n x
  trailing_kept h = rw (one_more, decimals_last (n - 1) x) (trailing_digit (decimals (n - 1) (x / 10)) (48 + x % 10) (λ e. h (omega arith)))

  pub trailing_dropped : x % 10 ≡ 0 → no_trailing_zeros (decimals n x) ≡ no_trailing_zeros (decimals (n - 1) (x / 10))
  trailing_dropped h = ap (λ m. no_trailing_zeros (decimals m x)) one_more ∙ rw (decimals_last (n - 1) x, h) (trailing_zero (decimals (n - 1) (x / 10)))

-- three zeros at once
pub three_dropped : (n x : ℕ) → x % 1000 ≡ 0 → no_trailing_zeros (decimals (n + 3) x) ≡ no_trailing_zeros (decimals n (x / 1000))
three_dropped n x h =
    one 2 x (omega arith)
    ∙ one 1 (x / 10) (omega arith)
    ∙ one 0 (x / 10 / 10) (omega arith)
    ∙ ap₂ (λ k y. no_trailing_zeros (decimals k y)) (add-zero n) (omega arith)
  where
    one : (k y : ℕ) → y % 10 ≡ 0 → no_trailing_zeros (decimals (n + (k + 1)) y) ≡ no_trailing_zeros (decimals (n + k) (y / 10))
    one k y last =
        trailing_dropped (n + (k + 1)) y (omega arith) last ∙ ap (λ j. no_trailing_zeros (decimals j (y / 10))) (omega arith)

pub trailing_none : (n x : ℕ) → n ≤ 0 → no_trailing_zeros (decimals n x) ≡ decimals n x
unfolding no_trailing_zeros decimals
trailing_none n x h = let none : n ≡ 0 = omega arith in rw none

-- ---- put into a buffer

-- what is put before the rest of a buffer that is kept up to there
pub placed : (b : List ℕ) (i d : ℕ) (tail : List ℕ) → i < length b → set (take (suc i) b ++ tail) i d ≡ take i b ++ d ∷ tail
placed [] i d tail h = absurd (not-suc-le-zero h)
placed (x ∷ b) zero d tail h = refl
placed (x ∷ b) (suc i) d tail h = ap (λ l. x ∷ l) (placed b i d tail (le_of_suc-le-suc h))

-- the digits from the last to the first: so many are left, and the rest of the number is that of the digits put
pub record Put (before : List ℕ) (place count number : ℕ) (now : List ℕ) (left rest : ℕ) : Type 0 where
  pub holds : now ≡ take (place + left) before ++ (decimals (count - left) number ++ drop (place + count) before)
  pub number_left : rest ≡ number / 10 ^ (count - left)
  pub few : left ≤ count

pub put_none : (before : List ℕ) (place count number : ℕ) → Put before place count number before count number
unfolding decimals
put_none before place count number =
    let none : count - count ≡ 0 = omega arith in
    record {
      holds = rw none (sym (take-append-drop (place + count) before));
      number_left = rw none (sym (div-one number));
      few = omega arith;
    }

module _ {before now : List ℕ} {place count number left rest : ℕ} (p : Put before place count number now left rest) where
  pub put_length : place + count ≤ length before → length now ≡ length before
  put_length h = ap length p.holds ∙ simp (length-append, length-take, length-drop, decimals_length) (omega (arith, p.few))

  pub put_more : 0 < left → place + count ≤ length before → Put before place count number (set now (place + (left - 1)) (48 + rest % 10)) (left - 1) (rest / 10)
  unfolding decimals
  put_more some h =
      let one_more : place + left ≡ suc (place + (left - 1)) = omega arith in
      let more : count - (left - 1) ≡ suc (count - left) = omega (arith, p.few) in
      record {
        holds =
            rw (p.holds, one_more, more, p.number_left)
            (placed before (place + (left - 1)) (48 + number / 10 ^ (count - left) % 10) _ (omega (arith, p.few)));
        number_left = rw (p.number_left, more) (next_ten (count - left) number);
        few = omega (arith, p.few);
      }

  pub put_all : left ≤ 0 → now ≡ laid before place (decimals count number)
  unfolding laid
  put_all h =
      let none : left ≡ 0 = omega arith in
      (rw (none, add-zero place, sub-zero count) at p.holds)
      ∙ sym (append_assoc (take place before) (decimals count number) (drop (place + count) before))
      ∙ ap (λ n. take place before ++ decimals count number ++ drop (place + n) before) (sym (decimals_length count number))
