-- Laws of the bytes that stand between digits: letters and their kinds, marks, and which kinds may come. Assumes nothing.
use Rattle.std.specs.Prelude.{◌≡◌, refl, Bool, true, false, ◌&&◌, [], ◌∷◌, ℕ, zero, suc, ◌≤◌, ◌<◌, leb, ltb, eqb}
use Rattle.std.proofs.Common.{sym, arith, eqb-true, ne_eqb, leb-true, le-leb, ltb-true, lt-ltb, le-ltb}
use Rattle.std.proofs.lemmas.Bool.{false≢true, lt-leb}
use Rattle.rules.specs.Common.{when◌then◌else◌, between}
use Rattle.rules.specs.SettingsAndUnitTable.{DIGIT, is, class}
use Rattle.rules.proofs.Laws.Choices.{and_left, and_right, and_both, if_either}
use Rattle.rules.proofs.Laws.Tests.{and_false, between_from, between_to, between_in}
use Rattle.iso.specs.IsoTimings.{SECONDS, DAYS, WEEKS, ANY, is_mark, letters, letter, clock_mark, kind_of, may_come}

-- a kind that has a letter
abbrev pub Kind : ℕ → Type 0
Kind kind = (SECONDS ≤ kind) × (kind ≤ WEEKS)

-- how a kind's letter is read
pub record Letter (kind : ℕ) : Type 0 where
  pub no_digit : is DIGIT (letter kind) ≡ false
  pub no_mark : is_mark (letter kind) ≡ false
  pub back : kind_of (letter kind) ≡ kind

pub letter_of : (kind : ℕ) → Kind kind → Letter kind
unfolding letter letters is class between is_mark kind_of when◌then◌else◌
letter_of zero h = absurd (omega arith)
letter_of (suc zero) h = absurd (omega arith)
letter_of (suc (suc zero)) h = absurd (omega arith)
letter_of (suc (suc (suc zero))) h = record { no_digit = refl; no_mark = refl; back = refl }
letter_of (suc (suc (suc (suc zero)))) h = record { no_digit = refl; no_mark = refl; back = refl }
letter_of (suc (suc (suc (suc (suc zero))))) h = record { no_digit = refl; no_mark = refl; back = refl }
letter_of (suc (suc (suc (suc (suc (suc zero)))))) h = record { no_digit = refl; no_mark = refl; back = refl }
letter_of (suc (suc (suc (suc (suc (suc (suc zero))))))) h = record { no_digit = refl; no_mark = refl; back = refl }
letter_of (suc (suc (suc (suc (suc (suc (suc (suc kind)))))))) h = absurd (omega arith)

-- a byte that has a kind is the letter of it
pub letter_back : (b : ℕ) → SECONDS ≤ kind_of b → letter (kind_of b) ≡ b
unfolding letter letters kind_of
letter_back b =
    let P : ℕ → Type 0 = λ kind. SECONDS ≤ kind → letter kind ≡ b in
    if_either P (eqb b 83) (λ e _. sym (eqb-true b 83 e)) λ _.
    if_either P (eqb b 77) (λ e _. sym (eqb-true b 77 e)) λ _.
    if_either P (eqb b 72) (λ e _. sym (eqb-true b 72 e)) λ _.
    if_either P (eqb b 68) (λ e _. sym (eqb-true b 68 e)) λ _.
    if_either P (eqb b 87) (λ e _. sym (eqb-true b 87 e)) λ _ h. absurd (omega arith)

-- a byte that passes a test is none that does not
pub other_byte : (test : ℕ → Bool) (a b : ℕ) → test a ≡ true → test b ≡ false → eqb a b ≡ false
other_byte test a b p q = ne_eqb a b (λ e. false≢true (cc))

pub digit_not_clock : (b : ℕ) → is DIGIT b ≡ true → eqb b 84 ≡ false
unfolding is class between when◌then◌else◌
digit_not_clock b h = other_byte (is DIGIT) b 84 h refl

pub mark_not_digit : (b : ℕ) → is_mark b ≡ true → is DIGIT b ≡ false
unfolding is_mark is class between when◌then◌else◌
mark_not_digit b h = go (eqb b 46) refl
  where
    go : (t : Bool) → eqb b 46 ≡ t → is DIGIT b ≡ false
    go true e = rw (eqb-true b 46 e)
    go false e = rw (eqb-true b 44 (rw e at h))

-- ---- which kinds may come

-- before `T`, weeks and days
pub may_come_date : (kind : ℕ) → DAYS ≤ kind → kind ≤ WEEKS → may_come ANY kind ≡ true
unfolding may_come when◌then◌else◌
may_come_date kind l h = between_in DAYS WEEKS kind l h

-- after it, those below the last
pub may_come_below : (k kind : ℕ) → SECONDS ≤ kind → kind < k → k < ANY → may_come k kind ≡ true
unfolding may_come when◌then◌else◌
may_come_below k kind l h a = rw (lt-leb ANY k a) (and_both (le-leb SECONDS kind l) (lt-ltb kind k h))

-- a kind that may come, before `T` and after it
pub came_date : (kind : ℕ) → may_come ANY kind ≡ true → (DAYS ≤ kind) × (kind ≤ WEEKS)
unfolding may_come when◌then◌else◌
came_date kind h = (between_from DAYS WEEKS kind h, between_to DAYS WEEKS kind h)

pub came_below : (k kind : ℕ) → k < ANY → may_come k kind ≡ true → (SECONDS ≤ kind) × (kind < k)
unfolding may_come when◌then◌else◌
came_below k kind a h =
    let p : (leb SECONDS kind && ltb kind k) ≡ true = rw (lt-leb ANY k a) at h in
    (leb-true SECONDS kind (and_left (leb SECONDS kind) (ltb kind k) p), ltb-true kind k (and_right (leb SECONDS kind) (ltb kind k) p))

pub came_kind : (k kind : ℕ) → may_come k kind ≡ true → SECONDS ≤ kind
unfolding may_come
came_kind k kind =
    if_either
    (λ t. t ≡ true → SECONDS ≤ kind)
    (leb ANY k)
    (λ _ h. let l : DAYS ≤ kind = between_from DAYS WEEKS kind h in omega arith)
    (λ _ h. leb-true SECONDS kind (and_left (leb SECONDS kind) (ltb kind k) h))

-- ---- where `T` stands

pub clock_first : (k kind : ℕ) → DAYS ≤ k → kind < DAYS → clock_mark k kind ≡ (84 ∷ [])
unfolding clock_mark when◌then◌else◌
clock_first k kind l h = rw (le-leb DAYS k l, lt-ltb kind DAYS h)

pub clock_later : (k kind : ℕ) → k < DAYS → clock_mark k kind ≡ []
unfolding clock_mark when◌then◌else◌
clock_later k kind h = rw (lt-leb DAYS k h)

pub clock_never : (k kind : ℕ) → DAYS ≤ kind → clock_mark k kind ≡ []
unfolding clock_mark when◌then◌else◌
clock_never k kind h = rw (le-ltb kind DAYS h, and_false)
