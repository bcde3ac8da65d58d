-- What is known of a stand once bytes have led to it: what may still come, whether a number just ended, whether `T` has come. Every such
-- stand can be completed. Assumes nothing.
use Rattle.std.specs.Prelude.{◌≡◌, ◌⊎◌, Bool, not, ◌&&◌, ◌||◌, ℕ, suc, ◌≤◌, ◌<◌}
use Rattle.std.proofs.Math.Path.{refl, sym}
use Rattle.std.proofs.Common.{ap, ◌∙◌, inl, inr, ⊎_elim, arith}
use Rattle.std.proofs.Math.Bool.{true, false}
use Rattle.std.proofs.lemmas.Bool.{false≢true}
use mathlib.Core.List.{List, [], ◌∷◌, ◌++◌}
use Rattle.std.proofs.Math.Dec.{leb, ltb, eqb}
use borrow.Author.Tests.{eqb-true, eqb-false, leb-true, leb-false, lt-leb, lt-ltb, ne_eqb}
use Rattle.rules.specs.declared.Refusal.TheVariants.{NotIso, YearOrMonth}
use Rattle.rules.specs.Common.{when◌then◌else◌, between}
use Rattle.rules.specs.SettingsAndUnitTable.{DIGIT, is, class}
use Rattle.rules.specs.NumbersHandedBack.{Outcome, got, refused, ◌>>=◌}
use Rattle.rules.proofs.Laws.Choices.{if_either, and_left, and_right}
use Rattle.rules.proofs.Laws.Tests.{and_true, and_false, between_from}
use Rattle.iso.specs.IsoTimings.{SECONDS, DAYS, WEEKS, ANY, Component, Stand, start, date, wanted, whole, mark, fraction, unit, closed, Move, none, is_mark, closes, on, kind_of, may_come, year_or_month, digit_step, after_letter, letter_step, step, may_end, read_from}

-- ---- what a step keeps

-- a number may end here
unfoldable pub numbered : Stand → Bool
numbered (whole k ds) = true
numbered (fraction k ds fs) = true
numbered start = false
numbered date = false
numbered (wanted k) = false
numbered (mark k ds m) = false
numbered (unit k) = false
numbered closed = false

-- not `T`
unfoldable pub untimed : ℕ → Bool
untimed b = not (eqb b 84)

-- a kind remains below k, and k is ANY as long as no `T` has come (`dated`)
unfoldable pub Sane : Stand → Bool → Type 0
Sane start dated = dated ≡ true
Sane date dated = dated ≡ true
Sane (wanted k) dated = (SECONDS < k) × (leb ANY k ≡ dated)
Sane (whole k ds) dated = (SECONDS < k) × (leb ANY k ≡ dated)
Sane (mark k ds m) dated = (SECONDS < k) × (leb ANY k ≡ dated)
Sane (fraction k ds fs) dated = (SECONDS < k) × (leb ANY k ≡ dated)
Sane (unit k) dated = (SECONDS < k) × (leb DAYS k ≡ false → dated ≡ false)
Sane closed dated = Unit {0}

-- what comes of the byte b at a place, in a stand: one that is sane again, in which a number may end if b is a digit; a refusal there; or
-- the refusal of years and months, after a number before `T`
pub data Stepped (s : Stand) (dated : Bool) (place b : ℕ) : Outcome Move → Type 0 where
  moves : {m : Move} → Sane m.stand (dated && untimed b) → numbered m.stand ≡ is DIGIT b → Stepped s dated place b (got m)
  stops : Stepped s dated place b (refused (NotIso place))
  stops_at_year_or_month : numbered s ≡ true → dated ≡ true → (b ≡ 89) ⊎ (b ≡ 77) → Stepped s dated place b (refused (YearOrMonth place))

-- a byte that passes a test that `T` does not pass is not `T`
same_dated : (test : ℕ → Bool) → test 84 ≡ false → (dated : Bool) (b : ℕ) → test b ≡ true → dated ≡ (dated && untimed b)
unfolding untimed
same_dated test t dated b e =
    let other : eqb b 84 ≡ false = ne_eqb b 84 (λ z. false≢true (sym t ∙ ap test (sym z) ∙ e)) in
    rw (other, and_true)

module _ (s : Stand) (dated : Bool) (place b k : ℕ) where
  digit_dated : is DIGIT b ≡ true → leb ANY k ≡ dated → leb ANY k ≡ (dated && untimed b)
  unfolding is class between when◌then◌else◌
  digit_dated e h = h ∙ same_dated (is DIGIT) refl dated b e

  digit_stepped : SECONDS < k → leb ANY k ≡ dated → Stepped s dated place b (digit_step k place b)
  unfolding digit_step on Sane numbered
  digit_stepped low h = if_either (Stepped s dated place b) (is DIGIT b) (λ e. moves (low, digit_dated e h) (sym e)) (λ e. stops)

-- the kind of a letter that may come is in its order, and is of a date before `T` alone
kind_from : (k kind : ℕ) → may_come k kind ≡ true → (SECONDS ≤ kind) × (leb DAYS kind ≡ false → leb ANY k ≡ false)
unfolding may_come when◌then◌else◌
kind_from k kind = go (leb ANY k) refl
  where
    go : (c : Bool) → leb ANY k ≡ c → (when c then between DAYS WEEKS kind else leb SECONDS kind && ltb kind k) ≡ true → (SECONDS ≤ kind) × (leb DAYS kind ≡ false → leb ANY k ≡ false)
    go true e h =
        let from : DAYS ≤ kind = between_from DAYS WEEKS kind h in
        (omega arith, λ z. absurd (omega (arith, leb-false DAYS kind z)))
    go false e h = (leb-true SECONDS kind (and_left (leb SECONDS kind) (ltb kind k) h), λ z. e)

or_false_left : (a b : Bool) → (a || b) ≡ false → a ≡ false
or_false_left false b e = refl
or_false_left true b e = e

pub or_false_right : (a b : Bool) → (a || b) ≡ false → b ≡ false
or_false_right false b e = e
or_false_right true b e = absurd (false≢true (sym e))

not_seconds : (c : Component) → closes c ≡ false → c.kind ≡ SECONDS → ⊥
unfolding closes
not_seconds c e =
    eqb-false c.kind SECONDS
    (or_false_right (eqb c.kind WEEKS) (eqb c.kind SECONDS) (or_false_left (eqb c.kind WEEKS || eqb c.kind SECONDS) (not (none c.fraction)) e))

year_or_month_is : (b : ℕ) → (eqb b 89 || eqb b 77) ≡ true → (b ≡ 89) ⊎ (b ≡ 77)
year_or_month_is b = go (eqb b 89) refl
  where
    go : (c : Bool) → eqb b 89 ≡ c → (c || eqb b 77) ≡ true → (b ≡ 89) ⊎ (b ≡ 77)
    go true e h = inl (eqb-true b 89 e)
    go false e h = inr (eqb-true b 77 h)

module _ (s : Stand) (dated : Bool) (place b k : ℕ) (low : SECONDS < k) (known : leb ANY k ≡ dated) where
  after_sane : (c : Component) → may_come k c.kind ≡ true → Sane (after_letter c) (dated && untimed b)
  unfolding after_letter Sane
  after_sane c e =
      if_either (λ s. Sane s (dated && untimed b)) (closes c) (λ z. tt)
      (λ z. (omega (arith, (kind_from k c.kind e).0, not_seconds c z), λ y. rw (← known, (kind_from k c.kind e).1 y)))

  after_unnumbered : (c : Component) → numbered (after_letter c) ≡ false
  unfolding after_letter numbered
  after_unnumbered c = if_either (λ s. numbered s ≡ false) (closes c) (λ z. refl) (λ z. refl)

  letter_stepped : numbered s ≡ true → is DIGIT b ≡ false → (ds fs : List ℕ) → Stepped s dated place b (letter_step k ds fs place b)
  unfolding letter_step year_or_month
  letter_stepped here off ds fs =
      let c : Component = record { whole = ds; fraction = fs; kind = kind_of b } in
      if_either (Stepped s dated place b) (may_come k (kind_of b)) (λ e. moves (after_sane c e) (after_unnumbered c ∙ sym off))
      (λ e. if_either (Stepped s dated place b) (leb ANY k && (eqb b 89 || eqb b 77))
      (λ y. stops_at_year_or_month here (sym known ∙ and_left (leb ANY k) (eqb b 89 || eqb b 77) y) (year_or_month_is b (and_right (leb ANY k) (eqb b 89 || eqb b 77) y)))
      (λ y. stops))

-- a byte of a known number that is no digit
digit_of : (b n : ℕ) → eqb b n ≡ true → is DIGIT n ≡ false → false ≡ is DIGIT b
digit_of b n e h = rw (eqb-true b n e) (sym h)

-- `T` leads to a digit, and to a kind below days
clock_stepped : (s : Stand) (dated : Bool) (place b : ℕ) {other : Outcome Move} → Stepped s dated place b other → Stepped s dated place b (when eqb b 84 then on (wanted DAYS) else other)
unfolding Sane on numbered is class between when◌then◌else◌ untimed
clock_stepped s dated place b h =
    if_either (Stepped s dated place b) (eqb b 84)
    (λ e. moves (omega arith, rw (e, and_false)) (digit_of b 84 e refl))
    (λ e. h)

-- what comes of each byte in each stand
pub stepped : (s : Stand) (dated : Bool) → Sane s dated → (place b : ℕ) → Stepped s dated place b (step s place b)
unfolding step Sane on numbered is_mark is class between when◌then◌else◌
stepped start dated h place b =
    if_either (Stepped start dated place b) (eqb b 80)
    (λ e. moves (sym (same_dated (λ c. eqb c 80) refl dated b e) ∙ h) (digit_of b 80 e refl))
    (λ e. stops)
stepped date dated h place b = clock_stepped date dated place b (digit_stepped date dated place b ANY (omega arith) (sym h))
stepped (wanted k) dated h place b = digit_stepped (wanted k) dated place b k h.0 h.1
stepped (whole k ds) dated h place b =
    if_either (Stepped (whole k ds) dated place b) (is DIGIT b)
    (λ e. moves (h.0, digit_dated (whole k ds) dated place b k e h.1) (sym e))
    (λ d. if_either (Stepped (whole k ds) dated place b) (is_mark b)
    (λ e. moves (h.0, h.1 ∙ same_dated is_mark refl dated b e) (sym d))
    (λ e. letter_stepped (whole k ds) dated place b k h.0 h.1 refl d ds []))
stepped (mark k ds m) dated h place b =
    if_either (Stepped (mark k ds m) dated place b) (is DIGIT b)
    (λ e. moves (h.0, digit_dated (mark k ds m) dated place b k e h.1) (sym e))
    (λ e. stops)
stepped (fraction k ds fs) dated h place b =
    if_either (Stepped (fraction k ds fs) dated place b) (is DIGIT b)
    (λ e. moves (h.0, digit_dated (fraction k ds fs) dated place b k e h.1) (sym e))
    (λ d. letter_stepped (fraction k ds fs) dated place b k h.0 h.1 refl d ds fs)
stepped (unit k) dated h place b =
    if_either (Stepped (unit k) dated place b) (leb DAYS k)
    (λ e. clock_stepped (unit k) dated place b stops)
    (λ e. digit_stepped (unit k) dated place b k h.0 (lt-leb ANY k (omega (arith, leb-false DAYS k e)) ∙ sym (h.1 e)))
stepped closed dated h place b = stops

-- a test that passes for `Y` and for `M` passes
of_year_or_month : (P : ℕ → Type 0) → P 89 → P 77 → (b : ℕ) → (b ≡ 89) ⊎ (b ≡ 77) → P b
of_year_or_month P year month b e = ⊎_elim (λ z. rw z year) (λ z. rw z month) e

-- where a number may end before `T`, `Y` and `M` are refused as years and months
pub year_or_month_step : (s : Stand) → Sane s true → numbered s ≡ true → (place b : ℕ) → (b ≡ 89) ⊎ (b ≡ 77) → step s place b ≡ refused (YearOrMonth place)
unfolding Sane numbered step is_mark letter_step may_come kind_of year_or_month is class between when◌then◌else◌
year_or_month_step (whole k ds) h n place b e = of_year_or_month (λ b. step (whole k ds) place b ≡ refused (YearOrMonth place)) (rw h.1) (rw h.1) b e
year_or_month_step (fraction k ds fs) h n place b e = of_year_or_month (λ b. step (fraction k ds fs) place b ≡ refused (YearOrMonth place)) (rw h.1) (rw h.1) b e
year_or_month_step start h n place b e = absurd (false≢true n)
year_or_month_step date h n place b e = absurd (false≢true n)
year_or_month_step (wanted k) h n place b e = absurd (false≢true n)
year_or_month_step (mark k ds m) h n place b e = absurd (false≢true n)
year_or_month_step (unit k) h n place b e = absurd (false≢true n)
year_or_month_step closed h n place b e = absurd (false≢true n)

-- ---- every stand can be completed

-- a letter that may come below k
unfoldable pub some_letter : ℕ → ℕ
some_letter k = when leb ANY k then 68 else 83

unfoldable pub completion : Stand → List ℕ
completion start = 80 ∷ 48 ∷ 68 ∷ []
completion date = 48 ∷ 68 ∷ []
completion (wanted k) = 48 ∷ some_letter k ∷ []
completion (whole k ds) = some_letter k ∷ []
completion (mark k ds m) = 48 ∷ some_letter k ∷ []
completion (fraction k ds fs) = some_letter k ∷ []
completion (unit k) = []
completion closed = []

-- the rest of a text is read
abbrev pub ReadsFrom : Stand → ℕ → List ℕ → Type 0
ReadsFrom s place rest = (cs : List Component) × (read_from s place rest ≡ got cs)

-- a byte that makes a move, and after which the rest is read
pub one_more : (s : Stand) (place b : ℕ) (rest : List ℕ) {m : Move} → step s place b ≡ got m → ReadsFrom m.stand (suc place) rest → ReadsFrom s place (b ∷ rest)
unfolding read_from ◌>>=◌
one_more s place b rest {m} e r = (m.made ++ r.0, rw (e, r.1))

may_end_after : (c : Component) → may_end (after_letter c) ≡ true
unfolding after_letter may_end
may_end_after c = if_either (λ s. may_end s ≡ true) (closes c) (λ z. refl) (λ z. refl)

ended : (s : Stand) (place : ℕ) → may_end s ≡ true → ReadsFrom s place []
unfolding read_from when◌then◌else◌
ended s place e = ([], rw e)

module _ (place k : ℕ) (ds fs : List ℕ) (low : SECONDS < k) where
  made_by : ℕ → Component
  made_by b = record { whole = ds; fraction = fs; kind = kind_of b }

  some_letter_comes : may_come k (kind_of (some_letter k)) ≡ true
  unfolding may_come kind_of some_letter between when◌then◌else◌
  some_letter_comes = go (leb ANY k) refl
    where
      go : (c : Bool) → leb ANY k ≡ c → (when c then between DAYS WEEKS (kind_of (when c then 68 else 83)) else (leb SECONDS (kind_of (when c then 68 else 83)) && ltb (kind_of (when c then 68 else 83)) k)) ≡ true
      go true e = refl
      go false e = lt-ltb SECONDS k low

  letter_moves : letter_step k ds fs place (some_letter k) ≡ got (record { made = made_by (some_letter k) ∷ []; stand = after_letter (made_by (some_letter k)) })
  unfolding letter_step when◌then◌else◌ made_by
  letter_moves = rw some_letter_comes

  -- read to the end by a letter, in a stand that takes it
  letter_reads : (s : Stand) → step s place (some_letter k) ≡ letter_step k ds fs place (some_letter k) → ReadsFrom s place (some_letter k ∷ [])
  letter_reads s e = one_more s place (some_letter k) [] (e ∙ letter_moves) (ended (after_letter (made_by (some_letter k))) (suc place) (may_end_after (made_by (some_letter k))))

-- `D` and `S` are taken as letters after digits
some_letter_is : (P : ℕ → Type 0) → P 68 → P 83 → (k : ℕ) → P (some_letter k)
unfolding some_letter
some_letter_is P day second k = if_either P (leb ANY k) (λ e. day) (λ e. second)

module _ (place k : ℕ) (ds : List ℕ) (low : SECONDS < k) where
  whole_reads : ReadsFrom (whole k ds) place (some_letter k ∷ [])
  unfolding step is_mark is class between when◌then◌else◌
  whole_reads = letter_reads place k ds [] low (whole k ds) (some_letter_is (λ b. step (whole k ds) place b ≡ letter_step k ds [] place b) refl refl k)

  fraction_reads : (fs : List ℕ) → ReadsFrom (fraction k ds fs) place (some_letter k ∷ [])
  unfolding step is class between when◌then◌else◌
  fraction_reads fs = letter_reads place k ds fs low (fraction k ds fs) (some_letter_is (λ b. step (fraction k ds fs) place b ≡ letter_step k ds fs place b) refl refl k)

digit_reads : (s : Stand) (place k : ℕ) → SECONDS < k → step s place 48 ≡ on (whole k (48 ∷ [])) → ReadsFrom s place (48 ∷ some_letter k ∷ [])
unfolding on
digit_reads s place k low e = one_more s place 48 (some_letter k ∷ []) e (whole_reads (suc place) k (48 ∷ []) low)

date_reads : (place : ℕ) → ReadsFrom date place (48 ∷ 68 ∷ [])
unfolding step digit_step is class between when◌then◌else◌ some_letter
date_reads place = digit_reads date place ANY (omega arith) refl

pub completed : (s : Stand) (dated : Bool) → Sane s dated → (place : ℕ) → ReadsFrom s place (completion s)
unfolding Sane completion step digit_step on is class between when◌then◌else◌ may_end
completed start dated h place = one_more start place 80 (48 ∷ 68 ∷ []) refl (date_reads (suc place))
completed date dated h place = date_reads place
completed (wanted k) dated h place = digit_reads (wanted k) place k h.0 refl
completed (whole k ds) dated h place = whole_reads place k ds h.0
completed (mark k ds m) dated h place = one_more (mark k ds m) place 48 (some_letter k ∷ []) refl (fraction_reads (suc place) k ds h.0 (m ∷ 48 ∷ []))
completed (fraction k ds fs) dated h place = fraction_reads place k ds h.0 fs
completed (unit k) dated h place = ended (unit k) place refl
completed closed dated h place = ended closed place refl
