-- The spelling of right components is read as them. Assumes nothing.
use Rattle.std.specs.Prelude.{◌≡◌, Bool, not, ◌||◌, ℕ, suc, ◌+◌, ◌≤◌, ◌<◌}
use Rattle.std.proofs.Math.Path.{refl}
use Rattle.std.proofs.Common.{◌∙◌, ap, arith}
use Rattle.std.proofs.Math.Bool.{true, false}
use Rattle.std.proofs.lemmas.Bool.{false≢true}
use mathlib.Core.List.{List, [], ◌∷◌, ◌++◌}
use Rattle.std.proofs.Math.Dec.{leb}
use Rattle.std.proofs.Math.ListN.{length}
use borrow.Author.Tests.{leb-true, leb-false}
use Rattle.rules.specs.Common.{when◌then◌else◌}
use Rattle.rules.specs.NumbersHandedBack.{got, ◌>>=◌}
use Rattle.rules.proofs.Laws.Choices.{and_left, and_right}
use Rattle.iso.specs.IsoTimings.{DAYS, WEEKS, ANY, Component, none, digits, is_mark, right_fraction, right_number, closes, right_after, right, letter, spelling_after, spelling, Stand, start, date, wanted, whole, mark, fraction, unit, closed, on, may_come, after_letter, letter_step, step, may_end, read_from, components}
use Rattle.iso.proofs.Laws.Runs.{goes_on, Begins, digit_begins, number_run, mark_run}
use Rattle.iso.proofs.Laws.Letters.{Kind, letter_of, digit_not_clock, mark_not_digit, may_come_date, may_come_below, clock_first, clock_later, clock_never}
use Rattle.iso.proofs.Laws.OneComponent.{digits_some, digits_all, one_spelling, right_behind, Right, right_first, open_kind}

-- where the last component read had this kind, or none was read
data Behind : Stand → ℕ → Type 0 where
  first : Behind date ANY
  later : {k : ℕ} → k ≤ DAYS → Behind (unit k) k

-- the bytes of the components after one
abbrev others : Component → List Component → List ℕ
others c cs = spelling_after c.kind cs

-- a component is read with the others, which are read after it
module _ (c : Component) (cs : List Component) (goes : (place : ℕ) → read_from (after_letter c) place (others c cs) ≡ got cs) where
  -- where it may come
  module _ (k : ℕ) (known : Kind c.kind) (comes : may_come k c.kind ≡ true) where
    letter_reads : (s : Stand) (place : ℕ) → step s place (letter c.kind) ≡ letter_step k c.whole c.fraction place (letter c.kind) → read_from s place (letter c.kind ∷ others c cs) ≡ got (c ∷ cs)
    unfolding read_from letter_step ◌>>=◌ when◌then◌else◌
    letter_reads s place e = rw (e, (letter_of c.kind known).back, comes, goes (suc place))

    fraction_reads : (fs : List ℕ) (place : ℕ) → c.fraction ≡ fs → right_fraction fs ≡ true → read_from (whole k c.whole) place (fs ++ (letter c.kind ∷ others c cs)) ≡ got (c ∷ cs)
    unfolding step right_fraction when◌then◌else◌
    fraction_reads [] place e h =
        let l = letter_of c.kind known in letter_reads (whole k c.whole) place (rw (e, l.no_digit, l.no_mark))
    fraction_reads (m ∷ ds) place e h =
        let marks = and_left (is_mark m) (digits ds) h in
        let ok = and_right (is_mark m) (digits ds) h in
        let rest = letter c.kind ∷ others c cs in
        goes_on (whole k c.whole) (mark k c.whole m) place m (ds ++ rest) (rw (mark_not_digit m marks, marks))
        ∙ (mark_run k c.whole m ds rest (suc place) (digits_some ds ok) (digits_all ds ok)
        ∙ letter_reads (fraction k c.whole (m ∷ ds)) (suc place + length ds) (rw (e, (letter_of c.kind known).no_digit)))

    number_reads : (s : Stand) (place : ℕ) → Begins k s → right_number c ≡ true → read_from s place (one_spelling c (others c cs)) ≡ got (c ∷ cs)
    unfolding right_number
    number_reads s place begins h =
        let ok = and_left (digits c.whole) (right_fraction c.fraction) h in
        let rest = c.fraction ++ (letter c.kind ∷ others c cs) in
        number_run k s begins c.whole rest place (digits_some c.whole ok) (digits_all c.whole ok)
        ∙ fraction_reads c.fraction (place + length c.whole) refl (and_right (digits c.whole) (right_fraction c.fraction) h)

  -- with `T` before it
  clock_reads : (k : ℕ) (s : Stand) (place : ℕ) → step s place 84 ≡ on (wanted DAYS) → DAYS ≤ k → c.kind < DAYS → Right k c cs → read_from s place (spelling_after k (c ∷ cs)) ≡ got (c ∷ cs)
  unfolding spelling_after step
  clock_reads k s place e l h r =
      let f = r.from in
      let comes = may_come_below DAYS c.kind f h (omega arith) in
      rw (clock_first k c.kind l h)
      (goes_on s (wanted DAYS) place 84 (one_spelling c (others c cs)) e
      ∙ number_reads DAYS (f, omega arith) comes (wanted DAYS) (suc place) (digit_begins DAYS) r.number)

  first_reads : {s : Stand} {k : ℕ} (place : ℕ) → Behind s k → Right k c cs → read_from s place (spelling_after k (c ∷ cs)) ≡ got (c ∷ cs)
  unfolding spelling_after step when◌then◌else◌
  first_reads place first r = go (leb DAYS c.kind) refl
    where
      go : (t : Bool) → leb DAYS c.kind ≡ t → read_from date place (spelling_after ANY (c ∷ cs)) ≡ got (c ∷ cs)
      go true e =
          let l = leb-true DAYS c.kind e in
          let h : c.kind ≤ WEEKS = omega (arith, r.below) in
          let begins : Begins ANY date = λ at b d. rw (digit_not_clock b d) (digit_begins ANY at b d) in
          rw (clock_never ANY c.kind l) (number_reads ANY (r.from, h) (may_come_date c.kind l h) date place begins r.number)
      go false e = clock_reads ANY date place refl (omega arith) (leb-false DAYS c.kind e) r
  first_reads {k = k} place (later l) r = go (leb DAYS k) refl
    where
      go : (t : Bool) → leb DAYS k ≡ t → read_from (unit k) place (spelling_after k (c ∷ cs)) ≡ got (c ∷ cs)
      go true e = clock_reads k (unit k) place (rw e) (leb-true DAYS k e) (omega (arith, r.below)) r
      go false e =
          let comes = may_come_below k c.kind r.from r.below (omega arith) in
          let begins : Begins k (unit k) = λ at b d. rw e (digit_begins k at b d) in
          rw (clock_later k c.kind (leb-false DAYS k e))
          (number_reads k (r.from, omega (arith, r.below)) comes (unit k) place begins r.number)

-- after a component: the end, or the others
module _ (c : Component) (cs : List Component) (place : ℕ) where
  ends : (cs : List Component) → none cs ≡ true → read_from closed place (others c cs) ≡ got cs
  unfolding read_from may_end spelling_after none when◌then◌else◌
  ends [] e = refl
  ends (d ∷ cs) e = absurd (false≢true e)

  behind_reads : c.kind ≤ WEEKS → right_behind c cs ≡ true → (Behind (unit c.kind) c.kind → right_after c.kind cs ≡ true → read_from (unit c.kind) place (others c cs) ≡ got cs) → read_from (after_letter c) place (others c cs) ≡ got cs
  unfolding right_behind after_letter when◌then◌else◌
  behind_reads h r goes = go (closes c) refl
    where
      go : (t : Bool) → closes c ≡ t → read_from (after_letter c) place (others c cs) ≡ got cs
      go true e = rw e (ends cs (rw e at r))
      go false e = rw e (goes (later (omega (arith, open_kind c e))) (rw e at r))

-- the components that may follow
complete_from : (cs : List Component) {s : Stand} {k : ℕ} (place : ℕ) → Behind s k → right_after k cs ≡ true → (may_end s || not (none cs)) ≡ true → read_from s place (spelling_after k cs) ≡ got cs
unfolding read_from may_end none spelling_after when◌then◌else◌
complete_from [] place first r h = absurd (false≢true h)
complete_from [] place (later l) r h = refl
complete_from (c ∷ cs) {k = k} place b r h =
    let f = right_first k c cs r in
    first_reads c cs (λ at. behind_reads c cs at (below_any b f.below) f.behind (λ l o. complete_from cs at l o refl)) place b f
  where
    below_any : {s : Stand} {k : ℕ} → Behind s k → c.kind < k → c.kind ≤ WEEKS
    below_any first h = omega arith
    below_any (later l) h = omega arith

pub complete : (cs : List Component) → right cs ≡ true → components (spelling cs) ≡ got cs
unfolding right components spelling step when◌then◌else◌ may_end
complete cs h =
    goes_on start date 0 80 (spelling_after ANY cs) refl
    ∙ complete_from cs 1 first (and_right (not (none cs)) (right_after ANY cs) h) (and_left (not (none cs)) (right_after ANY cs) h)

-- right components are told apart by their spelling
pub spelling_one : (cs ds : List Component) → right cs ≡ true → right ds ≡ true → spelling cs ≡ spelling ds → cs ≡ ds
spelling_one cs ds p q e = let l = complete cs p in let r = complete ds q in let m = ap components e in cc
