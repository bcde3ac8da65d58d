-- What a right component says: its digits, and what follows it. Assumes nothing.
use Rattle.std.specs.Prelude.{◌≡◌, refl, Bool, true, false, not, ◌&&◌, List, [], ◌∷◌, ◌++◌, ℕ, ◌≤◌, ◌<◌, leb, ltb}
use Rattle.std.proofs.Common.{sym, ◌∙◌, leb-true, le-leb, ltb-true, lt-ltb}
use Rattle.std.proofs.lemmas.Bool.{false≢true, not-true}
use Rattle.rules.specs.Common.{when◌then◌else◌, all}
use Rattle.rules.specs.SettingsAndUnitTable.{DIGIT, is}
use Rattle.rules.proofs.Laws.Choices.{and_left, and_right, and_both, all_append}
use Rattle.iso.specs.IsoTimings.{SECONDS, WEEKS, Component, none, digits, is_mark, right_fraction, right_number, closes, right_after, letter}

-- ---- its digits, one or more

pub digits_some : (ds : List ℕ) → digits ds ≡ true → none ds ≡ false
unfolding digits
digits_some ds h = not-true (none ds) (and_left (not (none ds)) (all (is DIGIT) ds) h)

pub digits_all : (ds : List ℕ) → digits ds ≡ true → all (is DIGIT) ds ≡ true
unfolding digits
digits_all ds h = and_right (not (none ds)) (all (is DIGIT) ds) h

pub digits_one : (b : ℕ) → is DIGIT b ≡ true → digits (b ∷ []) ≡ true
unfolding digits none all
digits_one b h = and_both h refl

pub digits_more : (ds : List ℕ) (b : ℕ) → digits ds ≡ true → is DIGIT b ≡ true → digits (ds ++ (b ∷ [])) ≡ true
unfolding digits none all
digits_more [] b p h = and_both h refl
digits_more (d ∷ ds) b p h = all_append (is DIGIT) (d ∷ ds) (b ∷ []) p (and_both h refl)

-- a fraction that is there
unfoldable pub some_fraction : List ℕ → Bool
some_fraction fs = not (none fs) && right_fraction fs

pub fraction_more : (fs : List ℕ) (b : ℕ) → some_fraction fs ≡ true → is DIGIT b ≡ true → some_fraction (fs ++ (b ∷ [])) ≡ true
unfolding some_fraction none right_fraction
fraction_more [] b p h = absurd (false≢true p)
fraction_more (m ∷ ds) b p h = and_both (and_left (is_mark m) (digits ds) p) (digits_more ds b (and_right (is_mark m) (digits ds) p) h)

pub fraction_right : (fs : List ℕ) → some_fraction fs ≡ true → right_fraction fs ≡ true
unfolding some_fraction
fraction_right fs h = and_right (not (none fs)) (right_fraction fs) h

-- its bytes, and those after it
abbrev pub one_spelling : Component → List ℕ → List ℕ
one_spelling c rest = c.whole ++ (c.fraction ++ (letter c.kind ∷ rest))

-- ---- what follows it

-- what follows a component: nothing, or components of kinds below its own
unfoldable pub right_behind : Component → List Component → Bool
right_behind c cs = when closes c then none cs else right_after c.kind cs

-- a right component after one of kind k, and those that follow it
pub record Right (k : ℕ) (c : Component) (cs : List Component) : Type 0 where
  pub number : right_number c ≡ true
  pub from : SECONDS ≤ c.kind
  pub below : c.kind < k
  pub behind : right_behind c cs ≡ true

pub right_first : (k : ℕ) (c : Component) (cs : List Component) → right_after k (c ∷ cs) ≡ true → Right k c cs
unfolding right_after right_behind
right_first k c cs h =
    let n = right_number c in
    let f = leb SECONDS c.kind in
    let b = ltb c.kind k in
    let o = right_behind c cs in
    let nfb : (n && f && b) ≡ true = and_left (n && f && b) o h in
    let nf : (n && f) ≡ true = and_left (n && f) b nfb in
    record {
      number = and_left n f nf;
      from = leb-true SECONDS c.kind (and_right n f nf);
      below = ltb-true c.kind k (and_right (n && f) b nfb);
      behind = and_right (n && f && b) o h;
    }

pub first_right : (k : ℕ) (c : Component) (cs : List Component) → Right k c cs → right_after k (c ∷ cs) ≡ true
unfolding right_after right_behind
first_right k c cs r = rw (r.number, le-leb SECONDS c.kind r.from, lt-ltb c.kind k r.below) r.behind

-- after weeks nothing follows
pub open_kind : (c : Component) → closes c ≡ false → c.kind ≡ WEEKS → ⊥
unfolding closes
open_kind c h e = false≢true (sym h ∙ rw e)
