-- Laws of texts, places and runs. Assumes nothing.
use Rattle.std.specs.Prelude.{◌≡◌, refl, Bool, true, false, ◌||◌, List, [], ◌∷◌, ℕ, zero, suc, ◌+◌, ◌-◌, ◌≤◌, ◌<◌, leb, length, get_or, take, drop}
use Rattle.std.proofs.Common.{ap, sym, ◌∙◌, zero-le, suc-le-suc, add_assoc, add-zero, zero-add, suc-add, add-suc, add-one, arith, le-leb, leb-true, leb-false, drop_of_length-le, drop-cons, drop-drop}
use Rattle.std.proofs.lemmas.Bool.{false≢true, lt-leb}
use Rattle.std.proofs.Math.ListN.{length-drop}
use Rattle.std.proofs.Math.Seq.{take-nil, slice}
use Rattle.rules.specs.Common.{when◌then◌else◌, ends, starts, sees, front, run}

-- ---- a byte at a place

pub ends_le : (text : List ℕ) (place : ℕ) → ends text place ≡ true → length text ≤ place
unfolding ends
ends_le text place e = leb-true (length text) place e

pub not_ends_lt : (text : List ℕ) (place : ℕ) → ends text place ≡ false → place < length text
unfolding ends
not_ends_lt text place e = leb-false (length text) place e

pub sees_here : (test : ℕ → Bool) (text : List ℕ) (place : ℕ) → place < length text → sees test text place ≡ test (get_or text place 0)
unfolding sees starts
sees_here test text place h = rw (drop-cons text place 0 h)

pub sees_end : (test : ℕ → Bool) (text : List ℕ) (place : ℕ) → length text ≤ place → sees test text place ≡ false
unfolding sees starts
sees_end test text place h = rw (drop_of_length-le text h)

pub sees_in : (test : ℕ → Bool) (text : List ℕ) (place : ℕ) → sees test text place ≡ true → place < length text
unfolding sees starts
sees_in test [] zero h = absurd (false≢true h)
sees_in test [] (suc place) h = absurd (false≢true h)
sees_in test (b ∷ text) zero h = suc-le-suc zero-le
sees_in test (b ∷ text) (suc place) h = suc-le-suc (sees_in test text place h)

pub sees_or : (f g : ℕ → Bool) (text : List ℕ) (place : ℕ) → sees (λ b. f b || g b) text place ≡ (sees f text place || sees g text place)
unfolding sees starts
sees_or f g text place = go (drop place text)
  where
    go : (rest : List ℕ) → starts (λ b. f b || g b) rest ≡ (starts f rest || starts g rest)
    go [] = refl
    go (b ∷ rest) = refl

-- ---- a run: the answer from here is the answer from the next place, where the byte passes

pub front_pass : (test : ℕ → Bool) (b : ℕ) (rest : List ℕ) → test b ≡ true → front test (b ∷ rest) ≡ suc (front test rest)
unfolding front when◌then◌else◌
front_pass test b rest e = rw e

front_stop : (test : ℕ → Bool) (rest : List ℕ) → starts test rest ≡ false → front test rest ≡ 0
unfolding front starts when◌then◌else◌
front_stop test [] e = refl
front_stop test (b ∷ rest) e = rw e

pub run_more : (test : ℕ → Bool) (text : List ℕ) (place : ℕ) → sees test text place ≡ true → run test text place ≡ run test text (place + 1)
unfolding run
run_more test text place e =
    let h : place < length text = sees_in test text place e in
    rw (drop-cons text place 0 h, front_pass test (get_or text place 0) (drop (suc place) text) (sym (sees_here test text place h) ∙ e), add-one place, add-suc, suc-add)

pub run_stop : (test : ℕ → Bool) (text : List ℕ) (place : ℕ) → sees test text place ≡ false → run test text place ≡ place
unfolding run sees
run_stop test text place e = rw (front_stop test (drop place text) e, add-zero)

front_within : (test : ℕ → Bool) (rest : List ℕ) → front test rest ≤ length rest
unfolding front when◌then◌else◌
front_within test [] = zero-le
front_within test (b ∷ rest) = go (test b) (front_within test rest)
  where
    go : (c : Bool) → front test rest ≤ length rest → (when c then suc (front test rest) else 0) ≤ suc (length rest)
    go true h = suc-le-suc h
    go false h = zero-le

pub run_from : (test : ℕ → Bool) (text : List ℕ) (place : ℕ) → place ≤ run test text place
unfolding run
run_from test text place = omega arith

pub run_within : (test : ℕ → Bool) (text : List ℕ) (place : ℕ) → place ≤ length text → run test text place ≤ length text
unfolding run
run_within test text place h = omega (arith, front_within test (drop place text), length-drop place text)

pub run_past : (test : ℕ → Bool) (text : List ℕ) (place : ℕ) → sees test text place ≡ true → place < run test text place
run_past test text place e = rw (run_more test text place e) (omega (arith, run_from test text (place + 1)))

front_ends : (test : ℕ → Bool) (rest : List ℕ) → starts test (drop (front test rest) rest) ≡ false
unfolding front starts when◌then◌else◌
front_ends test [] = refl
front_ends test (b ∷ rest) = go (test b) refl (front_ends test rest)
  where
    go : (c : Bool) → test b ≡ c → starts test (drop (front test rest) rest) ≡ false → starts test (drop (when c then suc (front test rest) else 0) (b ∷ rest)) ≡ false
    go true e more = more
    go false e more = e

-- where a run ends, no byte passes
pub run_ends : (test : ℕ → Bool) (text : List ℕ) (place : ℕ) → sees test text (run test text place) ≡ false
unfolding run sees
run_ends test text place = ap (starts test) (sym (drop-drop (front test (drop place text)) place text)) ∙ front_ends test (drop place text)

-- ---- counted from k on: the text from there, and the places from there

leb_shift : (n k p : ℕ) → leb n (k + p) ≡ leb (n - k) p
leb_shift n k p = go (leb (n - k) p) refl
  where
    go : (b : Bool) → leb (n - k) p ≡ b → leb n (k + p) ≡ b
    go true e = le-leb n (k + p) (omega (arith, leb-true (n - k) p e))
    go false e = lt-leb n (k + p) (omega (arith, leb-false (n - k) p e))

module _ (text : List ℕ) (k : ℕ) where
  pub ends_shift : (p : ℕ) → ends (drop k text) p ≡ ends text (k + p)
  unfolding ends
  ends_shift p = rw length-drop (sym (leb_shift (length text) k p))

  pub drop_shift : (p : ℕ) → drop p (drop k text) ≡ drop (k + p) text
  drop_shift p = drop-drop p k text

  pub sees_shift : (test : ℕ → Bool) (p : ℕ) → sees test (drop k text) p ≡ sees test text (k + p)
  unfolding sees
  sees_shift test p = rw drop_shift

  pub run_shift : (test : ℕ → Bool) (p : ℕ) → k + run test (drop k text) p ≡ run test text (k + p)
  unfolding run
  run_shift test p = rw (drop_shift p, add_assoc)

pub drop_take : (k b : ℕ) (text : List ℕ) → drop k (take (k + b) text) ≡ take b (drop k text)
drop_take zero b text = rw zero-add
drop_take (suc k) b [] = rw (suc-add, take-nil b)
drop_take (suc k) b (x ∷ text) = rw suc-add (drop_take k b text)

pub slice_shift : (text : List ℕ) (k a b : ℕ) → slice a b (drop k text) ≡ slice (k + a) (k + b) text
slice_shift text k a b = ap (drop a) (sym (drop_take k b text)) ∙ drop-drop a k (take (k + b) text)
