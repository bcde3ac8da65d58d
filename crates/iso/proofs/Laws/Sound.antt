-- What is read of a text is right, and the text is its spelling. Assumes nothing.
use Rattle.std.specs.Prelude.{◌≡◌, Bool, true, false, ◌&&◌, ℕ, suc, ◌≤◌, ◌<◌, leb, eqb}
use Rattle.std.proofs.Math.Path.{refl}
use Rattle.std.proofs.Common.{sym, ◌∙◌, arith}
use mathlib.Core.List.{List, [], ◌∷◌, ◌++◌, append_assoc}
use borrow.Author.Tests.{eqb-true, leb-true, leb-false}
use Rattle.rules.specs.declared.Refusal.{Refusal}
use Rattle.rules.specs.declared.Refusal.TheVariants.{NotIso, YearOrMonth}
use Rattle.rules.specs.Common.{when◌then◌else◌}
use Rattle.rules.specs.SettingsAndUnitTable.{DIGIT, is}
use Rattle.rules.specs.NumbersHandedBack.{Outcome, got, refused, ◌>>=◌}
use Rattle.rules.proofs.Laws.Choices.{and_left, and_right, and_both, if_either}
use Rattle.iso.specs.IsoTimings.{DAYS, ANY, Component, none, digits, is_mark, right_fraction, right_number, closes, right_after, right, letter, clock_mark, spelling_after, spelling, Stand, start, date, wanted, whole, mark, fraction, unit, closed, Move, on, kind_of, may_come, year_or_month, digit_step, after_letter, letter_step, step, may_end, read_from, components}
use Rattle.iso.proofs.Laws.Runs.{nothing_made}
use Rattle.iso.proofs.Laws.Letters.{letter_back, came_date, came_below, came_kind, clock_first, clock_later, clock_never}
use Rattle.iso.proofs.Laws.OneComponent.{digits_one, digits_more, some_fraction, fraction_more, fraction_right, one_spelling, right_behind, first_right}

-- components of which the first begins with these bytes, and may come after kind k
data Number (k : ℕ) (bytes : List ℕ) : List Component → Type 0 where
  number_first : {c : Component} {cs : List Component} → right_number c ≡ true → may_come k c.kind ≡ true → right_behind c cs ≡ true → one_spelling c (spelling_after c.kind cs) ≡ bytes → Number k bytes (c ∷ cs)

-- right components that follow kind k, spelled so
pub record Following (k : ℕ) (bytes : List ℕ) (cs : List Component) : Type 0 where
  pub rightly : right_after k cs ≡ true
  pub spelt : spelling_after k cs ≡ bytes

-- what a kind that may come after j says of kind k: it may follow it, with this before its digits
abbrev Enters : ℕ → ℕ → List ℕ → Type 0
Enters j k front = (kind : ℕ) → may_come j kind ≡ true → (kind < k) × (clock_mark k kind ≡ front)

number_follows : (j k : ℕ) (front bytes : List ℕ) (cs : List Component) → Enters j k front → Number j bytes cs → Following k (front ++ bytes) cs × (none cs ≡ false)
unfolding spelling_after none
number_follows j k front bytes [] enters number = elim number [ ]
number_follows j k front bytes (c ∷ cs) enters (number_first n m b e) =
    let i = enters c.kind m in
    let r = first_right k c cs (record { number = n; from = came_kind j c.kind m; below = i.0; behind = b }) in
    (record { rightly = r; spelt = rw (i.1, e) }, refl)

-- what the rest of a text and its components are to what has been read
abbrev Sound : Stand → List ℕ → List Component → Type 0
Sound start text cs = (right cs ≡ true) × (spelling cs ≡ text)
Sound date text cs = Following ANY text cs × (none cs ≡ false)
Sound (wanted k) text cs = Number k text cs
Sound (whole k ds) text cs = Number k (ds ++ text) cs
Sound (mark k ds m) text cs = Number k (ds ++ (m ∷ text)) cs
Sound (fraction k ds fs) text cs = Number k (ds ++ (fs ++ text)) cs
Sound (unit k) text cs = Following k text cs
Sound closed text cs = (cs ≡ []) × (text ≡ [])

-- what has been read of a number is right
unfoldable fine : Stand → Bool
fine start = true
fine date = true
fine (wanted k) = true
fine (whole k ds) = digits ds
fine (mark k ds m) = digits ds && is_mark m
fine (fraction k ds fs) = digits ds && some_fraction fs
fine (unit k) = true
fine closed = true

-- a refusal is not what was got
pub never : {A B : Type 0} {cause : Refusal} {a : A} → refused cause ≡ got a → B
never h = let z : ◌≡◌ {A = ℕ} 0 1 = cc in absurd (omega arith)

sound_end : (s : Stand) (place : ℕ) (cs : List Component) → read_from s place [] ≡ got cs → Sound s [] cs
unfolding read_from may_end when◌then◌else◌ right_after spelling_after
sound_end start place cs h = never h
sound_end date place cs h = never h
sound_end (wanted k) place cs h = never h
sound_end (whole k ds) place cs h = never h
sound_end (mark k ds m) place cs h = never h
sound_end (fraction k ds fs) place cs h = never h
sound_end (unit k) place cs h = let e : cs ≡ [] = cc in rw e (record { rightly = refl; spelt = refl })
sound_end closed place cs h = let e : cs ≡ [] = cc in (e, refl)

-- a component that is done, and what follows
sound_behind : (c : Component) (cs : List Component) (rest : List ℕ) → Sound (after_letter c) rest cs → (right_behind c cs ≡ true) × (spelling_after c.kind cs ≡ rest)
unfolding after_letter right_behind none spelling_after when◌then◌else◌
sound_behind c cs rest s = go (closes c) refl
  where
    go : (t : Bool) → closes c ≡ t → (right_behind c cs ≡ true) × (spelling_after c.kind cs ≡ rest)
    go true e = let (p, q) = rw e at s in rw (e, p, q) (refl, refl)
    go false e = let f = rw e at s in rw e (f.rightly, f.spelt)

fine_letter : (c : Component) → fine (after_letter c) ≡ true
unfolding after_letter fine
fine_letter c = if_either (λ s. fine s ≡ true) (closes c) (λ _. refl) (λ _. refl)

enters_clock : (k : ℕ) → DAYS ≤ k → Enters DAYS k (84 ∷ [])
enters_clock k l kind h = let c = came_below DAYS kind (omega arith) h in (omega arith, clock_first k kind l c.1)

enters_date : Enters ANY ANY []
enters_date kind h = let c = came_date kind h in (omega arith, clock_never ANY kind c.0)

enters_same : (k : ℕ) → k < DAYS → Enters k k []
enters_same k l kind h = ((came_below k kind (omega arith) h).1, clock_later k kind l)

-- the components got of a text are sound
abbrev Soundly : List ℕ → Type 0
Soundly text = (s : Stand) (place : ℕ) (cs : List Component) → fine s ≡ true → read_from s place text ≡ got cs → Sound s text cs

-- one byte, where the rest is sound
module _ (rest : List ℕ) (soundly : Soundly rest) (place b : ℕ) (cs : List Component) where
  -- if the components come of what the byte does, the goal is reached
  record Reached (goal : Type 0) (o : Outcome Move) : Type 0 where
    reach : (o >>= λ m. read_from m.stand (suc place) rest >>= λ others. got (m.made ++ others)) ≡ got cs → goal

  either : {goal : Type 0} (t : Bool) {x y : Outcome Move} → (t ≡ true → Reached goal x) → (t ≡ false → Reached goal y) → Reached goal (when t then x else y)
  either {goal} t f g = if_either (Reached goal) t f g

  stops : {goal : Type 0} (cause : Refusal) → Reached goal (refused cause)
  unfolding ◌>>=◌
  stops cause = record { reach = never }

  steps_on : {goal : Type 0} (s : Stand) → fine s ≡ true → (Sound s rest cs → goal) → Reached goal (on s)
  unfolding on ◌>>=◌
  steps_on s f g = record { reach = λ h. g (soundly s (suc place) cs f (sym (nothing_made (read_from s (suc place) rest)) ∙ h)) }

  digit_steps : {goal : Type 0} (k : ℕ) → (Number k (b ∷ rest) cs → goal) → Reached goal (digit_step k place b)
  unfolding digit_step fine
  digit_steps k g = either (is DIGIT b) (λ d. steps_on (whole k (b ∷ [])) (digits_one b d) g) (λ _. stops (NotIso place))

  made : (k : ℕ) (c : Component) → right_number c ≡ true → may_come k c.kind ≡ true → letter c.kind ≡ b → Reached (Number k (c.whole ++ (c.fraction ++ (b ∷ rest))) cs) (got (record { made = c ∷ []; stand = after_letter c }))
  unfolding ◌>>=◌
  made k c n m e = record { reach = go (read_from (after_letter c) (suc place) rest) refl }
    where
      go : (o : Outcome (List Component)) → read_from (after_letter c) (suc place) rest ≡ o → (o >>= λ others. got (c ∷ others)) ≡ got cs → Number k (c.whole ++ (c.fraction ++ (b ∷ rest))) cs
      go (got others) r h =
          let s = sound_behind c others rest (soundly (after_letter c) (suc place) others (fine_letter c) r) in
          let q : cs ≡ (c ∷ others) = cc in
          rw q (number_first n m s.0 (rw (e, s.1)))
      go (refused cause) r h = never h

  letter_steps : (k : ℕ) (ds fs : List ℕ) → digits ds ≡ true → right_fraction fs ≡ true → Reached (Number k (ds ++ (fs ++ (b ∷ rest))) cs) (letter_step k ds fs place b)
  unfolding letter_step right_number
  letter_steps k ds fs p q =
      let c : Component = record { whole = ds; fraction = fs; kind = kind_of b } in
      either (may_come k (kind_of b))
      (λ m. made k c (and_both p q) m (letter_back b (came_kind k (kind_of b) m)))
      (λ _. either (year_or_month k b) (λ _. stops (YearOrMonth place)) (λ _. stops (NotIso place)))

  -- after `T`
  clock_steps : {goal : Type 0} (k : ℕ) → DAYS ≤ k → (Following k (b ∷ rest) cs × (none cs ≡ false) → goal) → b ≡ 84 → Reached goal (on (wanted DAYS))
  unfolding fine
  clock_steps k l g e =
      steps_on (wanted DAYS) refl (λ n. g (rw e (number_follows DAYS k (84 ∷ []) rest cs (enters_clock k l) n)))

  sound_step : (s : Stand) → fine s ≡ true → Reached (Sound s (b ∷ rest) cs) (step s place b)
  unfolding step fine right spelling some_fraction right_fraction none
  sound_step start f =
      either (eqb b 80)
      (λ e. steps_on date refl (λ s. rw (s.1, eqb-true b 80 e, s.0.rightly, s.0.spelt) (refl, refl)))
      (λ _. stops (NotIso place))
  sound_step date f =
      either (eqb b 84)
      (λ e. clock_steps ANY (omega arith) (λ s. s) (eqb-true b 84 e))
      (λ _. digit_steps ANY (number_follows ANY ANY [] (b ∷ rest) cs enters_date))
  sound_step (wanted k) f = digit_steps k (λ n. n)
  sound_step (whole k ds) f =
      either (is DIGIT b)
      (λ d. steps_on (whole k (ds ++ (b ∷ []))) (digits_more ds b f d) (λ n. rw append_assoc at n))
      (λ _. either (is_mark b) (λ m. steps_on (mark k ds b) (and_both f m) (λ n. n)) (λ _. letter_steps k ds [] f refl))
  sound_step (mark k ds m) f =
      let p = and_left (digits ds) (is_mark m) f in
      let q = and_right (digits ds) (is_mark m) f in
      either (is DIGIT b)
      (λ d. steps_on (fraction k ds (m ∷ b ∷ [])) (and_both p (and_both q (digits_one b d))) (λ n. n))
      (λ _. stops (NotIso place))
  sound_step (fraction k ds fs) f =
      let p = and_left (digits ds) (some_fraction fs) f in
      let q = and_right (digits ds) (some_fraction fs) f in
      either (is DIGIT b)
      (λ d. steps_on (fraction k ds (fs ++ (b ∷ []))) (and_both p (fraction_more fs b q d)) (λ n. rw (append_assoc fs (b ∷ []) rest) at n))
      (λ _. letter_steps k ds fs p (fraction_right fs q))
  sound_step (unit k) f =
      either (leb DAYS k)
      (λ l. either (eqb b 84) (λ e. clock_steps k (leb-true DAYS k l) (λ s. s.0) (eqb-true b 84 e)) (λ _. stops (NotIso place)))
      (λ l. digit_steps k (λ n. (number_follows k k [] (b ∷ rest) cs (enters_same k (leb-false DAYS k l)) n).0))
  sound_step closed f = stops (NotIso place)

sound_from : (text : List ℕ) → Soundly text
unfolding read_from
sound_from [] s place cs f h = sound_end s place cs h
sound_from (b ∷ rest) s place cs f h = (sound_step rest (sound_from rest) place b cs s f).reach h

pub sound : (text : List ℕ) (cs : List Component) → components text ≡ got cs → (right cs ≡ true) × (spelling cs ≡ text)
unfolding components fine
sound text cs h = sound_from text start 0 cs refl h
