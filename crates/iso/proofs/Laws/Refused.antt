-- Where a text is refused, and as what: before that place it begins a text that is read, and with the byte there no more. Assumes nothing.
use Rattle.std.specs.Prelude.{◌≡◌, ◌⊎◌, ◌↔◌, Bool, false, not, ℕ, zero, suc, ◌*◌, ◌-◌, ◌≤◌, ◌<◌, eqb, leb, ltb, take, drop}
use Rattle.std.proofs.Math.Path.{refl}
use Rattle.std.proofs.Common.{sym, ap, ◌∙◌, inl, inr, ⊎_elim, length-append, take-suc, get_or-take, length-take-le, leb-true, leb-false, le-leb}
use Rattle.std.proofs.Math.Bool.{true}
use Rattle.std.proofs.lemmas.Bool.{false≢true, lt-leb}
use mathlib.Core.List.{List, [], ◌∷◌, ◌++◌}
use native.Mathlib.Omega.{arith}
use Rattle.std.proofs.Math.ListN.{length, get_or}
use Rattle.std.proofs.Math.Seq.{take-length, take-append_seam, get_or-append_seam, split_at}
use Rattle.rules.specs.declared.Refusal.{Refusal}
use Rattle.rules.specs.declared.Refusal.TheVariants.{NotIso, YearOrMonth, TextTooLong, TooLarge}
use Rattle.rules.specs.Common.{when◌then◌else◌, between, all}
use Rattle.rules.specs.ThePartOfTheCrateWeTake.{longest_text, seconds_limit, nanoseconds_per_second}
use Rattle.rules.specs.SettingsAndUnitTable.{DIGIT, is, class}
use Rattle.rules.specs.NumbersHandedBack.{Outcome, got, refused, ◌>>=◌, ◌>>◌, unless, number}
use Rattle.rules.proofs.Laws.Choices.{if_either}
use Rattle.iso.specs.IsoTimings.{Component, Stand, start, step, read_from, components, read_iso, held, nanoseconds_of}
use Rattle.iso.proofs.Laws.Stands.{Sane, Stepped, stops, stops_at_year_or_month, stepped, numbered, untimed, year_or_month_step}
use Rattle.iso.proofs.Laws.Begins.{Reads, Begins, not_both, begins_less, start_sane, walk_begins, stopped_barred, begins_walk, walk_ends, whole_begins, whole_taken}
use Rattle.iso.proofs.Laws.Walks.{Walk, walk_stopped, walk_place, walk_sane, walk_numbered, Way, through, stopped, way}

-- ---- what is said of a refusal

-- refused at the place, as no right text or for a year or a month
abbrev pub At : Refusal → ℕ → Type 0
At cause place = (cause ≡ NotIso place) ⊎ (cause ≡ YearOrMonth place)

-- the bytes before the place begin what is meant, and with the byte there no more; it is `Y` or `M`, straight after a number, and no `T` is
-- before it. (Where such bytes end in a digit, a number ends there.)
pub record AtYearOrMonth (Begun : List ℕ → Type 0) (text : List ℕ) (place : ℕ) : Type 0 where
  pub within : place < length text
  pub begun : Begun (take place text)
  pub barred : Begun (take (suc place) text) → ⊥
  pub year_or_month : (get_or text place 0 ≡ 89) ⊎ (get_or text place 0 ≡ 77)
  pub later : 0 < place
  pub after_number : is DIGIT (get_or text (place - 1) 0) ≡ true
  pub before_clock : all (λ b. not (eqb b 84)) (take place text) ≡ true

pub other_cause : {A : Type 0} {o : Outcome A} {c d : Refusal} → o ≡ refused c → o ≡ refused d → c ≡ d
other_cause p q = cc

pub causes_apart : {place other : ℕ} → NotIso place ≡ YearOrMonth other → ⊥
causes_apart p = let z : ◌≡◌ {A = ℕ} 0 1 = cc in omega arith

-- ---- what a refusal says

stepped_at : {s : Stand} {dated : Bool} {place b : ℕ} {cause : Refusal} → Stepped s dated place b (refused cause) → At cause place
stepped_at stops = inl refl
stepped_at (stops_at_year_or_month n d e) = inr refl

stepped_year_or_month : {s : Stand} {dated : Bool} {place b : ℕ} {cause : Refusal} {other : ℕ} → Stepped s dated place b (refused cause) → cause ≡ YearOrMonth other → (numbered s ≡ true) × (dated ≡ true) × ((b ≡ 89) ⊎ (b ≡ 77))
stepped_year_or_month stops h = absurd (causes_apart h)
stepped_year_or_month (stops_at_year_or_month n d e) h = (n, d, e)

module _ {last : Stand} {end : ℕ} where
  walk_last : {bytes : List ℕ} → Walk start 0 bytes last end → numbered last ≡ is DIGIT (get_or (0 ∷ bytes) (length bytes) 0)
  unfolding numbered is class between when◌then◌else◌
  walk_last w = walk_numbered true start_sane 0 refl w

  -- a number that may end is no empty text
  walk_far : (bytes : List ℕ) → Walk start 0 bytes last end → numbered last ≡ true → 0 < length bytes
  unfolding numbered is class between when◌then◌else◌
  walk_far [] w n = absurd (false≢true (sym (walk_last w) ∙ n))
  walk_far (b ∷ bytes) w n = omega arith

-- the byte straight before a place
byte_before : (text : List ℕ) (place : ℕ) → place ≤ length text → 0 < place → get_or (0 ∷ take place text) (length (take place text)) 0 ≡ get_or text (place - 1) 0
byte_before text zero w h = absurd (omega arith)
byte_before text (suc q) w h =
    let less : suc q - 1 ≡ q = omega arith in
    rw (length-take-le (suc q) text w, less) (get_or-take (suc q) text q 0 (omega arith))

-- all that is known of a refusal
pub record Found (text : List ℕ) (cause : Refusal) : Type 0 where
  pub place : ℕ
  pub at : At cause place
  pub within : place ≤ length text
  pub begun : Begins (take place text)
  pub barred : place < length text → Begins (take (suc place) text) → ⊥
  pub year_or_month : cause ≡ YearOrMonth place → AtYearOrMonth Begins text place

module _ {last : Stand} {end : ℕ} {bytes : List ℕ} {cause : Refusal} (b : ℕ) (rest : List ℕ) (w : Walk start 0 bytes last end) (e : step last end b ≡ refused cause) where
  stop : Stepped last (all untimed bytes) end b (refused cause)
  stop = rw e at (stepped last (all untimed bytes) (walk_sane true start_sane w) end b)

  end_here : end ≡ length bytes
  end_here = omega (arith, walk_place w)

  below : length bytes < length (bytes ++ (b ∷ rest))
  below = simp length-append (omega arith)

  front : take (length bytes) (bytes ++ (b ∷ rest)) ≡ bytes
  front = take-append_seam bytes (b ∷ rest)

  one_further : take (suc (length bytes)) (bytes ++ (b ∷ rest)) ≡ bytes ++ (b ∷ [])
  one_further = take-suc (bytes ++ (b ∷ rest)) (length bytes) 0 below ∙ rw (front, get_or-append_seam bytes b rest 0)

  found_year_or_month : cause ≡ YearOrMonth (length bytes) → AtYearOrMonth Begins (bytes ++ (b ∷ rest)) (length bytes)
  unfolding untimed
  found_year_or_month h =
      let known = stepped_year_or_month stop h in
      let far : 0 < length bytes = walk_far bytes w known.0 in
      let last_byte : get_or (0 ∷ bytes) (length bytes) 0 ≡ get_or (bytes ++ (b ∷ rest)) (length bytes - 1) 0 =
      rw front at (byte_before (bytes ++ (b ∷ rest)) (length bytes) (omega (arith, below)) far) in
      record {
        within = below;
        begun = rw front (walk_begins w);
        barred = λ r. stopped_barred b w e (rw one_further at r);
        year_or_month = rw (get_or-append_seam bytes b rest 0) known.2;
        later = far;
        after_number = rw (← last_byte) (sym (walk_last w) ∙ known.0);
        before_clock = rw front known.1;
      }

  found_stopped : Found (bytes ++ (b ∷ rest)) cause
  found_stopped = record {
    place = length bytes;
    at = rw (← end_here) (stepped_at stop);
    within = omega (arith, below);
    begun = rw front (walk_begins w);
    barred = λ _ r. stopped_barred b w e (rw one_further at r);
    year_or_month = found_year_or_month;
  }

found_ended : (text : List ℕ) (cause : Refusal) → Begins text → cause ≡ NotIso (length text) → Found text cause
found_ended text cause r e = record {
  place = length text;
  at = inl e;
  within = omega arith;
  begun = rw take-length r;
  barred = λ h _. absurd (omega arith);
  year_or_month = λ h. absurd (causes_apart (sym e ∙ h));
}

found_along : (text : List ℕ) (cause : Refusal) → components text ≡ refused cause → Way start 0 text → Found text cause
unfolding components
found_along text cause h (through w) =
    ⊎_elim (λ r. absurd (not_both r.1 h)) (λ e. found_ended text cause (walk_begins w) (other_cause h e)) (walk_ends text w)
found_along text cause h (stopped b rest split w e) =
    let same : _ ≡ cause = other_cause (walk_stopped b rest w e) (rw split at h) in
    rw (split, ← same) (found_stopped b rest w e)

pub found : (text : List ℕ) (cause : Refusal) → components text ≡ refused cause → Found text cause
found text cause h = found_along text cause h (way start 0 text)

-- ---- the place of a refusal

pub refused_place : (text : List ℕ) (cause : Refusal) → components text ≡ refused cause → (place : ℕ) × At cause place × (place ≤ length text)
refused_place text cause e =
    let f = found text cause e in
    (f.place, f.at, f.within)

-- a refusal has one place
one_place : {cause : Refusal} {p q : ℕ} → At cause p → At cause q → p ≡ q
one_place (inl d) (inl e) = cc
one_place (inl d) (inr e) = absurd (causes_apart (sym d ∙ e))
one_place (inr d) (inl e) = absurd (causes_apart (sym e ∙ d))
one_place (inr d) (inr e) = cc

module _ (text : List ℕ) {cause : Refusal} (place : ℕ) (at : At cause place) (e : components text ≡ refused cause) where
  found_here : place ≡ (found text cause e).place
  found_here = one_place at (found text cause e).at

  -- the bytes before the place begin a text that is read
  pub refused_begins : Begins (take place text)
  refused_begins = rw found_here (found text cause e).begun

  -- with the byte there they begin none
  pub refused_barred : place < length text → Begins (take (suc place) text) → ⊥
  refused_barred = rw found_here (found text cause e).barred

  -- and the text is not read
  pub refused_unread : Reads text → ⊥
  refused_unread r = not_both r.1 e

-- ---- and there is no other: it is refused where it stops beginning a text that is read, or at its end

got_or_refused : {A : Type 0} (o : Outcome A) → ((a : A) × (o ≡ got a)) ⊎ ((cause : Refusal) × (o ≡ refused cause))
got_or_refused (got a) = inl (a, refl)
got_or_refused (refused cause) = inr (cause, refl)

module _ (text : List ℕ) (place : ℕ) (within : place < length text) (begun : Begins (take place text)) (barred : Begins (take (suc place) text) → ⊥) where
  same_place : {cause : Refusal} (f : Found text cause) → f.place ≡ place
  same_place f =
      let not_before : f.place < place → ⊥ = λ h. f.barred (omega arith) (begins_less (suc f.place) place text h begun) in
      let not_after : place < f.place → ⊥ = λ h. barred (begins_less (suc place) f.place text h f.begun) in
      omega arith

  pub refused_there : (components text ≡ refused (NotIso place)) ⊎ (components text ≡ refused (YearOrMonth place))
  refused_there =
      ⊎_elim (λ g. absurd (barred (whole_taken (suc place) text (whole_begins text g) within)))
      (λ g.
      let f = found text g.0 g.1 in
      ⊎_elim (λ h. inl (g.1 ∙ ap refused (h ∙ ap NotIso (same_place f)))) (λ h. inr (g.1 ∙ ap refused (h ∙ ap YearOrMonth (same_place f)))) f.at)
      (got_or_refused (components text))

module _ (text : List ℕ) (begun : Begins text) where
  end_place : {cause : Refusal} (f : Found text cause) → cause ≡ NotIso (length text)
  end_place f =
      let not_before : f.place < length text → ⊥ = λ h. f.barred h (whole_taken (suc f.place) text begun h) in
      let here : f.place ≡ length text = omega (arith, f.within) in
      ⊎_elim (λ h. h ∙ ap NotIso here) (λ h. absurd (not_before (f.year_or_month h).within)) f.at

  pub refused_at_end : (Reads text → ⊥) → components text ≡ refused (NotIso (length text))
  refused_at_end unread =
      ⊎_elim (λ g. absurd (unread g)) (λ g. g.1 ∙ ap refused (end_place (found text g.0 g.1))) (got_or_refused (components text))

-- ---- a year or a month

pub year_or_month_from : (text : List ℕ) (place : ℕ) → components text ≡ refused (YearOrMonth place) → AtYearOrMonth Begins text place
year_or_month_from text place e =
    let f = found text (YearOrMonth place) e in
    let here : place ≡ f.place = one_place (inr refl) f.at in
    rw here (f.year_or_month (ap YearOrMonth here))

pub year_or_month_to : (text : List ℕ) (place : ℕ) → AtYearOrMonth Begins text place → components text ≡ refused (YearOrMonth place)
unfolding components untimed
year_or_month_to text place m =
    let w = begins_walk (take place text) m.begun in
    let long : length (take place text) ≡ place = length-take-le place text (omega (arith, m.within)) in
    let here : w.1 ≡ place = omega (arith, walk_place w.2, long) in
    let sane : Sane w.0 true = rw m.before_clock at (walk_sane true start_sane w.2) in
    let ends : numbered w.0 ≡ true = walk_last w.2 ∙ ap (is DIGIT) (byte_before text place (omega (arith, m.within)) m.later) ∙ m.after_number in
    let stop : step w.0 w.1 (get_or text place 0) ≡ refused (YearOrMonth place) = rw here (year_or_month_step w.0 sane ends place (get_or text place 0) m.year_or_month) in
    let split : text ≡ take place text ++ (get_or text place 0 ∷ drop (suc place) text) = split_at text place 0 m.within in
    ap (read_from start 0) split ∙ walk_stopped (get_or text place 0) (drop (suc place) text) w.2 stop

pub year_or_month_exactly : (text : List ℕ) (place : ℕ) → (components text ≡ refused (YearOrMonth place)) ↔ AtYearOrMonth Begins text place
year_or_month_exactly text place = (year_or_month_from text place, year_or_month_to text place)

-- ---- the whole reading: 8 first, then these, 14 last

held_refused : (n : ℕ) (cause : Refusal) → held n ≡ refused cause → cause ≡ TooLarge
unfolding held
held_refused n cause = if_either (λ o. o ≡ refused cause → cause ≡ TooLarge) (ltb n (seconds_limit * nanoseconds_per_second)) (λ t e. absurd (not_both refl e)) (λ t e. cc)

-- a text that is too long is refused as that
pub too_long : (text : List ℕ) → longest_text < length text → read_iso text ≡ refused TextTooLong
unfolding read_iso unless ◌>>◌ ◌>>=◌
too_long text h = rw (lt-leb (length text) longest_text h)

module _ (text : List ℕ) (short : length text ≤ longest_text) where
  short_refused : {cause : Refusal} → components text ≡ refused cause → read_iso text ≡ refused cause
  unfolding read_iso unless ◌>>◌ ◌>>=◌
  short_refused e = rw (le-leb (length text) longest_text short, e)

  short_held : {cs : List Component} → components text ≡ got cs → read_iso text ≡ held (nanoseconds_of cs)
  unfolding read_iso unless ◌>>◌ ◌>>=◌
  short_held e = rw (le-leb (length text) longest_text short, e)

-- a refusal of the reading is 8 for a text that is too long, that of its components for another, or 14
pub iso_refused : (text : List ℕ) (cause : Refusal) → read_iso text ≡ refused cause → ((longest_text < length text) × (cause ≡ TextTooLong)) ⊎ ((length text ≤ longest_text) × ((components text ≡ refused cause) ⊎ (Reads text × (cause ≡ TooLarge))))
iso_refused text cause e = go (leb (length text) longest_text) refl
  where
    go : (c : Bool) → leb (length text) longest_text ≡ c → ((longest_text < length text) × (cause ≡ TextTooLong)) ⊎ ((length text ≤ longest_text) × ((components text ≡ refused cause) ⊎ (Reads text × (cause ≡ TooLarge))))
    go false t =
        let long : longest_text < length text = leb-false (length text) longest_text t in
        inl (long, other_cause e (too_long text long))
    go true t =
        let short : length text ≤ longest_text = leb-true (length text) longest_text t in
        inr (
          short,
          ⊎_elim (λ g. inr (g, held_refused (nanoseconds_of g.0) cause (sym (short_held text short g.1) ∙ e)))
              (λ g. inl (g.1 ∙ ap refused (other_cause (short_refused text short g.1) e))) (got_or_refused (components text)),
        )

number_at : {cause : Refusal} {place : ℕ} → At cause place → (12 ≤ number cause) × (number cause ≤ 13)
unfolding number
number_at (inl e) = rw e (omega arith, omega arith)
number_at (inr e) = rw e (omega arith, omega arith)

-- 12 and 13 are handed back exactly for texts that are not too long and whose components are so refused
pub iso_refused_at : (text : List ℕ) {cause : Refusal} (place : ℕ) → At cause place → (read_iso text ≡ refused cause) ↔ ((length text ≤ longest_text) × (components text ≡ refused cause))
unfolding number
iso_refused_at text {cause} place at = (only, λ h. short_refused text h.0 h.1)
  where
    only : read_iso text ≡ refused cause → (length text ≤ longest_text) × (components text ≡ refused cause)
    only e =
        ⊎_elim (λ h. absurd (omega (arith, number_at at, ap number h.1)))
        (λ h. (h.0, ⊎_elim (λ c. c) (λ c. absurd (omega (arith, number_at at, ap number c.1))) h.1)) (iso_refused text cause e)
