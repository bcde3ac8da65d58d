-- A component, by its pieces: digits, a mark, digits, a letter. What each function found, as the definitions have it. Assumes nothing.
use Rattle.std.specs.Prelude.{◌≡◌, Bool, true, false, ◌||◌, ℕ, suc, ◌+◌, ◌-◌, ◌≤◌, ◌<◌, eqb, leb, ltb, length, get_or, take, drop, Option, Some, None, is_some, IfSome, IsErrAnd}
use Rattle.std.specs.Borrow.{Bor}
use Rattle.std.specs.Option.{option_eq, ok_or}
use Rattle.std.proofs.Math.Path.{refl, sym}
use Rattle.std.proofs.Common.{ap, ◌∙◌, add-one, arith, leb-true, leb-false, take-append-drop, drop_of_length-le, drop-cons, drop-drop, length-take-le, ltb-true, ltb-false}
use mathlib.Core.List.{List, [], ◌∷◌, ◌++◌}
use Rattle.std.proofs.Math.Seq.{slice, slice-cons, length-slice}
use Rattle.std.proofs.lemmas.List.{drop-append-le, drop-take}
use Rattle.std.proofs.lemmas.Grind.{get_or_default_zero}
use Rattle.rules.specs.declared.Refusal.{Refusal}
use Rattle.rules.specs.declared.Refusal.TheVariants.{NotIso, YearOrMonth}
use Rattle.rules.specs.Common.{when◌then◌else◌, all, starts, sees, front, run}
use Rattle.rules.specs.SettingsAndUnitTable.{DIGIT, is}
use Rattle.rules.specs.NumbersHandedBack.{Outcome, got, refused, ◌>>=◌}
use Rattle.rules.proofs.Laws.Tests.{eqb_sym}
use Rattle.rules.proofs.Laws.Texts.{run_within, sees_here, sees_end, sees_in}
use Rattle.value.specs.Digits.{run_end, run_passes}
use Rattle.iso.specs.IsoTimings.{Component, wanted, whole, mark, fraction, none, is_mark, kind_of, may_come, year_or_month, digit_step, after_letter, letter_step, step, may_end, read_from}
use Rattle.iso.proofs.Laws.Letters.{mark_not_digit}
use Rattle.iso.proofs.Laws.Runs.{goes_on, wanted_run, mark_run}
use Rattle.iso_reader.specs.declared.counted.Typed.{Typed}
use Rattle.iso_reader.specs.declared.counted.Counted.{Counted}
use Rattle.iso_reader.specs.Kinds.{kind_number}

-- ---- what was found

-- after a number: its letter must come
unfoldable pub letter_from : ℕ → List ℕ → List ℕ → ℕ → List ℕ → Outcome (List Component)
letter_from k ds fs place [] = refused (NotIso place)
letter_from k ds fs place (b ∷ rest) = letter_step k ds fs place b >>= λ m. read_from m.stand (suc place) rest >>= λ cs. got (m.made ++ cs)

-- a number, and the place after it
unfoldable pub number_then : ℕ → List ℕ → Typed × ℕ → Outcome (List Component)
number_then k text n = letter_from k n.0.whole.now n.0.fraction.now n.1 (drop n.1 text)

abbrev pub number_outcome : ℕ → List ℕ → Outcome (Typed × ℕ) → Outcome (List Component)
number_outcome k text read = read >>= number_then k text

abbrev pub component_of : Counted → Component
component_of c = record { whole = c.typed.whole.now; fraction = c.typed.fraction.now; kind = kind_number c.kind }

-- what comes of a component, with the rest of the text
unfoldable pub component_then : List ℕ → Counted → Outcome (List Component)
component_then text c = read_from (after_letter (component_of c)) c.next (drop c.next text) >>= λ cs. got (component_of c ∷ cs)

abbrev pub component_outcome : List ℕ → Outcome Counted → Outcome (List Component)
component_outcome text read = read >>= component_then text

-- a refusal that is handed on
pub handed_on : {A : Type 0} (r : Outcome A) {cause : Refusal} → IsErrAnd r (λ e. e ≡ cause) → r ≡ refused cause
handed_on (got a) h = elim h [ ]
handed_on (refused e) h = ap refused h

-- one that is given where nothing is there
pub none_there : {A : Type 0} (o : Option A) {cause given : Refusal} → refused cause ≡ ok_or o given → cause ≡ given
none_there None e = cc
none_there (Some a) e = cc

-- ---- places of a text

-- what stands there, by the byte that was found there
pub found_there : (test : ℕ → Bool) (text : List ℕ) (place b : ℕ) → place < length text → b ≡ get_or text place 0 → sees test text place ≡ test b
found_there test text place b h e = sees_here test text place h ∙ ap test (sym e)

-- whether the byte stands there, by what was found there
pub stands_there : (text : List ℕ) (place : ℕ) (o : Option (Bor ℕ)) (b : Bor ℕ) → is_some o ≡ ltb place (length text) → IfSome o (λ x. x.now ≡ get_or text place x.now) → option_eq (λ x y. eqb x.now y.now) o (Some b) ≡ sees (eqb b.now) text place
stands_there text place None b e f = sym (sees_end (eqb b.now) text place (ltb-false place (length text) (sym e)))
stands_there text place (Some x) b e f =
    let within : place < length text = ltb-true place (length text) (sym e) in
    eqb_sym x.now b.now ∙ ap (eqb b.now) (f ∙ get_or_default_zero text place x.now within) ∙ sym (sees_here (eqb b.now) text place within)

pub slice_is : (text : List ℕ) (a b : ℕ) → a ≤ b → take (b - a) (drop a text) ≡ slice a b text
slice_is text a b h = let whole : a + (b - a) ≡ b = omega arith in sym (drop-take a (b - a) text) ∙ ap (λ n. drop a (take n text)) whole

-- ---- a text in two

pub split : (text : List ℕ) (a b : ℕ) → a ≤ b → b ≤ length text → slice a b text ++ drop b text ≡ drop a text
split text a b h k =
    sym (drop-append-le a (take b text) (drop b text) (omega (arith, length-take-le b text k))) ∙ ap (drop a) (take-append-drop b text)

none_short : (xs : List ℕ) → 0 < length xs → none xs ≡ false
unfolding none
none_short [] h = absurd (omega arith)
none_short (x ∷ xs) h = refl

front_ends : (test : ℕ → Bool) (rest : List ℕ) → starts test (drop (front test rest) rest) ≡ false
unfolding front starts when◌then◌else◌
front_ends test [] = refl
front_ends test (b ∷ rest) = go (test b) refl (front_ends test rest)
  where
    go : (c : Bool) → test b ≡ c → starts test (drop (front test rest) rest) ≡ false → starts test (drop (when c then suc (front test rest) else 0) (b ∷ rest)) ≡ false
    go true e h = h
    go false e h = e

-- no byte that passes stands after a run
pub run_ends : (test : ℕ → Bool) (text : List ℕ) (place : ℕ) → starts test (drop (run test text place) text) ≡ false
unfolding run
run_ends test text place = ap (starts test) (sym (drop-drop (front test (drop place text)) place text)) ∙ front_ends test (drop place text)

-- ---- the pieces of a number

pub sees_byte : (text : List ℕ) (place b : ℕ) → place < length text → eqb (get_or text place 0) b ≡ sees (eqb b) text place
sees_byte text place b h = eqb_sym (get_or text place 0) b ∙ sym (sees_here (eqb b) text place h)

pub sees_mark : (text : List ℕ) (place : ℕ) → sees is_mark text place ≡ (sees (eqb 46) text place || sees (eqb 44) text place)
unfolding is_mark sees starts
sees_mark text place = go (drop place text)
  where
    go : (rest : List ℕ) → starts (λ b. eqb b 46 || eqb b 44) rest ≡ (starts (eqb 46) rest || starts (eqb 44) rest)
    go [] = refl
    go (b ∷ rest) = rw (eqb_sym b 46, eqb_sym b 44)

module _ (k : ℕ) where
  -- where a digit must come and none does
  pub none_wanted : (place : ℕ) (rest : List ℕ) → starts (is DIGIT) rest ≡ false → refused (NotIso place) ≡ read_from (wanted k) place rest
  unfolding read_from step digit_step starts may_end when◌then◌else◌ ◌>>=◌
  none_wanted place [] e = refl
  none_wanted place (b ∷ rest) e = rw e

  module _ (ds : List ℕ) (place : ℕ) where
    pub whole_letter : (rest : List ℕ) → starts (is DIGIT) rest ≡ false → starts is_mark rest ≡ false → letter_from k ds [] place rest ≡ read_from (whole k ds) place rest
    unfolding letter_from read_from step starts may_end when◌then◌else◌
    whole_letter [] d m = refl
    whole_letter (b ∷ rest) d m = rw (d, m)

    pub whole_mark : (b : ℕ) (rest : List ℕ) → is_mark b ≡ true → read_from (mark k ds b) (suc place) rest ≡ read_from (whole k ds) place (b ∷ rest)
    unfolding step when◌then◌else◌
    whole_mark b rest m = sym (goes_on (whole k ds) (mark k ds b) place b rest (rw (mark_not_digit b m, m)))

    pub none_marked : (b : ℕ) (rest : List ℕ) → starts (is DIGIT) rest ≡ false → refused (NotIso place) ≡ read_from (mark k ds b) place rest
    unfolding read_from step starts may_end when◌then◌else◌ ◌>>=◌
    none_marked b [] e = refl
    none_marked b (x ∷ rest) e = rw e

    pub fraction_letter : (fs rest : List ℕ) → starts (is DIGIT) rest ≡ false → letter_from k ds fs place rest ≡ read_from (fraction k ds fs) place rest
    unfolding letter_from read_from step starts may_end when◌then◌else◌
    fraction_letter fs [] d = refl
    fraction_letter fs (b ∷ rest) d = rw d

-- ---- a number of a text

-- a run from a place on that goes anywhere starts in the text
run_some : (test : ℕ → Bool) (text : List ℕ) (place : ℕ) → place < run test text place → place < length text
run_some test text place h = go (leb (length text) place) refl
  where
    go : (b : Bool) → leb (length text) place ≡ b → place < length text
    go true e = absurd (omega (arith, h, run_end test text place (leb-true (length text) place e)))
    go false e = leb-false (length text) place e

module _ (text : List ℕ) (place : ℕ) where
  pub number_none : run (is DIGIT) text place ≡ place → (k : ℕ) → refused (NotIso place) ≡ read_from (wanted k) place (drop place text)
  number_none e k = none_wanted k place (drop place text) (ap (λ p. starts (is DIGIT) (drop p text)) (sym e) ∙ run_ends (is DIGIT) text place)

  module _ {point : ℕ} (at : point ≡ run (is DIGIT) text place) (some : place < point) where
    within : place < length text
    within = run_some (is DIGIT) text place (rw (← at) some)

    pub point_within : point ≤ length text
    point_within = rw at (run_within (is DIGIT) text place (omega (arith, within)))

    pub whole_passes : all (is DIGIT) (slice place point text) ≡ true
    whole_passes = rw at (run_passes (is DIGIT) text place)

    no_digit : starts (is DIGIT) (drop point text) ≡ false
    no_digit = rw at (run_ends (is DIGIT) text place)

    ds_length : length (slice place point text) ≡ point - place
    ds_length = length-slice place point text point_within

    whole_read : (k : ℕ) → read_from (whole k (slice place point text)) point (drop point text) ≡ read_from (wanted k) place (drop place text)
    whole_read k =
        let behind : place + length (slice place point text) ≡ point = omega (arith, ds_length) in
        sym (rw (← split text place point (omega arith) point_within)
        (wanted_run k (slice place point text) (drop point text) place (none_short (slice place point text) (omega (arith, ds_length))) whole_passes
        ∙ ap (λ p. read_from (whole k (slice place point text)) p (drop point text)) behind))

    -- no mark: the number is its digits
    module _ (unmarked : sees is_mark text point ≡ false) where
      pub number_whole : (k : ℕ) → letter_from k (slice place point text) [] point (drop point text) ≡ read_from (wanted k) place (drop place text)
      unfolding sees
      number_whole k = whole_letter k (slice place point text) point (drop point text) no_digit unmarked ∙ whole_read k

    module _ (marked : sees is_mark text point ≡ true) where
      abbrev b : ℕ
      b = get_or text point 0

      inside : point < length text
      inside = sees_in is_mark text point marked

      is_marked : is_mark b ≡ true
      is_marked = sym (sees_here is_mark text point inside) ∙ marked

      mark_read : (k : ℕ) → read_from (mark k (slice place point text) b) (point + 1) (drop (point + 1) text) ≡ read_from (wanted k) place (drop place text)
      mark_read k =
          rw (add-one point)
          (whole_mark k (slice place point text) point b (drop (suc point) text) is_marked
          ∙ ap (read_from (whole k (slice place point text)) point) (sym (drop-cons text point 0 inside))
          ∙ whole_read k)

      -- a mark without digits
      pub mark_none : run (is DIGIT) text (point + 1) ≡ point + 1 → (k : ℕ) → refused (NotIso (point + 1)) ≡ read_from (wanted k) place (drop place text)
      mark_none e k =
          none_marked k (slice place point text) (point + 1) b (drop (point + 1) text) (ap (λ p. starts (is DIGIT) (drop p text)) (sym e) ∙ run_ends (is DIGIT) text (point + 1))
          ∙ mark_read k

      module _ {end : ℕ} (to : end ≡ run (is DIGIT) text (point + 1)) (more : point + 1 < end) where
        pub end_within : end ≤ length text
        end_within = rw to (run_within (is DIGIT) text (point + 1) (omega (arith, inside)))

        -- the digits behind the mark
        behind_mark : drop 1 (slice point end text) ≡ slice (point + 1) end text
        behind_mark = drop-drop 1 point (take end text)

        decimals_pass : all (is DIGIT) (slice (point + 1) end text) ≡ true
        decimals_pass = rw to (run_passes (is DIGIT) text (point + 1))

        pub fraction_passes : all (is DIGIT) (drop 1 (slice point end text)) ≡ true
        fraction_passes = rw behind_mark decimals_pass

        fs_length : length (slice (point + 1) end text) ≡ end - (point + 1)
        fs_length = length-slice (point + 1) end text end_within

        fraction_is : slice point end text ≡ b ∷ slice (point + 1) end text
        fraction_is = rw (add-one point) (slice-cons point end text 0 (omega arith) end_within)

        -- digits, a mark and digits
        pub number_both : (k : ℕ) → letter_from k (slice place point text) (slice point end text) end (drop end text) ≡ read_from (wanted k) place (drop place text)
        number_both k =
            let behind : point + 1 + length (slice (point + 1) end text) ≡ end = omega (arith, fs_length) in
            rw fraction_is
            (fraction_letter k (slice place point text) end (b ∷ slice (point + 1) end text) (drop end text) (rw to (run_ends (is DIGIT) text (point + 1)))
            ∙ sym (mark_run k (slice place point text) b (slice (point + 1) end text) (drop end text) (point + 1) (none_short (slice (point + 1) end text) (omega (arith, fs_length))) decimals_pass
            ∙ ap (λ p. read_from (fraction k (slice place point text) (b ∷ slice (point + 1) end text)) p (drop end text)) behind)
            ∙ ap (read_from (mark k (slice place point text) b) (point + 1)) (split text (point + 1) end (omega arith) end_within)
            ∙ mark_read k)

-- ---- a component of a text: a number, and its letter

module _ (text ds fs : List ℕ) (end below : ℕ) where
  -- what comes after the number
  abbrev after_number : Outcome (List Component)
  after_number = letter_from below ds fs end (drop end text)

  pub letter_none : length text ≤ end → refused (NotIso end) ≡ after_number
  unfolding letter_from
  letter_none h = rw (drop_of_length-le text h)

  module _ (h : end < length text) where
    abbrev byte : ℕ
    byte = get_or text end 0

    -- the component that it ends
    abbrev lettered : Component
    lettered = record { whole = ds; fraction = fs; kind = kind_of byte }

    pub letter_comes : may_come below (kind_of byte) ≡ true → (read_from (after_letter lettered) (end + 1) (drop (end + 1) text) >>= λ cs. got (lettered ∷ cs)) ≡ after_number
    unfolding letter_from letter_step when◌then◌else◌ ◌>>=◌
    letter_comes e = rw (drop-cons text end 0 h, e, add-one)

    pub letter_year : may_come below (kind_of byte) ≡ false → year_or_month below byte ≡ true → refused (YearOrMonth end) ≡ after_number
    unfolding letter_from letter_step when◌then◌else◌ ◌>>=◌
    letter_year e f = rw (drop-cons text end 0 h, e, f)

    pub letter_other : may_come below (kind_of byte) ≡ false → year_or_month below byte ≡ false → refused (NotIso end) ≡ after_number
    unfolding letter_from letter_step when◌then◌else◌ ◌>>=◌
    letter_other e f = rw (drop-cons text end 0 h, e, f)
