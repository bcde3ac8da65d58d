-- For each row that is accepted there is a text that finds it: zero of the unit, so that it comes to zero whatever the row's
-- coefficient, and is accepted with negatives off too. Assumes nothing.
use Rattle.std.specs.Prelude.{◌≡◌, Bool, true, false, not, ◌&&◌, ◌||◌, eqb, drop}
use Rattle.std.proofs.Math.Path.{refl, sym, ap}
use Rattle.std.proofs.Common.{◌∙◌, zero-mul, mul-zero, arith, length-drop}
use Rattle.std.proofs.lemmas.Bool.{false≢true}
use mathlib.Core.List.{List, [], ◌∷◌, ◌++◌, append-nil}
use Prim.Native.Nat.{ℕ, zero, suc, ◌+◌, ◌^◌, ◌≤◌, ◌<◌}
use Rattle.std.proofs.Math.Nat.{zero-div}
use Rattle.std.proofs.Math.ListN.{length}
use borrow.Author.Tests.{le-leb, eqb-true, eq-eqb, ne_eqb, not-true}
use Rattle.rules.specs.declared.ByteSet.{ByteSet}
use Rattle.rules.specs.declared.Settings.{Settings}
use Rattle.rules.specs.declared.Scaled.{Scaled}
use Rattle.rules.specs.declared.DurationRepr.{DurationRepr}
use Rattle.rules.specs.declared.Repr.TheVariants.{Typed}
use Rattle.rules.specs.Common.{when◌then◌else◌, ascii, between, all, runs, ends, starts, sees, run}
use Rattle.rules.specs.ThePartOfTheCrateWeTake.{zero_length, size}
use Rattle.rules.specs.NumbersHandedBack.{got, ◌>>=◌}
use Rattle.rules.specs.SettingsAndUnitTable.{DIGIT, SIGN, POINT, OTHER, class, is, is_next_duration, lower, holds, empty, may_name, settings_check, row_size, rows, row, name, product, led_by_e, e_may_lead, can_be_typed, row_right, Card, Holder, stands, find_row}
use Rattle.rules.specs.ReadingOnePart.{same_letter, delimiters, gap, sign_step, fraction_step, number_step, exponent_limit, exponent_digits, exponent_number, exponent_step, in_stretch, ago_step, find_unit, unit_step, finite_part, unsigned_part, part}
use Rattle.rules.specs.Evaluation.{spelled, digits_of, attos, nanos, length_of, evaluate, evaluated, allowed, part_reading, sum, sum_all, parts, total}
use Rattle.rules.proofs.Laws.Choices.{or_neither, if_either, and_both, and_left, and_right, all_first, all_weaken}
use Rattle.rules.proofs.Laws.Tests.{and_false}
use Rattle.rules.proofs.Laws.Lists.{runs_below}
use Rattle.rules.proofs.Laws.Outcomes.{bind_got}
use Rattle.rules.proofs.Laws.Texts.{ends_le, sees_end}
use Rattle.rules.proofs.Laws.Apart.{none as no_length}
use Rattle.rules.proofs.Laws.Layout.{sees_of, run_over, stretch, goes_on, gap_none, exponent_none, connection_none}
use Rattle.rows.specs.Named.{padded}
use Rattle.card.specs.Laws.Table.{right_padded, right_name}
use Rattle.settings.specs.Laws.Accepted.{delimiter_class, inner_delimits}
use Rattle.card.specs.Laws.Accepted.{own_name}
use Rattle.rows.specs.Laws.Rows.{length_row}
use Rattle.rows.specs.Laws.Rooms.{name_some, size_most, name_bytes}
use Rattle.findable.specs.TheTextForARow.{first_held, joint, text_for}
use Rattle.findable.specs.WhereAPartFindsItsUnit.{unit_stands, number_unit, unsigned_unit, unit_of, counted, units, among, among_got, finds}
use Rattle.findable.specs.OneOfTheTwoTables.{row_held, Whose, table_of, row_in, held_there, Unhidden, holder_same}
use Rattle.findable.proofs.OneOfTheTwoTables.{stands_there}
use Rattle.findable.proofs.TheReadersOwn.{a_row}

-- the text can be read, comes to zero, and a part of it finds its unit there
abbrev pub Reads : Card → Holder → List ℕ → Type 0
Reads card at text = (total card text ≡ got zero_length) × (finds card text at ≡ true)

-- ---- bytes of a name

module _ (s : Settings) (b : ℕ) (may : may_name s b ≡ true) where
  name_byte : (holds s.inner b ≡ false) × (holds s.outer b ≡ false) × (is DIGIT b ≡ false) × (is SIGN b ≡ false) × (is POINT b ≡ false)
  unfolding may_name
  name_byte =
      let point = or_neither _ (is POINT b) (not-true _ may) in
      let sign = or_neither _ (is SIGN b) point.0 in
      let digit = or_neither _ (is DIGIT b) sign.0 in
      let delimiter = or_neither (holds s.inner b) (holds s.outer b) digit.0 in
      (delimiter.0, delimiter.1, digit.1, sign.1, point.1)

  name_in_stretch : in_stretch s b ≡ true
  unfolding in_stretch is_next_duration
  name_in_stretch = rw (name_byte.0, name_byte.1, name_byte.2, name_byte.3, and_false s.ago)

-- ---- zero times whatever is zero

no_attos : (f up down : ℕ) → attos 0 f up down ≡ 0
unfolding attos
no_attos f up down = rw (zero-mul (10 ^ (18 + up)), zero-div (10 ^ (f + down)))

no_nanos : (c : ℕ) → nanos c 0 ≡ 0
unfolding nanos
no_nanos c = rw (mul-zero c)

-- ---- what the text has before the name: `0`, and `e`

fixed : (is DIGIT 48 ≡ true) × (is SIGN 48 ≡ false) × (is DIGIT 101 ≡ false) × (is POINT 101 ≡ false)
unfolding is class between when◌then◌else◌
fixed = (refl, refl, refl, refl)

no_zero : (rest : List ℕ) → starts (is DIGIT) rest ≡ false → starts (eqb 48) rest ≡ false
unfolding starts
no_zero [] e = refl
no_zero (b ∷ rest) e = go (eqb 48 b) refl
  where
    go : (z : Bool) → eqb 48 b ≡ z → z ≡ false
    go true z = absurd (false≢true (sym e ∙ ap (is DIGIT) (sym (eqb-true 48 b z)) ∙ fixed.0))
    go false z = refl

-- ---- the first byte that a set holds

held_first : (set : ByteSet) (n b : ℕ) → runs (λ k. not (holds set k)) b n ≡ false → (holds set (first_held set b n) ≡ true) × (first_held set b n < b + n)
unfolding runs first_held when◌then◌else◌
held_first set zero b e = absurd (false≢true (sym e))
held_first set (suc n) b e = go (holds set b) refl e (held_first set n (suc b))
  where
    others : Bool
    others = runs (λ k. not (holds set k)) (suc b) n

    go :
        (held : Bool) → holds set b ≡ held
        → (not held && others) ≡ false
        → (others ≡ false → (holds set (first_held set (suc b) n) ≡ true) × (first_held set (suc b) n < suc b + n))
        → (holds set (when held then b else first_held set (suc b) n) ≡ true) × ((when held then b else first_held set (suc b) n) < b + suc n)
    go true at e more = (at, omega arith)
    go false at e more = ((more e).0, omega (arith, (more e).1))

-- a delimiter begins no number and no exponent
other_class : (c d : ℕ) → (c ≡ OTHER → ⊥) → class d ≡ OTHER → is c d ≡ false
unfolding is
other_class c d apart other = ne_eqb (class d) c (λ e. apart (sym e ∙ other))

other_not_e : (d : ℕ) → d < 256 → class d ≡ OTHER → same_letter 101 d ≡ false
unfolding runs is class same_letter lower between when◌then◌else◌
other_not_e d below other =
    let apart : (not (is OTHER d) || not (same_letter 101 d)) ≡ true = runs_below (λ k. not (is OTHER k) || not (same_letter 101 k)) 256 d refl below in
    not-true (same_letter 101 d) (rw (eq-eqb (class d) OTHER other) at apart)

-- ---- an exponent of zero, and one delimiter

zero_exponent : (s : Settings) (b : ℕ) (m : List ℕ) → s.exponents ≡ true → is DIGIT b ≡ false → exponent_step s (48 ∷ 101 ∷ 48 ∷ b ∷ m) 1 ≡ got (record { exponent = record { negative = false; power = 0 }; next = 3 })
unfolding exponent_step exponent_number exponent_digits exponent_limit sees starts same_letter lower between when◌then◌else◌
zero_exponent s b m on no_digit = rw (on, fixed.1, fixed.0, no_digit)

one_delimiter : (s : Settings) (d b : ℕ) (m : List ℕ) → s.before_unit ≡ true → holds s.inner d ≡ true → holds s.inner b ≡ false → gap s.before_unit s (48 ∷ d ∷ b ∷ m) 1 ≡ got 2
unfolding gap delimiters sees starts all when◌then◌else◌
one_delimiter s d b m on held other =
    rw (on, held, run_over (48 ∷ d ∷ b ∷ m) 1 (d ∷ []) (b ∷ m) refl (holds s.inner) (and_both held refl) other, goes_on (48 ∷ d ∷ b ∷ m) 2 refl)

module _ (card : Card) where
  abbrev s : Settings
  s = card.settings

  -- a name, and the row that is found by it
  abbrev FoundAt : List ℕ → Holder → Type 0
  FoundAt named at = (stands card.hall card.line named ≡ at) × (length (row_held card at) ≡ row_size)

  -- ---- a text of zero and a name: what stands after the zero is no digit and no point, and an exponent and a gap may come before the name

  module _ (rest : List ℕ) (no_digit : starts (is DIGIT) rest ≡ false) (no_point : starts (is POINT) rest ≡ false) where
    abbrev text : List ℕ
    text = 48 ∷ rest

    run_one : (test : ℕ → Bool) → all test (48 ∷ []) ≡ true → starts test rest ≡ false → run test text 0 ≡ 1
    run_one test passes stops = run_over text 0 (48 ∷ []) rest refl test passes stops

    no_sign : sign_step s text 0 ≡ got (record { negative = false; next = 0 })
    unfolding sign_step sees starts is class between when◌then◌else◌
    no_sign = refl

    a_digit : sees (λ b. is DIGIT b || is POINT b) text 0 ≡ true
    unfolding sees starts is class between when◌then◌else◌
    a_digit = refl

    the_zero : number_step s text 0 ≡ got (record { whole = record { start = 1; end = 1 }; fract = record { start = 1; end = 1 }; next = 1 })
    unfolding number_step fraction_step sees all when◌then◌else◌
    the_zero = rw (run_one (eqb 48) refl (no_zero rest no_digit), run_one (is DIGIT) (and_both fixed.0 refl) no_digit, no_point)

    -- up to the name at the place nothing is refused, and the lookup finds the name
    module _
        (at : Holder)
        (place : ℕ)
        (scaled : Scaled)
        (typed_exponent : exponent_step s text 1 ≡ got scaled)
        (typed_gap : gap s.before_unit s text scaled.next ≡ got place)
        (named : List ℕ)
        (here : drop place text ≡ named)
        (stretches : all (in_stretch s) named ≡ true)
        (found : FoundAt named at)
      where
        abbrev end : ℕ
        end = place + length named

        at_place : drop place text ≡ named ++ []
        at_place = here ∙ sym (append-nil named)

        at_end : ends text end ≡ true
        unfolding ends
        at_end = le-leb (length text) end (omega (arith, sym (length-drop place text) ∙ ap length here))

        no_more : (test : ℕ → Bool) → sees test text end ≡ false
        no_more test = sees_end test text end (ends_le text end at_end)

        to_end : run (in_stretch s) text place ≡ end
        unfolding starts
        to_end = run_over text place named [] at_place (in_stretch s) stretches refl

        the_name : unit_stands card text place ≡ at
        unfolding unit_stands
        the_name = rw (to_end, stretch text place named [] at_place, found.0)

        the_row : find_unit card text place ≡ row_held card at
        unfolding find_unit find_row unit_stands
        the_row = ap (row_held card) the_name

        the_unit : unit_step card text place ≡ got (record { multiplier = product (row_held card at); next = end })
        unfolding unit_step ago_step when◌then◌else◌
        the_unit = rw (the_row, a_row card text place (row_held card at) found.1, to_end, no_more (holds s.inner), and_false s.ago)

        abbrev repr : DurationRepr
        repr = record {
          negative = false;
          infinite = false;
          whole = record { start = 1; end = 1 };
          fract = record { start = 1; end = 1 };
          exponent = scaled.exponent;
          multiplier = product (row_held card at);
        }

        the_number : finite_part card text false 0 ≡ got (record { repr = Typed repr; next = end })
        unfolding finite_part
        the_number =
            bind_got _ the_zero
            ∙ bind_got _ typed_exponent
            ∙ bind_got _ typed_gap
            ∙ bind_got _ the_unit
            ∙ bind_got _ (connection_none s text end (no_more (holds s.outer)))

        the_part : part card text 0 ≡ got (record { repr = Typed repr; next = end })
        unfolding part unsigned_part when◌then◌else◌
        the_part = rw (goes_on text 0 refl) (bind_got _ no_sign ∙ rw a_digit the_number)

        -- it comes to zero, whatever the row
        nothing : evaluate text repr ≡ zero_length
        unfolding evaluate digits_of spelled when◌then◌else◌
        nothing = rw (no_attos, no_nanos, no_length)

        the_reading : part_reading card text 0 ≡ got (record { length = zero_length; next = end })
        unfolding part_reading evaluated allowed zero_length when◌then◌else◌
        the_reading = bind_got _ the_part ∙ bind_got _ (ap got nothing)

        finds_row : unit_of card text 0 ≡ got at
        unfolding unit_of unsigned_unit number_unit when◌then◌else◌
        finds_row = bind_got _ no_sign ∙ rw a_digit (bind_got _ the_zero ∙ bind_got _ typed_exponent ∙ bind_got _ typed_gap ∙ ap got the_name)

        -- the text can be read, and it finds the row
        is_read : total card text ≡ got zero_length
        unfolding total parts sum_all sum size length_of zero_length when◌then◌else◌ ◌>>=◌
        is_read = rw (the_reading, at_end)

        is_found : finds card text at ≡ true
        unfolding finds units counted among_got among when◌then◌else◌ ◌>>=◌
        is_found = rw (the_part, the_reading, finds_row, at_end, holder_same at)

        reads : Reads card at text
        reads = (is_read, is_found)

  -- ---- the three texts

  module _ (b : ℕ) (m : List ℕ) (may : all (may_name s) (b ∷ m) ≡ true) (at : Holder) (found : FoundAt (b ∷ m) at) where
    abbrev named : List ℕ
    named = b ∷ m

    first : (holds s.inner b ≡ false) × (holds s.outer b ≡ false) × (is DIGIT b ≡ false) × (is SIGN b ≡ false) × (is POINT b ≡ false)
    first = name_byte s b (all_first (may_name s) b m may)

    stretches : all (in_stretch s) named ≡ true
    stretches = all_weaken (may_name s) (in_stretch s) (name_in_stretch s) named may

    no_gap : (text : List ℕ) (place : ℕ) → drop place text ≡ named → gap s.before_unit s text place ≡ got place
    unfolding starts
    no_gap text place here = gap_none s text place s.before_unit (sees_of text place (holds s.inner) here ∙ first.0)

    -- `0s`
    plain : led_by_e named ≡ false → Reads card at (48 ∷ named)
    unfolding led_by_e starts sees same_letter lower between when◌then◌else◌
    plain unled =
        let exponent = exponent_none s (48 ∷ named) 1 unled in
        reads named first.2 first.4 at 1 _ exponent (no_gap (48 ∷ named) 1 refl) named refl stretches found

    -- `0e0eon`
    with_exponent : s.exponents ≡ true → Reads card at (48 ∷ 101 ∷ 48 ∷ named)
    unfolding starts
    with_exponent on = reads (101 ∷ 48 ∷ named) fixed.2 fixed.3 at 3 _ exponent (no_gap (48 ∷ 101 ∷ 48 ∷ named) 3 refl) named refl stretches found
      where
        exponent : exponent_step s (48 ∷ 101 ∷ 48 ∷ named) 1 ≡ got (record { exponent = record { negative = false; power = 0 }; next = 3 })
        exponent = zero_exponent s b m on first.2

    -- `0 eon`
    with_delimiter : (d : ℕ) → class d ≡ OTHER → d < 256 → holds s.inner d ≡ true → s.before_unit ≡ true → Reads card at (48 ∷ d ∷ named)
    unfolding starts sees
    with_delimiter d other below held on =
        reads (d ∷ named) (other_class DIGIT d (λ e. omega (arith, e)) other) (other_class POINT d (λ e. omega (arith, e)) other) at 2 _
        (exponent_none s (48 ∷ d ∷ named) 1 (other_not_e d below other)) delimiter named refl stretches found
      where
        delimiter : gap s.before_unit s (48 ∷ d ∷ named) 1 ≡ got 2
        delimiter = one_delimiter s d b m on held first.0

  -- ---- every name that can be typed

  typed_text : settings_check s ≡ got tt → (n : List ℕ) → (n ≡ [] → ⊥) → all (may_name s) n ≡ true → can_be_typed s n ≡ true → (at : Holder) → FoundAt n at → Reads card at (text_for s n)
  unfolding text_for joint can_be_typed e_may_lead empty ascii when◌then◌else◌
  typed_text good [] some may typed at found = absurd (some refl)
  typed_text good (b ∷ m) some may typed at found = go (led_by_e (b ∷ m)) s.exponents refl refl typed
    where
      d : ℕ
      d = first_held s.inner 0 256

      go :
          (led on : Bool) → led_by_e (b ∷ m) ≡ led → s.exponents ≡ on
          → (not led || (on || s.before_unit && not (empty s.inner))) ≡ true
          → Reads card at (48 ∷ (when not led then [] else when on then ascii "e0" else d ∷ []) ++ b ∷ m)
      go false on e f may_lead = plain b m may at found e
      go true true e f may_lead = with_exponent b m may at found f
      go true false e f may_lead =
          let held = held_first s.inner 256 0 (not-true (empty s.inner) (and_right s.before_unit (not (empty s.inner)) may_lead)) in
          with_delimiter b m may at found d (delimiter_class d (inner_delimits s good d held.1 held.0)) held.1 held.0 (and_left s.before_unit (not (empty s.inner)) may_lead)

  -- ---- for each row that passes document 01's tests, of either table and whatever the other rows are: if its name can be typed and is not hidden,
  -- there is a text that finds it

  module _ (whose : Whose) (i : ℕ) (below : i < rows (table_of whose card)) (right : row_right s (table_of whose card) i ≡ true) where
    abbrev its_row : List ℕ
    its_row = row (table_of whose card) i

    long : length its_row ≡ row_size
    long = length_row (table_of whose card) i below

    padded_row : padded its_row ≡ true
    padded_row = right_padded s (table_of whose card) i right

    pub row_typed : settings_check s ≡ got tt → can_be_typed s (name its_row) ≡ true → Unhidden whose card (name its_row) → Reads card (row_in whose i) (text_for s (name its_row))
    row_typed good typed unhidden =
        typed_text good (name its_row) (name_some its_row long padded_row) (right_name s (table_of whose card) i right) typed (row_in whose i)
        (stands_there whose card (name its_row) i unhidden (own_name s (table_of whose card) i below right), ap length (held_there whose card i) ∙ long)

    -- at most 35 bytes
    pub text_short : length (text_for s (name its_row)) ≤ 35
    unfolding text_for joint ascii
    text_short =
        let at_most = size_most its_row long padded_row in
        if_either (λ l. suc (length (l ++ name its_row)) ≤ 35) (not (led_by_e (name its_row))) {x = []} {y = _}
        (λ _. omega (arith, at_most, name_bytes its_row long padded_row))
        (λ _.
        if_either (λ l. suc (length (l ++ name its_row)) ≤ 35) s.exponents {x = 101 ∷ 48 ∷ []} {y = first_held s.inner 0 256 ∷ []}
        (λ _. omega (arith, at_most, name_bytes its_row long padded_row)) (λ _. omega (arith, at_most, name_bytes its_row long padded_row)))
