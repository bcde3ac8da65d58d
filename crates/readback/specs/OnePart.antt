-- One written length is read as itself, wherever it stands: behind it the text ends, or a sign begins the next. Assumes nothing.
use Rattle.std.specs.Prelude.{◌≡◌, Bool, ◌||◌, ◌⊎◌, List, [], ◌∷◌, ◌++◌, ℕ, ◌+◌, ◌*◌, ◌-◌, ◌/◌, ◌^◌, ◌≤◌, ◌<◌, eqb, drop}
use Rattle.std.proofs.Math.Path.{refl, sym, ap, ap₂}
use Rattle.std.proofs.Common.{◌∙◌, inl, inr, ⊎_elim, append_assoc, add-zero, mul_assoc, mul-div_cancel, arith, eqb-true, ne_eqb, lit<}
use Rattle.std.proofs.Math.Bool.{true, false, xor}
use Rattle.std.proofs.lemmas.Bool.{false≢true, eqb-false, lt-leb}
use Rattle.std.proofs.Math.ListN.{length, length-append}
use Rattle.std.proofs.Math.Seq.{slice, slice_empty}
use Rattle.rules.specs.declared.ByteSet.{ByteSet}
use Rattle.rules.specs.declared.DurationRepr.{DurationRepr}
use Rattle.rules.specs.declared.Number.{Number}
use Rattle.rules.specs.declared.Repr.TheVariants.{Typed}
use Rattle.rules.specs.declared.Length.{Length}
use Rattle.rules.specs.declared.Settings.{Settings}
use Rattle.rules.specs.declared.Span.{Span}
use Rattle.rules.specs.Common.{when◌then◌else◌, between, starts, sees, run, ends}
use Rattle.rules.specs.NumbersHandedBack.{got, ◌>>=◌}
use Rattle.rules.specs.ThePartOfTheCrateWeTake.{size, well_formed}
use Rattle.rules.specs.SettingsAndUnitTable.{DIGIT, SIGN, POINT, OTHER, class, is, is_next_duration, lower, holds, may_delimit, kind_multiplier, Card, card_check, line_first, stands, held_row, find_row, kind_coefficients, kind_downs}
use Rattle.rules.specs.ReadingOnePart.{same_letter, gap, fraction_step, number_step, exponent_step, in_stretch, find_unit, unit_found, unit_step, connection, finite_part, unsigned_part, part, sign_step}
use Rattle.rules.specs.Evaluation.{spelled, attos, length_of, digits_of, up, down, nanos, evaluate, evaluated, allowed, part_reading}
use Rattle.rules.specs.WriterAndShiftTotal.{decimals, no_leading_zeros, second_digits, sign_byte, whole_digits, fraction_digits, written_fraction, written}
use Rattle.rules.proofs.Laws.Texts.{run_stop, sees_in, sees_or}
use Rattle.rules.proofs.Laws.Written.{Digits, decimals_digits, whole_digits_only, fraction_digits_only, written_sign}
use Rattle.rules.proofs.Laws.Apart.{few_seconds, proper, length_of_size}
use Rattle.rules.proofs.Laws.Choices.{if_either, all_first, all_others}
use Rattle.value.specs.Digits.{ten_pos, ten_sum, digit_high}
use Rattle.settings.specs.Laws.Accepted.{delimiter_class, inner_delimits, outer_delimits}
use Rattle.card.specs.Laws.Accepted.{card_settings, card_hall, card_line, lookup_empty}
use Rattle.rules.proofs.Laws.Tests.{and_false}
use Rattle.writing.specs.Forms.{no_decimals}
use Rattle.rules.proofs.Laws.Layout.{sees_of, behind, run_over, spelled_stretch, goes_on, stretch, gap_none, exponent_none, connection_none}
use Rattle.readback.specs.Spelled.{spelled_whole, fraction_few, spelled_fraction, spelled_append}

-- ---- from the digits to the length

-- the digits of a number with at most nine decimals come to so many nanoseconds
attos_nine : (n f : ℕ) → f ≤ 9 → attos n f 0 0 ≡ n * 10 ^ (9 - f) * 10 ^ 9
unfolding attos
attos_nine n f h =
    let power : 10 ^ 18 ≡ 10 ^ (9 - f) * 10 ^ 9 * 10 ^ f = ten_sum (9 - f + 9) f 18 (omega arith) ∙ ap (λ p. p * 10 ^ f) (ten_sum (9 - f) 9 (9 - f + 9) refl) in
    let moved : n * (10 ^ (9 - f) * 10 ^ 9) ≡ n * 10 ^ (9 - f) * 10 ^ 9 = sym (mul_assoc n (10 ^ (9 - f)) (10 ^ 9)) in
    let product : n * 10 ^ 18 ≡ n * 10 ^ (9 - f) * 10 ^ 9 * 10 ^ f =
    ap (λ p. n * p) power ∙ sym (mul_assoc n (10 ^ (9 - f) * 10 ^ 9) (10 ^ f)) ∙ ap (λ m. m * 10 ^ f) moved in
    ap (λ k. n * 10 ^ 18 / 10 ^ k) (add-zero f) ∙ ap (λ m. m / 10 ^ f) product ∙ mul-div_cancel (n * 10 ^ (9 - f) * 10 ^ 9) (ten_pos f)

-- ---- the steps, where a sign or nothing stands at the place

-- a test that no sign passes fails there
abbrev pub Follows : List ℕ → Type 0
Follows rest = (test : ℕ → Bool) → ((b : ℕ) → is SIGN b ≡ true → test b ≡ false) → starts test rest ≡ false

a_sign : (b : ℕ) → is SIGN b ≡ true → (b ≡ 43) ⊎ (b ≡ 45)
unfolding is class when◌then◌else◌
a_sign b e = go (between 48 57 b) (eqb b 43) (eqb b 45) (eqb b 46) (between 65 90 b || between 97 122 b) refl refl e
  where
    go :
        (digit plus minus point letter : Bool) → eqb b 43 ≡ plus → eqb b 45 ≡ minus
        → eqb (when digit then DIGIT else when plus || minus then SIGN else when point then POINT else when letter then 3 else OTHER) SIGN ≡ true
        → (b ≡ 43) ⊎ (b ≡ 45)
    go true plus minus point letter p m e = absurd (false≢true e)
    go false true minus point letter p m e = inl (eqb-true b 43 p)
    go false false true point letter p m e = inr (eqb-true b 45 m)
    go false false false true letter p m e = absurd (false≢true e)
    go false false false false true p m e = absurd (false≢true e)
    go false false false false false p m e = absurd (false≢true e)

-- where a byte of one kind stands, there is none of another, and the text goes on
starts_other : (f g : ℕ → Bool) (rest : List ℕ) → ((b : ℕ) → f b ≡ true → g b ≡ false) → starts f rest ≡ true → starts g rest ≡ false
unfolding starts
starts_other f g [] other e = refl
starts_other f g (b ∷ rest) other e = other b e

sees_other : (f g : ℕ → Bool) (text : List ℕ) (place : ℕ) → ((b : ℕ) → f b ≡ true → g b ≡ false) → sees f text place ≡ true → sees g text place ≡ false
unfolding sees
sees_other f g text place other e = starts_other f g (drop place text) other e

sees_goes_on : (f : ℕ → Bool) (text : List ℕ) (place : ℕ) → sees f text place ≡ true → ends text place ≡ false
unfolding ends
sees_goes_on f text place e = lt-leb (length text) place (sees_in f text place e)

minus_sign : (negative : Bool) (rest : List ℕ) → starts (eqb 45) (sign_byte negative ∷ rest) ≡ negative
unfolding starts sign_byte when◌then◌else◌
minus_sign true rest = refl
minus_sign false rest = refl

xor_false : (b : Bool) → xor b false ≡ b
unfolding xor
xor_false true = refl
xor_false false = refl

-- seconds have a digit at least
first_digit : (d : ℕ) (digits post : List ℕ) → Digits (d ∷ digits) → starts (is DIGIT) (no_leading_zeros (d ∷ digits) ++ post) ≡ true
unfolding no_leading_zeros starts
first_digit d [] post h = all_first (is DIGIT) d [] h
first_digit d (e ∷ digits) post h =
    let more = first_digit e digits post (all_others (is DIGIT) d (e ∷ digits) h) in
    if_either (λ l. starts (is DIGIT) (l ++ post) ≡ true) (eqb d 48) {x = no_leading_zeros (e ∷ digits)} {y = d ∷ e ∷ digits} (λ _. more) (λ _. all_first (is DIGIT) d (e ∷ digits) h)

whole_begins : (seconds : ℕ) (post : List ℕ) → starts (is DIGIT) (whole_digits seconds ++ post) ≡ true
unfolding whole_digits decimals
whole_begins seconds post = first_digit _ _ post (decimals_digits second_digits seconds)

-- what holds of both signs
either : (a : Bool) → (a || true) ≡ true
either true = refl
either false = refl

of_signs : (P : ℕ → Type 0) → P 43 → P 45 → (b : ℕ) → is SIGN b ≡ true → P b
of_signs P plus minus b e = ⊎_elim (λ z. rw z plus) (λ z. rw z minus) (a_sign b e)

module _ (card : Card) (good : card_check card ≡ got tt) where
  abbrev s : Settings
  s = card.settings

  -- no sign and no digit is a delimiter
  no_delimiter :
      (set : ByteSet)
      → ((b : ℕ) → b < 256 → holds set b ≡ true → may_delimit b ≡ true)
      → (c b : ℕ)
      → (c ≡ OTHER → ⊥)
      → b < 256
      → is c b ≡ true
      → holds set b ≡ false
  unfolding is
  no_delimiter set only c b other below e = go (holds set b) refl
    where
      go : (h : Bool) → holds set b ≡ h → h ≡ false
      go true h = absurd (other (sym (eqb-true (class b) c e) ∙ delimiter_class b (only b below h)))
      go false h = refl

  module _ (b : ℕ) where
    sign_below : is SIGN b ≡ true → b < 256
    sign_below e = of_signs (λ x. x < 256) (lit< tt) (lit< tt) b e

    sign_not_inner : is SIGN b ≡ true → holds s.inner b ≡ false
    sign_not_inner e = no_delimiter s.inner (inner_delimits s (card_settings card good)) SIGN b (λ z. omega (arith, z)) (sign_below e) e

    sign_not_outer : is SIGN b ≡ true → holds s.outer b ≡ false
    sign_not_outer e = no_delimiter s.outer (outer_delimits s (card_settings card good)) SIGN b (λ z. omega (arith, z)) (sign_below e) e

    digit_not_inner : is DIGIT b ≡ true → holds s.inner b ≡ false
    digit_not_inner e = no_delimiter s.inner (inner_delimits s (card_settings card good)) DIGIT b (λ z. omega (arith, z)) (omega (arith, digit_high b e)) e

    sign_not_stretch : is SIGN b ≡ true → in_stretch s b ≡ false
    unfolding in_stretch is_next_duration
    sign_not_stretch e = rw (e, either (is DIGIT b), either (holds s.outer b))

    sign_not_e : is SIGN b ≡ true → same_letter 101 b ≡ false
    unfolding same_letter lower between when◌then◌else◌
    sign_not_e e = of_signs (λ x. same_letter 101 x ≡ false) refl refl b e

  module _ (text : List ℕ) (place : ℕ) where
    module _ {rest : List ℕ} (here : drop place text ≡ rest) (follows : Follows rest) where
      no : (test : ℕ → Bool) → ((b : ℕ) → is SIGN b ≡ true → test b ≡ false) → sees test text place ≡ false
      no test fails = sees_of text place test here ∙ follows test fails

      no_exponent : exponent_step s text place ≡ got (record { exponent = record { negative = false; power = 0 }; next = place })
      no_exponent = exponent_none s text place (no (same_letter 101) sign_not_e)

      no_gap : (on : Bool) → gap on s text place ≡ got place
      no_gap on = gap_none s text place on (no (holds s.inner) sign_not_inner)

      no_unit : unit_step card text place ≡ got (record { multiplier = kind_multiplier s.default_kind; next = place })
      unfolding unit_step find_unit find_row stands line_first held_row unit_found
      no_unit =
          rw (
            run_stop (in_stretch s) text place (no (in_stretch s) sign_not_stretch),
            slice_empty place text,
            lookup_empty s card.line (card_line card good),
            lookup_empty s card.hall (card_hall card good),
          )

      no_connection : connection s text place ≡ got place
      no_connection = connection_none s text place (no (holds s.outer) sign_not_outer)

  -- ---- the part

  module _ (default : s.default_kind ≡ 3) (fractions : s.fractions ≡ true) (negatives : s.negatives ≡ true) where
    module _ (l : Length) (well : well_formed l ≡ true) (rest : List ℕ) (follows : Follows rest) (text : List ℕ) (place : ℕ) (here : drop place text ≡ written l ++ rest) where
      abbrev whole : List ℕ
      whole = whole_digits l.seconds

      abbrev fract : List ℕ
      fract = written_fraction l.nanoseconds

      at_sign : drop place text ≡ (sign_byte l.negative ∷ []) ++ (whole ++ (fract ++ rest))
      unfolding written
      at_sign = here ∙ ap (λ r. sign_byte l.negative ∷ r) (append_assoc whole fract rest)

      at_whole : drop (place + 1) text ≡ whole ++ (fract ++ rest)
      at_whole = behind text place (sign_byte l.negative ∷ []) (whole ++ (fract ++ rest)) at_sign

      -- no digit, and so no zero, stands behind the digits
      no_digit : (b : ℕ) → is SIGN b ≡ true → is DIGIT b ≡ false
      unfolding is class between when◌then◌else◌
      no_digit b e = of_signs (λ x. is DIGIT x ≡ false) refl refl b e

      no_zero : (b : ℕ) → is SIGN b ≡ true → eqb 48 b ≡ false
      no_zero b e = of_signs (λ x. eqb 48 x ≡ false) refl refl b e

      no_point : (b : ℕ) → is SIGN b ≡ true → is POINT b ≡ false
      unfolding is class between when◌then◌else◌
      no_point b e = of_signs (λ x. is POINT x ≡ false) refl refl b e

      -- nor does one stand behind the whole digits
      whole_stops : (test : ℕ → Bool) → test 46 ≡ false → ((b : ℕ) → is SIGN b ≡ true → test b ≡ false) → starts test (fract ++ rest) ≡ false
      unfolding written_fraction starts
      whole_stops test point signs =
          if_either (λ f. starts test (f ++ rest) ≡ false) (eqb l.nanoseconds 0) {x = []} {y = 46 ∷ fraction_digits l.nanoseconds}
          (λ _. follows test signs) (λ _. point)

      whole_ends : run (is DIGIT) text (place + 1) ≡ place + 1 + length whole
      unfolding is class between when◌then◌else◌
      whole_ends = run_over text (place + 1) whole (fract ++ rest) at_whole (is DIGIT) (whole_digits_only l.seconds) (whole_stops (is DIGIT) refl no_digit)

      whole_spelled : spelled 0 (slice (run (eqb 48) text (place + 1)) (place + 1 + length whole) text) ≡ l.seconds
      whole_spelled = spelled_stretch text (place + 1) whole (fract ++ rest) at_whole (whole_stops (eqb 48) refl no_zero) ∙ spelled_whole l.seconds (few_seconds l well)

      at_fraction : drop (place + 1 + length whole) text ≡ fract ++ rest
      at_fraction = behind text (place + 1) whole (fract ++ rest) at_whole

      begins : sees (is DIGIT) text (place + 1) ≡ true
      begins = sees_of text (place + 1) (is DIGIT) at_whole ∙ whole_begins l.seconds (fract ++ rest)

      a_sign_here : sees (is SIGN) text place ≡ true
      unfolding starts
      a_sign_here = sees_of text place (is SIGN) at_sign ∙ written_sign l.negative

      the_sign : sees (eqb 45) text place ≡ l.negative
      the_sign = sees_of text place (eqb 45) at_sign ∙ minus_sign l.negative (whole ++ (fract ++ rest))

      signed : sign_step s text place ≡ got (record { negative = l.negative; next = place + 1 })
      unfolding sign_step when◌then◌else◌ ◌>>=◌
      signed =
          rw (
            a_sign_here,
            sees_goes_on (is DIGIT) text (place + 1) begins,
            gap_none s text (place + 1) s.after_sign (sees_other (is DIGIT) (holds s.inner) text (place + 1) digit_not_inner begins),
            the_sign,
          )

      -- the point's place, or that of the rest
      abbrev point : ℕ
      point = place + 1 + length whole

      abbrev typed : Span
      typed = record { start = run (eqb 48) text (place + 1); end = point }

      module _ (none : l.nanoseconds ≡ 0) where
        no_fract : fract ≡ []
        unfolding written_fraction when◌then◌else◌
        no_fract = rw none

        rest_at_point : drop point text ≡ rest
        rest_at_point = at_fraction ∙ ap (λ f. f ++ rest) no_fract

        number_none : number_step s text (place + 1) ≡ got (record { whole = typed; fract = record { start = point; end = point }; next = point })
        unfolding number_step fraction_step when◌then◌else◌
        number_none = rw (whole_ends, no text point rest_at_point follows (is POINT) no_point)

      module _ (some : l.nanoseconds ≡ 0 → ⊥) where
        fract_is : fract ≡ 46 ∷ fraction_digits l.nanoseconds
        unfolding written_fraction when◌then◌else◌
        fract_is = rw (ne_eqb l.nanoseconds 0 some)

        decimals_at : drop point text ≡ (46 ∷ []) ++ (fraction_digits l.nanoseconds ++ rest)
        decimals_at = at_fraction ∙ ap (λ f. f ++ rest) fract_is

        first_decimal : drop (point + 1) text ≡ fraction_digits l.nanoseconds ++ rest
        first_decimal = behind text point (46 ∷ []) (fraction_digits l.nanoseconds ++ rest) decimals_at

        decimals_end : run (is DIGIT) text (point + 1) ≡ point + 1 + length (fraction_digits l.nanoseconds)
        decimals_end = run_over text (point + 1) (fraction_digits l.nanoseconds) rest first_decimal (is DIGIT) (fraction_digits_only l.nanoseconds) (follows (is DIGIT) no_digit)

        a_point : sees (is POINT) text point ≡ true
        unfolding starts is class between when◌then◌else◌
        a_point = sees_of text point (is POINT) decimals_at

        abbrev last : ℕ
        last = point + 1 + length (fraction_digits l.nanoseconds)

        number_some : number_step s text (place + 1) ≡ got (record { whole = typed; fract = record { start = point + 1; end = last }; next = last })
        unfolding number_step fraction_step when◌then◌else◌
        number_some = rw (whole_ends, a_point, fractions, begins, decimals_end)

        rest_at_last : drop last text ≡ rest
        rest_at_last = behind text (point + 1) (fraction_digits l.nanoseconds) rest first_decimal

      -- ---- what was typed, evaluated

      module _ (number : Number) (at_end : number.next ≡ place + length (written l)) where
        module _
            (seconds : spelled 0 (digits_of text number.whole number.fract) ≡ spelled l.seconds (fraction_digits l.nanoseconds))
            (decimals_typed : number.fract.end - number.fract.start ≡ length (fraction_digits l.nanoseconds)) where
          -- the decimals are those of the nanoseconds, so that nothing is cut
          typed_attos : attos (spelled 0 (digits_of text number.whole number.fract)) (number.fract.end - number.fract.start) 0 0 ≡ size l * 10 ^ 9
          unfolding size
          typed_attos =
              ap₂ (λ n f. attos n f 0 0) seconds decimals_typed
              ∙ attos_nine (spelled l.seconds (fraction_digits l.nanoseconds)) (length (fraction_digits l.nanoseconds)) (fraction_few l.nanoseconds)
              ∙ ap (λ n. n * 10 ^ 9) (spelled_fraction l.seconds l.nanoseconds (proper l well))

          abbrev repr : DurationRepr
          repr =
              record {
                negative = l.negative;
                infinite = false;
                whole = number.whole;
                fract = number.fract;
                exponent = record { negative = false; power = 0 };
                multiplier = kind_multiplier s.default_kind;
              }

          read_back : evaluate text repr ≡ l
          unfolding evaluate when◌then◌else◌ up down nanos kind_multiplier kind_coefficients kind_downs
          read_back = rw (default, typed_attos) (ap₂ length_of (xor_false l.negative) (omega arith) ∙ length_of_size l well)

          module _ (read : number_step s text (place + 1) ≡ got number) (rest_there : drop number.next text ≡ rest) where
            finite : finite_part card text l.negative (place + 1) ≡ got (record { repr = Typed repr; next = number.next })
            unfolding finite_part ◌>>=◌
            finite =
                rw (
                  read,
                  no_exponent text number.next rest_there follows,
                  no_gap text number.next rest_there follows s.before_unit,
                  no_unit text number.next rest_there follows,
                  no_connection text number.next rest_there follows,
                )

            one_part : part card text place ≡ got (record { repr = Typed repr; next = number.next })
            unfolding part unsigned_part when◌then◌else◌ ◌>>=◌
            one_part = rw (goes_on text place at_sign, signed, finite, sees_or (is DIGIT) (is POINT) text (place + 1), begins)

            reads : part_reading card text place ≡ got (record { length = l; next = place + length (written l) })
            unfolding part_reading evaluated allowed when◌then◌else◌ ◌>>=◌
            reads = rw (one_part, read_back, negatives, at_end, and_false)

      -- ---- without decimals, and with some

      size_written : length (written l) ≡ 1 + length whole + length fract
      unfolding written
      size_written = omega (arith, length-append whole fract)

      reads_whole : l.nanoseconds ≡ 0 → part_reading card text place ≡ got (record { length = l; next = place + length (written l) })
      unfolding digits_of
      reads_whole none =
          reads (record { whole = typed; fract = record { start = point; end = point }; next = point })
          (omega (arith, size_written, ap length (no_fract none)))
          (spelled_append 0 (slice typed.start typed.end text) (slice point point text)
          ∙ ap₂ spelled whole_spelled (slice_empty point text ∙ sym (ap fraction_digits none ∙ no_decimals)))
          (omega (arith, ap length (ap fraction_digits none ∙ no_decimals)))
          (number_none none)
          (rest_at_point none)

      reads_decimals : (l.nanoseconds ≡ 0 → ⊥) → part_reading card text place ≡ got (record { length = l; next = place + length (written l) })
      unfolding digits_of
      reads_decimals some =
          reads (record { whole = typed; fract = record { start = point + 1; end = last some }; next = last some })
          (omega (arith, size_written, ap length (fract_is some)))
          (spelled_append 0 (slice typed.start typed.end text) (slice (point + 1) (last some) text)
          ∙ ap₂ spelled whole_spelled (stretch text (point + 1) (fraction_digits l.nanoseconds) rest (first_decimal some)))
          (omega arith)
          (number_some some)
          (rest_at_last some)

      pub part_reads : part_reading card text place ≡ got (record { length = l; next = place + length (written l) })
      part_reads = go (eqb l.nanoseconds 0) refl
        where
          go : (b : Bool) → eqb l.nanoseconds 0 ≡ b → part_reading card text place ≡ got (record { length = l; next = place + length (written l) })
          go true e = reads_whole (eqb-true l.nanoseconds 0 e)
          go false e = reads_decimals (eqb-false l.nanoseconds 0 e)
