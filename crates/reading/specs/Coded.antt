-- A part as it is evaluated, and how it is put together: what it counts, and then its unit. Assumes nothing.
use Rattle.std.specs.Prelude.{◌≡◌, Bool, false, ℕ, ◌<◌, Option, Some, None}
use Rattle.std.proofs.Math.Path.{refl, sym, ap}
use Rattle.std.proofs.Common.{◌∙◌}
use mathlib.Core.List.{List, [], ◌∷◌}
use Rattle.rules.specs.declared.Settings.{Settings}
use Rattle.rules.specs.declared.Multiplier.{Multiplier}
use Rattle.rules.specs.declared.Number.{Number}
use Rattle.rules.specs.declared.Scaled.{Scaled}
use Rattle.rules.specs.declared.DurationRepr.{DurationRepr}
use Rattle.rules.specs.declared.SpokenRepr.{SpokenRepr}
use Rattle.rules.specs.declared.Repr.{Repr}
use Rattle.rules.specs.declared.Repr.TheVariants.{Typed, Spoken}
use Rattle.rules.specs.declared.Part.{Part}
use Rattle.rules.specs.declared.Refusal.{Refusal}
use Rattle.rules.specs.declared.Refusal.TheVariants.{NoUnit}
use Rattle.rules.specs.Common.{run}
use Rattle.rules.specs.NumbersHandedBack.{Outcome, got, refused, ◌>>=◌}
use Rattle.rules.specs.SettingsAndUnitTable.{Card, kind_multiplier, rows, row, kind, row_multiplier, times, product, product_in}
use Rattle.rules.specs.ReadingOnePart.{gap, number_step, exponent_step, in_stretch, find_unit, unit_found, unit_step, spoken_unit_found, spoken_unit_step, finite, spoken, connection, part}
use Rattle.rules.proofs.Laws.Outcomes.{All, all_got, all_bind, always, bind_got, bind_refused, bind_assoc, not_got}
use Rattle.value.specs.Sums.{sum_of}
use Rattle.value.specs.Evaluating.{one}
use Rattle.spoken.specs.Products.{spoken_product}
use Rattle.steps.specs.declared.number.SummedNumber.{SummedNumber}
use Rattle.steps.specs.declared.numeral.FoundNumeral.{FoundNumeral}
use Rattle.steps.specs.Sums.{with_sum, sums}
use Rattle.steps.specs.declared.unit.Ago.{Ago}
use Rattle.steps.specs.declared.unit.UnitRow.{UnitRow}
use Rattle.steps.specs.Units.{negated_if, agoed, ago_read, ago_is, unit_row, unit_read}
use Rattle.steps.specs.Numerals.{numeral_row, numeral_within, numeral_of, numeral_is}
use Rattle.reading.specs.declared.typed.Counted.{Counted}
use Rattle.reading.specs.declared.typed.SummedPart.{SummedPart}
use Rattle.reading.specs.Typed.{typed_finite, typed_spoken, typed_part, connected, part_connected}

-- ---- as it is evaluated

-- what was typed, beside the sum of its digits; 1 times the product of what was spoken, or that this is out of range
abbrev pub coded : List ℕ → Repr → ℕ → SummedPart
coded text (Typed d) next = record { repr = got d; number = sum_of text d.whole d.fract; next = next }
coded text (Spoken d) next = record { repr = spoken_product d >>= λ m. got (one d.negative m); number = 1; next = next }

unfoldable pub codes : List ℕ → Outcome Part → Outcome SummedPart
codes text step = step >>= λ p. got (coded text p.repr p.next)

module _ (text : List ℕ) {step : Outcome Part} where
  pub codes_got : {p : Part} → got p ≡ step → got (coded text p.repr p.next) ≡ codes text step
  unfolding codes
  codes_got e = sym (bind_got _ (sym e))

  -- of what was typed, with its digits summed up
  pub codes_typed :
      {d : DurationRepr} {next number : ℕ}
      → got (record { repr = Typed d; next = next }) ≡ step
      → number ≡ sum_of text d.whole d.fract
      → got (record { repr = got d; number = number; next = next }) ≡ codes text step
  codes_typed e n = rw n (codes_got e)

  pub codes_refused : {cause : Refusal} → refused cause ≡ step → refused cause ≡ codes text step
  unfolding codes
  codes_refused e = sym (bind_refused _ (sym e))

-- and back
pub coded_got : (text : List ℕ) (step : Outcome Part) {found : SummedPart} → codes text step ≡ got found → (p : Part) × (step ≡ got p) × (coded text p.repr p.next ≡ found)
unfolding codes ◌>>=◌
coded_got text (got p) e = (p, refl, cc)
coded_got text (refused cause) e = absurd (not_got cause e)

pub coded_refused : (text : List ℕ) (step : Outcome Part) {cause : Refusal} → codes text step ≡ refused cause → step ≡ refused cause
unfolding codes ◌>>=◌
coded_refused text (got p) {cause} e = absurd (not_got cause (sym e))
coded_refused text (refused first) e = cc

-- where the part ends is said beside the rest
pub coded_end : (text : List ℕ) (d : Repr) (next : ℕ) → (coded text d next).next ≡ next
coded_end text (Typed d) next = refl
coded_end text (Spoken d) next = refl

-- and can be said anew
pub coded_at :
    (text : List ℕ) (d : Repr) (next after : ℕ) {found : SummedPart}
    → coded text d next ≡ found
    → coded text d after ≡ record { repr = found.repr; number = found.number; next = after }
coded_at text d next after is = anew d ∙ ap (λ f. record { repr = f.repr; number = f.number; next = after }) is
  where
    anew : (d : Repr) → coded text d after ≡ record { repr = (coded text d next).repr; number = (coded text d next).number; next = after }
    anew (Typed d) = refl
    anew (Spoken d) = refl

-- ---- what a part counts

abbrev pub typed_counted : SummedNumber → Scaled → ℕ → Counted
typed_counted summed scaled name = record {
  whole = summed.typed.whole;
  fract = summed.typed.fract;
  number = summed.number;
  exponent = scaled.exponent;
  next = name;
  numeral = None;
}

unfoldable pub typed_count : Settings → List ℕ → ℕ → Outcome Counted
typed_count s text place = do
  summed ← sums text (number_step s text place)
  scaled ← exponent_step s text summed.typed.next
  name ← gap s.before_unit s text scaled.next
  got (typed_counted summed scaled name)

abbrev pub spoken_counted : FoundNumeral → Counted
spoken_counted found = record {
  whole = record { start = 0; end = 0 };
  fract = record { start = 0; end = 0 };
  number = 1;
  exponent = record { negative = false; power = 0 };
  next = found.next;
  numeral = Some found.row;
}

unfoldable pub spoken_count : Settings → List ℕ → List ℕ → ℕ → Outcome Counted
spoken_count s numerals text place = numeral_row s numerals text place >>= λ found. got (spoken_counted found)

-- a numeral is one of the table's
abbrev pub Numbered : List ℕ → Option ℕ → Type 0
Numbered numerals (Some i) = i < rows numerals
Numbered numerals None = Unit {0}

pub spoken_numbered : (s : Settings) (numerals text : List ℕ) (place : ℕ) → All (λ counted. Numbered numerals counted.numeral) (spoken_count s numerals text place)
unfolding spoken_count
spoken_numbered s numerals text place = all_bind (numeral_within s numerals text place) (λ found below. all_got below)

pub typed_numbered : (numerals : List ℕ) (s : Settings) (text : List ℕ) (place : ℕ) → All (λ counted. Numbered numerals counted.numeral) (typed_count s text place)
unfolding typed_count
typed_numbered numerals s text place =
    all_bind (always _) (λ number _. all_bind (always _) (λ scaled _. all_bind (always _) (λ name _. all_got tt)))

-- ---- and its unit

abbrev pub finite_repr : Bool → Counted → Multiplier → DurationRepr
finite_repr negative counted m = record {
  negative = negative;
  infinite = false;
  whole = counted.whole;
  fract = counted.fract;
  exponent = counted.exponent;
  multiplier = m;
}

-- numeral, kind and row of a spoken number
abbrev pub spoken_of : Bool → Multiplier → UnitRow → Ago → SpokenRepr
spoken_of negative numeral unit ago = record {
  negative = negative;
  numeral = numeral;
  kind = kind_multiplier unit.kind;
  row = negated_if ago.negated unit.own;
}

-- what comes of the unit that was found, and of none
abbrev pub with_unit : List ℕ → Bool → Counted → Option ℕ → UnitRow → Ago → Outcome DurationRepr
with_unit numerals negative counted None unit ago = got (finite_repr negative counted (negated_if ago.negated (times (kind_multiplier unit.kind) unit.own)))
with_unit numerals negative counted (Some i) unit ago =
    spoken_product (spoken_of negative (row_multiplier (row numerals i)) unit ago) >>= λ m. got (finite_repr negative counted m)

abbrev pub counted_part : Counted → Outcome DurationRepr → ℕ → SummedPart
counted_part counted repr next = record { repr = repr; number = counted.number; next = next }

abbrev pub unitless : Settings → Bool → Counted → Option ℕ → Outcome SummedPart
unitless s negative counted None = got (counted_part counted (got (finite_repr negative counted (kind_multiplier s.default_kind))) counted.next)
unitless s negative counted (Some i) = refused (NoUnit counted.next)

abbrev pub unit_coded : Card → List ℕ → Bool → Counted → Option UnitRow → Outcome SummedPart
unit_coded card text negative counted (Some unit) =
    ago_read card.settings text (run (in_stretch card.settings) text counted.next)
    >>= λ ago. got (counted_part counted (with_unit card.numerals negative counted counted.numeral unit ago) ago.next)
unit_coded card text negative counted None = unitless card.settings negative counted counted.numeral

unfoldable pub coded_part : Card → List ℕ → Bool → Counted → Outcome SummedPart
coded_part card text negative counted = unit_coded card text negative counted (unit_read (find_unit card text counted.next))

-- ---- together they are the part

-- one step, and then in two ways what comes to the same
both_joined :
    {A B C D : Type 0} (m : Outcome A) (f : A → Outcome B) (g : A → Outcome C) (more : B → Outcome D) (other : C → Outcome D)
    → ((a : A) → (f a >>= more) ≡ (g a >>= other))
    → (m >>= f >>= more) ≡ (m >>= g >>= other)
unfolding ◌>>=◌
both_joined (got a) f g more other h = h a
both_joined (refused cause) f g more other h = refl

module _ (card : Card) (text : List ℕ) (negative : Bool) (place : ℕ) where
  abbrev s : Settings
  s = card.settings

  -- the digits beside their sum
  abbrev with_digits : Number → SummedNumber
  with_digits number = record { typed = number; number = sum_of text number.whole number.fract }

  pub finite_coded : codes text (typed_finite card text negative place) ≡ (typed_count s text place >>= coded_part card text negative)
  unfolding codes typed_finite typed_count with_sum coded_part unit_step unit_found unit_read product_in ◌>>=◌
  finite_coded =
      both_joined (number_step s text place) _ _ _ _
      (λ number. both_joined (exponent_step s text number.next) _ _ _ _
      (λ scaled. both_joined (gap s.before_unit s text scaled.next) _ _ _ _
      (λ name. found number scaled name (find_unit card text name))))
      ∙ ap (λ m. m >>= coded_part card text negative) (sym (bind_assoc (number_step s text place) (λ number. got (with_digits number)) _))
    where
      told : (number : Number) (scaled : Scaled) (name : ℕ) (r : List ℕ) (read : Outcome Ago)
          → ((read >>= λ ago. got (agoed (product r) ago)) >>= (λ unit. got (finite negative number scaled unit unit.next)) >>= λ p. got (coded text p.repr p.next))
          ≡ (read >>= λ ago. got (counted_part (typed_counted (with_digits number) scaled name) (with_unit card.numerals negative (typed_counted (with_digits number) scaled name) None (unit_row r) ago) ago.next))
      told number scaled name r (got ago) = refl
      told number scaled name r (refused cause) = refl

      found : (number : Number) (scaled : Scaled) (name : ℕ) (r : List ℕ)
          → (unit_found s text name r >>= (λ unit. got (finite negative number scaled unit unit.next)) >>= λ p. got (coded text p.repr p.next))
          ≡ unit_coded card text negative (typed_counted (with_digits number) scaled name) (unit_read r)
      found number scaled name [] = refl
      found number scaled name (size ∷ r) =
          ap
          (λ unit. unit >>= (λ unit. got (finite negative number scaled unit unit.next)) >>= λ p. got (coded text p.repr p.next))
          (ago_is s text (run (in_stretch s) text name) (product (size ∷ r)))
          ∙ told number scaled name (size ∷ r) (ago_read s text (run (in_stretch s) text name))

  pub spoken_coded : codes text (typed_spoken card text negative place) ≡ (spoken_count s card.numerals text place >>= coded_part card text negative)
  unfolding codes typed_spoken spoken_count coded_part spoken_unit_step spoken_unit_found unit_read ◌>>=◌
  spoken_coded =
      ap
      (λ m. m >>= (λ numeral. spoken_unit_step card text numeral.next >>= λ unit. got (spoken negative numeral unit unit.next)) >>= λ p. got (coded text p.repr p.next))
      (numeral_is card text place)
      ∙ ap (λ m. m >>= λ p. got (coded text p.repr p.next)) (bind_assoc (numeral_row s card.numerals text place) _ _)
      ∙ both_joined (numeral_row s card.numerals text place) _ _ _ _ (λ numeral. found numeral (find_unit card text numeral.next))
    where
      told : (numeral : FoundNumeral) (r : List ℕ) (read : Outcome Ago)
          → ((read >>= λ ago. got (agoed (row_multiplier r) ago))
          >>= (λ unit. got (record { kind = kind_multiplier (kind r); row = unit.multiplier; next = unit.next }))
          >>= (λ unit. got (spoken negative (numeral_of card.numerals numeral) unit unit.next))
          >>= λ p. got (coded text p.repr p.next))
          ≡ (read >>= λ ago. got (counted_part (spoken_counted numeral) (with_unit card.numerals negative (spoken_counted numeral) (Some numeral.row) (unit_row r) ago) ago.next))
      told numeral r (got ago) = refl
      told numeral r (refused cause) = refl

      found : (numeral : FoundNumeral) (r : List ℕ)
          → (spoken_unit_found s text numeral.next r >>= (λ unit. got (spoken negative (numeral_of card.numerals numeral) unit unit.next)) >>= λ p. got (coded text p.repr p.next))
          ≡ unit_coded card text negative (spoken_counted numeral) (unit_read r)
      found numeral [] = refl
      found numeral (size ∷ r) =
          ap
          (λ unit.
          unit
          >>= (λ unit. got (record { kind = kind_multiplier (kind (size ∷ r)); row = unit.multiplier; next = unit.next }))
          >>= (λ unit. got (spoken negative (numeral_of card.numerals numeral) unit unit.next))
          >>= λ p. got (coded text p.repr p.next))
          (ago_is s text (run (in_stretch s) text numeral.next) (row_multiplier (size ∷ r)))
          ∙ told numeral (size ∷ r) (ago_read s text (run (in_stretch s) text numeral.next))

-- ---- and its connection

module _ (card : Card) (text : List ℕ) (place : ℕ) where
  pub typed_refused : {cause : Refusal} → codes text (typed_part card text place) ≡ refused cause → part card text place ≡ refused cause
  typed_refused e = part_connected card text place ∙ bind_refused _ (coded_refused text _ e)

  module _ {typed : SummedPart} (e : codes text (typed_part card text place) ≡ got typed) where
    -- what was typed, as its definition has it, and where it ends
    it : (p : Part) × (typed_part card text place ≡ got p) × (coded text p.repr p.next ≡ typed)
    it = coded_got text _ e

    pub connection_refused : {cause : Refusal} → connection card.settings text typed.next ≡ refused cause → part card text place ≡ refused cause
    unfolding connected
    connection_refused {cause} asked =
        let (p, read, is) = it in
        let end : p.next ≡ typed.next = sym (coded_end text p.repr p.next) ∙ ap (λ f. f.next) is in
        let there : connection card.settings text p.next ≡ refused cause = rw end asked in
        part_connected card text place ∙ bind_got _ read ∙ bind_refused _ there

    pub connection_got : {next : ℕ} → connection card.settings text typed.next ≡ got next → codes text (part card text place) ≡ got (record { repr = typed.repr; number = typed.number; next = next })
    unfolding connected
    connection_got {next} asked =
        let (p, read, is) = it in
        let end : p.next ≡ typed.next = sym (coded_end text p.repr p.next) ∙ ap (λ f. f.next) is in
        let there : connection card.settings text p.next ≡ got next = rw end asked in
        sym (ap got (sym (coded_at text p.repr p.next next is)) ∙ codes_got text (sym (part_connected card text place ∙ bind_got _ read ∙ bind_got _ there)))
