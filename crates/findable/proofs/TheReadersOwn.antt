-- `unit_of` follows the reader: a typed part is multiplied by the row at which it finds its unit, of the line's table or of the hall's, or by
-- the default kind; and the units of a text are those of the parts that its total reads, unless one of them is a spoken number. Assumes nothing.
use Rattle.std.specs.Prelude.{◌≡◌, Bool, false, ◌⊎◌, length}
use Rattle.std.proofs.Math.Path.{refl, ap}
use Rattle.std.proofs.Common.{sym, ◌∙◌, arith}
use Rattle.std.proofs.Math.Bool.{true, false≢true}
use mathlib.Core.List.{List, [], ◌∷◌}
use Rattle.std.proofs.Math.Logic.{inl, inr, ⊎_elim}
use Prim.Native.Nat.{ℕ, zero, suc}
use Rattle.rules.specs.declared.Length.{Length}
use Rattle.rules.specs.declared.Settings.{Settings}
use Rattle.rules.specs.declared.Multiplier.{Multiplier}
use Rattle.rules.specs.declared.DurationRepr.{DurationRepr}
use Rattle.rules.specs.declared.Repr.{Repr}
use Rattle.rules.specs.declared.Repr.TheVariants.{Typed, Spoken}
use Rattle.rules.specs.declared.Part.{Part}
use Rattle.rules.specs.declared.Reading.{Reading}
use Rattle.rules.specs.declared.Refusal.{Refusal}
use Rattle.rules.specs.Common.{run, ends}
use Rattle.rules.specs.ThePartOfTheCrateWeTake.{zero_length}
use Rattle.rules.specs.NumbersHandedBack.{Outcome, got, refused}
use Rattle.rules.specs.SettingsAndUnitTable.{row_size, kind_multiplier, Card, product, Holder, Line, Hall, Neither, held_row, find_row}
use Rattle.rules.specs.ReadingOnePart.{delimiters, gap, sign_step, number_step, exponent_step, in_stretch, negated, ago_step, find_unit, unit_found, unit_step, numeral_step, spoken_unit_step, connection, infinity_step, infinite_part, finite_part, spoken_part, unsigned_part, part}
use Rattle.rules.specs.Evaluation.{evaluated, allowed, part_reading, sum_all, parts, total}
use Rattle.rules.proofs.Laws.Choices.{if_then, if_else}
use Rattle.rules.proofs.Laws.Outcomes.{itself, All, all_got, all_refused, of_got, all_of, all_if, all_bind, all_map, always, bind_got}
use Rattle.findable.specs.WhereAPartFindsItsUnit.{unit_stands, number_unit, unsigned_unit, unit_of, counted, units, among_got, finds}
use Rattle.findable.specs.OneOfTheTwoTables.{row_held, Stands, somewhere, nowhere, where_it_stands}
use Rattle.findable.specs.TheReadersOwn.{HasSpoken, spoken_here, spoken_later}

-- what was refused finds nothing
pub refused_among : (at : Holder) (cause : Refusal) → among_got at (refused cause) ≡ true → ⊥
unfolding among_got
refused_among at cause e = false≢true e

module _ (card : Card) (text : List ℕ) where
  abbrev s : Settings
  s = card.settings

  -- the row that stands there, or that row negated by `ago`
  abbrev pub ByRow : Holder → Multiplier → Type 0
  ByRow at m = (m ≡ product (row_held card at)) ⊎ (m ≡ negated (product (row_held card at)))

  -- what a part is multiplied by, if its unit is found there; the default kind, if nowhere
  abbrev pub Taken : Holder → Multiplier → Type 0
  Taken (Line i) m = ByRow (Line i) m
  Taken (Hall i) m = ByRow (Hall i) m
  Taken Neither m = m ≡ kind_multiplier s.default_kind

  ago_taken : (m : Multiplier) (place : ℕ) → All (λ unit. (unit.multiplier ≡ m) ⊎ (unit.multiplier ≡ negated m)) (ago_step s text m place)
  unfolding ago_step
  ago_taken m place =
      all_if (λ _. all_got (inl refl))
      (λ _. all_bind (always (delimiters s.inner text place)) (λ word _. all_if (λ _. all_got (inr refl)) (λ _. all_got (inl refl))))

  -- a row that is found has bytes, and is multiplied
  pub a_row : (place : ℕ) (r : List ℕ) → length r ≡ row_size → unit_found s text place r ≡ ago_step s text (product r) (run (in_stretch s) text place)
  unfolding unit_found
  a_row place [] long = absurd (omega arith)
  a_row place (size ∷ r) long = refl

  by_row : (place : ℕ) (at : Holder) → length (row_held card at) ≡ row_size → All (λ unit. ByRow at unit.multiplier) (unit_found s text place (row_held card at))
  by_row place at long = rw (a_row place (row_held card at) long) (ago_taken (product (row_held card at)) (run (in_stretch s) text place))

  found_taken : (place : ℕ) → All (λ unit. Taken (unit_stands card text place) unit.multiplier) (unit_step card text place)
  unfolding unit_step find_unit find_row unit_stands held_row unit_found
  found_taken place = go (where_it_stands card.hall card.line _)
    where
      go : {wanted : List ℕ} {at : Holder} → Stands card.hall card.line wanted at → All (λ unit. Taken at unit.multiplier) (unit_found s text place (row_held card at))
      go {at = Line i} (somewhere long named) = by_row place (Line i) long
      go {at = Hall i} (somewhere long named) = by_row place (Hall i) long
      go {at = Neither} (somewhere long named) = absurd (omega arith)
      go {at = Neither} nowhere = all_got refl

  -- ---- one part

  -- a typed part finds its unit somewhere or nowhere, and is multiplied by what it finds; of a spoken number nothing is said
  abbrev pub Follows : Outcome Holder → Repr → Type 0
  Follows unit (Typed d) = (found : Holder) × (unit ≡ got found) × Taken found d.multiplier
  Follows unit (Spoken d) = Unit {0}

  -- however it is said which unit that is
  follows_on : {unit other : Outcome Holder} → other ≡ unit → (d : Repr) → Follows unit d → Follows other d
  follows_on e (Typed d) (found, at, taken) = (found, e ∙ at, taken)
  follows_on e (Spoken d) h = tt

  finite_follows : (negative : Bool) (place : ℕ) → All (λ p. Follows (number_unit card text place) p.repr) (finite_part card text negative place)
  unfolding finite_part number_unit
  finite_follows negative place =
      all_bind (itself (number_step s text place))
      (λ number e₁.
      all_bind (itself (exponent_step s text number.next))
      (λ scaled e₂.
      all_bind (itself (gap s.before_unit s text scaled.next))
      (λ name e₃.
      all_bind (found_taken name)
      (λ unit taken.
      all_bind (always (connection s text unit.next))
      (λ next _. all_got (unit_stands card text name, bind_got _ e₁ ∙ bind_got _ e₂ ∙ bind_got _ e₃, taken))))))

  spoken_follows : (unit : Outcome Holder) (negative : Bool) (place : ℕ) → All (λ p. Follows unit p.repr) (spoken_part card text negative place)
  unfolding spoken_part
  spoken_follows unit negative place =
      all_bind (always (numeral_step card text place))
      (λ numeral _.
      all_bind (always (spoken_unit_step card text numeral.next))
      (λ unit _. all_bind (always (connection s text unit.next)) (λ next _. all_got tt)))

  unsigned_follows : (negative : Bool) (place : ℕ) → All (λ p. Follows (unsigned_unit card text place) p.repr) (unsigned_part card text negative place)
  unfolding unsigned_part unsigned_unit infinite_part
  unsigned_follows negative place =
      all_if (λ number. all_map (finite_follows negative place) (λ p h. follows_on (if_then _ _ number) p.repr h))
      (λ other.
      all_if (λ _. all_bind (always (infinity_step s text place)) (λ next _. all_got (Neither, if_else _ _ other, refl)))
      (λ _. spoken_follows _ negative place))

  pub part_follows : (place : ℕ) → All (λ p. Follows (unit_of card text place) p.repr) (part card text place)
  unfolding part unit_of
  part_follows place =
      all_if (λ _. all_refused)
      (λ _.
      all_bind (itself (sign_step s text place))
      (λ signed e. all_map (unsigned_follows signed.negative signed.next) (λ p h. follows_on (bind_got _ e) p.repr h)))

  -- what is evaluated is a part that was read
  reading_part : (place : ℕ) → All (λ r. (p : Part) × (part card text place ≡ got p)) (part_reading card text place)
  unfolding part_reading allowed
  reading_part place =
      all_bind (itself (part card text place))
      (λ p e. all_bind (always (evaluated text p.repr)) (λ l _. all_if (λ _. all_refused) (λ _. all_got (p, e))))

  -- a part that is read counts, unless it is a spoken number
  counts : {place : ℕ} {p : Part} → part card text place ≡ got p → HasSpoken card text place ⊎ ((found : Holder) × (counted card text place p.repr ≡ got found))
  unfolding counted
  counts {place} {p} e = go p.repr (all_of (part_follows place) e) e
    where
      go : (d : Repr) → Follows (unit_of card text place) d → part card text place ≡ got (record { repr = d; next = p.next }) → HasSpoken card text place ⊎ ((found : Holder) × (counted card text place d ≡ got found))
      go (Typed d) (found, at, taken) e = inr (found, at)
      go (Spoken d) h e = inl (spoken_here e)

  -- ---- the parts of a text

  -- as many units as lengths, unless one of the parts is a spoken number
  pub units_follow : (n place : ℕ) → All (λ lengths. HasSpoken card text place ⊎ ((found : List Holder) × (units card text n place ≡ got found) × (length found ≡ length lengths))) (parts card text n place)
  unfolding parts units
  units_follow zero place = all_refused
  units_follow (suc n) place =
      all_bind (itself (part_reading card text place))
      (λ r read.
      let (p, at) = all_of (reading_part place) read in
      ⊎_elim (λ spoken. all_map (always _) (λ _ _. inl spoken))
      (λ (unit, is).
      all_if (λ end. all_got (inr (unit ∷ [], bind_got _ at ∙ bind_got _ read ∙ bind_got _ is ∙ if_then _ _ end, refl)))
      (λ on.
      all_bind (units_follow n r.next)
      (λ lengths later.
      all_got
      (⊎_elim (λ spoken. inl (spoken_later read on spoken))
      (λ (found, at_later, many). inr (unit ∷ found, bind_got _ at ∙ bind_got _ read ∙ bind_got _ is ∙ if_else _ _ on ∙ bind_got _ at_later, ap suc many))
      later))))
      (counts at))

  -- what counts was typed
  typed_only : (place : ℕ) (d : Repr) → All (λ _. (typed : DurationRepr) × (d ≡ Typed typed)) (counted card text place d)
  unfolding counted
  typed_only place (Typed d) = all_map (always (unit_of card text place)) (λ _ _. (d, refl))
  typed_only place (Spoken d) = all_refused

  not_spoken :
      {place : ℕ} {p : Part} {d : DurationRepr} {r : Reading}
      → part card text place ≡ got p → p.repr ≡ Typed d
      → part_reading card text place ≡ got r → (ends text r.next ≡ false → HasSpoken card text r.next → ⊥)
      → HasSpoken card text place → ⊥
  not_spoken at typed read later (spoken_here e) = let never : ◌≡◌ {A = ℕ} 0 1 = cc in omega arith
  not_spoken {r = r} at typed read later (spoken_later {r = other} again on spoken) =
      let same : other ≡ r = cc in
      later (rw same at on) (rw same at spoken)

  -- and where there are units the text can be read, and no part of it is a spoken number
  pub parts_read : (n place : ℕ) → All (λ found. ((lengths : List Length) × (parts card text n place ≡ got lengths)) × (HasSpoken card text place → ⊥)) (units card text n place)
  unfolding parts units
  parts_read zero place = all_refused
  parts_read (suc n) place =
      all_bind (itself (part card text place))
      (λ p at.
      all_bind (itself (part_reading card text place))
      (λ r read.
      all_bind (typed_only place p.repr)
      (λ unit (d, typed).
      all_if (λ end. all_got ((r.length ∷ [], bind_got _ read ∙ if_then _ _ end), not_spoken at typed read (λ on _. false≢true (sym on ∙ end))))
      (λ on.
      all_bind (parts_read n r.next)
      (λ found ((lengths, later), none). all_got ((r.length ∷ lengths, bind_got _ read ∙ if_else _ _ on ∙ bind_got _ later), not_spoken at typed read (λ _. none)))))))

  -- a text of which a part finds its unit there can be read, and no part of it is a spoken number
  pub finds_read : (at : Holder) → finds card text at ≡ true → ((l : Length) × (total card text ≡ got l)) × (HasSpoken card text 0 → ⊥)
  unfolding finds total
  finds_read at e = go (units card text (suc (length text)) 0) (parts_read (suc (length text)) 0) e
    where
      go :
          (m : Outcome (List Holder))
          → All (λ found. ((lengths : List Length) × (parts card text (suc (length text)) 0 ≡ got lengths)) × (HasSpoken card text 0 → ⊥)) m
          → among_got at m ≡ true
          → ((l : Length) × (total card text ≡ got l)) × (HasSpoken card text 0 → ⊥)
      go (got found) h e = let ((lengths, read), none) = of_got h in ((sum_all zero_length lengths, bind_got _ read), none)
      go (refused cause) h e = absurd (refused_among at cause e)
