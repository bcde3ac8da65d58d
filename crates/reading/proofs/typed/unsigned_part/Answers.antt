-- `reading::typed::unsigned_part` meets its contract: the class is that of the byte there, and decides what the part counts; then comes its unit.
-- Assumes nothing.
-- ---- what the class says
use Rattle.std.proofs.Common.{◌≡◌, refl, sym, ap, ◌∙◌, inl, inr, true, false, rules}
use Rattle.rules.specs.declared.Refusal.TheVariants.{NoNumber}
use Rattle.rules.specs.Common.{ascii, all, between, when◌then◌else◌}
use Rattle.rules.specs.NumbersHandedBack.{got, refused}
use Rattle.rules.specs.SettingsAndUnitTable.{is, class}
use Rattle.rules.specs.ReadingOnePart.{says}
use Rattle.rules.proofs.Laws.Outcomes.{all_of, bind_got, bind_refused}
use Rattle.reading.specs.Meant.{meant}
use Rattle.reading.specs.Entries.{card_sayable}
use Rattle.reading.specs.Typed.{class_at, inf_within, typed_finite, typed_spoken, typed_unsigned, unsigned_number, word_infinite, word_off, word_other, unsigned_none}
use Rattle.reading.specs.Coded.{Numbered, codes, codes_refused, typed_count, spoken_count, coded_part, finite_coded, spoken_coded, typed_numbered, spoken_numbered}
use Rattle.reading.proofs.typed.unsigned_part.Goals as goal
use Rattle.reading.proofs.typed.unsigned_part.Goals.{in-0+in_ok-counted-in-0, in-3+else-infinity+in_ok-counted-in-3, else-infinity-via-then-infinity+else-next_is_ignore_ascii_case, else-infinity-via-else-infinity, Joined-class, Then-next_is_ignore_ascii_case}

pub next_is_ignore_ascii_case-requires : goal.next_is_ignore_ascii_case-requires
unfolding all is class between when◌then◌else◌
next_is_ignore_ascii_case-requires c = refl

pub returns-in_err-counted-in-0 : goal.returns-in_err-counted-in-0
returns-in_err-counted-in-0 c =
    let refusal : refused c.in_err-counted-in-0.field-0.0 ≡ codes c.args.text.now (typed_unsigned (meant c.args.card.now) c.args.text.now c.args.start.negative c.args.start.next) =
    sym
    (ap (codes _) (sym (unsigned_number (meant c.args.card.now) _ _ _ (rw (← c.requires) c.in-0.is)))
    ∙ finite_coded (meant c.args.card.now) _ _ _
    ∙ bind_refused _ (sym c.in_err-counted-in-0.ensures)) in
    search rules

pub returns-in_err-counted-in-3 : goal.returns-in_err-counted-in-3
unfolding ascii
returns-in_err-counted-in-3 c =
    let letter : class_at c.args.text.now c.args.start.next ≡ 3 = sym c.requires ∙ c.in-3.is in
    let word : typed_spoken (meant c.args.card.now) c.args.text.now c.args.start.negative c.args.start.next ≡ typed_unsigned (meant c.args.card.now) c.args.text.now c.args.start.negative c.args.start.next =
    elim c.else-infinity.branch [
      | else-infinity-via-then-infinity+else-next_is_ignore_ascii_case w ↦ word_other (meant c.args.card.now) _ _ _ letter (sym w.next_is_ignore_ascii_case.ensures ∙ w.if-next_is_ignore_ascii_case.false)
      | else-infinity-via-else-infinity w ↦ word_off (meant c.args.card.now) _ _ _ letter (sym c.infinity.ensures ∙ w.if-infinity.false)
    ] in
    let refusal : refused c.in_err-counted-in-3.field-0.0 ≡ codes c.args.text.now (typed_unsigned (meant c.args.card.now) c.args.text.now c.args.start.negative c.args.start.next) =
    sym (ap (codes _) (sym word) ∙ spoken_coded (meant c.args.card.now) _ _ _ ∙ bind_refused _ (sym c.in_err-counted-in-3.ensures)) in
    search rules

-- `inf` stands there
inf-said : (c : Then-next_is_ignore_ascii_case) → says (ascii "inf") c.args.text.now c.args.start.next ≡ true
unfolding ascii
inf-said c = sym c.next_is_ignore_ascii_case.ensures ∙ c.if-next_is_ignore_ascii_case.true

pub infinite_part-requires : goal.infinite_part-requires
infinite_part-requires c = inf_within _ _ (inf-said c)

pub returns-then-next_is_ignore_ascii_case : goal.returns-then-next_is_ignore_ascii_case
returns-then-next_is_ignore_ascii_case c =
    c.infinite_part.ensures
    ∙ ap (codes _)
    (word_infinite (meant c.args.card.now) _ _ _ (sym c.requires ∙ c.in-3.is) (sym c.infinity.ensures ∙ c.if-infinity.true)
    (inf-said (goal.at.returns-then-next_is_ignore_ascii_case c).Then-next_is_ignore_ascii_case))

pub returns-in_default : goal.returns-in_default
returns-in_default c =
    let here = c.requires in
    let refusal : refused (NoNumber c.args.start.next) ≡ codes c.args.text.now (typed_unsigned (meant c.args.card.now) c.args.text.now c.args.start.negative c.args.start.next) =
    codes_refused _
    (unsigned_none (meant c.args.card.now) _ _ _ c.args.card.now.sayable
    (λ e. c.in_default.in_default-own.rest.0.1 (inl (here ∙ e)))
    (λ e. c.in_default.in_default-own.rest.0.1 (inr (here ∙ e)))
    (λ e. c.in_default.in_default-own.rest.1 (here ∙ e))) in refusal

-- the part that comes of what was counted
counted :
    (c : Joined-class)
    → (codes c.args.text.now (typed_unsigned (meant c.args.card.now) c.args.text.now c.args.start.negative c.args.start.next) ≡ coded_part (meant c.args.card.now) c.args.text.now c.args.start.negative c.match-class.counted)
    × Numbered c.args.card.now.numerals.now c.match-class.counted.numeral
unfolding ascii
counted c =
    let s = meant c.args.card.now in
    elim c.match-class.branch [
      | in-0+in_ok-counted-in-0 w ↦ (
          let got-it : typed_count s.settings c.args.text.now c.args.start.next ≡ got c.match-class.counted = sym w.in_ok-counted-in-0.ensures ∙ ap got (sym w.counted-is) in
          let digits : typed_finite s c.args.text.now c.args.start.negative c.args.start.next ≡ typed_unsigned s c.args.text.now c.args.start.negative c.args.start.next =
          unsigned_number s _ _ _ (rw (← c.requires) w.in-0.is) in
          (ap (codes _) (sym digits) ∙ finite_coded s _ _ _ ∙ bind_got _ got-it, all_of (typed_numbered c.args.card.now.numerals.now _ _ _) got-it)
          )
      | in-3+else-infinity+in_ok-counted-in-3 w ↦ (
          let letter : class_at c.args.text.now c.args.start.next ≡ 3 = sym c.requires ∙ w.in-3.is in
          let word : typed_spoken s c.args.text.now c.args.start.negative c.args.start.next ≡ typed_unsigned s c.args.text.now c.args.start.negative c.args.start.next =
          elim w.else-infinity.branch [
            | else-infinity-via-then-infinity+else-next_is_ignore_ascii_case t ↦ word_other s _ _ _ letter (sym t.next_is_ignore_ascii_case.ensures ∙ t.if-next_is_ignore_ascii_case.false)
            | else-infinity-via-else-infinity t ↦ word_off s _ _ _ letter (sym w.infinity.ensures ∙ t.if-infinity.false)
          ] in
          let got-it : spoken_count s.settings s.numerals c.args.text.now c.args.start.next ≡ got c.match-class.counted = sym w.in_ok-counted-in-3.ensures ∙ ap got (sym w.counted-is) in
          (ap (codes _) (sym word) ∙ spoken_coded s _ _ _ ∙ bind_got _ got-it, all_of (spoken_numbered s.settings _ _ _) got-it)
          )
    ]

pub returns : goal.returns
returns c = c.unit_part.ensures ∙ sym (counted (goal.at.returns c).Joined-class).0

pub unit_part-requires : goal.unit_part-requires
unit_part-requires c = (counted c).1
