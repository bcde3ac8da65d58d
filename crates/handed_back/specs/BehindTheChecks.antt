-- What an entry hands back with a number that none of its checks has: exactly if the checks pass, a part that it reads is refused so. Of every
-- entry that reads a text under a card, whatever its arguments. Assumes nothing.
use Rattle.std.specs.Prelude.{◌≡◌, Bool, true, false, not, List, [], ◌∷◌, ◌≢◌, ◌↔◌, ℕ, ◌≤◌, leb, length}
use Rattle.std.proofs.Math.Path.{refl}
use Rattle.std.proofs.Common.{sym, ap, ◌∙◌, leb-true, le-leb}
use Rattle.std.proofs.lemmas.Bool.{false≢true}
use Rattle.std.proofs.Math.Logic.Iff
use Rattle.rules.specs.declared.Length.{Length}
use Rattle.rules.specs.declared.Refusal.{Refusal}
use Rattle.rules.specs.declared.Refusal.TheVariants.{TextTooLong, Beyond, Malformed}
use Rattle.rules.specs.ThePartOfTheCrateWeTake.{longest_text, well_formed}
use Rattle.rules.specs.NumbersHandedBack.{Outcome, got, refused, ◌>>◌, unless, number, done, answered}
use Rattle.rules.specs.SettingsAndUnitTable.{Card, card_check}
use Rattle.rules.specs.Evaluation.{part_reading, sum, total}
use Rattle.rules.specs.WriterAndShiftTotal.{shifting, record_after}
use Rattle.rules.specs.WhatEveryEntryOwes.{read_part, part_answer, read_total, total_answer, add_total, shift_answer, shifted_record}
use Rattle.rules.proofs.Laws.Outcomes.{made_refused, bind_refused, Refused, refused_unless, unless_got, check_got}
use Rattle.rules.proofs.Laws.Refusals.{among, by_one, card_by}
use Rattle.handed_back.specs.RefusedWith.{RefusedWith, refused_at, likewise, handed_back}
use Rattle.handed_back.specs.WhatIsRead.{Reached, total_refused}

-- ---- a check, and what comes behind it

-- not 0, and none that a check has: the card's 7, the record's 11, the text's 8 and the place's 10
unfoldable pub of_the_text : ℕ → Bool
of_the_text n = not (among (0 ∷ 7 ∷ 8 ∷ 10 ∷ 11 ∷ []) n)

another : {n k : ℕ} → of_the_text n ≡ true → of_the_text k ≡ false → n ≡ k → ⊥
another text_number check_number e = false≢true (sym check_number ∙ ap of_the_text (sym e) ∙ text_number)

-- refused with such a number
module _ {n q : ℕ} (text_number : of_the_text n ≡ true) where
  -- it comes behind a check that has passed, and behind one that has passed it comes
  module _ {A C : Type 0} {next : Outcome A} {X : Type 0} (found : RefusedWith next n q ↔ X) where
    behind :
        {check : Outcome (Unit {0})} {k : ℕ} → Refused (λ cause. number cause ≡ k) check → of_the_text k ≡ false
        → (check ≡ got tt) ↔ C → RefusedWith (check >> next) n q ↔ (C × X)
    unfolding ◌>>◌
    behind {check} by check_number passes = (there, back)
      where
        there : RefusedWith (check >> next) n q → C × X
        there h =
            let (passed, e) = check_got next by (λ is. another text_number check_number (sym h.its_number ∙ is)) h.refuses in
            (passes.0 passed, found.0 (likewise h e))

        back : C × X → RefusedWith (check >> next) n q
        back (c, x) = let h : RefusedWith next n q = found.1 x in likewise h (rw (passes.1 c) h.refuses)

    -- a test
    behind_test : (cause : Refusal) (test : Bool) → of_the_text (number cause) ≡ false → (test ≡ true → C) → (C → test ≡ true) → RefusedWith (unless cause test >> next) n q ↔ (C × X)
    unfolding unless
    behind_test cause test check_number there back =
        behind {check = unless cause test} (refused_unless cause test (λ _. refl)) check_number
        ((λ e. there (unless_got cause test e)), λ c. rw (back c))

  module _ (card : Card) (text : List ℕ) where
    -- the card's check, and the text's size
    behind_card : {A : Type 0} {next : Outcome A} {X : Type 0} → RefusedWith next n q ↔ X → RefusedWith (card_check card >> next) n q ↔ ((card_check card ≡ got tt) × X)
    unfolding of_the_text among
    behind_card found = behind found (by_one (card_by card)) refl Iff.rfl

    behind_size : {A : Type 0} {next : Outcome A} {X : Type 0} → RefusedWith next n q ↔ X → RefusedWith (unless TextTooLong (leb (length text) longest_text) >> next) n q ↔ ((length text ≤ longest_text) × X)
    unfolding of_the_text among number
    behind_size found = behind_test found TextTooLong (leb (length text) longest_text) refl (leb-true (length text) longest_text) (le-leb (length text) longest_text)

-- ---- the checks pass, and a part that is read is what X says of it

module _ (card : Card) (text : List ℕ) where
  abbrev pub InPart : ℕ → Type 0 → Type 0
  InPart place X = (card_check card ≡ got tt) × ((length text ≤ longest_text) × ((place ≤ length text) × X))

  abbrev pub InTotal : (ℕ → Type 0) → Type 0
  InTotal X = (card_check card ≡ got tt) × ((length text ≤ longest_text) × ((from : ℕ) × Reached card text from × X from))

  abbrev pub InShift : Length → (ℕ → Type 0) → Type 0
  InShift so_far X =
      (card_check card ≡ got tt) × ((well_formed so_far ≡ true) × ((length text ≤ longest_text) × ((from : ℕ) × Reached card text from × X from)))

  module _ (n q : ℕ) (text_number : of_the_text n ≡ true) where
    some : n ≢ 0
    unfolding of_the_text among
    some e = another text_number refl e

    pub part_exactly : (place : ℕ) {X : Type 0} → RefusedWith (part_reading card text place) n q ↔ X → (part_answer card text place ≡ refused_at n q) ↔ InPart place X
    unfolding part_answer read_part done of_the_text among number
    part_exactly place {X} found =
        Iff.trans (handed_back (λ r. done r.next r.length) (λ r. refl) (read_part card text place) n q some) whole
      where
        whole : RefusedWith (read_part card text place) n q ↔ InPart place X
        whole =
            behind_card text_number card text
            (behind_size text_number card text
            (behind_test text_number found (Beyond place) (leb place (length text)) refl (leb-true place (length text)) (le-leb place (length text))))

    -- the total of a text
    module _ {X : ℕ → Type 0} (found : (from : ℕ) → RefusedWith (part_reading card text from) n q ↔ X from) where
      of_a_part : RefusedWith (total card text) n q ↔ ((from : ℕ) × Reached card text from × X from)
      of_a_part = (there, back)
        where
          there : RefusedWith (total card text) n q → (from : ℕ) × Reached card text from × X from
          there h =
              let (from, reached, e) = (total_refused card text h.cause).0 h.refuses in
              (from, reached, (found from).0 (likewise h e))

          back : (from : ℕ) × Reached card text from × X from → RefusedWith (total card text) n q
          back (from, reached, x) =
              let h : RefusedWith (part_reading card text from) n q = (found from).1 x in
              likewise h ((total_refused card text h.cause).1 (from, reached, h.refuses))

      pub total_exactly : (total_answer card text ≡ refused_at n q) ↔ InTotal X
      unfolding total_answer read_total done
      total_exactly =
          Iff.trans (handed_back (done (length text)) (λ l. refl) (read_total card text) n q some) whole
        where
          whole : RefusedWith (read_total card text) n q ↔ InTotal X
          whole = behind_card text_number card text (behind_size text_number card text of_a_part)

      -- added to a record
      module _ (so_far : Length) where
        added : RefusedWith (shifting so_far (total card text)) n q ↔ ((from : ℕ) × Reached card text from × X from)
        unfolding shifting
        added = (there, back)
          where
            there : RefusedWith (shifting so_far (total card text)) n q → (from : ℕ) × Reached card text from × X from
            there h = of_a_part.0 (likewise h (made_refused (sum so_far) (total card text) h.refuses))

            back : (from : ℕ) × Reached card text from × X from → RefusedWith (shifting so_far (total card text)) n q
            back x = let h : RefusedWith (total card text) n q = of_a_part.1 x in likewise h (bind_refused _ h.refuses)

        pub shift_exactly : (shift_answer so_far card text ≡ refused_at n q) ↔ InShift so_far X
        unfolding shift_answer add_total done of_the_text among number
        shift_exactly =
            Iff.trans (handed_back (done (length text)) (λ l. refl) (add_total so_far card text) n q some) whole
          where
            whole : RefusedWith (add_total so_far card text) n q ↔ InShift so_far X
            whole =
                behind_card text_number card text
                (behind_test text_number (behind_size text_number card text added) Malformed (well_formed so_far) refl (λ e. e) (λ e. e))

-- ---- and a record that is lent stays as it was, whatever is refused

pub record_stays : (so_far : Length) (card : Card) (text : List ℕ) → (shift_answer so_far card text).number ≢ 0 → shifted_record so_far card text ≡ so_far
unfolding shift_answer shifted_record record_after answered done
record_stays so_far card text some = go (add_total so_far card text) some
  where
    go : (m : Outcome Length) → (answered (done (length text)) m).number ≢ 0 → record_after so_far m ≡ so_far
    go (got l) some = absurd (some refl)
    go (refused cause) some = refl
