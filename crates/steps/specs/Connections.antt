-- Laws of the connection: the first listed conjunction, what follows it, and the whole step. Assumes nothing.
use Rattle.std.specs.Prelude.{◌≡◌, Bool, true, false, List, ◌∷◌, ℕ, ◌+◌, ◌≤◌, ◌<◌, length, get_or, drop}
use Rattle.std.proofs.Common.{sym, ◌∙◌, arith, drop_of_length-le, drop-cons, get_or-take}
use Rattle.std.proofs.Math.Path.{ap}
use Rattle.std.proofs.Math.Numerals.{add-one}
use borrow.Author.Tests.{le-leb, lt-leb, eq-eqb, ne_eqb}
use Rattle.std.proofs.Math.ListN.{length-take}
use Rattle.rules.specs.declared.ByteSet.{ByteSet}
use Rattle.rules.specs.declared.Conjunction.{Conjunction}
use Rattle.rules.specs.declared.Settings.{Settings}
use Rattle.rules.specs.declared.Refusal.{Refusal}
use Rattle.rules.specs.declared.Refusal.TheVariants.{ConjunctionEnds, ConjunctionGoesOn}
use Rattle.rules.specs.Common.{when◌then◌else◌, all, ends, sees}
use Rattle.rules.specs.NumbersHandedBack.{got, refused}
use Rattle.rules.specs.SettingsAndUnitTable.{LETTER, is, most_conjunctions, is_next_duration, holds, letters_of, conjunctions_of, conjunction_accepted, settings_check}
use Rattle.rules.specs.ReadingOnePart.{says, delimiters, conjunction_size, after_conjunction, conjunction_step, connection}
use Rattle.rules.proofs.Laws.Outcomes.{bind_got, bind_refused}
use Rattle.rules.proofs.Laws.Texts.{sees_here}
use Rattle.settings.specs.Laws.Accepted.{conjunction_good, conjunction_letters}
use Rattle.settings.specs.Conjunctions.{conjunctions_listed}

-- ---- the conjunctions one after another: those from i on

abbrev pub size_from : Settings → List ℕ → ℕ → ℕ → ℕ
size_from s text place i = conjunction_size (drop i (conjunctions_of s)) text place

module _ (s : Settings) (text : List ℕ) (place i : ℕ) where
  size_beyond : length (conjunctions_of s) ≤ i → size_from s text place i ≡ 0
  unfolding conjunction_size
  size_beyond h = rw (drop_of_length-le (conjunctions_of s) h)

  pub size_end : s.conjunctions ≤ i → size_from s text place i ≡ 0
  unfolding conjunctions_of
  size_end h = size_beyond (simp length-take (omega arith))

  module _
      (h : i < s.conjunctions) (k : i < most_conjunctions)
      {c : Conjunction} (at : c ≡ get_or (conjunctions_listed s) i s.fourth) where
    from : drop i (conjunctions_of s) ≡ c ∷ drop (i + 1) (conjunctions_of s)
    unfolding conjunctions_of
    from =
        rw (at, add-one i, ← (get_or-take s.conjunctions (conjunctions_listed s) i s.fourth h))
        (drop-cons (conjunctions_of s) i s.fourth (simp length-take (omega arith)))

    pub size_here : says (letters_of c) text place ≡ true → size_from s text place i ≡ c.size
    unfolding conjunction_size when◌then◌else◌
    size_here e = rw (from, e)

    pub size_next : says (letters_of c) text place ≡ false → size_from s text place i ≡ size_from s text place (i + 1)
    unfolding conjunction_size when◌then◌else◌
    size_next e = rw (from, e)

-- under accepted settings a listed conjunction is one of letters
pub listed_letters :
    (s : Settings)
    → settings_check s ≡ got tt
    → (i : ℕ)
    → i < s.conjunctions
    → i < most_conjunctions
    → {c : Conjunction}
    → c ≡ get_or (conjunctions_listed s) i s.fourth
    → all (is LETTER) (letters_of c) ≡ true
unfolding conjunctions_of
listed_letters s good i h k {c = c} at =
    conjunction_letters c
    (ap conjunction_accepted (at ∙ sym (get_or-take s.conjunctions (conjunctions_listed s) i s.fourth h))
    ∙ conjunction_good s good i s.fourth (simp length-take (omega arith)))

-- ---- after the word

module _ (s : Settings) {outer : ByteSet} (o : s.outer ≡ outer) (text : List ℕ) (word place : ℕ) where
  pub after_ends : length text ≤ place → refused (ConjunctionEnds word) ≡ after_conjunction s text word place
  unfolding after_conjunction ends when◌then◌else◌
  after_ends h = rw (le-leb (length text) place h)

  module _ (h : place < length text) where
    outer_at : {b : Bool} → b ≡ sees (holds outer) text place → {t : Bool} → b ≡ t → sees (holds s.outer) text place ≡ t
    outer_at asked e = ap (λ set. sees (holds set) text place) o ∙ sym asked ∙ e

    pub after_delimiters :
        {b : Bool}
        → b ≡ sees (holds outer) text place
        → b ≡ true
        → delimiters outer text place ≡ after_conjunction s text word place
    unfolding after_conjunction ends when◌then◌else◌
    after_delimiters asked e = ap (λ set. delimiters set text place) (sym o) ∙ rw (lt-leb (length text) place h, outer_at asked e)

    module _ {b : Bool} (asked : b ≡ sees (holds outer) text place) (none : b ≡ false) where
      after_here :
          (when is_next_duration (get_or text place 0) then got place else refused (ConjunctionGoesOn place))
          ≡ after_conjunction s text word place
      unfolding after_conjunction ends when◌then◌else◌
      after_here = rw (lt-leb (length text) place h, outer_at asked none, sees_here is_next_duration text place h)

      pub after_part : is_next_duration (get_or text place 0) ≡ true → got place ≡ after_conjunction s text word place
      unfolding when◌then◌else◌
      after_part e = rw e at after_here

      pub after_other :
          is_next_duration (get_or text place 0) ≡ false
          → refused (ConjunctionGoesOn place) ≡ after_conjunction s text word place
      unfolding when◌then◌else◌
      after_other e = rw e at after_here

-- ---- the whole step

module _ (s : Settings) (text : List ℕ) (place : ℕ) where
  pub connection_none : sees (holds s.outer) text place ≡ false → got place ≡ connection s text place
  unfolding connection when◌then◌else◌
  connection_none e = rw e

  module _ (e : sees (holds s.outer) text place ≡ true) where
    pub connection_refused : {cause : Refusal} → delimiters s.outer text place ≡ refused cause → refused cause ≡ connection s text place
    unfolding connection when◌then◌else◌
    connection_refused d = rw (e, bind_refused _ d)

    module _
        {word : ℕ} (d : delimiters s.outer text place ≡ got word)
        {size : ℕ} (c : size ≡ conjunction_size (conjunctions_of s) text word) where
      pub connection_plain : size ≡ 0 → got word ≡ connection s text place
      unfolding connection conjunction_step when◌then◌else◌
      connection_plain none = rw (e, bind_got _ d, ← c, eq-eqb _ _ none)

      pub connection_joined : (size ≡ 0 → ⊥) → after_conjunction s text word (word + size) ≡ connection s text place
      unfolding connection conjunction_step when◌then◌else◌
      connection_joined some = rw (e, bind_got _ d, ← c, ne_eqb _ _ some)
