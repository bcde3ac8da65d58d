-- What accepted settings have: delimiters of one class, conjunctions of letters and a default kind within their limits. Assumes nothing.
use Rattle.std.specs.Prelude.{◌≡◌, Bool, true, false, not, ◌||◌, ℕ, ◌≤◌, ◌<◌, eqb, leb, ltb, length, get_or}
use Rattle.std.proofs.lemmas.Bool.{false≢true}
use borrow.Author.Tests.{leb-true, eqb-true}
use Rattle.rules.specs.declared.ByteSet.{ByteSet}
use Rattle.rules.specs.declared.Conjunction.{Conjunction}
use Rattle.rules.specs.declared.Settings.{Settings}
use Rattle.rules.specs.declared.Refusal.TheVariants.{Delimiters, Conjunctions, DefaultKind}
use Rattle.rules.specs.Common.{between, all}
use Rattle.rules.specs.NumbersHandedBack.{got}
use Rattle.rules.specs.SettingsAndUnitTable.{LETTER, OTHER, class, letters_of, is, holds, may_delimit, delimits, delimiters_accepted, conjunction_accepted, conjunctions_accepted, conjunctions_of, most_conjunctions, most_letters, last_kind, settings_check}
use Rattle.rules.proofs.Laws.Choices.{and_left, and_right}
use Rattle.rules.proofs.Laws.Tests.{between_from, between_to}
use Rattle.rules.proofs.Laws.Outcomes.{passed, unless_got}
use Rattle.rules.proofs.Laws.Lists.{all_index, runs_below}

-- ---- settings

implied : (a b : Bool) → (not a || b) ≡ true → a ≡ true → b ≡ true
implied true b e h = e
implied false b e h = absurd (false≢true h)

delimits_only : (set : ByteSet) (b : ℕ) → b < 256 → delimits set 0 256 ≡ true → holds set b ≡ true → may_delimit b ≡ true
unfolding delimits
delimits_only set b below e = implied (holds set b) (may_delimit b) (runs_below (λ k. not (holds set k) || may_delimit k) 256 b e below)

-- a byte that may delimit is of no class that the steps read
pub delimiter_class : (b : ℕ) → may_delimit b ≡ true → class b ≡ OTHER
unfolding may_delimit is
delimiter_class b e = eqb-true (class b) OTHER (and_right (ltb b 128) (eqb (class b) OTHER) e)

module _ (s : Settings) (good : settings_check s ≡ got tt) where
  delimiters : delimiters_accepted s ≡ true
  unfolding settings_check
  delimiters = (passed Delimiters (delimiters_accepted s) _ good).0

  conjunctions : conjunctions_accepted s ≡ true
  unfolding settings_check
  conjunctions = (passed Conjunctions (conjunctions_accepted s) _ (passed Delimiters (delimiters_accepted s) _ good).1).0

  pub default_most : s.default_kind ≤ last_kind
  unfolding settings_check
  default_most =
      leb-true s.default_kind last_kind (unless_got DefaultKind _ (passed Conjunctions (conjunctions_accepted s) _ (passed Delimiters (delimiters_accepted s) _ good).1).1)

  -- both sets hold only bytes that may delimit
  pub inner_good : delimits s.inner 0 256 ≡ true
  unfolding delimiters_accepted
  inner_good = and_left (delimits s.inner 0 256) (delimits s.outer 0 256) delimiters

  pub outer_good : delimits s.outer 0 256 ≡ true
  unfolding delimiters_accepted
  outer_good = and_right (delimits s.inner 0 256) (delimits s.outer 0 256) delimiters

  pub inner_delimits : (b : ℕ) → b < 256 → holds s.inner b ≡ true → may_delimit b ≡ true
  inner_delimits b below = delimits_only s.inner b below inner_good

  pub outer_delimits : (b : ℕ) → b < 256 → holds s.outer b ≡ true → may_delimit b ≡ true
  outer_delimits b below = delimits_only s.outer b below outer_good

  pub conjunctions_most : s.conjunctions ≤ most_conjunctions
  unfolding conjunctions_accepted
  conjunctions_most = leb-true s.conjunctions most_conjunctions (and_left _ _ conjunctions)

  -- each conjunction is 1 to 8 letters
  pub conjunction_good : (i : ℕ) (d : Conjunction) → i < length (conjunctions_of s) → conjunction_accepted (get_or (conjunctions_of s) i d) ≡ true
  unfolding conjunctions_accepted
  conjunction_good i d below = all_index conjunction_accepted (conjunctions_of s) i d (and_right (leb s.conjunctions most_conjunctions) (all conjunction_accepted (conjunctions_of s)) conjunctions) below

pub conjunction_letters : (c : Conjunction) → conjunction_accepted c ≡ true → all (is LETTER) (letters_of c) ≡ true
unfolding conjunction_accepted
conjunction_letters c e = and_right (between 1 most_letters c.size) (all (is LETTER) (letters_of c)) e

pub conjunction_sizes : (c : Conjunction) → conjunction_accepted c ≡ true → (1 ≤ c.size) × (c.size ≤ most_letters)
unfolding conjunction_accepted
conjunction_sizes c e =
    let sizes = and_left (between 1 most_letters c.size) (all (is LETTER) (letters_of c)) e in
    (between_from 1 most_letters c.size sizes, between_to 1 most_letters c.size sizes)
