-- Laws of outcomes: what holds of whatever an outcome got, or was refused with, and outcomes of which the places are moved. Assumes nothing.
use Rattle.std.specs.Prelude.{◌≡◌, Bool, ℕ, ◌+◌}
use Rattle.std.proofs.Math.Path.{refl, sym, ap}
use Rattle.std.proofs.Common.{◌∙◌}
use Rattle.std.proofs.Math.Bool.{true, false}
use Rattle.std.proofs.lemmas.Bool.{false≢true}
use Rattle.rules.specs.declared.Refusal.{Refusal}
use Rattle.rules.specs.declared.Refusal.TheVariants.{Nothing, SignEnds, DelimiterEnds, FractionOff, FractionEmpty, ExponentOff, ExponentByte, ExponentEnds, ExponentAbove, ExponentBelow, InfinityByte, InfinityEnds, InfinityGoesOn, ConjunctionEnds, ConjunctionGoesOn, NegativeForbidden, NoNumber, NoUnit, OutOfRange, Delimiters, Conjunctions, DefaultKind, TableSize, BadRow, LineSize, BadLineRow, NumeralsSize, BadNumeral, WrongIndex, WrongLineIndex, TextTooLong, NoRoom, Beyond, Malformed, NotIso, YearOrMonth, TooLarge, NoStoredRow, NameTooLong}
use Rattle.rules.specs.Common.{when◌then◌else◌}
use Rattle.rules.specs.NumbersHandedBack.{Outcome, got, refused, ◌>>=◌, ◌>>◌, unless}

-- ---- what holds of whatever is got

pub data All {A : Type 0} (P : A → Type 0) : Outcome A → Type 0 where
  all_got : {a : A} → P a → All P (got a)
  all_refused : {cause : Refusal} → All P (refused cause)

module _ {A : Type 0} {P : A → Type 0} where
  pub of_got : {a : A} → All P (got a) → P a
  of_got (all_got p) = p

  -- of what was got, once it is known
  pub all_of : {m : Outcome A} {a : A} → All P m → m ≡ got a → P a
  all_of h e = of_got (rw e at h)

  pub all_if : {b : Bool} {x y : Outcome A} → (b ≡ true → All P x) → (b ≡ false → All P y) → All P (when b then x else y)
  unfolding when◌then◌else◌
  all_if {b} {x} {y} f g = go b f g
    where
      go : (c : Bool) → (c ≡ true → All P x) → (c ≡ false → All P y) → All P (when c then x else y)
      go true f g = f refl
      go false f g = g refl

pub all_bind : {A B : Type 0} {P : A → Type 0} {Q : B → Type 0} {m : Outcome A} {next : A → Outcome B} → All P m → ((a : A) → P a → All Q (next a)) → All Q (m >>= next)
unfolding ◌>>=◌
all_bind (all_got {a = a} p) f = f a p
all_bind all_refused f = all_refused

pub all_map : {A : Type 0} {P Q : A → Type 0} {m : Outcome A} → All P m → ((a : A) → P a → Q a) → All Q m
all_map (all_got {a = a} p) f = all_got (f a p)
all_map all_refused f = all_refused

-- whatever is got is what the outcome is
pub itself : {A : Type 0} (m : Outcome A) → All (λ a. m ≡ got a) m
itself (got a) = all_got refl
itself (refused cause) = all_refused

-- of whatever is got, nothing is asked
pub always : {A : Type 0} (m : Outcome A) → All (λ _. Unit {0}) m
always (got a) = all_got tt
always (refused cause) = all_refused

-- ---- nothing is both got and refused

is_got : {A : Type 0} → Outcome A → Bool
is_got (got a) = true
is_got (refused cause) = false

pub not_got : {A : Type 0} (cause : Refusal) {a : A} → ◌≡◌ {A = Outcome A} (refused cause) (got a) → ⊥
unfolding is_got
not_got cause e = false≢true (ap is_got e)

-- ---- what follows what was got, and a refusal

module _ {A B : Type 0} {m : Outcome A} (next : A → Outcome B) where
  pub bind_got : {a : A} → m ≡ got a → (m >>= next) ≡ next a
  unfolding ◌>>=◌
  bind_got e = rw e

  pub bind_refused : {cause : Refusal} → m ≡ refused cause → (m >>= next) ≡ refused cause
  unfolding ◌>>=◌
  bind_refused e = rw e

-- ---- what is made of whatever was got

what : {B : Type 0} → B → Outcome B → B
what other (got b) = b
what other (refused cause) = other

why : {B : Type 0} → Refusal → Outcome B → Refusal
why other (got b) = other
why other (refused cause) = cause

module _ {A B : Type 0} (make : A → B) (back : B → A) (there : (a : A) → back (make a) ≡ a) where
  -- tells what it was made of
  pub made_got : (m : Outcome A) {b : B} → (m >>= λ a. got (make a)) ≡ got b → (m ≡ got (back b)) × (b ≡ make (back b))
  unfolding ◌>>=◌ what
  made_got (got a) {b = b} e =
      let made : make a ≡ b = ap (what (make a)) e in
      let of_it : a ≡ back b = sym (there a) ∙ ap back made in
      (ap got of_it, sym made ∙ ap make of_it)
  made_got (refused cause) e = absurd (not_got cause e)

-- and a refusal is that of what was asked
pub made_refused : {A B : Type 0} (make : A → B) (m : Outcome A) {cause : Refusal} → (m >>= λ a. got (make a)) ≡ refused cause → m ≡ refused cause
unfolding ◌>>=◌ why
made_refused make (got a) {cause = cause} e = absurd (not_got cause (sym e))
made_refused make (refused first) e = ap refused (ap (why first) e)

-- two ways to go on agree on whatever was got
pub bind_same : {A B : Type 0} {P : A → Type 0} {m : Outcome A} {f g : A → Outcome B} → All P m → ((a : A) → P a → f a ≡ g a) → (m >>= f) ≡ (m >>= g)
unfolding ◌>>=◌
bind_same (all_got {a = a} p) h = h a p
bind_same all_refused h = refl

pub bind_assoc : {A B C : Type 0} (m : Outcome A) (f : A → Outcome B) (g : B → Outcome C) → (m >>= f >>= g) ≡ (m >>= λ a. f a >>= g)
unfolding ◌>>=◌
bind_assoc (got a) f g = refl
bind_assoc (refused cause) f g = refl

-- ---- what holds of whatever is refused

pub data Refused {A : Type 0} (P : Refusal → Type 0) : Outcome A → Type 0 where
  not_refused : {a : A} → Refused P (got a)
  refused_by : {cause : Refusal} → P cause → Refused P (refused cause)

-- whatever is refused is what the outcome is
pub refused_itself : {A : Type 0} (m : Outcome A) → Refused (λ cause. m ≡ refused cause) m
refused_itself (got a) = not_refused
refused_itself (refused cause) = refused_by refl

module _ {A : Type 0} {P : Refusal → Type 0} where
  pub the_cause : {m : Outcome A} {cause : Refusal} → Refused P m → m ≡ refused cause → P cause
  the_cause h e = go (rw e at h)
    where
      go : {cause : Refusal} → Refused {A = A} P (refused cause) → P cause
      go (refused_by p) = p

  pub refused_map : {Q : Refusal → Type 0} {m : Outcome A} → Refused P m → ((cause : Refusal) → P cause → Q cause) → Refused Q m
  refused_map not_refused f = not_refused
  refused_map (refused_by {cause = cause} p) f = refused_by (f cause p)

  pub refused_if : {b : Bool} {x y : Outcome A} → (b ≡ true → Refused P x) → (b ≡ false → Refused P y) → Refused P (when b then x else y)
  unfolding when◌then◌else◌
  refused_if {b} {x} {y} f g = go b f g
    where
      go : (c : Bool) → (c ≡ true → Refused P x) → (c ≡ false → Refused P y) → Refused P (when c then x else y)
      go true f g = f refl
      go false f g = g refl

  pub refused_bind : {B : Type 0} (m : Outcome B) {next : B → Outcome A} → Refused P m → ((b : B) → m ≡ got b → Refused P (next b)) → Refused P (m >>= next)
  unfolding ◌>>=◌
  refused_bind (got b) h f = f b refl
  refused_bind (refused cause) (refused_by p) f = refused_by p

  pub refused_then : {B : Type 0} (m : Outcome B) {next : Outcome A} → Refused P m → Refused P next → Refused P (m >> next)
  unfolding ◌>>◌
  refused_then (got b) h f = f
  refused_then (refused cause) (refused_by p) f = refused_by p

-- a test that fails
pub refused_unless : {P : Refusal → Type 0} (cause : Refusal) (test : Bool) → (test ≡ false → P cause) → Refused P (unless cause test)
unfolding unless
refused_unless cause true f = not_refused
refused_unless cause false f = refused_by (f refl)

-- ---- a check, and what follows it

-- a test that has passed
pub unless_got : (cause : Refusal) (test : Bool) → unless cause test ≡ got tt → test ≡ true
unfolding unless
unless_got cause true e = refl
unless_got cause false e = absurd (not_got cause e)

-- and what comes behind one that has passed
pub passed : (cause : Refusal) (test : Bool) (more : Outcome (Unit {0})) → (unless cause test >> more) ≡ got tt → (test ≡ true) × (more ≡ got tt)
unfolding unless ◌>>◌
passed cause true more e = (refl, e)
passed cause false more e = absurd (not_got cause e)

pub passed_both : (first second : Outcome (Unit {0})) → (first >> second) ≡ got tt → (first ≡ got tt) × (second ≡ got tt)
unfolding ◌>>◌
passed_both (got x) second e = (refl, e)
passed_both (refused cause) second e = absurd (not_got cause e)

-- a refusal that is none of the check's comes behind it
pub check_got : {A : Type 0} {P : Refusal → Type 0} {check : Outcome (Unit {0})} (next : Outcome A) {cause : Refusal} → Refused P check → (P cause → ⊥) → (check >> next) ≡ refused cause → (check ≡ got tt) × (next ≡ refused cause)
unfolding ◌>>◌ why
check_got next (not_refused {a = tt}) other e = (refl, e)
check_got next (refused_by {cause = first} p) other e = absurd (other (rw (ap (why first) e) at p))

-- ---- moved by k places

unfoldable pub later : ℕ → Refusal → Refusal
later k (Nothing p) = Nothing (k + p)
later k (SignEnds p) = SignEnds (k + p)
later k (DelimiterEnds p) = DelimiterEnds (k + p)
later k (FractionOff p) = FractionOff (k + p)
later k (FractionEmpty p) = FractionEmpty (k + p)
later k (ExponentOff p) = ExponentOff (k + p)
later k (ExponentByte p) = ExponentByte (k + p)
later k (ExponentEnds p) = ExponentEnds (k + p)
later k (ExponentAbove p) = ExponentAbove (k + p)
later k (ExponentBelow p) = ExponentBelow (k + p)
later k (InfinityByte p) = InfinityByte (k + p)
later k (InfinityEnds p) = InfinityEnds (k + p)
later k (InfinityGoesOn p) = InfinityGoesOn (k + p)
later k (ConjunctionEnds p) = ConjunctionEnds (k + p)
later k (ConjunctionGoesOn p) = ConjunctionGoesOn (k + p)
later k (NegativeForbidden p) = NegativeForbidden (k + p)
later k (NoNumber p) = NoNumber (k + p)
later k (NoUnit p) = NoUnit (k + p)
later k OutOfRange = OutOfRange
later k Delimiters = Delimiters
later k Conjunctions = Conjunctions
later k DefaultKind = DefaultKind
later k TableSize = TableSize
later k (BadRow i) = BadRow i
later k LineSize = LineSize
later k (BadLineRow i) = BadLineRow i
later k NumeralsSize = NumeralsSize
later k (BadNumeral i) = BadNumeral i
later k (WrongIndex i) = WrongIndex i
later k (WrongLineIndex i) = WrongLineIndex i
later k TextTooLong = TextTooLong
later k (NoRoom p) = NoRoom (k + p)
later k (Beyond p) = Beyond (k + p)
later k Malformed = Malformed
later k (NotIso p) = NotIso (k + p)
later k (YearOrMonth p) = YearOrMonth (k + p)
later k TooLarge = TooLarge
later k (NoStoredRow i) = NoStoredRow i
later k (NameTooLong i) = NameTooLong i

-- the second outcome is the first with its places moved
pub data Moved {A : Type 0} (move : ℕ → A → A) (k : ℕ) : Outcome A → Outcome A → Type 0 where
  moved_got : {a : A} → Moved move k (got a) (got (move k a))
  moved_refused : {cause : Refusal} → Moved move k (refused cause) (refused (later k cause))

module _ {A : Type 0} {move : ℕ → A → A} {k : ℕ} where
  pub moved_to : {a a' : A} → a' ≡ move k a → Moved move k (got a) (got a')
  moved_to e = rw e moved_got

  pub moved_cause : {c c' : Refusal} → c' ≡ later k c → Moved move k (refused c) (refused c')
  moved_cause e = rw e moved_refused

  pub moved_if : {b b' : Bool} {x y x' y' : Outcome A} → b ≡ b' → Moved move k x x' → Moved move k y y' → Moved move k (when b then x else y) (when b' then x' else y')
  unfolding when◌then◌else◌
  moved_if {b} {b'} {x} {y} {x'} {y'} e f g = rw (← e) (go b)
    where
      go : (c : Bool) → Moved move k (when c then x else y) (when c then x' else y')
      go true = f
      go false = g

  pub moved_bind : {B : Type 0} {moveB : ℕ → B → B} {m m' : Outcome B} (next next' : B → Outcome A) → Moved moveB k m m' → ((b : B) → Moved move k (next b) (next' (moveB k b))) → Moved move k (m >>= next) (m' >>= next')
  unfolding ◌>>=◌
  moved_bind next next' (moved_got {a = b}) f = f b
  moved_bind next next' moved_refused f = moved_refused
