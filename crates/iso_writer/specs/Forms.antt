-- What is written of a component and of a length, from their digits; and what the writer answers, in the order of its refusals. A byte
-- is written as its number: 72 is `H`, 77 `M`, 80 `P`, 83 `S`, 84 `T`. Assumes nothing.
use Rattle.std.specs.Prelude.{◌≡◌, Bool, ℕ, zero, suc, ◌+◌, ◌-◌, ◌*◌, ◌/◌, ◌%◌, ◌^◌, ◌≤◌, ◌<◌, eqb, get_or, set, take, Option, Some, None}
use Rattle.std.proofs.Math.Path.{refl}
use Rattle.std.proofs.Common.{sym, ap, ◌∙◌, arith, length-append, length-set}
use Rattle.std.proofs.lemmas.List.{take_more}
use Rattle.std.proofs.Math.Bool.{true, false}
use mathlib.Core.List.{List, [], ◌∷◌, ◌++◌, append_assoc, append-nil}
use borrow.Author.Tests.{le-leb, lt-leb}
use Rattle.std.proofs.Math.ListN.{length}
use Rattle.rules.specs.declared.Length.{Length}
use Rattle.rules.specs.declared.Answer.{Answer}
use Rattle.rules.specs.declared.Refusal.TheVariants.{NegativeForbidden, NoRoom, Beyond, Malformed}
use Rattle.rules.specs.Common.{when◌then◌else◌}
use Rattle.rules.specs.NumbersHandedBack.{◌>>◌, unless, done, refusal, answered}
use Rattle.rules.specs.ThePartOfTheCrateWeTake.{well_formed}
use Rattle.rules.specs.WriterAndShiftTotal.{decimals, whole_digits, fraction_digits, written_fraction}
use Rattle.iso.specs.IsoTimings.{component, letters, letter, clock_mark, spelling_after, spelling, iso_written, writing_iso, iso_buffer_after, iso_write_answer, iso_written_buffer}
use Rattle.writing.specs.Digits.{decimals_length}
use Rattle.writing.specs.Forms.{fraction_size, fraction_size_most, behind_point, behind_length, behind_is}
use Rattle.writing.specs.Laid.{laid, laid_then, laid_on, laid_byte, laid_length}
use Rattle.iso_writer.specs.Components.{shown, if_shown, chosen, hours_shown, minutes_shown, seconds_shown, one_shown, components_shown}
use Rattle.writing.specs.declared.digits.Decimal.{Decimal}
use Rattle.iso_writer.specs.declared.part.Part.{Part}

-- ---- a component

-- what is written of one
unfoldable pub written_part : ℕ → Bool → ℕ → ℕ → List ℕ
written_part unit needed number nanoseconds =
    when shown needed number nanoseconds then whole_digits number ++ written_fraction nanoseconds ++ unit ∷ [] else []

-- its digits are counted: so many bytes, and these
abbrev pub digits_size : Part → ℕ
digits_size p = p.whole.count + fraction_size p.decimals.count + 1

abbrev pub digits_bytes : Part → List ℕ
digits_bytes p = decimals p.whole.count p.whole.number ++ behind_point p.decimals ++ p.letter ∷ []

-- one that is left out has none
abbrev pub part_size : Option Part → ℕ
part_size None = 0
part_size (Some p) = digits_size p

abbrev pub part_bytes : Option Part → List ℕ
part_bytes None = []
part_bytes (Some p) = digits_bytes p

pub part_length : (o : Option Part) → length (part_bytes o) ≡ part_size o
part_length None = refl
part_length (Some p) = simp (length-append, decimals_length, behind_length) (omega arith)

pub part_most : (o : Option Part) → part_size o ≤ 31
part_most None = omega arith
part_most (Some p) = omega (arith, p.small.0, fraction_size_most p.decimals.count p.small.1)

-- laid over a buffer with room for it, it changes no length
pub part_kept :
    (o : Option Part) (buffer after : List ℕ) (place : ℕ)
    → after ≡ laid buffer place (part_bytes o)
    → place + part_size o ≤ length buffer
    → length after ≡ length buffer
part_kept o buffer after place e room = ap length e ∙ laid_length buffer place (part_bytes o) (omega (arith, part_length o))

pub left_size : 0 ≡ part_size None
left_size = refl

pub left_bytes : [] ≡ part_bytes None
left_bytes = refl

pub shown_size : (p : Part) → p.whole.count + fraction_size p.decimals.count + 1 ≡ part_size (Some p)
shown_size p = refl

pub shown_bytes : (p : Part) → decimals p.whole.count p.whole.number ++ behind_point p.decimals ++ p.letter ∷ [] ≡ part_bytes (Some p)
shown_bytes p = refl

-- the digits, behind them the decimals, and behind them the letter
pub part_laid :
    (p : Part) (buffer : List ℕ) (place : ℕ)
    → place + digits_size p ≤ length buffer
    → set (laid (laid buffer place (decimals p.whole.count p.whole.number)) (place + p.whole.count) (behind_point p.decimals))
    (place + p.whole.count + fraction_size p.decimals.count) p.letter
    ≡ laid buffer place (digits_bytes p)
part_laid p buffer place room =
    let digits : List ℕ = decimals p.whole.count p.whole.number in
    let point : ℕ = place + p.whole.count in
    let last : ℕ = point + fraction_size p.decimals.count in
    let count = decimals_length p.whole.count p.whole.number in
    ap (λ b. set b last p.letter) (laid_then buffer place point digits (behind_point p.decimals) (omega (arith, count)) (omega arith))
    ∙ laid_byte buffer place last (digits ++ behind_point p.decimals) p.letter
    (omega (arith, count, behind_length p.decimals, length-append digits (behind_point p.decimals)))
    (omega arith)

-- those of one that is shown are written
pub part_is :
    (whole fraction : Decimal) (letter : ℕ) (needed : Bool) (number nanoseconds : ℕ)
    → nanoseconds < 10 ^ 9
    → shown needed number nanoseconds ≡ true
    → whole_digits number ≡ decimals whole.count whole.number
    → fraction_digits nanoseconds ≡ decimals fraction.count fraction.number
    → decimals whole.count whole.number ++ behind_point fraction ++ letter ∷ [] ≡ written_part letter needed number nanoseconds
unfolding written_part when◌then◌else◌
part_is whole fraction letter needed number nanoseconds short shows d f = rw (shows, d, behind_is nanoseconds fraction short f)

pub part_not : (letter : ℕ) (needed : Bool) (number nanoseconds : ℕ) → shown needed number nanoseconds ≡ false → [] ≡ written_part letter needed number nanoseconds
unfolding written_part when◌then◌else◌
part_not letter needed number nanoseconds out = rw out

-- ---- a length: its components, one behind another

abbrev pub parts_size : List (Option Part) → ℕ
parts_size [] = 0
parts_size (o ∷ parts) = part_size o + parts_size parts

abbrev pub parts_bytes : List (Option Part) → List ℕ
parts_bytes [] = []
parts_bytes (o ∷ parts) = part_bytes o ++ parts_bytes parts

abbrev pub form_size : List (Option Part) → ℕ
form_size form = 2 + parts_size form

unfoldable pub form_bytes : List (Option Part) → List ℕ
form_bytes form = 80 ∷ 84 ∷ parts_bytes form

parts_length : (form : List (Option Part)) → length (parts_bytes form) ≡ parts_size form
parts_length [] = refl
parts_length (o ∷ form) = length-append (part_bytes o) (parts_bytes form) ∙ omega (arith, part_length o, parts_length form)

pub form_length : (form : List (Option Part)) → length (form_bytes form) ≡ form_size form
unfolding form_bytes
form_length form = omega (arith, parts_length form)

-- ---- the first so many components

pub parts_most : (form : List (Option Part)) → parts_size form ≤ 31 * length form
parts_most [] = omega arith
parts_most (o ∷ form) = omega (arith, part_most o, parts_most form)

size_last : (parts : List (Option Part)) (o : Option Part) → parts_size (parts ++ (o ∷ [])) ≡ parts_size parts + part_size o
size_last [] o = omega arith
size_last (x ∷ parts) o = omega (arith, size_last parts o)

bytes_last : (parts : List (Option Part)) (o : Option Part) → parts_bytes (parts ++ (o ∷ [])) ≡ parts_bytes parts ++ part_bytes o
bytes_last [] o = append-nil (part_bytes o)
bytes_last (x ∷ parts) o = ap (λ l. part_bytes x ++ l) (bytes_last parts o) ∙ sym (append_assoc (part_bytes x) (parts_bytes parts) (part_bytes o))

-- one more
module _ (form : List (Option Part)) (i : ℕ) (o : Option Part) (h : i < length form) where
  pub more_size : parts_size (take (i + 1) form) ≡ parts_size (take i form) + part_size (get_or form i o)
  more_size = ap parts_size (take_more form i o h) ∙ size_last (take i form) (get_or form i o)

  more_bytes : parts_bytes (take (i + 1) form) ≡ parts_bytes (take i form) ++ part_bytes (get_or form i o)
  more_bytes = ap parts_bytes (take_more form i o h) ∙ bytes_last (take i form) (get_or form i o)

  -- behind those that stand there
  pub form_more :
      (buffer : List ℕ) (place : ℕ)
      → place ≤ length buffer
      → laid (laid buffer place (parts_bytes (take i form))) (place + parts_size (take i form)) (part_bytes (get_or form i o))
      ≡ laid buffer place (parts_bytes (take (i + 1) form))
  form_more buffer place within =
      laid_then buffer place (place + parts_size (take i form)) (parts_bytes (take i form)) (part_bytes (get_or form i o)) (omega (arith, parts_length (take i form))) within
      ∙ ap (laid buffer place) (sym more_bytes)

-- the first so many have no more bytes than all
pub part_fits : (form : List (Option Part)) (i : ℕ) (o : Option Part) → i < length form → parts_size (take i form) + part_size (get_or form i o) ≤ parts_size form
part_fits [] i o h = absurd (omega (arith, h))
part_fits (x ∷ form) zero o h = omega arith
part_fits (x ∷ form) (suc i) o h = let rest = part_fits form i o (omega (arith, h)) in omega (arith, rest)

-- `P` and `T`, and the components behind them
pub form_laid :
    (form : List (Option Part)) (buffer : List ℕ) (place : ℕ)
    → place + form_size form ≤ length buffer
    → laid (set (set buffer place 80) (place + 1) 84) (place + 1 + 1) (parts_bytes form) ≡ laid buffer place (form_bytes form)
unfolding form_bytes
form_laid form buffer place room =
    laid_on (set buffer place 80) (place + 1) 84 (parts_bytes form) (omega (arith, length-set buffer place 80))
    ∙ laid_on buffer place 80 (84 ∷ parts_bytes form) (omega arith)

-- ---- what is written of a length, component by component

-- those that are shown, of which there is one at least: `T` stands before the first
in_order :
    (hours minutes seconds nanoseconds : ℕ) (h m s : Bool)
    → (h ≡ false → m ≡ false → s ≡ false → ⊥)
    → spelling (chosen hours minutes seconds nanoseconds h m s)
    ≡ 80 ∷ 84
    ∷ ((when h then whole_digits hours ++ written_fraction 0 ++ 72 ∷ [] else [])
    ++ (when m then whole_digits minutes ++ written_fraction 0 ++ 77 ∷ [] else [])
    ++ (when s then whole_digits seconds ++ written_fraction nanoseconds ++ 83 ∷ [] else []))
unfolding spelling spelling_after clock_mark letter letters if_shown component when◌then◌else◌
in_order hours minutes seconds nanoseconds false false false some = absurd (some refl refl refl)
in_order hours minutes seconds nanoseconds false false true some = simp append_assoc
in_order hours minutes seconds nanoseconds false true false some = simp (append_assoc, append-nil)
in_order hours minutes seconds nanoseconds false true true some = simp append_assoc
in_order hours minutes seconds nanoseconds true false false some = simp (append_assoc, append-nil)
in_order hours minutes seconds nanoseconds true false true some = simp append_assoc
in_order hours minutes seconds nanoseconds true true false some = simp (append_assoc, append-nil)
in_order hours minutes seconds nanoseconds true true true some = simp append_assoc

pub in_parts :
    (l : Length)
    → iso_written l
    ≡ 80 ∷ 84
    ∷ (written_part 72 false (l.seconds / 3600) 0
    ++ written_part 77 false (l.seconds / 60 % 60) 0
    ++ written_part 83 (eqb l.seconds 0) (l.seconds % 60) l.nanoseconds)
unfolding iso_written written_part
in_parts l =
    ap spelling (components_shown l)
    ∙ in_order (l.seconds / 3600) (l.seconds / 60 % 60) (l.seconds % 60) l.nanoseconds (hours_shown l) (minutes_shown l) (seconds_shown l) (one_shown l)

pub parts_written :
    (l : Length) (hours minutes seconds : Option Part)
    → part_bytes hours ≡ written_part 72 false (l.seconds / 3600) 0
    → part_bytes minutes ≡ written_part 77 false (l.seconds / 60 % 60) 0
    → part_bytes seconds ≡ written_part 83 (eqb l.seconds 0) (l.seconds % 60) l.nanoseconds
    → form_bytes (hours ∷ minutes ∷ seconds ∷ []) ≡ iso_written l
unfolding form_bytes
parts_written l hours minutes seconds h m s =
    rw (append-nil (part_bytes seconds), h, m, s)
    (ap (λ bytes. 80 ∷ 84 ∷ bytes)
    (sym (append_assoc (written_part 72 false (l.seconds / 3600) 0) (written_part 77 false (l.seconds / 60 % 60) 0) (written_part 83 (eqb l.seconds 0) (l.seconds % 60) l.nanoseconds)))
    ∙ sym (in_parts l))

-- ---- what the writer answers

module _ (l : Length) (buffer : List ℕ) (place : ℕ) where
  -- what is handed back, and the buffer then
  abbrev Ends : Answer → List ℕ → Type 0
  Ends answer after = (answer ≡ iso_write_answer l buffer place) × (after ≡ iso_written_buffer l buffer place)

  pub write_malformed : well_formed l ≡ false → Ends (refusal Malformed) buffer
  unfolding iso_write_answer iso_written_buffer writing_iso iso_buffer_after answered unless ◌>>◌
  write_malformed e = rw e (refl, refl)

  module _ (good : well_formed l ≡ true) where
    pub write_negative : l.negative ≡ true → Ends (refusal (NegativeForbidden 0)) buffer
    unfolding iso_write_answer iso_written_buffer writing_iso iso_buffer_after answered unless ◌>>◌
    write_negative e = rw (good, e) (refl, refl)

    module _ (plus : l.negative ≡ false) where
      pub write_beyond : length buffer < place → Ends (refusal (Beyond place)) buffer
      unfolding iso_write_answer iso_written_buffer writing_iso iso_buffer_after answered unless ◌>>◌
      write_beyond h = rw (good, plus, lt-leb place (length buffer) h) (refl, refl)

      module _ (within : place ≤ length buffer) where
        pub write_no_room : length buffer - place < length (iso_written l) → Ends (refusal (NoRoom place)) buffer
        unfolding iso_write_answer iso_written_buffer writing_iso iso_buffer_after answered unless ◌>>◌
        write_no_room h =
            let full = lt-leb (length (iso_written l)) (length buffer - place) h in
            rw (good, le-leb place (length buffer) within, full, plus) (refl, refl)

        pub write_done :
            length (iso_written l) ≤ length buffer - place
            → Ends (done (place + length (iso_written l)) l) (laid buffer place (iso_written l))
        unfolding iso_write_answer iso_written_buffer writing_iso iso_buffer_after answered unless ◌>>◌ laid
        write_done h =
            let fits = le-leb (length (iso_written l)) (length buffer - place) h in
            rw (good, le-leb place (length buffer) within, fits, plus) (refl, refl)
