-- A unit's name scanned in a text: its first bytes go into a word on the way. Assumes nothing.
use Rattle.std.specs.Prelude.{◌≡◌, refl, Bool, List, ℕ, ◌+◌, ◌*◌, ◌-◌, ◌^◌, ◌≤◌, ◌<◌, length, get_or, take, drop}
use Rattle.std.proofs.Common.{sym, ap, ◌∙◌, add-zero, arith, length-drop, length-take, take_all, take-take, get_or-drop}
use Rattle.std.proofs.Math.Nat.{sub_self}
use Rattle.std.proofs.Math.Seq.{slice}
use Rattle.rules.specs.Common.{run}
use Rattle.rules.specs.SettingsAndUnitTable.{low_first}
use Rattle.rules.specs.Laws.Lists.{Bytes}
use Rattle.rules.proofs.Laws.Texts.{run_from, slice_shift}
use Rattle.words.specs.LowFirst.{low_first_part, low_first_more}
use Rattle.steps.specs.declared.unit.Stretch.{Stretch}

-- the part of the text between two places that do not fall
pub stretch_part : (text : List ℕ) (place end : ℕ) → place ≤ end → take (end - place) (drop place text) ≡ slice place end text
stretch_part text place end h =
    let whole : place + (end - place) ≡ end = omega arith in
    slice_shift text place 0 (end - place) ∙ rw (add-zero place, whole)

-- what was scanned: within the text, if it is anything, and its first word
pub record Scanned (text : List ℕ) (place : ℕ) (stretch : Stretch) : Type 0 where
  pub within : place < stretch.end → stretch.end ≤ length text
  pub word : stretch.first ≡ low_first (take 8 (slice place stretch.end text))

-- on the way: at most eight bytes have been scanned, they are the word's, and the run goes on from here
pub record Scanning (test : ℕ → Bool) (text : List ℕ) (place next first bits : ℕ) : Type 0 where
  pub from : place ≤ next
  pub few : next ≤ place + 8
  pub counted : bits ≡ 8 * (next - place)
  pub within : place < next → next ≤ length text
  pub word : first ≡ low_first (take (next - place) (drop place text))
  pub further : run test text next ≡ run test text place

pub scan_starts : (test : ℕ → Bool) (text : List ℕ) (place : ℕ) → Scanning test text place place 0 0
unfolding low_first
scan_starts test text place = record {
  from = omega arith;
  few = omega arith;
  counted = omega arith;
  within = λ h. absurd (omega arith);
  word = rw (sub_self place);
  further = refl;
}

module _ {test : ℕ → Bool} {text : List ℕ} {place next first bits : ℕ} (s : Scanning test text place next first bits) where
  -- a byte more goes on with the run
  module _ (here : next < length text) where
    left : next - place < length (drop place text)
    left = simp length-drop (omega (arith, s.from))

    pub scan_room : Bytes text → bits < 64 → (first < 2 ^ bits) × (bits ≤ 56)
    scan_room bytes some = (
      rw (s.word, s.counted) (low_first_part (drop place text) (next - place) (omega (arith, left)) (λ k. rw (get_or-drop place text k 0) (bytes (place + k)))),
      omega (arith, s.counted),
    )

    pub scan_goes_on : {more : ℕ} → bits < 64 → run test text next ≡ run test text (next + 1) → more ≡ first + get_or text next 0 * 2 ^ bits → Scanning test text place (next + 1) more (bits + 8)
    scan_goes_on some on e =
        let step : next + 1 - place ≡ next - place + 1 = omega (arith, s.from) in
        let there : place + (next - place) ≡ next = omega (arith, s.from) in
        let byte : get_or (drop place text) (next - place) 0 ≡ get_or text next 0 = get_or-drop place text (next - place) 0 ∙ ap (λ n. get_or text n 0) there in
        record {
          from = omega (arith, s.from);
          few = omega (arith, s.counted, s.from);
          counted = omega (arith, s.counted, s.from);
          within = λ h. omega arith;
          word = e ∙ rw (s.word, s.counted, step, low_first_more (drop place text) (next - place) left, byte);
          further = sym on ∙ s.further;
        }

  -- the run ends here
  pub scan_ends : run test text next ≡ next → (next ≡ run test text place) × (first ≡ low_first (take 8 (slice place next text)))
  scan_ends stop = (
    sym stop ∙ s.further,
    s.word ∙ ap low_first (sym (take_all 8 (take (next - place) (drop place text)) (simp length-take (omega (arith, s.few)))) ∙ ap (take 8) (stretch_part text place next s.from)),
  )

  -- or behind a whole word
  pub scan_on : {end : ℕ} → 64 ≤ bits → end ≡ run test text next → (end ≡ run test text place) × (first ≡ low_first (take 8 (slice place end text)))
  scan_on {end} full e =
      let eight : next - place ≡ 8 = omega (arith, s.counted, s.few, s.from) in
      let past : 8 ≤ end - place = omega (arith, e, run_from test text next, s.from) in (
        e ∙ s.further,
        s.word
            ∙ ap low_first
            (ap (λ n. take n (drop place text)) eight
            ∙ sym (take-take 8 (end - place) (drop place text) past)
            ∙ ap (take 8) (stretch_part text place end (omega (arith, past)))),
      )
