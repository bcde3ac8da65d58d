-- A walk is the moves that bytes make from stand to stand. Every text walks to its end, or to a byte that is refused. Assumes nothing.
use Rattle.std.specs.Prelude.{◌≡◌, refl, Bool, ◌&&◌, List, [], ◌∷◌, ◌++◌, ℕ, suc, ◌+◌, length, get_or}
use Rattle.std.proofs.Common.{ap, arith}
use Rattle.rules.specs.declared.Refusal.{Refusal}
use Rattle.rules.specs.Common.{all}
use Rattle.rules.specs.SettingsAndUnitTable.{DIGIT, is}
use Rattle.rules.specs.NumbersHandedBack.{Outcome, got, refused, ◌>>=◌}
use Rattle.rules.proofs.Laws.Tests.{and_assoc, and_true}
use Rattle.iso.specs.IsoTimings.{Stand, Move, step, read_from}
use Rattle.iso.proofs.Laws.Stands.{Sane, Stepped, moves, stepped, numbered, untimed, ReadsFrom, one_more}

-- from a stand at a place the bytes lead to a stand at a place
pub data Walk : Stand → ℕ → List ℕ → Stand → ℕ → Type 0 where
  stays : {s : Stand} {place : ℕ} → Walk s place [] s place
  goes : {s last : Stand} {place b end : ℕ} {m : Move} {bytes : List ℕ} → step s place b ≡ got m → Walk m.stand (suc place) bytes last end → Walk s place (b ∷ bytes) last end

-- ---- what follows a walk says how the text is read

pub walk_reads : {s last : Stand} {place end : ℕ} {bytes : List ℕ} (rest : List ℕ) → Walk s place bytes last end → ReadsFrom last end rest → ReadsFrom s place (bytes ++ rest)
walk_reads rest stays r = r
walk_reads rest (goes {s = s} {place = place} {b = b} {bytes = bytes} e w) r = one_more s place b (bytes ++ rest) e (walk_reads rest w r)

pub walk_refused : {s last : Stand} {place end : ℕ} {bytes : List ℕ} (rest : List ℕ) {cause : Refusal} → Walk s place bytes last end → read_from last end rest ≡ refused cause → read_from s place (bytes ++ rest) ≡ refused cause
unfolding read_from ◌>>=◌
walk_refused rest stays r = r
walk_refused rest (goes e w) r = rw (e, walk_refused rest w r)

pub walk_stopped : {s last : Stand} {place end : ℕ} {bytes : List ℕ} (b : ℕ) (rest : List ℕ) {cause : Refusal} → Walk s place bytes last end → step last end b ≡ refused cause → read_from s place (bytes ++ (b ∷ rest)) ≡ refused cause
unfolding read_from ◌>>=◌
walk_stopped b rest w e = walk_refused (b ∷ rest) w (rw e)

-- ---- what is known after a walk

pub walk_place : {s last : Stand} {place end : ℕ} {bytes : List ℕ} → Walk s place bytes last end → end ≡ place + length bytes
walk_place stays = omega arith
walk_place (goes {bytes = bytes} e w) = omega (arith, walk_place w)

-- of the move that a byte makes
moved_sane : {s : Stand} {place b : ℕ} {m : Move} {dated : Bool} → Stepped s dated place b (got m) → Sane m.stand (dated && untimed b)
moved_sane (moves h n) = h

moved_numbered : {s : Stand} {place b : ℕ} {m : Move} {dated : Bool} → Stepped s dated place b (got m) → numbered m.stand ≡ is DIGIT b
moved_numbered (moves h n) = n

pub walk_sane : {s last : Stand} {place end : ℕ} {bytes : List ℕ} (dated : Bool) → Sane s dated → Walk s place bytes last end → Sane last (dated && all untimed bytes)
unfolding all
walk_sane dated h stays = rw and_true h
walk_sane dated h (goes {s = s} {place = place} {b = b} {bytes = bytes} e w) =
    rw (← and_assoc dated (untimed b) (all untimed bytes)) (walk_sane (dated && untimed b) (moved_sane (rw e at (stepped s dated h place b))) w)

-- a number may end after a walk if the last byte is a digit
pub walk_numbered : {s last : Stand} {place end : ℕ} {bytes : List ℕ} (dated : Bool) → Sane s dated → (before : ℕ) → numbered s ≡ is DIGIT before → Walk s place bytes last end → numbered last ≡ is DIGIT (get_or (before ∷ bytes) (length bytes) 0)
walk_numbered dated h before n stays = n
walk_numbered dated h before n (goes {s = s} {place = place} {b = b} e w) =
    let here : Stepped s dated place b (got _) = rw e at (stepped s dated h place b) in
    walk_numbered (dated && untimed b) (moved_sane here) b (moved_numbered here) w

-- ---- every text walks to its end, or to a byte that is refused

pub data Way (s : Stand) (place : ℕ) (text : List ℕ) : Type 0 where
  through : {last : Stand} {end : ℕ} → Walk s place text last end → Way s place text
  stopped : {last : Stand} {end : ℕ} {bytes : List ℕ} (b : ℕ) (rest : List ℕ) {cause : Refusal} → text ≡ bytes ++ (b ∷ rest) → Walk s place bytes last end → step last end b ≡ refused cause → Way s place text

longer_way : {s : Stand} {place b : ℕ} {m : Move} {text : List ℕ} → step s place b ≡ got m → Way m.stand (suc place) text → Way s place (b ∷ text)
longer_way e (through w) = through (goes e w)
longer_way {b = b} e (stopped c rest split w h) = stopped c rest (ap (λ (l : List ℕ). b ∷ l) split) (goes e w) h

way_on : (s : Stand) (place b : ℕ) (text : List ℕ) → ((next : Stand) → Way next (suc place) text) → (o : Outcome Move) → step s place b ≡ o → Way s place (b ∷ text)
way_on s place b text others (got m) e = longer_way e (others m.stand)
way_on s place b text others (refused cause) e = stopped b text refl stays e

pub way : (s : Stand) (place : ℕ) (text : List ℕ) → Way s place text
way s place [] = through stays
way s place (b ∷ text) = way_on s place b text (λ next. way next (suc place) text) (step s place b) refl
