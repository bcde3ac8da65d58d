-- Which bytes begin a text that is read: those that walk. Assumes nothing.
use Rattle.std.specs.Prelude.{◌≡◌, refl, ◌⊎◌, Bool, true, false, ◌&&◌, List, [], ◌∷◌, ◌++◌, ℕ, ◌≤◌, length, take, drop}
use Rattle.std.proofs.Common.{sym, ap, ◌∙◌, inl, inr, append_assoc, append-nil, arith, take-append-drop, take-take}
use Rattle.std.proofs.Math.Seq.{take-length, append_snoc}
use Rattle.rules.specs.declared.Refusal.{Refusal}
use Rattle.rules.specs.declared.Refusal.TheVariants.{NotIso}
use Rattle.rules.specs.Common.{when◌then◌else◌, all}
use Rattle.rules.specs.NumbersHandedBack.{Outcome, got, refused}
use Rattle.iso.specs.IsoTimings.{Component, Stand, start, step, may_end, read_from, components}
use Rattle.iso.proofs.Laws.Sound.{never}
use Rattle.iso.proofs.Laws.Stands.{Sane, untimed, completion, completed, ReadsFrom}
use Rattle.iso.proofs.Laws.Walks.{Walk, walk_reads, walk_refused, walk_stopped, walk_place, walk_sane, Way, through, stopped, way}

-- the text is read
abbrev pub Reads : List ℕ → Type 0
Reads text = (cs : List Component) × (components text ≡ got cs)

-- the bytes begin a text that is read
abbrev pub Begins : List ℕ → Type 0
Begins bytes = (rest : List ℕ) × Reads (bytes ++ rest)

-- an outcome is not both
pub not_both : {A : Type 0} {o : Outcome A} {a : A} {cause : Refusal} → o ≡ got a → o ≡ refused cause → ⊥
not_both p q = never (sym q ∙ p)

begins_front : (front back : List ℕ) → Begins (front ++ back) → Begins front
begins_front front back r = (back ++ r.0, (r.1.0, rw (← append_assoc front back r.0) r.1.1))

-- what begins with more bytes begins with fewer
pub begins_less : (m n : ℕ) (text : List ℕ) → m ≤ n → Begins (take n text) → Begins (take m text)
begins_less m n text h r =
    let split : take n text ≡ take m text ++ drop m (take n text) = sym (take-append-drop m (take n text)) ∙ ap (λ l. l ++ drop m (take n text)) (take-take m n text h) in
    begins_front (take m text) (drop m (take n text)) (rw split at r)

pub start_sane : Sane start true
unfolding Sane
start_sane = refl

-- bytes that walk begin a text that is read: that which completes the stand they lead to
pub walk_begins : {last : Stand} {end : ℕ} {bytes : List ℕ} → Walk start 0 bytes last end → Begins bytes
unfolding components
walk_begins {last} {end} {bytes} w = (completion last, walk_reads (completion last) w (completed last (true && all untimed bytes) (walk_sane true start_sane w) end))

-- with a byte that is refused after them they begin none
pub stopped_barred : {last : Stand} {end : ℕ} {bytes : List ℕ} {cause : Refusal} (b : ℕ) → Walk start 0 bytes last end → step last end b ≡ refused cause → Begins (bytes ++ (b ∷ [])) → ⊥
unfolding components
stopped_barred {bytes = bytes} b w e r = not_both (rw (append_snoc bytes b r.0) at r.1.1) (walk_stopped b r.0 w e)

walked : (bytes : List ℕ) → Way start 0 bytes → Begins bytes → (last : Stand) × (end : ℕ) × Walk start 0 bytes last end
walked bytes (through {last} {end} w) r = (last, end, w)
walked bytes (stopped {bytes = front} b rest split w e) r =
    let split' : bytes ≡ (front ++ (b ∷ [])) ++ rest = split ∙ sym (append_snoc front b rest) in
    absurd (stopped_barred b w e (begins_front (front ++ (b ∷ [])) rest (rw split' at r)))

-- the bytes that begin a text that is read walk
pub begins_walk : (bytes : List ℕ) → Begins bytes → (last : Stand) × (end : ℕ) × Walk start 0 bytes last end
begins_walk bytes = walked bytes (way start 0 bytes)

-- a text that walks to its end is read, or refused there
pub walk_ends : {last : Stand} {end : ℕ} (text : List ℕ) → Walk start 0 text last end → Reads text ⊎ (components text ≡ refused (NotIso (length text)))
unfolding components read_from when◌then◌else◌
walk_ends {last} {end} text w = go (may_end last) refl
  where
    go : (c : Bool) → may_end last ≡ c → Reads text ⊎ (components text ≡ refused (NotIso (length text)))
    go true e =
        let whole : ReadsFrom start 0 (text ++ []) = walk_reads [] w ([], rw e) in
        inl (whole.0, rw append-nil at whole.1)
    go false e =
        let here : end ≡ length text = omega (arith, walk_place w) in
        let whole : read_from start 0 (text ++ []) ≡ refused (NotIso end) = walk_refused [] w (rw e) in
        inr (rw (append-nil, here) at whole)

pub whole_begins : (text : List ℕ) → Reads text → Begins text
whole_begins text r = ([], (r.0, rw append-nil r.1))

pub whole_taken : (n : ℕ) (text : List ℕ) → Begins text → n ≤ length text → Begins (take n text)
whole_taken n text r h = begins_less n (length text) text h (rw take-length r)
