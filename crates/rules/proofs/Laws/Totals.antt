-- A total of a text is its parts read one after another: what a loop over the parts goes by. Assumes nothing.
use Rattle.std.specs.Prelude.{◌≡◌, Bool, true, false, List, [], ◌∷◌, length}
use Rattle.std.proofs.Math.Path.{refl, ap}
use Rattle.std.proofs.Common.{◌∙◌, arith, le-leb}
use Prim.Native.Nat.{ℕ, zero, suc, ◌+◌, ◌≤◌, ◌<◌}
use Rattle.rules.specs.declared.Length.{Length}
use Rattle.rules.specs.declared.Refusal.TheVariants.{Nothing}
use Rattle.rules.specs.Common.{when◌then◌else◌, ends}
use Rattle.rules.specs.ThePartOfTheCrateWeTake.{zero_length, well_formed}
use Rattle.rules.specs.NumbersHandedBack.{Outcome, got, refused, ◌>>=◌}
use Rattle.rules.specs.SettingsAndUnitTable.{Card}
use Rattle.rules.specs.ReadingOnePart.{part}
use Rattle.rules.specs.Evaluation.{evaluated, allowed, part_reading, sum, sum_all, parts, total}
use Rattle.rules.proofs.Laws.Outcomes.{All, all_got, all_refused, all_if, all_bind, always, bind_same, bind_assoc}
use Rattle.rules.proofs.Laws.Ahead.{Beyond, part_beyond}
use Rattle.rules.proofs.Laws.Lengths.{zero_well_formed, evaluated_well_formed, sum_well_formed}

-- the first length added, then the others
one_more : (so_far l : Length) (last : Bool) {others others' : Outcome (List Length)} → others ≡ others'
    → ((when last then got (l ∷ []) else (others >>= λ more. got (l ∷ more))) >>= λ lengths. got (sum_all so_far lengths))
    ≡ (when last then got (sum so_far l) else (others' >>= λ lengths. got (sum_all (sum so_far l) lengths)))
unfolding when◌then◌else◌ ◌>>=◌ sum_all
one_more so_far l true e = refl
one_more so_far l false {others} e = rw (← e) (go others)
  where
    go : (m : Outcome (List Length)) → (m >>= (λ more. got (l ∷ more)) >>= λ lengths. got (sum_all so_far lengths)) ≡ (m >>= λ lengths. got (sum_all (sum so_far l) lengths))
    go (got lengths) = refl
    go (refused cause) = refl

-- summed up after a well-formed length, any lengths come to a well-formed one
all_well_formed : (so_far : Length) (lengths : List Length) → well_formed so_far ≡ true → well_formed (sum_all so_far lengths) ≡ true
unfolding sum_all
all_well_formed so_far [] h = h
all_well_formed so_far (l ∷ more) h = all_well_formed (sum so_far l) more (sum_well_formed so_far l)

module _ (card : Card) (text : List ℕ) where
  -- a part that is read ends beyond where it began and not beyond the text
  pub reading_beyond : (place : ℕ) → All (λ r. Beyond text place r.next) (part_reading card text place)
  unfolding part_reading allowed
  reading_beyond place = all_bind (part_beyond card text place) (λ p b. all_bind (always (evaluated text p.repr)) (λ l _. all_if (λ _. all_refused) (λ _. all_got b)))

  -- and its length is well formed
  pub reading_well_formed : (place : ℕ) → All (λ r. well_formed r.length ≡ true) (part_reading card text place)
  unfolding part_reading allowed
  reading_well_formed place = all_bind (part_beyond card text place) (λ p _. all_bind (evaluated_well_formed text p.repr) (λ l formed. all_if (λ _. all_refused) (λ _. all_got formed)))

  -- so is the total
  pub total_well_formed : All (λ l. well_formed l ≡ true) (total card text)
  unfolding total
  total_well_formed = all_bind (always _) (λ lengths _. all_got (all_well_formed zero_length lengths zero_well_formed))

  -- at the end there is nothing
  pub reading_ends : (place : ℕ) → length text ≤ place → part_reading card text place ≡ refused (Nothing place)
  unfolding part_reading part ends when◌then◌else◌ ◌>>=◌
  reading_ends place h = rw (le-leb (length text) place h)

  -- as many steps as there are bytes left suffice
  parts_enough : (n m place : ℕ) → length text < place + n → length text < place + m → parts card text n place ≡ parts card text m place
  unfolding parts ◌>>=◌
  parts_enough zero zero place hn hm = refl
  parts_enough zero (suc m) place hn hm = rw (reading_ends place (omega arith))
  parts_enough (suc n) zero place hn hm = rw (reading_ends place (omega arith))
  parts_enough (suc n) (suc m) place hn hm =
      bind_same (reading_beyond place)
      (λ r b. ap (λ others. when ends text r.next then got (r.length ∷ []) else (others >>= λ more. got (r.length ∷ more))) (parts_enough n m r.next (omega arith) (omega arith)))

  -- all parts from a place on, summed up after `so_far`
  unfoldable pub total_from : Length → ℕ → Outcome Length
  total_from so_far place = parts card text (suc (length text)) place >>= λ lengths. got (sum_all so_far lengths)

  pub total_is : total card text ≡ total_from zero_length 0
  unfolding total total_from
  total_is = refl

  -- one part, and the total goes on from where it ends
  pub total_step : (so_far : Length) (place : ℕ) → total_from so_far place ≡ (part_reading card text place >>= λ r. when ends text r.next then got (sum so_far r.length) else total_from (sum so_far r.length) r.next)
  unfolding total_from parts
  total_step so_far place = bind_assoc (part_reading card text place) _ _ ∙ bind_same (reading_beyond place) (λ r b. one_more so_far r.length (ends text r.next) (parts_enough (length text) (suc (length text)) r.next (omega arith) (omega arith)))
