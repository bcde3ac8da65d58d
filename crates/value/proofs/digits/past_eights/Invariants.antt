-- `value::digits::past_eights` meets its contract: eight bytes that pass go on with the run, so that at each turn the run from here is the
-- run from the start. Assumes nothing.
use Rattle.std.proofs.Common.{◌≡◌, true, ◌+◌, ◌-◌, ◌≤◌, Bool, ℕ, length, take, drop}
use Rattle.rules.specs.Common.{all, run}
use Rattle.value.proofs.digits.past_eights.Given as goal

abbrev pub invariant-loop-next : goal.invariant-loop-next
invariant-loop-next g l = record {
  same_run : (test : ℕ → Bool) → ((at : ℕ) → at + 8 ≤ length l.text → goal.E-post g l.eight at true → all test (take 8 (drop at l.text)) ≡ true) → run test l.text l.next ≡ run test l.text l.place;
  within : l.next ≤ length l.text;
}

abbrev pub decreases-loop-next : goal.decreases-loop-next
decreases-loop-next g l = length l.text - l.next
