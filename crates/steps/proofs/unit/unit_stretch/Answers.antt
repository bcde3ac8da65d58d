-- `steps::unit::unit_stretch` meets its contract: the bytes scanned are the word's, and those that do not stop a name are those of the stretch. Assumes
-- nothing.
use mathlib.Core.Path.{◌≡◌, sym, ap, ◌∙◌}
use mathlib.Core.Bool.{false, not}
use Prim.Native.Nat.{ℕ}
use Rattle.std.proofs.Common.{◌+◌, ◌*◌, ◌^◌, ◌≤◌, ◌<◌, zero, suc, length, arith, add-zero}
use Rattle.rules.specs.declared.Settings.{Settings}
use Rattle.rules.specs.Common.{run}
use Rattle.rules.specs.ReadingOnePart.{in_stretch}
use Rattle.settings.specs.Sets.{bytes_of, passes}
use Rattle.value.specs.Digits.{run_on, run_off, run_end}
use Rattle.card.specs.Laws.Unnameable.{outside}
use Rattle.steps.specs.Stretches.{scan_starts, scan_room, scan_goes_on, scan_ends, scan_on}
use Rattle.steps.specs.Units.{stops_of, stretch_ends}
use Rattle.steps.proofs.unit.unit_stretch.Goals as goal
use Rattle.steps.proofs.unit.unit_stretch.Goals.{After-shared_slice_known-1}

-- the end of the run is that of the stretch
ends :
    (c : After-shared_slice_known-1) {end : ℕ}
    → let args = c.args in
    end ≡ run (passes (bytes_of args.stops) false) args.text.now args.place
    → (s : Settings) → bytes_of args.stops ≡ stops_of s → end ≡ run (in_stretch s) args.text.now args.place
ends c e s stopped =
    e ∙ ap (λ set. run (passes set false) c.args.text.now c.args.place) stopped ∙ stretch_ends s _ _ (λ k. omega (arith, c.shared_slice_known-1.given k))

pub returns-then-text-next : goal.returns-then-text-next
returns-then-text-next c =
    let scanned = scan_ends c.loop-scanned.invariant (run_end _ _ _ c.if-text-next.true) in
    record { end_value = ends (goal.at.returns-then-text-next c).After-shared_slice_known-1 scanned.0; first_value = scanned.1 }

pub returns-then-holds : goal.returns-then-holds
returns-then-holds c =
    let scanned = scan_ends c.loop-scanned.invariant (run_off _ _ _ (omega (arith, c.if-text-next.false)) (outside _ _ ∙ ap not (sym c.holds.ensures ∙ c.if-holds.true))) in
    record { end_value = ends (goal.at.returns-then-holds c).After-shared_slice_known-1 scanned.0; first_value = scanned.1 }

-- where the scan has come to is a place
placed : (place scanned size : ℕ) → place < 2 ^ 64 → size < 2 ^ 64 → (place < place + scanned → place + scanned ≤ size) → place + scanned < 2 ^ 64
placed place zero size p s within = omega arith
placed place (suc scanned) size p s within = omega (arith, within (omega arith))

pub overflow_add-next : goal.overflow_add-next
overflow_add-next c = let there = placed c.args.place c.loop-scanned.scanned (length c.args.text.now) (omega arith) (omega arith) c.loop-scanned.invariant.within in omega arith

pub with_byte-first-requires : goal.with_byte-first-requires
with_byte-first-requires c = scan_room c.loop-scanned.invariant (omega (arith, c.if-text-next.false)) (λ k. (c.shared_slice_known-1.given k).fits) (omega arith)

pub loop-scanned-preserved : goal.loop-scanned-preserved
loop-scanned-preserved c =
    let next : c.args.place + (c.loop-scanned.scanned + 1) ≡ c.args.place + c.loop-scanned.scanned + 1 = omega arith in
    let bits : 8 * (c.loop-scanned.scanned + 1) ≡ 8 * c.loop-scanned.scanned + 8 = omega arith in
    rw (next, bits)
    (scan_goes_on c.loop-scanned.invariant (omega (arith, c.if-text-next.false)) (omega arith)
    (run_on _ _ _ (omega (arith, c.if-text-next.false)) (outside _ _ ∙ ap not (sym c.holds.ensures ∙ c.if-holds.false)))
    c.with_byte-first.ensures)

pub returns : goal.returns
returns c =
    let whole : c.loop-scanned.scanned ≡ 8 = omega arith in
    let scanned = scan_on c.loop-scanned.invariant (omega arith) (rw whole c.past.ensures) in
    record { end_value = ends (goal.at.returns c).After-shared_slice_known-1 scanned.0; first_value = scanned.1 }

pub loop-scanned-init : goal.loop-scanned-init
loop-scanned-init c = rw add-zero (scan_starts _ _ _)
