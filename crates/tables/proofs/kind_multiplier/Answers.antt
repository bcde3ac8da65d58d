-- `tables::kind_multiplier` meets its contract: an arm reads the entries of its kind, and beyond the tables there is nothing.
-- Assumes nothing.
use Prim.Native.Nat.{◌≤◌}
use native.Mathlib.Omega.{arith}
use lib.ListN.{get_or-eq_default}
use Rattle.rules.specs.SettingsAndUnitTable.{kind_coefficients, kind_downs, kind_multiplier}
use Rattle.tables.proofs.kind_multiplier.Goals as goal

pub returns-in_default : goal.returns-in_default
unfolding kind_multiplier kind_coefficients kind_downs
returns-in_default c =
    let h : 8 ≤ c.args.kind = omega arith in
    rw (get_or-eq_default kind_coefficients 0 h, get_or-eq_default kind_downs 0 h) c.multiplier-in_default.ensures

pub returns-in-0 : goal.returns-in-0
unfolding kind_multiplier kind_coefficients kind_downs
returns-in-0 c = rw c.in-0.is c.multiplier.ensures

pub returns-in-1 : goal.returns-in-1
unfolding kind_multiplier kind_coefficients kind_downs
returns-in-1 c = rw c.in-1.is c.multiplier-in-1.ensures

pub returns-in-2 : goal.returns-in-2
unfolding kind_multiplier kind_coefficients kind_downs
returns-in-2 c = rw c.in-2.is c.multiplier-in-2.ensures

pub returns-in-3 : goal.returns-in-3
unfolding kind_multiplier kind_coefficients kind_downs
returns-in-3 c = rw c.in-3.is c.multiplier-in-3.ensures

pub returns-in-4 : goal.returns-in-4
unfolding kind_multiplier kind_coefficients kind_downs
returns-in-4 c = rw c.in-4.is c.multiplier-in-4.ensures

pub returns-in-5 : goal.returns-in-5
unfolding kind_multiplier kind_coefficients kind_downs
returns-in-5 c = rw c.in-5.is c.multiplier-in-5.ensures

pub returns-in-6 : goal.returns-in-6
unfolding kind_multiplier kind_coefficients kind_downs
returns-in-6 c = rw c.in-6.is c.multiplier-in-6.ensures

pub returns-in-7 : goal.returns-in-7
unfolding kind_multiplier kind_coefficients kind_downs
returns-in-7 c = rw c.in-7.is c.multiplier-in-7.ensures
