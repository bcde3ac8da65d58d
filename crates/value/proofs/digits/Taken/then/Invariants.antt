-- `value::digits::Taken::then` meets its contract: at each turn what is unread of the digits that there is room for spells, after the number
-- so far, the whole number, which has at most nineteen places, so that no number on the way is larger. Assumes nothing.
use Rattle.std.proofs.Common.{◌<◌, ◌^◌, take}
use Rattle.rules.specs.Evaluation.{spelled}
use Rattle.value.specs.Digits.{Unread}
use Rattle.value.proofs.digits.Taken.then.Given as goal

abbrev pub invariant-loop-byte : goal.invariant-loop-byte
invariant-loop-byte l = record {
  unread : Unread (take l.count l.digits) l.self.number l.number l.byte-index;
  small : spelled l.self.number (take l.count l.digits) < 10 ^ 19;
}
