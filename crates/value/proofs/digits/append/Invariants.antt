-- `value::digits::append` meets its contract: at each turn what is unread spells, after the number so far, the whole number; one more
-- digit that does not fit makes a number that only grows from there. Assumes nothing.
use Rattle.std.proofs.Common.{◌<◌, ◌^◌}
use Rattle.value.specs.Digits.{Unread}
use Rattle.value.proofs.digits.append.Given as goal

abbrev pub invariant-loop-byte : goal.invariant-loop-byte
invariant-loop-byte l = record { unread : Unread l.digits l.so_far l.number l.byte-index; fits : l.number < 2 ^ 64 }
