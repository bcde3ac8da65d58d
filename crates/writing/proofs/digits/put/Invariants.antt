-- `writing::digits::put` meets its contract: at each turn the digits put stand behind what is kept of the buffer. Assumes nothing.
use Rattle.writing.specs.Digits.{Put}
use Rattle.writing.proofs.digits.put.Given as goal

abbrev pub invariant-loop-left : goal.invariant-loop-left
invariant-loop-left l = Put l.initial.buffer l.place l.fn.digits.count l.fn.digits.number l.buffer l.left l.rest
