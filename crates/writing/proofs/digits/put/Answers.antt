-- `writing::digits::put` meets its contract: at each turn the digits put stand behind what is kept of the buffer. Assumes nothing.
use Rattle.writing.specs.Digits.{put_none, put_more, put_all}
use Rattle.writing.proofs.digits.put.Goals as goal

pub loop-left-init : goal.loop-left-init
loop-left-init c = put_none _ _ _ _

pub loop-left-preserved : goal.loop-left-preserved
loop-left-preserved c = put_more c.loop-left.invariant c.loop-left-test.true c.requires

pub returns : goal.returns
returns c = put_all c.loop-left.invariant c.loop-left-test.false
