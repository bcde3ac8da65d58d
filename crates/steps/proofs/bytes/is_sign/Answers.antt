-- `steps::bytes::is_sign` meets its contract: two bytes. Assumes nothing.
use borrow.Author.Rules.{rules}
use borrow.Author.Tests.{eq-eqb, ne_eqb}
use Rattle.steps.specs.Bytes.{sign_byte}
use Rattle.steps.proofs.bytes.is_sign.Goals as goal

pub returns-then-byte-eq43 : goal.returns-then-byte-eq43
returns-then-byte-eq43 c = rw (sign_byte c.args.byte (search rules), eq-eqb _ _ c.if-byte-eq43.true)

pub returns-else-byte-eq43 : goal.returns-else-byte-eq43
returns-else-byte-eq43 c = rw (sign_byte c.args.byte (search rules), ne_eqb _ _ c.if-byte-eq43.false)
