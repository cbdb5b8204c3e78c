use Rattle.std.proofs.Common.{arith}
use Rattle.wire_text.proofs.Asked.{root_more, root_got}
use Rattle.wire_text.proofs.request.read_root.Goals as goal

pub returns-in-Some : goal.returns-in-Some
returns-in-Some c = root_got c.args.rest.now _ c.in-Some.s c.in-Some.ensures.fits c.in-Some.ensures.number

pub returns-in-None : goal.returns-in-None
returns-in-None c = root_more c.args.rest.now (λ i. omega (arith, c.type_inv.rest i)) c.in-None.ensures.number
