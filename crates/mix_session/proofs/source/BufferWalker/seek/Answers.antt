use Rattle.mix_session.specs.Refusals.{of_walk}
use Rattle.mix_session.proofs.Sources.{source_right, if_ok}
use Rattle.mix_session.proofs.source.BufferWalker.seek.Goals as goal

pub returns-in-Right-clause-found : goal.returns-in-Right-clause-found
returns-in-Right-clause-found g c =
    let v = g.S.Sources.view c.args.s.now in
    let v' = g.S.Sources.view c.right.new.s in
    let b = c.args.self.now in
    let b' = c.right.new.self in
    let right = c.right.ensures in
    rw c.in-Right.is (if_ok c.found_in-in-Right.result (of_walk c.right.result) _
    (λ r is. source_right v v' b b' right.ran.goes c.right.result r is right.cause c.args.n.now c.requires.node right.next right.exact right.smaller) c.found_in-in-Right.ensures)
