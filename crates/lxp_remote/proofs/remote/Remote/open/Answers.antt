use Rattle.std.proofs.Common.{arith}
use Rattle.lxp_remote.proofs.Opened.{tells_peer}
use Rattle.lxp_remote.proofs.remote.Remote.open.Goals as goal

pub returns-in-Ok-clause-tells : goal.returns-in-Ok-clause-tells
returns-in-Ok-clause-tells g c = λ told.
    tells_peer (g.L.Link.view c.args.link) (g.L.Link.view c.ask_peers.new.link) c.in-Ok.peers.items 0 (g.met.L.Link.keeps _ _ c.ask_peers.ensures.came) told
    (λ s h. g.met.L.Link.root_known c.args.link s told h) (c.in-Ok.ensures.agrees told)

pub returns-in-Ok-clause-unasked : goal.returns-in-Ok-clause-unasked
returns-in-Ok-clause-unasked g c = λ told.
    let most = c.ask_peers.ensures.fills told in
    let least = ((g.met.L.Link.keeps _ _ c.ask_peers.ensures.came).peer told).fills in
    omega (arith, most, least)

pub returns-in-Err-clause-unasked : goal.returns-in-Err-clause-unasked
returns-in-Err-clause-unasked g c = λ told.
    let most = c.ask_peers.ensures.fills told in
    let least = ((g.met.L.Link.keeps _ _ c.ask_peers.ensures.came).peer told).fills in
    omega (arith, most, least)
