use Rattle.std.proofs.Common.{refl, arith}
use Rattle.lxp_wire.specs.Stream.{sources_of}
use Rattle.mix_loop.specs.Loops.{looped}
use Rattle.mix_loop.proofs.StoodIn.{stood_in}
use Rattle.mix_reach.specs.Reach.{reaching_in}
use Rattle.mix_loop.proofs.looped.close_loop.Goals as goal

pub returns-clause-stands : goal.returns-clause-stands
returns-clause-stands g c = λ a mid old opened came later.
    let r = c.args.remote in
    let now = looped g.T.Tables.view g.R.Fars.view r.link r.peers.items r.fills in
    let b = reaching_in g.T.Tables.view g.R.Fars.view (sources_of r.link.server) in
    stood_in a mid b old now opened (record { told = refl; unfailed = refl; peer = refl }) came later (omega arith)
