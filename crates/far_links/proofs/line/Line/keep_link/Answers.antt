use Rattle.std.proofs.Common.{refl}
use Rattle.lxp_remote.specs.Remotes.{remoting}
use Rattle.far_links.proofs.line.Line.keep_link.Goals as goal

pub returns-in-Ok-clause-told : goal.returns-in-Ok-clause-told
returns-in-Ok-clause-told g c = let r = c.in-Ok.remote in (remoting (g.L.Link.view r.link) r.peers.items r.fills, c.in-Ok.ensures.unfilled, refl)

pub returns-in-Err-clause-refused : goal.returns-in-Err-clause-refused
returns-in-Err-clause-refused g c = (g.L.Link.view c.in-Err.refused.link, refl, c.in-Err.ensures.cause)
