use Rattle.std.proofs.Common.{refl, subst, sym}
use Rattle.lxp_remote.specs.Remotes.{remoting}
use Rattle.far_links.specs.Failing.{HasSources}
use Rattle.far_links.specs.Lines.{standing}
use Rattle.far_links.proofs.Failures.{err_more, fails_known}
use Rattle.far_links.proofs.line.Line.fill_known.Goals as goal

pub returns-clause-failed : goal.returns-clause-failed
returns-clause-failed g c =
    let view = g.L.Link.view in
    let q = c.in-Opened.remote in
    let r = c.fill_remote.new.remote in
    let old = remoting (view q.link) q.peers.items q.fills in
    let has = subst (λ s. HasSources (standing view s) old) (sym c.in-Opened.is) refl in
    err_more c.fill_remote.result _ _
    (λ e p cause is. fails_known (standing view c.args.self.now.state) old (remoting (view r.link) r.peers.items r.fills) c.args.number c.args.hole c.requires has cause (p cause is))
    c.fill_remote.ensures.failed
