use Rattle.std.proofs.Common.{refl, subst, sym, ◌∙◌}
use Rattle.lxp_remote.specs.Remotes.{remoting}
use Rattle.far_links.specs.Failing.{HasSources}
use Rattle.far_links.specs.Lines.{standing}
use Rattle.far_links.proofs.line.Line.open.Goals as goal

pub returns-in-Opened-clause-told : goal.returns-in-Opened-clause-told
returns-in-Opened-clause-told g c =
    let r = c.in-Opened.remote in
    let now = remoting (g.L.Link.view r.link) r.peers.items r.fills in
    (now, subst (λ s. HasSources (standing g.L.Link.view s) now) (sym c.in-Opened.is ∙ c.replace.ensures.value) refl, refl)
