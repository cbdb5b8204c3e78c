use Rattle.std.proofs.Common.{◌≡◌, ◌<◌, ◌∙◌, arith, true, length, subst, ap, sym}
use Rattle.std.proofs.lemmas.Bool.{false≢true}
use Rattle.lxp_remote.specs.Remotes.{Remoting, remoting, view_of}
use Rattle.lxp_remote.specs.RemoteLaws.{root_is_known}
use Rattle.far_links.specs.Failing.{HasSources}
use Rattle.far_links.specs.Lines.{standing}
use Rattle.far_links.specs.Standing.{Standing, opened}
use Rattle.far_links.proofs.Failures.{err_more, fails_root, ok_of, weighed}
use Rattle.far_links.proofs.line.Line.fill_root.Goals as goal

pub prove-unreachable-requires : goal.prove-unreachable-requires
prove-unreachable-requires g c =
    let q = c.in-Opened.remote in
    let r = remoting (g.L.Link.view q.link) q.peers.items q.fills in
    let within : c.args.number < length q.peers.items = omega (arith, c.if-number-count.false, c.count.ensures) in
    let known = subst (λ h. (view_of r).knows c.args.number h ≡ true) (sym c.get_root-root.ensures) (root_is_known r c.args.number within) in
    false≢true (sym c.if-prove.true ∙ c.is_some.ensures ∙ weighed c.weight-weight.result _ _ c.weight-weight.ensures known)

-- sources that are told are those that were told then
same_told : (a : Standing) (q r : Remoting) → a ≡ opened q → opened r ≡ a → q ≡ r
same_told a q r e f = cc

pub returns-clause-failed : goal.returns-clause-failed
returns-clause-failed g c =
    let view = g.L.Link.view in
    let q = c.in-Opened.remote in
    let r = c.fill_remote.new.remote in
    let old = remoting (view q.link) q.peers.items q.fills in
    let told = ok_of c.open.result _ c.in_default.not-Err c.open.ensures.told in
    let same = same_told (standing view c.open.new.self.state) told.0 old told.2 (sym (ap (standing view) c.in-Opened.is)) in
    let has = subst (HasSources (standing view c.args.self.now.state)) same told.1 in
    err_more c.fill_remote.result _ _
    (λ e p cause is. fails_root (standing view c.args.self.now.state) old (remoting (view r.link) r.peers.items r.fills) c.args.number c.get_root-root.result c.get_root-root.ensures has cause (p cause is))
    c.fill_remote.ensures.failed
