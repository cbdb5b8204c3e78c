use Rattle.std.proofs.Common.{◌∙◌, arith}
use Rattle.std.specs.Prelude.{None, refl}
use Rattle.wire_text.specs.declared.request.Request.TheVariants.{Count}
use Rattle.lxp_remote.specs.Causes.{asking}
use Rattle.lxp_remote.proofs.Opened.{refused_later, told_later, opened_agree}
use Rattle.lxp_remote.proofs.roots.ask_peers.Goals as goal

pub returns-in-Err-clause-cause : goal.returns-in-Err-clause-cause
returns-in-Err-clause-cause g c = λ fault e. (Count, tt, c.in-Err.ensures.cause (asking Count 0 (λ h. None)) fault refl e)

pub returns-clause-came : goal.returns-clause-came
returns-clause-came g c = g.met.L.Link.after c.args.link.now c.ask_count.new.link c.ask_roots.new.link c.ask_count.ensures.came c.ask_roots.ensures.came

pub returns-clause-fills : goal.returns-clause-fills
returns-clause-fills g c = λ told.
    let k = g.met.L.Link.keeps _ _ c.ask_count.ensures.came in
    let first = c.ask_count.ensures.fills told in
    let next = c.ask_roots.ensures.fills (k.told ∙ told) in
    omega (arith, first, next)

pub returns-clause-agrees : goal.returns-clause-agrees
returns-clause-agrees g c =
    opened_agree (g.L.Link.view c.args.link.now) (g.L.Link.view c.ask_count.new.link) (g.L.Link.view c.ask_roots.new.link) c.ask_roots.result c.in-Ok.count (g.met.L.Link.keeps _ _ c.ask_count.ensures.came)
    (g.met.L.Link.keeps _ _ c.ask_roots.ensures.came) c.in-Ok.ensures.answers c.ask_roots.ensures.number c.ask_roots.ensures.each

pub returns-clause-cause : goal.returns-clause-cause
returns-clause-cause g c =
    refused_later (g.L.Link.view c.args.link.now) (g.L.Link.view c.ask_count.new.link) (g.L.Link.view c.ask_roots.new.link) c.ask_roots.result (g.met.L.Link.keeps _ _ c.ask_count.ensures.came) c.ask_roots.ensures.cause

pub returns-clause-told : goal.returns-clause-told
returns-clause-told g c =
    told_later (g.L.Link.view c.args.link.now) (g.L.Link.view c.ask_count.new.link) c.ask_roots.result c.in-Ok.count (g.met.L.Link.keeps _ _ c.ask_count.ensures.came) c.in-Ok.ensures.answers c.ask_roots.ensures.told
