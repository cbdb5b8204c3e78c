use Rattle.std.proofs.Common.{◌∷◌, [], ap, subst, sym, ◌∙◌, arith}
use Rattle.std.specs.Prelude.{None, length, refl}
use Rattle.std.proofs.lemmas.List.{length-append}
use Rattle.wire_text.specs.declared.reply.Hole.{Hole}
use Rattle.wire_text.specs.declared.request.Request.TheVariants.{Root}
use Rattle.wire_text.specs.Reply.{root}
use Rattle.lxp_wire.specs.Answer.{AnswersRoot}
use Rattle.lxp_remote.specs.Causes.{asking}
use Rattle.lxp_remote.specs.Remotes.{IsOfPeer}
use Rattle.lxp_remote.proofs.Opened.{none_unfilled, none_of_peer, more_unfilled, more_of_peer, root_of_peer, refused_since}
use Rattle.lxp_remote.proofs.roots.ask_roots.Goals as goal

pub loop-source-init : goal.loop-source-init
loop-source-init g c =
    let old = g.L.Link.view c.args.link.now in
    let peers = c.new-peers.result.items in record {
      came = g.met.L.Link.same c.args.link.now;
      number = ap length c.new-peers.ensures.items;
      unfilled = none_unfilled peers c.new-peers.ensures.items;
      fills = λ told. omega arith;
      each = λ told. none_of_peer old.peer peers c.new-peers.ensures.items;
    }

pub loop-source-preserved : goal.loop-source-preserved
loop-source-preserved g c =
    let l = c.loop-source in
    let v = g.L.Link.view l.link in
    let w = g.L.Link.view c.ask_root.new.link in
    let since = g.met.L.Link.keeps c.args.link.now l.link l.invariant.came in
    let k = g.met.L.Link.keeps l.link c.ask_root.new.link c.ask_root.ensures.came in
    let p = c.new.result in
    let items = c.in-Ok-push.ensures.items in record {
      came = g.met.L.Link.after c.args.link.now l.link c.ask_root.new.link l.invariant.came c.ask_root.ensures.came;
      number = omega (arith, ap length items, length-append l.peers.items (p ∷ []), l.invariant.number);
      unfilled = more_unfilled l.peers.items c.push.new.self.items p items l.invariant.unfilled c.new.ensures.unfilled;
      fills = λ told. (let first = l.invariant.fills told in let next = c.ask_root.ensures.fills (since.told ∙ told) in omega (arith, first, next));
      each = λ told.
          (let now = since.told ∙ told in
          let answers = subst (λ (r : Hole). AnswersRoot v.peer l.source (root r.id r.weight)) (sym c.new.ensures.root) (c.in-Ok.ensures.answers now) in
          let next = root_of_peer v w l.source p k now (g.met.L.Link.root_known l.link l.source now) answers c.new.ensures.unfilled.known in
          more_of_peer v.peer w.peer l.peers.items c.push.new.self.items p (k.peer now) items (l.invariant.each told) (subst (λ n. IsOfPeer w.peer n p) (sym l.invariant.number) next));
    }

pub returns-in-Err-clause-cause : goal.returns-in-Err-clause-cause
returns-in-Err-clause-cause g c = λ fault e.
    let l = c.loop-source in
    let since = g.met.L.Link.keeps c.args.link.now l.link l.invariant.came in
    refused_since (g.L.Link.view c.args.link.now) (g.L.Link.view l.link) (g.L.Link.view c.ask_root.new.link) fault since
    (Root l.source, tt, c.in-Err.ensures.cause (asking (Root l.source) 0 (λ h. None)) fault refl e)

pub returns-in-Err-clause-told : goal.returns-in-Err-clause-told
returns-in-Err-clause-told g c = λ fault e told few.
    let l = c.loop-source in
    let since = g.met.L.Link.keeps c.args.link.now l.link l.invariant.came in
    let count = (since.peer told).count in
    c.in-Err.ensures.told fault e (since.told ∙ told) (omega (arith, few, count))

pub returns-in-Err-clause-came : goal.returns-in-Err-clause-came
returns-in-Err-clause-came g c = g.met.L.Link.after c.args.link.now c.loop-source.link c.ask_root.new.link c.loop-source.invariant.came c.ask_root.ensures.came

pub returns-in-Err-clause-fills : goal.returns-in-Err-clause-fills
returns-in-Err-clause-fills g c = λ told.
    let l = c.loop-source in
    let since = g.met.L.Link.keeps c.args.link.now l.link l.invariant.came in
    let first = l.invariant.fills told in
    let next = c.ask_root.ensures.fills (since.told ∙ told) in
    omega (arith, first, next)

pub returns-in-Err-push-clause-came : goal.returns-in-Err-push-clause-came
returns-in-Err-push-clause-came g c = g.met.L.Link.after c.args.link.now c.loop-source.link c.ask_root.new.link c.loop-source.invariant.came c.ask_root.ensures.came

pub returns-in-Err-push-clause-fills : goal.returns-in-Err-push-clause-fills
returns-in-Err-push-clause-fills g c = λ told.
    let l = c.loop-source in
    let since = g.met.L.Link.keeps c.args.link.now l.link l.invariant.came in
    let first = l.invariant.fills told in
    let next = c.ask_root.ensures.fills (since.told ∙ told) in
    omega (arith, first, next)
