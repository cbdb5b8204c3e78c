use Rattle.std.proofs.Common.{◌≡◌, ◌⊎◌}
use Rattle.mix_base.specs.Counts.{HasRisen}
use Rattle.lxp_core.specs.Plain.{plain as open_plain}
use Rattle.wire_text.specs.declared.request.Request.TheVariants.{Fill}
use Rattle.wire_text.specs.Plain.{plain}
use Rattle.lxp_remote.specs.declared.fault.WireFault.TheVariants.{Link as OfLink, PeerFailed}
use Rattle.lxp_remote.specs.Causes.{asking}
use Rattle.lxp_remote.specs.Learned.{weights}
use Rattle.lxp_remote.proofs.Taken.{list_taken, list_refused, told_taken, shown_last}
use Rattle.lxp_remote.proofs.peer.Peer.take.Goals as goal

pub returns-clause-taken : goal.returns-clause-taken
returns-clause-taken g c =
    let root = c.args.self.now.root in
    list_taken (λ l. open_plain l.items) c.args.source c.args.hole.id c.args.hole.weight (g.L.Link.view c.args.link.now) (g.L.Link.view c.ask_list.new.link) (weights root c.args.self.now.known)
    (weights root c.take_list.new.known) (plain c.in-Ok.trees.items) c.take_list.result c.in-Ok.ensures.read.1 c.in-Ok.ensures.answers c.take_list.ensures.list c.take_list.ensures.learned c.take_list.ensures.rules

pub returns-clause-cause : goal.returns-clause-cause
returns-clause-cause g c =
    let asked = asking (Fill c.args.source c.args.hole.id) c.args.hole.weight (weights c.args.self.now.root c.args.self.now.known) in
    let new = g.L.Link.view c.ask_list.new.link in
    list_refused asked (g.L.Link.view c.args.link.now) new c.take_list.result c.in-Ok.ensures.read.0
    (shown_last (Fill c.args.source c.args.hole.id) c.args.hole.weight (weights c.args.self.now.root c.args.self.now.known) new.last (plain c.in-Ok.trees.items) c.take_list.result c.in-Ok.ensures.read.1 c.take_list.ensures.cause)

pub returns-clause-told : goal.returns-clause-told
returns-clause-told g c =
    let s = c.args.source in
    let old = g.L.Link.view c.args.link.now in
    let new = g.L.Link.view c.ask_list.new.link in
    told_taken (λ fault. (fault ≡ OfLink) ⊎ ((fault ≡ PeerFailed) × HasRisen (old.peer.faults s) (new.peer.faults s))) old new s c.args.hole.id c.args.hole.weight
    (weights c.args.self.now.root c.args.self.now.known) (plain c.in-Ok.trees.items) c.take_list.result c.in-Ok.ensures.answers c.take_list.ensures.sound
