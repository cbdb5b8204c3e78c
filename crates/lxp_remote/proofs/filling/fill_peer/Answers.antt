use Rattle.std.proofs.Common.{◌≡◌, ◌∙◌, ℕ, List, length, set, ap, subst, sym, refl}
use Rattle.std.specs.Prelude.{Some, Result, Ok, Err, OnErr, slice_get}
use Rattle.std.proofs.lemmas.Option.{slice_get_read}
use Rattle.std.proofs.lemmas.List.{length-set}
use Rattle.std.specs.Global.{Vec}
use Rattle.lxp_core.specs.declared.fault.SourceFault.{SourceFault}
use Rattle.lxp_core.specs.declared.open_tree.HoleId.{HoleId}
use Rattle.lxp_core.specs.declared.open_tree.OpenTree.{OpenTree}
use Rattle.wire_text.specs.declared.reply.Hole.{Hole}
use Rattle.lxp_remote.specs.declared.peer.Peer.{Peer}
use Rattle.lxp_remote.specs.Filled.{IsFilled}
use Rattle.lxp_remote.specs.Learned.{weights}
use Rattle.lxp_remote.specs.Remotes.{known_in}
use Rattle.lxp_remote.proofs.Peers.{put_there, put_elsewhere}
use Rattle.lxp_remote.proofs.filling.fill_peer.Goals as goal

kept_known : (p q : Peer) (a : Result (Vec OpenTree) SourceFault) → q.root ≡ p.root → OnErr a (q.known ≡ p.known) → OnErr a ((i : HoleId) → known_in (Some q) i ≡ known_in (Some p) i)
kept_known p q (Ok list) root kept = tt
kept_known p q (Err e) root kept = λ i. ap (λ (r : Hole). weights r q.known i) root ∙ ap (λ (k : List (List ℕ × ℕ)). weights p.root k i) kept

pub returns-clause-filled : goal.returns-clause-filled
returns-clause-filled g c =
    let ps = c.args.peers.now.items in
    let s = c.args.source in
    let p = c.index_mut-peer.result.now in
    let q = c.fill.new.self in
    let v = g.L.Link.view c.args.link.now in
    let w = g.L.Link.view c.fill.new.link in
    let e : slice_get ps s ≡ Some p = slice_get_read ps (length ps) s p refl c.requires c.index_mut-peer.ensures.value in
    let f : slice_get (set ps s q) s ≡ Some q = put_there ps s q c.requires in
    let is : IsFilled v w (Some p) (Some q) s c.args.hole c.fill.result = record {
      fills = c.fill.ensures.fills;
      root = ap (λ (r : Hole). r.id) c.fill.ensures.root;
      taken = c.fill.ensures.taken;
      kept = kept_known p q c.fill.result c.fill.ensures.root c.fill.ensures.kept;
      failed = c.fill.ensures.failed;
      counted = c.fill.ensures.counted;
      unfailed = c.fill.ensures.faults;
      rises = c.fill.ensures.rises.0;
      at_most_one = c.fill.ensures.rises.1;
      unknown = c.fill.ensures.unknown;
      only_unknown = c.fill.ensures.only_unknown;
    } in
    subst (λ o. IsFilled v w (slice_get ps s) o s c.args.hole c.fill.result) (sym f) (subst (λ o. IsFilled v w o (Some q) s c.args.hole c.fill.result) (sym e) is)

pub returns-clause-others : goal.returns-clause-others
returns-clause-others g c = put_elsewhere c.args.peers.now.items c.args.source c.fill.new.self

pub returns-clause-count : goal.returns-clause-count
returns-clause-count g c = length-set c.args.peers.now.items c.args.source c.fill.new.self
