-- Sources after a link as they are opened, one after another.
use Rattle.std.proofs.Common.{◌≡◌, inl, inr, ℕ, ◌<◌, ◌≤◌, Bool, true, false, List, [], ◌∷◌, ◌++◌, length, refl, ap, subst, sym, ◌∙◌, arith}
use Rattle.std.specs.Prelude.{Some, None, Result, Ok, Err, IfOk, IfErr, slice_get, ◌&&◌, if◌then◌else◌}
use Rattle.std.specs.Global.{Vec}
use Rattle.std.specs.Str.{bytes_eq}
use Rattle.mix_base.proofs.Risen.{risen_before}
use Rattle.mix_tree.specs.Forest.{Forest}
use Rattle.lxp_core.specs.declared.open_tree.HoleId.{HoleId}
use Rattle.lxp_core.specs.View.{View, Keeps}
use Rattle.lxp_core.proofs.Views.{document_kept}
use Rattle.wire_text.specs.Reply.{root}
use Rattle.lxp_wire.specs.Answer.{AnswersRoot}
use Rattle.lxp_wire.specs.Links.{LinkView, KeepsLink}
use Rattle.lxp_remote.specs.declared.fault.RemoteFault.{RemoteFault}
use Rattle.lxp_remote.specs.declared.fault.RemoteFault.TheVariants.{Wire}
use Rattle.lxp_remote.specs.declared.fault.WireFault.{WireFault}
use Rattle.lxp_remote.specs.declared.fault.WireFault.TheVariants.{Link, BadFragment, PeerFailed, PeerUnknown, PeerNoSource}
use Rattle.lxp_remote.specs.declared.peer.Peer.{Peer}
use Rattle.lxp_remote.specs.Causes.{Asked, HasCome, asking}
use Rattle.lxp_remote.specs.Learned.{weights}
use Rattle.lxp_remote.specs.Opened.{IsUnfilled, AreUnfilled, IsRefusedFor}
use Rattle.lxp_remote.specs.Remotes.{root_in, remoting, view_of, IsOfPeer, AreOfPeer, Agrees, Tells}
use Rattle.lxp_remote.proofs.Learnt.{same_words}
use Rattle.lxp_remote.proofs.Peers.{at_index, last_or_before, of_peer_kept, told_forest}

-- no sources are unfilled
pub none_unfilled : (ps : List Peer) → ps ≡ [] → AreUnfilled ps
none_unfilled ps none s p f = let e = ap (λ x. slice_get x s) (sym none) ∙ f in absurd cc

-- no sources are of others
pub none_of_peer : (v : View) (ps : List Peer) → ps ≡ [] → AreOfPeer v ps
none_of_peer v ps none s p f = let e = ap (λ x. slice_get x s) (sym none) ∙ f in absurd cc

-- unfilled sources with one more are unfilled
pub more_unfilled : (ps qs : List Peer) (p : Peer) → qs ≡ ps ++ p ∷ [] → AreUnfilled ps → IsUnfilled p → AreUnfilled qs
more_unfilled ps qs p e are is s q f = elim (last_or_before ps p s q (ap (λ x. slice_get x s) (sym e) ∙ f)) [
  | inl b ↦ are s q b
  | inr l ↦ subst IsUnfilled (sym l.1) is
]

-- sources among others with the next of these are among these
pub more_of_peer : (v w : View) (ps qs : List Peer) (p : Peer) → Keeps v w → qs ≡ ps ++ p ∷ [] → AreOfPeer v ps → IsOfPeer w (length ps) p → AreOfPeer w qs
more_of_peer v w ps qs p k e are is s q f = elim (last_or_before ps p s q (ap (λ x. slice_get x s) (sym e) ∙ f)) [
  | inl b ↦ of_peer_kept v w s q k (are s q b)
  | inr l ↦ subst (IsOfPeer w s) (sym l.1) (subst (λ x. IsOfPeer w x p) (sym l.0) is)
]

-- where nothing is known but a root, what is known is the root
at_root : (id h : HoleId) (m n : ℕ) (b : Bool) → bytes_eq h.words id.words ≡ b → (if b then Some m else None) ≡ Some n → (h ≡ id) × (n ≡ m)
at_root id h m n true same e = (same_words h id same, cc)
at_root id h m n false same e = absurd cc

-- the root that told sources answered makes a source among them
pub root_of_peer : (v w : LinkView) (s : ℕ) (p : Peer) → KeepsLink v w → v.told ≡ true → (s < v.peer.count → v.peer.knows s (v.peer.root s) ≡ true)
    → AnswersRoot v.peer s (root p.root.id p.root.weight) → p.known ≡ [] → IsOfPeer w.peer s p
root_of_peer v w s p k told knows answers none =
    let keeps = k.peer told in
    let there : v.peer.knows s p.root.id ≡ true = ap (v.peer.knows s) answers.1 ∙ knows answers.0 in record {
      root = answers.1 ∙ sym (keeps.root s);
      known = λ h n e. (let r = at_root p.root.id h p.root.weight n (bytes_eq h.words p.root.id.words) refl (ap (λ x. weights p.root x h) (sym none) ∙ e) in (
        ap (w.peer.knows s) r.0 ∙ keeps.knows s p.root.id there,
        r.1 ∙ answers.2 ∙ sym (keeps.weight s p.root.id there) ∙ ap (w.peer.weight s) (sym r.0),
      ));
    }

-- a cause that has come since a later moment has come since an earlier one
come_since : (a : Asked) (u v w : LinkView) (f : WireFault) → KeepsLink u v → HasCome a v w f → HasCome a u w f
come_since a u v w Link k h = risen_before u.faults v.faults w.faults k.faults h
come_since a u v w (BadFragment b) k h = (risen_before u.replies v.replies w.replies k.replies h.0, h.1)
come_since a u v w PeerFailed k h = (risen_before u.replies v.replies w.replies k.replies h.0, h.1)
come_since a u v w PeerUnknown k h = (risen_before u.replies v.replies w.replies k.replies h.0, h.1)
come_since a u v w PeerNoSource k h = (risen_before u.replies v.replies w.replies k.replies h.0, h.1)

-- what was refused since a later moment was refused since an earlier one
pub refused_since : (u v w : LinkView) (f : WireFault) → KeepsLink u v → IsRefusedFor v w f → IsRefusedFor u w f
refused_since u v w f k x = (x.0, x.1, come_since (asking x.0 0 (λ h. None)) u v w f k x.2)

-- so is each cause of an answer
pub refused_later : {A : Type 0} (u v w : LinkView) (r : Result A RemoteFault) → KeepsLink u v → IfErr r (λ e. (f : WireFault) → e ≡ Wire f → IsRefusedFor v w f)
    → IfErr r (λ e. (f : WireFault) → e ≡ Wire f → IsRefusedFor u w f)
refused_later u v w (Ok x) k h = tt
refused_later u v w (Err e) k h = λ f is. refused_since u v w f k (h f is)

-- where told sources are as many as were asked for, only the link fails
pub told_later : {A : Type 0} (u v : LinkView) (r : Result A RemoteFault) (n : ℕ) → KeepsLink u v → (u.told ≡ true → n ≡ u.peer.count)
    → IfErr r (λ e. (f : WireFault) → e ≡ Wire f → v.told ≡ true → n ≤ v.peer.count → f ≡ Link) → IfErr r (λ e. (f : WireFault) → e ≡ Wire f → u.told ≡ true → f ≡ Link)
told_later u v (Ok x) n k number h = tt
told_later u v (Err e) n k number h = λ f is told. h f is (k.told ∙ told) (let same = number told in let kept = (k.peer told).count in omega (arith, same, kept))

-- where told sources are as many as were asked for, those that were asked are they
pub opened_agree : (u v w : LinkView) (r : Result (Vec Peer) RemoteFault) (n : ℕ) → KeepsLink u v → KeepsLink v w → (u.told ≡ true → n ≡ u.peer.count) → IfOk r (λ ps. length ps.items ≡ n)
    → IfOk r (λ ps. v.told ≡ true → AreOfPeer w.peer ps.items) → IfOk r (λ ps. u.told ≡ true → Agrees w ps.items)
opened_agree u v w (Err e) n k m number are each = tt
opened_agree u v w (Ok ps) n k m number are each = λ told.
    let now : v.told ≡ true = k.told ∙ told in record {
      count = are ∙ number told ∙ sym ((m.peer now).count ∙ (k.peer told).count);
      each = each now;
    }

-- sources that are those of a told link tell what these told before
pub tells_peer : (u w : LinkView) (ps : List Peer) (n : ℕ) → KeepsLink u w → u.told ≡ true → ((s : ℕ) → s < u.peer.count → u.peer.knows s (u.peer.root s) ≡ true) → Agrees w ps
    → Tells (view_of (remoting w ps n)) u.peer
tells_peer u w ps n k told roots agrees =
    let keeps = k.peer told in
    let now : w.told ≡ true = k.told ∙ told in
    let number : length ps ≡ u.peer.count = agrees.count ∙ keeps.count in record {
      count = number;
      told = λ s. ap (λ b. b && w.peer.told s) now ∙ keeps.told s;
      documents = λ s h. (let p = at_index ps s (subst (λ c. s < c) (sym number) h) in
          ap (λ (f : HoleId → Forest). f (root_in (slice_get ps s))) (told_forest w.told (w.peer.forest s) now)
          ∙ ap (w.peer.forest s) (ap root_in p.1 ∙ (agrees.each s p.0 p.1).root)
          ∙ document_kept u.peer w.peer s keeps (roots s h));
      forward = λ s. ap (λ b. b && w.peer.forward s) now ∙ keeps.forward s;
    }
