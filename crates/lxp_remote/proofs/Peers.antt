-- Sources after a link, one by one, and what calls keep of them.
use Rattle.std.proofs.Common.{◌≡◌, ◌⊎◌, inl, inr, ℕ, zero, suc, ◌<◌, ◌≤◌, Bool, true, false, List, [], ◌∷◌, ◌++◌, length, set, refl, ap, subst, sym, ◌∙◌, arith}
use Rattle.std.specs.Prelude.{Option, Some, None, is_some, unwrap_or, slice_get, ◌&&◌, ◌≢◌, if◌then◌else◌}
use Rattle.std.proofs.lemmas.Bool.{cases_eq}
use Rattle.mix_tree.specs.Forest.{Forest, none}
use Rattle.lxp_core.specs.declared.open_tree.HoleId.{HoleId}
use Rattle.lxp_core.specs.View.{View, Keeps}
use Rattle.lxp_wire.specs.Links.{LinkView, KeepsLink}
use Rattle.lxp_remote.specs.declared.peer.Peer.{Peer}
use Rattle.lxp_remote.specs.Learned.{weights}
use Rattle.lxp_remote.specs.Remotes.{root_in, known_in, faults_in, remoting, view_of, IsOfPeer, Agrees}

-- a source stands at each number below their count
pub at_index : (ps : List Peer) (s : ℕ) → s < length ps → (p : Peer) × (slice_get ps s ≡ Some p)
at_index [] s h = absurd (omega arith)
at_index (p ∷ ps) zero h = (p, refl)
at_index (p ∷ ps) (suc s) h = at_index ps s (omega arith)

-- a source that is put in the place of another stands there
pub put_there : (ps : List Peer) (s : ℕ) (p : Peer) → s < length ps → slice_get (set ps s p) s ≡ Some p
put_there [] s p h = absurd (omega arith)
put_there (q ∷ ps) zero p h = refl
put_there (q ∷ ps) (suc s) p h = put_there ps s p (omega arith)

-- where a source is put in the place of another, each at another number stays
pub put_elsewhere : (ps : List Peer) (s : ℕ) (p : Peer) (r : ℕ) → r ≢ s → slice_get (set ps s p) r ≡ slice_get ps r
put_elsewhere [] s p r d = refl
put_elsewhere (q ∷ ps) zero p zero d = absurd (d refl)
put_elsewhere (q ∷ ps) zero p (suc r) d = refl
put_elsewhere (q ∷ ps) (suc s) p zero d = refl
put_elsewhere (q ∷ ps) (suc s) p (suc r) d = put_elsewhere ps s p r (λ e. d (ap suc e))

-- with a source put after others, each is one of the others or that one
pub last_or_before : (ps : List Peer) (p : Peer) (r : ℕ) (q : Peer) → slice_get (ps ++ p ∷ []) r ≡ Some q → (slice_get ps r ≡ Some q) ⊎ ((r ≡ length ps) × (q ≡ p))
last_or_before [] p zero q e = inr (refl, cc)
last_or_before [] p (suc r) q e = absurd cc
last_or_before (x ∷ ps) p zero q e = inl e
last_or_before (x ∷ ps) p (suc r) q e = elim (last_or_before ps p r q e) [ inl f ↦ inl f | inr f ↦ inr (ap suc f.0, f.1) ]

-- a source among others is one of them after each call that keeps these
pub of_peer_kept : (v w : View) (s : ℕ) (p : Peer) → Keeps v w → IsOfPeer v s p → IsOfPeer w s p
of_peer_kept v w s p k is = record {
  root = is.root ∙ sym (k.root s);
  known = λ h n e. (let there = is.known h n e in (k.knows s h there.0, there.1 ∙ sym (k.weight s h there.0)));
}

-- what a call keeps of a source: its root, and each hole that is known with its weight; its count of faults doesn't fall
pub record KeepsAt (before after : Option Peer) : Type 0 where
  pub root : root_in after ≡ root_in before
  pub known : (h : HoleId) (n : ℕ) → known_in before h ≡ Some n → known_in after h ≡ Some n
  pub faults : faults_in before ≤ faults_in after

-- a source keeps itself
keeps_at_same : (o : Option Peer) → KeepsAt o o
keeps_at_same o = record { root = refl; known = λ h n e. e; faults = omega arith }

-- where all stay but one, and that is kept, each is kept
pub each_kept : (before after : List Peer) (s : ℕ) → ((r : ℕ) → r ≢ s → slice_get after r ≡ slice_get before r) → KeepsAt (slice_get before s) (slice_get after s)
    → (r : ℕ) → KeepsAt (slice_get before r) (slice_get after r)
each_kept before after s others k r = elim (cases_eq r s) [
  | inl e ↦ subst (λ x. KeepsAt (slice_get before x) (slice_get after x)) (sym e) k
  | inr d ↦ subst (KeepsAt (slice_get before r)) (sym (others r d)) (keeps_at_same (slice_get before r))
]

-- a weight; 0 where there is none
abbrev pub weight_or : Option ℕ → ℕ
weight_or o = unwrap_or o 0

-- whether there is a weight
abbrev pub has_weight : Option ℕ → Bool
has_weight o = is_some o

-- where there is a weight, it is one
some_there : (o : Option ℕ) → has_weight o ≡ true → (n : ℕ) × (o ≡ Some n)
some_there None e = absurd cc
some_there (Some n) e = (n, refl)

-- where there is none, it is none
pub none_there : (o : Option ℕ) → has_weight o ≡ false → o ≡ None
none_there None e = refl
none_there (Some n) e = absurd cc

-- what told sources tell stays
told_same : (a b x y : Bool) → b ≡ a → (a ≡ true → y ≡ x) → (b && y) ≡ (a && x)
told_same true b x y e f = ap (λ c. c && y) e ∙ f refl
told_same false b x y e f = ap (λ c. c && y) e

forest_same : (a b : Bool) (x y : Forest) → b ≡ a → (a ≡ true → y ≡ x) → (if b then y else none) ≡ (if a then x else none)
forest_same true b x y e f = ap (λ c. if c then y else none) e ∙ f refl
forest_same false b x y e f = ap (λ c. if c then y else none) e

-- over a told link a hole stands for what it stands for there
pub told_forest : (b : Bool) (f : HoleId → Forest) → b ≡ true → (λ (i : HoleId). if b then f i else none) ≡ f
told_forest true f e = refl
told_forest false f e = absurd cc

-- a hole that is known of a source among others is known to these
hole_there : (v : View) (s : ℕ) (h : HoleId) (o : Option Peer) → ((p : Peer) → o ≡ Some p → IsOfPeer v s p) → has_weight (known_in o h) ≡ true → v.knows s h ≡ true
hole_there v s h None is e = absurd cc
hole_there v s h (Some p) is e = let known = some_there (weights p.root p.known h) e in ((is p refl).known h known.0 known.1).0

-- where a call keeps the link and each source, it keeps what sources keep
pub view_kept : (v w : LinkView) (ps qs : List Peer) (m n : ℕ) → KeepsLink v w → length qs ≡ length ps → ((s : ℕ) → KeepsAt (slice_get ps s) (slice_get qs s))
    → (v.told ≡ true → Agrees v ps) → m ≤ n → Keeps (view_of (remoting v ps m)) (view_of (remoting w qs n))
view_kept v w ps qs m n k l each agrees h = record {
  count = l;
  root = λ s. (each s).root;
  told = λ s. told_same v.told w.told (v.peer.told s) (w.peer.told s) k.told (λ told. (k.peer told).told s);
  forward = λ s. told_same v.told w.told (v.peer.forward s) (w.peer.forward s) k.told (λ told. (k.peer told).forward s);
  small = λ s. refl;
  knows = λ s i e. (let known = some_there (known_in (slice_get ps s) i) e in ap has_weight ((each s).known i known.0 known.1));
  forest = λ s i e.
      forest_same v.told w.told (v.peer.forest s i) (w.peer.forest s i) k.told (λ told. (k.peer told).forest s i (hole_there v.peer s i (slice_get ps s) ((agrees told).each s) e));
  weight = λ s i e.
      (let known = some_there (known_in (slice_get ps s) i) e in ap weight_or ((each s).known i known.0 known.1) ∙ sym (ap weight_or known.1));
  fills = h;
  faults = λ s. (each s).faults;
}
