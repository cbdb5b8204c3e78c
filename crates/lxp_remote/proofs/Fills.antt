-- A fill of one of the sources after a link, said of all of them.
use Rattle.std.proofs.Common.{◌≡◌, ◌⊎◌, inl, inr, ℕ, ◌+◌, ◌-◌, ◌^◌, ◌<◌, ◌≤◌, min, Bool, true, false, List, length, refl, ap, subst, sym, ◌∙◌, arith}
use Rattle.std.specs.Prelude.{Contains, Option, Some, Result, Ok, Err, IfOk, OnErr, IsErrOf, slice_get, ◌&&◌, ◌≢◌}
use Rattle.std.specs.Global.{Vec}
use Rattle.std.proofs.lemmas.Bool.{cases_eq, cases_lt}
use Rattle.mix_base.specs.Counts.{HasRisen}
use Rattle.mix_tree.specs.Forest.{Forest}
use Rattle.lxp_core.specs.declared.open_tree.HoleId.{HoleId}
use Rattle.lxp_core.specs.declared.open_tree.OpenTree.{OpenTree}
use Rattle.lxp_core.specs.declared.fault.SourceFault.{SourceFault}
use Rattle.lxp_core.specs.declared.fault.SourceFault.TheVariants.{Failed, UnknownHole, OutOfMemory}
use Rattle.lxp_core.specs.Fill.{Answers, source_of}
use Rattle.lxp_core.specs.Open.{closed, weight_of, AllHoles, IsProgress, begins_with_hole}
use Rattle.lxp_core.specs.Plain.{plain}
use Rattle.lxp_core.specs.Small.{IsSmall}
use Rattle.lxp_core.specs.View.{View, Keeps}
use Rattle.wire_text.specs.declared.request.Request.TheVariants.{Fill}
use Rattle.wire_text.specs.Wired.{Wired, holes_of}
use Rattle.lxp_wire.specs.Answer.{IsListOf}
use Rattle.lxp_wire.specs.Links.{LinkView, KeepsLink}
use Rattle.lxp_remote.specs.declared.peer.Peer.{Peer}
use Rattle.lxp_remote.specs.Causes.{HasCome, asking}
use Rattle.lxp_remote.specs.Remotes.{root_in, known_in, faults_in, remoting, view_of, IsOfPeer, Agrees, FailsFewTimes, CameFrom}
use Rattle.lxp_remote.specs.Filled.{HasTaken, IsFilled, NamesCause}
use Rattle.lxp_remote.proofs.Listed.{hole_passes, all_holes, weighs_total}
use Rattle.lxp_remote.proofs.Peers.{at_index, of_peer_kept, KeepsAt, each_kept, weight_or, has_weight, told_forest, view_kept}
use Rattle.lxp_remote.proofs.Ruled.{hole_weight}

-- what a fill answers
abbrev Answered : Type 0
Answered = Result (Vec OpenTree) SourceFault

-- a list that came, where the answer is one
abbrev GivesTaken : LinkView → LinkView → Option Peer → Option Peer → ℕ → HoleId → Answered → Type 0
GivesTaken v w o o' s h a = IfOk a (λ list. HasTaken v w o o' s h (plain list.items))

-- where there is no answer, nothing was learned
abbrev KeepsKnown : Option Peer → Option Peer → Answered → Type 0
KeepsKnown o o' a = OnErr a ((i : HoleId) → known_in o' i ≡ known_in o i)

-- each hole of a source is known to told sources by its weight
abbrev IsThere : View → ℕ → Option Peer → Type 0
IsThere v s o = (i : HoleId) (n : ℕ) → known_in o i ≡ Some n → (v.knows s i ≡ true) × (n ≡ v.weight s i)

-- a fill keeps the source
pub filled_keeps : (v w : LinkView) (o o' : Option Peer) (s : ℕ) (h : HoleId) (a : Answered) → IsFilled v w o o' s h a → KeepsAt o o'
filled_keeps v w o o' s h a is = record { root = is.root; known = go a is.taken is.kept; faults = is.rises }
  where
    go : (a : Answered) → GivesTaken v w o o' s h a → KeepsKnown o o' a → (i : HoleId) (n : ℕ) → known_in o i ≡ Some n → known_in o' i ≡ Some n
    go (Ok list) taken kept = taken.2.learns.kept
    go (Err e) taken kept = λ i n f. kept i ∙ f

-- where each hole of a source was known to told sources, each is after a fill
known_told : (v w : LinkView) (o o' : Option Peer) (s : ℕ) (h : HoleId) (a : Answered) → IsFilled v w o o' s h a → Keeps v.peer w.peer → v.told ≡ true → IsThere v.peer s o → IsThere w.peer s o'
known_told v w o o' s h a is keeps told there i n e = go a is.taken is.kept
  where
    old : known_in o i ≡ Some n → (w.peer.knows s i ≡ true) × (n ≡ w.peer.weight s i)
    old f = let was = there i n f in (keeps.knows s i was.0, was.1 ∙ sym (keeps.weight s i was.0))

    listed : (x : Wired) → IsListOf v.peer w.peer s h x → Contains (holes_of x) (i, n) → (w.peer.knows s i ≡ true) × (n ≡ w.peer.weight s i)
    listed x l c = (hole_passes (w.peer.knows s) x i n l.answers.known c, hole_weight v.peer w.peer s h x l i n c)

    go : (a : Answered) → GivesTaken v w o o' s h a → KeepsKnown o o' a → (w.peer.knows s i ≡ true) × (n ≡ w.peer.weight s i)
    go (Ok list) taken kept = elim (taken.2.learns.only i n e) [ inl f ↦ old f | inr c ↦ listed taken.2.wired (taken.2.told told).answers.2 c ]
    go (Err f) taken kept = old (sym (kept i) ∙ e)

-- the holes of one of the sources that a link tells are known to the peer by their weights
there_at : (v : LinkView) (ps : List Peer) (s : ℕ) → Agrees v ps → s < length ps → IsThere v.peer s (slice_get ps s)
there_at v ps s agrees inside i n e =
    let p = at_index ps s inside in
    (agrees.each s p.0 p.1).known i n (ap (λ o. known_in o i) (sym p.1) ∙ e)

-- a fill fails or not
failed_or_not : (a : Answered) → IsErrOf a Failed ⊎ (IsErrOf a Failed → ⊥)
failed_or_not (Ok list) = inr (λ e. absurd cc)
failed_or_not (Err Failed) = inl refl
failed_or_not (Err UnknownHole) = inr (λ e. absurd cc)
failed_or_not (Err OutOfMemory) = inr (λ e. absurd cc)

-- where one count rises by one at most, and of two others the first rises and the second doesn't fall, it rises by no more than both
rises_by_one : (f g a b c d : ℕ) → g ≤ f + 1 → HasRisen a b → c ≤ d → (g + a + c ≤ f + b + d) ⊎ (2 ^ 64 - 1 ≤ b)
rises_by_one f g a b c d h rose k = elim (cases_lt a (2 ^ 64 - 1)) [ inl lt ↦ inl (omega (arith, h, rose, k, lt)) | inr ge ↦ inr (omega (arith, rose, ge)) ]

-- where the peer was asked a fill at most, and the count of fills rises to its end, the peer was asked few
few_fills : (x y m n : ℕ) → y ≤ x + 1 → n ≡ min (m + 1) (2 ^ 64 - 1) → (y + m ≤ x + n) ⊎ (2 ^ 64 - 1 ≤ n)
few_fills x y m n h e = elim (cases_lt m (2 ^ 64 - 1)) [ inl lt ↦ inl (omega (arith, h, e, lt)) | inr ge ↦ inr (omega (arith, e, ge)) ]

module _ (v w : LinkView) (before after : List Peer) (m n s : ℕ) (h : HoleId) (a : Answered) (k : KeepsLink v w) (is : IsFilled v w (slice_get before s) (slice_get after s) s h a) (inside : s < length before) (agrees : v.told ≡ true → Agrees v before) where
  -- the source that was filled is that of its number among told ones
  this_of_peer : (q : Peer) → v.told ≡ true → slice_get after s ≡ Some q → IsOfPeer w.peer s q
  this_of_peer q told e =
      let p = at_index before s inside in
      let keeps = k.peer told in record {
        root = ap root_in (sym e) ∙ is.root ∙ ap root_in p.1 ∙ ((agrees told).each s p.0 p.1).root ∙ sym (keeps.root s);
        known = λ i x f.
            known_told v w (slice_get before s) (slice_get after s) s h a is keeps told (there_at v before s (agrees told) inside) i x (ap (λ o. known_in o i) e ∙ f);
      }

  -- the cause of a failure is named, and has come
  pub names_cause : IsErrOf a Failed → NamesCause (remoting v before m) (remoting w after n) s h
  names_cause f =
      let failed = is.failed f in (
        failed.0,
        failed.1,
        failed.2,
        failed.3,
        failed.4,
        λ told. (let there = there_at v before s (agrees told) inside in failed.5 told (record {
          inside = subst (λ c. s < c) (agrees told).count inside;
          there = (there h failed.1 failed.3).0;
          same = (there h failed.1 failed.3).1;
          weights = there;
        })),
      )

  -- after a fill the sources are those that the link tells
  pub agrees_filled : ((r : ℕ) → r ≢ s → slice_get after r ≡ slice_get before r) → length after ≡ length before → w.told ≡ true → Agrees w after
  agrees_filled others l now =
      let told : v.told ≡ true = sym k.told ∙ now in
      let was = agrees told in record {
        count = l ∙ was.count ∙ sym (k.peer told).count;
        each = λ r q e. elim (cases_eq r s) [
          | inl same ↦ subst (λ x. IsOfPeer w.peer x q) (sym same) (this_of_peer q told (ap (slice_get after) (sym same) ∙ e))
          | inr d ↦ of_peer_kept v.peer w.peer r q (k.peer told) (was.each r q (sym (others r d) ∙ e))
        ];
      }

  -- the source that was filled failed no more often than the link and the peer's source together
  this_few : v.told ≡ true → FailsFewTimes (remoting v before m) (remoting w after n) s
  this_few told = elim (failed_or_not a) [
    | inl f ↦ (let named = names_cause f in elim (named.5 told) [
      | inl link ↦
          elim (rises_by_one (faults_in (slice_get before s)) (faults_in (slice_get after s)) v.faults w.faults (v.peer.faults s) (w.peer.faults s) is.at_most_one
          (subst (HasCome (asking (Fill s h) named.1 (known_in (slice_get before s))) v w) link named.4) ((k.peer told).faults s)) [
            | inl x ↦ inl x
            | inr x ↦ inr (inl x)
          ]
      | inr peer ↦
          elim (rises_by_one (faults_in (slice_get before s)) (faults_in (slice_get after s)) (v.peer.faults s) (w.peer.faults s) v.faults w.faults is.at_most_one peer.1 k.faults) [
            | inl x ↦ inl (omega (arith, x))
            | inr x ↦ inr (inr x)
          ]
    ])
    | inr d ↦ inl (omega (arith, (is.unfailed d).0, k.faults, (k.peer told).faults s))
  ]

  -- the sources came from those before
  pub came_filled : ((r : ℕ) → r ≢ s → slice_get after r ≡ slice_get before r) → length after ≡ length before → m ≤ n → n ≡ min (m + 1) (2 ^ 64 - 1) → CameFrom (remoting v before m) (remoting w after n)
  came_filled others l le counted = record {
    keeps = view_kept v w before after m n k l (each_kept before after s others (filled_keeps v w (slice_get before s) (slice_get after s) s h a is)) agrees le;
    fills = λ told. few_fills v.peer.fills w.peer.fills m n (is.fills told) counted;
    faults = λ told r. elim (cases_eq r s) [
      | inl same ↦ subst (FailsFewTimes (remoting v before m) (remoting w after n)) (sym same) (this_few told)
      | inr d ↦ inl (omega (arith, ap faults_in (others r d), k.faults, (k.peer told).faults r))
    ];
  }

-- what told sources tell of both is told by both
both_true : (a b : Bool) → (a && b) ≡ true → (a ≡ true) × (b ≡ true)
both_true true b e = (refl, e)
both_true false b e = absurd cc

module _ (v w : LinkView) (before after : List Peer) (m n s : ℕ) (h : HoleId) where
  -- the list that a fill gives closes to what its hole stands for
  closes_filled : (a : Answered) → v.told ≡ w.told → GivesTaken v w (slice_get before s) (slice_get after s) s h a
      → IfOk a (λ list. (view_of (remoting v before m)).told s ≡ true → closed ((view_of (remoting w after n)).forest s) (plain list.items) ≡ (view_of (remoting v before m)).forest s h)
  closes_filled (Err e) same t = tt
  closes_filled (Ok list) same t = λ tells.
      let both = both_true v.told (v.peer.told s) tells in
      let now : w.told ≡ true = sym same ∙ both.0 in
      ap (λ (f : HoleId → Forest). closed f (plain list.items)) (told_forest w.told (w.peer.forest s) now)
      ∙ ap (closed (w.peer.forest s)) t.2.same
      ∙ (t.2.told both.0).answers.2.answers.closes both.1
      ∙ sym (ap (λ (f : HoleId → Forest). f h) (told_forest v.told (v.peer.forest s) both.0))

  -- it keeps progress
  progress_filled : (a : Answered) → GivesTaken v w (slice_get before s) (slice_get after s) s h a → IfOk a (λ list. IsProgress (plain list.items))
  progress_filled (Err e) t = tt
  progress_filled (Ok list) t = subst IsProgress (sym t.2.same) t.2.rules.0

  -- its holes are known
  known_filled : (a : Answered) → GivesTaken v w (slice_get before s) (slice_get after s) s h a → IfOk a (λ list. AllHoles ((view_of (remoting w after n)).knows s) (plain list.items))
  known_filled (Err e) t = tt
  known_filled (Ok list) t =
      let test = λ (i : HoleId). has_weight (known_in (slice_get after s) i) in
      subst (AllHoles test) (sym t.2.same) (all_holes test t.2.wired (λ i x c. ap has_weight (t.2.learns.learned i x c)))

  -- it weighs no more than its hole
  lighter_filled : (a : Answered) → GivesTaken v w (slice_get before s) (slice_get after s) s h a
      → IfOk a (λ list. weight_of ((view_of (remoting w after n)).weight s) (plain list.items) ≤ (view_of (remoting v before m)).weight s h)
  lighter_filled (Err e) t = tt
  lighter_filled (Ok list) t =
      let weight = λ (i : HoleId). weight_or (known_in (slice_get after s) i) in
      let total = weighs_total weight t.2.wired (λ i x c. ap weight_or (t.2.learns.learned i x c)) in
      let asked = ap weight_or t.1 in
      subst (λ o. weight_of weight o ≤ weight_or (known_in (slice_get before s) h)) (sym t.2.same) (omega (arith, total, t.2.rules.1, asked))

  -- it begins with no hole where the peer's source is forward
  forward_filled : (a : Answered) → GivesTaken v w (slice_get before s) (slice_get after s) s h a
      → IfOk a (λ list. (view_of (remoting v before m)).forward s ≡ true → begins_with_hole (plain list.items) ≡ false)
  forward_filled (Err e) t = tt
  forward_filled (Ok list) t = λ f. let both = both_true v.told (v.peer.forward s) f in ap begins_with_hole t.2.same ∙ (t.2.told both.0).answers.2.answers.forward both.1

  -- it is small enough for a wire
  small_filled : (a : Answered) → GivesTaken v w (slice_get before s) (slice_get after s) s h a → IfOk a (λ list. IsSmall (plain list.items))
  small_filled (Err e) t = tt
  small_filled (Ok list) t = t.2.small

  -- a list that came answers the fill
  pub answers_filled : (a : Answered) → v.told ≡ w.told → GivesTaken v w (slice_get before s) (slice_get after s) s h a
      → IfOk a (λ list. Answers (source_of (view_of (remoting v before m)) s) (source_of (view_of (remoting w after n)) s) h (plain list.items))
  answers_filled (Err e) same t = tt
  answers_filled (Ok list) same t = record {
    closes = closes_filled (Ok list) same t;
    progress = progress_filled (Ok list) t;
    known = known_filled (Ok list) t;
    lighter = lighter_filled (Ok list) t;
    forward = forward_filled (Ok list) t;
    small = λ e. small_filled (Ok list) t;
  }
