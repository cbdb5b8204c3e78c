-- What identifiers and nodes that walks found keep from call to call.
use Rattle.std.proofs.Common.{Global, ◌≡◌, ◌≤◌, ◌⊎◌, inl, inr, ℕ, Bool, true, false, cond, List, Option, Some, None, refl, sym, ap, subst, ◌∙◌, arith, length}
use Rattle.std.specs.declared.rc.Rc.{Rc}
use Rattle.std.specs.Prelude.{IsTrue, is_some, MatchOption, Result, Ok, Err, IfOk, option_map}
use Rattle.std.specs.BTreeMap.{BTreeMap, get, Updates}
use Rattle.std.specs.Cmp.Lexicographic.{slice_cmp}
use Rattle.std.specs.Map.{lookup}
use Rattle.std.specs.Ordering.{nat_cmp, is_eq}
use Rattle.std.specs.Str.{bytes_eq}
use Rattle.std.proofs.lemmas.Map.Text.{is_eq-slice_cmp}
use Rattle.std.proofs.lemmas.Slice.Eq.{bytes_eq-Decides}
use Rattle.mix_base.proofs.Choices.{some_is}
use Rattle.mix_tree.specs.Nodes.{Documents}
use Rattle.lxp_core.specs.View.{View, Keeps as KeepsView}
use Rattle.lxp_core.specs.declared.fault.WalkFault.{WalkFault}
use Rattle.node_text.specs.Results.{SpellsAtMostOne}
use Rattle.node_text.specs.Grammar.{Spells}
use Rattle.node_text.specs.Node.{NodeValue}
use Rattle.plan_core.specs.declared.plan.Plan.{Plan}
use Rattle.plan_core.specs.PlanMade.{plan_value}
use Rattle.plan_evidence.specs.Held.{UsesHeld}
use Rattle.plan_evidence.specs.Named.{Names}
use Rattle.lazy_follow.specs.Following.{IsFollowed}
use Rattle.lazy_follow.specs.Marks.{IsMarkOf}
use Rattle.lazy_follow.proofs.Staying.{marks_stay}
use Rattle.lazy_plan.specs.Bench.{BenchState, ops_of, documents, told, KeepsBench}
use Rattle.lazy_plan.proofs.Benches.{keeps_on}
use Rattle.lazy_site.proofs.Heights.{roots_same}
use Rattle.lazy_walk.specs.declared.ids.WalkedNode.{WalkedNode}
use Rattle.lazy_walk.specs.Finding.{root_height, walk_charge}
use Rattle.lazy_walk.specs.Stages.{part_of}
use Rattle.lazy_walk.specs.Walks.{HasLower, HasNoHigher, NodesStay, KeepsHeights, HasWalked}
use Rattle.lazy_walk.specs.Places.{IsAt, GivesPlace, HasNoPlace, IsThere}
use Rattle.lazy_walk.proofs.Walking.{by_docs, document_on, same_number, walked_none}
use Rattle.lazy_value.specs.declared.ids.MarkedText.{MarkedText}
use Rattle.lazy_value.specs.declared.ids.NodeId.{NodeId}
use Rattle.lazy_value.specs.declared.ids.NodeId.TheVariants.{Walked, Marked}
use Rattle.lazy_value.specs.declared.mediator.Mediator.{Mediator}
use Rattle.lazy_value.specs.Named.{IsMarkedText, IsNamed, NamesAt, IsNamedAt, IsFoundFor, found_for, state_of, IsMediatorOf, named_left, named_height, NamedStay, owed, owed_of, OwesNoMore, NamedWalked, WasFound, AreShared}
use Rattle.lazy_value.specs.Steps.{IsNamedThere, IsPart, IsOnWay, IsTextShared}

-- what is owed until something is found doesn't rise where what was found stays found
owed_still : {X : Type 0} (x y : Option X) (k l : ℕ) → k ≡ l → (IsTrue (is_some x) → IsTrue (is_some y)) → cond (is_some y) 0 k ≤ cond (is_some x) 0 l
owed_still (Some x) (Some y) k l same more = omega arith
owed_still (Some x) None k l same more = (let z : false ≡ true = more refl in let w : ⊥ = cc in absurd w)
owed_still None (Some y) k l same more = omega arith
owed_still None None k l same more = omega (arith, same)

-- for a text whose node a walk found nothing is owed
pub nothing_owed : (st : BenchState) (m : Mediator) (t : MarkedText) (p : List ℕ) → WasFound m t.text → owed_of st m t p ≡ 0
nothing_owed st m t p found = ap (λ (b : Bool). cond b 0 (walk_charge (documents st) (ops_of st) p)) found

-- so it is after a call that finds no more
pub still_paid : (st : BenchState) (m : Mediator) (t : MarkedText) (p : List ℕ) (n : WalkedNode) → found_for m t.text ≡ Some n → (r : Result (Option WalkedNode) WalkFault)
    → IfOk r (λ x. owed_of st m t p ≡ 0)
still_paid st m t p n found (Ok x) = nothing_owed st m t p (ap (λ (o : Option WalkedNode). is_some o) found)
still_paid st m t p n found (Err e) = tt

-- after a call that no source failed, nothing is owed for a text on the way of one that was found
pub still_shared : (old new : BenchState) → KeepsBench old new → (m : Mediator) → AreShared new m → (t : MarkedText) → Spells t.text t.mark.data → WasFound m t.text
    → (r : Result (Option WalkedNode) WalkFault) → IsTextShared old new m t r
still_shared old new kept m shared t spells found (Err e) = λ tells. tt
still_shared old new kept m shared t spells found (Ok r) = λ tells x q part at.
    (let tells_now = kept.told ∙ tells in
    let names = subst (λ (d : NodeValue). Names (documents new) (ops_of new) d q) part.says (at.names tells_now) in
    nothing_owed new m x q
    (shared tells_now t.text t.mark.data spells found part.stage part.within q names x.text (subst (Spells x.text) part.says at.marked.spells)))

-- nothing is owed for what lies on the way of a node to which a walk led
pub shared_walked : (st : BenchState) (m : Mediator) (n : NodeId) (w : WalkedNode) → n ≡ Walked w → (x : NodeId) (q : List ℕ) → IsOnWay x n → owed st m x q ≡ 0
shared_walked st m n w e (Walked x) q on = refl
shared_walked st m n w e (Marked x) q on = absurd (subst (IsOnWay (Marked x)) e on)

-- what is shared with a text is shared with its identifier
pub shared_marked : (st : BenchState) (m : Mediator) (n : NodeId) (k : Rc MarkedText Global) (t : MarkedText) → n ≡ Marked k → t ≡ k.value
    → ((x : MarkedText) (q : List ℕ) → IsPart x.mark.data t.mark.data → NamesAt st x q → owed_of st m x q ≡ 0)
    → (x : NodeId) (q : List ℕ) → IsOnWay x n → IsNamedAt st x q → owed st m x q ≡ 0
shared_marked st m n k t e f h (Walked x) q on at = refl
shared_marked st m n k t e f h (Marked x) q on at =
    h x.value q (subst (λ (y : MarkedText). IsPart x.value.mark.data y.mark.data) (sym f) (subst (IsOnWay (Marked x)) e on)) at

module _ (a b : BenchState) (kept : KeepsBench a b) where
  -- what a text names after a call, it named before
  pub names_back : (d : NodeValue) (p : List ℕ) → Names (documents b) (ops_of b) d p → Names (documents a) (ops_of a) d p
  names_back d p h = subst (λ (q : Plan). Names (documents a) (plan_value q).ops d p) kept.plan (subst (λ (docs : Documents). Names docs (ops_of b) d p) kept.documents h)

  -- what a text named before a call, it names after it
  pub names_on : (d : NodeValue) (p : List ℕ) → Names (documents a) (ops_of a) d p → Names (documents b) (ops_of b) d p
  names_on d p = by_docs a b kept (λ docs ops. Names docs ops d p)

  -- a text that was followed stays one
  pub marked_on : (t : MarkedText) → IsMarkedText a t → IsMarkedText b t
  marked_on t h = record {
    mark = marks_stay a b kept t.mark h.mark;
    spells = h.spells;
    uses = subst (λ (q : Plan). UsesHeld (plan_value q).ops) (sym kept.plan) h.uses;
    names = λ tells. (let x = h.names (sym kept.told ∙ tells) in (x.0, names_on t.mark.data x.0 x.1));
  }

  -- what was shared is shared where nothing new was found
  pub shared_on : (m n : Mediator) → ((text : List ℕ) → WasFound n text → WasFound m text) → ((text : List ℕ) → WasFound m text → WasFound n text) → AreShared a m → AreShared b n
  shared_on m n back more h = λ tells text d spells found stage is p names part says.
      more part (h (sym kept.told ∙ tells) text d spells (back text found) stage is p (names_back (part_of d stage) p names) part says)

  -- no more is owed for any identifier where what was found stays found
  pub owes_no_more : (m n : Mediator) → ((text : List ℕ) → WasFound m text → WasFound n text) → OwesNoMore a m b n
  owes_no_more m n more (Walked x) p = omega arith
  owes_no_more m n more (Marked t) p =
      let text = t.value.text in
      let charge = same_number a b kept (λ docs ops. walk_charge docs ops p) in
      owed_still (found_for m text) (found_for n text) (walk_charge (documents b) (ops_of b) p) (walk_charge (documents a) (ops_of a) p) charge (more text)

  module _ (nodes : NodesStay a b) (heights : KeepsHeights a b) (root : root_height b ≡ root_height a) where
    -- each identifier stays one, at its place, and its numbers don't rise
    pub named_stay : NamedStay a b
    named_stay = record { named = named; place = place; left = left; height = height }
      where
        named : (n : NodeId) → IsNamed a n → IsNamed b n
        named (Walked n) h = nodes.node n h
        named (Marked t) h = marked_on t.value h

        place : (n : NodeId) (p : List ℕ) → IsNamedAt a n p → IsNamedAt b n p
        place (Walked n) p h = nodes.place n p h
        place (Marked t) p h = record { marked = marked_on t.value h.marked; names = λ tells. names_on t.value.mark.data p (h.names (sym kept.told ∙ tells)) }

        left : (n : NodeId) → IsNamed a n → named_left b n ≤ named_left a n
        left (Walked n) h = nodes.left n h
        left (Marked t) h = omega arith

        height : (n : NodeId) → IsNamed a n → named_height b n ≤ named_height a n
        height (Walked n) h = heights n h
        height (Marked t) h = omega (arith, root)

    -- what a walk found of a text stays that
    found_on : (text : List ℕ) (n : WalkedNode) → IsFoundFor a text n → IsFoundFor b text n
    found_on text n h = record {
      says = h.says;
      spells = h.spells;
      node = nodes.node n h.node;
      height = (let c = heights n h.node in let d = h.height in omega (arith, c, d, root));
      names = λ tells. (let x = h.names (sym kept.told ∙ tells) in (x.0, names_on h.says x.0 x.1));
      place = λ tells p names. nodes.place n p (h.place (sym kept.told ∙ tells) p (names_back h.says p names));
    }

module _ {S : Type 0} {view : S → View} {came_from : S → S → Type 0} (keeps : (a b : S) → came_from a b → KeepsView (view a) (view b)) where
  -- the height of the root stays
  pub root_kept : (s t : S) (m n : Mediator) → came_from s t → IsMediatorOf (view s) m → KeepsBench (state_of (view s) m) (state_of (view t) n)
      → root_height (state_of (view t) n) ≡ root_height (state_of (view s) m)
  root_kept s t m n came h kept =
      let roots = roots_same (view s) (view t) m.walk.bench n.walk.bench (keeps s t came) h.walk in
      let ops = ap (λ (q : Plan). length (plan_value q).ops) kept.plan in
      omega (arith, roots, ops)

  module _ (s t : S) (m n : Mediator) (h : IsMediatorOf (view s) m) (w : HasWalked view came_from s m.walk t n.walk) where
    -- what a call of a walk leaves is what one of a mediator leaves, where what is found was found before it, or was found by it, and is shared
    pub named_walked : ((text : List ℕ) (x : WalkedNode) → found_for n text ≡ Some x → (found_for m text ≡ Some x) ⊎ IsFoundFor (state_of (view t) n) text x)
        → ((text : List ℕ) → WasFound m text → WasFound n text) → AreShared (state_of (view t) n) n → NamedWalked view came_from s m t n
    named_walked found more shared =
        let a = state_of (view s) m in
        let b = state_of (view t) n in
        let root = root_kept s t m n w.came h w.kept in
        record {
          came = w.came;
          mediator = record {
            walk = w.walk;
            found = λ text x e. elim (found text x e) [
              | inl f ↦ found_on a b w.kept w.nodes w.heights root text x (h.found text x f)
              | inr f ↦ f
            ];
            root = λ text spells. more text (h.root text spells);
            shared = shared;
          };
          kept = w.kept;
          stay = named_stay a b w.kept w.nodes w.heights root;
          found = more;
          owed = owes_no_more a b w.kept m n more;
        }

    -- what a call leaves that finds nothing new
    pub walked_same : ((text : List ℕ) → found_for n text ≡ found_for m text) → NamedWalked view came_from s m t n
    walked_same same =
        let back = λ (text : List ℕ) (f : WasFound n text). subst (λ (o : Option WalkedNode). IsTrue (is_some o)) (same text) f in
        let more = λ (text : List ℕ) (f : WasFound m text). subst (λ (o : Option WalkedNode). IsTrue (is_some o)) (sym (same text)) f in
        named_walked (λ text x e. inl (sym (same text) ∙ e)) more (shared_on (state_of (view s) m) (state_of (view t) n) w.kept m n back more h.shared)

    -- so it is where what is found stays as it was
    pub walked_alike : n.found ≡ m.found → NamedWalked view came_from s m t n
    walked_alike same = walked_same (λ text. ap (λ (f : BTreeMap (List ℕ) WalkedNode). get (slice_cmp nat_cmp) f text) same)

  -- where nothing is asked, all is left as it was
  pub named_none : ((a : S) → came_from a a) → (s : S) (m : Mediator) → IsMediatorOf (view s) m → NamedWalked view came_from s m s m
  named_none same s m h = walked_alike s s m m h (walked_none {view = view} same s m.walk h.walk) refl

  module _ (after : (a b c : S) → came_from a b → came_from b c → came_from a c) (s t u : S) (m n o : Mediator) (a : NamedWalked view came_from s m t n) where
    -- one call behind another
    pub named_twice : NamedWalked view came_from t n u o → NamedWalked view came_from s m u o
    named_twice b = record {
      came = after s t u a.came b.came;
      mediator = b.mediator;
      kept = keeps_on.twice (state_of (view s) m) (state_of (view t) n) (state_of (view u) o) a.kept b.kept;
      stay = record {
        named = λ x h. b.stay.named x (a.stay.named x h);
        place = λ x p h. b.stay.place x p (a.stay.place x p h);
        left = λ x h. (let c = a.stay.left x h in let d = b.stay.left x (a.stay.named x h) in omega (arith, c, d));
        height = λ x h. (let c = a.stay.height x h in let d = b.stay.height x (a.stay.named x h) in omega (arith, c, d));
      };
      found = λ text h. b.found text (a.found text h);
      owed = λ x p. (let c = a.owed x p in let d = b.owed x p in omega (arith, c, d));
    }

    -- a step of a walk behind a call
    pub stepped : HasWalked view came_from t n.walk u o.walk → o.found ≡ n.found → NamedWalked view came_from s m u o
    stepped w same = named_twice (walked_alike t u n o a.mediator w same)

module _ (a b d : BenchState) (kept : KeepsBench a b) where
  -- what a later call answers of a place is an answer since an earlier state
  pub place_since : (goal : Option (List ℕ)) (r : Result (Option WalkedNode) WalkFault) → (IsTrue (told a) → IfOk r (GivesPlace b d goal)) → IfOk r (GivesPlace a d goal)
  place_since goal (Err e) h = tt
  place_since goal (Ok None) h = λ tells t e. h tells (kept.told ∙ tells) t (document_on a b kept ∙ e)
  place_since goal (Ok (Some n)) h = λ tells.
      (let x = h tells (kept.told ∙ tells) in
      record { place = x.place; asked = x.asked; has = λ t e. x.has t (document_on a b kept ∙ e); at = x.at })

  -- what a walk found of a text stands where the text names a node
  pub found_at : SpellsAtMostOne → (k : MarkedText) → IsMarkedText a k → (x : WalkedNode) → IsFoundFor b k.text x → IsTrue (told a) → (p : List ℕ) → NamesAt a k p → IsAt b x p
  found_at law k marked x f tells p names =
      let same : k.mark.data ≡ f.says = law k.text k.mark.data f.says marked.spells f.spells in
      f.place (kept.told ∙ tells) p (subst (λ (d : NodeValue). Names (documents b) (ops_of b) d p) same (names_on a b kept k.mark.data p (names.names tells)))

-- a text that was followed over a state stays followed, and stands wherever it names a node
pub text_given : (a b : BenchState) → KeepsBench a b → (k : MarkedText) (d e : NodeValue) → IsMarkOf b e k.mark → e ≡ d → Spells k.text d → UsesHeld (ops_of a)
    → (IsTrue (told a) → IsFollowed (documents a) (ops_of a) e) → (IsFollowed (documents a) (ops_of a) d → (p : List ℕ) × Names (documents a) (ops_of a) d p)
    → IsMarkedText b k × (IsTrue (told a) → (p : List ℕ) × Names (documents a) (ops_of a) d p × ((q : List ℕ) → Names (documents a) (ops_of a) d q → NamesAt b k q))
text_given a b kept k d e mark same spells uses followed law =
    let says : k.mark.data ≡ d = mark.says ∙ same in
    let found = λ (tells : IsTrue (told a)). law (subst (IsFollowed (documents a) (ops_of a)) same (followed tells)) in
    let on = λ (q : List ℕ) (names : Names (documents a) (ops_of a) d q).
    names_on a b kept k.mark.data q (subst (λ (x : NodeValue). Names (documents a) (ops_of a) x q) (sym says) names) in
    let marked : IsMarkedText b k = record {
      mark = mark.mark;
      spells = subst (Spells k.text) (sym says) spells;
      uses = subst (λ (q : Plan). UsesHeld (plan_value q).ops) (sym kept.plan) uses;
      names = λ tells. (let x = found (sym kept.told ∙ tells) in (x.0, on x.0 x.1));
    } in (
      marked,
      λ tells. (let x = found tells in (x.0, x.1, λ q names. record { marked = marked; names = λ t. on q names })),
    )

-- what stands below a number stands below a greater one
pub lower_still : (st : BenchState) (h k : ℕ) → h ≤ k → (r : Result (Option WalkedNode) WalkFault) → IfOk r (HasLower h st) → IfOk r (HasLower k st)
lower_still st h k l (Err e) f = tt
lower_still st h k l (Ok None) f = tt
lower_still st h k l (Ok (Some n)) f = omega (arith, l, f)

-- what stands no higher than a number stands no higher than a greater one
pub no_higher_still : (st : BenchState) (h k : ℕ) → h ≤ k → (r : Result (Option WalkedNode) WalkFault) → IfOk r (HasNoHigher h st) → IfOk r (HasNoHigher k st)
no_higher_still st h k l (Err e) f = tt
no_higher_still st h k l (Ok None) f = tt
no_higher_still st h k l (Ok (Some n)) f = omega (arith, l, f)

-- an update of one text lets this be found for it, and for the others what was
pub updated : (m n : BTreeMap (List ℕ) WalkedNode) (text : List ℕ) (x : WalkedNode) → Updates (slice_cmp nat_cmp) m n text (Some x) → (q : List ℕ)
    → get (slice_cmp nat_cmp) n q ≡ cond (bytes_eq text q) (Some x) (get (slice_cmp nat_cmp) m q)
updated m n text x u q = u.0 q ∙ ap (λ b. cond b (Some x) (get (slice_cmp nat_cmp) m q)) (is_eq-slice_cmp text q)

-- what is found after such an update was found before it, or is what was found for that text
pub found_new : (m n : BTreeMap (List ℕ) WalkedNode) (text : List ℕ) (x : WalkedNode) → Updates (slice_cmp nat_cmp) m n text (Some x) → (q : List ℕ) (y : WalkedNode)
    → get (slice_cmp nat_cmp) n q ≡ Some y → (get (slice_cmp nat_cmp) m q ≡ Some y) ⊎ ((text ≡ q) × (x ≡ y))
found_new m n text x u q y e = by_text (bytes_eq text q) (λ h. (bytes_eq-Decides text q).0 h) (sym (updated m n text x u q) ∙ e)
  where
    by_text : (b : Bool) → (b ≡ true → text ≡ q) → cond b (Some x) (get (slice_cmp nat_cmp) m q) ≡ Some y → (get (slice_cmp nat_cmp) m q ≡ Some y) ⊎ ((text ≡ q) × (x ≡ y))
    by_text true same f = inr (same refl, some_is x y f)
    by_text false same f = inl f

-- what was found stays found
pub found_more : (m n : BTreeMap (List ℕ) WalkedNode) (text : List ℕ) (x : WalkedNode) → Updates (slice_cmp nat_cmp) m n text (Some x) → (q : List ℕ)
    → IsTrue (is_some (get (slice_cmp nat_cmp) m q)) → IsTrue (is_some (get (slice_cmp nat_cmp) n q))
found_more m n text x u q h = subst (λ (o : Option WalkedNode). IsTrue (is_some o)) (sym (updated m n text x u q)) (by_text (bytes_eq text q))
  where
    by_text : (b : Bool) → IsTrue (is_some (cond b (Some x) (get (slice_cmp nat_cmp) m q)))
    by_text true = refl
    by_text false = h

-- what an update sets is found
pub found_now : (m n : BTreeMap (List ℕ) WalkedNode) (text : List ℕ) (x : WalkedNode) → Updates (slice_cmp nat_cmp) m n text (Some x) → IsTrue (is_some (get (slice_cmp nat_cmp) n text))
found_now m n text x u =
    ap (λ (o : Option WalkedNode). is_some o) (updated m n text x u text ∙ ap (λ (b : Bool). cond b (Some x) (get (slice_cmp nat_cmp) m text)) ((bytes_eq-Decides text text).1 refl))

-- what is found after such an update was found before it, or is that text
pub found_back : (m n : BTreeMap (List ℕ) WalkedNode) (text : List ℕ) (x : WalkedNode) → Updates (slice_cmp nat_cmp) m n text (Some x) → (q : List ℕ)
    → IsTrue (is_some (get (slice_cmp nat_cmp) n q)) → IsTrue (is_some (get (slice_cmp nat_cmp) m q)) ⊎ (text ≡ q)
found_back m n text x u q h =
    by_text (bytes_eq text q) (λ e. (bytes_eq-Decides text q).0 e) (subst (λ (o : Option WalkedNode). IsTrue (is_some o)) (updated m n text x u q) h)
  where
    by_text : (b : Bool) → (b ≡ true → text ≡ q) → IsTrue (is_some (cond b (Some x) (get (slice_cmp nat_cmp) m q))) → IsTrue (is_some (get (slice_cmp nat_cmp) m q)) ⊎ (text ≡ q)
    by_text true same f = inr (same refl)
    by_text false same f = inl f

-- entries that are the same have the same found
pub found_same : (m n : BTreeMap (List ℕ) WalkedNode) → n.entries ≡ m.entries → (q : List ℕ) → get (slice_cmp nat_cmp) n q ≡ get (slice_cmp nat_cmp) m q
found_same m n e q = ap (lookup (λ k. is_eq (slice_cmp nat_cmp q k))) e

-- what a call of a walk answers of a place is what one of a mediator answers
pub given_place : (a d : BenchState) (goal : Option (List ℕ)) (x : Option WalkedNode) (r : Option NodeId) → r ≡ option_map (λ (n : WalkedNode). Walked n) x → MatchOption x (HasNoPlace a goal) (IsThere a d goal)
    → MatchOption r (HasNoPlace a goal) (IsNamedThere a d goal)
given_place a d goal None r e h = subst (λ (o : Option NodeId). MatchOption o (HasNoPlace a goal) (IsNamedThere a d goal)) (sym e) h
given_place a d goal (Some n) r e h =
    subst (λ (o : Option NodeId). MatchOption o (HasNoPlace a goal) (IsNamedThere a d goal)) (sym e) (record { place = h.place; asked = h.asked; has = h.has; at = h.at })
