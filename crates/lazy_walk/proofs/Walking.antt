-- Steps of a walk, one after another: what they leave, what they ask, and where they lead.
use Rattle.std.proofs.Common.{◌≡◌, ◌∙◌, ℕ, zero, suc, ◌≤◌, ◌+◌, true, false, List, [], ◌∷◌, ◌++◌, Option, Some, None, refl, sym, ap, subst, arith, append_assoc, append-nil}
use Rattle.std.specs.Prelude.{IsTrue, is_some, MatchOption, Result}
use Rattle.mix_base.proofs.Choices.{some_is}
use Rattle.mix_tree.specs.Forest.{Forest, LabelledTree, none, tree, alone, first_label, first_kids, from}
use Rattle.mix_tree.specs.Place.{has_place, child_place, next_place}
use Rattle.mix_tree.specs.Nodes.{Documents}
use Rattle.lxp_core.specs.View.{View}
use Rattle.lxp_core.specs.declared.fault.WalkFault.{WalkFault}
use Rattle.plan_core.specs.declared.plan.Plan.{Plan}
use Rattle.plan_core.specs.PlanMade.{plan_value}
use Rattle.plan_core.specs.Events.{visited}
use Rattle.plan_core.specs.Plans.{Operator, document}
use Rattle.plan_evidence.proofs.TreeLists.{nowhere}
use Rattle.lazy_plan.specs.Bench.{BenchState, ops_of, documents, told, KeepsBench, AsksAtMost}
use Rattle.lazy_plan.proofs.Benches.{keeps_on}
use Rattle.lazy_seek.proofs.Walks.{fault_after}
use Rattle.lazy_follow.specs.declared.evidence.Evidence.{Evidence}
use Rattle.lazy_follow.specs.Marks.{AreMembers}
use Rattle.lazy_follow.proofs.Groups.{spotted_on}
use Rattle.node_text.specs.Node.{LevelValue}
use Rattle.lazy_walk.specs.declared.ids.WalkedNode.{WalkedNode}
use Rattle.lazy_walk.specs.declared.walk.Walk.{Walk}
use Rattle.lazy_walk.specs.Finding.{charge_below, Steps}
use Rattle.lazy_walk.specs.Walks.{state_of, IsWalkOf, HasWalked}
use Rattle.lazy_walk.specs.Places.{IsAt, HasPlace, HasNoPlace, GivesPlace, plan_document}
use Rattle.lazy_walk.proofs.AboveSteps.{next_place-push}

-- WHAT STEPS LEAVE

-- what two walks leave, one after another
pub walked_twice : {S : Type 0} {view : S → View} {came_from : S → S → Type 0} → ((a b c : S) → came_from a b → came_from b c → came_from a c) → (s t u : S) (m n o : Walk)
    → HasWalked view came_from s m t n → HasWalked view came_from t n u o → HasWalked view came_from s m u o
walked_twice {view = view} after s t u m n o h k = record {
  came = after s t u h.came k.came;
  walk = k.walk;
  kept = keeps_on.twice (state_of (view s) m) (state_of (view t) n) (state_of (view u) o) h.kept k.kept;
  nodes = record {
    node = λ x i. k.nodes.node x (h.nodes.node x i);
    place = λ x p i. k.nodes.place x p (h.nodes.place x p i);
    left = λ x i. (let a = h.nodes.left x i in let b = k.nodes.left x (h.nodes.node x i) in omega (arith, a, b));
  };
  heights = λ x i. (let a = h.heights x i in let b = k.heights x (h.nodes.node x i) in omega (arith, a, b));
}

-- where nothing is asked, all is left as it was
pub walked_none : {S : Type 0} {view : S → View} {came_from : S → S → Type 0} → ((a : S) → came_from a a) → (s : S) (m : Walk) → IsWalkOf (view s) m → HasWalked view came_from s m s m
walked_none {view = view} same s m h = record {
  came = same s;
  walk = h;
  kept = keeps_on.same (state_of (view s) m);
  nodes = record { node = λ x i. i; place = λ x p i. i; left = λ x i. omega arith };
  heights = λ x i. omega arith;
}

-- what steps leave and come to, behind others
pub steps_after : {S T : Type 0} {view : S → View} {came_from : S → S → Type 0} {P Q : BenchState → BenchState → Result T WalkFault → Type 0} → ((a b c : S) → came_from a b → came_from b c → came_from a c) → (s t u : S) (m n o : Walk) (r : Result T WalkFault)
    → HasWalked view came_from s m t n → Steps view came_from t n u o P r → (P (state_of (view t) n) (state_of (view u) o) r → Q (state_of (view s) m) (state_of (view u) o) r) → Steps view came_from s m u o Q r
steps_after {view = view} after s t u m n o r h k f = record {
  walked = walked_twice after s t u m n o h k.walked;
  cause = fault_after (state_of (view s) m) (state_of (view t) n) (view u) h.kept r k.cause;
  found = f k.found;
}

-- evidence of members stays
pub members_on : (a b : BenchState) → KeepsBench a b → (ls : List LevelValue) (ms : List (Option Evidence)) → AreMembers a ls ms → AreMembers b ls ms
members_on a b k [] [] h = h
members_on a b k [] (m ∷ ms) h = h
members_on a b k (l ∷ ls) [] h = h
members_on a b k (l ∷ ls) (None ∷ ms) h = (h.0, members_on a b k ls ms h.1)
members_on a b k (l ∷ ls) (Some e ∷ ms) h = (spotted_on a b k l.tuple e h.0, members_on a b k ls ms h.1)

-- WHAT STEPS ASK

module _ (a b : BenchState) (k : KeepsBench a b) where
  -- sources that were told are told
  pub told_on : IsTrue (told a) → IsTrue (told b)
  told_on y = subst IsTrue (sym k.told) y

  -- the operators are the same
  pub ops_on : ops_of b ≡ ops_of a
  ops_on = ap (λ (p : Plan). (plan_value p).ops) k.plan

  -- what holds of the documents and the operators of one state holds of the other's
  pub by_docs : (P : Documents → List Operator → Type 0) → P (documents a) (ops_of a) → P (documents b) (ops_of b)
  by_docs P h = subst (λ (ops : List Operator). P (documents b) ops) (sym ops_on) (subst (λ (d : Documents). P d (ops_of a)) (sym k.documents) h)

  -- a number of the documents and the operators is the same
  pub same_number : (f : Documents → List Operator → ℕ) → f (documents b) (ops_of b) ≡ f (documents a) (ops_of a)
  same_number f = ap (f (documents b)) ops_on ∙ ap (λ (d : Documents). f d (ops_of a)) k.documents

  -- the document is the same
  pub document_on : plan_document b ≡ plan_document a
  document_on = ap (λ (d : Documents). document (visited d) (ops_of b)) k.documents ∙ ap (λ (ops : List Operator). document (visited (documents a)) ops) ops_on

  -- a place of the document is one
  pub has_on : (p : List ℕ) → HasPlace a p → HasPlace b p
  has_on p h t e = h t (sym document_on ∙ e)

  -- what two walks ask together
  pub asks_twice : (c : BenchState) (m n most : ℕ) → AsksAtMost a b m → AsksAtMost b c n → m + n ≤ most → AsksAtMost a c most
  asks_twice c m n most h g l told forward = (let x = h told forward in let z = g (k.told ∙ told) (k.forward ∙ forward) in omega (arith, x, z, l))

-- who asks no more than a number asks no more than a greater one
pub asks_more : (a b : BenchState) (m n : ℕ) → m ≤ n → AsksAtMost a b m → AsksAtMost a b n
asks_more a b m n l h told forward = (let x = h told forward in omega (arith, x, l))

-- PLACES

-- where a place is, there is a first tree
pub has_first : (f : Forest) (p : List ℕ) → has_place f p ≡ true → is_some (first_label f) ≡ true
has_first f [] h = h
has_first none (k ∷ p) h = absurd (nowhere k p h)
has_first (tree label kids rest) (k ∷ p) h = refl

-- where there is a tree at an index, there is one at each before it
has_before : (f : Forest) (i j : ℕ) → i ≤ j → is_some (first_label (from j f)) ≡ true → is_some (first_label (from i f)) ≡ true
has_before none i j l h = absurd (nowhere j [] h)
has_before (tree label kids rest) zero j l h = refl
has_before (tree label kids rest) (suc i) zero l h = absurd (omega (arith, l))
has_before (tree label kids rest) (suc i) (suc j) l h = has_before rest i j (omega (arith, l)) h

-- where a place is, each place on the way to it is, and each sibling before one of these
place_before : (f : Forest) (q p : List ℕ) (i j : ℕ) → i ≤ j → has_place f (q ++ j ∷ p) ≡ true → has_place f (q ++ i ∷ []) ≡ true
place_before f [] p i j l h = has_before (first_kids f) i j l (has_first (from j (first_kids f)) p h)
place_before f (k ∷ q) p i j l h = place_before (from k (first_kids f)) q p i j l h

-- so it is in the plan's document
pub has_earlier : (st : BenchState) (q p : List ℕ) (i j : ℕ) → i ≤ j → HasPlace st (q ++ j ∷ p) → HasPlace st (q ++ i ∷ [])
has_earlier st q p i j l h t e = place_before (alone t) q p i j l (h t e)

-- there is no place where the document has none
none_there : (st : BenchState) → (t : LabelledTree) × (plan_document st ≡ Some t) → (p : List ℕ) → HasPlace st p → HasNoPlace st (Some p) → ⊥
none_there st t p h n = (let e : true ≡ false = sym (h t.0 t.1) ∙ n t.0 t.1 p refl in cc)

module _ (a b : BenchState) (t : (t : LabelledTree) × (plan_document a ≡ Some t)) (y : IsTrue (told a)) where
  -- the node that is found where the document has one is there
  found_there : (p : List ℕ) (goal : Option (List ℕ)) → goal ≡ Some p → HasPlace a p → (r : Option WalkedNode) → GivesPlace a b goal r → MatchOption r ⊥ (λ n. IsAt b n p)
  found_there p goal e h None g = none_there a t p h (subst (HasNoPlace a) e (g y))
  found_there p goal e h (Some n) g = (let x = g y in subst (IsAt b n) (some_is x.place p (sym x.asked ∙ e)) x.at)

  -- the first child is found where the document has a child
  pub child_there : (q p : List ℕ) (j : ℕ) → HasPlace a (q ++ j ∷ p) → (r : Option WalkedNode) → GivesPlace a b (Some (child_place q)) r → MatchOption r ⊥ (λ n. IsAt b n (q ++ 0 ∷ []))
  child_there q p j h r g = found_there (q ++ 0 ∷ []) (Some (child_place q)) refl (has_earlier a q p 0 j (omega arith) h) r g

  -- the next sibling is found where the document has a later one
  pub next_there : (q : List ℕ) (i more : ℕ) → HasPlace a (q ++ (i + suc more) ∷ []) → (r : Option WalkedNode) → GivesPlace a b (next_place (q ++ i ∷ [])) r → MatchOption r ⊥ (λ n. IsAt b n (q ++ suc i ∷ []))
  next_there q i more h r g =
      let z : i + 1 ≡ suc i = omega arith in
      found_there (q ++ suc i ∷ []) (next_place (q ++ i ∷ [])) (next_place-push q i ∙ ap (λ (k : ℕ). Some (q ++ k ∷ [])) z) (has_earlier a q [] (suc i) (i + suc more) (omega arith) h) r g

-- WHAT A WALK COSTS

module _ (docs : Documents) (ops : List Operator) where
  -- what the steps to a place cost, and those from there on, are those to the place further on
  pub charge_further : (q p r : List ℕ) → charge_below docs ops q (p ++ r) ≡ charge_below docs ops q p + charge_below docs ops (q ++ p) r
  charge_further q [] r = (let e = ap (λ (z : List ℕ). charge_below docs ops z r) (append-nil q) in omega (arith, e))
  charge_further q (k ∷ p) r =
      let h = charge_further (q ++ k ∷ []) p r in
      let e = ap (λ (z : List ℕ). charge_below docs ops z r) (append_assoc q (k ∷ []) p) in
      omega (arith, h, e)
