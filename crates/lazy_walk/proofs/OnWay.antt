-- A walk to the right: how far it has come, and what it asked.
use Rattle.std.proofs.Common.{◌≡◌, ℕ, zero, suc, ◌≤◌, ◌+◌, List, [], ◌∷◌, ◌++◌, Option, Some, refl, sym, ap, subst, arith}
use Rattle.std.specs.Prelude.{IsTrue, MatchOption}
use Rattle.mix_tree.specs.Forest.{LabelledTree}
use Rattle.mix_tree.specs.Place.{next_place}
use Rattle.plan_core.specs.PlanMade.{plan_value}
use Rattle.plan_core.specs.Typed.{IsTyped}
use Rattle.plan_core.specs.Valid.{IsValid}
use Rattle.plan_core.specs.Events.{TolledIsDocument}
use Rattle.lazy_plan.specs.Bench.{BenchState, ops_of, documents, told, KeepsBench, AsksAtMost}
use Rattle.lazy_site.proofs.Having.{valid_document}
use Rattle.lazy_walk.specs.declared.ids.WalkedNode.{WalkedNode}
use Rattle.lazy_walk.specs.Finding.{right_charge}
use Rattle.lazy_walk.specs.Places.{IsAt, HasPlace, GivesPlace, plan_document, right_toll}
use Rattle.lazy_walk.proofs.Walking.{same_number, has_on, asks_twice, asks_more, next_there}

module _ (st : BenchState) (valid : IsValid (plan_value st.plan)) (typed : IsTyped (ops_of st)) (law : TolledIsDocument (plan_value st.plan)) where
  -- the plan has a document
  pub plan_there : (t : LabelledTree) × (plan_document st ≡ Some t)
  plan_there = valid_document (plan_value st.plan) typed law valid (documents st)

-- a walk to a sibling so many places to the right has come to a node, and has asked no more than the steps so far cost
pub record OnWay (old now : BenchState) (node : WalkedNode) (q : List ℕ) (i more : ℕ) : Type 0 where
  pub index : ℕ
  pub left : ℕ
  pub sum : index + left ≡ i + more
  pub at : IsAt now node (q ++ index ∷ [])
  pub most : ℕ
  pub asks : AsksAtMost old now most
  pub within : most + right_charge (documents old) (ops_of old) q index left ≤ right_charge (documents old) (ops_of old) q i more

-- a walk begins at its first node
abbrev pub way_start : (old : BenchState) (first : WalkedNode) (q : List ℕ) (i more : ℕ) → IsAt old first (q ++ i ∷ []) → OnWay old old first q i more
way_start old first q i more at = record { index = i; left = more; sum = refl; at = at; most = 0; asks = λ told forward. omega arith; within = omega arith }

module _ (old now : BenchState) (kept : KeepsBench old now) (node : WalkedNode) (q : List ℕ) (i more : ℕ) (on : OnWay old now node q i more) where
  -- what was asked so far is no more than the whole walk costs
  pub way_asked : AsksAtMost old now (right_charge (documents old) (ops_of old) q i more)
  way_asked = (let w = on.within in asks_more old now on.most (right_charge (documents old) (ops_of old) q i more) (omega (arith, w)) on.asks)

  module _ (new : BenchState) (step : AsksAtMost now new (right_toll (documents now) (ops_of now) (q ++ on.index ∷ []))) where
    -- the toll of the step is that in the documents of the walk's beginning
    toll_same : right_toll (documents now) (ops_of now) (q ++ on.index ∷ []) ≡ right_toll (documents old) (ops_of old) (q ++ on.index ∷ [])
    toll_same = same_number old now kept (λ d o. right_toll d o (q ++ on.index ∷ []))

    -- one step more, where some are left
    pub way_asks : (left : ℕ) → on.left ≡ suc left → AsksAtMost old new (right_charge (documents old) (ops_of old) q i more)
    way_asks left e =
        let w = on.within in
        let c = ap (right_charge (documents old) (ops_of old) q on.index) e in
        let s = toll_same in
        asks_twice old now kept new on.most (right_toll (documents now) (ops_of now) (q ++ on.index ∷ [])) (right_charge (documents old) (ops_of old) q i more) on.asks step (omega (arith, w, c, s))

    -- a step to the right brings the walk to the next sibling, one index further
    pub way_further : (left : ℕ) → on.left ≡ suc left → (next : WalkedNode) → IsAt new next (q ++ suc on.index ∷ []) → (x : OnWay old new next q i more) × (x.index ≡ suc on.index)
    way_further left e next at =
        let w = on.within in
        let c = ap (right_charge (documents old) (ops_of old) q on.index) e in
        let s = toll_same in
        let z = on.sum in
        let most = on.most + right_toll (documents now) (ops_of now) (q ++ on.index ∷ []) in (
          record {
            index = suc on.index;
            left = left;
            sum = omega (arith, z, e);
            at = at;
            most = most;
            asks = asks_twice old now kept new on.most (right_toll (documents now) (ops_of now) (q ++ on.index ∷ [])) most on.asks step (omega arith);
            within = omega (arith, w, c, s);
          },
          refl,
        )

    -- a step to the right brings the walk to the next sibling
    pub way_more : (left : ℕ) → on.left ≡ suc left → (next : WalkedNode) → IsAt new next (q ++ suc on.index ∷ []) → OnWay old new next q i more
    way_more left e next at = (way_further left e next at).0

  -- some steps are left where the walk hasn't come to its end
  pub way_left : (on.index ≡ i + more → ⊥) → (left : ℕ) × (on.left ≡ suc left)
  way_left f = by_left on.left refl
    where
      by_left : (l : ℕ) → on.left ≡ l → (left : ℕ) × (on.left ≡ suc left)
      by_left zero e = (let z = on.sum in absurd (f (omega (arith, z, e))))
      by_left (suc l) e = (l, e)

  -- a step to the right goes on where some are left: there is a sibling
  pub way_next : (t : (t : LabelledTree) × (plan_document now ≡ Some t)) → IsTrue (told now) → HasPlace old (q ++ (i + more) ∷ []) → (left : ℕ) → on.left ≡ suc left → (new : BenchState) (r : Option WalkedNode)
      → GivesPlace now new (next_place (q ++ on.index ∷ [])) r → MatchOption r ⊥ (λ n. IsAt new n (q ++ suc on.index ∷ []))
  way_next t y has left e new r g =
      let z = on.sum in
      let end : on.index + suc left ≡ i + more = omega (arith, z, e) in
      next_there now new t y q on.index left (subst (λ (k : ℕ). HasPlace now (q ++ k ∷ [])) (sym end) (has_on old now kept (q ++ (i + more) ∷ []) has)) r g
