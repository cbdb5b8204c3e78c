-- The search for the node to which levels lead, among a node's siblings.
use Rattle.std.proofs.Common.{◌≡◌, ℕ, suc, ◌<◌, ◌+◌, List, [], ◌∷◌, ◌++◌, Option, Some, None, sym, subst, arith, length}
use Rattle.std.specs.Prelude.{IsTrue, MatchOption, Result, Ok, Err, IfOk}
use Rattle.std.specs.declared.alloc.Global.{Global}
use Rattle.std.specs.declared.rc.Rc.{Rc}
use Rattle.mix_tree.specs.Nodes.{Documents}
use Rattle.mix_tree.specs.Place.{child_place, next_place}
use Rattle.lxp_core.specs.declared.fault.WalkFault.{WalkFault}
use Rattle.node_text.specs.Node.{LevelValue}
use Rattle.plan_core.specs.PlanMade.{plan_value}
use Rattle.plan_core.specs.Plans.{Operator}
use Rattle.plan_core.specs.Typed.{IsTyped}
use Rattle.plan_core.specs.Valid.{IsValid}
use Rattle.plan_core.specs.Events.{TolledIsDocument}
use Rattle.tree_buffer.specs.declared.spot.Spot.{Spot}
use Rattle.lazy_binding.specs.Bench.{IsBench}
use Rattle.lazy_follow.specs.declared.evidence.Evidence.{Evidence}
use Rattle.lazy_plan.specs.Bench.{BenchState, ops_of, documents, told, KeepsBench, AsksAtMost}
use Rattle.lazy_site.specs.Levels.{HasList}
use Rattle.lazy_site.specs.Standing.{IsStanding}
use Rattle.lazy_site.specs.declared.sites.Head.{Head}
use Rattle.lazy_site.specs.declared.sites.Rest.{Rest}
use Rattle.lazy_site.specs.declared.sites.Site.TheVariants.{Root, Inside, Item}
use Rattle.lazy_site.proofs.Holders.{open_holder}
use Rattle.lazy_walk.specs.Above.{IsLedTo}
use Rattle.lazy_walk.specs.declared.ids.WalkedNode.{WalkedNode}
use Rattle.lazy_walk.specs.declared.finding.LevelsAhead.{LevelsAhead}
use Rattle.lazy_walk.specs.declared.finding.Led.{Led}
use Rattle.lazy_walk.specs.Finding.{right_charge, child_charge, FindsLed, FindsRight, FindsChild, GivesLed, LeadsBelow, LeadsToNode, LedLower, LedNoHigher}
use Rattle.lazy_walk.specs.Leading.{LeadsHere}
use Rattle.lazy_walk.specs.Places.{IsAt, HasPlace, GivesPlace, down_toll, right_toll}
use Rattle.lazy_walk.proofs.Elements.{not_root, last_same, element_open, not_inside}
use Rattle.lazy_walk.proofs.OnWay.{OnWay, plan_there, way_start, way_asked, way_asks, way_more, way_left, way_next}
use Rattle.lazy_walk.proofs.Walking.{ops_on, has_on, asks_twice, asks_more, child_there}

-- what levels tell of a child at an index, where the first of them lead to that at another one
abbrev pub TellsChild : (docs : Documents) (ops : List Operator) (q : List ℕ) (levels : List LevelValue) (members : List (Option Evidence)) (k j : ℕ) → LeadsBelow docs ops q levels members j → Option ℕ → Type 0
TellsChild docs ops q levels members k j x r = MatchOption r (k ≡ j → ⊥) (λ count. (k ≡ j) × (count ≡ length x.lead.front))

module _ (st : BenchState) (valid : IsValid (plan_value st.plan)) (typed : IsTyped (ops_of st)) (bench : IsBench st.world (ops_of st)) (y : IsTrue (told st)) (q : List ℕ) (i j : ℕ) (levels : List LevelValue)
    (members : List (Option Evidence)) (x : LeadsBelow (documents st) (ops_of st) q levels members j) (above : List Rest) (top : Option Spot) where
  -- no child is the root
  pub root_led_nowhere : IsLedTo st Root above top (q ++ i ∷ []) → ⊥
  root_led_nowhere e = not_root q i e

  -- no child of an element to which levels lead lies inside a source
  pub inside_led_nowhere : (s : ℕ) (p : Spot) → IsLedTo st (Inside s p) above top (q ++ i ∷ []) → ⊥
  inside_led_nowhere s p a = not_inside st valid typed bench y s p above top q i x.is_list a

  -- a child in the element's list is told by what the levels tell of it
  pub item_led : (head : Head) (rest : Rc Rest Global) → IsLedTo st (Item head rest) above top (q ++ i ∷ []) → (r : Option ℕ) → LeadsHere st rest.value levels members r → TellsChild (documents st) (ops_of st) q levels members i j x r
  item_led head rest a r f =
      let places = last_same q a.element i a.index a.place in
      let holder = open_holder st a.is_open in
      let same = element_open st valid typed bench y a.is_open x.is_list (sym places.0) in
      let has : HasList st a.op a.var x.list = subst (HasList st a.op a.var) same.list_same holder.1 in
      let stands : IsStanding st a.op a.at x.list head rest.value = subst (λ l. IsStanding st a.op a.at l head rest.value) same.list_same a.stands in
      let led = f a.op a.at a.var x.list holder.0 has head stands a.index a.is_index x.chosen x.here x.there j x.piece same.row_same x.lead in
      subst (λ (k : ℕ). TellsChild (documents st) (ops_of st) q levels members k j x r) (sym places.1) led

-- what is told of a child in a later state is told in an earlier one
pub told_before : (old now : BenchState) → KeepsBench old now → (q : List ℕ) (levels : List LevelValue) (members : List (Option Evidence)) (k j : ℕ) (r : Option ℕ)
    → ((x : LeadsBelow (documents now) (ops_of now) q levels members j) → TellsChild (documents now) (ops_of now) q levels members k j x r)
    → (x : LeadsBelow (documents old) (ops_of old) q levels members j) → TellsChild (documents old) (ops_of old) q levels members k j x r
told_before old now kept q levels members k j r f =
    let P : Documents → List Operator → Type 0 = λ d o. (x : LeadsBelow d o q levels members j) → TellsChild d o q levels members k j x r in
    subst (λ (o : List Operator). P (documents old) o) (ops_on old now kept) (subst (λ (d : Documents). P d (ops_of now)) kept.documents f)

-- THE SEARCH

-- whatever child levels lead to that is to the right of a node, a walk there has come to a node
abbrev pub SiblingWay : BenchState → BenchState → WalkedNode → WalkedNode → LevelsAhead → Type 0
SiblingWay old now first node ahead =
    (q : List ℕ) (i more : ℕ) → IsAt old first (q ++ i ∷ []) → HasPlace old (q ++ (i + more) ∷ []) → LeadsBelow (documents old) (ops_of old) q ahead.levels.now ahead.members.now (i + more) → OnWay old now node q i more

module _ (old now : BenchState) (kept : KeepsBench old now) (first node : WalkedNode) (ahead : LevelsAhead) (way : SiblingWay old now first node ahead) where
  -- the node to which the levels lead is found
  pub right_found : (count : ℕ) → LeadsToNode now node ahead (Some count) → FindsRight old now first ahead (Ok (Some (record { node = node; count = count })))
  right_found count f q i more at has x =
      let on = way q i more at has x in
      let t = told_before old now kept q ahead.levels.now ahead.members.now on.index (i + more) (Some count) (λ z. f q on.index (i + more) on.at z) x in
      (way_asked old now kept node q i more on, (subst (λ (k : ℕ). IsAt now node (q ++ k ∷ [])) t.0 on.at, t.1))

  module _ (f : LeadsToNode now node ahead None) (new : BenchState) (asks : (p : List ℕ) → IsAt now node p → AsksAtMost now new (right_toll (documents now) (ops_of now) p)) where
    -- where the levels lead to another node, some steps are left
    some_left : (q : List ℕ) (i more : ℕ) → (at : IsAt old first (q ++ i ∷ [])) → (has : HasPlace old (q ++ (i + more) ∷ [])) → (x : LeadsBelow (documents old) (ops_of old) q ahead.levels.now ahead.members.now (i + more))
        → (left : ℕ) × ((way q i more at has x).left ≡ suc left)
    some_left q i more at has x =
        let on = way q i more at has x in
        way_left old now kept node q i more on (told_before old now kept q ahead.levels.now ahead.members.now on.index (i + more) None (λ z. f q on.index (i + more) on.at z) x)

    -- a step asks no more than the whole walk costs
    pub right_asked : (r : Result (Option Led) WalkFault) → ((q : List ℕ) (i more : ℕ) → IsAt old first (q ++ i ∷ []) → HasPlace old (q ++ (i + more) ∷ []) → (x : LeadsBelow (documents old) (ops_of old) q ahead.levels.now ahead.members.now (i + more))
        → FindsLed new (q ++ (i + more) ∷ []) (length x.lead.front) r) → FindsRight old new first ahead r
    right_asked r g q i more at has x =
        let on = way q i more at has x in
        let l = some_left q i more at has x in
        (way_asks old now kept node q i more on new (asks (q ++ on.index ∷ []) on.at) l.0 l.1, g q i more at has x)

    module _ (valid : IsValid (plan_value now.plan)) (typed : IsTyped (ops_of now)) (law : TolledIsDocument (plan_value now.plan)) (y : IsTrue (told now)) (r : Option WalkedNode) (gives : (p : List ℕ) → IsAt now node p → GivesPlace now new (next_place p) r) where
      -- the next sibling is there
      next_found : (q : List ℕ) (i more : ℕ) → (at : IsAt old first (q ++ i ∷ [])) → (has : HasPlace old (q ++ (i + more) ∷ [])) → (x : LeadsBelow (documents old) (ops_of old) q ahead.levels.now ahead.members.now (i + more))
          → MatchOption r ⊥ (λ n. IsAt new n (q ++ suc (way q i more at has x).index ∷ []))
      next_found q i more at has x =
          let on = way q i more at has x in
          let l = some_left q i more at has x in
          way_next old now kept node q i more on (plan_there now valid typed law) y has l.0 l.1 new r (gives (q ++ on.index ∷ []) on.at)

      pub right_none : r ≡ None → FindsRight old new first ahead (Ok None)
      right_none e = right_asked (Ok None) (λ q i more at has x. subst (λ o. MatchOption o ⊥ (λ n. IsAt new n (q ++ suc (way q i more at has x).index ∷ []))) e (next_found q i more at has x))

      -- the walk goes on there
      pub right_more : (next : WalkedNode) → r ≡ Some next → SiblingWay old new first next ahead
      right_more next e q i more at has x =
          let on = way q i more at has x in
          let l = some_left q i more at has x in
          way_more old now kept node q i more on new (asks (q ++ on.index ∷ []) on.at) l.0 l.1 next (subst (λ o. MatchOption o ⊥ (λ n. IsAt new n (q ++ suc on.index ∷ []))) e (next_found q i more at has x))

-- a search begins at its first node
pub right_start : (old : BenchState) (first : WalkedNode) (ahead : LevelsAhead) → SiblingWay old old first first ahead
right_start old first ahead q i more at has x = way_start old first q i more at

-- AMONG THE CHILDREN

-- what stands no higher than a node that stands below a number stands below that number
pub led_lower : (st : BenchState) (most h k : ℕ) → h < k → (r : Result (Option Led) WalkFault) → IfOk r (λ x. GivesLed st most x × LedNoHigher h st x) → IfOk r (λ x. GivesLed st most x × LedLower k st x)
led_lower st most h k l (Err e) f = tt
led_lower st most h k l (Ok None) f = (tt, tt)
led_lower st most h k l (Ok (Some x)) f = (f.0, (let z = f.1 in omega (arith, l, z)))

module _ (old now : BenchState) (kept : KeepsBench old now) (n : WalkedNode) (ahead : LevelsAhead) (asks : (p : List ℕ) → IsAt old n p → AsksAtMost old now (down_toll (documents old) (ops_of old) p)) where
  -- a step down asks no more than the walk to a child costs
  pub down_asked : (r : Result (Option Led) WalkFault) → ((q : List ℕ) (j : ℕ) → IsAt old n q → HasPlace old (q ++ j ∷ []) → (x : LeadsBelow (documents old) (ops_of old) q ahead.levels.now ahead.members.now j)
      → FindsLed now (q ++ j ∷ []) (length x.lead.front) r) → FindsChild old now n ahead r
  down_asked r f q j at has x =
      (let m = down_toll (documents old) (ops_of old) q in asks_more old now m (child_charge (documents old) (ops_of old) q j) (omega arith) (asks q at), f q j at has x)

  module _ (valid : IsValid (plan_value old.plan)) (typed : IsTyped (ops_of old)) (law : TolledIsDocument (plan_value old.plan)) (y : IsTrue (told old)) (r : Option WalkedNode) (gives : (p : List ℕ) → IsAt old n p → GivesPlace old now (Some (child_place p)) r) where
    -- the first child is there
    first_found : (q : List ℕ) (j : ℕ) → IsAt old n q → HasPlace old (q ++ j ∷ []) → MatchOption r ⊥ (λ m. IsAt now m (q ++ 0 ∷ []))
    first_found q j at has = child_there old now (plan_there old valid typed law) y q [] j has r (gives q at)

    pub down_none : r ≡ None → FindsChild old now n ahead (Ok None)
    down_none e q j at has x = absurd (subst (λ o. MatchOption o ⊥ (λ m. IsAt now m (q ++ 0 ∷ []))) e (first_found q j at has))

    -- what the search among the siblings of the first child finds
    pub down_found : (first : WalkedNode) → r ≡ Some first → (new : BenchState) (found : Result (Option Led) WalkFault) → FindsRight now new first ahead found → FindsChild old new n ahead found
    down_found first e new found f q j at has x =
        let d = documents old in
        let o = ops_of old in
        let z : 0 + j ≡ j = omega arith in
        let there = subst (λ w. MatchOption w ⊥ (λ m. IsAt now m (q ++ 0 ∷ []))) e (first_found q j at has) in
        let later : HasPlace now (q ++ (0 + j) ∷ []) = subst (λ (k : ℕ). HasPlace now (q ++ k ∷ [])) (sym z) (has_on old now kept (q ++ j ∷ []) has) in
        let P : Documents → List Operator → Type 0 = λ d o. (x : LeadsBelow d o q ahead.levels.now ahead.members.now j) → AsksAtMost now new (right_charge d o q 0 j) × FindsLed new (q ++ j ∷ []) (length x.lead.front) found in
        let Q : ℕ → Type 0 = λ k. (x : LeadsBelow (documents now) (ops_of now) q ahead.levels.now ahead.members.now k) → AsksAtMost now new (right_charge (documents now) (ops_of now) q 0 j) × FindsLed new (q ++ k ∷ []) (length x.lead.front) found in
        let mine : Q (0 + j) = λ x. f q 0 j there later x in
        let all : P (documents now) (ops_of now) = subst Q z mine in
        let got = subst (λ (o : List Operator). P (documents old) o) (ops_on old now kept) (subst (λ (d : Documents). P d (ops_of now)) kept.documents all) x in
        (asks_twice old now kept new (down_toll d o q) (right_charge d o q 0 j) (child_charge d o q j) (asks q at) got.0 (omega arith), got.1)
