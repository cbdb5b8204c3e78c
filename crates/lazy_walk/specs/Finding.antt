-- What steps from a node along levels and places come to, and what they may cost.
use Rattle.std.specs.Prelude.{◌≡◌, ◌+◌, ◌<◌, ◌≤◌, ◌++◌, ℕ, zero, suc, IsTrue, Option, Some, None, MatchOption, List, [], ◌∷◌, Result, IfOk, length, option_and_then}
use Rattle.std.specs.List.{last_or}
use Rattle.mix_tree.specs.Nodes.{Documents}
use Rattle.node_text.specs.Node.{LevelValue, NodeValue}
use Rattle.lxp_core.specs.View.{View}
use Rattle.lxp_core.specs.declared.fault.WalkFault.{WalkFault}
use Rattle.plan_core.specs.declared.plan.Piece.{Piece}
use Rattle.plan_core.specs.declared.plan.Piece.TheVariants.{Var as var_piece}
use Rattle.plan_core.specs.Plans.{Operator}
use Rattle.plan_evidence.specs.Named.{maker, element_list, list_of, outer_of, IsOuter, Listing, Names, Reached}
use Rattle.plan_evidence.specs.Opened.{Enters}
use Rattle.lazy_follow.specs.declared.evidence.Evidence.{Evidence}
use Rattle.lazy_follow.specs.Following.{list_in}
use Rattle.lazy_plan.specs.Bench.{BenchState, ops_of, documents, told, AsksAtMost}
use Rattle.lazy_steps.specs.Steps.{HasCause}
use Rattle.lazy_site.specs.Heights.{site_height}
use Rattle.lazy_site.specs.declared.sites.Site.TheVariants.{Root}
use Rattle.lazy_walk.specs.declared.finding.Led.{Led}
use Rattle.lazy_walk.specs.declared.finding.LevelsAhead.{LevelsAhead}
use Rattle.lazy_walk.specs.declared.ids.WalkedNode.{WalkedNode}
use Rattle.lazy_walk.specs.declared.stage.Passed.{Passed}
use Rattle.lazy_walk.specs.declared.stage.Stage.{Stage}
use Rattle.lazy_walk.specs.Leading.{AreOfChosen, Lead}
use Rattle.lazy_walk.specs.Stages.{IsStage, NamesNoneBetween, part_of, size_of, whole_size}
use Rattle.lazy_walk.specs.declared.walk.Walk.{Walk}
use Rattle.lazy_walk.specs.Walks.{state_of, node_height, HasLower, HasNoHigher, HasWalked}
use Rattle.lazy_walk.specs.Places.{IsNode, GivesNode, IsAt, HasPlace, down_toll, right_toll}

-- WHAT A WALK COSTS

module _ (docs : Documents) (ops : List Operator) where
  -- what so many steps to the right cost from the child at an index of the node at a place
  abbrev pub right_charge : List ℕ → ℕ → ℕ → ℕ
  right_charge q i zero = 0
  right_charge q i (suc more) = right_toll docs ops (q ++ i ∷ []) + right_charge q (suc i) more

  -- what the steps cost that lead from the node at a place to its child at an index
  abbrev pub child_charge : List ℕ → ℕ → ℕ
  child_charge q i = down_toll docs ops q + right_charge q 0 i

  -- what the steps cost that lead from the node at a place to the one at a place below it
  abbrev pub charge_below : List ℕ → List ℕ → ℕ
  charge_below q [] = 0
  charge_below q (k ∷ p) = child_charge q k + charge_below (q ++ k ∷ []) p

  -- the walk charge of a place: what the steps down and to the right cost that lead there from the root
  abbrev pub walk_charge : List ℕ → ℕ
  walk_charge p = charge_below [] p

  -- the element at a place has a list that is made so, over the binding at hand: the outer element, or one to which levels lead in the list of an element
  pub data HasListAt : List ℕ → Reached → Listing → Type 0 where
    of_outer : {here : Reached} {list : Listing} → IsOuter docs ops here list → HasListAt [] here list
    of_inner : {here there : Reached} {list inner : Listing} {q : List ℕ} {ls : List LevelValue} {j v u : ℕ} → HasListAt q here list → Enters docs ops here list ls j there (var_piece v)
        → element_list (maker ops v) ≡ Some u → list_of ops u ≡ Some inner → HasListAt (q ++ j ∷ []) there inner

  -- the first of the levels that are ahead of the element at a place lead to its child at an index
  pub record LeadsBelow (q : List ℕ) (levels : List LevelValue) (members : List (Option Evidence)) (j : ℕ) : Type 0 where
    pub here : Reached
    pub there : Reached
    pub list : Listing
    pub piece : Piece
    pub is_list : HasListAt q here list
    pub chosen : AreOfChosen ops (Some list) levels members
    pub lead : Lead docs ops here list levels j there piece

-- the list of the outer element, as a plan makes it
abbrev pub outer_listing : List Operator → Option Listing
outer_listing ops = option_and_then (λ o. list_in ops (var_piece o.1)) (outer_of (last_or None ops))

-- WHAT IS FOUND

-- a number above the heights of all identifiers, which is that of the root
abbrev pub root_height : BenchState → ℕ
root_height st = site_height st Root

-- a call answers no node, or an identifier of the walk and how many levels lead to it
abbrev pub GivesLed : BenchState → ℕ → Option Led → Type 0
GivesLed st most r = MatchOption r (Unit {0}) (λ led. IsNode st led.node × (0 < led.count) × (led.count ≤ most))

-- the height of the node to which levels lead, where one was found, is not above this
abbrev pub LedNoHigher : ℕ → BenchState → Option Led → Type 0
LedNoHigher height st r = MatchOption r (Unit {0}) (λ led. node_height st led.node ≤ height)

-- the height of the node to which levels lead, where one was found, is below this
abbrev pub LedLower : ℕ → BenchState → Option Led → Type 0
LedLower height st r = MatchOption r (Unit {0}) (λ led. node_height st led.node < height)

-- what steps of a walk leave, one after another, and what they come to
pub record Steps {S T : Type 0} (view : S → View) (came_from : S → S → Type 0) (s : S) (m : Walk) (s' : S) (m' : Walk) (gives : BenchState → BenchState → Result T WalkFault → Type 0)
    (result : Result T WalkFault) : Type 0 where
  pub walked : HasWalked view came_from s m s' m'
  pub cause : HasCause (ops_of (state_of (view s) m)) (view s) (view s') result
  pub found : gives (state_of (view s) m) (state_of (view s') m') result

-- a call answers an identifier that stands at a place
abbrev pub FindsNode : BenchState → List ℕ → Result (Option WalkedNode) WalkFault → Type 0
FindsNode st p result = IfOk result (λ r. MatchOption r ⊥ (λ n. IsAt st n p))

-- a call answers an identifier that stands at a place, and that so many levels lead there
abbrev pub FindsLed : BenchState → List ℕ → ℕ → Result (Option Led) WalkFault → Type 0
FindsLed st p count result = IfOk result (λ r. MatchOption r ⊥ (λ led. IsAt st led.node p × (led.count ≡ count)))

-- over told sources, where the first of the levels that are ahead lead to a child of a node's element, a call answers that the node isn't that child, or that it is,
-- and how many of the levels lead there
abbrev pub LeadsToNode : BenchState → WalkedNode → LevelsAhead → Option ℕ → Type 0
LeadsToNode st n ahead r =
    (q : List ℕ) (i j : ℕ) → IsAt st n (q ++ i ∷ []) → (x : LeadsBelow (documents st) (ops_of st) q ahead.levels.now ahead.members.now j)
    → MatchOption r (i ≡ j → ⊥) (λ count. (i ≡ j) × (count ≡ length x.lead.front))

-- over told sources, where levels that are ahead lead to a sibling so many places to the right of a node, that is found by what the steps there cost
abbrev pub FindsRight : BenchState → BenchState → WalkedNode → LevelsAhead → Result (Option Led) WalkFault → Type 0
FindsRight old new first ahead result =
    (q : List ℕ) (i more : ℕ) → IsAt old first (q ++ i ∷ []) → HasPlace old (q ++ (i + more) ∷ [])
    → (x : LeadsBelow (documents old) (ops_of old) q ahead.levels.now ahead.members.now (i + more))
    → AsksAtMost old new (right_charge (documents old) (ops_of old) q i more) × FindsLed new (q ++ (i + more) ∷ []) (length x.lead.front) result

-- over told sources, where levels that are ahead lead to a child of a node, that is found by what the steps to it cost
abbrev pub FindsChild : BenchState → BenchState → WalkedNode → LevelsAhead → Result (Option Led) WalkFault → Type 0
FindsChild old new n ahead result =
    (q : List ℕ) (j : ℕ) → IsAt old n q → HasPlace old (q ++ j ∷ []) → (x : LeadsBelow (documents old) (ops_of old) q ahead.levels.now ahead.members.now j)
    → AsksAtMost old new (child_charge (documents old) (ops_of old) q j) × FindsLed new (q ++ j ∷ []) (length x.lead.front) result

-- over told sources the sibling that is so many places to the right of a node is found by what the steps to it cost
abbrev pub FindsSibling : BenchState → BenchState → WalkedNode → ℕ → Result (Option WalkedNode) WalkFault → Type 0
FindsSibling old new first more result =
    (q : List ℕ) (i : ℕ) → IsAt old first (q ++ i ∷ []) → HasPlace old (q ++ (i + more) ∷ [])
    → AsksAtMost old new (right_charge (documents old) (ops_of old) q i more) × FindsNode new (q ++ (i + more) ∷ []) result

-- over told sources the node at a place below a node is found by what the steps to it cost
abbrev pub FindsBelow : BenchState → BenchState → WalkedNode → List ℕ → Result (Option WalkedNode) WalkFault → Type 0
FindsBelow old new n path result =
    (q : List ℕ) → IsAt old n q → HasPlace old (q ++ path)
    → AsksAtMost old new (charge_below (documents old) (ops_of old) q path) × FindsNode new (q ++ path) result

-- a node on the way of a text was found below another, and more of the text leads to it
pub record IsFurther (old new : BenchState) (n : WalkedNode) (d : NodeValue) (from : Stage) (x : Passed) : Type 0 where
  pub node : IsNode new x.node
  pub lower : node_height new x.node < node_height old n
  pub stage : IsStage d x.stage
  pub more : size_of from < size_of x.stage

-- a call answers no node, or one that is further on the way of a text
abbrev pub GivesFurther : BenchState → BenchState → WalkedNode → NodeValue → Stage → Option Passed → Type 0
GivesFurther old new n d from r = MatchOption r (Unit {0}) (IsFurther old new n d from)

-- a node on the way of a text stands at the place that the part of the text names which leads to it, and no smaller part names a node behind the one it was
-- found from
pub record IsNextNamed (old new : BenchState) (d : NodeValue) (from : Stage) (place : List ℕ) (x : Passed) : Type 0 where
  pub at : IsAt new x.node place
  pub names : Names (documents old) (ops_of old) (part_of d x.stage) place
  pub next : NamesNoneBetween (documents old) (ops_of old) d from x.stage

-- from the node at place q to which a part of a text leads, the next one on the way to place p is found by what the steps to it cost
pub record LeadsFurther (old new : BenchState) (d : NodeValue) (from : Stage) (q p : List ℕ) (result : Result (Option Passed) WalkFault) : Type 0 where
  pub index : ℕ
  pub rest : List ℕ
  pub is : p ≡ q ++ index ∷ rest
  pub asks : AsksAtMost old new (child_charge (documents old) (ops_of old) q index)
  pub finds : IfOk result (λ r. MatchOption r ⊥ (IsNextNamed old new d from (q ++ index ∷ [])))

-- over told sources, where a part of a text names the node at which an identifier stands, and the whole text, of which more is ahead, names another, a call
-- finds the next node on the way
abbrev pub GoesOnTo : BenchState → BenchState → WalkedNode → NodeValue → Stage → Result (Option Passed) WalkFault → Type 0
GoesOnTo old new n d from result =
    (q p : List ℕ) → IsAt old n q → Names (documents old) (ops_of old) (part_of d from) q → Names (documents old) (ops_of old) d p → size_of from < whole_size d
    → LeadsFurther old new d from q p result

-- WHAT CALLS COME TO

-- what a search for the node to which levels lead comes to, among a node and its later siblings
abbrev pub SiblingLed : WalkedNode → LevelsAhead → BenchState → BenchState → Result (Option Led) WalkFault → Type 0
SiblingLed first ahead old new r =
    IfOk r (λ x. GivesLed new (length ahead.levels.now) x × LedNoHigher (node_height old first) new x) × (IsTrue (told old) → FindsRight old new first ahead r)

-- what a search for the node to which levels lead comes to, among the children of a node
abbrev pub ChildLed : WalkedNode → LevelsAhead → BenchState → BenchState → Result (Option Led) WalkFault → Type 0
ChildLed n ahead old new r =
    IfOk r (λ x. GivesLed new (length ahead.levels.now) x × LedLower (node_height old n) new x) × (IsTrue (told old) → FindsChild old new n ahead r)

-- what so many steps to the right of a node come to
abbrev pub SiblingAt : WalkedNode → ℕ → BenchState → BenchState → Result (Option WalkedNode) WalkFault → Type 0
SiblingAt first more old new r = IfOk r (λ x. GivesNode new x × HasNoHigher (node_height old first) new x) × (IsTrue (told old) → FindsSibling old new first more r)

-- what the steps to a node's child at an index come to
abbrev pub ChildAt : WalkedNode → ℕ → BenchState → BenchState → Result (Option WalkedNode) WalkFault → Type 0
ChildAt n index old new r = IfOk r (λ x. GivesNode new x × HasLower (node_height old n) new x) × (IsTrue (told old) → FindsBelow old new n (index ∷ []) r)
