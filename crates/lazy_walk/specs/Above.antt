-- What is above an identifier: what is left of the lists in which the elements above it stand, and the place to which these lists lead.
use Rattle.std.specs.Prelude.{◌≡◌, ◌<◌, ℕ, Option, Some, None, MatchOption, List, [], ◌∷◌, ◌++◌, drop, length}
use Rattle.std.specs.declared.alloc.Global.{Global}
use Rattle.std.specs.declared.rc.Rc.{Rc}
use Rattle.node_text.specs.Node.{LevelValue}
use Rattle.tree_buffer.specs.declared.spot.Spot.{Spot}
use Rattle.plan_core.specs.Events.{tolled_document}
use Rattle.plan_core.specs.Tolled.{trees_below, tolled_at}
use Rattle.plan_evidence.specs.Named.{Listing}
use Rattle.plan_evidence.specs.Remains.{IsIndex}
use Rattle.lazy_binding.specs.World.{place_in}
use Rattle.lazy_binding.specs.declared.position.Position.{Position}
use Rattle.lazy_plan.specs.Bench.{BenchState, ops_of, documents, binding_at, IsSpotAt}
use Rattle.lazy_site.specs.Ids.{head_trees, IsRest}
use Rattle.lazy_site.specs.Levels.{said_levels, IsOpen}
use Rattle.lazy_site.specs.Standing.{remains, AreBelow, IsStanding}
use Rattle.lazy_walk.specs.declared.ids.Above.{Above, Outer, Inner'}
use Rattle.lazy_site.specs.declared.sites.Head.{Head}
use Rattle.lazy_site.specs.declared.sites.Head.TheVariants.{Whole, Built, Leaf, Text}
use Rattle.lazy_walk.specs.declared.ids.WalkedNode.{WalkedNode}
use Rattle.lazy_site.specs.declared.sites.Rest.{Rest}
use Rattle.lazy_site.specs.declared.sites.Site.{Site}
use Rattle.lazy_site.specs.declared.sites.Site.TheVariants.{Root, Inside, Item}

-- WHAT IS KEPT

-- what is after each element above a node, the innermost first
abbrev pub rests : Above → List Rest
rests (Outer rest top) = rest.value ∷ []
rests (Inner' rest top q up) = rest.value ∷ rests up

-- the spot of the top of a source's subtree, where a node lies inside one
abbrev pub top_in : Above → Option Spot
top_in (Outer rest top) = top
top_in (Inner' rest top q up) = top

-- what is after each element above a node; nothing is above a node of which nothing is kept
abbrev pub rests_above : Option (Rc Above Global) → List Rest
rests_above None = []
rests_above (Some a) = rests a.value

-- the spot of the top of a node's subtree in a source, if one is kept
abbrev pub top_above : Option (Rc Above Global) → Option Spot
top_above None = None
top_above (Some a) = top_in a.value

-- the spot of a source's node with all below it
abbrev pub top_of : Head → Option Spot
top_of (Whole s p) = Some p
top_of (Built op at) = None
top_of (Leaf s p) = None
top_of (Text op index) = None

-- what is after each element above the children of a node, with these rests above it
abbrev pub rests_with : Site → List Rest → List Rest
rests_with Root above = []
rests_with (Inside s p) above = above
rests_with (Item head rest) above = rest.value ∷ above

-- the spot of the top of the subtree in a source in which the children of a node lie, which itself lies in one with this top
abbrev pub top_with : Site → Option Spot → Option Spot
top_with Root top = None
top_with (Inside s p) top = top
top_with (Item head rest) top = top_of head

-- what is after each element above the children of an identifier's node
abbrev pub rests_below : WalkedNode → List Rest
rests_below n = rests_with n.site (rests_above n.above)

-- the spot of the top of the subtree in a source in which the children of an identifier's node lie
abbrev pub top_below : WalkedNode → Option Spot
top_below n = top_with n.site (top_above n.above)

-- the spot of a top that is kept is one of the source in which a node lies; of a node in no source none is kept
abbrev pub HasTop : BenchState → Site → Option Spot → Type 0
HasTop st Root top = top ≡ None
HasTop st (Inside s x) top = MatchOption top (Unit {0}) (IsSpotAt st s)
HasTop st (Item head rest) top = top ≡ None

-- WHERE AN IDENTIFIER STANDS

-- a node stands at place p: at an index of the list of the element at the place above, before a rest, where that list is open
pub record IsItemAt (st : BenchState) (above : List Rest) (head : Head) (r : Rest) (p : List ℕ) : Type 0 where
  pub element : List ℕ
  pub index : ℕ
  pub place : p ≡ element ++ index ∷ []
  pub op : ℕ
  pub at : Position
  pub var : ℕ
  pub list : Listing
  pub is_open : IsOpen st above element op at var list
  pub rest : IsRest st r
  pub is_below : AreBelow st op at r
  pub stands : IsStanding st op at list head r
  pub is_index : IsIndex (documents st) (binding_at st op at) var (remains st r) index

-- a node of source s stands at place p, below the top of a subtree that stands at a place above
pub record IsInsideAt (st : BenchState) (s : ℕ) (x : Spot) (above : List Rest) (top : Option Spot) (p : List ℕ) : Type 0 where
  pub spot : Spot
  pub is_top : top ≡ Some spot
  pub known : IsSpotAt st s spot
  pub rest : Rest
  pub outer : List Rest
  pub is_above : above ≡ rest ∷ outer
  pub start : List ℕ
  pub way : List ℕ
  pub place : p ≡ start ++ way
  pub some : 0 < length way
  pub is_below : place_in st.world s x ≡ place_in st.world s spot ++ way
  pub item : IsItemAt st outer (Whole s spot) rest start
  pub kids : trees_below (tolled_at (tolled_document (documents st) (ops_of st)) start) ≡ head_trees st (Whole s spot)

-- what is kept above an identifier leads to place p of the plan's document
abbrev pub IsLedTo : BenchState → Site → List Rest → Option Spot → List ℕ → Type 0
IsLedTo st Root above top p = p ≡ []
IsLedTo st (Inside s x) above top p = IsInsideAt st s x above top p
IsLedTo st (Item head rest) above top p = IsItemAt st above head rest.value p

-- WHAT A TEXT SAYS

-- the levels to a node with these rests above it, or to the top of the subtree of a source in which it lies
abbrev pub levels_with : BenchState → Site → List Rest → List LevelValue
levels_with st Root above = []
levels_with st (Inside s x) above = said_levels st above
levels_with st (Item head rest) above = said_levels st (rest.value ∷ above)

-- the place of a spot of source s, counted from another one above it, where there is one
abbrev pub place_from : BenchState → ℕ → Spot → Option Spot → List ℕ
place_from st s x None = []
place_from st s x (Some top) = drop (length (place_in st.world s top)) (place_in st.world s x)

-- the place of a node below the top of the subtree of a source in which it lies
abbrev pub inside_with : BenchState → Site → Option Spot → List ℕ
inside_with st Root top = []
inside_with st (Inside s x) top = place_from st s x top
inside_with st (Item head rest) top = []

-- the levels to an identifier's node, or to the top of the subtree of a source in which it lies
abbrev pub node_levels : BenchState → WalkedNode → List LevelValue
node_levels st n = levels_with st n.site (rests_above n.above)

-- the place of an identifier's node below the top of the subtree of a source in which it lies
abbrev pub node_inside : BenchState → WalkedNode → List ℕ
node_inside st n = inside_with st n.site (top_above n.above)
