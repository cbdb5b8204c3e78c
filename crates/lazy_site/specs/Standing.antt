-- Where an identifier stands in the list of the element above it: what is left of that list after it.
use Rattle.std.specs.Prelude.{◌≡◌, ◌<◌, ℕ, suc, IsTrue, MatchOption, Option, Some, None, List, [], ◌∷◌, ◌++◌, length, slice_get}
use Rattle.std.specs.List.{AllByRecursion, last_or}
use Rattle.mix_base.specs.Events.{found, without_skips}
use Rattle.mix_tree.specs.Nodes.{Documents}
use Rattle.mix_tree.specs.Place.{child_place, next_place}
use Rattle.mix_tree.specs.declared.var.Key.{Key}
use Rattle.plan_core.specs.declared.plan.Piece.{Piece}
use Rattle.plan_core.specs.declared.plan.Piece.TheVariants.{Var as var_piece}
use Rattle.plan_core.specs.ByNumber.{op_at}
use Rattle.plan_core.specs.Events.{RowEvents, first_row}
use Rattle.plan_core.specs.Plans.{Operator}
use Rattle.plan_core.specs.TolledRows.{TolledRow}
use Rattle.plan_evidence.specs.Named.{maker, Listing, of_pieces, of_group, element_list, list_of, members, outer_of}
use Rattle.plan_evidence.specs.Remains.{Remains, nothing_left, pieces_left, members_left, IsSameIn, IsAround, StandsAt}
use Rattle.plan_forms.specs.Forms.{gathers_all, gathers_groups, input_at, keys_of, pieces_of, piece_of}
use Rattle.lazy_binding.specs.World.{place_in}
use Rattle.lazy_binding.specs.declared.position.Position.{Position}
use Rattle.lazy_plan.specs.Bench.{BenchState, ops_of, documents, events_of, told, IsCursor, binding_at, ahead_at}
use Rattle.lazy_plan.specs.Groups.{group_ahead}
use Rattle.lazy_plan.specs.declared.groups.GroupFrom.{GroupFrom}
use Rattle.lazy_site.specs.Ids.{Stands, ahead_from}
use Rattle.lazy_site.specs.Origins.{IsOriginOf, IsTreeOfPiece}
use Rattle.lazy_site.specs.Ways.{IsBelow}
use Rattle.lazy_site.specs.declared.sites.Head.{Head}
use Rattle.lazy_site.specs.declared.sites.Head.TheVariants.{Whole, Built, Leaf, Text}
use Rattle.lazy_site.specs.declared.sites.Origin.{Origin}
use Rattle.lazy_site.specs.declared.sites.MembersFrom.{MembersFrom}
use Rattle.lazy_site.specs.declared.sites.PiecesFrom.{PiecesFrom}
use Rattle.lazy_site.specs.declared.sites.Rest.{Rest, End, Pieces', Members', Group'}
use Rattle.lazy_site.specs.declared.sites.Site.{Site}
use Rattle.lazy_site.specs.declared.sites.Site.TheVariants.{Root, Inside, Item}
use Rattle.lazy_site.specs.declared.sites.Turn.{Turn}
use Rattle.lazy_site.specs.declared.sites.Turn.TheVariants.{Over, At, On}
use Rattle.lazy_site.specs.declared.ways.Ways.{Ways}
use Rattle.std.specs.declared.alloc.Global.{Global}
use Rattle.std.specs.declared.rc.Rc.{Rc}
use Rattle.tree_buffer.specs.declared.spot.Spot.{Spot}

-- WHAT IS LEFT

-- what is left of a list after a node, over the bindings of cursors
abbrev pub remains : BenchState → Rest → Remains
remains st End = nothing_left
remains st (Pieces' op at next ways q up) =
    pieces_left (pieces_of (op_at (ops_of st) op)) (binding_at st (input_at (ops_of st) op) at) next (remains st up)
remains st (Members' op at q up) =
    members_left (input_at (ops_of st) op) [] (piece_of (ops_of st) op) (ahead_from st (input_at (ops_of st) op) at) (remains st up)
remains st (Group' op first number at place q up) =
    members_left (input_at (ops_of st) op) (keys_of (op_at (ops_of st) op)) (piece_of (ops_of st) op) (group_ahead st op first at) (remains st up)

-- the concatenations that are left are over cursors from which operator n's cursor c has all values
abbrev pub AreBelow : BenchState → ℕ → Position → Rest → Type 0
AreBelow st n c End = Unit {0}
AreBelow st n c (Pieces' op at next ways q up) = IsBelow st n c (input_at (ops_of st) op) at × AreBelow st n c up
AreBelow st n c (Members' op at q up) = AreBelow st n c up
AreBelow st n c (Group' op first number at place q up) = AreBelow st n c up

module _ (docs : Documents) (ops : List Operator) (here : TolledRow) where
  -- some bindings of a group are before those that these events give, which are the others
  abbrev pub AreBefore : ℕ → List Key → RowEvents → List TolledRow → Type 0
  AreBefore input keys ahead before = members docs ops input keys here ≡ before ++ without_skips ahead

  -- what is left of a list over a binding, after some of its trees
  pub data IsLeftOf : Listing → Remains → Type 0 where
    all_gone : {list : Listing} → IsLeftOf list nothing_left
    some_pieces : {list : Listing} {around : Remains} {pieces : List Piece} {row : TolledRow} {next : ℕ} → IsAround docs ops here list around (of_pieces pieces)
        → AllByRecursion (IsSameIn here row) pieces → IsLeftOf list (pieces_left pieces row next around)
    some_members : {list : Listing} {around : Remains} {input : ℕ} {keys : List Key} {piece : Piece} {ahead : RowEvents}
        → IsAround docs ops here list around (of_group input keys piece) → (before : List TolledRow) → AreBefore input keys ahead before
        → IsLeftOf list (members_left input keys piece ahead around)

  -- the value of a variable comes next in a list, before what is left of it: it is the whole list, or one of its pieces
  pub data ComesNext : Listing → Remains → ℕ → Type 0 where
    the_whole : {list : Listing} {v : ℕ} → list_of ops v ≡ Some list → ComesNext list nothing_left v
    a_variable : {list : Listing} {around : Remains} {pieces : List Piece} {row : TolledRow} {n v : ℕ} → IsAround docs ops here list around (of_pieces pieces)
        → AllByRecursion (IsSameIn here row) pieces → slice_get pieces n ≡ Some (var_piece v) → ComesNext list (pieces_left pieces row (suc n) around) v

-- WHERE AN IDENTIFIER STANDS

-- a cursor of operator n, whose binding is among the operator's where the sources are told
pub record IsHolder (st : BenchState) (n : ℕ) (c : Position) : Type 0 where
  pub within : n < length (ops_of st)
  pub cursor : IsCursor st n c
  pub among : IsTrue (told st) → (i : ℕ) × (slice_get (without_skips (events_of st n)) i ≡ Some (binding_at st n c))

-- what comes after a node is left of a list over the binding of operator n's cursor c
pub record IsLeftIn (st : BenchState) (n : ℕ) (c : Position) (list : Listing) (r : Rest) : Type 0 where
  pub below : AreBelow st n c r
  pub left : IsTrue (told st) → IsLeftOf (documents st) (ops_of st) (binding_at st n c) list (remains st r)

-- the operator over whose binding the node is made that stands before what is left, in a list over a binding of operator n: a member's, or that of the list
abbrev pub hand_op : BenchState → ℕ → Rest → ℕ
hand_op st n End = n
hand_op st n (Pieces' op at next ways q up) = n
hand_op st n (Members' op at q up) = input_at (ops_of st) op
hand_op st n (Group' op first number at place q up) = input_at (ops_of st) op

-- the cursor over whose binding the node is made that stands before what is left, in a list over the binding of cursor c: a member's, or that of the list
abbrev pub hand_at : Position → Rest → Position
hand_at c End = c
hand_at c (Pieces' op at next ways q up) = c
hand_at c (Members' op None q up) = c
hand_at c (Members' op (Some d) q up) = d
hand_at c (Group' op first number at place q up) = at

-- a node is the tree of a piece that stands in a list over the binding of operator n's cursor c, before what is left of it
pub record IsStanding (st : BenchState) (n : ℕ) (c : Position) (list : Listing) (head : Head) (r : Rest) : Type 0 where
  pub piece : Piece
  pub tree : IsTreeOfPiece st (hand_op st n r) (hand_at c r) piece head
  pub stands : StandsAt (documents st) (ops_of st) (binding_at st n c) list (remains st r) (binding_at st (hand_op st n r) (hand_at c r)) piece

-- a node stands in a list over the binding of operator n's cursor c, before what is left of it
pub record StandsIn (st : BenchState) (n : ℕ) (c : Position) (list : Listing) (head : Head) (r : Rest) : Type 0 where
  pub below : AreBelow st n c r
  pub standing : IsTrue (told st) → IsStanding st n c list head r

-- an identifier stands in a list over the binding of operator n's cursor c
abbrev pub SiteStandsIn : BenchState → ℕ → Position → Listing → Site → Type 0
SiteStandsIn st n c list Root = ⊥
SiteStandsIn st n c list (Inside s p) = ⊥
SiteStandsIn st n c list (Item head rest) = StandsIn st n c list head rest.value

-- what a turn over a list comes to is of that list: nothing, an identifier that stands in it, or what is left of it
abbrev pub TurnIsIn : BenchState → ℕ → Position → Listing → Turn → Type 0
TurnIsIn st n c list Over = Unit {0}
TurnIsIn st n c list (At site) = SiteStandsIn st n c list site
TurnIsIn st n c list (On r) = IsLeftIn st n c list r.value

-- a turn that enters a variable's value is of each list in which the value comes next
abbrev pub EntersList : BenchState → Origin → Rest → Turn → Type 0
EntersList st o r t =
    (n : ℕ) (c : Position) (v : ℕ) (list : Listing) → IsHolder st n c → IsOriginOf st n c v o → AreBelow st n c r
    → (IsTrue (told st) → ComesNext (documents st) (ops_of st) (binding_at st n c) list (remains st r) v) → TurnIsIn st n c list t

-- an identifier at a member of a group stands in each list in which the member does, before the others and the rest after them
abbrev pub GroupStandsIn : BenchState → GroupFrom → Rest → Site → Type 0
GroupStandsIn st g up site =
    Stands st g.op gathers_groups g.at.now → (n : ℕ) (c : Position) (list : Listing) → AreBelow st n c up
    → (IsTrue (told st) → let input = input_at (ops_of st) g.op in let piece = piece_of (ops_of st) g.op in
    let keys = keys_of (op_at (ops_of st) g.op) in let ahead = group_ahead st g.op g.first.now g.at.now in
    StandsAt (documents st) (ops_of st) (binding_at st n c) list (members_left input keys piece ahead (remains st up)) (binding_at st input g.at.now) piece)
    → SiteStandsIn st n c list site

-- an identifier at a member of a list of all bindings stands in each list in which the member does, before the others and the rest after them
abbrev pub MemberStandsIn : BenchState → ℕ → Position → Rest → Site → Type 0
MemberStandsIn st op at up site =
    Stands st op gathers_all at → (n : ℕ) (c : Position) (list : Listing) → AreBelow st n c up
    → (IsTrue (told st) → let input = input_at (ops_of st) op in let piece = piece_of (ops_of st) op in
    let left = members_left input [] piece (ahead_at st input at) (remains st up) in
    StandsAt (documents st) (ops_of st) (binding_at st n c) list left (binding_at st input at) piece)
    → SiteStandsIn st n c list site

-- a turn over the pieces of a concatenation is of each list of which they are left
abbrev pub PiecesTurnIn : BenchState → PiecesFrom → Ways → Rest → Turn → Type 0
PiecesTurnIn st p ways up t =
    (n : ℕ) (c : Position) (list : Listing) (q : Rc (Unit {0}) Global) → IsHolder st n c → IsLeftIn st n c list (Pieces' p.op p.at.now p.next ways q up)
    → TurnIsIn st n c list t

-- from one state to another, a turn over a rest is of each list of which the rest is left
abbrev pub RestTurnsIn : BenchState → BenchState → Rest → Turn → Type 0
RestTurnsIn old new r t = (n : ℕ) (c : Position) (list : Listing) → IsHolder old n c → IsLeftIn old n c list r → TurnIsIn new n c list t

-- a turn over the members of a list of all bindings is of each list of which they are left
abbrev pub MembersTurnIn : BenchState → BenchState → MembersFrom → Rest → Turn → Type 0
MembersTurnIn old new l up t = (q : Rc (Unit {0}) Global) → RestTurnsIn old new (Members' l.op l.at.now q up) t

-- a turn over the members of a group is of each list of which they are left
abbrev pub GroupTurnsIn : BenchState → BenchState → GroupFrom → Rest → Turn → Type 0
GroupTurnsIn old new g up t = (q : Rc (Unit {0}) Global) → RestTurnsIn old new (Group' g.op g.first.now g.number g.at.now g.place q up) t

-- from one state to another, a rest is left of each list of which another is left
abbrev pub StaysLeft : BenchState → BenchState → Rest → Rest → Type 0
StaysLeft old new r s =
    (n : ℕ) (c : Position) (list : Listing) → IsHolder old n c → IsLeftIn old n c list r → IsHolder new n c × IsLeftIn new n c list s

-- from one state to another, the identifier that is reached, if one is, stands in each list of which a rest is left
abbrev pub ReachesIn : BenchState → BenchState → Rest → Option Site → Type 0
ReachesIn old new r x =
    MatchOption x (Unit {0}) (λ site. (n : ℕ) (c : Position) (list : Listing) → IsHolder old n c → IsLeftIn old n c list r → SiteStandsIn new n c list site)

-- from one state to another, the first child of an element that operator op makes over a cursor, if it has one, stands in the element's list, over each binding
-- that has all that the element is made of
abbrev pub ChildStandsIn : BenchState → BenchState → ℕ → Position → Option Site → Type 0
ChildStandsIn old new op at x =
    MatchOption x (Unit {0}) (λ site. (n : ℕ) (c : Position) (u : ℕ) (list : Listing) → IsHolder old n c → IsBelow old n c (input_at (ops_of old) op) at
    → pieces_of (op_at (ops_of old) op) ≡ var_piece u ∷ [] → list_of (ops_of old) u ≡ Some list → SiteStandsIn new n c list site)

-- an identifier stands at this place of source s
abbrev pub StandsInSource : BenchState → ℕ → Option (List ℕ) → Site → Type 0
StandsInSource st s there Root = ⊥
StandsInSource st s there (Inside t x) = (t ≡ s) × (Some (place_in st.world s x) ≡ there)
StandsInSource st s there (Item head rest) = ⊥

-- from one state to another, the first child of a source's node, if it has one, stands at the place of the first child in the source
abbrev pub SpotChildIn : BenchState → BenchState → ℕ → Spot → Option Site → Type 0
SpotChildIn old new s p x = MatchOption x (Unit {0}) (StandsInSource new s (Some (child_place (place_in old.world s p))))

-- from one state to another, the next sibling of a source's node, if it has one, stands at the next place in the source
abbrev pub SpotNextIn : BenchState → BenchState → ℕ → Spot → Option Site → Type 0
SpotNextIn old new s p x = MatchOption x (Unit {0}) (StandsInSource new s (next_place (place_in old.world s p)))

-- from one state to another, the first child of a node that is an element stands in the element's list, and that of a source's node in the source
abbrev pub HeadChildIn : BenchState → BenchState → Head → Option Site → Type 0
HeadChildIn old new (Whole s p) x = SpotChildIn old new s p x
HeadChildIn old new (Built op at) x = ChildStandsIn old new op at x
HeadChildIn old new (Leaf s p) x = Unit {0}
HeadChildIn old new (Text op index) x = Unit {0}

-- an identifier stands in the list of the outer element, over the first binding of the last operator's input
pub record IsInOuter (st : BenchState) (site : Site) : Type 0 where
  pub input : ℕ
  pub outer : ℕ
  pub at : Position
  pub is_outer : outer_of (last_or None (ops_of st)) ≡ Some (input, outer)
  pub holder : IsHolder st input at
  pub row : IsTrue (told st) → binding_at st input at ≡ first_row (found (events_of st input))
  pub stands : (u : ℕ) (list : Listing) → element_list (maker (ops_of st) outer) ≡ Some u → list_of (ops_of st) u ≡ Some list → SiteStandsIn st input at list site

-- the first child of the root, if it has one, stands in the list of the outer element
abbrev pub RootChildIn : BenchState → Option Site → Type 0
RootChildIn st x = MatchOption x (Unit {0}) (IsInOuter st)

-- from one state to another, the first child of a node that the plan makes stands in the list of that element, and that of a source's node in the source
abbrev pub SiteChildIn : BenchState → BenchState → Site → Option Site → Type 0
SiteChildIn old new Root x = RootChildIn new x
SiteChildIn old new (Inside s p) x = SpotChildIn old new s p x
SiteChildIn old new (Item head rest) x = HeadChildIn old new head x

-- from one state to another, the next sibling of a member of a list that the plan makes stands in each list of which the rest after it is left, and that of a
-- source's node in the source
abbrev pub SiteNextIn : BenchState → BenchState → Site → Option Site → Type 0
SiteNextIn old new Root x = Unit {0}
SiteNextIn old new (Inside s p) x = SpotNextIn old new s p x
SiteNextIn old new (Item head rest) x = ReachesIn old new rest.value x
