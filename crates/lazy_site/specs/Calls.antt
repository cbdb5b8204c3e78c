-- What contracts say of the states of a bench, each state named once.
use Rattle.std.specs.Prelude.{◌≡◌, ℕ, suc, ◌+◌, ◌-◌, ◌<◌, ◌≤◌, length, Option, Some, MatchOption}
use Rattle.mix_base.specs.Events.{cost}
use Rattle.mix_tree.specs.Forest.{first_kids, after_first}
use Rattle.lxp_core.specs.View.{View}
use Rattle.plan_core.specs.ByNumber.{op_at}
use Rattle.plan_core.specs.Events.{RowEvents}
use Rattle.plan_core.specs.Tolled.{Tolled, toll, charged}
use Rattle.plan_core.specs.TolledRows.{value_trees}
use Rattle.lazy_plan.specs.declared.bench.Bench.{Bench}
use Rattle.lazy_plan.specs.declared.groups.GroupFrom.{GroupFrom}
use Rattle.lazy_plan.specs.Groups.{IsGroup}
use Rattle.lazy_binding.specs.declared.position.Position.{Position}
use Rattle.lazy_plan.specs.Bench.{BenchState, state_of, IsBenchOf, ops_of, documents, size_of, number_at, trees_at_spot, GivesFirst}
use Rattle.plan_forms.specs.Forms.{makes_list, gathers_all, gathers_groups, input_at, pieces_of}
use Rattle.lazy_site.specs.Ids.{Stands, IsOrigin, value_of, IsRest, rest_trees, weight, left, site_left, pieces_size, pieces_extent, pieces_trees, member_trees, members_trees, group_trees, ahead_from, number_from}
use Rattle.lazy_site.specs.Origins.{origin_size, origin_extent}
use Rattle.lazy_site.specs.Steps.{Walked, StandsFor, Turns, Falls}
use Rattle.lazy_site.specs.declared.sites.MembersFrom.{MembersFrom}
use Rattle.lazy_site.specs.declared.sites.Origin.{Origin}
use Rattle.lazy_site.specs.declared.sites.PiecesFrom.{PiecesFrom}
use Rattle.lazy_site.specs.declared.sites.Rest.{Rest, Pieces'}
use Rattle.lazy_site.specs.declared.sites.Site.{Site}
use Rattle.lazy_site.specs.declared.sites.Turn.{Turn}
use Rattle.lazy_site.specs.declared.ways.Ways.{Ways}
use Rattle.lazy_site.specs.Ways.{IsWays}
use Rattle.std.specs.declared.rc.Rc.{Rc}
use Rattle.std.specs.declared.alloc.Global.{Global}
use Rattle.tree_buffer.specs.declared.spot.Spot.{Spot}

-- STATES

-- a relation of the states of a bench before and after a call
abbrev pub Between : {S : Type 0} → (S → View) → S → Bench → S → Bench → (BenchState → BenchState → Type 0) → Type 0
Between view s b s' b' P = P (state_of (view s) b) (state_of (view s') b')

-- a property of each state that a bench may be in, whatever its sources mean
abbrev pub InEach : Bench → (BenchState → Type 0) → Type 0
InEach b P = (view : View) → IsBenchOf view b → P (state_of view b)

-- a property of a state that a bench may be in
abbrev pub InSome : Bench → (BenchState → Type 0) → Type 0
InSome b P = (view : View) × IsBenchOf view b × P (state_of view b)

-- what a call leaves that asks at most the toll of these trees
abbrev pub WalkedTo : {S : Type 0} → (S → View) → (S → S → Type 0) → S → Bench → S → Bench → (BenchState → Tolled) → Type 0
WalkedTo view came_from s b s' b' f = Walked view came_from s b s' b' (toll (f (state_of (view s) b)))

-- what a call leaves that asks at most the cost of these events
abbrev pub WalkedOver : {S : Type 0} → (S → View) → (S → S → Type 0) → S → Bench → S → Bench → (BenchState → RowEvents) → Type 0
WalkedOver view came_from s b s' b' es = Walked view came_from s b s' b' (cost (es (state_of (view s) b)))

-- fewer trees than this come after the node that was found, where one was
abbrev pub HasFewer : ℕ → BenchState → Option Site → Type 0
HasFewer w st r = MatchOption r (Unit {0}) (λ n. site_left st n < w)

-- the trees below a source's node, each with the tolls of a source
abbrev pub kids_of_spot : BenchState → ℕ → Spot → Tolled
kids_of_spot st s p = charged (first_kids (trees_at_spot st s p))

-- the trees after a source's node, each with the tolls of a source
abbrev pub after_spot : BenchState → ℕ → Spot → Tolled
after_spot st s p = charged (after_first (trees_at_spot st s p))

-- VALUES AND PIECES

-- what a turn that enters the value of an origin comes to, with this rest after it
abbrev pub Enters : BenchState → Origin → Rest → Turn → Type 0
Enters st o r t =
    IsOrigin st o → IsRest st r → Turns st st (value_trees (documents st) (value_of st o) (rest_trees st r)) (suc (origin_size st o + weight st r)) t

-- how many trees are left after a turn that enters the value of an origin, with this rest after it
abbrev pub EnteringFalls : BenchState → Origin → Rest → Turn → Type 0
EnteringFalls st o r t = IsOrigin st o → IsRest st r → Falls (origin_extent st o + left st r) st t

-- there is a concatenation from one of its pieces on, ways from its cursor, and a rest after it
pub record InPieces (st : BenchState) (p : PiecesFrom) (ways : Ways) (up : Rest) : Type 0 where
  pub stands : Stands st p.op makes_list p.at.now
  pub next : p.next ≤ length (pieces_of (op_at (ops_of st) p.op))
  pub along : IsWays st (input_at (ops_of st) p.op) p.at.now ways
  pub after : IsRest st up

-- what a turn over the pieces of a concatenation comes to
abbrev pub TurnsPieces : BenchState → PiecesFrom → Ways → Rest → Turn → Type 0
TurnsPieces st p ways up t = InPieces st p ways up → Turns st st (pieces_trees st p.op p.at.now p.next (rest_trees st up))
    (suc (pieces_size st p.op p.next + weight st up)) t

-- how many trees are left after a turn over the pieces of a concatenation
abbrev pub PiecesFall : BenchState → PiecesFrom → Ways → Rest → Turn → Type 0
PiecesFall st p ways up t = InPieces st p ways up → Falls (pieces_extent st p.op p.next + left st up) st t

-- a rest is the pieces of a concatenation, with these ways and this rest after them
pub record IsPiecesOf (p : PiecesFrom) (ways : Ways) (up r : Rest) : Type 0 where
  pub count : Rc (Unit {0}) Global
  pub is : r ≡ Pieces' p.op p.at.now p.next ways count up

-- what a turn over a rest comes to
abbrev pub TurnsRest : BenchState → BenchState → Rest → Turn → Type 0
TurnsRest old new r t = Turns old new (rest_trees old r) (weight old r) t

-- MEMBERS

-- there is a group from one of its members on, and a rest after it
abbrev pub InGroup : BenchState → GroupFrom → Rest → Type 0
InGroup st g up =
    Stands st g.op gathers_groups g.first.now × Stands st g.op gathers_groups g.at.now × IsGroup st g.op g.number g.first.now g.at.now g.place × IsRest st up

-- an identifier stands for the first tree of the member of a group at which a walk begins, with the other members and the rest after it
abbrev pub IsGroupMember : BenchState → GroupFrom → Rest → Site → Type 0
IsGroupMember st g up n =
    Stands st g.op gathers_groups g.first.now → Stands st g.op gathers_groups g.at.now → IsGroup st g.op g.number g.first.now g.at.now g.place → IsRest st up
    → StandsFor st st (member_trees st g.op g.at.now (group_trees st g.op g.first.now g.at.now (rest_trees st up))) n

-- an identifier stands for the first tree of the member of a list of all bindings at a cursor, with the other members and the rest after it
abbrev pub IsListMember : BenchState → ℕ → Position → Rest → Site → Type 0
IsListMember st op at up n =
    Stands st op gathers_all at → IsRest st up → StandsFor st st (member_trees st op at (members_trees st op (Some at) (rest_trees st up))) n

-- how many trees come after the member at a cursor at most, with this rest after the list
abbrev pub after_member : BenchState → ℕ → Position → Rest → ℕ
after_member st op at up = number_at st (input_at (ops_of st) op) at + left st up

-- how many trees are in a list of all bindings after a cursor at most, or in all of it, with this rest after it
abbrev pub after_members : BenchState → MembersFrom → Rest → ℕ
after_members st l up = number_from st (input_at (ops_of st) l.op) l.at.now + left st up

-- a call answers the first binding of operator op after a cursor, or of all where there is no cursor, or that there is none
abbrev pub GivesFrom : BenchState → BenchState → ℕ → Option Position → Option Position → Type 0
GivesFrom old new op at r = GivesFirst old new op (ahead_from old op at) (number_from old op at) r

-- the trees of the members of a list of all bindings after a cursor, and the rest after them
abbrev pub trees_of_members : BenchState → MembersFrom → Rest → Tolled
trees_of_members st l up = members_trees st l.op l.at.now (rest_trees st up)

-- the trees of the members of a group after one of them, and the rest after them
abbrev pub trees_of_group : BenchState → GroupFrom → Rest → Tolled
trees_of_group st g up = group_trees st g.op g.first.now g.at.now (rest_trees st up)

-- what a turn over the members of a list of all bindings comes to
abbrev pub TurnsMembers : BenchState → BenchState → MembersFrom → Rest → Turn → Type 0
TurnsMembers old new l up t = Turns old new (trees_of_members old l up) (suc (weight old up)) t

-- what a turn over the members of a group comes to
abbrev pub TurnsGroup : BenchState → BenchState → GroupFrom → Rest → Turn → Type 0
TurnsGroup old new g up t = Turns old new (trees_of_group old g up) (suc (weight old up)) t

-- how many trees come after the member from which a group is walked at most, with this rest after the group
abbrev pub after_group : BenchState → GroupFrom → Rest → ℕ
after_group st g up = (size_of st (input_at (ops_of st) g.op) - g.place) + left st up
