-- A turn that enters a value is of the list in which the value comes next.
use Rattle.std.proofs.Common.{◌≡◌, ℕ, Bool, true, false, cond, List, [], ◌∷◌, Some, None, refl, ◌∙◌, sym, ap, subst}
use Rattle.std.specs.Prelude.{IsTrue}
use Rattle.std.specs.List.{AllByRecursion, filter}
use Rattle.mix_base.specs.Events.{without_skips}
use Rattle.mix_tree.specs.Nodes.{Documents}
use Rattle.std.specs.declared.rc.Rc.{Rc}
use Rattle.std.specs.declared.alloc.Global.{Global}
use Rattle.tree_buffer.specs.declared.spot.Spot.{Spot}
use Rattle.plan_core.specs.declared.plan.Piece.TheVariants.{Var as var_piece}
use Rattle.plan_core.specs.PlanMade.{plan_value}
use Rattle.plan_core.specs.ByNumber.{op_at}
use Rattle.plan_core.specs.Plans.{Operator, source, get_descendants, join, over, tuple_destroy}
use Rattle.plan_core.specs.Unary.{select, order_by, project, group_by, concatenate, create_element}
use Rattle.plan_core.specs.TolledRows.{TolledRow}
use Rattle.plan_core.specs.Typed.{IsTyped}
use Rattle.plan_core.specs.Valid.{Kinds, kinds, IsFit, IsPiece, IsValid}
use Rattle.plan_evidence.specs.Named.{Listing, of_pieces, of_group, list_of}
use Rattle.plan_evidence.specs.Remains.{Remains, nothing_left, pieces_left, members_left, StandsAt, at_piece, at_member}
use Rattle.plan_forms.specs.Forms.{form, input_at, input_of, keys_of, makes_list, pieces_of, piece_of}
use Rattle.lazy_plan.specs.Groups.{group_ahead}
use Rattle.lazy_plan.specs.Bench.{BenchState, ops_of, documents, events_of, told, binding_at}
use Rattle.lazy_binding.specs.declared.position.Position.{Position}
use Rattle.lazy_site.specs.Origins.{IsHeadOf, IsOriginOf, IsTreeOf}
use Rattle.lazy_site.specs.Standing.{remains, AreBelow, IsHolder, ComesNext, the_whole, a_variable, some_pieces, some_members, IsLeftIn, IsStanding, StandsIn}
use Rattle.lazy_site.specs.declared.sites.Head.{Head}
use Rattle.lazy_site.specs.declared.sites.Head.TheVariants.{Whole, Built}
use Rattle.lazy_site.specs.declared.sites.Origin.TheVariants.{Node, Element, Joined, All, Group as Same}
use Rattle.lazy_site.specs.declared.sites.Rest.{Rest, End, Pieces', Members', Group'}
use Rattle.lazy_site.specs.declared.ways.Ways.{Ways}
use Rattle.lazy_site.proofs.Listings.{pieces_same, next_around, list_of_node, list_of_element, list_of_pieces, list_of_all, list_of_group}
use Rattle.lazy_site.proofs.GroupMembers.{group_members}

-- WHAT COMES NEXT IS NO MEMBER

-- whether members are left first
abbrev gives_members : Remains → Bool
gives_members nothing_left = false
gives_members (pieces_left pieces row next around) = false
gives_members (members_left input keys piece ahead around) = true

-- where a variable's value comes next, no members are left first
next_no_members : {docs : Documents} {ops : List Operator} {here : TolledRow} {list : Listing} {r : Remains} {v : ℕ} → ComesNext docs ops here list r v → gives_members r ≡ false
next_no_members (the_whole e) = refl
next_no_members (a_variable up same get) = refl

-- a variable that is no list, and comes next, is the tree at which the walk stands
next_stands : {docs : Documents} {ops : List Operator} {here : TolledRow} {list : Listing} {r : Remains} {v : ℕ} → ComesNext docs ops here list r v → list_of ops v ≡ None
    → StandsAt docs ops here list r here (var_piece v)
next_stands (the_whole e) none = (let z : None ≡ Some _ = sym none ∙ e in cc)
next_stands (a_variable up same get) none = at_piece up same get none

module _ (st : BenchState) (n : ℕ) (c : Position) (list : Listing) where
  -- what is left after a value that comes next is over the list's own binding
  next_standing : (r : Rest) (v : ℕ) (h : Head) → ComesNext (documents st) (ops_of st) (binding_at st n c) list (remains st r) v → list_of (ops_of st) v ≡ None → IsTreeOf st n c v h → IsStanding st n c list h r
  next_standing End v h next none t = record { piece = var_piece v; tree = t; stands = next_stands next none }
  next_standing (Pieces' op at k ways q up) v h next none t = record { piece = var_piece v; tree = t; stands = next_stands next none }
  next_standing (Members' op at q up) v h next none t = (let z : true ≡ false = next_no_members next in cc)
  next_standing (Group' op first number at place q up) v h next none t = (let z : true ≡ false = next_no_members next in cc)

-- a filter through which all pass leaves all
filter_all : (test : TolledRow → Bool) → ((r : TolledRow) → test r ≡ true) → (rows : List TolledRow) → filter test rows ≡ rows
filter_all test h [] = refl
filter_all test h (r ∷ rows) =
    ap (λ (w : Bool). cond w (r ∷ filter test rows) (filter test rows)) (h r) ∙ ap (λ (rs : List TolledRow). r ∷ rs) (filter_all test h rows)

-- the pieces of an operator that makes lists are of what its input binds
pieces_fit : (ks : ℕ → Kinds) (o : Operator) → form o ≡ makes_list → IsFit o ks → AllByRecursion (IsPiece (ks (input_of o))) (pieces_of o)
pieces_fit ks (source s out) f h = cc
pieces_fit ks (get_descendants i start path out) f h = cc
pieces_fit ks (join l r tests) f h = cc
pieces_fit ks (over i (select t)) f h = cc
pieces_fit ks (over i (order_by w desc)) f h = cc
pieces_fit ks (over i (project keys)) f h = cc
pieces_fit ks (over i (group_by [] piece out)) f h = cc
pieces_fit ks (over i (group_by (k ∷ keys) piece out)) f h = cc
pieces_fit ks (over i (concatenate ps out)) f h = h
pieces_fit ks (over i (create_element l w out)) f h = cc
pieces_fit ks (tuple_destroy i w) f h = cc

-- BY THE ORIGIN

module _ (st : BenchState) (valid : IsValid (plan_value st.plan)) (typed : IsTyped (ops_of st)) (n : ℕ) (c : Position) (v : ℕ) (list : Listing) (h : IsHolder st n c) (r : Rest) (below : AreBelow st n c r)
    (next : IsTrue (told st) → ComesNext (documents st) (ops_of st) (binding_at st n c) list (remains st r) v) where
  -- a node of a source stands in the list
  pub node_in : (s : ℕ) (x : Spot) → IsOriginOf st n c v (Node s x) → StandsIn st n c list (Whole s x) r
  node_in s x o = record { below = below; standing = λ y. next_standing st n c list r v (Whole s x) (next y) (list_of_node st valid typed n c h y v o.kind) o }

  -- an element stands in the list
  pub element_in : (op : ℕ) (at : Position) → IsOriginOf st n c v (Element op at) → StandsIn st n c list (Built op at) r
  element_in op at o = record {
    below = below;
    standing = λ y. next_standing st n c list r v (Built op at) (next y) (list_of_element (plan_value st.plan) valid typed op v o.origin.within o.maker o.origin.is) o;
  }

  -- all pieces of a concatenation are left of the list
  pub joined_in : (op : ℕ) (at : Position) (ways : Ways) (q : _) → IsOriginOf st n c v (Joined op at) → IsLeftIn st n c list (Pieces' op at 0 ways q r)
  joined_in op at ways q o = record {
    below = (o.matter, below);
    left = λ y. some_pieces (next_around (documents st) (ops_of st) (binding_at st n c) (of_pieces (pieces_of (op_at (ops_of st) op))) (next y) (list_of_pieces (plan_value st.plan) valid typed op v o.origin.within o.maker o.origin.is))
        (pieces_same st n (input_at (ops_of st) op) c at o.matter (pieces_of (op_at (ops_of st) op)) (pieces_fit (kinds (ops_of st)) (op_at (ops_of st) op) o.origin.is (typed.fit op o.origin.within)));
  }

  -- all bindings are left of the list
  pub all_in : (op : ℕ) (q : _) → IsOriginOf st n c v (All op) → IsLeftIn st n c list (Members' op None q r)
  all_in op q o = record {
    below = below;
    left = λ y. some_members (next_around (documents st) (ops_of st) (binding_at st n c) (of_group (input_at (ops_of st) op) [] (piece_of (ops_of st) op)) (next y)
        (list_of_all (plan_value st.plan) valid typed op v o.origin.within o.maker o.origin.is)) [] (filter_all _ (λ x. refl) (without_skips (events_of st (input_at (ops_of st) op))));
  }

  -- the first member of a group stands in the list, before the others
  pub group_in : (op number : ℕ) (first : Position) → IsOriginOf st n c v (Same op first number) → IsTrue (told st)
      → StandsAt (documents st) (ops_of st) (binding_at st n c) list
      (members_left (input_at (ops_of st) op) (keys_of (op_at (ops_of st) op)) (piece_of (ops_of st) op) (group_ahead st op first first) (remains st r))
      (binding_at st (input_at (ops_of st) op) first) (piece_of (ops_of st) op)
  group_in op number first o y =
      at_member (next_around (documents st) (ops_of st) (binding_at st n c) (of_group (input_at (ops_of st) op) (keys_of (op_at (ops_of st) op)) (piece_of (ops_of st) op)) (next y)
      (list_of_group (plan_value st.plan) valid typed op v o.origin.0.within o.maker o.origin.0.is)) [] (group_members st valid typed n c h y v op number first o)

-- MEMBERS

module _ (st : BenchState) (n : ℕ) (c : Position) (list : Listing) (op : ℕ) (head : Head) (up : Rest) (below : AreBelow st n c up) (r : Rc Rest Global) where
  -- an identifier at a member of a group stands where the member does
  pub group_member_in : (number : ℕ) (first at : Position) (place : ℕ) (q : _) → IsHeadOf st op 0 at head
      → (IsTrue (told st) → StandsAt (documents st) (ops_of st) (binding_at st n c) list (remains st (Group' op first number at place q up)) (binding_at st (input_at (ops_of st) op) at) (piece_of (ops_of st) op))
      → r.value ≡ Group' op first number at place q up → StandsIn st n c list head r.value
  group_member_in number first at place q h stands e =
      subst (λ (w : Rest). StandsIn st n c list head w) (sym e)
      (record { below = below; standing = λ y. record { piece = piece_of (ops_of st) op; tree = h.of_piece; stands = stands y } })

  -- an identifier at a member of a list of all bindings stands where the member does
  pub list_member_in : (at : Position) (q : _) → IsHeadOf st op 0 at head
      → (IsTrue (told st) → StandsAt (documents st) (ops_of st) (binding_at st n c) list (remains st (Members' op (Some at) q up)) (binding_at st (input_at (ops_of st) op) at) (piece_of (ops_of st) op))
      → r.value ≡ Members' op (Some at) q up → StandsIn st n c list head r.value
  list_member_in at q h stands e =
      subst (λ (w : Rest). StandsIn st n c list head w) (sym e)
      (record { below = below; standing = λ y. record { piece = piece_of (ops_of st) op; tree = h.of_piece; stands = stands y } })
