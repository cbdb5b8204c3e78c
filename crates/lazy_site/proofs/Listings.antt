-- How the list is made that a variable holds, by the operator that makes it, and what the binding of a cursor has of it.
use Rattle.std.proofs.Common.{◌≡◌, ◌<◌, inl, ℕ, true, List, [], ◌∷◌, Option, Some, None, length, refl, ◌∙◌, sym, ap, subst}
use Rattle.std.specs.Prelude.{IsTrue, slice_index_or}
use Rattle.std.specs.List.{AllByRecursion}
use Rattle.std.proofs.lemmas.Bool.{eqb-true}
use Rattle.mix_base.proofs.Choices.{some_is}
use Rattle.mix_base.proofs.Firsts.{each_weaker}
use Rattle.mix_base.specs.Ascents.{Among}
use Rattle.mix_base.specs.Events.{without_skips}
use Rattle.mix_tree.specs.Nodes.{Documents}
use Rattle.plan_core.specs.declared.plan.Piece.{Piece}
use Rattle.plan_core.specs.declared.plan.Piece.TheVariants.{Var as var_piece, LabelOf as label_piece, Text as text_piece}
use Rattle.plan_core.specs.PlanMade.{plan_value}
use Rattle.plan_core.specs.ByNumber.{op_at}
use Rattle.plan_core.specs.Plans.{Operator, source, get_descendants, join, over, tuple_destroy, PlanValue}
use Rattle.plan_core.specs.Unary.{select, order_by, project, group_by, concatenate, create_element}
use Rattle.plan_core.specs.Shapes.{shape_of}
use Rattle.plan_core.specs.Typed.{IsTyped}
use Rattle.plan_core.specs.Valid.{a_node, kinds, IsPiece, outs_of, IsValid}
use Rattle.plan_core.specs.TolledRows.{TolledRow}
use Rattle.plan_evidence.specs.Named.{Listing, of_pieces, of_group, listing, list_of}
use Rattle.plan_evidence.specs.Remains.{Remains, nothing_left, IsSameIn, IsAround, whole, a_piece}
use Rattle.plan_evidence.proofs.Aparts.{at_index, each_without}
use Rattle.plan_evidence.proofs.Makers.{made_by}
use Rattle.plan_evidence.proofs.Shown.{IsRow}
use Rattle.plan_evidence.proofs.Sounds.{all_sound}
use Rattle.plan_forms.specs.Forms.{Form, form, input_of, keys_of, pieces_of, makes_list, makes_element, gathers_all, gathers_groups, makes_nothing}
use Rattle.lazy_plan.specs.Bench.{BenchState, ops_of, documents, events_of, told, binding_at}
use Rattle.lazy_binding.specs.declared.position.Position.{Position}
use Rattle.lazy_site.specs.Origins.{makes}
use Rattle.lazy_site.specs.Standing.{IsHolder, IsLeftOf, all_gone, some_pieces, ComesNext, the_whole, a_variable}
use Rattle.lazy_site.specs.Ways.{IsBelow}

-- BY THE OPERATOR

-- an operator that makes the value of a variable binds it anew
pub makes_out : (o : Operator) (v : ℕ) → makes o v ≡ true → Among v (outs_of o)
makes_out (source s out) v m = cc
makes_out (get_descendants i start path out) v m = cc
makes_out (join l r tests) v m = cc
makes_out (over i (select t)) v m = cc
makes_out (over i (order_by w desc)) v m = cc
makes_out (over i (project keys)) v m = cc
makes_out (over i (group_by [] piece out)) v m = inl (sym (eqb-true out v m))
makes_out (over i (group_by (k ∷ keys) piece out)) v m = inl (sym (eqb-true out v m))
makes_out (over i (concatenate ps out)) v m = inl (sym (eqb-true out v m))
makes_out (over i (create_element l w out)) v m = inl (sym (eqb-true out v m))
makes_out (tuple_destroy i w) v m = cc

-- the list that an operator of this kind makes, if it makes one: of its own pieces, of all bindings of its input, or of those that agree by its keys
abbrev list_by : Form → Operator → Option Listing
list_by makes_list o = Some (of_pieces (pieces_of o))
list_by makes_element o = None
list_by gathers_all o = Some (of_group (input_of o) [] (slice_index_or (pieces_of o) 0 (text_piece [])))
list_by gathers_groups o = Some (of_group (input_of o) (keys_of o) (slice_index_or (pieces_of o) 0 (text_piece [])))
list_by makes_nothing o = None

-- an operator makes the list that its kind makes
form_listed : (o : Operator) → listing (shape_of o) ≡ list_by (form o) o
form_listed (source s out) = refl
form_listed (get_descendants i start path out) = refl
form_listed (join l r tests) = refl
form_listed (over i (select t)) = refl
form_listed (over i (order_by w desc)) = refl
form_listed (over i (project keys)) = refl
form_listed (over i (group_by [] piece out)) = refl
form_listed (over i (group_by (k ∷ keys) piece out)) = refl
form_listed (over i (concatenate ps out)) = refl
form_listed (over i (create_element l w out)) = refl
form_listed (tuple_destroy i w) = refl

module _ (p : PlanValue) (valid : IsValid p) (typed : IsTyped p.ops) (op v : ℕ) (within : op < length p.ops) (m : makes (op_at p.ops op) v ≡ true) where
  -- a variable's list is the one that the operator makes which makes its value
  listed : (f : Form) → form (op_at p.ops op) ≡ f → list_of p.ops v ≡ list_by f (op_at p.ops op)
  listed f e =
      ap listing (made_by p valid typed v op within (makes_out (op_at p.ops op) v m)).is_maker ∙ form_listed (op_at p.ops op) ∙ ap (λ k. list_by k (op_at p.ops op)) e

  -- the list that an operator makes of pieces
  pub list_of_pieces : form (op_at p.ops op) ≡ makes_list → list_of p.ops v ≡ Some (of_pieces (pieces_of (op_at p.ops op)))
  list_of_pieces f = listed makes_list f

  -- the list that an operator makes of all bindings
  pub list_of_all : form (op_at p.ops op) ≡ gathers_all → list_of p.ops v ≡ Some (of_group (input_of (op_at p.ops op)) [] (slice_index_or (pieces_of (op_at p.ops op)) 0 (text_piece [])))
  list_of_all f = listed gathers_all f

  -- the list that an operator makes of a group
  pub list_of_group : form (op_at p.ops op) ≡ gathers_groups
      → list_of p.ops v ≡ Some (of_group (input_of (op_at p.ops op)) (keys_of (op_at p.ops op)) (slice_index_or (pieces_of (op_at p.ops op)) 0 (text_piece [])))
  list_of_group f = listed gathers_groups f

  -- an element is no list
  pub list_of_element : form (op_at p.ops op) ≡ makes_element → list_of p.ops v ≡ None
  list_of_element f = listed makes_element f

-- BY THE BINDING

-- the binding of a holder is as the kinds of its variables say
pub holder_sound : (st : BenchState) (valid : IsValid (plan_value st.plan)) (typed : IsTyped (ops_of st)) (n : ℕ) (c : Position) → IsHolder st n c → IsTrue (told st)
    → IsRow (documents st) (ops_of st) n (binding_at st n c)
holder_sound st valid typed n c h y =
    let a = h.among y in
    at_index (IsRow (documents st) (ops_of st) n) (without_skips (events_of st n)) a.0 (binding_at st n c)
    (each_without (IsRow (documents st) (ops_of st) n) (events_of st n) (all_sound (plan_value st.plan) valid typed (documents st) n h.within)) a.1

-- a variable that holds a node holds no list
pub list_of_node : (st : BenchState) (valid : IsValid (plan_value st.plan)) (typed : IsTyped (ops_of st)) (n : ℕ) (c : Position) → IsHolder st n c → IsTrue (told st) → (v : ℕ)
    → kinds (ops_of st) n v ≡ Some a_node → list_of (ops_of st) v ≡ None
list_of_node st valid typed n c h y v e = (holder_sound st valid typed n c h y v a_node e).no_list

-- a cursor from which another has all values has the same values of pieces of what that one binds
pub pieces_same : (st : BenchState) (n m : ℕ) (c d : Position) → IsBelow st n c m d → (pieces : List Piece) → AllByRecursion (IsPiece (kinds (ops_of st) m)) pieces
    → AllByRecursion (IsSameIn (binding_at st n c) (binding_at st m d)) pieces
pieces_same st n m c d b pieces h = each_weaker (IsPiece (kinds (ops_of st) m)) (IsSameIn (binding_at st n c) (binding_at st m d)) one pieces h
  where
    one : (q : Piece) → IsPiece (kinds (ops_of st) m) q → IsSameIn (binding_at st n c) (binding_at st m d) q
    one (var_piece v) x = sym (b.held v x.0 x.1).value
    one (label_piece v) x = sym (b.held v a_node x).value
    one (text_piece label) x = tt

module _ (docs : Documents) (ops : List Operator) (here : TolledRow) where
  -- what is left around a list is left of the whole one
  pub around_left : {list inner : Listing} {r : Remains} → IsAround docs ops here list r inner → IsLeftOf docs ops here list r
  around_left whole = all_gone
  around_left (a_piece up same get is) = some_pieces up same

  -- the list whose value comes next stands before what is left
  pub next_around : {list : Listing} {r : Remains} {v : ℕ} (inner : Listing) → ComesNext docs ops here list r v → list_of ops v ≡ Some inner → IsAround docs ops here list r inner
  next_around {list = list} inner (the_whole e) is =
      (let z : list ≡ inner = some_is list inner (sym e ∙ is) in subst (λ l. IsAround docs ops here list nothing_left l) z whole)
  next_around inner (a_variable up same get) is = a_piece up same get is
