-- The tree of a piece at the end of levels, by what it shows.
use Rattle.std.proofs.Common.{◌≡◌, ◌<◌, ℕ, zero, suc, List, [], ◌∷◌, Some, None, ◌∙◌, refl, sym, ap, subst, arith, length}
use Rattle.std.specs.Prelude.{IsTrue, slice_index_or}
use Rattle.std.specs.List.{AllByRecursion}
use Rattle.mix_tree.specs.Nodes.{Node}
use Rattle.plan_core.specs.declared.plan.Piece.{Piece}
use Rattle.plan_core.specs.declared.plan.Plan.{Plan}
use Rattle.plan_core.specs.PlanMade.{plan_value}
use Rattle.tree_buffer.specs.declared.spot.Spot.{Spot}
use Rattle.plan_core.specs.declared.plan.Piece.TheVariants.{Var as var_piece, LabelOf as label_piece, Text as text_piece}
use Rattle.plan_core.specs.ByNumber.{op_at}
use Rattle.plan_core.specs.Plans.{Operator, source, get_descendants, join, over, tuple_destroy, PlanValue}
use Rattle.plan_core.specs.Unary.{select, order_by, project, group_by, concatenate, create_element}
use Rattle.plan_core.specs.Shapes.{shape_of}
use Rattle.plan_core.specs.Typed.{IsTyped}
use Rattle.plan_core.specs.Valid.{a_node, Kinds, kinds, IsFit, IsPiece, IsSinglePiece, IsValid}
use Rattle.plan_core.proofs.Groups.{fit_group}
use Rattle.plan_evidence.specs.Named.{maker, element_list, IsSingle}
use Rattle.plan_forms.specs.Forms.{form, makes_element, is_text, pieces_of, piece_at, input_of, input_at, IsWritten}
use Rattle.lazy_plan.specs.Bench.{BenchState, ops_of, documents, KeepsBench}
use Rattle.lazy_seek.specs.Given.{given}
use Rattle.lazy_seek.specs.declared.places.NodeAt.{NodeAt}
use Rattle.lazy_follow.specs.declared.mark.Shown.{Shown}
use Rattle.lazy_follow.specs.declared.mark.Shown.TheVariants.{Whole, Leaf, Element, Text}
use Rattle.lazy_follow.specs.Choosing.{HasPiece}
use Rattle.lazy_follow.specs.Below.{StandsBelow}
use Rattle.lazy_follow.specs.Ends.{Shows}
use Rattle.lazy_follow.specs.Following.{Stand, IsUnder, IsUnderVar, nodes_at}
use Rattle.lazy_follow.specs.Marks.{IsShown, node_under, ShowsBelow}
use Rattle.lazy_follow.proofs.Choices.{piece_bound_in}
use Rattle.lazy_follow.proofs.Makes.{is_node}

-- the member of a list at an index is as each
at_index : (P : Piece → Type 0) (xs : List Piece) (i : ℕ) (d : Piece) → AllByRecursion P xs → i < length xs → P (slice_index_or xs i d)
at_index P [] i d h b = absurd (omega (arith, b))
at_index P (x ∷ xs) zero d h b = h.0
at_index P (x ∷ xs) (suc i) d h b = at_index P xs i d h.1 (omega (arith, b))

-- a piece that is a label is of a variable that the input binds to a node
label_bound : (o : Operator) (of : ℕ → Kinds) (index v : ℕ) → IsFit o of → index < length (pieces_of o) → IsWritten o → slice_index_or (pieces_of o) index (text_piece []) ≡ label_piece v
    → of (input_of o) v ≡ Some a_node
label_bound (source s out) of index v fit b w e = absurd (omega (arith, b))
label_bound (get_descendants i start path out) of index v fit b w e = absurd (omega (arith, b))
label_bound (join l r tests) of index v fit b w e = absurd (omega (arith, b))
label_bound (over i (select test)) of index v fit b w e = absurd (omega (arith, b))
label_bound (over i (order_by u desc)) of index v fit b w e = absurd (omega (arith, b))
label_bound (over i (project keys)) of index v fit b w e = absurd (omega (arith, b))
label_bound (over i (group_by keys piece out)) of zero v fit b w e = subst (IsSinglePiece (of i)) e (fit_group keys piece out (of i) fit).1
label_bound (over i (group_by keys piece out)) of (suc index) v fit b w e = absurd (omega (arith, b))
label_bound (over i (concatenate pieces out)) of index v fit b w e = subst (IsPiece (of i)) e (at_index (IsPiece (of i)) pieces index (text_piece []) fit b)
label_bound (over i (create_element label list out)) of index v fit b w e = absurd (w refl)
label_bound (tuple_destroy i made) of index v fit b w e = absurd (omega (arith, b))

module _ (p : PlanValue) (typed : IsTyped p.ops) (n index v : ℕ) (h : HasPiece p.ops n index) where
  -- a piece that is a label is of a node
  pub label_node : piece_at p.ops n index ≡ label_piece v → kinds p.ops (input_at p.ops n) v ≡ Some a_node
  label_node e = label_bound (op_at p.ops n) (kinds p.ops) index v (typed.fit n h.within) h.there h.written e

  -- a piece that is no list and no element is a node
  pub var_node : IsValid p → piece_at p.ops n index ≡ var_piece v → IsSingle p.ops (piece_at p.ops n index) → element_list (maker p.ops v) ≡ None → kinds p.ops (input_at p.ops n) v ≡ Some a_node
  var_node valid e single none =
      let k = piece_bound_in p typed n index v h e in
      let low = k.1 in
      let w = h.within in
      is_node p valid typed (input_at p.ops n) v k.0 (omega (arith, low, w)) k.2 (subst (IsSingle p.ops) e single) none

-- a createElement makes elements of a list
pub element_lists : (o : Operator) → form o ≡ makes_element → (u : ℕ) × (element_list (shape_of o) ≡ Some u)
element_lists (source s out) e = (let f : ⊥ = cc in absurd f)
element_lists (get_descendants i start path out) e = (let f : ⊥ = cc in absurd f)
element_lists (join l r tests) e = (let f : ⊥ = cc in absurd f)
element_lists (over i (select test)) e = (let f : ⊥ = cc in absurd f)
element_lists (over i (order_by u desc)) e = (let f : ⊥ = cc in absurd f)
element_lists (over i (project keys)) e = (let f : ⊥ = cc in absurd f)
element_lists (over i (group_by [] piece out)) e = (let f : ⊥ = cc in absurd f)
element_lists (over i (group_by (k ∷ keys) piece out)) e = (let f : ⊥ = cc in absurd f)
element_lists (over i (concatenate pieces out)) e = (let f : ⊥ = cc in absurd f)
element_lists (over i (create_element label list out)) e = (list, refl)
element_lists (tuple_destroy i made) e = (let f : ⊥ = cc in absurd f)

module _ (st : BenchState) (s : Stand) (piece : Piece) (p : List ℕ) where
  -- a place below the tree of a piece is there
  abbrev Under : Piece → Type 0
  Under x = IsUnder (documents st) (ops_of st) s x p

  -- below a text there is the empty place alone
  text_under : (x : Piece) → IsTrue (is_text x) → (Under x → p ≡ []) × (p ≡ [] → Under x)
  text_under (var_piece v) t = (let f : ⊥ = cc in absurd f)
  text_under (label_piece v) t = (let f : ⊥ = cc in absurd f)
  text_under (text_piece label) t = ((λ h. h), (λ h. h))

  -- below what shows no source's node there is the empty place alone
  pub bare_under : (shown : Shown) → ((x : NodeAt) → shown ≡ Whole x → ⊥) → Shows st (nodes_at (documents st) (ops_of st) s) piece shown → (Under piece → p ≡ []) × (p ≡ [] → Under piece)
  bare_under (Whole x) n h = absurd (n x refl)
  bare_under (Leaf x) n h = (subst (λ y. Under y → p ≡ []) (sym h.1) (λ u. u), λ e. subst Under (sym h.1) e)
  bare_under (Element m) n h = (
    subst (λ y. Under y → p ≡ []) (sym h.2) (subst (λ o. IsUnderVar (documents st) (ops_of st) s h.0 o p → p ≡ []) (sym h.3) (λ u. u)),
    λ e. subst Under (sym h.2) (subst (λ o. IsUnderVar (documents st) (ops_of st) s h.0 o p) (sym h.3) e),
  )
  bare_under (Text m index) n h = text_under piece h.2

  -- what the tree of a piece shows is there
  pub shown_there : (shown : Shown) → Shows st (nodes_at (documents st) (ops_of st) s) piece shown → IsShown st shown
  shown_there (Whole x) h = h.3.spot
  shown_there (Leaf x) h = h.2.spot
  shown_there (Element m) h = (h.4, h.5)
  shown_there (Text m index) h = (h.0, subst (λ y. IsTrue (is_text y)) (sym h.1) h.2)

  -- what shows no source's node is what its own tree shows
  pub bare_shows : (shown : Shown) → ((x : NodeAt) → shown ≡ Whole x → ⊥) → Shows st (nodes_at (documents st) (ops_of st) s) piece shown → p ≡ []
      → ShowsBelow st (record { inputs = []; stand = s; piece = piece }) p shown
  bare_shows (Whole x) n h e = absurd (n x refl)
  bare_shows (Leaf x) n h e = (h.0, h.1, h.2, e)
  bare_shows (Element m) n h e = (h.0, h.2, h.6, e)
  bare_shows (Text m index) n h e = (h.1, e)

-- a spot that stands for a place below a source's node shows the node there
pub whole_shows : (old new : BenchState) → KeepsBench old new → (s : Stand) (piece : Piece) (p : List ℕ) (from : NodeAt) (x : Spot)
    → Shows old (nodes_at (documents old) (ops_of old) s) piece (Whole from) → StandsBelow old new from p x
    → ShowsBelow new (record { inputs = []; stand = s; piece = piece }) p (Whole (record { source = from.source; spot = x }))
whole_shows old new kept s piece p from x h b =
    let under : Plan → Node = λ q. node_under (given (plan_value q).ops s.op s.places h.0) p in
    let there : List ℕ → Node = λ place. record { source = from.source; place = place } in (
      h.0,
      h.1,
      subst (λ (q : Plan). element_list (maker (plan_value q).ops h.0) ≡ None) (sym kept.plan) h.2,
      record { spot = b.spot; node = ap there b.place_is ∙ ap (λ (n : Node). node_under n p) h.3.node ∙ ap under (sym kept.plan) },
    )
