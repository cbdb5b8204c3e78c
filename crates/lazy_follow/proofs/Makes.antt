-- What kinds of values variables hold, by the operators that bind them anew.
use Rattle.std.proofs.Common.{◌≡◌, ◌⊎◌, inl, inr, ℕ, zero, suc, ◌<◌, ◌≤◌, true, false, cond, List, [], ◌∷◌, Option, Some, None, refl, sym, ap, subst, ◌∙◌, arith, length}
use Rattle.std.specs.Prelude.{◌==◌, slice_index_or}
use Rattle.std.proofs.lemmas.Bool.{eqb-true}
use Rattle.std.proofs.lemmas.Bool.Decides.{nat_tests}
use Rattle.mix_base.specs.Ascents.{Among}
use Rattle.mix_base.proofs.Choices.{some_is, none_some}
use Rattle.mix_tree.specs.declared.var.Key.{Key}
use Rattle.plan_core.specs.declared.plan.Piece.{Piece}
use Rattle.plan_core.specs.declared.plan.Piece.TheVariants.{Var as var_piece, LabelOf as label_piece, Text as text_piece}
use Rattle.plan_core.specs.ByNumber.{op_at}
use Rattle.plan_core.specs.Plans.{Operator, source, get_descendants, join, over, tuple_destroy, PlanValue}
use Rattle.plan_core.specs.Unary.{select, order_by, project, group_by, concatenate, create_element}
use Rattle.plan_core.specs.Shapes.{a_list_of, an_element_of, filters, extends, first_by_keys, one_group, in_order, Shape, one_source, visits_below, pairs_up, passes_on, no_events, shape_of, shape_at}
use Rattle.plan_core.specs.Typed.{IsTyped}
use Rattle.plan_core.specs.Valid.{Kind, a_node, a_list, an_element, Kinds, no_kinds, with_kind, kept, made_kind, either_kind, shape_kinds, shape_inputs, shape_outs, outs_of, IsFit, IsSinglePiece, kinds, IsValid}
use Rattle.plan_core.proofs.Fresh.{kept_bound, smaller, kinds-is}
use Rattle.plan_core.proofs.Groups.{fit_group}
use Rattle.plan_evidence.specs.Named.{of_pieces, of_group, maker, listing, element_list, list_of, IsSingle}
use Rattle.plan_evidence.proofs.Makers.{made_by}
use Rattle.plan_forms.specs.Forms.{form, makes_element, pieces_of, input_of, input_at, keys_of, piece_of}
use Rattle.lazy_follow.specs.Choosing.{MakesGroups}
use Rattle.lazy_follow.specs.Ends.{makes_element_of}
use Rattle.lazy_follow.proofs.Choices.{piece_input}

-- the kind of what a shape binds anew
abbrev made_of : Shape → Option Kind
made_of (one_source s out) = Some a_node
made_of (visits_below input start path out) = Some a_node
made_of (pairs_up left right tests) = None
made_of (passes_on input (filters test)) = None
made_of (passes_on input (extends out made)) = Some (made_kind made)
made_of (passes_on input (first_by_keys keys None)) = None
made_of (passes_on input (first_by_keys keys (Some group))) = Some a_list
made_of (passes_on input (one_group piece out)) = Some a_list
made_of (passes_on input (in_order v desc)) = None
made_of (no_events input made) = None

-- a variable that is bound with one more is that one, of its kind, or was bound
more_split : (out v : ℕ) (k j : Kind) (ks : Kinds) → with_kind out k ks v ≡ Some j → (Among v (out ∷ []) × (Some k ≡ Some j)) ⊎ (ks v ≡ Some j)
more_split out v k j ks e =
    (elim (out == v) as (λ w. (out == v) ≡ w → cond w (Some k) (ks v) ≡ Some j → (Among v (out ∷ []) × (Some k ≡ Some j)) ⊎ (ks v ≡ Some j)) [
      | true ↦ λ t g. inl (inl (sym (eqb-true out v t)), g)
      | false ↦ λ t g. inr g
    ]) refl e

-- an input of a shape binds a variable to a value of this kind
abbrev FromBelow : Shape → (ℕ → Kinds) → ℕ → Kind → Type 0
FromBelow f of v j = (i : ℕ) × Among i (shape_inputs f) × (of i v ≡ Some j)

-- what a shape binds it makes, or an input binds it
from_kind : (f : Shape) (of : ℕ → Kinds) (v : ℕ) (j : Kind) → shape_kinds f of v ≡ Some j → (Among v (shape_outs f) × (made_of f ≡ Some j)) ⊎ FromBelow f of v j
from_kind (one_source s out) of v j e = elim (more_split out v a_node j no_kinds e) [ inl a ↦ inl a | inr h ↦ none_some j h ]
from_kind (visits_below i start path out) of v j e = elim (more_split out v a_node j (of i) e) [ inl a ↦ inl a | inr h ↦ inr (i, inl refl, h) ]
from_kind (pairs_up l r tests) of v j e =
    (elim (of l v) as (λ w. of l v ≡ w → either_kind w (of r v) ≡ Some j → (Among v [] × (made_of (pairs_up l r tests) ≡ Some j)) ⊎ FromBelow (pairs_up l r tests) of v j) [
      | None ↦ λ t g. inr (r, inr (inl refl), g)
      | Some k ↦ λ t g. inr (l, inl refl, t ∙ g)
    ]) refl e
from_kind (passes_on i (filters test)) of v j e = inr (i, inl refl, e)
from_kind (passes_on i (extends out made)) of v j e = elim (more_split out v (made_kind made) j (of i) e) [ inl a ↦ inl a | inr h ↦ inr (i, inl refl, h) ]
from_kind (passes_on i (first_by_keys keys None)) of v j e = inr (i, inl refl, kept_bound keys (of i) v j e)
from_kind (passes_on i (first_by_keys keys (Some group))) of v j e =
    elim (more_split group.1 v a_list j (kept keys (of i)) e) [ inl a ↦ inl a | inr h ↦ inr (i, inl refl, kept_bound keys (of i) v j h) ]
from_kind (passes_on i (one_group piece out)) of v j e = elim (more_split out v a_list j no_kinds e) [ inl a ↦ inl a | inr h ↦ none_some j h ]
from_kind (passes_on i (in_order u desc)) of v j e = inr (i, inl refl, e)
from_kind (no_events i made) of v j e = none_some j e

-- what is made neither as a list nor as an element is a node
neither : (f : Shape) (j : Kind) → made_of f ≡ Some j → listing f ≡ None → element_list f ≡ None → Some j ≡ Some a_node
neither (one_source s out) j e l m = sym e
neither (visits_below i start path out) j e l m = sym e
neither (pairs_up a b tests) j e l m = none_some j e
neither (passes_on i (filters test)) j e l m = none_some j e
neither (passes_on i (extends out (a_list_of pieces))) j e l m = none_some (of_pieces pieces) (sym l)
neither (passes_on i (extends out (an_element_of label list))) j e l m = none_some list (sym m)
neither (passes_on i (first_by_keys keys None)) j e l m = none_some j e
neither (passes_on i (first_by_keys keys (Some group))) j e l m = none_some (of_group i keys group.0) (sym l)
neither (passes_on i (one_group piece out)) j e l m = none_some (of_group i [] piece) (sym l)
neither (passes_on i (in_order u desc)) j e l m = none_some j e
neither (no_events i made) j e l m = none_some j e

-- what is made as no list has none
unlisted : (f : Shape) (j : Kind) → made_of f ≡ Some j → (j ≡ a_list → ⊥) → listing f ≡ None
unlisted (one_source s out) j e n = refl
unlisted (visits_below i start path out) j e n = refl
unlisted (pairs_up a b tests) j e n = refl
unlisted (passes_on i (filters test)) j e n = refl
unlisted (passes_on i (extends out (a_list_of pieces))) j e n = absurd (n (sym (some_is a_list j e)))
unlisted (passes_on i (extends out (an_element_of label list))) j e n = refl
unlisted (passes_on i (first_by_keys keys None)) j e n = refl
unlisted (passes_on i (first_by_keys keys (Some group))) j e n = absurd (n (sym (some_is a_list j e)))
unlisted (passes_on i (one_group piece out)) j e n = absurd (n (sym (some_is a_list j e)))
unlisted (passes_on i (in_order u desc)) j e n = refl
unlisted (no_events i made) j e n = refl

-- an operator that binds a variable anew and doesn't make its elements makes no element
not_element : (o : Operator) (v : ℕ) → Among v (outs_of o) → makes_element_of o v ≡ false → element_list (shape_of o) ≡ None
not_element (source s out) v a e = refl
not_element (get_descendants i start path out) v a e = refl
not_element (join l r tests) v a e = refl
not_element (over i (select test)) v a e = refl
not_element (over i (order_by u desc)) v a e = refl
not_element (over i (project keys)) v a e = refl
not_element (over i (group_by [] piece out)) v a e = refl
not_element (over i (group_by (k ∷ keys) piece out)) v a e = refl
not_element (over i (concatenate pieces out)) v a e = refl
not_element (over i (create_element label list out)) v (inl q) e = (let t : (out == v) ≡ true = grind (arith, nat_tests, q) in let x : true ≡ false = sym t ∙ e in let f : ⊥ = cc in absurd f)
not_element (over i (create_element label list out)) v (inr q) e = absurd q
not_element (tuple_destroy i made) v a e = refl

-- an operator that makes the elements of a variable binds it anew, and is a createElement
is_element : (o : Operator) (v : ℕ) → makes_element_of o v ≡ true → Among v (outs_of o) × (form o ≡ makes_element)
is_element (source s out) v e = (let f : ⊥ = cc in absurd f)
is_element (get_descendants i start path out) v e = (let f : ⊥ = cc in absurd f)
is_element (join l r tests) v e = (let f : ⊥ = cc in absurd f)
is_element (over i (select test)) v e = (let f : ⊥ = cc in absurd f)
is_element (over i (order_by u desc)) v e = (let f : ⊥ = cc in absurd f)
is_element (over i (project keys)) v e = (let f : ⊥ = cc in absurd f)
is_element (over i (group_by keys piece out)) v e = (let f : ⊥ = cc in absurd f)
is_element (over i (concatenate pieces out)) v e = (let f : ⊥ = cc in absurd f)
is_element (over i (create_element label list out)) v e = (inl (sym (eqb-true out v e)), refl)
is_element (tuple_destroy i made) v e = (let f : ⊥ = cc in absurd f)

-- an operator that binds a variable anew to an element makes its elements
makes_element_here : (o : Operator) (v : ℕ) → Among v (outs_of o) → made_of (shape_of o) ≡ Some an_element → makes_element_of o v ≡ true
makes_element_here (source s out) v a e = (let z = some_is a_node an_element e in let f : ⊥ = cc in absurd f)
makes_element_here (get_descendants i start path out) v a e = (let z = some_is a_node an_element e in let f : ⊥ = cc in absurd f)
makes_element_here (join l r tests) v a e = absurd a
makes_element_here (over i (select test)) v a e = absurd a
makes_element_here (over i (order_by u desc)) v a e = absurd a
makes_element_here (over i (project keys)) v a e = absurd a
makes_element_here (over i (group_by [] piece out)) v a e = (let z = some_is a_list an_element e in let f : ⊥ = cc in absurd f)
makes_element_here (over i (group_by (k ∷ keys) piece out)) v a e = (let z = some_is a_list an_element e in let f : ⊥ = cc in absurd f)
makes_element_here (over i (concatenate pieces out)) v a e = (let z = some_is a_list an_element e in let f : ⊥ = cc in absurd f)
makes_element_here (over i (create_element label list out)) v (inl q) e = grind (arith, nat_tests, q)
makes_element_here (over i (create_element label list out)) v (inr q) e = absurd q
makes_element_here (tuple_destroy i made) v a e = absurd a

-- the piece of an operator that makes groups is single
group_single : (o : Operator) (of : ℕ → Kinds) → IsFit o of → (n : ℕ) (keys : List Key) (piece : Piece) → listing (shape_of o) ≡ Some (of_group n keys piece)
    → IsSinglePiece (of (input_of o)) (slice_index_or (pieces_of o) 0 (text_piece []))
group_single (source s out) of fit n ks x e = none_some (of_group n ks x) e
group_single (get_descendants i start path out) of fit n ks x e = none_some (of_group n ks x) e
group_single (join l r tests) of fit n ks x e = none_some (of_group n ks x) e
group_single (over i (select test)) of fit n ks x e = none_some (of_group n ks x) e
group_single (over i (order_by u desc)) of fit n ks x e = none_some (of_group n ks x) e
group_single (over i (project keys)) of fit n ks x e = none_some (of_group n ks x) e
group_single (over i (group_by keys piece out)) of fit n ks x e = (fit_group keys piece out (of i) fit).1
group_single (over i (concatenate pieces out)) of fit n ks x e =
    (let z : of_pieces pieces ≡ of_group n ks x = some_is (of_pieces pieces) (of_group n ks x) e in let f : ⊥ = cc in absurd f)
group_single (over i (create_element label list out)) of fit n ks x e = none_some (of_group n ks x) e
group_single (tuple_destroy i made) of fit n ks x e = none_some (of_group n ks x) e

module _ (p : PlanValue) (valid : IsValid p) (typed : IsTyped p.ops) where
  -- an operator of at most a number binds a variable anew, to values of this kind
  record MadeAs (n v : ℕ) (j : Kind) : Type 0 where
    number : ℕ
    low : number ≤ n
    among : Among v (shape_outs (shape_at p.ops number))
    is_maker : maker p.ops v ≡ shape_at p.ops number
    kind : made_of (shape_at p.ops number) ≡ Some j

  -- what operators below a number bind is made so
  made_as : (c n v : ℕ) (j : Kind) → n < c → n < length p.ops → kinds p.ops n v ≡ Some j → MadeAs n v j
  made_as zero n v j l b e = absurd (omega (arith, l))
  made_as (suc c) n v j l b e =
      elim (from_kind (shape_at p.ops n) (kinds p.ops) v j (sym (ap (λ (ks : Kinds). ks v) (kinds-is p valid typed n b)) ∙ e)) [
        | inl a ↦ record { number = n; low = omega arith; among = a.0; is_maker = (made_by p valid typed v n b a.0).is_maker; kind = a.1 }
        | inr i ↦
            (let s = smaller p valid typed i.0 n b i.1 in
            let r = made_as c i.0 v j (omega (arith, s, l)) (omega (arith, s, b)) i.2 in
            let low = r.low in
            record { number = r.number; low = omega (arith, s, low); among = r.among; is_maker = r.is_maker; kind = r.kind })
      ]

  -- a variable that is bound and is neither a list nor an element is a node
  pub is_node : (n v : ℕ) (j : Kind) → n < length p.ops → kinds p.ops n v ≡ Some j → list_of p.ops v ≡ None → element_list (maker p.ops v) ≡ None → kinds p.ops n v ≡ Some a_node
  is_node n v j b e l m = (let r = made_as (suc n) n v j (omega arith) b e in e ∙ neither (maker p.ops v) j (ap made_of r.is_maker ∙ r.kind) l m)

  -- a variable that is bound and no list has none
  no_list_of : (n v : ℕ) (j : Kind) → n < length p.ops → kinds p.ops n v ≡ Some j → (j ≡ a_list → ⊥) → list_of p.ops v ≡ None
  no_list_of n v j b e z = (let r = made_as (suc n) n v j (omega arith) b e in unlisted (maker p.ops v) j (ap made_of r.is_maker ∙ r.kind) z)

  -- where no operator below a number makes the elements of a variable that is bound below it, its value is no element
  pub no_element_below : (n v below : ℕ) (j : Kind) → n < below → below < length p.ops → kinds p.ops n v ≡ Some j → ((i : ℕ) → i < below → makes_element_of (op_at p.ops i) v ≡ false)
      → element_list (maker p.ops v) ≡ None
  no_element_below n v below j l b e none =
      let r = made_as (suc n) n v j (omega arith) (omega (arith, l, b)) e in
      let low = r.low in
      ap element_list r.is_maker ∙ not_element (op_at p.ops r.number) v r.among (none r.number (omega (arith, low, l)))

  -- an operator that makes the elements of a variable is its maker
  pub element_made : (i v : ℕ) → i < length p.ops → makes_element_of (op_at p.ops i) v ≡ true → (maker p.ops v ≡ shape_at p.ops i) × (form (op_at p.ops i) ≡ makes_element)
  element_made i v b e = (let h = is_element (op_at p.ops i) v e in ((made_by p valid typed v i b h.0).is_maker, h.1))

  -- a piece that is single is no list
  one_piece : (n : ℕ) → n < length p.ops → (x : Piece) → IsSinglePiece (kinds p.ops n) x → IsSingle p.ops x
  one_piece n b (var_piece v) h = no_list_of n v h.0 b h.1 h.2
  one_piece n b (label_piece v) h = tt
  one_piece n b (text_piece label) h = tt

  -- the piece of a groupBy is no list
  pub member_single : (n : ℕ) → MakesGroups p.ops n → IsSingle p.ops (piece_of p.ops n)
  member_single n m =
      let w = m.within in
      let low = piece_input (op_at p.ops n) 0 n m.has_piece.there (typed.inputs n m.within) in
      one_piece (input_at p.ops n) (omega (arith, low, w)) (piece_of p.ops n)
      (group_single (op_at p.ops n) (kinds p.ops) (typed.fit n m.within) (input_at p.ops n) (keys_of (op_at p.ops n)) (piece_of p.ops n) m.listed)

  -- where no operator below one makes the elements of a variable, of which it binds one, it makes them itself
  pub element_at_top : (n v : ℕ) → n < length p.ops → kinds p.ops n v ≡ Some an_element → ((i : ℕ) → i < n → makes_element_of (op_at p.ops i) v ≡ false) → makes_element_of (op_at p.ops n) v ≡ true
  element_at_top n v b e none =
      let r = made_as (suc n) n v an_element (omega arith) b e in
      let low = r.low in
      let t = makes_element_here (op_at p.ops r.number) v r.among r.kind in
      (elim (r.number == n) as (λ w. (r.number == n) ≡ w → makes_element_of (op_at p.ops n) v ≡ true) [
        | true ↦ λ q. subst (λ (i : ℕ). makes_element_of (op_at p.ops i) v ≡ true) (eqb-true r.number n q) t
        | false ↦ λ q. (let l : r.number < n = grind (arith, nat_tests, q, low) in let x : true ≡ false = sym t ∙ none r.number l in let f : ⊥ = cc in absurd f)
      ]) refl
