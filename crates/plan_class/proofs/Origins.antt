-- Where a variable is bound anew, and that what is known of it there is known of it wherever it is bound.
use Rattle.std.proofs.Common.{◌≡◌, ◌⊎◌, inl, inr, ℕ, zero, suc, ◌<◌, ◌≤◌, true, false, cond, List, [], ◌∷◌, refl, sym, ap, ◌∙◌, arith, length}
use Rattle.std.specs.Prelude.{Bool, ◌==◌, Option, Some, None}
use Rattle.std.specs.List.{AllByRecursion}
use Rattle.std.proofs.lemmas.Bool.{eqb-true}
use Rattle.mix_base.specs.Ascents.{Among}
use Rattle.mix_base.proofs.Ascents.{each_among}
use Rattle.plan_core.specs.declared.plan.Piece.{Piece}
use Rattle.plan_core.specs.declared.plan.Piece.TheVariants.{Var as var_piece, LabelOf as label_piece, Text as text_piece}
use Rattle.plan_core.specs.ByNumber.{op_at}
use Rattle.plan_core.specs.Fronts.{Front, front, are_contiguous}
use Rattle.plan_core.specs.Plans.{PlanValue}
use Rattle.plan_core.specs.Shapes.{Stage, filters, extends, first_by_keys, one_group, in_order, Shape, one_source, visits_below, pairs_up, passes_on, no_events, shape_at}
use Rattle.plan_core.specs.Typed.{IsTyped}
use Rattle.plan_core.specs.Valid.{Kind, a_node, a_list, Kinds, made_kind, either_kind, kept, stage_kinds, shape_kinds, kinds, shape_inputs, inputs_of, stage_outs, shape_outs, outs_of, IsPiece, IsValid}
use Rattle.plan_core.proofs.Fresh.{bound_once, kept_bound}
use Rattle.plan_core.proofs.Numbers.{kinds-of}
use Rattle.browse_profile.specs.declared.profile.Profile.{Profile}
use Rattle.browse_profile.specs.Profiles.{costless, in_turn}
use Rattle.browse_visit.specs.declared.shape.Shape.{Shape as SourceShape}
use Rattle.browse_visit.specs.Laid.{path_layouts}
use Rattle.browse_visit.specs.Layouts.{Layout}
use Rattle.browse_visit.specs.Shapes.{shape_at as source_shape, shapes_of}
use Rattle.browse_visit.specs.SortSet.{IsSet}
use Rattle.browse_class.specs.Facts.{Facts, facts, of_side, group_profile, one_item, kind_profile, pieces_from, made_profile, stage_facts, shape_facts}
use Rattle.browse_class.proofs.Sound.{facts-of}
use Rattle.plan_class.specs.Agree.{out_of, AreKnown}
use Rattle.plan_class.specs.Known.{Known, known_at, binds, domain_of, pieces_known}

-- a variable that is the one bound anew is among those that are bound anew
out_among : (outs : List ℕ) (v : ℕ) → binds (out_of outs) v ≡ true → Among v outs
out_among [] v h = cc
out_among (w ∷ ws) v h = inl (sym (eqb-true w v h))

-- the one operator that binds a variable anew is the first
domain_at : (known : List Known) (v m : ℕ) → m < length known → binds (known_at known m).out v ≡ true
    → ((i : ℕ) → i < length known → binds (known_at known i).out v ≡ true → i ≡ m) → domain_of known v ≡ (known_at known m).domain
domain_at [] v m b h once = absurd (omega (arith, b))
domain_at (k ∷ known) v zero b h once = ap (λ (w : Bool). cond w k.domain (domain_of known v)) h
domain_at (k ∷ known) v (suc m) b h once =
    elim (binds k.out v) as (λ w. binds k.out v ≡ w → cond w k.domain (domain_of known v) ≡ (known_at known m).domain) [
      | true ↦ λ t. absurd (let z : 0 ≡ suc m = once 0 (omega arith) t in omega (arith, z))
      | false ↦ λ t. domain_at known v m (omega (arith, b)) h (λ i c g. (let s : suc i ≡ suc m = once (suc i) (omega (arith, c)) g in omega (arith, s)))
    ] refl

-- a variable that is bound with one more is that one, or was bound and is what it was
one_more : (w : Bool) (own base : Option Kind) (hs gs : List Layout) (p q : Profile) (j : Kind) → cond w own base ≡ Some j
    → (w ≡ true) ⊎ ((base ≡ Some j) × (cond w hs gs ≡ gs) × (cond w p q ≡ q))
one_more true own base hs gs p q j e = inl refl
one_more false own base hs gs p q j e = inr (e, refl, refl)

-- what is bound after a stage is bound by it, or was bound and is what it was
stage_from : (stage : Stage) (ks : Kinds) (vars : List ℕ) (f : Facts) (v : ℕ) (j : Kind) → stage_kinds stage ks v ≡ Some j
    → (binds (out_of (stage_outs stage)) v ≡ true)
    ⊎ ((ks v ≡ Some j) × ((stage_facts stage ks vars f).layouts v ≡ f.layouts v) × ((stage_facts stage ks vars f).lists v ≡ f.lists v))
stage_from (filters test) ks vars f v j e = inr (e, refl, refl)
stage_from (extends out made) ks vars f v j e = one_more (out == v) (Some (made_kind made)) (ks v) [] (f.layouts v) (made_profile ks f.lists made) (f.lists v) j e
stage_from (first_by_keys keys None) ks vars f v j e = inr (kept_bound keys ks v j e, refl, refl)
stage_from (first_by_keys keys (Some group)) ks vars f v j e =
    elim (one_more (group.1 == v) (Some a_list) (kept keys ks v) [] (f.layouts v) (group_profile (are_contiguous keys vars) f.profile) (f.lists v) j e) [
      | inl t ↦ inl t
      | inr r ↦ inr (kept_bound keys ks v j r.0, r.1, r.2)
    ]
stage_from (one_group piece out) ks vars f v j e =
    elim (one_more (out == v) (Some a_list) None [] (f.layouts v) f.profile (f.lists v) j e) [ inl t ↦ inl t | inr r ↦ (let z : None ≡ Some j = r.0 in cc) ]
stage_from (in_order u desc) ks vars f v j e = inr (e, refl, refl)

-- what one of the inputs binds is what it is there
abbrev FromInput : List ℕ → (ℕ → Kinds) → (ℕ → Facts) → Facts → ℕ → Kind → Type 0
FromInput inputs ks of f v j = (i : ℕ) × Among i inputs × (ks i v ≡ Some j) × (f.layouts v ≡ (of i).layouts v) × (f.lists v ≡ (of i).lists v)

-- what is bound is bound by the shape, or by one of its inputs and is what it is there
shape_from : (shapes : ℕ → Layout) (f : Shape) (ks : ℕ → Kinds) (frs : ℕ → Front) (of : ℕ → Facts) (v : ℕ) (j : Kind) → shape_kinds f ks v ≡ Some j
    → (binds (out_of (shape_outs f)) v ≡ true) ⊎ FromInput (shape_inputs f) ks of (shape_facts shapes ks frs f of) v j
shape_from shapes (one_source s out) ks frs of v j e =
    elim (one_more (out == v) (Some a_node) None [] [] costless costless j e) [ inl t ↦ inl t | inr r ↦ (let z : None ≡ Some j = r.0 in cc) ]
shape_from shapes (visits_below i start path out) ks frs of v j e =
    elim (one_more (out == v) (Some a_node) (ks i v) (path_layouts path ((of i).layouts start)) ((of i).layouts v) costless ((of i).lists v) j e) [
      | inl t ↦ inl t
      | inr r ↦ inr (i, inl refl, r.0, r.1, r.2)
    ]
shape_from shapes (pairs_up left right tests) ks frs of v j e =
    inr
    ((elim (ks left v) as (λ w. ks left v ≡ w → either_kind w (ks right v) ≡ Some j
    → (i : ℕ) × Among i (left ∷ right ∷ []) × (ks i v ≡ Some j) × (of_side w ((of left).layouts v) ((of right).layouts v) ≡ (of i).layouts v) × (of_side w ((of left).lists v) ((of right).lists v) ≡ (of i).lists v)) [
      | None ↦ λ t g. (right, inr (inl refl), g, refl, refl)
      | Some k ↦ λ t g. (left, inl refl, t ∙ g, refl, refl)
    ]) refl e)
shape_from shapes (passes_on i stage) ks frs of v j e =
    elim (stage_from stage (ks i) (frs i).vars (of i) v j e) [ inl t ↦ inl t | inr r ↦ inr (i, inl refl, r.0, r.1, r.2) ]
shape_from shapes (no_events i made) ks frs of v j e = cc

module _ (shapes : List SourceShape) (p : PlanValue) (valid : IsValid p) (typed : IsTyped p.ops) where
  -- the facts of each operator
  abbrev fs : ℕ → Facts
  fs = facts (shapes_of shapes) p.ops

  -- operator n, or one before it, binds a variable anew, whose values are at operator n what they are there
  abbrev Origin : ℕ → ℕ → Kind → Type 0
  Origin n v j =
      (m : ℕ) × (m ≤ n) × (binds (out_of (outs_of (op_at p.ops m))) v ≡ true) × (kinds p.ops m v ≡ Some j) × ((fs n).layouts v ≡ (fs m).layouts v) × ((fs n).lists v ≡ (fs m).lists v)

  -- each variable that an operator binds is bound anew by it or by an operator below it
  origin : (k n v : ℕ) (j : Kind) → n < k → n < length p.ops → kinds p.ops n v ≡ Some j → Origin n v j
  origin zero n v j h b e = absurd (omega (arith, h))
  origin (suc k) n v j h b e =
      let inputs = typed.inputs n b in
      let here : shape_kinds (shape_at p.ops n) (kinds p.ops) v ≡ Some j = sym (ap (λ (f : Kinds). f v) (kinds-of p.ops n (op_at p.ops n) refl inputs)) ∙ e in
      let known = facts-of (shapes_of shapes) p.ops n (op_at p.ops n) refl inputs in
      elim (shape_from (shapes_of shapes) (shape_at p.ops n) (kinds p.ops) (front p.ops) fs v j here) [
        | inl t ↦ (n, omega arith, t, e, refl, refl)
        | inr r ↦
            (let s = each_among (λ i. i < n) (inputs_of (op_at p.ops n)) inputs r.0 r.1 in
            let c : r.0 < k = omega (arith, s, h) in
            let d : r.0 < length p.ops = omega (arith, s, b) in
            let o = origin k r.0 v j c d r.2 in
            let below = o.1 in
            (o.0, omega (arith, below, s), o.2, o.3, ap (λ (f : Facts). f.layouts v) known ∙ r.3 ∙ o.4, ap (λ (f : Facts). f.lists v) known ∙ r.4 ∙ o.5))
      ]

  module _ (known : List Known) (n : ℕ) (b : n ≤ length p.ops) (are : AreKnown shapes p.ops known n) where
    -- an operator below n binds a variable anew, whose values are at operator i what they are there, and the program knows those
    abbrev Kept : ℕ → ℕ → Kind → Type 0
    Kept i v j =
        (m : ℕ) × (m < n) × (domain_of known v ≡ (known_at known m).domain) × (binds (out_of (outs_of (op_at p.ops m))) v ≡ true) × (kinds p.ops m v ≡ Some j)
        × ((fs i).layouts v ≡ (fs m).layouts v) × ((fs i).lists v ≡ (fs m).lists v)

    -- the program knows the values of each variable that an operator below n binds, by the one that binds it anew
    kept_at : (i v : ℕ) (j : Kind) → i < n → kinds p.ops i v ≡ Some j → Kept i v j
    kept_at i v j s e =
        let d : i < length p.ops = omega (arith, s, b) in
        let o = origin (suc i) i v j (omega arith) d e in
        let below = o.1 in
        let l : o.0 < n = omega (arith, below, s) in
        let t : o.0 < length p.ops = omega (arith, l, b) in
        let count = are.count in
        let within : o.0 < length known = omega (arith, l, count) in
        let out : binds (known_at known o.0).out v ≡ true = ap (λ (w : Option ℕ). binds w v) (are.each o.0 l).out ∙ o.2 in
        (o.0, l, domain_at known v o.0 within out (λ a c g. alone o.0 t o.2 a (omega (arith, c, count)) g), o.2, o.3, o.4, o.5)
      where
        alone : (m : ℕ) → m < length p.ops → binds (out_of (outs_of (op_at p.ops m))) v ≡ true → (a : ℕ) → a < n → binds (known_at known a).out v ≡ true → a ≡ m
        alone m t o a c g =
            bound_once p.ops valid.distinct a m v (omega (arith, c, b)) t
            (out_among (outs_of (op_at p.ops a)) v (ap (λ (w : Option ℕ). binds w v) (sym (are.each a c).out) ∙ g))
            (out_among (outs_of (op_at p.ops m)) v o)

    -- the sorts of a variable's nodes are those of its layouts
    pub nodes_known : (i v : ℕ) → i < n → kinds p.ops i v ≡ Some a_node → IsSet (source_shape shapes (domain_of known v).source) (domain_of known v).sorts ((fs i).layouts v)
    nodes_known i v s e =
        let o = kept_at i v a_node s e in
        rw (o.2, o.5) ((are.each o.0 o.1).nodes v o.3 o.4)

    -- the trees of a variable's values are those of its kind
    pub trees_known : (i v : ℕ) (j : Kind) → i < n → kinds p.ops i v ≡ Some j → (domain_of known v).trees ≡ kind_profile (Some j) ((fs i).lists v)
    trees_known i v j s e =
        let o = kept_at i v j s e in
        rw (o.2, o.6) ((are.each o.0 o.1).trees v j o.3 o.4)

    -- the trees of pieces are known as the facts say
    pub pieces_are : (i : ℕ) (before : Profile) (pieces : List Piece) → i < n → AllByRecursion (IsPiece (kinds p.ops i)) pieces
        → pieces_known (domain_of known) before pieces ≡ pieces_from before (kinds p.ops i) (fs i).lists pieces
    pieces_are i before [] s h = refl
    pieces_are i before (var_piece v ∷ pieces) s h =
        let one : (domain_of known v).trees ≡ kind_profile (kinds p.ops i v) ((fs i).lists v) =
        trees_known i v h.0.0 s h.0.1 ∙ ap (λ (k : Option Kind). kind_profile k ((fs i).lists v)) (sym h.0.1)
        in
        ap (λ (q : Profile). pieces_known (domain_of known) (in_turn before q) pieces) one ∙ pieces_are i (in_turn before (kind_profile (kinds p.ops i v) ((fs i).lists v))) pieces s h.1
    pieces_are i before (label_piece v ∷ pieces) s h = pieces_are i (in_turn before one_item) pieces s h.1
    pieces_are i before (text_piece l ∷ pieces) s h = pieces_are i (in_turn before one_item) pieces s h.1
