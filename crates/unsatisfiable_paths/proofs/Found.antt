-- A path whose variable has no nodes by what is known finds nothing by the layouts.
use Rattle.std.proofs.Common.{◌≡◌, inl, inr, ℕ, zero, suc, ◌<◌, true, false, cond, List, [], ◌∷◌, ◌++◌, refl, ap, subst, ◌∙◌, arith, length}
use Rattle.std.specs.Prelude.{Bool, not, ◌==◌, Some}
use Rattle.std.specs.List.{AllByRecursion}
use Rattle.std.proofs.lemmas.Bool.{eq-eqb}
use Rattle.mix_base.specs.Ascents.{Among}
use Rattle.mix_base.proofs.Ascents.{among_cases}
use Rattle.path_expr.specs.Form.{Form}
use Rattle.plan_core.specs.ByNumber.{op_at}
use Rattle.plan_core.specs.Fronts.{front}
use Rattle.plan_core.specs.Plans.{Operator, PlanValue}
use Rattle.plan_core.specs.Shapes.{Shape, one_source, visits_below, pairs_up, passes_on, no_events, shape_at}
use Rattle.plan_core.specs.Typed.{IsTyped}
use Rattle.plan_core.specs.Valid.{a_node, Kinds, shape_kinds, kinds, shape_inputs, IsShapeFit, IsValid}
use Rattle.plan_core.proofs.Numbers.{kinds-of}
use Rattle.browse_visit.specs.declared.shape.Shape.{Shape as SourceShape}
use Rattle.browse_visit.specs.Laid.{path_layouts}
use Rattle.browse_visit.specs.Layouts.{Layout}
use Rattle.browse_visit.specs.Shapes.{shape_at as source_shape, shapes_of}
use Rattle.browse_visit.specs.SortSet.{IsSet}
use Rattle.browse_class.specs.Facts.{Facts, facts, shape_facts}
use Rattle.browse_class.proofs.Sound.{facts-of}
use Rattle.plan_class.specs.Agree.{AreKnown, known_below}
use Rattle.plan_class.specs.Known.{Known}
use Rattle.plan_class.proofs.ClassIs.{are_known}
use Rattle.plan_class.proofs.Origins.{nodes_known}
use Rattle.unsatisfiable_paths.specs.Unsatisfiable.{has_any, finds_nothing, starting, of_each, plan_nodes, unsatisfiable_at, unsatisfiable_in, found_nothing}
use Rattle.unsatisfiable_paths.proofs.Sets.{none_same}

-- what is said alike of each of the first n operators is said alike of them all
each_same : {X : Type 0} (f g : ℕ → Shape → List X) (ops : List Operator) (n : ℕ) → ((i : ℕ) → i < n → f i (shape_at ops i) ≡ g i (shape_at ops i)) → of_each f ops n ≡ of_each g ops n
each_same f g ops zero h = refl
each_same {X} f g ops (suc n) h =
    ap (λ (xs : List X). xs ++ f n (shape_at ops n)) (each_same f g ops n (λ i l. h i (omega (arith, l)))) ∙ ap (λ (ys : List X). of_each g ops n ++ ys) (h n (omega arith))

-- what is said of the first n operators is said of one of them
pub each_among : {X : Type 0} (f : ℕ → Shape → List X) (ops : List Operator) (n : ℕ) (x : X) → Among x (of_each f ops n) → (i : ℕ) × (i < n) × Among x (f i (shape_at ops i))
each_among f ops zero x m = absurd m
each_among f ops (suc n) x m =
    elim (among_cases (of_each f ops n) (f n (shape_at ops n)) x m) [
      | inl a ↦ (let r = each_among f ops n x a in let l = r.1 in (r.0, omega (arith, l), r.2))
      | inr b ↦ (n, omega arith, b)
    ]

-- of two lists the one where a condition fails is the other where its opposite holds
other_way : {X : Type 0} (w z : Bool) (xs ys : List X) → w ≡ not z → cond z ys xs ≡ cond w xs ys
other_way true true xs ys e = cc
other_way true false xs ys e = refl
other_way false true xs ys e = refl
other_way false false xs ys e = cc

module _ (p : PlanValue) (typed : IsTyped p.ops) (n : ℕ) (b : n < length p.ops) (input start out : ℕ) (path : Form) (e : shape_at p.ops n ≡ visits_below input start path out) where
  -- a getDescendants binds its variable to a node
  pub out_kind : kinds p.ops n out ≡ Some a_node
  out_kind =
      let same : (out == out) ≡ true = eq-eqb out out refl in
      ap (λ (ks : Kinds). ks out) (kinds-of p.ops n (op_at p.ops n) refl (typed.inputs n b)) ∙ ap (λ (f : Shape). shape_kinds f (kinds p.ops) out) e ∙ rw same refl

  -- it starts at a node that its input binds
  pub start_kind : kinds p.ops input start ≡ Some a_node
  start_kind = (subst (λ (f : Shape). IsShapeFit f (kinds p.ops)) e (typed.fit n b)).0

  -- its input stands before it
  pub input_before : input < n
  input_before = (subst (λ (f : Shape). AllByRecursion (λ i. i < n) (shape_inputs f)) e (typed.inputs n b)).0

  -- the trees below its nodes are laid out as its path finds
  pub out_layouts : (layouts : ℕ → Layout) → (facts layouts p.ops n).layouts out ≡ path_layouts path ((facts layouts p.ops input).layouts start)
  out_layouts layouts =
      let same : (out == out) ≡ true = eq-eqb out out refl in
      ap (λ (f : Facts). f.layouts out) (facts-of layouts p.ops n (op_at p.ops n) refl (typed.inputs n b))
      ∙ ap (λ (f : Shape). (shape_facts layouts (kinds p.ops) (front p.ops) f (facts layouts p.ops)).layouts out) e
      ∙ rw same refl

module _ (shapes : List SourceShape) (p : PlanValue) (valid : IsValid p) (typed : IsTyped p.ops) where
  -- what is known of the plan's operators
  abbrev known : List Known
  known = known_below shapes p.ops (length p.ops)

  -- they are known
  are : AreKnown shapes p.ops known (length p.ops)
  are = are_known shapes p valid typed (length p.ops) (omega arith)

  -- a variable's nodes lie among the sorts of its layouts
  pub lies_among : (n v : ℕ) → n < length p.ops → kinds p.ops n v ≡ Some a_node
      → IsSet (source_shape shapes (plan_nodes shapes p.ops v).source) (plan_nodes shapes p.ops v).sorts ((facts (shapes_of shapes) p.ops n).layouts v)
  lies_among n v b k = nodes_known shapes p valid typed known (length p.ops) (omega arith) are n v b k

  -- an operator's path is told by what is known as it is told by the layouts
  path_same : (n : ℕ) → n < length p.ops → (f : Shape) → shape_at p.ops n ≡ f → found_nothing (plan_nodes shapes p.ops) n f ≡ unsatisfiable_at shapes p.ops n f
  path_same n b (one_source s out) e = refl
  path_same n b (visits_below input start path out) e =
      let gs = (facts (shapes_of shapes) p.ops input).layouts start in
      let nodes = plan_nodes shapes p.ops out in
      let set : IsSet (source_shape shapes nodes.source) nodes.sorts (path_layouts path gs) =
      subst (IsSet (source_shape shapes nodes.source) nodes.sorts) (out_layouts p typed n b input start out path e (shapes_of shapes)) (lies_among n out b (out_kind p typed n b input start out path e))
      in
      other_way (finds_nothing path gs) (has_any nodes.sorts) (starting n (plan_nodes shapes p.ops start) ∷ []) [] (none_same (source_shape shapes nodes.source) nodes.sorts (path_layouts path gs) set)
  path_same n b (pairs_up left right tests) e = refl
  path_same n b (passes_on input stage) e = refl
  path_same n b (no_events input made) e = refl

  -- the paths that are told by what is known are those that are told by the layouts
  pub paths_same : of_each (found_nothing (plan_nodes shapes p.ops)) p.ops (length p.ops) ≡ unsatisfiable_in shapes p.ops
  paths_same = each_same (found_nothing (plan_nodes shapes p.ops)) (unsatisfiable_at shapes p.ops) p.ops (length p.ops) (λ i l. path_same i l (shape_at p.ops i) refl)
