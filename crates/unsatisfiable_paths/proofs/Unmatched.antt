-- A path that finds nothing by the layouts has no match in documents that are laid out so.
use Rattle.std.proofs.Common.{◌≡◌, inl, inr, ℕ, ◌<◌, true, false, cond, List, [], ◌∷◌, refl, sym, ap, subst, ◌∙◌, arith, length, map}
use Rattle.std.specs.Prelude.{None}
use Rattle.mix_base.specs.Ascents.{Among}
use Rattle.mix_base.specs.Events.{Event, skip, bind, without_skips}
use Rattle.mix_tree.specs.Forest.{none, tree, first_kids}
use Rattle.mix_tree.specs.Nodes.{Documents, Node, kids_at}
use Rattle.mix_tree.specs.Place.{trees_at}
use Rattle.path_expr.specs.Form.{Form}
use Rattle.path_expr.specs.Matches.{IsMatch}
use Rattle.path_auto.specs.Automaton.{machine_of, table_of}
use Rattle.path_auto.specs.Law.{VisitsAreMatches}
use Rattle.path_auto.specs.Visit.{visits}
use Rattle.plan_core.specs.Beside.{EachBinding}
use Rattle.plan_core.specs.Events.{events, EventsAreBindings}
use Rattle.plan_core.specs.Plans.{PlanValue}
use Rattle.plan_core.specs.Shapes.{Shape, one_source, visits_below, pairs_up, passes_on, no_events, shape_at}
use Rattle.plan_core.specs.TolledRows.{TolledRow, row_node, plain_row}
use Rattle.plan_core.specs.Typed.{ValidIsTyped}
use Rattle.plan_core.specs.Valid.{kinds, IsValid}
use Rattle.plan_core.proofs.Bindings.{binding_weaker}
use Rattle.browse_visit.specs.declared.shape.Shape.{Shape as SourceShape}
use Rattle.browse_visit.specs.declared.shape.Sort.TheVariants.{Anything}
use Rattle.browse_visit.specs.declared.shape.Sorts.{Sorts}
use Rattle.browse_visit.specs.Laid.{path_layouts, VisitsAreAsLaid}
use Rattle.browse_visit.specs.Layouts.{Layout, any_trees, IsLaid, AreLaid, IsBelow, IsLaidAt}
use Rattle.browse_visit.specs.Samples.{sample_labels}
use Rattle.browse_visit.specs.Shapes.{shape_at as source_shape, shapes_of}
use Rattle.browse_visit.specs.SortSet.{IsSet}
use Rattle.browse_visit.specs.Visits.{layouts_found}
use Rattle.browse_class.specs.Bound.{IsBound}
use Rattle.browse_class.specs.Classes.{KnownOfEvents}
use Rattle.browse_class.specs.Facts.{facts}
use Rattle.unsatisfiable_paths.specs.declared.path.UnsatisfiablePath.{UnsatisfiablePath}
use Rattle.unsatisfiable_paths.specs.Law.{LiesAmong, IsStart, HasNoMatch, StartsThere, AreUnsatisfiable, UnsatisfiableHaveNoMatch}
use Rattle.unsatisfiable_paths.specs.Unsatisfiable.{finds_nothing, starting, plan_nodes, unsatisfiable_at}
use Rattle.unsatisfiable_paths.proofs.Found.{each_among, out_kind, start_kind, input_before, out_layouts, lies_among}
use Rattle.unsatisfiable_paths.proofs.Rows.{InSource, row_laid, binding_both}
use Rattle.unsatisfiable_paths.proofs.Sets.{is_nil, gives_none}
use Rattle.unsatisfiable_paths.proofs.Sources.{each_in}

-- events of which no binding can be have none
no_binding : {B : Type 0} (P : B → Type 0) → ((x : B) → P x → ⊥) → (es : List (Event B)) → EachBinding P es → without_skips es ≡ []
no_binding P h [] k = refl
no_binding P h (skip ∷ es) k = no_binding P h es k
no_binding P h (bind x ∷ es) k = absurd (h x k.0)

-- below a node that is laid out by one of some layouts, a path that finds nothing has no match
no_match : VisitsAreAsLaid → VisitsAreMatches → (docs : Documents) (path : Form) (gs : List Layout) → path_layouts path gs ≡ []
    → (start n : Node) → IsLaidAt docs gs start → IsMatch docs path start n → ⊥
no_match laid matches docs path gs e start n h m =
    let whole = tree [] (docs start.source) none in
    let empty = no_binding (λ (place : List ℕ). IsBelow [] (first_kids (trees_at whole place))) (λ place q. q.1) (visits docs path start) (rw e at (laid path gs whole start.place h).kinds) in
    let among : Among n.place (without_skips (visits docs path start)) = ((matches docs path start).exactly n.place).1 m.1 in
    subst (Among n.place) empty among

-- where the trees below a node are laid out by one of a set's layouts, it lies among the set's sorts
node_among : (docs : Documents) (shape : SourceShape) (k : Sorts) (gs : List Layout) → IsSet shape k gs → (n : Node) → IsLaidAt docs gs n → LiesAmong docs shape k n
node_among docs shape k gs set n h = let s = set.into h.0 h.1 in (s.0, s.1, subst (λ (g : Layout). IsLaid g (kids_at docs n)) (sym s.2) h.2)

-- a list of one is not empty
one_there : (g : Layout) → (g ∷ []) ≡ [] → ⊥
one_there g h = cc

-- where nodes of which nothing is known are among those of a set, a path finds something
open_found : (shape : SourceShape) (k : Sorts) (path : Form) (gs : List Layout) → IsSet shape k gs → path_layouts path gs ≡ [] → k.anything ≡ false
open_found shape k path gs set e =
    let m = machine_of (table_of path) in
    elim k.anything as (λ w. k.anything ≡ w → w ≡ false) [
      | true ↦ λ t. absurd (one_there any_trees (gives_none (layouts_found m (sample_labels (table_of path).labels) m.start) gs any_trees e (set.out any_trees (Anything, t, refl))))
      | false ↦ λ t. refl
    ] refl

module _ (typing : ValidIsTyped) (knowing : KnownOfEvents) (laying : VisitsAreAsLaid) (matching : VisitsAreMatches) (binding : (p : PlanValue) → EventsAreBindings p) where
  module _ (shapes : List SourceShape) (p : PlanValue) (valid : IsValid p) (n : ℕ) (b : n < length p.ops) (input start out : ℕ) (path : Form) (e : shape_at p.ops n ≡ visits_below input start path out) where
    -- the layouts of the nodes where the path starts
    abbrev gs : List Layout
    gs = (facts (shapes_of shapes) p.ops input).layouts start

    -- the path's input is among the operators
    input_there : input < length p.ops
    input_there = let l = input_before p (typing p valid) n b input start out path e in omega (arith, l, b)

    -- those nodes lie among the sorts that are told
    start_set : IsSet (source_shape shapes (plan_nodes shapes p.ops start).source) (plan_nodes shapes p.ops start).sorts gs
    start_set = lies_among shapes p valid (typing p valid) input start input_there (start_kind p (typing p valid) n b input start out path e)

    module _ (empty : path_layouts path gs ≡ []) where
      -- over documents that are laid out so, the operator has no binding
      unbound : (docs : Documents) → AreLaid (shapes_of shapes) docs → without_skips (events docs p.ops n) ≡ []
      unbound docs laid =
          no_binding (IsBound docs None (kinds p.ops n) (facts (shapes_of shapes) p.ops n))
          (λ row h. (rw (out_layouts p (typing p valid) n b input start out path e (shapes_of shapes), empty) at (row_laid docs (kinds p.ops n) (facts (shapes_of shapes) p.ops n) out (out_kind p (typing p valid) n b input start out path e) row h)).1)
          (events docs p.ops n)
          (knowing (shapes_of shapes) p valid docs laid n b).bound

      -- what holds of each node of its source that is laid out as those where the path starts holds of each start
      starts : (docs : Documents) → AreLaid (shapes_of shapes) docs → (Q : Node → Type 0) → ((m : Node) → m.source ≡ (plan_nodes shapes p.ops start).source → IsLaidAt docs gs m → Q m)
          → EachBinding (λ row. Q (row_node row start)) (events docs p.ops input)
      starts docs laid Q h =
          let kind = start_kind p (typing p valid) n b input start out path e in
          let Known : TolledRow → Type 0 = IsBound docs None (kinds p.ops input) (facts (shapes_of shapes) p.ops input) in
          let Lying : TolledRow → Type 0 = InSource (λ v. (plan_nodes shapes p.ops v).source) (kinds p.ops input) in
          binding_weaker (λ row. Known row × Lying row) (λ row. Q (row_node row start))
          (λ row both. h (row_node row start) (both.1 start kind) (row_laid docs (kinds p.ops input) (facts (shapes_of shapes) p.ops input) start kind row both.0))
          (events docs p.ops input)
          (binding_both Known Lying (events docs p.ops input) (knowing (shapes_of shapes) p valid docs laid input input_there).bound
          (each_in shapes p valid (typing p valid) knowing docs laid input input_there))

      -- the path is unsatisfiable
      unsatisfiable : AreUnsatisfiable shapes p (starting n (plan_nodes shapes p.ops start))
      unsatisfiable =
          let from = plan_nodes shapes p.ops start in
          record {
            documents = λ docs laid. record {
              number = b;
              starts =
                  subst (StartsThere docs shapes (starting n from) (events docs p.ops)) (sym e)
                  (starts docs laid (IsStart docs shapes (starting n from)) (λ m own h. (own, node_among docs (source_shape shapes from.source) from.sorts gs start_set m h)));
              matches =
                  subst (HasNoMatch docs (events docs p.ops)) (sym e)
                  (starts docs laid (λ m. (q : Node) → IsMatch docs path m q → ⊥) (λ m own h q. no_match laying matching docs path gs empty m q h));
              unbound = unbound docs laid;
              bindings = sym (binding p valid docs n b) ∙ ap (map plain_row) (unbound docs laid);
            };
            known = open_found (source_shape shapes from.source) from.sorts path gs start_set empty;
          }

  -- a path that is told of a shape is unsatisfiable
  told_of : (shapes : List SourceShape) (p : PlanValue) → IsValid p → (x : UnsatisfiablePath) (n : ℕ) → n < length p.ops → (f : Shape) → shape_at p.ops n ≡ f
      → Among x (unsatisfiable_at shapes p.ops n f) → AreUnsatisfiable shapes p x
  told_of shapes p valid x n b (one_source s out) e m = absurd m
  told_of shapes p valid x n b (visits_below input start path out) e m =
      let gs = (facts (shapes_of shapes) p.ops input).layouts start in
      let here = starting n (plan_nodes shapes p.ops start) in
      elim (finds_nothing path gs) as (λ w. finds_nothing path gs ≡ w → Among x (cond w (here ∷ []) []) → AreUnsatisfiable shapes p x) [
        | true ↦ λ t a.
            elim a [
              | inl q ↦ subst (AreUnsatisfiable shapes p) (sym q) (unsatisfiable shapes p valid n b input start out path e (is_nil (path_layouts path gs) t))
              | inr r ↦ absurd r
            ]
        | false ↦ λ t a. absurd a
      ] refl m
  told_of shapes p valid x n b (pairs_up left right tests) e m = absurd m
  told_of shapes p valid x n b (passes_on input stage) e m = absurd m
  told_of shapes p valid x n b (no_events input made) e m = absurd m

  -- the paths of a valid plan that are told are unsatisfiable
  pub unsatisfiable_have_no_match : UnsatisfiableHaveNoMatch
  unsatisfiable_have_no_match shapes p valid x m =
      let at = each_among (unsatisfiable_at shapes p.ops) p.ops (length p.ops) x m in
      told_of shapes p valid x at.0 at.1 (shape_at p.ops at.0) refl at.2
