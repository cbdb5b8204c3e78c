-- What is known of the operators before one gives what is known of it.
use Rattle.std.proofs.Common.{◌≡◌, ℕ, ◌<◌, ◌≤◌, true, false, cond, List, [], ◌∷◌, ◌++◌, refl, sym, ap, subst, ◌∙◌, arith, length}
use Rattle.std.specs.Prelude.{Bool, not, ◌||◌, ◌==◌, Option, Some, None}
use Rattle.std.specs.List.{AllByRecursion}
use Rattle.mix_tree.specs.declared.var.Key.{Key}
use Rattle.mix_tree.specs.declared.var.Key.TheVariants.{Node as node_key}
use Rattle.mix_tree.specs.declared.comparing.Test.{Test}
use Rattle.path_auto.specs.Automaton.{machine_of, table_of}
use Rattle.plan_core.specs.ByNumber.{op_at}
use Rattle.plan_core.specs.Fronts.{Front, front, shared, covers, are_contiguous}
use Rattle.plan_core.specs.Plans.{PlanValue}
use Rattle.plan_core.specs.Shapes.{Made, a_list_of, an_element_of, Stage, filters, extends, first_by_keys, one_group, in_order, Shape, one_source, visits_below, pairs_up, passes_on, no_events, shape_at}
use Rattle.plan_core.specs.Typed.{IsTyped}
use Rattle.plan_core.specs.Valid.{Kind, a_node, an_element, a_list, Kinds, made_kind, kept, stage_kinds, shape_kinds, kinds, shape_inputs, stage_outs, shape_outs, IsMadeFit, IsStageFit, IsShapeFit, IsValid}
use Rattle.plan_core.proofs.Numbers.{kinds-of}
use Rattle.browse_profile.specs.declared.profile.Profile.{Profile}
use Rattle.browse_profile.specs.Profiles.{one_skip, one_binding, costless, unbounded, in_turn, replaced, passed, first_kept, many}
use Rattle.browse_visit.specs.declared.shape.Shape.{Shape as SourceShape}
use Rattle.browse_visit.specs.declared.shape.Sorts.{Sorts}
use Rattle.browse_visit.specs.Found.{sorts_profile}
use Rattle.browse_visit.specs.Laid.{path_layouts}
use Rattle.browse_visit.specs.Layouts.{Layout}
use Rattle.browse_visit.specs.Samples.{sample_labels}
use Rattle.browse_visit.specs.Shapes.{shape_at as source_shape, shapes_of, first_sort, shape_layout, only}
use Rattle.browse_visit.specs.SortSet.{IsSet}
use Rattle.browse_visit.proofs.SortSets.{set_only, sorts_found-is, sorts_profile-is}
use Rattle.browse_class.specs.Facts.{Facts, facts, one_item, kind_profile, group_profile, pieces_from, made_profile, tested, distinct_profile, stage_facts, visit_below, visits_profile, beside_profile, join_levels, shape_facts}
use Rattle.browse_class.specs.Levels.{own_level, visits_level, pairs_level}
use Rattle.browse_class.proofs.Sound.{facts-of}
use Rattle.plan_class.specs.Agree.{AgreesWith, Agrees, AreKnown}
use Rattle.plan_class.specs.Known.{Known, known_at, domain_of, pairs_known, tested_levels, distinct_known, made_known, stage_known, shape_known, op_known}
use Rattle.plan_class.specs.declared.domain.Domain.{Domain}
use Rattle.plan_class.specs.LevelLists.{level_in, same_levels, with_first, beside, visit_levels, pair_levels}
use Rattle.plan_class.proofs.LevelLists.{levels_agree, visit_levels_are, pair_levels_are}
use Rattle.plan_class.proofs.Origins.{nodes_known, pieces_are}

-- a variable that is bound anew has the kind that it is given
own_kind : (w : Bool) (k j : Kind) (base : Option Kind) → w ≡ true → cond w (Some k) base ≡ Some j → k ≡ j
own_kind true k j base h e = cc
own_kind false k j base h e = cc

-- a variable that is bound anew to a node has one tree for each value
node_item : (w : Bool) (j : Kind) (base : Option Kind) (p : Profile) → w ≡ true → cond w (Some a_node) base ≡ Some j → one_item ≡ kind_profile (Some j) p
node_item w j base p h e = subst (λ (i : Kind). one_item ≡ kind_profile (Some i) p) (own_kind w a_node j base h e) refl

-- a variable that is bound anew to an element has one tree for each value
element_item : (w : Bool) (j : Kind) (base : Option Kind) (p : Profile) → w ≡ true → cond w (Some an_element) base ≡ Some j → one_item ≡ kind_profile (Some j) p
element_item w j base p h e = subst (λ (i : Kind). one_item ≡ kind_profile (Some i) p) (own_kind w an_element j base h e) refl

-- a variable that is bound anew to a list has the list's trees
list_trees : (w : Bool) (j : Kind) (base : Option Kind) (p q : Profile) → w ≡ true → cond w (Some a_list) base ≡ Some j → p ≡ kind_profile (Some j) (cond w p q)
list_trees true j base p q h e = subst (λ (i : Kind). p ≡ kind_profile (Some i) p) (own_kind true a_list j base h e) refl
list_trees false j base p q h e = cc

-- what is of another kind is no node
no_node : (w : Bool) (k : Kind) (base : Option Kind) → (k ≡ a_node → ⊥) → w ≡ true → cond w (Some k) base ≡ Some a_node → ⊥
no_node w k base other h e = other (own_kind w k a_node base h e)

-- a list is no node
list_differs : a_list ≡ a_node → ⊥
list_differs e = cc

-- what an operator makes of a binding, a list or an element, is no node
made_differs : (made : Made) → made_kind made ≡ a_node → ⊥
made_differs (a_list_of pieces) e = cc
made_differs (an_element_of label list) e = cc

-- the set of sorts that a variable is bound to anew is that of its layouts
own_set : (w : Bool) (shape : SourceShape) (k : Sorts) (gs hs : List Layout) → w ≡ true → IsSet shape k gs → IsSet shape k (cond w gs hs)
own_set true shape k gs hs h s = s
own_set false shape k gs hs h s = cc

-- of an operator that binds no variable anew, anything holds where it would bind one
never : {A : Type 0} → false ≡ true → A
never e = cc

-- the first bindings by keys have the profile of the facts
distinct_same : (keys : List Key) (vars : List ℕ) (k : Known) (f : Facts) → k.profile ≡ f.profile → k.keys ≡ f.keys → ((j : ℕ) → level_in k.levels j ≡ f.levels j)
    → distinct_known keys vars k ≡ distinct_profile keys vars f
distinct_same keys vars k f e a h =
    ap (λ (q : Profile). cond (not (many q.most) || covers keys k.keys) q (cond (are_contiguous keys vars) (level_in k.levels (length (shared keys vars))) (first_kept q))) e
    ∙ ap (λ (ks : List Key). cond (not (many f.profile.most) || covers keys ks) f.profile (cond (are_contiguous keys vars) (level_in k.levels (length (shared keys vars))) (first_kept f.profile))) a
    ∙ ap (λ (q : Profile). cond (not (many f.profile.most) || covers keys f.keys) f.profile (cond (are_contiguous keys vars) q (first_kept f.profile))) (h (length (shared keys vars)))

-- a shape that reads the same of its inputs is known in the same way
pub shape_known-reads : (shapes : List SourceShape) (a b : ℕ → Front) (domains : ℕ → Domain) (at to : ℕ → Known) (f : Shape) → AllByRecursion (λ i. a i ≡ b i) (shape_inputs f)
    → AllByRecursion (λ i. at i ≡ to i) (shape_inputs f) → shape_known shapes a domains at f ≡ shape_known shapes b domains to f
shape_known-reads shapes a b domains at to (one_source s out) h g = refl
shape_known-reads shapes a b domains at to (visits_below input start path out) h g =
    ap (λ (fr : Front). shape_known shapes (λ n. fr) domains at (visits_below input start path out)) h.0
    ∙ ap (λ (k : Known). shape_known shapes b domains (λ n. k) (visits_below input start path out)) g.0
shape_known-reads shapes a b domains at to (pairs_up l r tests) h g =
    ap (λ (fr : Front). shape_known shapes (λ n. fr) domains at (pairs_up l r tests)) h.0
    ∙ ap (λ (k : Known). pairs_known tests (length (b l).vars) (b l).whole k (at r)) g.0
    ∙ ap (λ (k : Known). pairs_known tests (length (b l).vars) (b l).whole (to l) k) g.1.0
shape_known-reads shapes a b domains at to (passes_on input stage) h g =
    ap (λ (fr : Front). shape_known shapes (λ n. fr) domains at (passes_on input stage)) h.0
    ∙ ap (λ (k : Known). shape_known shapes b domains (λ n. k) (passes_on input stage)) g.0
shape_known-reads shapes a b domains at to (no_events input made) h g = refl

module _ (shapes : List SourceShape) (p : PlanValue) (valid : IsValid p) (typed : IsTyped p.ops) (known : List Known) (n : ℕ) (b : n < length p.ops) (are : AreKnown shapes p.ops known n) where
  -- the facts of each operator
  abbrev fs : ℕ → Facts
  fs = facts (shapes_of shapes) p.ops

  -- the operators that are known are among the plan's
  within : n ≤ length p.ops
  within = omega (arith, b)

  -- what the program knows of each operator
  abbrev at : ℕ → Known
  at i = known_at known i

  -- the trees of what is made are known as the facts say
  made_trees : (i : ℕ) → i < n → (made : Made) → IsMadeFit (kinds p.ops i) made → (w : Bool) (v : ℕ) (j : Kind) → w ≡ true → cond w (Some (made_kind made)) (kinds p.ops i v) ≡ Some j
      → made_known (domain_of known) made ≡ kind_profile (Some j) (cond w (made_profile (kinds p.ops i) (fs i).lists made) ((fs i).lists v))
  made_trees i s (a_list_of pieces) fit w v j t e =
      pieces_are shapes p valid typed known n within are i costless pieces s fit ∙ list_trees w j (kinds p.ops i v) (pieces_from costless (kinds p.ops i) (fs i).lists pieces) ((fs i).lists v) t e
  made_trees i s (an_element_of label list) fit w v j t e = element_item w j (kinds p.ops i v) (cond w costless ((fs i).lists v)) t e

  -- the profile of the first bindings by keys is known as the facts say
  kept_same : (keys : List Key) (vars : List ℕ) (i : ℕ) → i < n → distinct_known keys vars (at i) ≡ distinct_profile keys vars (fs i)
  kept_same keys vars i s = distinct_same keys vars (at i) (fs i) (are.each i s).profile (are.each i s).keys (are.each i s).levels

  -- what is known after a stage agrees with its facts
  stage_agrees : (stage : Stage) (vars : List ℕ) (i : ℕ) → i < n → IsStageFit (kinds p.ops i) stage
      → AgreesWith shapes (stage_outs stage) (stage_kinds stage (kinds p.ops i)) (stage_facts stage (kinds p.ops i) vars (fs i)) (stage_known (domain_of known) stage vars (at i))
  stage_agrees (filters test) vars i s fit = record {
    profile = ap passed (are.each i s).profile;
    out = refl;
    nodes = λ v t e. never t;
    trees = λ v j t e. never t;
    keys = (are.each i s).keys;
    levels =
        levels_agree (passed (at i).profile) (passed (fs i).profile) (same_levels (own_level (passed (at i).profile))) (λ j. own_level (passed (fs i).profile)) (ap passed (are.each i s).profile)
        (λ j. ap (λ (q : Profile). own_level (passed q)) (are.each i s).profile);
  }
  stage_agrees (extends out made) vars i s fit = record {
    profile = (are.each i s).profile;
    out = refl;
    nodes = λ v t e. absurd (no_node (out == v) (made_kind made) (kinds p.ops i v) (made_differs made) t e);
    trees = λ v j t e. made_trees i s made fit (out == v) v j t e;
    keys = (are.each i s).keys;
    levels = levels_agree (at i).profile (fs i).profile (at i).levels (fs i).levels (are.each i s).profile (are.each i s).levels;
  }
  stage_agrees (first_by_keys keys None) vars i s fit = record {
    profile = kept_same keys vars i s;
    out = refl;
    nodes = λ v t e. never t;
    trees = λ v j t e. never t;
    keys = refl;
    levels = levels_agree (distinct_known keys vars (at i)) (distinct_profile keys vars (fs i)) (at i).levels (fs i).levels (kept_same keys vars i s) (are.each i s).levels;
  }
  stage_agrees (first_by_keys keys (Some group)) vars i s fit = record {
    profile = kept_same keys vars i s;
    out = refl;
    nodes = λ v t e. absurd (no_node (group.1 == v) a_list (kept keys (kinds p.ops i) v) list_differs t e);
    trees = λ v j t e.
        ap (group_profile (are_contiguous keys vars)) (are.each i s).profile
        ∙ list_trees (group.1 == v) j (kept keys (kinds p.ops i) v) (group_profile (are_contiguous keys vars) (fs i).profile) ((fs i).lists v) t e;
    keys = refl;
    levels = levels_agree (distinct_known keys vars (at i)) (distinct_profile keys vars (fs i)) (at i).levels (fs i).levels (kept_same keys vars i s) (are.each i s).levels;
  }
  stage_agrees (one_group piece out) vars i s fit = record {
    profile = refl;
    out = refl;
    nodes = λ v t e. absurd (no_node (out == v) a_list None list_differs t e);
    trees = λ v j t e. (are.each i s).profile ∙ list_trees (out == v) j None (fs i).profile ((fs i).lists v) t e;
    keys = refl;
    levels = levels_agree one_binding one_binding (same_levels unbounded) (λ j. unbounded) refl (λ j. refl);
  }
  stage_agrees (in_order u desc) vars i s fit = record {
    profile = refl;
    out = refl;
    nodes = λ v t e. never t;
    trees = λ v j t e. never t;
    keys = (are.each i s).keys;
    levels = levels_agree unbounded unbounded (same_levels unbounded) (λ j. unbounded) refl (λ j. refl);
  }

  -- the profile of pairs is known as the facts say
  pairs_same : (l r : ℕ) → l < n → r < n → beside (at l).profile (at r).profile ≡ beside_profile (fs l) (fs r)
  pairs_same l r s t = ap (λ (q : Profile). beside q (at r).profile) (are.each l s).profile ∙ ap (beside (fs l).profile) (are.each r t).profile

  -- the levels of pairs are known as the facts say
  pairs_levels_are : (tests : List Test) (fr : Front) (l r : ℕ) → l < n → r < n → (j : ℕ)
      → level_in (with_first (tested tests (beside (at l).profile (at r).profile))
      (tested_levels tests (tested tests (beside (at l).profile (at r).profile)) (pair_levels (length fr.vars) fr.whole (at l).profile (at r).levels))) j
      ≡ join_levels tests fr (fs l) (fs r) j
  pairs_levels_are [] fr l r s t =
      levels_agree (beside (at l).profile (at r).profile) (beside_profile (fs l) (fs r)) (pair_levels (length fr.vars) fr.whole (at l).profile (at r).levels)
      (pairs_level (length fr.vars) fr.whole (fs l).profile (fs r).levels)
      (pairs_same l r s t)
      (λ j. pair_levels_are (length fr.vars) fr.whole (at l).profile (at r).levels (fs r).levels (are.each r t).levels j
      ∙ ap (λ (q : Profile). pairs_level (length fr.vars) fr.whole q (fs r).levels j) (are.each l s).profile)
  pairs_levels_are (x ∷ tests) fr l r s t =
      levels_agree (passed (beside (at l).profile (at r).profile)) (passed (beside_profile (fs l) (fs r))) (same_levels (own_level (passed (beside (at l).profile (at r).profile))))
      (λ j. own_level (passed (beside_profile (fs l) (fs r))))
      (ap passed (pairs_same l r s t))
      (λ j. ap (λ (q : Profile). own_level (passed q)) (pairs_same l r s t))

  -- what is known of a shape agrees with its facts, where its inputs are among the known operators
  shape_agrees : (f : Shape) → AllByRecursion (λ i. i < n) (shape_inputs f) → IsShapeFit f (kinds p.ops)
      → AgreesWith shapes (shape_outs f) (shape_kinds f (kinds p.ops)) (shape_facts (shapes_of shapes) (kinds p.ops) (front p.ops) f fs) (shape_known shapes (front p.ops) (domain_of known) (known_at known) f)
  shape_agrees (one_source s out) small fit = record {
    profile = refl;
    out = refl;
    nodes = λ v t e.
        own_set (out == v) (source_shape shapes s) (only (first_sort (source_shape shapes s))) (shape_layout (source_shape shapes s) ∷ []) [] t
        (set_only (source_shape shapes s) (first_sort (source_shape shapes s)));
    trees = λ v j t e. node_item (out == v) j None costless t e;
    keys = refl;
    levels = levels_agree one_binding one_binding (same_levels unbounded) (λ j. unbounded) refl (λ j. refl);
  }
  shape_agrees (visits_below i start path out) small fit =
      let s : i < n = small.0 in
      let m = machine_of (table_of path) in
      let labels : List (List ℕ) = sample_labels (table_of path).labels in
      let gs : List Layout = (fs i).layouts start in
      let sorts : Sorts = (domain_of known start).sorts in
      let shape : SourceShape = source_shape shapes (domain_of known start).source in
      let set : IsSet shape sorts gs = nodes_known shapes p valid typed known n within are i start s fit.0 in
      let visit : in_turn one_skip (sorts_profile m labels shape sorts) ≡ visit_below path gs = ap (in_turn one_skip) (sorts_profile-is shape m labels sorts gs set) in
      let fr : Front = front p.ops i in
      let own : replaced (at i).profile (in_turn one_skip (sorts_profile m labels shape sorts)) ≡ visits_profile path start (fs i) =
      ap (λ (q : Profile). replaced q (in_turn one_skip (sorts_profile m labels shape sorts))) (are.each i s).profile ∙ ap (replaced (fs i).profile) visit
      in
      record {
        profile = own;
        out = refl;
        nodes = λ v t e. own_set (out == v) shape (Rattle.browse_visit.specs.Found.sorts_found m labels shape sorts) (path_layouts path gs) ((fs i).layouts v) t (sorts_found-is shape m labels sorts gs set);
        trees = λ v j t e. node_item (out == v) j (kinds p.ops i v) (cond (out == v) costless ((fs i).lists v)) t e;
        keys = ap (λ (ks : List Key). ks ++ node_key out ∷ []) (are.each i s).keys;
        levels =
            levels_agree (replaced (at i).profile (in_turn one_skip (sorts_profile m labels shape sorts))) (visits_profile path start (fs i))
            (visit_levels (length fr.vars) fr.whole (at i).profile (in_turn one_skip (sorts_profile m labels shape sorts)))
            (visits_level (length fr.vars) fr.whole (visits_profile path start (fs i)) (fs i).profile (visit_below path gs))
            own
            (λ j. visit_levels_are (length fr.vars) fr.whole (at i).profile (in_turn one_skip (sorts_profile m labels shape sorts)) j
            ∙ ap (λ (q : Profile). visits_level (length fr.vars) fr.whole (replaced q (in_turn one_skip (sorts_profile m labels shape sorts))) q (in_turn one_skip (sorts_profile m labels shape sorts)) j) (are.each i s).profile
            ∙ ap (λ (q : Profile). visits_level (length fr.vars) fr.whole (replaced (fs i).profile q) (fs i).profile q j) visit);
      }
  shape_agrees (pairs_up l r tests) small fit = record {
    profile = ap (tested tests) (pairs_same l r small.0 small.1.0);
    out = refl;
    nodes = λ v t e. never t;
    trees = λ v j t e. never t;
    keys = ap (λ (ks : List Key). ks ++ (at r).keys) (are.each l small.0).keys ∙ ap (λ (ks : List Key). (fs l).keys ++ ks) (are.each r small.1.0).keys;
    levels = pairs_levels_are tests (front p.ops l) l r small.0 small.1.0;
  }
  shape_agrees (passes_on i stage) small fit = stage_agrees stage (front p.ops i).vars i small.0 fit
  shape_agrees (no_events i made) small fit = record {
    profile = refl;
    out = refl;
    nodes = λ v t e. never t;
    trees = λ v j t e. never t;
    keys = refl;
    levels = levels_agree costless costless (same_levels unbounded) (λ j. unbounded) refl (λ j. refl);
  }

  -- what is made of the operators that are known agrees with the facts of the next one
  pub known_step : Agrees shapes p.ops n (op_known shapes (front p.ops) known (op_at p.ops n))
  known_step =
      let at_n : Shape = shape_at p.ops n in
      let inputs = typed.inputs n b in
      subst (λ (ks : Kinds). AgreesWith shapes (shape_outs at_n) ks (fs n) (shape_known shapes (front p.ops) (domain_of known) (known_at known) at_n)) (sym (kinds-of p.ops n (op_at p.ops n) refl inputs))
      (subst (λ (f : Facts). AgreesWith shapes (shape_outs at_n) (shape_kinds at_n (kinds p.ops)) f (shape_known shapes (front p.ops) (domain_of known) (known_at known) at_n))
      (sym (facts-of (shapes_of shapes) p.ops n (op_at p.ops n) refl inputs)) (shape_agrees at_n inputs (typed.fit n b)))
