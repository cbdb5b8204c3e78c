-- Views keep what every call keeps.
use Rattle.std.proofs.Common.{◌≡◌, ◌≤◌, ◌<◌, ◌-◌, ◌^◌, ℕ, zero, suc, Bool, true, false, List, [], ◌∷◌, Option, Some, None, length, min, refl, ap, sym, subst, ◌∙◌, arith}
use Rattle.std.specs.Prelude.{slice_get, get_or, option_map, ◌&&◌}
use Rattle.mix_base.specs.Counts.{HasRisen}
use Rattle.mix_tree.specs.Forest.{none}
use Rattle.mix_tree.specs.Nodes.{Documents}
use Rattle.lxp_core.specs.declared.open_tree.HoleId.{HoleId}
use Rattle.lxp_core.specs.View.{View, Keeps}
use Rattle.plan_core.specs.declared.plan.Plan.{Plan}
use Rattle.plan_core.specs.PlanMade.{plan_value}
use Rattle.plan_core.specs.Plans.{Operator, document}
use Rattle.plan_core.specs.Events.{visited}
use Rattle.plan_core.specs.Tolled.{Tolled, trees_below, trees_after, plain}
use Rattle.lazy_plan.specs.Bench.{BenchState, KeepsBench, ops_of, told, forward, documents}
use Rattle.lazy_walk.specs.declared.walk.Walk.{Walk}
use Rattle.lazy_walk.specs.Walks.{state_of, plan_of, IsWalkOf}
use Rattle.lazy_walk.specs.Places.{plan_document}
use Rattle.view_stack.specs.declared.layers.Served.{Served}
use Rattle.view_stack.specs.declared.part.Part.{Part}
use Rattle.view_stack.specs.declared.part.Part.TheVariants.{Whole, Below, After}
use Rattle.view_stack.specs.Parts.{part_of}
use Rattle.view_stack.specs.Stacks.{Stacking, view_at, plans_of, is_told, is_forward, names, sum_below, faults, tree_alone, served_tree, part_forest, of_part, forest, is_of, has_part, knows, views_of, view_of}
use Rattle.view_stack.specs.Steps.{KeepsViews, Stands, IsServed, IsSound, SomeFailed, ViewGoes, Goes}
use Rattle.view_stack.proofs.Beside.{beside_keeps}
use Rattle.view_stack.proofs.Faults.{sum_more, count_rises, read_named, read_within}

-- the operators of the plan are the same after a call
pub ops_kept : (a b : BenchState) → KeepsBench a b → ops_of b ≡ ops_of a
ops_kept a b k = ap (λ (p : Plan). (plan_value p).ops) k.plan

-- the document of a plan is the same after a call
pub document_same : (a b : BenchState) → KeepsBench a b → plan_document b ≡ plan_document a
document_same a b k = ap (λ (d : Documents). document (visited d) (ops_of b)) k.documents ∙ ap (λ (ops : List Operator). document (visited (documents a)) ops) (ops_kept a b k)

-- an identifier that stands at a place stands at one after a call
pub stands_kept : KeepsViews → (a b : BenchState) → KeepsBench a b → (n : _) → Stands a n → Stands b n
stands_kept law a b k n h = (h.0, (law.nodes a b k).place n h.0 h.1)

-- ONE VIEW

module _ (v v' : View) (x : Keeps v v') where
  -- a view tells its document exactly where it did
  told_kept : (r r' : Option Walk) → ViewGoes v v' r r' → is_told v' r' ≡ is_told v r
  told_kept None r' g = ap (is_told v') g
  told_kept (Some m) r' g = ap (is_told v') g.1 ∙ g.2.told

  -- a view is forward exactly where it was
  forward_kept : (r r' : Option Walk) → ViewGoes v v' r r' → is_forward v' r' ≡ is_forward v r
  forward_kept None r' g = ap (is_forward v') g
  forward_kept (Some m) r' g =
      ap (is_forward v') g.1 ∙ ap (λ (b : Bool). b && forward (state_of v' g.0)) g.2.told ∙ ap (λ (b : Bool). told (state_of v m) && b) g.2.forward

  -- the faults of a view with the same operators don't become fewer
  more_faults : (ops ops' : List Operator) → ops' ≡ ops → min (sum_below (names ops) v.faults v.count) (2 ^ 64 - 1) ≤ min (sum_below (names ops') v'.faults v'.count) (2 ^ 64 - 1)
  more_faults ops ops' e =
      let s : sum_below (names ops) v.faults v.count ≤ sum_below (names ops) v'.faults v.count = sum_more (names ops) v.faults v'.faults x.faults v.count in
      let same : sum_below (names ops') v'.faults v'.count ≡ sum_below (names ops) v'.faults v.count = ap (λ (o : List Operator). sum_below (names o) v'.faults v'.count) e ∙ ap (sum_below (names ops) v'.faults) x.count in
      smaller (sum_below (names ops) v.faults v.count) (sum_below (names ops) v'.faults v.count) (sum_below (names ops') v'.faults v'.count) (2 ^ 64 - 1) s same
    where
      smaller : (a b c top : ℕ) → a ≤ b → c ≡ b → min a top ≤ min c top
      smaller a b c top h e = grind (arith, h, e)

  -- the faults of a view don't become fewer
  faults_kept : (r r' : Option Walk) → ViewGoes v v' r r' → faults v r ≤ faults v' r'
  faults_kept None r' g = omega arith
  faults_kept (Some m) r' g = subst (λ (z : Option Walk). faults v (Some m) ≤ faults v' z) (sym g.1) (more_faults (ops_of (state_of v m)) (ops_of (state_of v' g.0)) (ops_kept (state_of v m) (state_of v' g.0) g.2))

  -- the plan of a view stays the same
  plan_kept : (r r' : Option Walk) → ViewGoes v v' r r' → option_map plan_of r' ≡ option_map plan_of r
  plan_kept None r' g = ap (option_map plan_of) g
  plan_kept (Some m) r' g = ap (option_map plan_of) g.1 ∙ ap (λ (p : Plan). Some p) g.2.plan

-- ALL VIEWS

-- lists of the same length with the same members are the same
lists_same : {A : Type 0} (d : A) (xs ys : List A) → length xs ≡ length ys → ((i : ℕ) → get_or xs i d ≡ get_or ys i d) → xs ≡ ys
lists_same d [] [] l h = refl
lists_same d [] (y ∷ ys) l h = cc
lists_same d (x ∷ xs) [] l h = cc
lists_same d (x ∷ xs) (y ∷ ys) l h = ap (λ z. z ∷ xs) (h 0) ∙ ap (λ zs. y ∷ zs) (lists_same d xs ys (let e : length xs ≡ length ys = cc in e) (λ i. h (suc i)))

-- the plan at a number is that of the view there
pub plan_at : (views : List (Option Walk)) (i : ℕ) → get_or (plans_of views) i None ≡ option_map plan_of (view_at views i)
plan_at [] i = refl
plan_at (r ∷ views) zero = refl
plan_at (r ∷ views) (suc i) = plan_at views i

-- there are as many plans as views
pub length_plans : (views : List (Option Walk)) → length (plans_of views) ≡ length views
length_plans [] = refl
length_plans (r ∷ views) = ap suc (length_plans views)

module _ (law : KeepsViews) (k k' : Stacking) (goes : Goes k k') where
  -- the plans of all views stay the same
  pub plans_kept : plans_of k'.views ≡ plans_of k.views
  plans_kept = lists_same None (plans_of k'.views) (plans_of k.views) (length_plans k'.views ∙ goes.count ∙ sym (length_plans k.views))
      (λ i. plan_at k'.views i ∙ plan_kept k.base k'.base goes.base (view_at k.views i) (view_at k'.views i) (goes.views i) ∙ sym (plan_at k.views i))

  -- a node that was served of a view is one of it after a call
  of_kept : (i n : ℕ) (o : Option Served) → slice_get k.served n ≡ o → is_of i o ≡ true → is_of i (slice_get k'.served n) ≡ true
  of_kept i n None e h = cc
  of_kept i n (Some s) e h = ap (is_of i) (goes.served n s e) ∙ h

  -- a part that a view had it has after a call
  part_kept : (i : ℕ) (p : Option Part) → of_part false (has_part k.served i) p ≡ true → of_part false (has_part k'.served i) p ≡ true
  part_kept i None h = h
  part_kept i (Some Whole) h = refl
  part_kept i (Some (Below n)) h = of_kept i n (slice_get k.served n) refl h
  part_kept i (Some (After n)) h = of_kept i n (slice_get k.served n) refl h

  -- a node that was served stands in its view after a call
  pub served_goes : (e : Served) → IsServed k.base k.views e → IsServed k'.base k'.views e
  served_goes e h =
      let g : ViewGoes k.base k'.base (Some h.view) (view_at k'.views e.view) = subst (λ (r : Option Walk). ViewGoes k.base k'.base r (view_at k'.views e.view)) h.there (goes.views e.view) in
      record { view = g.0; there = g.1; stands = stands_kept law (state_of k.base h.view) (state_of k'.base g.0) g.2 e.node h.stands }

  module _ (sound : IsSound k) where
    module _ (i : ℕ) (m m' : Walk) (there : view_at k.views i ≡ Some m) (kept : KeepsBench (state_of k.base m) (state_of k'.base m')) where
      -- a node that was served stands for the same tree, with the same trees after it
      tree_kept : (n : ℕ) (o : Option Served) → slice_get k.served n ≡ o → is_of i o ≡ true → served_tree (state_of k'.base m') (slice_get k'.served n) ≡ served_tree (state_of k.base m) o
      tree_kept n None e h = cc
      tree_kept n (Some s) e h =
          let served = sound.served n s e in
          let at : s.view ≡ i = grind (arith, h) in
          let same : served.view ≡ m = (let z : Some served.view ≡ Some m = sym served.there ∙ ap (view_at k.views) at ∙ there in cc) in
          let stands : Stands (state_of k.base m) s.node = subst (λ (z : Walk). Stands (state_of k.base z) s.node) same served.stands in
          ap (served_tree (state_of k'.base m')) (goes.served n s e) ∙ law.trees (state_of k.base m) (state_of k'.base m') kept s.node stands.1.node

      -- a part that a view had stands for the same trees
      trees_kept : (p : Option Part) → of_part false (has_part k.served i) p ≡ true
          → of_part none (part_forest (state_of k'.base m') k'.served) p ≡ of_part none (part_forest (state_of k.base m) k.served) p
      trees_kept None h = refl
      trees_kept (Some Whole) h = ap tree_alone (document_same (state_of k.base m) (state_of k'.base m') kept)
      trees_kept (Some (Below n)) h = ap (λ (f : Tolled). plain (trees_below f)) (tree_kept n (slice_get k.served n) refl h)
      trees_kept (Some (After n)) h = ap (λ (f : Tolled). plain (trees_after f)) (tree_kept n (slice_get k.served n) refl h)

    -- a hole that a view knew stands for the same trees
    forest_kept : (i : ℕ) (h : HoleId) (r : Option Walk) → view_at k.views i ≡ r → ViewGoes k.base k'.base r (view_at k'.views i) → knows k.served i h ≡ true
        → forest k'.base k'.served (view_at k'.views i) h ≡ forest k.base k.served r h
    forest_kept i h None e g known = ap (λ (z : Option Walk). forest k'.base k'.served z h) g
    forest_kept i h (Some m) e g known = ap (λ (z : Option Walk). forest k'.base k'.served z h) g.1 ∙ trees_kept i m g.0 e g.2 (part_of h) known

    -- views that go on keep what every call keeps
    pub views_keep : k.fills ≤ k'.fills → Keeps (views_of k) (views_of k')
    views_keep fills = record {
      count = goes.count;
      root = λ i. refl;
      told = λ i. told_kept k.base k'.base goes.base (view_at k.views i) (view_at k'.views i) (goes.views i);
      forward = λ i. forward_kept k.base k'.base goes.base (view_at k.views i) (view_at k'.views i) (goes.views i);
      small = λ i. refl;
      knows = λ i h. part_kept i (part_of h);
      forest = λ i h known. forest_kept i h (view_at k.views i) refl (goes.views i) known;
      weight = λ i h known. refl;
      fills = fills;
      faults = λ i. faults_kept k.base k'.base goes.base (view_at k.views i) (view_at k'.views i) (goes.views i);
    }

    -- a stack of views that go on keeps what every call keeps
    pub stack_keeps : k.fills ≤ k'.fills → Keeps (view_of k) (view_of k')
    stack_keeps fills = beside_keeps k.base k'.base (views_of k) (views_of k') goes.base (views_keep fills)

-- where a source failed that a view names, the view did
pub view_failed : (v v' : View) (m m' : Walk) (r r' : Option Walk) → r ≡ Some m → r' ≡ Some m' → IsWalkOf v m → Keeps v v' → KeepsBench (state_of v m) (state_of v' m') → SomeFailed (ops_of (state_of v m)) v v'
    → HasRisen (faults v r) (faults v' r')
view_failed v v' m m' r r' e e' h x k (s, read, rose) =
    let ops = ops_of (state_of v m) in
    let few = h.bench.few in
    let within : s < v.count = (let l = read_within (length m.bench.growing.buffers.items) ops s read h.bench.enough in omega (arith, l, few)) in
    let up = count_rises (names ops) v.faults v'.faults x.faults (2 ^ 64 - 1) s (read_named ops s read) rose v.count within in
    let same : faults v' r' ≡ min (sum_below (names ops) v'.faults v.count) (2 ^ 64 - 1) =
    ap (faults v') e' ∙ ap (λ (o : List Operator). min (sum_below (names o) v'.faults v'.count) (2 ^ 64 - 1)) (ops_kept (state_of v m) (state_of v' m') k)
    ∙ ap (λ (n : ℕ). min (sum_below (names ops) v'.faults n) (2 ^ 64 - 1)) x.count in
    subst (λ (n : ℕ). HasRisen (faults v r) n) (sym same) (subst (λ (z : Option Walk). HasRisen (faults v z) (min (sum_below (names ops) v'.faults v.count) (2 ^ 64 - 1))) (sym e) up)
