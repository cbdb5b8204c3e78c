-- What lists promise that answer the fills of a view's holes.
use Rattle.std.proofs.Common.{◌≡◌, ◌≤◌, ◌<◌, ◌-◌, ℕ, suc, Bool, true, false, List, [], ◌∷◌, ◌++◌, Option, Some, None, length, refl, ap, sym, subst, ◌∙◌, arith}
use Rattle.std.specs.Prelude.{slice_get, IsTrue}
use Rattle.std.proofs.lemmas.Option.{slice_get_within}
use Rattle.mix_tree.specs.Forest.{Forest, none, tree, LabelledTree, followed}
use Rattle.mix_tree.proofs.Forests.{followed-none}
use Rattle.lxp_core.specs.declared.open_tree.HoleId.{HoleId}
use Rattle.lxp_core.specs.Fill.{Answers, source_of}
use Rattle.lxp_core.specs.Open.{nil, closed, weight_of, AllHoles, IsProgress, begins_with_hole}
use Rattle.plan_core.specs.Tolled.{trees_below, trees_after, plain}
use Rattle.lazy_plan.specs.Bench.{BenchState, told}
use Rattle.lazy_walk.specs.declared.walk.Walk.{Walk}
use Rattle.lazy_site.specs.Ids.{here}
use Rattle.lazy_walk.specs.Walks.{state_of}
use Rattle.lazy_walk.specs.Places.{plan_document}
use Rattle.view_stack.specs.declared.layers.Served.{Served}
use Rattle.view_stack.specs.declared.part.Part.{Part}
use Rattle.view_stack.specs.declared.part.Part.TheVariants.{Whole, Below, After}
use Rattle.view_stack.specs.Parts.{hole_of, part_of, full, end}
use Rattle.view_stack.specs.Parts as parts
use Rattle.view_stack.specs.Stacks.{Stacking, view_at, is_told, tree_alone, served_tree, part_forest, of_part, forest, is_of, has_part, knows, weight, views_of}
use Rattle.view_stack.specs.Steps.{given}
use Rattle.view_stack.proofs.Weights.{full_holds, later_lower, all_lower}

-- the member after all others of a list stands at its end
get_last : {A : Type 0} (xs : List A) (x : A) → slice_get (xs ++ x ∷ []) (length xs) ≡ Some x
get_last [] x = refl
get_last (y ∷ xs) x = get_last xs x

-- a node that was served has a number below those of later ones
part_early : (served : List Served) (i n : ℕ) → is_of i (slice_get served n) ≡ true → n < length served
part_early served i n h = at (slice_get served n) refl h
  where
    at : (o : Option Served) → slice_get served n ≡ o → is_of i o ≡ true → n < length served
    at None e h = cc
    at (Some s) e h = slice_get_within served n s e

-- no tree comes after a root
root_alone : (o : Option LabelledTree) (label : List ℕ) (kids rest : Forest) → tree_alone o ≡ tree label kids rest → tree label kids none ≡ tree_alone o
root_alone None label kids rest e = cc
root_alone (Some t) label kids rest e = (let z : rest ≡ none = cc in ap (tree label kids) (sym z) ∙ sym e)

module _ (served : List Served) (i : ℕ) where
  -- a node that is served next, with the holes below and after it, weighs no more than the part of which it is the first
  given_lighter : (p : Part) (label : List ℕ) → has_part served i p ≡ true → length served < end → weight_of weight (given label (length served) p) ≤ parts.weight p
  given_lighter Whole label h l = let w = full_holds (end - suc (length served)) end (all_lower (length served) l) in omega (arith, w)
  given_lighter (Below n) label h l =
      let w = full_holds (end - suc (length served)) (end - suc n) (later_lower n (length served) (part_early served i n h) l) in omega (arith, w)
  given_lighter (After n) label h l =
      let w = full_holds (end - suc (length served)) (end - suc n) (later_lower n (length served) (part_early served i n h) l) in omega (arith, w)

-- the list of a node that is served makes progress
given_progress : (p : Part) (label : List ℕ) (n : ℕ) → IsProgress (given label n p)
given_progress Whole label n = record { top = λ e. refl; apart = ((refl, tt), tt) }
given_progress (Below j) label n = record { top = λ e. refl; apart = ((refl, tt), (refl, tt)) }
given_progress (After j) label n = record { top = λ e. refl; apart = ((refl, tt), (refl, tt)) }

-- the holes of the list of a node that is served pass a test where those below and after the node do
given_known : (test : HoleId → Bool) (p : Part) (label : List ℕ) (n : ℕ) → test (hole_of (Below n)) ≡ true → test (hole_of (After n)) ≡ true → AllHoles test (given label n p)
given_known test Whole label n b h = ((b, tt), tt)
given_known test (Below j) label n b h = ((b, tt), (h, tt))
given_known test (After j) label n b h = ((b, tt), (h, tt))

-- the list of a node that is served closes to its part where the holes below and after the node stand for the part's trees there
given_closed : (f : HoleId → Forest) (st : BenchState) (served : List Served) (p : Part) (label : List ℕ) (n : ℕ)
    → part_forest st served p ≡ tree label (f (hole_of (Below n))) (f (hole_of (After n))) → closed f (given label n p) ≡ part_forest st served p
given_closed f st served Whole label n e =
    ap (λ (g : Forest). tree label g none) (followed-none (f (hole_of (Below n)))) ∙ root_alone (plan_document st) label (f (hole_of (Below n))) (f (hole_of (After n))) e
given_closed f st served (Below j) label n e =
    ap (λ (g : Forest). tree label g (followed (f (hole_of (After n))) none)) (followed-none (f (hole_of (Below n))))
    ∙ ap (tree label (f (hole_of (Below n)))) (followed-none (f (hole_of (After n)))) ∙ sym e
given_closed f st served (After j) label n e =
    ap (λ (g : Forest). tree label g (followed (f (hole_of (After n))) none)) (followed-none (f (hole_of (Below n))))
    ∙ ap (tree label (f (hole_of (Below n)))) (followed-none (f (hole_of (After n)))) ∙ sym e

module _ (k k' : Stacking) (i : ℕ) (h : HoleId) (p : Part) (is : part_of h ≡ Some p) (has : has_part k.served i p ≡ true) (r : Option Walk) (there : view_at k.views i ≡ r) where
  -- no node is an answer where the hole's view has no trees there
  pub answers_nothing : (IsTrue (is_told k.base r) → forest k.base k.served r h ≡ none) → Answers (source_of (views_of k) i) (source_of (views_of k') i) h nil
  answers_nothing e = record {
    closes = λ t. sym (ap (λ (z : Option Walk). forest k.base k.served z h) there ∙ e (sym (ap (is_told k.base) there) ∙ t));
    progress = record { top = λ z. cc; apart = tt };
    known = tt;
    lighter = omega arith;
    forward = λ e. refl;
    small = λ e. cc;
  }

module _ (k k' : Stacking) (i : ℕ) (h : HoleId) (p : Part) (is : part_of h ≡ Some p) (has : has_part k.served i p ≡ true) (m m' : Walk) (there : view_at k.views i ≡ Some m) where
  -- the hole of a part stands for its trees
  forest_is : forest k.base k.served (view_at k.views i) h ≡ part_forest (state_of k.base m) k.served p
  forest_is = ap (λ (z : Option Walk). forest k.base k.served z h) there ∙ ap (of_part none (part_forest (state_of k.base m) k.served)) is

  -- no node is an answer where the part has no trees
  pub answers_none : (IsTrue (told (state_of k.base m)) → part_forest (state_of k.base m) k.served p ≡ none) → Answers (source_of (views_of k) i) (source_of (views_of k') i) h nil
  answers_none e = answers_nothing k k' i h p is has (Some m) there (λ t. ap (of_part none (part_forest (state_of k.base m) k.served)) is ∙ e t)

  module _ (there' : view_at k'.views i ≡ Some m') (x : Served) (of : x.view ≡ i) (served : k'.served ≡ k.served ++ x ∷ []) (few : length k.served < end) (label : List ℕ) where
    -- the node that is served stands after those that were
    last : slice_get k'.served (length k.served) ≡ Some x
    last = ap (λ (z : List Served). slice_get z (length k.served)) served ∙ get_last k.served x

    -- the node that is served is one of the view
    known_last : is_of i (slice_get k'.served (length k.served)) ≡ true
    known_last = ap (is_of i) last ∙ grind (arith, of)

    -- the hole below the node that is served stands for the trees below it
    below_last : forest k'.base k'.served (view_at k'.views i) (hole_of (Below (length k.served))) ≡ plain (trees_below (here (state_of k'.base m') x.node.site))
    below_last = ap (λ (z : Option Walk). forest k'.base k'.served z (hole_of (Below (length k.served)))) there' ∙ ap (λ (o : Option Served). plain (trees_below (served_tree (state_of k'.base m') o))) last

    -- the hole after the node that is served stands for the trees after it
    after_last : forest k'.base k'.served (view_at k'.views i) (hole_of (After (length k.served))) ≡ plain (trees_after (here (state_of k'.base m') x.node.site))
    after_last = ap (λ (z : Option Walk). forest k'.base k'.served z (hole_of (After (length k.served)))) there' ∙ ap (λ (o : Option Served). plain (trees_after (served_tree (state_of k'.base m') o))) last

    -- the list of the node that is served is an answer where that node is the first of the part's trees
    pub answers_given : (IsTrue (told (state_of k.base m)) → part_forest (state_of k.base m) k.served p
        ≡ tree label (plain (trees_below (here (state_of k'.base m') x.node.site))) (plain (trees_after (here (state_of k'.base m') x.node.site)))) → Answers (source_of (views_of k) i) (source_of (views_of k') i) h (given label (length k.served) p)
    answers_given e = record {
      closes = λ t.
          given_closed (forest k'.base k'.served (view_at k'.views i)) (state_of k.base m) k.served p label (length k.served)
          (e (sym (ap (is_told k.base) there) ∙ t) ∙ ap (λ (f : Forest). tree label f (plain (trees_after (here (state_of k'.base m') x.node.site)))) (sym below_last)
          ∙ ap (tree label (forest k'.base k'.served (view_at k'.views i) (hole_of (Below (length k.served))))) (sym after_last))
          ∙ sym forest_is;
      progress = given_progress p label (length k.served);
      known = given_known (knows k'.served i) p label (length k.served) known_last known_last;
      lighter = subst (λ (w : ℕ). weight_of weight (given label (length k.served) p) ≤ w) (sym (ap (of_part 0 parts.weight) is)) (given_lighter k.served i p label has few);
      forward = λ t. forward_given p;
      small = λ e. cc;
    }
      where
        forward_given : (q : Part) → begins_with_hole (given label (length k.served) q) ≡ false
        forward_given Whole = refl
        forward_given (Below j) = refl
        forward_given (After j) = refl
