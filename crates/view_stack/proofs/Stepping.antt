-- What one step of a walk gives.
use Rattle.std.proofs.Common.{◌≡◌, ℕ, Bool, true, false, List, [], Option, Some, None, refl, ap, sym, subst, ◌∙◌, arith}
use Rattle.std.specs.Prelude.{IsTrue, slice_get, Result, Ok, Err, IfOk, IsErrOf}
use Rattle.mix_tree.specs.Forest.{none, LabelledTree, alone, first_tree, first_kids, after_first}
use Rattle.mix_tree.specs.Place.{trees_at, child_place, next_place}
use Rattle.mix_tree.proofs.Places.{trees_at-child}
use Rattle.plan_core.specs.Tolled.{trees_below, trees_after, plain}
use Rattle.lazy_plan.specs.Bench.{BenchState, KeepsBench, told}
use Rattle.lazy_walk.specs.declared.walk.Walk.{Walk}
use Rattle.lazy_walk.specs.declared.ids.WalkedNode.{WalkedNode}
use Rattle.lazy_site.specs.Ids.{here}
use Rattle.lazy_walk.specs.Walks.{state_of}
use Rattle.lazy_walk.specs.Places.{IsNode, IsAt, IsLabelAt, GivesPlace, HasNoPlace, IsThere, plan_document}
use Rattle.lazy_walk.specs.Places as places
use Rattle.view_stack.specs.declared.layers.Found.{Found}
use Rattle.view_stack.specs.declared.layers.Served.{Served}
use Rattle.view_stack.specs.declared.part.Part.{Part}
use Rattle.view_stack.specs.declared.part.Part.TheVariants.{Whole, Below, After}
use Rattle.view_stack.specs.Stacks.{Stacking, view_at, tree_alone, served_tree, part_forest, is_of, has_part}
use Rattle.view_stack.specs.Steps.{Stands, IsPartOf, IsSound, GivesNode, GivesFound}
use Rattle.view_stack.proofs.Trees.{plain_below, plain_after, at_next, none_next, nowhere, whole_tree}
use Rattle.view_stack.proofs.Views.{document_same}

-- over told sources each identifier stands for the tree at its place of the plan's document, and those after it
abbrev pub AreThere : BenchState → Type 0
AreThere st = IsTrue (told st) → (t : LabelledTree) → plan_document st ≡ Some t → (n : WalkedNode) (p : List ℕ) → IsAt st n p → plain (here st n.site) ≡ trees_at (alone t) p

-- the plan has a document
abbrev pub HasTree : BenchState → Type 0
HasTree st = (t : LabelledTree) × (plan_document st ≡ Some t)

-- an identifier over sources that don't tell stands at any place
stands_untold : (st : BenchState) (n : WalkedNode) → IsNode st n → told st ≡ false → Stands st n
stands_untold st n h e = ([], record { node = h; place = λ t. absurd_told t; here = λ t. absurd (told_once t); above = λ t. absurd (told_once t) })
  where
    told_once : IsTrue (told st) → ⊥
    told_once t = cc

    absurd_told : {A : Type 0} → IsTrue (told st) → A
    absurd_told t = absurd (told_once t)

-- the root is the first node of the whole
pub gives_root : (st : BenchState) → AreThere st → HasTree st → (served : List Served) (n : WalkedNode) → IsAt st n [] → GivesNode st st served Whole (Some n)
gives_root st law has served n h = (([], h), λ y. ap tree_alone has.1 ∙ sym (law y has.0 has.1 n [] h))

module _ (a b : BenchState) (k : KeepsBench a b) (law : AreThere a) (law' : AreThere b) (has : HasTree a) where
  -- a node that a call found stands
  found_stands : (goal : Option (List ℕ)) (n : WalkedNode) → IsNode b n → (IsTrue (told a) → IsThere a b goal n) → Stands b n
  found_stands goal n node there = by_told (told a) refl
    where
      by_told : (z : Bool) → told a ≡ z → Stands b n
      by_told true e = let h = there e in (h.place, h.at)
      by_told false e = stands_untold b n node (k.told ∙ e)

  -- a node that a call found stands for the trees at the place that it was asked for
  found_trees : (goal : Option (List ℕ)) (n : WalkedNode) (y : IsTrue (told a)) (h : IsThere a b goal n) → plain (here b n.site) ≡ trees_at (alone has.0) h.place
  found_trees goal n y h = law' (subst IsTrue (sym k.told) y) has.0 (document_same a b k ∙ has.1) n h.place h.at

  module _ (served : List Served) (j : ℕ) (s : Served) (is : slice_get served j ≡ Some s) (p : List ℕ) (at : IsAt a s.node p) where
    -- the trees below a node that was served are those at the place of its first child
    below_trees : IsTrue (told a) → part_forest a served (Below j) ≡ trees_at (alone has.0) (child_place p)
    below_trees y =
        ap (λ (o : Option Served). plain (trees_below (served_tree a o))) is ∙ plain_below (here a s.node.site) ∙ ap first_kids (law y has.0 has.1 s.node p at)
        ∙ sym (trees_at-child (alone has.0) p)

    -- the trees after a node that was served are those after the first at its place
    after_trees : IsTrue (told a) → part_forest a served (After j) ≡ after_first (trees_at (alone has.0) p)
    after_trees y = ap (λ (o : Option Served). plain (trees_after (served_tree a o))) is ∙ plain_after (here a s.node.site) ∙ ap after_first (law y has.0 has.1 s.node p at)

    -- a first child is the first node below
    pub gives_child : (r : Option WalkedNode) → places.GivesNode b r → GivesPlace a b (Some (child_place p)) r → GivesNode a b served (Below j) r
    gives_child None node place = λ y. below_trees y ∙ nowhere (alone has.0) (child_place p) (place y has.0 has.1 (child_place p) refl)
    gives_child (Some n) node place = (
      found_stands (Some (child_place p)) n node place,
      λ y. (let h = place y in let q : child_place p ≡ h.place = (let z = h.asked in cc) in below_trees y ∙ ap (trees_at (alone has.0)) q ∙ sym (found_trees (Some (child_place p)) n y h)),
    )

    -- where there is no next place, or no node at it, no trees come after
    nothing_after : IsTrue (told a) → (goal : Option (List ℕ)) → next_place p ≡ goal → HasNoPlace a goal → after_first (trees_at (alone has.0) p) ≡ none
    nothing_after y None e h = none_next has.0 p e
    nothing_after y (Some q) e h = sym (at_next (alone has.0) p q e) ∙ nowhere (alone has.0) q (h has.0 has.1 q refl)

    -- a next sibling is the first node after
    pub gives_next : (r : Option WalkedNode) → places.GivesNode b r → GivesPlace a b (next_place p) r → GivesNode a b served (After j) r
    gives_next None node place = λ y. after_trees y ∙ nothing_after y (next_place p) refl (place y)
    gives_next (Some n) node place = (
      found_stands (next_place p) n node place,
      λ y. (let h = place y in after_trees y ∙ sym (at_next (alone has.0) p h.place h.asked) ∙ sym (found_trees (next_place p) n y h)),
    )

-- a node that was found with its label stands for a tree of that label, with what is below and after it
pub gives_found : (a b : BenchState) → KeepsBench a b → AreThere b → HasTree b → (served : List Served) (part : Part) (f : Found) → GivesNode a b served part (Some f.node)
    → ((p : List ℕ) → IsAt b f.node p → IsTrue (told b) → IsLabelAt b p f.label) → GivesFound a b served part (Some f)
gives_found a b k law has served part f (stands, trees) label = (
  stands,
  λ y.
      let y' : IsTrue (told b) = subst IsTrue (sym k.told) y in
      let u = label stands.0 stands.1 y' has.0 has.1 in
      trees y ∙ sym (whole_tree (here b f.node.site) u.0 f.label (ap first_tree (law y' has.0 has.1 f.node stands.0 stands.1) ∙ u.1) u.2),
)

-- a node that was served of a view stands in it
node_stands : (k : Stacking) → IsSound k → (i : ℕ) (m : Walk) → view_at k.views i ≡ Some m → (n : ℕ) (o : Option Served) → slice_get k.served n ≡ o → is_of i o ≡ true
    → (e : Served) × (slice_get k.served n ≡ Some e) × Stands (state_of k.base m) e.node
node_stands k sound i m there n None e h = cc
node_stands k sound i m there n (Some s) e h =
    let served = sound.served n s e in
    let at : s.view ≡ i = grind (arith, h) in
    let same : served.view ≡ m = (let z : Some served.view ≡ Some m = sym served.there ∙ ap (view_at k.views) at ∙ there in cc) in
    (s, e, subst (λ (z : Walk). Stands (state_of k.base z) s.node) same served.stands)

-- the node of each part that a view has stands in it
pub part_stands : (k : Stacking) → IsSound k → (i : ℕ) (m : Walk) → view_at k.views i ≡ Some m → (p : Part) → has_part k.served i p ≡ true → IsPartOf (state_of k.base m) k.served p
part_stands k sound i m at Whole h = tt
part_stands k sound i m at (Below n) h = node_stands k sound i m at n (slice_get k.served n) refl h
part_stands k sound i m at (After n) h = node_stands k sound i m at n (slice_get k.served n) refl h

-- what two facts of a value give together holds of an answer where both hold of it
pub IfOk-both : {X E : Type 0} (r : Result X E) (P Q R : X → Type 0) → ((x : X) → P x → Q x → R x) → IfOk r P → IfOk r Q → IfOk r R
IfOk-both (Ok x) P Q R f p q = f x p q
IfOk-both (Err e) P Q R f p q = tt

-- the error of a refusal
abbrev err_of : {T E : Type 0} → E → Result T E → E
err_of d (Ok x) = d
err_of d (Err e) = e

-- a refusal for an error is one for the same error of an answer of another type
pub err_other : {T U E : Type 0} (x y : E) → IsErrOf {T = T} (Err x) y → IsErrOf {T = U} (Err x) y
err_other x y h = ap Err (ap (err_of x) h)
