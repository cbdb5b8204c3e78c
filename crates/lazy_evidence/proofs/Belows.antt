-- The nodes at the parts of a position are those of its binding, and it has none for a variable that isn't bound on the way to it.
use Rattle.std.proofs.Common.{◌≡◌, ◌<◌, ℕ, zero, suc, Bool, true, false, cond, List, inl, inr, refl, sym, ap, subst, ◌∙◌, arith, length}
use Rattle.std.specs.Prelude.{IsTrue, ◌==◌, Option, Some, None}
use Rattle.std.proofs.lemmas.Bool.{eqb-true}
use Rattle.mix_base.specs.Ascents.{Among}
use Rattle.mix_base.proofs.Choices.{none_some}
use Rattle.mix_tree.specs.Keys.{has_var}
use Rattle.mix_tree.specs.declared.comparing.Test.{Test}
use Rattle.tree_buffer.specs.declared.spot.Spot.{Spot}
use Rattle.plan_core.specs.ByNumber.{op_at}
use Rattle.plan_core.specs.Plans.{PlanValue}
use Rattle.plan_core.specs.Shapes.{Shape, one_source, visits_below, pairs_up, filters, extends, first_by_keys, one_group, in_order, passes_on, shape_at}
use Rattle.plan_core.specs.TolledRows.{row_node, source_node}
use Rattle.plan_core.specs.Typed.{IsTyped}
use Rattle.plan_core.specs.Valid.{a_node, shape_inputs, shape_outs, outs_of, kinds, IsValid}
use Rattle.plan_evidence.specs.Evidence.{shape_way}
use Rattle.plan_evidence.proofs.Ways.{binds, binds_yes, way_self, binds_input, sides_apart}
use Rattle.lazy_descend.specs.Cursors.{spot_of}
use Rattle.lazy_binding.specs.declared.position.Position.{Position, Start, Top, Whole, Found', Pass', First', Seen', Pair', Sorted', Row_of-Position-Sorted-0-1 as Row, end_of-Position-Sorted-0-1 as no_more, more_of-Position-Sorted-0-1 as one_more}
use Rattle.lazy_binding.specs.Cursors.{binding, stands, IsIn, AreIn, IsOf, count, has_row}
use Rattle.lazy_binding.specs.Spots.{or_else, spot_at, spot_nth}
use Rattle.lazy_binding.specs.World.{World}
use Rattle.lazy_binding.proofs.Bound.{inputs_at}
use Rattle.lazy_binding.proofs.Spots.{spot_is}
use Rattle.lazy_evidence.specs.Below.{spot_below, spot_below_nth, node_there, nodes_at}

-- the first of two optional spots is there where it is some
pub left_there : (a b : Option (ℕ × Spot)) (x : ℕ × Spot) → a ≡ Some x → or_else a b ≡ Some x
left_there a b x e = ap (λ (z : Option (ℕ × Spot)). or_else z b) e

-- without the first of two optional spots the second is there
pub right_there : (a b : Option (ℕ × Spot)) → a ≡ None → or_else a b ≡ b
right_there a b e = ap (λ (z : Option (ℕ × Spot)). or_else z b) e

-- without the second of two optional spots the first is there
pub left_alone : (a b : Option (ℕ × Spot)) → b ≡ None → or_else a b ≡ a
left_alone None b e = e
left_alone (Some x) b e = refl

module _ (p : PlanValue) (valid : IsValid p) (typed : IsTyped p.ops) (w : World) where
  -- WHAT ISN'T BOUND

  -- what an operator binds anew is another variable than one that isn't bound on its way
  not_out : (n out v : ℕ) → n < length p.ops → Among out (outs_of (op_at p.ops n)) → binds p.ops n v ≡ false → (out == v) ≡ false
  not_out n out v h a b =
      (elim (out == v) as (λ t. (out == v) ≡ t → t ≡ false) [
        | true ↦ λ t. sym (binds_yes p.ops n v n h (way_self p.ops n) (subst (λ u. Among u (outs_of (op_at p.ops n))) (eqb-true out v t) a)) ∙ b
        | false ↦ λ t. refl
      ]) refl

  -- what isn't bound on the way of an operator isn't on that of an input on the way
  not_input : (n i v : ℕ) → n < length p.ops → Among i (shape_way (shape_at p.ops n)) → binds p.ops n v ≡ false → binds p.ops i v ≡ false
  not_input n i v h a b =
      (elim (binds p.ops i v) as (λ t. binds p.ops i v ≡ t → t ≡ false) [
        | true ↦ λ t. sym (binds_input p valid typed n i v h a t) ∙ b
        | false ↦ λ t. refl
      ]) refl

  -- an input on the way of a shape is one of its operator's
  pub on_way : (n i : ℕ) (f : Shape) → shape_at p.ops n ≡ f → Among i (shape_way f) → Among i (shape_way (shape_at p.ops n))
  on_way n i f e a = subst (λ (g : Shape). Among i (shape_way g)) (sym e) a

  -- what a shape binds anew its operator does
  pub bound_anew : (n v : ℕ) (f : Shape) → shape_at p.ops n ≡ f → Among v (shape_outs f) → Among v (outs_of (op_at p.ops n))
  bound_anew n v f e a = subst (λ (g : Shape). Among v (shape_outs g)) (sym e) a

  mutual
    -- a position has no spot for a variable that isn't bound on the way to it
    none_in : (n : ℕ) → n < length p.ops → (f : Shape) → shape_at p.ops n ≡ f → (c : Position) → IsIn w p.ops n f c → IsTrue (has_row c) → (v : ℕ) → binds p.ops n v ≡ false
        → spot_below p.ops f c v ≡ None
    none_in n h f e Start of row v b = cc
    none_in n h (one_source s out) e (Top t x) of row v b =
        ap (λ (k : Bool). cond k (Some (t, x)) None) (not_out n out v h (bound_anew n out (one_source s out) e (inl refl)) b)
    none_in n h (passes_on i (one_group piece out)) e Whole of row v b = refl
    none_in n h (visits_below i start path out) e (Found' s q c d) of row v b =
        let l = inputs_at p.ops typed n h (visits_below i start path out) e in
        ap (λ (k : Bool). cond k (Some (s, spot_of d.frame)) (spot_below p.ops (shape_at p.ops i) c v)) (not_out n out v h (bound_anew n out (visits_below i start path out) e (inl refl)) b)
        ∙ none_in i (omega (arith, h, l.0)) (shape_at p.ops i) refl c of.0 of.1 v (not_input n i v h (on_way n i (visits_below i start path out) e (inl refl)) b)
    none_in n h (passes_on i (filters test)) e (Pass' q c) of row v b =
        let l = inputs_at p.ops typed n h (passes_on i (filters test)) e in
        none_in i (omega (arith, h, l.0)) (shape_at p.ops i) refl c of.0 of.1 v (not_input n i v h (on_way n i (passes_on i (filters test)) e (inl refl)) b)
    none_in n h (passes_on i (extends out made)) e (Pass' q c) of row v b =
        let l = inputs_at p.ops typed n h (passes_on i (extends out made)) e in
        none_in i (omega (arith, h, l.0)) (shape_at p.ops i) refl c of.0 of.1 v (not_input n i v h (on_way n i (passes_on i (extends out made)) e (inl refl)) b)
    none_in n h (passes_on i (first_by_keys keys None)) e (Pass' q c) of row v b =
        let l = inputs_at p.ops typed n h (passes_on i (first_by_keys keys None)) e in
        none_in i (omega (arith, h, l.0)) (shape_at p.ops i) refl c of.0 of.1 v (not_input n i v h (on_way n i (passes_on i (first_by_keys keys None)) e (inl refl)) b)
    none_in n h (passes_on i (first_by_keys keys group)) e (First' q c k) of row v b =
        let l = inputs_at p.ops typed n h (passes_on i (first_by_keys keys group)) e in
        none_in i (omega (arith, h, l.0)) (shape_at p.ops i) refl c of.0 of.1 v (not_input n i v h (on_way n i (passes_on i (first_by_keys keys group)) e (inl refl)) b)
    none_in n h (passes_on i (first_by_keys keys group)) e (Seen' q c k) of row v b = cc
    none_in n h (pairs_up l r tests) e (Pair' q x q' y k) of row v b =
        let g = inputs_at p.ops typed n h (pairs_up l r tests) e in
        right_there (spot_below p.ops (shape_at p.ops l) x v) (spot_below p.ops (shape_at p.ops r) y v)
        (none_in l (omega (arith, h, g.0)) (shape_at p.ops l) refl x of.0 of.1 v (not_input n l v h (on_way n l (pairs_up l r tests) e (inl refl)) b))
        ∙ none_in r (omega (arith, h, g.1.0)) (shape_at p.ops r) refl y of.2 row v (not_input n r v h (on_way n r (pairs_up l r tests) e (inr (inl refl))) b)
    none_in n h (passes_on i (in_order u desc)) e (Sorted' q m list k) of row v b =
        let l = inputs_at p.ops typed n h (passes_on i (in_order u desc)) e in
        none_nth i (omega (arith, h, l.0)) list k of.0 of.1 v (not_input n i v h (on_way n i (passes_on i (in_order u desc)) e (inl refl)) b)
    none_in n h f e c of row v b = absurd of

    -- the position at an index of a sorted list has no spot for a variable that isn't bound on the way to it
    none_nth : (i : ℕ) → i < length p.ops → {m : _} (list : Row m) (k : ℕ) → AreIn w p.ops i list → k < count list → (v : ℕ) → binds p.ops i v ≡ false → spot_below_nth p.ops i list k v ≡ None
    none_nth i h no_more k of l v b = absurd (omega (arith, l))
    none_nth i h (one_more q c rest) zero of l v b = none_in i h (shape_at p.ops i) refl c of.0 of.1 v b
    none_nth i h (one_more q c rest) (suc k) of l v b = none_nth i h rest k of.2 (omega (arith, l)) v b

  -- a position of an operator has no spot for a variable that isn't bound on the operator's way
  pub none_below : (n : ℕ) → n < length p.ops → (c : Position) → IsOf w p.ops n c → IsTrue (has_row c) → (v : ℕ) → binds p.ops n v ≡ false → spot_below p.ops (shape_at p.ops n) c v ≡ None
  none_below n h c of row v b = none_in n h (shape_at p.ops n) refl c of row v b

  -- a variable for which a position has a spot is bound on the way to it
  pub bound_there : (n : ℕ) → n < length p.ops → (c : Position) → IsOf w p.ops n c → IsTrue (has_row c) → (v : ℕ) (x : ℕ × Spot) → spot_below p.ops (shape_at p.ops n) c v ≡ Some x → binds p.ops n v ≡ true
  bound_there n h c of row v x s =
      (elim (binds p.ops n v) as (λ t. binds p.ops n v ≡ t → t ≡ true) [
        | true ↦ λ t. refl
        | false ↦ λ t. none_some x (sym (none_below n h c of row v t) ∙ s)
      ]) refl

  -- what is bound on the way of a join's right side isn't on that of its left side
  pub not_left : (n l r : ℕ) (tests : List Test) → n < length p.ops → shape_at p.ops n ≡ pairs_up l r tests → (v : ℕ) → binds p.ops r v ≡ true → binds p.ops l v ≡ false
  not_left n l r tests h e v b =
      (elim (binds p.ops l v) as (λ t. binds p.ops l v ≡ t → t ≡ false) [
        | true ↦ λ t. absurd (sides_apart p valid typed n l r v h (ap shape_inputs e) t b)
        | false ↦ λ t. refl
      ]) refl

  -- what is bound on the way of a join's left side isn't on that of its right side
  pub not_right : (n l r : ℕ) (tests : List Test) → n < length p.ops → shape_at p.ops n ≡ pairs_up l r tests → (v : ℕ) → binds p.ops l v ≡ true → binds p.ops r v ≡ false
  not_right n l r tests h e v b =
      (elim (binds p.ops r v) as (λ t. binds p.ops r v ≡ t → t ≡ false) [
        | true ↦ λ t. absurd (sides_apart p valid typed n l r v h (ap shape_inputs e) b t)
        | false ↦ λ t. refl
      ]) refl

  -- WHAT IS BOUND

  -- a spot of a variable that keys may drop is one where they don't
  kept_there : (t : Bool) (a : Option (ℕ × Spot)) (x : ℕ × Spot) → cond t a None ≡ Some x → a ≡ Some x
  kept_there true a x s = s
  kept_there false a x s = none_some x s

  -- of two parts, the spot of a variable that isn't the first's is the second's
  else_there : (t : Bool) (a b c : Option (ℕ × Spot)) (x : ℕ × Spot) → (b ≡ Some x → c ≡ Some x) → cond t a b ≡ Some x → cond t a c ≡ Some x
  else_there true a b c x f s = s
  else_there false a b c x f s = f s

  -- the spot that a variable has in a pair is that which the pair has for it, where so it is of both sides
  pair_there : (n l r : ℕ) (tests : List Test) → n < length p.ops → shape_at p.ops n ≡ pairs_up l r tests → (a : Position) → IsOf w p.ops l a → IsTrue (has_row a) → (b : Position) → IsOf w p.ops r b
      → IsTrue (has_row b) → l < length p.ops → r < length p.ops → (v : ℕ) (x : ℕ × Spot)
      → ((y : ℕ × Spot) → spot_at p.ops (shape_at p.ops l) a v ≡ Some y → spot_below p.ops (shape_at p.ops l) a v ≡ Some y)
      → ((y : ℕ × Spot) → spot_at p.ops (shape_at p.ops r) b v ≡ Some y → spot_below p.ops (shape_at p.ops r) b v ≡ Some y)
      → (s : Option (ℕ × Spot)) → spot_at p.ops (shape_at p.ops l) a v ≡ s → or_else s (spot_at p.ops (shape_at p.ops r) b v) ≡ Some x
      → or_else (spot_below p.ops (shape_at p.ops l) a v) (spot_below p.ops (shape_at p.ops r) b v) ≡ Some x
  pair_there n l r tests h e a of_a row_a b of_b row_b low_l low_r v x f g (Some y) is z =
      left_there (spot_below p.ops (shape_at p.ops l) a v) (spot_below p.ops (shape_at p.ops r) b v) x (f x (is ∙ z))
  pair_there n l r tests h e a of_a row_a b of_b row_b low_l low_r v x f g None is z =
      let s = g x z in
      right_there (spot_below p.ops (shape_at p.ops l) a v) (spot_below p.ops (shape_at p.ops r) b v)
      (none_below l low_l a of_a row_a v (not_left n l r tests h e v (bound_there r low_r b of_b row_b v x s))) ∙ s

  mutual
    -- a spot that a variable has in a position's binding is that which the position has for it
    same_in : (n : ℕ) → n < length p.ops → (f : Shape) → shape_at p.ops n ≡ f → (c : Position) → IsIn w p.ops n f c → IsTrue (has_row c) → (v : ℕ) (x : ℕ × Spot) → spot_at p.ops f c v ≡ Some x
        → spot_below p.ops f c v ≡ Some x
    same_in n h f e Start of row v x s = cc
    same_in n h (one_source s out) e (Top t y) of row v x z = z
    same_in n h (passes_on i (one_group piece out)) e Whole of row v x z = z
    same_in n h (visits_below i start path out) e (Found' s q c d) of row v x z =
        let l = inputs_at p.ops typed n h (visits_below i start path out) e in
        else_there (out == v) (Some (s, spot_of d.frame)) (spot_at p.ops (shape_at p.ops i) c v) (spot_below p.ops (shape_at p.ops i) c v) x
        (λ k. same_in i (omega (arith, h, l.0)) (shape_at p.ops i) refl c of.0 of.1 v x k) z
    same_in n h (passes_on i (filters test)) e (Pass' q c) of row v x z =
        let l = inputs_at p.ops typed n h (passes_on i (filters test)) e in same_in i (omega (arith, h, l.0)) (shape_at p.ops i) refl c of.0 of.1 v x z
    same_in n h (passes_on i (extends out made)) e (Pass' q c) of row v x z =
        let l = inputs_at p.ops typed n h (passes_on i (extends out made)) e in same_in i (omega (arith, h, l.0)) (shape_at p.ops i) refl c of.0 of.1 v x z
    same_in n h (passes_on i (first_by_keys keys None)) e (Pass' q c) of row v x z =
        let l = inputs_at p.ops typed n h (passes_on i (first_by_keys keys None)) e in
        same_in i (omega (arith, h, l.0)) (shape_at p.ops i) refl c of.0 of.1 v x (kept_there (has_var keys v) (spot_at p.ops (shape_at p.ops i) c v) x z)
    same_in n h (passes_on i (first_by_keys keys group)) e (First' q c k) of row v x z =
        let l = inputs_at p.ops typed n h (passes_on i (first_by_keys keys group)) e in
        same_in i (omega (arith, h, l.0)) (shape_at p.ops i) refl c of.0 of.1 v x (kept_there (has_var keys v) (spot_at p.ops (shape_at p.ops i) c v) x z)
    same_in n h (passes_on i (first_by_keys keys group)) e (Seen' q c k) of row v x z = cc
    same_in n h (pairs_up l r tests) e (Pair' q a q' b k) of row v x z =
        let g = inputs_at p.ops typed n h (pairs_up l r tests) e in
        pair_there n l r tests h e a of.0 of.1 b of.2 row (omega (arith, h, g.0)) (omega (arith, h, g.1.0)) v x
        (λ y t. same_in l (omega (arith, h, g.0)) (shape_at p.ops l) refl a of.0 of.1 v y t) (λ y t. same_in r (omega (arith, h, g.1.0)) (shape_at p.ops r) refl b of.2 row v y t) (spot_at p.ops (shape_at p.ops l) a v) refl z
    same_in n h (passes_on i (in_order u desc)) e (Sorted' q m list k) of row v x z =
        let l = inputs_at p.ops typed n h (passes_on i (in_order u desc)) e in same_nth i (omega (arith, h, l.0)) list k of.0 of.1 v x z
    same_in n h f e c of row v x z = absurd of

    -- a spot that a variable has in the binding at an index of a sorted list is that which the position there has for it
    same_nth : (i : ℕ) → i < length p.ops → {m : _} (list : Row m) (k : ℕ) → AreIn w p.ops i list → k < count list → (v : ℕ) (x : ℕ × Spot) → spot_nth p.ops i list k v ≡ Some x
        → spot_below_nth p.ops i list k v ≡ Some x
    same_nth i h no_more k of l v x z = absurd (omega (arith, l))
    same_nth i h (one_more q c rest) zero of l v x z = same_in i h (shape_at p.ops i) refl c of.0 of.1 v x z
    same_nth i h (one_more q c rest) (suc k) of l v x z = same_nth i h rest k of.2 (omega (arith, l)) v x z

  -- a variable that holds a node in a position's binding has that node at the position's parts, in this shape
  pub exact_in : (n : ℕ) → n < length p.ops → (f : Shape) → shape_at p.ops n ≡ f → (c : Position) → IsIn w p.ops n f c → IsTrue (has_row c) → (v : ℕ) → kinds p.ops n v ≡ Some a_node
      → node_there w (spot_below p.ops f c v) ≡ row_node (stands w p.ops n f c).row v
  exact_in n h f e c of row v k =
      let s = spot_is p.ops typed w n h f e c of row v k in
      ap (node_there w) (same_in n h f e c of row v (s.source, s.spot) s.is) ∙ sym (ap source_node s.value)

  -- a variable that holds a node in the binding of an operator's cursor has that node at the cursor's parts
  pub exact_at : (n : ℕ) → n < length p.ops → (c : Position) → IsOf w p.ops n c → IsTrue (has_row c) → (v : ℕ) → kinds p.ops n v ≡ Some a_node → nodes_at w p.ops n c v ≡ row_node (binding w p.ops n c) v
  exact_at n h c of row v k = exact_in n h (shape_at p.ops n) refl c of row v k
