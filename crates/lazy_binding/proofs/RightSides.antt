-- The variables of a join's right side alone, which the left side has no spots of.
use Rattle.std.proofs.Common.{◌≡◌, ◌<◌, ◌+◌, ◌-◌, ◌||◌, ℕ, zero, suc, Bool, true, false, cond, List, [], ◌∷◌, Option, Some, None, length, map, take, drop, get_or, refl, ◌∙◌, sym, ap, arith}
use Rattle.std.specs.Prelude.{◌==◌, is_some}
use Rattle.std.specs.List.{list_any}
use Rattle.std.specs.Cmp.{unsigned_Decides}
use Rattle.mix_tree.specs.Keys.{has_var}
use Rattle.mix_tree.specs.declared.var.Key.{Key}
use Rattle.mix_tree.specs.declared.comparing.Test.{Test}
use Rattle.plan_core.specs.declared.plan.Op.{Op}
use Rattle.plan_core.specs.declared.plan.Piece.{Piece}
use Rattle.plan_core.specs.Plans.{Operator}
use Rattle.plan_core.specs.PlanMade.{op_of}
use Rattle.plan_core.specs.Typed.{IsTyped}
use Rattle.plan_core.specs.Valid.{Kind, Kinds, kinds, kept, a_list, a_node, no_kinds, made_kind, stage_kinds}
use Rattle.plan_core.specs.Shapes.{Shape, one_source, visits_below, pairs_up, filters, extends, first_by_keys, in_order, shape_of, shape_at, passes_on}
use Rattle.plan_core.proofs.Numbers.{op_read}
use Rattle.lazy_descend.specs.Cursors.{spot_of}
use Rattle.tree_buffer.specs.declared.spot.Spot.{Spot}
use Rattle.lazy_binding.specs.declared.position.Position.{Position, Top, Found', Pass', First', Pair', Sorted', Row_of-Position-Sorted-0-1 as Row, end_of-Position-Sorted-0-1 as no_more, more_of-Position-Sorted-0-1 as one_more}
use Rattle.lazy_binding.specs.Spots.{spot_at, spot_in, spot_nth, or_else}
use Rattle.lazy_binding.specs.Sides.{with_other, others, node_var, shape_right, right_vars}
use Rattle.lazy_binding.proofs.Bound.{with_none, either_none, kinds_at, inputs_at}
use Rattle.lazy_binding.proofs.FirstLists.{take_map}

-- a mapped list without its first elements is the list without them, mapped
drop_map : {X Y : Type 0} (f : X → Y) (xs : List X) (few : ℕ) → drop few (map f xs) ≡ map f (drop few xs)
drop_map f xs zero = refl
drop_map f [] (suc few) = refl
drop_map f (x ∷ xs) (suc few) = drop_map f xs few

-- the shape of an operator as it is read
shape_read : (ops : List Op) (n : ℕ) (x : Op) (f : Shape) → n < length ops → x ≡ get_or ops n x → shape_of (op_of x) ≡ f → shape_at (map op_of ops) n ≡ f
shape_read ops n x f l e s = ap shape_of (op_read ops n x l e) ∙ s

-- the left side of a join stands before it
pub left_before : (ops : List Op) (n l r : ℕ) (tests : List Test) (x : Op) → IsTyped (map op_of ops) → n < length (map op_of ops) → n < length ops → x ≡ get_or ops n x
    → shape_of (op_of x) ≡ pairs_up l r tests → l < n
left_before ops n l r tests x typed within inside e s = (inputs_at (map op_of ops) typed n within (pairs_up l r tests) (shape_read ops n x (pairs_up l r tests) inside e s)).0

-- the operators between a join's left side and it
pub between : (ops : List Op) (n l r : ℕ) (tests : List Test) (x : Op) → n < length ops → x ≡ get_or ops n x → shape_of (op_of x) ≡ pairs_up l r tests
    → others (kinds (map op_of ops) l) (map op_of (take (n - (l + 1)) (drop (l + 1) ops))) ≡ right_vars (map op_of ops) n
between ops n l r tests x inside e s =
    let one : l + 1 ≡ suc l = omega arith in
    ap (λ (z : ℕ). others (kinds (map op_of ops) l) (map op_of (take (n - z) (drop z ops)))) one
    ∙ ap (others (kinds (map op_of ops) l)) (sym (take_map op_of (drop (suc l) ops) (n - suc l)) ∙ ap (take (n - suc l)) (sym (drop_map op_of ops (suc l))))
    ∙ ap (shape_right (map op_of ops) n) (sym (shape_read ops n x (pairs_up l r tests) inside e s))

-- a kind that is not there is missing
none_is : (k : Option Kind) → is_some k ≡ false → k ≡ None
none_is None e = refl
none_is (Some k) e = cc

-- a variable among those that a side does not bind is not bound by it
pub other_lacks : (side : Kinds) (os : List Operator) (v : ℕ) → list_any (λ u. u == v) (others side os) ≡ true → side v ≡ None
other_lacks side [] v h = cc
other_lacks side (o ∷ os) v h = by_var (node_var (shape_of o)) (other_lacks side os v) h
  where
    by_one : (u : ℕ) (t : Bool) → (u == v) ≡ t → is_some (side u) ≡ false → (list_any (λ w. w == v) (others side os) ≡ true → side v ≡ None)
        → t || list_any (λ w. w == v) (others side os) ≡ true → side v ≡ None
    by_one u true k e more g = ap side (sym ((unsigned_Decides u v).0 k)) ∙ none_is (side u) e
    by_one u false k e more g = more g

    by_test : (u : ℕ) (b : Bool) → is_some (side u) ≡ b → (list_any (λ w. w == v) (others side os) ≡ true → side v ≡ None)
        → list_any (λ w. w == v) (cond b (others side os) (u ∷ others side os)) ≡ true → side v ≡ None
    by_test u true e more g = more g
    by_test u false e more g = by_one u (u == v) refl e more g

    by_var : (u : Option ℕ) → (list_any (λ w. w == v) (others side os) ≡ true → side v ≡ None) → list_any (λ w. w == v) (with_other side u (others side os)) ≡ true → side v ≡ None
    by_var None more g = more g
    by_var (Some u) more g = by_test u (is_some (side u)) refl more g

module _ (ops : List Operator) (typed : IsTyped ops) where
  -- what first bindings by keys don't bind is not bound below, or is none of the keys
  kept_none : (keys : List Key) (of : Kinds) (v : ℕ) (there : Option (ℕ × Spot)) → kept keys of v ≡ None → (of v ≡ None → there ≡ None) → cond (has_var keys v) there None ≡ None
  kept_none keys of v there h g = elim (has_var keys v) as (λ t. cond t (of v) None ≡ None → cond t there None ≡ None) [ true ↦ λ e. g e | false ↦ λ e. refl ] h

  -- what first bindings by keys, with or without a list, don't bind has no spot, where what isn't bound by the input has none
  first_none : (keys : List Key) (group : Option (Piece × ℕ)) (of : Kinds) (v : ℕ) (there : Option (ℕ × Spot)) → stage_kinds (first_by_keys keys group) of v ≡ None → (of v ≡ None → there ≡ None)
      → cond (has_var keys v) there None ≡ None
  first_none keys None of v there h g = kept_none keys of v there h g
  first_none keys (Some group) of v there h g = kept_none keys of v there (with_none group.1 v a_list (kept keys of) h).1 g

  mutual
    -- no position of an operator has a spot of a variable that the operator doesn't bind
    pub no_spot : (n : ℕ) → n < length ops → (f : Shape) → shape_at ops n ≡ f → (c : Position) (v : ℕ) → kinds ops n v ≡ None → spot_at ops f c v ≡ None
    no_spot n h (one_source s out) e (Top t x) v k =
        let z = with_none out v a_node no_kinds (sym (ap (λ (g : Kinds). g v) (kinds_at ops typed n h (one_source s out) e)) ∙ k) in
        ap (λ (b : Bool). cond b (Some (t, x)) None) z.0
    no_spot n h (visits_below i start path out) e (Found' s q c d) v k =
        let z = with_none out v a_node (kinds ops i) (sym (ap (λ (g : Kinds). g v) (kinds_at ops typed n h (visits_below i start path out) e)) ∙ k) in
        let l = inputs_at ops typed n h (visits_below i start path out) e in
        ap (λ (b : Bool). cond b (Some (s, spot_of d.frame)) (spot_in ops i c v)) z.0 ∙ no_spot i (omega (arith, h, l.0)) (shape_at ops i) refl c v z.1
    no_spot n h (passes_on i (filters test)) e (Pass' q c) v k =
        let l = inputs_at ops typed n h (passes_on i (filters test)) e in
        no_spot i (omega (arith, h, l.0)) (shape_at ops i) refl c v (sym (ap (λ (g : Kinds). g v) (kinds_at ops typed n h (passes_on i (filters test)) e)) ∙ k)
    no_spot n h (passes_on i (extends out made)) e (Pass' q c) v k =
        let z = with_none out v (made_kind made) (kinds ops i) (sym (ap (λ (g : Kinds). g v) (kinds_at ops typed n h (passes_on i (extends out made)) e)) ∙ k) in
        let l = inputs_at ops typed n h (passes_on i (extends out made)) e in
        no_spot i (omega (arith, h, l.0)) (shape_at ops i) refl c v z.1
    no_spot n h (passes_on i (first_by_keys keys group)) e (Pass' q c) v k =
        let l = inputs_at ops typed n h (passes_on i (first_by_keys keys group)) e in
        first_none keys group (kinds ops i) v (spot_in ops i c v) (sym (ap (λ (g : Kinds). g v) (kinds_at ops typed n h (passes_on i (first_by_keys keys group)) e)) ∙ k)
        (no_spot i (omega (arith, h, l.0)) (shape_at ops i) refl c v)
    no_spot n h (passes_on i (first_by_keys keys group)) e (First' q c m) v k =
        let l = inputs_at ops typed n h (passes_on i (first_by_keys keys group)) e in
        first_none keys group (kinds ops i) v (spot_in ops i c v) (sym (ap (λ (g : Kinds). g v) (kinds_at ops typed n h (passes_on i (first_by_keys keys group)) e)) ∙ k)
        (no_spot i (omega (arith, h, l.0)) (shape_at ops i) refl c v)
    no_spot n h (pairs_up l r tests) e (Pair' q x q' y m) v k =
        let g = inputs_at ops typed n h (pairs_up l r tests) e in
        let both = either_none (kinds ops l v) (kinds ops r v) (sym (ap (λ (y : Kinds). y v) (kinds_at ops typed n h (pairs_up l r tests) e)) ∙ k) in
        ap (λ (z : Option (ℕ × Spot)). or_else z (spot_in ops r y v)) (no_spot l (omega (arith, h, g.0)) (shape_at ops l) refl x v both.0)
        ∙ no_spot r (omega (arith, h, g.1.0)) (shape_at ops r) refl y v both.1
    no_spot n h (passes_on i (in_order u desc)) e (Sorted' q z list m) v k =
        let l = inputs_at ops typed n h (passes_on i (in_order u desc)) e in
        no_spot_nth i (omega (arith, h, l.0)) list m v (sym (ap (λ (g : Kinds). g v) (kinds_at ops typed n h (passes_on i (in_order u desc)) e)) ∙ k)
    no_spot n h f e c v k = refl

    -- no member of a sorted list has a spot of a variable that the operator doesn't bind
    no_spot_nth : (i : ℕ) → i < length ops → {z : _} (list : Row z) (m v : ℕ) → kinds ops i v ≡ None → spot_nth ops i list m v ≡ None
    no_spot_nth i h no_more m v k = refl
    no_spot_nth i h (one_more q c rest) zero v k = no_spot i h (shape_at ops i) refl c v k
    no_spot_nth i h (one_more q c rest) (suc m) v k = no_spot_nth i h rest m v k

  -- the spot of a variable of the right side alone in a pair is that in its right part
  pub right_spot : (n l r : ℕ) (tests : List Test) (q q' : _) (x y : Position) (m v : ℕ) → n < length ops → shape_at ops n ≡ pairs_up l r tests → list_any (λ u. u == v) (right_vars ops n) ≡ true
      → spot_in ops r y v ≡ spot_in ops n (Pair' q x q' y m) v
  right_spot n l r tests q q' x y m v h e g =
      let z = inputs_at ops typed n h (pairs_up l r tests) e in
      let lacks = other_lacks (kinds ops l) (take (n - suc l) (drop (suc l) ops)) v (ap (λ (f : Shape). list_any (λ u. u == v) (shape_right ops n f)) (sym e) ∙ g) in
      ap (λ (t : Option (ℕ × Spot)). or_else t (spot_in ops r y v)) (sym (no_spot l (omega (arith, h, z.0)) (shape_at ops l) refl x v lacks))
      ∙ ap (λ (f : Shape). spot_at ops f (Pair' q x q' y m) v) (sym e)
