-- The sources of the nodes that variables hold.
use Rattle.std.proofs.Common.{◌≡◌, ◌<◌, ℕ, zero, suc, Bool, true, false, cond, List, [], ◌∷◌, Option, Some, None, length, refl, ◌∙◌, sym, ap, arith}
use Rattle.std.specs.Prelude.{IsTrue, ◌==◌}
use Rattle.std.specs.List.{AllByRecursion}
use Rattle.mix_tree.specs.Keys.{has_var}
use Rattle.mix_tree.specs.Nodes.{Node}
use Rattle.mix_tree.specs.declared.var.Key.{Key}
use Rattle.tree_buffer.specs.declared.spot.Spot.{Spot}
use Rattle.lazy_descend.specs.Cursors.{spot_of}
use Rattle.plan_core.specs.declared.plan.Piece.{Piece}
use Rattle.plan_core.specs.Plans.{Operator, source, get_descendants, join, over, tuple_destroy}
use Rattle.plan_core.specs.Unary.{group_by}
use Rattle.plan_core.specs.ByNumber.{op_at}
use Rattle.plan_core.specs.Shapes.{Stage, filters, extends, first_by_keys, one_group, in_order, Shape, one_source, visits_below, pairs_up, passes_on, no_events, stage_of, shape_of, shape_at}
use Rattle.plan_core.specs.Typed.{IsTyped}
use Rattle.plan_core.specs.Valid.{Kind, a_node, a_list, Kinds, kinds, no_kinds, kept, made_kind, either_kind, stage_kinds, shape_kinds, IsShapeFit, shape_inputs}
use Rattle.plan_core.specs.TolledRows.{row_node, source_node}
use Rattle.mix_base.proofs.Firsts.{each_weaker}
use Rattle.plan_core.proofs.Numbers.{ReadsInputs, by_number-is}
use Rattle.lazy_binding.specs.declared.position.Position.{Position, Start, Top, Whole, Found', Pass', First', Seen', Pair', Sorted', Row_of-Position-Sorted-0-1 as Row, end_of-Position-Sorted-0-1 as no_more, more_of-Position-Sorted-0-1 as one_more}
use Rattle.lazy_binding.specs.World.{World}
use Rattle.lazy_binding.specs.Cursors.{binding, IsIn, AreIn, IsOf, count, has_row}
use Rattle.lazy_binding.specs.Spots.{spot_at, spot_in, spot_nth, or_else}
use Rattle.lazy_binding.specs.Unders.{or_other, stage_source, shape_source, source_var}
use Rattle.lazy_binding.proofs.Bound.{with_other, no_list, no_node, kinds_at, inputs_at, fit_at}
use Rattle.lazy_binding.proofs.Spots.{spot_is}

-- the source of an operator's variable reads of others only those of its inputs' variables
source-reads : ReadsInputs (λ o. shape_source (shape_of o))
source-reads (source s out) a b h = refl
source-reads (get_descendants input start path out) a b h = ap (λ (f : ℕ → Option ℕ). λ v. cond (out == v) (f start) (f v)) h.0
source-reads (join left right tests) a b h =
    ap {B = ℕ → Option ℕ} (λ (f : ℕ → Option ℕ). λ v. or_other (f v) (a right v)) h.0 ∙ ap {B = ℕ → Option ℕ} (λ (f : ℕ → Option ℕ). λ v. or_other (b left v) (f v)) h.1.0
source-reads (over input op) a b h = ap (stage_source (stage_of op)) h.0
source-reads (tuple_destroy input made) a b h = refl

module _ (ops : List Operator) (typed : IsTyped ops) (n : ℕ) (within : n < length ops) (f : Shape) (e : shape_at ops n ≡ f) where
  -- the source of a variable of an operator is that of its shape, from those of the inputs' variables
  pub source_at : (v : ℕ) → source_var ops n v ≡ shape_source f (source_var ops) v
  unfolding source_var
  source_at v = ap (λ (g : ℕ → Option ℕ). g v) (by_number-is (λ o. shape_source (shape_of o)) (λ v. None) ops n source-reads (typed.inputs n within))
      ∙ ap (λ (g : Shape). shape_source g (source_var ops) v) e

-- the source of a variable of operator n is that of its shape, by its inputs' variables
pub source_var-of : (ops : List Operator) → IsTyped ops → (n : ℕ) → n < length ops → (o : Operator) (v : ℕ) → o ≡ op_at ops n → source_var ops n v ≡ shape_source (shape_of o) (source_var ops) v
source_var-of ops typed n h o v e = source_at ops typed n h (shape_of o) (sym (ap shape_of e)) v

-- a groupBy keeps the sources of its keys, be there any or none
pub group_source : (keys : List Key) (piece : Piece) (out : ℕ) (of : ℕ → Option ℕ) (v : ℕ) → stage_source (stage_of (group_by keys piece out)) of v ≡ cond (has_var keys v) (of v) None
group_source [] piece out of v = refl
group_source (k ∷ keys) piece out of v = refl

-- the source of an optional spot
abbrev source_in : Option (ℕ × Spot) → Option ℕ
source_in None = None
source_in (Some p) = Some p.0

-- the source of the first of two spots that is there is the first of their sources that is there
source_either : (p q : Option (ℕ × Spot)) → source_in (or_else p q) ≡ or_other (source_in p) (source_in q)
source_either None q = refl
source_either (Some p) q = refl

-- the source of a new spot or another is the new source or the other's
source_new : (b : Bool) (p q : Option (ℕ × Spot)) → source_in (cond b p q) ≡ cond b (source_in p) (source_in q)
source_new true p q = refl
source_new false p q = refl

module _ (ops : List Operator) (typed : IsTyped ops) (w : World) where
  mutual
    -- the source of a variable's spot is that of the variable
    pub source_is : (n : ℕ) → n < length ops → (f : Shape) → shape_at ops n ≡ f → (c : Position) → IsIn w ops n f c → IsTrue (has_row c) → (v : ℕ) → source_in (spot_at ops f c v) ≡ source_var ops n v
    source_is n h f e Start of row v = cc
    source_is n h (one_source s out) e (Top t x) of row v =
        source_new (out == v) (Some (t, x)) None ∙ ap (λ (z : ℕ). cond (out == v) (Some z) None) of.0 ∙ sym (source_at ops typed n h (one_source s out) e v)
    source_is n h (passes_on i (one_group p out)) e Whole of row v = sym (source_at ops typed n h (passes_on i (one_group p out)) e v)
    source_is n h (visits_below i start path out) e (Found' s q c d) of row v =
        let l = inputs_at ops typed n h (visits_below i start path out) e in
        let small : i < length ops = omega (arith, h, l.0) in
        let x = spot_is ops typed w i small (shape_at ops i) refl c of.0 of.1 start (fit_at ops typed n h (visits_below i start path out) e).0 in
        let here : x.source ≡ s = sym (ap (λ (y : Node). y.source) (ap source_node x.value)) ∙ of.2 in
        let begun : Some s ≡ source_var ops i start = sym (ap Some here) ∙ sym (ap source_in x.is) ∙ source_is i small (shape_at ops i) refl c of.0 of.1 start in
        source_new (out == v) (Some (s, spot_of d.frame)) (spot_in ops i c v)
        ∙ ap (λ (z : Option ℕ). cond (out == v) z (source_in (spot_in ops i c v))) begun
        ∙ ap (cond (out == v) (source_var ops i start)) (source_is i small (shape_at ops i) refl c of.0 of.1 v)
        ∙ sym (source_at ops typed n h (visits_below i start path out) e v)
    source_is n h (passes_on i (filters test)) e (Pass' q c) of row v =
        let l = inputs_at ops typed n h (passes_on i (filters test)) e in
        source_is i (omega (arith, h, l.0)) (shape_at ops i) refl c of.0 of.1 v ∙ sym (source_at ops typed n h (passes_on i (filters test)) e v)
    source_is n h (passes_on i (extends out made)) e (Pass' q c) of row v =
        let l = inputs_at ops typed n h (passes_on i (extends out made)) e in
        source_is i (omega (arith, h, l.0)) (shape_at ops i) refl c of.0 of.1 v ∙ sym (source_at ops typed n h (passes_on i (extends out made)) e v)
    source_is n h (passes_on i (first_by_keys keys None)) e (Pass' q c) of row v =
        let l = inputs_at ops typed n h (passes_on i (first_by_keys keys None)) e in
        source_new (has_var keys v) (spot_in ops i c v) None
        ∙ ap (λ (z : Option ℕ). cond (has_var keys v) z None) (source_is i (omega (arith, h, l.0)) (shape_at ops i) refl c of.0 of.1 v)
        ∙ sym (source_at ops typed n h (passes_on i (first_by_keys keys None)) e v)
    source_is n h (passes_on i (first_by_keys keys group)) e (First' q c k) of row v =
        let l = inputs_at ops typed n h (passes_on i (first_by_keys keys group)) e in
        source_new (has_var keys v) (spot_in ops i c v) None
        ∙ ap (λ (z : Option ℕ). cond (has_var keys v) z None) (source_is i (omega (arith, h, l.0)) (shape_at ops i) refl c of.0 of.1 v)
        ∙ sym (source_at ops typed n h (passes_on i (first_by_keys keys group)) e v)
    source_is n h (passes_on i (in_order u desc)) e (Sorted' q z list m) of row v =
        let l = inputs_at ops typed n h (passes_on i (in_order u desc)) e in
        source_nth i (omega (arith, h, l.0)) list m of.0 of.1 v ∙ sym (source_at ops typed n h (passes_on i (in_order u desc)) e v)
    source_is n h (passes_on i (first_by_keys keys group)) e (Seen' q c k) of row v = cc
    source_is n h (pairs_up l r tests) e (Pair' q x q' y m) of row v =
        let z = inputs_at ops typed n h (pairs_up l r tests) e in
        source_either (spot_in ops l x v) (spot_in ops r y v)
        ∙ ap (λ (p : Option ℕ). or_other p (source_in (spot_in ops r y v))) (source_is l (omega (arith, h, z.0)) (shape_at ops l) refl x of.0 of.1 v)
        ∙ ap (or_other (source_var ops l v)) (source_is r (omega (arith, h, z.1.0)) (shape_at ops r) refl y of.2 row v)
        ∙ sym (source_at ops typed n h (pairs_up l r tests) e v)
    source_is n h f e c of row v = absurd of

    -- the source of the spot of a variable at an index of a sorted list is that of the variable
    source_nth : (i : ℕ) → i < length ops → {z : _} (list : Row z) (m : ℕ) → AreIn w ops i list → m < count list → (v : ℕ) → source_in (spot_nth ops i list m v) ≡ source_var ops i v
    source_nth i h no_more m of l v = absurd (omega (arith, l))
    source_nth i h (one_more q c rest) zero of l v = source_is i h (shape_at ops i) refl c of.0 of.1 v
    source_nth i h (one_more q c rest) (suc m) of l v = source_nth i h rest m of.2 (omega (arith, l)) v

  -- the source of the node that a variable holds in a cursor's binding is that of the variable
  pub node_source : (n : ℕ) → n < length ops → (c : Position) → IsOf w ops n c → IsTrue (has_row c) → (v : ℕ) → kinds ops n v ≡ Some a_node
      → source_var ops n v ≡ Some ((row_node (binding w ops n c) v).source)
  node_source n h c of row v k =
      let x = spot_is ops typed w n h (shape_at ops n) refl c of row v k in
      sym (source_is n h (shape_at ops n) refl c of row v) ∙ ap source_in x.is ∙ ap Some (sym (ap (λ (y : Node). y.source) (ap source_node x.value)))

-- two sources that are there and equal are one
pub same_some : (x y : ℕ) → Some x ≡ Some y → x ≡ y
same_some x y e = cc

-- a node variable of both sides together has a source
either_source : (j k : Option Kind) (p q : Option ℕ) → either_kind j k ≡ Some a_node → (j ≡ Some a_node → (s : ℕ) × (p ≡ Some s)) → (k ≡ Some a_node → (s : ℕ) × (q ≡ Some s)) → (s : ℕ) × (or_other p q ≡ Some s)
either_source (Some j) k (Some x) q e f g = (x, refl)
either_source (Some j) k None q e f g = let z = f e in let y : None ≡ Some z.0 = z.1 in cc
either_source None k (Some x) q e f g = (x, refl)
either_source None k None q e f g = g e

-- where a variable kept by keys is of a node, it has a source, if it has one below
kept_source : (keys : List Key) (kinds : Kinds) (of : ℕ → Option ℕ) (v : ℕ) → kept keys kinds v ≡ Some a_node → (kinds v ≡ Some a_node → (s : ℕ) × (of v ≡ Some s)) → (s : ℕ) × (cond (has_var keys v) (of v) None ≡ Some s)
kept_source keys kinds of v e f = elim (has_var keys v) as (λ t. cond t (kinds v) None ≡ Some a_node → (z : ℕ) × (cond t (of v) None ≡ Some z)) [ true ↦ λ g. f g | false ↦ λ g. cc ] e

-- what holds a node after a stage is of a source, where that is so of the input
stage_kind : (f : Stage) (kinds : Kinds) (of : ℕ → Option ℕ) → ((v : ℕ) → kinds v ≡ Some a_node → (s : ℕ) × (of v ≡ Some s)) → (v : ℕ) → stage_kinds f kinds v ≡ Some a_node → (s : ℕ) × (stage_source f of v ≡ Some s)
stage_kind (filters test) kinds of h v e = h v e
stage_kind (extends out made) kinds of h v e = h v (with_other out v (made_kind made) kinds (no_node made) e).1
stage_kind (first_by_keys keys None) kinds of h v e = kept_source keys kinds of v e (h v)
stage_kind (first_by_keys keys (Some g)) kinds of h v e = kept_source keys kinds of v (with_other g.1 v a_list (kept keys kinds) no_list e).1 (h v)
stage_kind (one_group p out) kinds of h v e = (let z : None ≡ Some a_node = (with_other out v a_list no_kinds no_list e).1 in cc)
stage_kind (in_order w desc) kinds of h v e = h v e

-- what holds a node is of a source, where that is so of the inputs
source_kind : (kinds_of : ℕ → Kinds) (sources : ℕ → ℕ → Option ℕ) (f : Shape) → IsShapeFit f kinds_of → AllByRecursion (λ i. (v : ℕ) → kinds_of i v ≡ Some a_node → (s : ℕ) × (sources i v ≡ Some s)) (shape_inputs f)
    → (v : ℕ) → shape_kinds f kinds_of v ≡ Some a_node → (s : ℕ) × (shape_source f sources v ≡ Some s)
source_kind of src (one_source s out) fit h v e = elim (out == v) as (λ t. cond t (Some a_node) None ≡ Some a_node → (z : ℕ) × (cond t (Some s) None ≡ Some z)) [ true ↦ λ g. (s, refl) | false ↦ λ g. cc ] e
source_kind of src (visits_below i start path out) fit h v e =
    elim (out == v) as (λ t. cond t (Some a_node) (of i v) ≡ Some a_node → (z : ℕ) × (cond t (src i start) (src i v) ≡ Some z)) [ true ↦ λ g. h.0 start fit.0 | false ↦ λ g. h.0 v g ] e
source_kind of src (pairs_up l r tests) fit h v e = either_source (of l v) (of r v) (src l v) (src r v) e (h.0 v) (h.1.0 v)
source_kind of src (passes_on i stage) fit h v e = stage_kind stage (of i) (src i) h.0 v e
source_kind of src (no_events i w) fit h v e = cc

-- what holds a node is of a source
pub kind_source : (ops : List Operator) → IsTyped ops → (n v : ℕ) → n < length ops → kinds ops n v ≡ Some a_node → (s : ℕ) × (source_var ops n v ≡ Some s)
kind_source ops typed n v h e = below (suc n) n v (omega arith) h e
  where
    below : (m n v : ℕ) → n < m → n < length ops → kinds ops n v ≡ Some a_node → (s : ℕ) × (source_var ops n v ≡ Some s)
    below zero n v l h e = absurd (omega (arith, l))
    below (suc m) n v l h e =
        let inputs = each_weaker (λ i. i < n) (λ i. (w : ℕ) → kinds ops i w ≡ Some a_node → (s : ℕ) × (source_var ops i w ≡ Some s))
        (λ i k w. below m i w (omega (arith, l, k)) (omega (arith, h, k))) (shape_inputs (shape_at ops n)) (typed.inputs n h) in
        let z = source_kind (kinds ops) (source_var ops) (shape_at ops n) (typed.fit n h) inputs v (sym (ap (λ (g : Kinds). g v) (kinds_at ops typed n h (shape_at ops n) refl)) ∙ e) in
        (z.0, source_at ops typed n h (shape_at ops n) refl v ∙ z.1)
