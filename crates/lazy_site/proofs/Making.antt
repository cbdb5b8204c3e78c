-- Values where an operator makes them.
use Rattle.std.proofs.Common.{◌≡◌, ◌<◌, ◌≤◌, ◌+◌, inl, inr, ℕ, zero, suc, Bool, true, false, cond, List, [], ◌∷◌, Option, Some, None, length, refl, ◌∙◌, sym, ap, subst, arith}
use Rattle.std.specs.Prelude.{◌==◌, not, slice_index_or}
use Rattle.std.specs.List.{AllByRecursion}
use Rattle.std.proofs.lemmas.Bool.Decides.{nat_tests}
use Rattle.mix_base.proofs.Firsts.{each_weaker}
use Rattle.mix_tree.specs.Keys.{has_var}
use Rattle.mix_tree.specs.declared.var.Key.{Key}
use Rattle.tree_buffer.specs.declared.spot.Spot.{Spot}
use Rattle.plan_core.specs.declared.plan.Piece.{Piece}
use Rattle.plan_core.specs.declared.plan.Piece.TheVariants.{Text as text_piece}
use Rattle.plan_core.specs.declared.plan.Plan.{Plan}
use Rattle.plan_core.specs.PlanMade.{plan_value}
use Rattle.plan_core.specs.Plans.{Operator, source, get_descendants, join, over, tuple_destroy}
use Rattle.plan_core.specs.Unary.{select, order_by, project, group_by, concatenate, create_element}
use Rattle.plan_core.specs.ByNumber.{op_at}
use Rattle.plan_core.specs.Typed.{IsTyped}
use Rattle.plan_core.specs.Valid.{Kind, a_node, an_element, a_list, Kinds, kinds, kept, op_kinds, either_kind, inputs_of}
use Rattle.plan_core.proofs.Groups.{group_kinds}
use Rattle.plan_core.specs.Tolled.{ends}
use Rattle.plan_core.specs.TolledRows.{TolledRow, element, trees, tolled_value, piece_items, all_items, collected}
use Rattle.plan_core.specs.Events.{RowEvents, group_row, group_after}
use Rattle.plan_core.specs.Fronts.{op_stops, stops_over}
use Rattle.lazy_plan.specs.Bench.{BenchState, ops_of, documents, events_of, size_of, IsCursor, binding_at, ahead_at, IsSpotOf, IsUnder, IsMadeOf}
use Rattle.lazy_plan.specs.Groups.{IsGroup}
use Rattle.lazy_binding.specs.declared.position.Position.{Position}
use Rattle.lazy_plan.proofs.Benches.{all_groups}
use Rattle.plan_forms.specs.Forms.{Form, form, input_of, pieces_of, keys_of, label_in, input_at, makes_list, makes_element, gathers_groups}
use Rattle.lazy_site.specs.Sizes.{pieces_count, size, extent, op_extent}
use Rattle.lazy_site.specs.Ids.{Stands}
use Rattle.lazy_site.specs.Origins.{HasGroup, HasMatterOf, IsOriginOf, IsMadeHere, makes}
use Rattle.lazy_site.specs.Ways.{IsBelow, IsHeldAt}
use Rattle.lazy_site.specs.declared.sites.Origin.{Origin}
use Rattle.lazy_site.specs.declared.sites.Origin.TheVariants.{Node, Element, Joined, All, Group as Same}
use Rattle.lazy_site.proofs.Along.{below_twice}
use Rattle.lazy_site.proofs.Numbering as numbering

-- a choice whose test holds is its first part
pub cond_true : {A : Type 0} (b : Bool) (x y : A) → b ≡ true → cond b x y ≡ x
cond_true true x y h = refl
cond_true false x y h = cc

-- a test whose denial fails holds
pub not_other : (b r : Bool) → r ≡ not b → r ≡ false → b ≡ true
not_other true r e h = refl
not_other false r e h = cc

-- a test fails where its opposite holds
pub is_other : (b r : Bool) → r ≡ not b → r ≡ true → b ≡ false
is_other true r e h = cc
is_other false r e h = refl

-- a list whose length was tested to be zero has no members
pub no_items : {X : Type 0} (xs : List X) (len : ℕ) (b : Bool) → len ≡ length xs → b ≡ (len == 0) → b ≡ true → xs ≡ []
no_items [] len b e h t = refl
no_items (x ∷ xs) len b e h t = let z : (len == 0) ≡ true = sym h ∙ t in absurd (grind (arith, nat_tests, e, z))

-- a list whose length is not zero is not empty
pub some_items : {X : Type 0} (xs : List X) (len : ℕ) (b : Bool) → len ≡ length xs → b ≡ (len == 0) → b ≡ false → xs ≡ [] → ⊥
some_items [] len b e h f z = let y : (len == 0) ≡ false = sym h ∙ f in grind (arith, nat_tests, e, y)
some_items (x ∷ xs) len b e h f z = cc

-- NODES

-- a node has a tree, where that is so of the inputs
node_one : (ks : ℕ → Kinds) (of : ℕ → ℕ → ℕ) (bound : ℕ → ℕ) (o : Operator) → AllByRecursion (λ i. (v : ℕ) → ks i v ≡ Some a_node → 1 ≤ of i v) (inputs_of o)
    → (v : ℕ) → op_kinds o ks v ≡ Some a_node → 1 ≤ op_extent bound o of v
node_one ks of bound (source s out) h v e = omega arith
node_one ks of bound (get_descendants i start path out) h v e =
    elim (out == v) as (λ t. cond t (Some a_node) (ks i v) ≡ Some a_node → 1 ≤ cond t 1 (of i v)) [ true ↦ λ g. omega arith | false ↦ λ g. h.0 v g ] e
node_one ks of bound (join l r tests) h v e = either (ks l v) (ks r v) e (h.0 v) (h.1.0 v)
  where
    either : (j k : Option Kind) → either_kind j k ≡ Some a_node → (j ≡ Some a_node → 1 ≤ of l v) → (k ≡ Some a_node → 1 ≤ of r v) → 1 ≤ of l v + of r v
    either None k e f g = let z = g e in omega (arith, z)
    either (Some j) k e f g = let z = f e in omega (arith, z)
node_one ks of bound (over i (select t)) h v e = h.0 v e
node_one ks of bound (over i (order_by w desc)) h v e = h.0 v e
node_one ks of bound (over i (project keys)) h v e =
    elim (has_var keys v) as (λ t. cond t (ks i v) None ≡ Some a_node → 1 ≤ of i v) [ true ↦ λ g. h.0 v g | false ↦ λ g. cc ] e
node_one ks of bound (over i (group_by [] p out)) h v e =
    elim (out == v) as (λ t. cond t (Some a_list) (kept [] (ks i) v) ≡ Some a_node → 1 ≤ cond t (suc (bound i)) (of i v)) [
      | true ↦ λ g. omega arith
      | false ↦ λ f. elim (has_var [] v) as (λ t. cond t (ks i v) None ≡ Some a_node → 1 ≤ of i v) [ true ↦ λ g. h.0 v g | false ↦ λ g. cc ] f
    ] e
node_one ks of bound (over i (group_by (k ∷ keys) p out)) h v e =
    elim (out == v) as (λ t. cond t (Some a_list) (kept (k ∷ keys) (ks i) v) ≡ Some a_node → 1 ≤ cond t (suc (bound i)) (of i v)) [
      | true ↦ λ g. omega arith
      | false ↦ λ f. elim (has_var (k ∷ keys) v) as (λ t. cond t (ks i v) None ≡ Some a_node → 1 ≤ of i v) [ true ↦ λ g. h.0 v g | false ↦ λ g. cc ] f
    ] e
node_one ks of bound (over i (concatenate ps out)) h v e =
    elim (out == v) as (λ t. cond t (Some a_list) (ks i v) ≡ Some a_node → 1 ≤ cond t (pieces_count (of i) ps) (of i v)) [ true ↦ λ g. cc | false ↦ λ g. h.0 v g ] e
node_one ks of bound (over i (create_element l w out)) h v e =
    elim (out == v) as (λ t. cond t (Some an_element) (ks i v) ≡ Some a_node → 1 ≤ cond t 1 (of i v)) [ true ↦ λ g. omega arith | false ↦ λ g. h.0 v g ] e
node_one ks of bound (tuple_destroy i w) h v e = cc

-- a variable of nodes has one tree at least
node_extent : (ops : List Operator) → IsTyped ops → (bound : ℕ → ℕ) (n v : ℕ) → n < length ops → kinds ops n v ≡ Some a_node → 1 ≤ extent bound ops n v
node_extent ops typed bound n v h e = below (suc n) n v (omega arith) h e
  where
    below : (m n v : ℕ) → n < m → n < length ops → kinds ops n v ≡ Some a_node → 1 ≤ extent bound ops n v
    below zero n v l h e = absurd (omega (arith, l))
    below (suc m) n v l h e =
        let inputs = each_weaker (λ i. i < n) (λ i. (w : ℕ) → kinds ops i w ≡ Some a_node → 1 ≤ extent bound ops i w)
        (λ i k w. below m i w (omega (arith, l, k)) (omega (arith, h, k))) (inputs_of (op_at ops n)) (typed.inputs n h) in
        let z = node_one (kinds ops) (extent bound ops) bound (op_at ops n) inputs v (sym (numbering.kind_of ops typed n h (op_at ops n) refl v) ∙ e) in
        let y = numbering.extent_of ops typed n h (op_at ops n) refl bound v in
        omega (arith, z, y)

-- what isn't made holds a node
pub node_here : (p : Plan) (n v : ℕ) → IsMadeHere p n v → makes (op_at (plan_value p).ops n) v ≡ false → kinds (plan_value p).ops n v ≡ Some a_node
node_here p n v (inl h) other = h
node_here p n v (inr m) other = cc

-- a groupBy by keys gathers groups
pub groups_form : (i : ℕ) (keys : List Key) (piece : Piece) (out : ℕ) → (keys ≡ [] → ⊥) → form (over i (group_by keys piece out)) ≡ gathers_groups
groups_form i [] piece out h = absurd (h refl)
groups_form i (k ∷ keys) piece out h = refl

module _ (st : BenchState) (typed : IsTyped (ops_of st)) (n : ℕ) (within : n < length (ops_of st)) (c : Position) (v : ℕ) where
  -- a node variable of an operator is made of a node of a source
  pub node_made : (s : ℕ) (x : Spot) → kinds (ops_of st) n v ≡ Some a_node → IsSpotOf st n c v s x → IsOriginOf st n c v (Node s x)
  node_made s x k h = record {
    origin = h.spot;
    value = h.value;
    kind = k;
    size = omega arith;
    extent = node_extent (ops_of st) typed (size_of st) n v within k;
    rank = omega arith;
    maker = tt;
    matter = tt;
  }

  -- an operator that makes a variable's value makes it also as the one at its number
  makes_here : {o : Operator} → o ≡ op_at (ops_of st) n → makes o v ≡ true → makes (op_at (ops_of st) n) v ≡ true
  makes_here e t = subst (λ (p : Operator). makes p v ≡ true) e t

  -- a groupBy without keys makes the list of all bindings of its input
  pub all_made : (i : ℕ) (keys : List Key) (piece : Piece) (out : ℕ) → over i (group_by keys piece out) ≡ op_at (ops_of st) n → keys ≡ [] → (out == v) ≡ true → IsCursor st n c
      → IsOriginOf st n c v (All n)
  all_made i keys piece out e none t h =
      let o : Operator = over i (group_by [] piece out) in
      let f : o ≡ op_at (ops_of st) n = ap (λ (ks : List Key). over i (group_by ks piece out)) (sym none) ∙ e in
      let k = numbering.kind_of (ops_of st) typed n within o f v in
      let s = numbering.size_of (ops_of st) typed n within o f v ∙ cond_true (out == v) 3 _ t in
      let x = numbering.extent_of (ops_of st) typed n within o f (size_of st) v ∙ cond_true (out == v) (suc (size_of st i)) _ t in
      record {
        origin = record { within = within; is = ap form (sym f) };
        value = ap (λ (r : TolledRow). tolled_value r v) (all_groups st n c h i piece out (sym f)) ∙ cond_true (out == v) _ _ t
            ∙ ap (λ (p : Operator). trees (collected (documents st) (slice_index_or (pieces_of p) 0 (text_piece [])) (events_of st (input_of p)) (ends 0))) f;
        kind = k ∙ cond_true (out == v) _ _ t;
        size = omega (arith, s);
        extent = (let y : size_of st (input_at (ops_of st) n) ≡ size_of st i = ap (λ (p : Operator). size_of st (input_of p)) (sym f) in omega (arith, x, y));
        rank = omega arith;
        maker = makes_here f t;
        matter = tt;
      }

  -- an operator of a form with a cursor of its input stands over that cursor
  stands_over : (o : Operator) (f : Form) (d : Position) → o ≡ op_at (ops_of st) n → form o ≡ f → IsCursor st (input_of o) d → Stands st n f d
  stands_over o f d e h k = record { within = within; is = ap form (sym e) ∙ h; cursor = subst (λ (p : Operator). IsCursor st (input_of p) d) e k }

  -- the binding of a cursor is made of that of the cursor under it, as the operator does
  pub made_by : (o : Operator) (d : Position) → o ≡ op_at (ops_of st) n → IsUnder st n c (input_of o) d → IsMadeOf st (binding_at st n c) (input_of o) (binding_at st (input_of o) d) (ahead_at st (input_of o) d) o
  made_by o d e u = subst (λ (p : Operator). IsMadeOf st (binding_at st n c) (input_of o) (binding_at st (input_of o) d) (ahead_at st (input_of o) d) p) (sym e) u.made

  -- the binding of a group by keys is made of the first binding of the input with these keys
  pub by_keys : (row below : TolledRow) (es : RowEvents) (i : ℕ) (keys : List Key) (piece : Piece) (out : ℕ) → (keys ≡ [] → ⊥) → IsMadeOf st row i below es (over i (group_by keys piece out))
      → row ≡ group_row (documents st) keys (stops_over (ops_of st) i keys) piece out below es
  by_keys row below es i [] piece out some h = absurd (some refl)
  by_keys row below es i (k ∷ keys) piece out some h = h

  -- a groupBy by keys makes a group of the bindings of its input
  pub group_made : (i : ℕ) (keys : List Key) (piece : Piece) (out : ℕ) (d : Position) (number : ℕ) → over i (group_by keys piece out) ≡ op_at (ops_of st) n → (keys ≡ [] → ⊥) → (out == v) ≡ true
      → IsUnder st n c (input_at (ops_of st) n) d → IsGroup st n number d d 0 → HasGroup st n c n d → IsOriginOf st n c v (Same n d number)
  group_made i keys piece out d number e some t under group own =
      let o : Operator = over i (group_by keys piece out) in
      let u = subst (λ (p : Operator). IsUnder st n c (input_of p) d) (sym e) under in
      let k = numbering.kind_of (ops_of st) typed n within o e v ∙ ap (λ (g : Kinds). g v) (group_kinds keys piece out (kinds (ops_of st) i)) in
      let s = numbering.size_of (ops_of st) typed n within o e v ∙ cond_true (out == v) 3 _ t in
      let x = numbering.extent_of (ops_of st) typed n within o e (size_of st) v ∙ cond_true (out == v) (suc (size_of st i)) _ t in
      record {
        origin = (stands_over o gathers_groups d e (groups_form i keys piece out some) u.cursor, group);
        value = ap (λ (r : TolledRow). tolled_value r v) (by_keys (binding_at st n c) (binding_at st i d) (ahead_at st i d) i keys piece out some (made_by o d e u)) ∙ cond_true (out == v) _ _ t
            ∙ ap (λ (p : Operator). trees (piece_items (documents st) (slice_index_or (pieces_of p) 0 (text_piece [])) (binding_at st (input_of p) d)
            (collected (documents st) (slice_index_or (pieces_of p) 0 (text_piece [])) (group_after (documents st) (keys_of p) (op_stops (ops_of st) p) (binding_at st (input_of p) d) (ahead_at st (input_of p) d)) (ends 0)))) e;
        kind = k ∙ cond_true (out == v) _ _ t;
        size = omega (arith, s);
        extent = (let y : size_of st (input_at (ops_of st) n) ≡ size_of st i = ap (λ (p : Operator). size_of st (input_of p)) (sym e) in omega (arith, x, y));
        rank = omega arith;
        maker = makes_here e t;
        matter = own;
      }

  -- a concatenate makes a concatenation of its pieces
  pub list_made : (i : ℕ) (pieces : List Piece) (out : ℕ) (d : Position) → over i (concatenate pieces out) ≡ op_at (ops_of st) n → (out == v) ≡ true → IsUnder st n c i d → IsBelow st n c i d
      → IsOriginOf st n c v (Joined n d)
  list_made i pieces out d e t u below =
      let o : Operator = over i (concatenate pieces out) in
      let k = numbering.kind_of (ops_of st) typed n within o e v in
      let s = numbering.size_of (ops_of st) typed n within o e v ∙ cond_true (out == v) (suc (suc (pieces_count (λ w. suc (size (ops_of st) i w)) pieces))) _ t in
      let x = numbering.extent_of (ops_of st) typed n within o e (size_of st) v ∙ cond_true (out == v) (pieces_count (extent (size_of st) (ops_of st) i) pieces) _ t in
      let sizes = ap (λ (p : Operator). suc (suc (pieces_count (λ w. suc (size (ops_of st) (input_of p) w)) (pieces_of p)))) e in
      let extents = ap (λ (p : Operator). pieces_count (extent (size_of st) (ops_of st) (input_of p)) (pieces_of p)) e in
      record {
        origin = stands_over o makes_list d e refl u.cursor;
        value = ap (λ (r : TolledRow). tolled_value r v) (made_by o d e u) ∙ cond_true (out == v) _ _ t
            ∙ ap (λ (p : Operator). trees (all_items (documents st) (pieces_of p) (binding_at st (input_of p) d) (ends 0))) e;
        kind = k ∙ cond_true (out == v) _ _ t;
        size = omega (arith, s, sizes);
        extent = omega (arith, x, extents);
        rank = omega arith;
        maker = makes_here e t;
        matter = subst (λ (p : Operator). IsBelow st n c (input_of p) d) e below;
      }

  -- a createElement makes an element
  pub element_made : (i : ℕ) (label : List ℕ) (list out : ℕ) (d : Position) → over i (create_element label list out) ≡ op_at (ops_of st) n → (out == v) ≡ true → IsUnder st n c i d
      → IsBelow st n c i d → IsOriginOf st n c v (Element n d)
  element_made i label list out d e t u below =
      let o : Operator = over i (create_element label list out) in
      let k = numbering.kind_of (ops_of st) typed n within o e v in
      let x = numbering.extent_of (ops_of st) typed n within o e (size_of st) v ∙ cond_true (out == v) 1 _ t in
      record {
        origin = stands_over o makes_element d e refl u.cursor;
        value = ap (λ (r : TolledRow). tolled_value r v) (made_by o d e u) ∙ cond_true (out == v) _ _ t
            ∙ ap (λ (p : Operator). element (label_in p) (piece_items (documents st) (slice_index_or (pieces_of p) 0 (text_piece [])) (binding_at st (input_of p) d) (ends 0))) e;
        kind = k ∙ cond_true (out == v) _ _ t;
        size = omega arith;
        extent = omega (arith, x);
        rank = omega arith;
        maker = makes_here e t;
        matter = subst (λ (p : Operator). IsBelow st n c (input_of p) d) e below;
      }

-- what an origin is made of is so from a cursor above, too
matter_held : (st : BenchState) (n m : ℕ) (c d : Position) (r : Origin) → IsBelow st n c m d → HasMatterOf st m d r → HasMatterOf st n c r
matter_held st n m c d (Node s p) b h = tt
matter_held st n m c d (Element op at) b h = below_twice st n m (input_at (ops_of st) op) c d at b h
matter_held st n m c d (Joined op at) b h = below_twice st n m (input_at (ops_of st) op) c d at b h
matter_held st n m c d (All op) b h = tt
matter_held st n m c d (Same op first number) b h = record { keys = λ v t. (let k = h.keys v t in let x = b.held v a_node k.0 in (x.kind ∙ k.0, x.value ∙ k.1)); first = h.first }

-- a value that a variable has from a cursor further down is made where that one is made
pub origin_held : (st : BenchState) (n v m : ℕ) (c d : Position) (r : Origin) → IsHeldAt st n c v m d → IsBelow st n c m d → IsOriginOf st m d v r → IsOriginOf st n c v r
origin_held st n v m c d r h b o = record {
  origin = o.origin;
  value = h.value ∙ o.value;
  kind = h.kind ∙ o.kind;
  size = (let x = h.size in let y = o.size in omega (arith, x, y));
  extent = (let x = h.extent in let y = o.extent in omega (arith, x, y));
  rank = (let x = h.within in let y = o.rank in omega (arith, x, y));
  maker = o.maker;
  matter = matter_held st n m c d r b o.matter;
}
