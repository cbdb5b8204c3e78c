-- What an operator binds, where it binds a list or an element that an operator below made, it binds as that one does.
use Rattle.std.proofs.Common.{◌≡◌, ◌⊎◌, inl, inr, ℕ, zero, suc, ◌<◌, true, false, cond, List, [], ◌∷◌, Option, Some, None, refl, sym, ap, subst, ◌∙◌, arith, length}
use Rattle.std.specs.Prelude.{Bool, ◌==◌, IfSome}
use Rattle.std.specs.List.{list_any}
use Rattle.std.proofs.lemmas.Bool.{eqb-true}
use Rattle.mix_base.proofs.Choices.{some_is, none_some}
use Rattle.mix_base.specs.Ascents.{Among}
use Rattle.mix_tree.specs.Keys.{has_var}
use Rattle.mix_tree.specs.declared.var.Key.{Key}
use Rattle.plan_core.specs.ByNumber.{op_at}
use Rattle.plan_core.specs.Plans.{Operator, source, get_descendants, join, over, tuple_destroy, PlanValue}
use Rattle.plan_core.specs.Unary.{select, order_by, project, group_by, concatenate, create_element}
use Rattle.plan_core.specs.Shapes.{an_element_of, Stage, filters, extends, first_by_keys, one_group, in_order, Shape, one_source, visits_below, pairs_up, passes_on, no_events, shape_of, shape_at}
use Rattle.plan_core.specs.Typed.{IsTyped}
use Rattle.plan_core.specs.Valid.{Kind, a_node, a_list, Kinds, no_kinds, with_kind, kept, made_kind, either_kind, AreNodes, IsShapeFit, shape_kinds, shape_inputs, shape_outs, outs_of, IsFit, kinds, IsValid}
use Rattle.plan_core.proofs.Fresh.{bound_once, smaller, kinds-is, sides_fresh}
use Rattle.plan_evidence.specs.Named.{maker}
use Rattle.plan_evidence.proofs.Evident.{way_bound}
use Rattle.plan_evidence.proofs.HeldApart.{anew}
use Rattle.plan_evidence.proofs.Ways.{among_is, way_inputs}
use Rattle.plan_forms.specs.Forms.{input_at, keys_of}
use Rattle.lazy_follow.specs.Scope.{InScope}
use Rattle.lazy_follow.proofs.Nodes.{stage_no_node}

-- a variable that is bound with one more is that one, of its kind, or was bound
with_split : (out v : ℕ) (k : Kind) (ks : Kinds) (kind : Kind) → with_kind out k ks v ≡ Some kind → ((v ≡ out) × (k ≡ kind)) ⊎ (ks v ≡ Some kind)
with_split out v k ks kind e =
    (elim (out == v) as (λ t. (out == v) ≡ t → cond t (Some k) (ks v) ≡ Some kind → ((v ≡ out) × (k ≡ kind)) ⊎ (ks v ≡ Some kind)) [
      | true ↦ λ q g. inl (sym (eqb-true out v q), some_is k kind g)
      | false ↦ λ q g. inr g
    ]) refl e

-- what was bound is bound with one more that wasn't
with_in : (out : ℕ) (k : Kind) (ks : Kinds) → ks out ≡ None → (v : ℕ) (kind : Kind) → ks v ≡ Some kind → with_kind out k ks v ≡ Some kind
with_in out k ks fresh v kind e =
    (elim (out == v) as (λ t. (out == v) ≡ t → cond t (Some k) (ks v) ≡ Some kind) [
      | true ↦ λ q. none_some kind (sym fresh ∙ ap ks (eqb-true out v q) ∙ e)
      | false ↦ λ q. e
    ]) refl

-- a variable of a key that is bound was bound
kept_split : (keys : List Key) (ks : Kinds) (v : ℕ) (kind : Kind) → kept keys ks v ≡ Some kind → (has_var keys v ≡ true) × (ks v ≡ Some kind)
kept_split keys ks v kind e =
    (elim (has_var keys v) as (λ t. has_var keys v ≡ t → cond t (ks v) None ≡ Some kind → (has_var keys v ≡ true) × (ks v ≡ Some kind)) [
      | true ↦ λ q g. (q, g)
      | false ↦ λ q g. none_some kind g
    ]) refl e

-- a shape binds all that its input j binds
abbrev PassesAll : Shape → ℕ → Type 0
PassesAll (one_source s out) j = ⊥
PassesAll (visits_below input start path out) j = j ≡ input
PassesAll (pairs_up left right tests) j = (j ≡ left) ⊎ (j ≡ right)
PassesAll (passes_on input (filters test)) j = j ≡ input
PassesAll (passes_on input (extends out made)) j = j ≡ input
PassesAll (passes_on input (first_by_keys keys group)) j = ⊥
PassesAll (passes_on input (one_group piece out)) j = ⊥
PassesAll (passes_on input (in_order v desc)) j = j ≡ input
PassesAll (no_events input made) j = ⊥

-- an input of a shape that passes all binds a variable to a value of this kind
record FromInput (f : Shape) (of : ℕ → Kinds) (v : ℕ) (kind : Kind) : Type 0 where
  input : ℕ
  among : Among input (shape_inputs f)
  passes : PassesAll f input
  bound : of input v ≡ Some kind

-- what keys of nodes keep is a node
kept_node : (keys : List Key) (ks : Kinds) (v : ℕ) (kind : Kind) → AreNodes keys ks → (kind ≡ a_node → ⊥) → kept keys ks v ≡ Some kind → ⊥
kept_node keys ks v kind nodes other e = (let h = kept_split keys ks v kind e in other (some_is kind a_node (sym h.1 ∙ nodes v h.0)))

-- a variable that holds no node is bound anew by a shape, or by an input of which the shape passes all
from_shape : (f : Shape) (of : ℕ → Kinds) → IsShapeFit f of → (v : ℕ) (kind : Kind) → (kind ≡ a_node → ⊥) → shape_kinds f of v ≡ Some kind → Among v (shape_outs f) ⊎ FromInput f of v kind
from_shape (one_source s out) of fit v kind other e = elim (with_split out v a_node no_kinds kind e) [ inl x ↦ absurd (other (sym x.1)) | inr g ↦ none_some kind g ]
from_shape (visits_below i start path out) of fit v kind other e = elim (with_split out v a_node (of i) kind e) [
  | inl x ↦ absurd (other (sym x.1))
  | inr g ↦ inr (record { input = i; among = inl refl; passes = refl; bound = g })
]
from_shape (pairs_up l r tests) of fit v kind other e = sides (of l v) (of r v) refl refl e
  where
    sides : (j k : Option Kind) → of l v ≡ j → of r v ≡ k → either_kind j k ≡ Some kind → Among v [] ⊎ FromInput (pairs_up l r tests) of v kind
    sides None k x y g = inr (record { input = r; among = inr (inl refl); passes = inr refl; bound = y ∙ g })
    sides (Some j) k x y g = inr (record { input = l; among = inl refl; passes = inl refl; bound = x ∙ g })
from_shape (passes_on i (filters test)) of fit v kind other e = inr (record { input = i; among = inl refl; passes = refl; bound = e })
from_shape (passes_on i (extends out made)) of fit v kind other e = elim (with_split out v (made_kind made) (of i) kind e) [
  | inl x ↦ inl (inl x.0)
  | inr g ↦ inr (record { input = i; among = inl refl; passes = refl; bound = g })
]
from_shape (passes_on i (first_by_keys keys None)) of fit v kind other e = absurd (kept_node keys (of i) v kind fit other e)
from_shape (passes_on i (first_by_keys keys (Some group))) of fit v kind other e = elim (with_split group.1 v a_list (kept keys (of i)) kind e) [
  | inl x ↦ inl (inl x.0)
  | inr g ↦ absurd (kept_node keys (of i) v kind fit.0 other g)
]
from_shape (passes_on i (one_group piece out)) of fit v kind other e = elim (with_split out v a_list no_kinds kind e) [ inl x ↦ inl (inl x.0) | inr g ↦ none_some kind g ]
from_shape (passes_on i (in_order u desc)) of fit v kind other e = inr (record { input = i; among = inl refl; passes = refl; bound = e })
from_shape (no_events i made) of fit v kind other e = none_some kind e

-- a key that is bound stays bound
kept_in : (keys : List Key) (ks : Kinds) (v : ℕ) (kind : Kind) → has_var keys v ≡ true → ks v ≡ Some kind → kept keys ks v ≡ Some kind
kept_in keys ks v kind t e = ap (λ (w : Bool). cond w (ks v) None) t ∙ e

-- what isn't bound isn't kept
kept_none : (keys : List Key) (ks : Kinds) (v : ℕ) → ks v ≡ None → kept keys ks v ≡ None
kept_none keys ks v e = either (has_var keys v)
  where
    either : (t : Bool) → cond t (ks v) None ≡ None
    either true = e
    either false = refl

-- a variable has no maker, or its maker binds it anew
maker_outs : (ops : List Operator) (v : ℕ) → (maker ops v ≡ no_events 0 0) ⊎ Among v (shape_outs (maker ops v))
maker_outs [] v = inl refl
maker_outs (op ∷ ops) v =
    (elim (list_any (λ w. w == v) (outs_of op)) as (λ t. list_any (λ w. w == v) (outs_of op) ≡ t → (cond t (shape_of op) (maker ops v) ≡ no_events 0 0) ⊎ Among v (shape_outs (cond t (shape_of op) (maker ops v)))) [
      | true ↦ λ e. inr (among_is (outs_of op) v e)
      | false ↦ λ e. maker_outs ops v
    ]) refl

-- a stage that makes a variable binds it anew
made_here : (ops : List Operator) (v m input : ℕ) (stage : Stage) → maker ops v ≡ shape_at ops m → shape_at ops m ≡ passes_on input stage → Among v (shape_outs (shape_at ops m))
made_here ops v m input stage e is = elim (maker_outs ops v) [
  | inl n ↦ (let f : no_events 0 0 ≡ passes_on input stage = sym n ∙ e ∙ is in let no : ⊥ = cc in absurd no)
  | inr a ↦ subst (λ (g : Shape). Among v (shape_outs g)) e a
]

module _ (p : PlanValue) (valid : IsValid p) (typed : IsTyped p.ops) where
  -- what a shape binds, an operator of that shape binds
  binds_as : (n : ℕ) → n < length p.ops → (f : Shape) → shape_at p.ops n ≡ f → (v : ℕ) (kind : Kind) → shape_kinds f (kinds p.ops) v ≡ Some kind → kinds p.ops n v ≡ Some kind
  binds_as n b f e v kind h = ap (λ (ks : Kinds). ks v) (kinds-is p valid typed n b) ∙ ap (λ (g : Shape). shape_kinds g (kinds p.ops) v) e ∙ h

  -- an operator that passes all of an input binds what it binds
  pub input_scope : (n : ℕ) → n < length p.ops → (f : Shape) → shape_at p.ops n ≡ f → (j : ℕ) → PassesAll f j → InScope p.ops n j
  input_scope n b (one_source s out) e j h = absurd h
  input_scope n b (visits_below i start path out) e j h = λ v kind k.
      (let k' = subst (λ (x : ℕ). kinds p.ops x v ≡ Some kind) h k in
      binds_as n b (visits_below i start path out) e v kind (with_in out a_node (kinds p.ops i) (anew p valid n b (visits_below i start path out) e i out (inl refl) (inl refl)) v kind k'))
  input_scope n b (pairs_up l r tests) e j (inl h) = λ v kind k.
      (let k' = subst (λ (x : ℕ). kinds p.ops x v ≡ Some kind) h k in
      binds_as n b (pairs_up l r tests) e v kind (ap (λ (o : Option Kind). either_kind o (kinds p.ops r v)) k'))
  input_scope n b (pairs_up l r tests) e j (inr h) = λ v kind k.
      (let k' = subst (λ (x : ℕ). kinds p.ops x v ≡ Some kind) h k in
      binds_as n b (pairs_up l r tests) e v kind (ap (λ (o : Option Kind). either_kind o (kinds p.ops r v)) (sides_fresh p valid typed n l r v kind b (ap shape_inputs e) k') ∙ k'))
  input_scope n b (passes_on i (filters test)) e j h = λ v kind k. binds_as n b (passes_on i (filters test)) e v kind (subst (λ (x : ℕ). kinds p.ops x v ≡ Some kind) h k)
  input_scope n b (passes_on i (extends out made)) e j h = λ v kind k.
      (let k' = subst (λ (x : ℕ). kinds p.ops x v ≡ Some kind) h k in
      binds_as n b (passes_on i (extends out made)) e v kind (with_in out (made_kind made) (kinds p.ops i) (anew p valid n b (passes_on i (extends out made)) e i out (inl refl) (inl refl)) v kind k'))
  input_scope n b (passes_on i (first_by_keys keys group)) e j h = absurd h
  input_scope n b (passes_on i (one_group piece out)) e j h = absurd h
  input_scope n b (passes_on i (in_order u desc)) e j h = λ v kind k. binds_as n b (passes_on i (in_order u desc)) e v kind (subst (λ (x : ℕ). kinds p.ops x v ≡ Some kind) h k)
  input_scope n b (no_events i made) e j h = absurd h

  module _ (m : ℕ) (within : m < length p.ops) (v : ℕ) (made : Among v (shape_outs (shape_at p.ops m))) where
    -- a list or an element in an operator below a number: the operator binds what its maker binds
    scoped_below : (c n : ℕ) (kind : Kind) → n < c → n < length p.ops → (kind ≡ a_node → ⊥) → kinds p.ops n v ≡ Some kind → InScope p.ops n m
    scoped_below zero n kind l b other e = absurd (omega (arith, l))
    scoped_below (suc c) n kind l b other e =
        let f : Shape = shape_at p.ops n in
        elim (from_shape f (kinds p.ops) (typed.fit n b) v kind other (sym (ap (λ (ks : Kinds). ks v) (kinds-is p valid typed n b)) ∙ e)) [
          | inl a ↦ subst (λ (i : ℕ). InScope p.ops i m) (bound_once p.ops valid.distinct m n v within b made a) (λ w k h. h)
          | inr x ↦
              (let s = smaller p valid typed x.input n b x.among in
              let r = scoped_below c x.input kind (omega (arith, s, l)) (omega (arith, s, b)) other x.bound in
              let i = input_scope n b f refl x.input x.passes in
              λ w k h. i w k (r w k h))
        ]

    -- an operator that binds a list or an element binds what its maker binds
    pub scoped : (n : ℕ) (kind : Kind) → n < length p.ops → (kind ≡ a_node → ⊥) → kinds p.ops n v ≡ Some kind → InScope p.ops n m
    scoped n kind b other e = scoped_below (suc n) n kind (omega arith) b other e

    -- a node in an operator below a number is one in its maker
    node_below : (c n : ℕ) → n < c → n < length p.ops → kinds p.ops n v ≡ Some a_node → kinds p.ops m v ≡ Some a_node
    node_below zero n l b e = absurd (omega (arith, l))
    node_below (suc c) n l b e =
        let f : Shape = shape_at p.ops n in
        elim (way_bound f (kinds p.ops) v (sym (ap (λ (ks : Kinds). ks v) (kinds-is p valid typed n b)) ∙ e)) [
          | inl a ↦ subst (λ (i : ℕ). kinds p.ops i v ≡ Some a_node) (sym (bound_once p.ops valid.distinct m n v within b made a)) e
          | inr x ↦ (let s = smaller p valid typed x.0 n b (way_inputs f x.0 x.1) in node_below c x.0 (omega (arith, s, l)) (omega (arith, s, b)) x.2)
        ]

    -- what a stage makes is no node anywhere
    pub no_node_of_stage : (input : ℕ) (stage : Stage) → shape_at p.ops m ≡ passes_on input stage → (n : ℕ) → n < length p.ops → kinds p.ops n v ≡ Some a_node → ⊥
    no_node_of_stage input stage is n b e =
        let k = sym (ap (λ (ks : Kinds). ks v) (kinds-is p valid typed m within)) ∙ node_below (suc n) n (omega arith) b e in
        stage_no_node stage (kinds p.ops input) v (subst (λ (f : Shape). Among v (shape_outs f)) is made) (subst (λ (f : Shape). shape_kinds f (kinds p.ops) v ≡ Some a_node) is k)

  -- an operator that binds all that its input does binds all that the operator does which makes a list or an element in the input
  pub chosen_scope : (n v : ℕ) (kind : Kind) → n < length p.ops → input_at p.ops n < n → InScope p.ops n (input_at p.ops n) → kinds p.ops (input_at p.ops n) v ≡ Some kind → (m : ℕ) → m < length p.ops → maker p.ops v ≡ shape_at p.ops m
      → (input : ℕ) (stage : Stage) → shape_at p.ops m ≡ passes_on input stage → InScope p.ops n m
  chosen_scope n v kind b low scope k m within e input stage is =
      let made = made_here p.ops v m input stage e is in
      let small : input_at p.ops n < length p.ops = omega (arith, low, b) in
      let r = scoped m within v made (input_at p.ops n) kind small (λ q. no_node_of_stage m within v made input stage is (input_at p.ops n) small (k ∙ ap (λ (x : Kind). Some x) q)) k in
      λ w j h. scope w j (r w j h)

  -- the keys of an operator are of nodes that it binds
  pub keys_here : (n : ℕ) → n < length p.ops → (o : Operator) → op_at p.ops n ≡ o → AreNodes (keys_of o) (kinds p.ops n)
  keys_here n b (source s out) e = λ v t. cc
  keys_here n b (get_descendants i start path out) e = λ v t. cc
  keys_here n b (join l r tests) e = λ v t. cc
  keys_here n b (over i (select test)) e = λ v t. cc
  keys_here n b (over i (order_by u desc)) e = λ v t. cc
  keys_here n b (over i (project keys)) e = λ v t. cc
  keys_here n b (over i (group_by [] piece out)) e = λ v t. cc
  keys_here n b (over i (group_by (x ∷ keys) piece out)) e = λ v t.
      (let fit : IsFit (over i (group_by (x ∷ keys) piece out)) (kinds p.ops) = subst (λ (o : Operator). IsFit o (kinds p.ops)) e (typed.fit n b) in
      let f : Shape = passes_on i (first_by_keys (x ∷ keys) (Some (piece, out))) in
      binds_as n b f (ap shape_of e) v a_node
      (with_in out a_list (kept (x ∷ keys) (kinds p.ops i)) (kept_none (x ∷ keys) (kinds p.ops i) out (anew p valid n b f (ap shape_of e) i out (inl refl) (inl refl))) v a_node
      (kept_in (x ∷ keys) (kinds p.ops i) v a_node t (fit.0 v t))))
  keys_here n b (over i (concatenate pieces out)) e = λ v t. cc
  keys_here n b (over i (create_element label list out)) e = λ v t. cc
  keys_here n b (tuple_destroy i made) e = λ v t. cc

  -- an operator that binds a list or an element binds all that the operator does which makes it
  pub made_scope : (i v : ℕ) (kind : Kind) → i < length p.ops → kinds p.ops i v ≡ Some kind → (m : ℕ) → m < length p.ops → maker p.ops v ≡ shape_at p.ops m → (input : ℕ) (stage : Stage) → shape_at p.ops m ≡ passes_on input stage
      → InScope p.ops i m
  made_scope i v kind b k m within e input stage is =
      let made = made_here p.ops v m input stage e is in
      scoped m within v made i kind b (λ q. no_node_of_stage m within v made input stage is i b (k ∙ ap (λ (x : Kind). Some x) q)) k

  -- an operator that makes elements binds all that its input does
  pub element_scope : (n input : ℕ) (label : List ℕ) (list out : ℕ) → n < length p.ops → op_at p.ops n ≡ over input (create_element label list out) → InScope p.ops n input
  element_scope n input label list out b e = input_scope n b (passes_on input (extends out (an_element_of label list))) (ap shape_of e) input refl

  -- an operator that binds an element binds all that the operator does which makes the element's list
  pub inner_scope : (n : ℕ) → n < length p.ops → (v m : ℕ) → m < length p.ops → maker p.ops v ≡ shape_at p.ops m → (input : ℕ) (label : List ℕ) (list out : ℕ) → op_at p.ops m ≡ over input (create_element label list out)
      → (r : Option ℕ) → IfSome r (λ u. (i : ℕ) (k : Kind) → i < m → kinds p.ops i list ≡ Some k → InScope p.ops i u)
      → IfSome r (λ u. (i : ℕ) (k : Kind) → i < n → kinds p.ops i v ≡ Some k → InScope p.ops i u)
  inner_scope n b v m within e input label list out is None h = tt
  inner_scope n b v m within e input label list out is (Some u) h = λ i k l bound.
      let f : Shape = passes_on input (extends out (an_element_of label list)) in
      let s = smaller p valid typed input m within (subst (λ (g : Shape). Among input (shape_inputs g)) (sym (ap shape_of is)) (inl refl)) in
      let fit : IsFit (over input (create_element label list out)) (kinds p.ops) = subst (λ (o : Operator). IsFit o (kinds p.ops)) is (typed.fit m within) in
      let own = h input a_list s fit in
      let up = element_scope m input label list out within is in
      let top = made_scope i v k (omega (arith, l, b)) bound m within e input (extends out (an_element_of label list)) (ap shape_of is) in
      λ w j x. top w j (up w j (own w j x))
