-- The ways of evidence: what is on them, which variables are bound there, and that those of the sides of a join are apart.
use Rattle.std.proofs.Common.{◌≡◌, inl, inr, ℕ, zero, suc, ◌<◌, true, false, List, [], ◌∷◌, refl, ap, subst, ◌∙◌, arith, length, ◌⊎◌, ◌+◌, sym}
use Rattle.std.specs.Prelude.{Bool, ◌||◌, ◌==◌, ◌&&◌}
use Rattle.std.specs.List.{AllByRecursion, list_any}
use Rattle.std.proofs.lemmas.Bool.{and_parts, eqb-true}
use Rattle.std.proofs.lemmas.Bool.Decides.{nat_tests}
use Rattle.mix_base.specs.Ascents.{Among}
use Rattle.mix_tree.specs.Nodes.{Documents, Node}
use Rattle.plan_core.specs.ByNumber.{op_at}
use Rattle.plan_core.specs.Plans.{Operator, source, get_descendants, join, over, tuple_destroy, PlanValue}
use Rattle.plan_core.specs.Shapes.{Stage, filters, extends, first_by_keys, one_group, in_order, Shape, one_source, visits_below, pairs_up, passes_on, no_events, stage_of, shape_of, shape_at}
use Rattle.plan_core.specs.Valid.{inputs_of, shape_inputs, outs_of, IsValid}
use Rattle.plan_core.proofs.Numbers.{ReadsInputs, by_number-of}
use Rattle.plan_evidence.specs.Evidence.{stage_way, shape_way, is_under, is_below, is_on_way, ShapeHolds, AreRight}
use Rattle.plan_core.specs.Typed.{IsTyped}
use Rattle.plan_core.proofs.Fresh.{bound_once, Up, up_more, up_above, smaller, one_way, no_above, inputs_differ}

-- what is said of a stage's input alike is said alike of it as far as it is on the way
on_stage : (input : ℕ) (stage : Stage) (a b : ℕ → ℕ → Bool) → AllByRecursion (λ i. a i ≡ b i) (input ∷ []) → AllByRecursion (λ i. a i ≡ b i) (stage_way input stage)
on_stage input (filters test) a b h = h
on_stage input (extends out made) a b h = h
on_stage input (first_by_keys keys group) a b h = h
on_stage input (one_group piece out) a b h = tt
on_stage input (in_order v desc) a b h = h

-- what is under inputs is alike where what is below each of them is
under_reads : (inputs : List ℕ) (a b : ℕ → ℕ → Bool) → AllByRecursion (λ i. a i ≡ b i) inputs → is_under inputs a ≡ is_under inputs b
under_reads [] a b h = refl
under_reads (i ∷ inputs) a b h =
    ap {B = ℕ → Bool} (λ (f : ℕ → Bool). λ k. ((i == k) || f k) || is_under inputs a k) h.0 ∙ ap {B = ℕ → Bool} (λ (f : ℕ → Bool). λ k. ((i == k) || b i k) || f k) (under_reads inputs a b h.1)

-- what is on the way below an operator is told by what is below its inputs
below-reads : ReadsInputs (λ op of. is_under (shape_way (shape_of op)) of)
below-reads (source s out) a b h = refl
below-reads (get_descendants input start path out) a b h = under_reads (input ∷ []) a b h
below-reads (join left right tests) a b h = under_reads (left ∷ right ∷ []) a b h
below-reads (over input op) a b h = under_reads (shape_way (shape_of (over input op))) a b (on_stage input (stage_of op) a b h)
below-reads (tuple_destroy input made) a b h = under_reads (input ∷ []) a b h

module _ (ops : List Operator) where
  -- what is on the way below an operator is one of its inputs on the way, or below one of them
  pub below_of : (n i : ℕ) → AllByRecursion (λ j. j < n) (inputs_of (op_at ops n)) → is_below ops n i ≡ is_under (shape_way (shape_at ops n)) (is_below ops) i
  unfolding is_below
  below_of n i h = ap (λ (f : ℕ → Bool). f i) (by_number-of (λ op of. is_under (shape_way (shape_of op)) of) (λ j. false) ops n (op_at ops n) below-reads refl h)

  -- what is an input, or below it, is under the inputs
  under_input : (inputs : List ℕ) (of : ℕ → ℕ → Bool) (i j : ℕ) → Among i inputs → ((i == j) || of i j) ≡ true → is_under inputs of j ≡ true
  under_input [] of i j a h = absurd a
  under_input (k ∷ inputs) of i j (inl e) h = rw (subst (λ m. ((m == j) || of m j) ≡ true) e h) refl
  under_input (k ∷ inputs) of i j (inr a) h =
      let r = under_input inputs of i j a h in
      elim ((k == j) || of k j) as (λ w. (w || is_under inputs of j) ≡ true) [ true ↦ refl | false ↦ r ]

  -- what is on the way of an operator's input on the way is on the operator's way
  pub way_input : (n i j : ℕ) → AllByRecursion (λ k. k < n) (inputs_of (op_at ops n)) → Among i (shape_way (shape_at ops n)) → is_on_way ops i j ≡ true → is_on_way ops n j ≡ true
  way_input n i j h a o =
      let r = below_of n j h ∙ under_input (shape_way (shape_at ops n)) (is_below ops) i j a o in
      elim (n == j) as (λ w. (w || is_below ops n j) ≡ true) [ true ↦ refl | false ↦ r ]

  -- right evidence of an operator is right evidence of its inputs on the way
  pub right_input : (docs : Documents) (nodes : ℕ → Node) (n i : ℕ) → AllByRecursion (λ k. k < n) (inputs_of (op_at ops n)) → Among i (shape_way (shape_at ops n)) → AreRight docs ops n nodes
      → AreRight docs ops i nodes
  right_input docs nodes n i h a r j b o = r j b (way_input n i j h a o)

  -- an operator holds of right evidence of it
  pub right_here : (docs : Documents) (nodes : ℕ → Node) (n : ℕ) → n < length ops → AreRight docs ops n nodes → ShapeHolds docs nodes (shape_at ops n)
  right_here docs nodes n b r = (let e : (n == n) ≡ true = grind (arith, nat_tests) in r n b (rw e refl))

-- a number that is among others is found there
pub among_yes : (vs : List ℕ) (v : ℕ) → Among v vs → list_any (λ w. w == v) vs ≡ true
among_yes [] v a = absurd a
among_yes (w ∷ vs) v (inl e) = (let t : (w == v) ≡ true = grind (arith, nat_tests, e) in rw t refl)
among_yes (w ∷ vs) v (inr a) = (let r = among_yes vs v a in elim (w == v) as (λ t. (t || list_any (λ w. w == v) vs) ≡ true) [ true ↦ refl | false ↦ r ])

-- a number that is found among others is among them
pub among_is : (vs : List ℕ) (v : ℕ) → list_any (λ w. w == v) vs ≡ true → Among v vs
among_is [] v h = cc
among_is (w ∷ vs) v h =
    (elim (w == v) as (λ t. (w == v) ≡ t → (t || list_any (λ w. w == v) vs) ≡ true → Among v (w ∷ vs)) [
      | true ↦ λ e g. inl (sym (eqb-true w v e))
      | false ↦ λ e g. inr (among_is vs v g)
    ]) refl h

-- whether a variable is bound anew by one of these operators, the first of number i, of which this is said
pub bound_from : (ℕ → Bool) → ℕ → List Operator → ℕ → Bool
bound_from on i [] v = false
bound_from on i (op ∷ ops) v = (on i && list_any (λ w. w == v) (outs_of op)) || bound_from on (suc i) ops v

-- a variable is bound anew by these operators where one of them, of which it is said, binds it
bound_yes : (on : ℕ → Bool) (i : ℕ) (ops : List Operator) (v k : ℕ) → k < length ops → on (i + k) ≡ true → Among v (outs_of (op_at ops k)) → bound_from on i ops v ≡ true
unfolding bound_from
bound_yes on i [] v k b o a = absurd (omega (arith, b))
bound_yes on i (op ∷ ops) v zero b o a =
    let e : i + 0 ≡ i = omega arith in
    let here : on i ≡ true = subst (λ j. on j ≡ true) e o in rw (here, among_yes (outs_of op) v a) refl
bound_yes on i (op ∷ ops) v (suc k) b o a =
    let e : i + suc k ≡ suc i + k = omega arith in
    let r = bound_yes on (suc i) ops v k (omega (arith, b)) (subst (λ j. on j ≡ true) e o) a in
    elim (on i && list_any (λ w. w == v) (outs_of op)) as (λ t. (t || bound_from on (suc i) ops v) ≡ true) [ true ↦ refl | false ↦ r ]

-- an operator of which it is said and that binds a variable anew, among these, the first of number i
record IsBoundBy (on : ℕ → Bool) (i : ℕ) (ops : List Operator) (v : ℕ) : Type 0 where
  pub number : ℕ
  pub within : number < length ops
  pub on_way : on (i + number) ≡ true
  pub among : Among v (outs_of (op_at ops number))

-- a variable that is bound anew by these operators is so by one of which it is said
bound_some : (on : ℕ → Bool) (i : ℕ) (ops : List Operator) (v : ℕ) → bound_from on i ops v ≡ true → IsBoundBy on i ops v
unfolding bound_from
bound_some on i [] v h = cc
bound_some on i (op ∷ ops) v h =
    (elim (on i && list_any (λ w. w == v) (outs_of op)) as (λ t. (on i && list_any (λ w. w == v) (outs_of op)) ≡ t → (t || bound_from on (suc i) ops v) ≡ true → IsBoundBy on i (op ∷ ops) v) [
      | true ↦ λ e g. (let p = and_parts (on i) (list_any (λ w. w == v) (outs_of op)) e in let z : i ≡ i + 0 = omega arith in
          record { number = 0; within = omega arith; on_way = subst (λ j. on j ≡ true) z p.0; among = among_is (outs_of op) v p.1 })
      | false ↦ λ e g. later (bound_some on (suc i) ops v g)
    ]) refl h
  where
    later : IsBoundBy on (suc i) ops v → IsBoundBy on i (op ∷ ops) v
    later r = (let z : suc i + r.number ≡ i + suc r.number = omega arith in
        record { number = suc r.number; within = omega (arith, r.within); on_way = subst (λ j. on j ≡ true) z r.on_way; among = r.among })

-- a variable is bound on the way to operator n
abbrev pub binds : List Operator → ℕ → ℕ → Bool
binds ops n v = bound_from (is_on_way ops n) 0 ops v

-- a variable that an operator on the way binds anew is bound on the way
pub binds_yes : (ops : List Operator) (n v k : ℕ) → k < length ops → is_on_way ops n k ≡ true → Among v (outs_of (op_at ops k)) → binds ops n v ≡ true
binds_yes ops n v k b o a = (let e : k ≡ 0 + k = omega arith in bound_yes (is_on_way ops n) 0 ops v k b (subst (λ j. is_on_way ops n j ≡ true) e o) a)

-- an operator on the way to operator n that binds a variable anew
pub record Binder (ops : List Operator) (n v : ℕ) : Type 0 where
  pub number : ℕ
  pub within : number < length ops
  pub on_way : is_on_way ops n number ≡ true
  pub among : Among v (outs_of (op_at ops number))

-- a variable that is bound on the way has an operator on it that binds it anew
pub binds_by : (ops : List Operator) (n v : ℕ) → binds ops n v ≡ true → Binder ops n v
binds_by ops n v h =
    let r = bound_some (is_on_way ops n) 0 ops v h in
    let e : 0 + r.number ≡ r.number = omega arith in
    record { number = r.number; within = r.within; on_way = subst (λ j. is_on_way ops n j ≡ true) e r.on_way; among = r.among }

-- an operator is on its own way
pub way_self : (ops : List Operator) (n : ℕ) → is_on_way ops n n ≡ true
way_self ops n = (let e : (n == n) ≡ true = grind (arith, nat_tests) in rw e refl)

-- an input that is operator i, or has it below
record UnderOne (inputs : List ℕ) (of : ℕ → ℕ → Bool) (i : ℕ) : Type 0 where
  pub input : ℕ
  pub among : Among input inputs
  pub at : ((input == i) || of input i) ≡ true

-- what is under inputs is one of them, or below one
under_one : (inputs : List ℕ) (of : ℕ → ℕ → Bool) (i : ℕ) → is_under inputs of i ≡ true → UnderOne inputs of i
under_one [] of i h = cc
under_one (j ∷ inputs) of i h =
    (elim ((j == i) || of j i) as (λ t. ((j == i) || of j i) ≡ t → (t || is_under inputs of i) ≡ true → UnderOne (j ∷ inputs) of i) [
      | true ↦ λ e g. record { input = j; among = inl refl; at = e }
      | false ↦ λ e g. (let r = under_one inputs of i g in record { input = r.input; among = inr r.among; at = r.at })
    ]) refl h

-- an input on the way of a shape is an input of it
pub way_inputs : (f : Shape) (i : ℕ) → Among i (shape_way f) → Among i (shape_inputs f)
way_inputs (one_source s out) i a = a
way_inputs (visits_below j start path out) i a = a
way_inputs (pairs_up l r tests) i a = a
way_inputs (passes_on j (filters test)) i a = a
way_inputs (passes_on j (extends out made)) i a = a
way_inputs (passes_on j (first_by_keys keys group)) i a = a
way_inputs (passes_on j (one_group piece out)) i a = absurd a
way_inputs (passes_on j (in_order v desc)) i a = a
way_inputs (no_events j made) i a = a

module _ (p : PlanValue) (valid : IsValid p) (typed : IsTyped p.ops) where
  -- operator i is on the way of an input on the way of operator n
  pub record ByInput (n i : ℕ) : Type 0 where
    pub input : ℕ
    pub among : Among input (shape_way (shape_at p.ops n))
    pub on_way : is_on_way p.ops input i ≡ true

  -- what is on the way of an operator is that operator, or on the way of an input on its way
  pub way_cases : (n i : ℕ) → n < length p.ops → is_on_way p.ops n i ≡ true → (n ≡ i) ⊎ ByInput n i
  way_cases n i b h =
      (elim (n == i) as (λ t. (n == i) ≡ t → (t || is_below p.ops n i) ≡ true → (n ≡ i) ⊎ ByInput n i) [
        | true ↦ λ e g. inl (eqb-true n i e)
        | false ↦ λ e g. inr (let r = under_one (shape_way (shape_at p.ops n)) (is_below p.ops) i (sym (below_of p.ops n i (typed.inputs n b)) ∙ g) in record { input = r.input; among = r.among; on_way = r.at })
      ]) refl h

  -- from an operator on the way up to the operator whose way it is lead readers
  way_up : (k n i : ℕ) → n < k → n < length p.ops → is_on_way p.ops n i ≡ true → (d : ℕ) × Up p valid typed i d n
  way_up zero n i h b o = absurd (omega (arith, h))
  way_up (suc k) n i h b o = elim (way_cases n i b o) [
    | inl e ↦ (0, sym e)
    | inr r ↦
        (let a = way_inputs (shape_at p.ops n) r.input r.among in
        let s = smaller p valid typed r.input n b a in
        let u = way_up k r.input i (omega (arith, s, h)) (omega (arith, s, b)) r.on_way in
        (suc u.0, up_more p valid typed i u.0 r.input n u.1 a b))
  ]

  -- no operator is on the ways of both sides of a join
  ways_apart : (n l r i : ℕ) → n < length p.ops → inputs_of (op_at p.ops n) ≡ l ∷ r ∷ [] → is_on_way p.ops l i ≡ true → is_on_way p.ops r i ≡ true → ⊥
  ways_apart n l r i b is x y =
      let in_left : Among l (inputs_of (op_at p.ops n)) = subst (Among l) (sym is) (inl refl) in
      let in_right : Among r (inputs_of (op_at p.ops n)) = subst (Among r) (sym is) (inr (inl refl)) in
      let sl = smaller p valid typed l n b in_left in
      let sr = smaller p valid typed r n b in_right in
      let differ = inputs_differ p valid typed n l r b is in
      let u = way_up (suc l) l i (omega arith) (omega (arith, sl, b)) x in
      let w = way_up (suc r) r i (omega arith) (omega (arith, sr, b)) y in
      elim (one_way p valid typed i u.0 w.0 l r u.1 w.1) [
        | inl k ↦ no_above p valid typed n l r k.0 b in_left in_right differ k.1
        | inr k ↦ no_above p valid typed n r l k.0 b in_right in_left (λ (z : r ≡ l). differ (sym z)) k.1
      ]

  -- no variable is bound on the ways of both sides of a join
  pub sides_apart : (n l r v : ℕ) → n < length p.ops → inputs_of (op_at p.ops n) ≡ l ∷ r ∷ [] → binds p.ops l v ≡ true → binds p.ops r v ≡ true → ⊥
  sides_apart n l r v b is x y =
      let a = binds_by p.ops l v x in
      let c = binds_by p.ops r v y in
      let same : a.number ≡ c.number = bound_once p.ops valid.distinct a.number c.number v a.within c.within a.among c.among in
      ways_apart n l r a.number b is a.on_way (subst (λ i. is_on_way p.ops r i ≡ true) (sym same) c.on_way)

  -- what an operator binds anew is bound on the way of none of its inputs
  pub out_apart : (n i v : ℕ) → n < length p.ops → Among i (inputs_of (op_at p.ops n)) → Among v (outs_of (op_at p.ops n)) → binds p.ops i v ≡ true → ⊥
  out_apart n i v b a o x =
      let c = binds_by p.ops i v x in
      let same : c.number ≡ n = bound_once p.ops valid.distinct c.number n v c.within b c.among o in
      let s = smaller p valid typed i n b a in
      let u = way_up (suc i) i c.number (omega arith) (omega (arith, s, b)) c.on_way in
      let up = up_above p valid typed c.number u.0 i u.1 in omega (arith, same, up, s)

  -- what is bound on the way of an operator's input on the way is bound on the operator's way
  pub binds_input : (n i v : ℕ) → n < length p.ops → Among i (shape_way (shape_at p.ops n)) → binds p.ops i v ≡ true → binds p.ops n v ≡ true
  binds_input n i v b a x =
      let c = binds_by p.ops i v x in
      binds_yes p.ops n v c.number c.within (way_input p.ops n i c.number (typed.inputs n b) a c.on_way) c.among
