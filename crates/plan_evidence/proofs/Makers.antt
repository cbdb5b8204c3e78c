-- The operators that bind variables anew: of each variable one, whose number is at most that of any operator that binds it.
use Rattle.std.proofs.Common.{◌≡◌, ◌⊎◌, inl, inr, ℕ, zero, suc, ◌<◌, ◌≤◌, true, false, cond, List, [], ◌∷◌, refl, sym, ap, subst, ◌∙◌, arith, length}
use Rattle.std.specs.Prelude.{◌==◌, Some, None}
use Rattle.std.specs.List.{list_any}
use Rattle.std.proofs.lemmas.Bool.{eqb-true}
use Rattle.mix_base.specs.Ascents.{Among}
use Rattle.mix_base.proofs.Choices.{none_some}
use Rattle.plan_core.specs.ByNumber.{op_at}
use Rattle.plan_core.specs.Plans.{Operator, PlanValue}
use Rattle.plan_core.specs.Shapes.{a_list_of, an_element_of, Stage, filters, extends, first_by_keys, one_group, in_order, Shape, one_source, visits_below, pairs_up, passes_on, no_events, shape_of, shape_at}
use Rattle.plan_core.specs.Typed.{IsTyped}
use Rattle.plan_core.specs.Valid.{Kind, a_node, a_list, Kinds, no_kinds, with_kind, kept, either_kind, made_kind, stage_kinds, shape_kinds, shape_inputs, stage_outs, shape_outs, outs_of, kinds, IsValid}
use Rattle.plan_core.proofs.Fresh.{bound_once, kept_bound, smaller, kinds-is}
use Rattle.plan_evidence.specs.Named.{maker, listing, element_list}
use Rattle.plan_evidence.proofs.Ways.{among_yes, among_is}

-- the number of the operator that binds a variable anew; where none does, that of no operator
abbrev pub number_of : List Operator → ℕ → ℕ
number_of [] v = 0
number_of (op ∷ ops) v = cond (list_any (λ w. w == v) (outs_of op)) 0 (suc (number_of ops v))

-- the operator of this number binds a variable anew, and is the first that does
record IsFirst (ops : List Operator) (v : ℕ) : Type 0 where
  within : number_of ops v < length ops
  among : Among v (outs_of (op_at ops (number_of ops v)))
  is_maker : maker ops v ≡ shape_at ops (number_of ops v)

-- where one of the operators binds a variable anew, one is the first that does
first_of_all : (ops : List Operator) (v n : ℕ) → n < length ops → Among v (outs_of (op_at ops n)) → IsFirst ops v
first_of_all [] v n b a = absurd (omega (arith, b))
first_of_all (op ∷ ops) v n b a =
    (elim (list_any (λ w. w == v) (outs_of op)) as (λ t. list_any (λ w. w == v) (outs_of op) ≡ t → IsFirst (op ∷ ops) v) [
      | true ↦ λ e.
          (let z : number_of (op ∷ ops) v ≡ 0 = ap (λ t. cond t 0 (suc (number_of ops v))) e in
          record {
            within = omega (arith, z);
            among = subst (λ k. Among v (outs_of (op_at (op ∷ ops) k))) (sym z) (among_is (outs_of op) v e);
            is_maker = ap (λ t. cond t (shape_of op) (maker ops v)) e ∙ sym (ap (shape_at (op ∷ ops)) z);
          })
      | false ↦ λ e. later (λ n b a. first_of_all ops v n b a) e n b a
    ]) refl
  where
    later : ((n : ℕ) → n < length ops → Among v (outs_of (op_at ops n)) → IsFirst ops v) → list_any (λ w. w == v) (outs_of op) ≡ false → (n : ℕ) → n < length (op ∷ ops) → Among v (outs_of (op_at (op ∷ ops) n)) → IsFirst (op ∷ ops) v
    later more e zero b a = (let z : true ≡ false = sym (among_yes (outs_of op) v a) ∙ e in cc)
    later more e (suc n) b a =
        let r = more n (omega (arith, b)) a in
        let z : number_of (op ∷ ops) v ≡ suc (number_of ops v) = ap (λ t. cond t 0 (suc (number_of ops v))) e in
        let l = r.within in
        record {
          within = omega (arith, z, l);
          among = subst (λ k. Among v (outs_of (op_at (op ∷ ops) k))) (sym z) r.among;
          is_maker = ap (λ t. cond t (shape_of op) (maker ops v)) e ∙ r.is_maker ∙ sym (ap (shape_at (op ∷ ops)) z);
        }

-- WHAT A SHAPE MAKES

-- a shape that makes an element makes no list
pub element_no_list : (f : Shape) (u : ℕ) → element_list f ≡ Some u → listing f ≡ None
element_no_list (one_source s out) u e = refl
element_no_list (visits_below i start path out) u e = refl
element_no_list (pairs_up l r tests) u e = refl
element_no_list (passes_on i (filters test)) u e = refl
element_no_list (passes_on i (extends out (a_list_of pieces))) u e = none_some u e
element_no_list (passes_on i (extends out (an_element_of label list))) u e = refl
element_no_list (passes_on i (first_by_keys own None)) u e = refl
element_no_list (passes_on i (first_by_keys own (Some g))) u e = none_some u e
element_no_list (passes_on i (one_group q out)) u e = none_some u e
element_no_list (passes_on i (in_order v desc)) u e = refl
element_no_list (no_events i made) u e = refl

-- WHAT IS BOUND

-- a variable that is bound with one more is that one, or was bound
with_bound : (out v : ℕ) (k j : Kind) (ks : Kinds) → with_kind out k ks v ≡ Some j → Among v (out ∷ []) ⊎ (ks v ≡ Some j)
with_bound out v k j ks e =
    (elim (out == v) as (λ w. (out == v) ≡ w → cond w (Some k) (ks v) ≡ Some j → Among v (out ∷ []) ⊎ (ks v ≡ Some j)) [
      | true ↦ λ t g. inl (inl (sym (eqb-true out v t)))
      | false ↦ λ t g. inr g
    ]) refl e

-- what is bound after a stage is bound by it, or was
stage_bound : (stage : Stage) (ks : Kinds) (v : ℕ) (j : Kind) → stage_kinds stage ks v ≡ Some j → Among v (stage_outs stage) ⊎ (ks v ≡ Some j)
stage_bound (filters test) ks v j e = inr e
stage_bound (extends out made) ks v j e = with_bound out v (made_kind made) j ks e
stage_bound (first_by_keys keys None) ks v j e = inr (kept_bound keys ks v j e)
stage_bound (first_by_keys keys (Some group)) ks v j e = elim (with_bound group.1 v a_list j (kept keys ks) e) [ inl a ↦ inl a | inr h ↦ inr (kept_bound keys ks v j h) ]
stage_bound (one_group piece out) ks v j e = elim (with_bound out v a_list j no_kinds e) [ inl a ↦ inl a | inr h ↦ none_some j h ]
stage_bound (in_order u desc) ks v j e = inr e

-- an input of the shape binds a variable
abbrev ByInput : Shape → (ℕ → Kinds) → ℕ → Kind → Type 0
ByInput f of v j = (i : ℕ) × Among i (shape_inputs f) × (of i v ≡ Some j)

-- what is bound is bound by the operator or by an input
shape_bound : (f : Shape) (of : ℕ → Kinds) (v : ℕ) (j : Kind) → shape_kinds f of v ≡ Some j → Among v (shape_outs f) ⊎ ByInput f of v j
shape_bound (one_source s out) of v j e = elim (with_bound out v a_node j no_kinds e) [ inl a ↦ inl a | inr h ↦ none_some j h ]
shape_bound (visits_below input start path out) of v j e = elim (with_bound out v a_node j (of input) e) [ inl a ↦ inl a | inr h ↦ inr (input, inl refl, h) ]
shape_bound (pairs_up left right tests) of v j e =
    (elim (of left v) as (λ w. of left v ≡ w → either_kind w (of right v) ≡ Some j → Among v [] ⊎ ByInput (pairs_up left right tests) of v j) [
      | None ↦ λ t g. inr (right, inr (inl refl), g)
      | Some k ↦ λ t g. inr (left, inl refl, t ∙ g)
    ]) refl e
shape_bound (passes_on input stage) of v j e = elim (stage_bound stage (of input) v j e) [ inl a ↦ inl a | inr h ↦ inr (input, inl refl, h) ]
shape_bound (no_events input made) of v j e = none_some j e

module _ (p : PlanValue) (valid : IsValid p) (typed : IsTyped p.ops) where
  -- the operator that binds a variable anew is its maker, and of its number
  pub record IsMadeBy (v n : ℕ) : Type 0 where
    pub number : number_of p.ops v ≡ n
    pub is_maker : maker p.ops v ≡ shape_at p.ops n

  -- an operator that binds a variable anew is its maker
  pub made_by : (v n : ℕ) → n < length p.ops → Among v (shape_outs (shape_at p.ops n)) → IsMadeBy v n
  made_by v n b a =
      let r = first_of_all p.ops v n b a in
      let same : number_of p.ops v ≡ n = bound_once p.ops valid.distinct (number_of p.ops v) n v r.within b r.among a in
      record { number = same; is_maker = r.is_maker ∙ ap (shape_at p.ops) same }

  -- what one of the operators below a number binds is made by one of at most its number
  low_under : (k n v : ℕ) (j : Kind) → n < k → n < length p.ops → kinds p.ops n v ≡ Some j → number_of p.ops v ≤ n
  low_under zero n v j h b e = absurd (omega (arith, h))
  low_under (suc k) n v j h b e =
      elim (shape_bound (shape_at p.ops n) (kinds p.ops) v j (sym (ap (λ (f : Kinds). f v) (kinds-is p valid typed n b)) ∙ e)) [
        | inl a ↦ (let r = (made_by v n b a).number in omega (arith, r))
        | inr i ↦
            (let s = smaller p valid typed i.0 n b i.1 in
            let r = low_under k i.0 v j (omega (arith, s, h)) (omega (arith, s, b)) i.2 in omega (arith, s, r))
      ]

  -- what an operator binds is made by one of at most its number
  pub number_low : (n v : ℕ) (j : Kind) → n < length p.ops → kinds p.ops n v ≡ Some j → number_of p.ops v ≤ n
  number_low n v j b e = low_under (suc n) n v j (omega arith) b e
