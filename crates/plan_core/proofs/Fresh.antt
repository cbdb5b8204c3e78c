-- In a valid plan an operator binds anew only what its inputs do not bind, and the sides of a join bind nothing both.
use Rattle.std.proofs.Common.{◌≡◌, ◌⊎◌, inl, inr, ℕ, zero, suc, ◌+◌, ◌<◌, ◌≤◌, true, false, cond, List, [], ◌∷◌, ◌++◌, refl, sym, ap, subst, ◌∙◌, arith, length}
use Rattle.std.specs.Prelude.{Bool, ◌||◌, ◌==◌, Some, None}
use Rattle.std.specs.List.{list_any, flat_map, count_by}
use Rattle.std.proofs.lemmas.Bool.{eqb-true}
use Rattle.std.proofs.lemmas.Bool.Decides.{nat_tests}
use Rattle.std.proofs.lemmas.List.Folds.{list_any-append}
use Rattle.mix_base.specs.Ascents.{Among}
use Rattle.mix_base.proofs.Ascents.{each_among, among_left, among_right}
use Rattle.mix_tree.specs.Keys.{has_var}
use Rattle.mix_tree.specs.declared.var.Key.{Key}
use Rattle.plan_core.specs.ByNumber.{op_at}
use Rattle.plan_core.specs.Plans.{Operator, PlanValue}
use Rattle.plan_core.specs.Shapes.{Stage, filters, extends, first_by_keys, one_group, in_order, Shape, one_source, visits_below, pairs_up, passes_on, no_events, shape_at}
use Rattle.plan_core.specs.Typed.{IsTyped}
use Rattle.plan_core.specs.Valid.{Kind, a_node, a_list, Kinds, no_kinds, with_kind, kept, made_kind, either_kind, stage_kinds, shape_kinds, op_kinds, kinds, shape_inputs, inputs_of, stage_outs, shape_outs, outs_of, AreDistinct, IsValid}
use Rattle.plan_core.proofs.Chained.{count-append}
use Rattle.plan_core.proofs.Numbers.{by_number-is, op_kinds-reads}

-- whether a number stands in a list is true of each member
any_among : (v : ℕ) (vs : List ℕ) → Among v vs → list_any (λ w. w == v) vs ≡ true
any_among v [] a = absurd a
any_among v (w ∷ vs) (inl e) = (let t : (w == v) ≡ true = grind (arith, nat_tests, e) in rw t refl)
any_among v (w ∷ vs) (inr a) = (let t = any_among v vs a in elim (w == v) as (λ x. (x || list_any (λ w. w == v) vs) ≡ true) [ true ↦ refl | false ↦ t ])

-- where no number stands twice in two lists together, none is in both
pub distinct_apart : (xs ys : List ℕ) (v : ℕ) → AreDistinct (xs ++ ys) → Among v xs → Among v ys → ⊥
distinct_apart [] ys v d a b = a
distinct_apart (x ∷ xs) ys v d (inl e) b =
    let t : list_any (λ w. w == x) ys ≡ true = subst (λ (z : ℕ). list_any (λ w. w == z) ys ≡ true) e (any_among v ys b) in
    let n : list_any (λ w. w == x) (xs ++ ys) ≡ false = d.0 in
    let s : (list_any (λ w. w == x) xs || list_any (λ w. w == x) ys) ≡ false = sym (list_any-append (λ w. w == x) xs ys) ∙ n in
    or_true (list_any (λ w. w == x) xs) (list_any (λ w. w == x) ys) t s
  where
    or_true : (p q : Bool) → q ≡ true → (p || q) ≡ false → ⊥
    or_true true q h k = cc
    or_true false q h k = (let z : true ≡ false = sym h ∙ k in cc)
distinct_apart (x ∷ xs) ys v d (inr a) b = distinct_apart xs ys v d.1 a b

-- where no number stands twice in two lists together, none does in the second
pub distinct_after : (xs ys : List ℕ) → AreDistinct (xs ++ ys) → AreDistinct ys
distinct_after [] ys d = d
distinct_after (x ∷ xs) ys d = distinct_after xs ys d.1

-- what one operator binds anew is among what all of them do
among_flat : (f : Operator → List ℕ) (ops : List Operator) (n v : ℕ) → n < length ops → Among v (f (op_at ops n)) → Among v (flat_map f ops)
among_flat f [] n v b a = absurd (omega (arith, b))
among_flat f (op ∷ ops) zero v b a = among_left (f op) (flat_map f ops) v a
among_flat f (op ∷ ops) (suc n) v b a = (let c : n < length ops = omega (arith, b) in among_right (f op) (flat_map f ops) v (among_flat f ops n v c a))

-- where no two operators bind the same variable anew, each variable is bound anew by one operator
pub bound_once : (ops : List Operator) → AreDistinct (flat_map outs_of ops) → (a b v : ℕ) → a < length ops → b < length ops → Among v (outs_of (op_at ops a)) → Among v (outs_of (op_at ops b)) → a ≡ b
bound_once [] d a b v p q x y = absurd (omega (arith, p))
bound_once (op ∷ ops) d zero zero v p q x y = refl
bound_once (op ∷ ops) d zero (suc b) v p q x y = (let c : b < length ops = omega (arith, q) in absurd (distinct_apart (outs_of op) (flat_map outs_of ops) v d x (among_flat outs_of ops b v c y)))
bound_once (op ∷ ops) d (suc a) zero v p q x y = (let c : a < length ops = omega (arith, p) in absurd (distinct_apart (outs_of op) (flat_map outs_of ops) v d y (among_flat outs_of ops a v c x)))
bound_once (op ∷ ops) d (suc a) (suc b) v p q x y =
    let c : a < length ops = omega (arith, p) in
    let e : b < length ops = omega (arith, q) in
    ap suc (bound_once ops (distinct_after (outs_of op) (flat_map outs_of ops) d) a b v c e x y)

-- a member of a list stands in it once at least
count_among : (i : ℕ) (xs : List ℕ) → Among i xs → 1 ≤ count_by (λ m. m == i) xs
count_among i [] a = absurd a
count_among i (x ∷ xs) (inl e) =
    let t : (x == i) ≡ true = grind (arith, nat_tests, e) in
    let o : count_by (λ m. m == i) (x ∷ []) ≡ 1 = rw t refl in
    subst (λ (n : ℕ). 1 ≤ n) (sym (count-append i (x ∷ []) xs)) (omega (arith, o))
count_among i (x ∷ xs) (inr a) =
    let t = count_among i xs a in
    subst (λ (n : ℕ). 1 ≤ n) (sym (count-append i (x ∷ []) xs)) (omega (arith, t))

-- an operator reads another at most as often as all do
pub count_flat : (i : ℕ) (ops : List Operator) (n : ℕ) → n < length ops → count_by (λ m. m == i) (inputs_of (op_at ops n)) ≤ count_by (λ m. m == i) (flat_map inputs_of ops)
count_flat i [] n b = absurd (omega (arith, b))
count_flat i (op ∷ ops) zero b = (let e = count-append i (inputs_of op) (flat_map inputs_of ops) in omega (arith, e))
count_flat i (op ∷ ops) (suc n) b =
    let c : n < length ops = omega (arith, b) in
    let e = count-append i (inputs_of op) (flat_map inputs_of ops) in
    let h = count_flat i ops n c in omega (arith, e, h)

-- an operator that is an input once has one reader
pub reader_once : (ops : List Operator) (i : ℕ) → count_by (λ m. m == i) (flat_map inputs_of ops) ≤ 1 → (a b : ℕ) → a < length ops → b < length ops → Among i (inputs_of (op_at ops a)) → Among i (inputs_of (op_at ops b)) → a ≡ b
reader_once [] i u a b p q x y = absurd (omega (arith, p))
reader_once (op ∷ ops) i u zero zero p q x y = refl
reader_once (op ∷ ops) i u zero (suc b) p q x y =
    let c : b < length ops = omega (arith, q) in
    let e = count-append i (inputs_of op) (flat_map inputs_of ops) in
    let h = count_among i (inputs_of op) x in
    let k = count_among i (inputs_of (op_at ops b)) y in
    let l = count_flat i ops b c in absurd (omega (arith, e, h, k, l, u))
reader_once (op ∷ ops) i u (suc a) zero p q x y =
    let c : a < length ops = omega (arith, p) in
    let e = count-append i (inputs_of op) (flat_map inputs_of ops) in
    let h = count_among i (inputs_of op) y in
    let k = count_among i (inputs_of (op_at ops a)) x in
    let l = count_flat i ops a c in absurd (omega (arith, e, h, k, l, u))
reader_once (op ∷ ops) i u (suc a) (suc b) p q x y =
    let c : a < length ops = omega (arith, p) in
    let d : b < length ops = omega (arith, q) in
    let e = count-append i (inputs_of op) (flat_map inputs_of ops) in
    let less : count_by (λ m. m == i) (flat_map inputs_of ops) ≤ 1 = omega (arith, e, u) in
    ap suc (reader_once ops i less a b c d x y)

-- a variable that is bound with one more is that one, or was bound
with_bound : (out v : ℕ) (k j : Kind) (ks : Kinds) → with_kind out k ks v ≡ Some j → Among v (out ∷ []) ⊎ (ks v ≡ Some j)
with_bound out v k j ks e =
    (elim (out == v) as (λ w. (out == v) ≡ w → cond w (Some k) (ks v) ≡ Some j → Among v (out ∷ []) ⊎ (ks v ≡ Some j)) [
      | true ↦ λ t g. inl (inl (sym (eqb-true out v t)))
      | false ↦ λ t g. inr g
    ]) refl e

-- a variable that is kept was bound
pub kept_bound : (keys : List Key) (ks : Kinds) (v : ℕ) (j : Kind) → kept keys ks v ≡ Some j → ks v ≡ Some j
kept_bound keys ks v j e = elim (has_var keys v) as (λ w. cond w (ks v) None ≡ Some j → ks v ≡ Some j) [ true ↦ λ g. g | false ↦ λ g. cc ] e

-- what is bound after a stage is bound by it, or was
stage_bound : (stage : Stage) (ks : Kinds) (v : ℕ) (j : Kind) → stage_kinds stage ks v ≡ Some j → Among v (stage_outs stage) ⊎ ((k : Kind) × (ks v ≡ Some k))
stage_bound (filters test) ks v j e = inr (j, e)
stage_bound (extends out made) ks v j e = elim (with_bound out v (made_kind made) j ks e) [ inl a ↦ inl a | inr h ↦ inr (j, h) ]
stage_bound (first_by_keys keys None) ks v j e = inr (j, kept_bound keys ks v j e)
stage_bound (first_by_keys keys (Some group)) ks v j e =
    elim (with_bound group.1 v a_list j (kept keys ks) e) [ inl a ↦ inl a | inr h ↦ inr (j, kept_bound keys ks v j h) ]
stage_bound (one_group piece out) ks v j e = elim (with_bound out v a_list j no_kinds e) [ inl a ↦ inl a | inr h ↦ cc ]
stage_bound (in_order u desc) ks v j e = inr (j, e)

-- an input of the shape binds a variable
abbrev ByInput : Shape → (ℕ → Kinds) → ℕ → Type 0
ByInput f of v = (i : ℕ) × Among i (shape_inputs f) × ((k : Kind) × (of i v ≡ Some k))

-- what is bound is bound by the operator or by an input
shape_bound : (f : Shape) (of : ℕ → Kinds) (v : ℕ) (j : Kind) → shape_kinds f of v ≡ Some j → Among v (shape_outs f) ⊎ ByInput f of v
shape_bound (one_source s out) of v j e = elim (with_bound out v a_node j no_kinds e) [ inl a ↦ inl a | inr h ↦ cc ]
shape_bound (visits_below input start path out) of v j e = elim (with_bound out v a_node j (of input) e) [ inl a ↦ inl a | inr h ↦ inr (input, inl refl, (j, h)) ]
shape_bound (pairs_up left right tests) of v j e =
    (elim (of left v) as (λ w. of left v ≡ w → either_kind w (of right v) ≡ Some j → Among v [] ⊎ ByInput (pairs_up left right tests) of v) [
      | None ↦ λ t g. inr (right, inr (inl refl), (j, g))
      | Some k ↦ λ t g. inr (left, inl refl, (k, t))
    ]) refl e
shape_bound (passes_on input stage) of v j e = elim (stage_bound stage (of input) v j e) [ inl a ↦ inl a | inr h ↦ inr (input, inl refl, h) ]
shape_bound (no_events input made) of v j e = cc

module _ (p : PlanValue) (valid : IsValid p) (typed : IsTyped p.ops) where
  abbrev ops : List Operator
  ops = p.ops

  -- operator n reads operator m through d readers, one above another
  abbrev pub Up : ℕ → ℕ → ℕ → Type 0
  Up m zero n = m ≡ n
  Up m (suc d) n = (q : ℕ) × (q < length ops) × Among m (inputs_of (op_at ops q)) × Up q d n

  -- an operator that reads one which reads m through d readers reads m through one more
  pub up_more : (m d i n : ℕ) → Up m d i → Among i (inputs_of (op_at ops n)) → n < length ops → Up m (suc d) n
  up_more m zero i n u a b = (n, b, subst (λ (z : ℕ). Among z (inputs_of (op_at ops n))) (sym u) a, refl)
  up_more m (suc d) i n u a b = (u.0, u.1, u.2, up_more u.0 d i n u.3 a b)

  -- an input has a smaller number
  pub smaller : (m n : ℕ) → n < length ops → Among m (inputs_of (op_at ops n)) → m < n
  smaller m n b a = each_among (λ i. i < n) (inputs_of (op_at ops n)) (typed.inputs n b) m a

  -- each reader has a greater number
  pub up_above : (m d n : ℕ) → Up m d n → m + d ≤ n
  up_above m zero n u = omega (arith, u)
  up_above m (suc d) n u = (let h = up_above u.0 d n u.3 in let k = smaller m u.0 u.1 u.2 in omega (arith, h, k))

  -- an input of an operator is an input once
  pub once : (i n : ℕ) → n < length ops → Among i (inputs_of (op_at ops n)) → count_by (λ m. m == i) (flat_map inputs_of ops) ≤ 1
  once i n b a =
      let s = smaller i n b a in
      let c : suc i < length ops = omega (arith, s, b) in
      let e : count_by (λ m. m == i) (flat_map inputs_of ops) ≡ 1 = valid.used_once i c in omega (arith, e)

  -- of two operators that read one operator through readers, one reads the other so, or they are one
  pub one_way : (m d e a b : ℕ) → Up m d a → Up m e b → ((k : ℕ) × Up a k b) ⊎ ((k : ℕ) × Up b k a)
  one_way m zero e a b u w = inl (e, subst (λ (z : ℕ). Up z e b) u w)
  one_way m (suc d) zero a b u w = inr (suc d, subst (λ (z : ℕ). Up z (suc d) a) w u)
  one_way m (suc d) (suc e) a b u w =
      let same : u.0 ≡ w.0 = reader_once ops m (once m u.0 u.1 u.2) u.0 w.0 u.1 w.1 u.2 w.2 in
      one_way u.0 d e a b u.3 (subst (λ (z : ℕ). Up z e b) (sym same) w.3)

  -- operator n, or one that it reads through others, binds a variable anew
  abbrev Origin : ℕ → ℕ → Type 0
  Origin n v = (m : ℕ) × (d : ℕ) × (m < length ops) × Among v (outs_of (op_at ops m)) × Up m d n

  -- what an operator binds, from what its inputs bind
  pub kinds-is : (n : ℕ) → n < length ops → kinds ops n ≡ op_kinds (op_at ops n) (kinds ops)
  unfolding kinds
  kinds-is n b = by_number-is op_kinds no_kinds ops n op_kinds-reads (typed.inputs n b)

  -- what an operator binds is bound anew by it or below it
  origin : (k n v : ℕ) (j : Kind) → n < k → n < length ops → kinds ops n v ≡ Some j → Origin n v
  origin zero n v j h b e = absurd (omega (arith, h))
  origin (suc k) n v j h b e =
      elim (shape_bound (shape_at ops n) (kinds ops) v j (sym (ap (λ (f : Kinds). f v) (kinds-is n b)) ∙ e)) [
        | inl a ↦ (n, 0, b, a, refl)
        | inr i ↦
            (let s = smaller i.0 n b i.1 in
            let c : i.0 < k = omega (arith, s, h) in
            let d : i.0 < length ops = omega (arith, s, b) in
            let o = origin k i.0 v i.2.0 c d i.2.1 in
            (o.0, suc o.1, o.2, o.3, up_more o.0 o.1 i.0 n o.4 i.1 b))
      ]

  -- what an operator binds anew is not bound by an input
  pub out_fresh : (n i v : ℕ) → n < length ops → Among i (inputs_of (op_at ops n)) → Among v (outs_of (op_at ops n)) → kinds ops i v ≡ None
  out_fresh n i v b a o =
      (elim (kinds ops i v) as (λ w. kinds ops i v ≡ w → w ≡ None) [
        | None ↦ λ e. refl
        | Some j ↦ λ e.
            absurd
            (let s = smaller i n b a in
            let c : i < suc i = omega arith in
            let d : i < length ops = omega (arith, s, b) in
            let r = origin (suc i) i v j c d e in
            let same : r.0 ≡ n = bound_once ops valid.distinct r.0 n v r.2 b r.3 o in
            let up = up_above r.0 r.1 i r.4 in omega (arith, same, up, s))
      ]) refl

  -- two inputs of one operator, one of which stands above the other
  pub no_above : (n a b k : ℕ) → n < length ops → Among a (inputs_of (op_at ops n)) → Among b (inputs_of (op_at ops n)) → (a ≡ b → ⊥) → Up a k b → ⊥
  no_above n a b zero l x y other u = other u
  no_above n a b (suc k) l x y other u =
      let same : u.0 ≡ n = reader_once ops a (once a n l x) u.0 n u.1 l u.2 x in
      let up = up_above u.0 k b u.3 in
      let s = smaller b n l y in omega (arith, same, up, s)

  -- two inputs of one operator differ
  pub inputs_differ : (n left right : ℕ) → n < length ops → inputs_of (op_at ops n) ≡ left ∷ right ∷ [] → left ≡ right → ⊥
  inputs_differ n left right b is z =
      let u = once left n b (subst (Among left) (sym is) (inl refl)) in
      let c = count_flat left ops n b in
      let e : (right == left) ≡ true = grind (arith, nat_tests, z) in
      let f : (left == left) ≡ true = grind (arith, nat_tests) in
      let two : 2 ≤ count_by (λ m. m == left) (left ∷ right ∷ []) = rw (f, e) (omega arith) in
      let t : 2 ≤ count_by (λ m. m == left) (inputs_of (op_at ops n)) = subst (λ (xs : List ℕ). 2 ≤ count_by (λ m. m == left) xs) (sym is) two in
      omega (arith, u, c, t)

  -- the sides of a join bind nothing both
  pub sides_fresh : (n left right v : ℕ) (k : Kind) → n < length ops → inputs_of (op_at ops n) ≡ left ∷ right ∷ [] → kinds ops right v ≡ Some k → kinds ops left v ≡ None
  sides_fresh n left right v k b is e =
      (elim (kinds ops left v) as (λ w. kinds ops left v ≡ w → w ≡ None) [
        | None ↦ λ g. refl
        | Some j ↦ λ g.
            absurd
            (let sl = smaller left n b in_left in
            let sr = smaller right n b in_right in
            let cl : left < suc left = omega arith in
            let cr : right < suc right = omega arith in
            let dl : left < length ops = omega (arith, sl, b) in
            let dr : right < length ops = omega (arith, sr, b) in
            let x = origin (suc left) left v j cl dl g in
            let y = origin (suc right) right v k cr dr e in
            let same : x.0 ≡ y.0 = bound_once ops valid.distinct x.0 y.0 v x.2 y.2 x.3 y.3 in
            elim (one_way x.0 x.1 y.1 left right x.4 (subst (λ (z : ℕ). Up z y.1 right) (sym same) y.4)) [
              | inl u ↦ no_above n left right u.0 b in_left in_right differ u.1
              | inr u ↦ no_above n right left u.0 b in_right in_left (λ (z : right ≡ left). differ (sym z)) u.1
            ])
      ]) refl
    where
      in_left : Among left (inputs_of (op_at ops n))
      in_left = subst (Among left) (sym is) (inl refl)

      in_right : Among right (inputs_of (op_at ops n))
      in_right = subst (Among right) (sym is) (inr (inl refl))

      differ : left ≡ right → ⊥
      differ = inputs_differ n left right b is
