-- Fronts of the operators so far, as the program keeps them.
use Rattle.std.proofs.Common.{◌≡◌, ◌<◌, ◌≤◌, ◌+◌, inl, inr, ℕ, zero, suc, true, false, cond, List, [], ◌∷◌, ◌++◌, refl, sym, ap, ◌∙◌, arith, length, map, take, get_or}
use Rattle.std.specs.Prelude.{Bool, ◌&&◌, ◌==◌, slice_set}
use Rattle.std.specs.List.{AllByRecursion}
use Rattle.std.proofs.lemmas.Bool.{eq-eqb, ne_eqb, cases_eq, cases_lt}
use Rattle.std.proofs.lemmas.List.{get_or_append_left, get_or_at, get_or_past, length-set, length_push, map-append, take_more}
use Rattle.mix_base.specs.Ascents.{Among}
use Rattle.mix_base.proofs.Ascents.{among_each}
use Rattle.mix_base.proofs.Firsts.{each_all, each_both, each_weaker}
use Rattle.mix_tree.specs.declared.var.Key.{Key}
use Rattle.plan_core.specs.ByNumber.{op_at, below_op}
use Rattle.plan_core.specs.Fronts.{Front, no_front, node_keys, covers, are_contiguous, op_front, front, front_at, stops_over, apart_over}
use Rattle.plan_core.specs.FrontsKept.{Fronts, front_in, without, AreKept, HasInputs}
use Rattle.plan_core.specs.PlanMade.{op_of}
use Rattle.plan_core.specs.Plans.{Operator, source}
use Rattle.plan_core.specs.declared.plan.Op.{Op}
use Rattle.plan_core.specs.Shapes.{Shape, one_source, visits_below, pairs_up, passes_on, no_events, shape_of}
use Rattle.plan_core.specs.Trees.{IsTree, times}
use Rattle.plan_core.specs.Valid.{AreDistinct, shape_inputs, inputs_of}
use Rattle.plan_core.proofs.Chained.{count-append, count-one}
use Rattle.plan_core.proofs.Fresh.{count_flat, reader_once}
use Rattle.plan_core.proofs.Numbers.{below_op-at, below_op-past, front-of, op_front-reads}

-- a front stays where another one moves out
stays_other : (fs : List Front) (i n : ℕ) → (n ≡ i → ⊥) → front_at (slice_set fs i (no_front true)) n ≡ front_at fs n
stays_other [] i n d = refl
stays_other (f ∷ fs) zero zero d = absurd (d refl)
stays_other (f ∷ fs) zero (suc n) d = refl
stays_other (f ∷ fs) (suc i) zero d = refl
stays_other (f ∷ fs) (suc i) (suc n) d = stays_other fs i n (λ e. d (ap suc e))

-- a front stays where fronts don't move on, or another one does
stays_one : (moving : Bool) (fs : List Front) (i n : ℕ) → (moving ≡ true → n ≡ i → ⊥) → front_at (cond moving (slice_set fs i (no_front true)) fs) n ≡ front_at fs n
stays_one true fs i n d = stays_other fs i n (d refl)
stays_one false fs i n d = refl

-- a front stays where fronts don't move on, or those of other numbers do
pub stays : (f : Fronts) (is : List ℕ) (n : ℕ) → (f.moving ≡ true → Among n is → ⊥) → front_in (without f is) n ≡ front_in f n
stays f [] n d = refl
stays f (i ∷ is) n d =
    stays (record { moving = f.moving; kept = cond f.moving (slice_set f.kept i (no_front true)) f.kept }) is n (λ m a. d m (inr a))
    ∙ stays_one f.moving f.kept i n (λ m e. d m (inl e))

-- as many fronts are there where some move on
pub length_without : (f : Fronts) (is : List ℕ) → length (without f is).kept ≡ length f.kept
length_without f [] = refl
length_without f (i ∷ is) =
    length_without (record { moving = f.moving; kept = cond f.moving (slice_set f.kept i (no_front true)) f.kept }) is ∙ one f.moving f.kept
  where
    one : (moving : Bool) (fs : List Front) → length (cond moving (slice_set fs i (no_front true)) fs) ≡ length fs
    one true fs = length-set fs i (no_front true)
    one false fs = refl

-- whether fronts move on stays
pub moving_without : (f : Fronts) (is : List ℕ) → (without f is).moving ≡ f.moving
moving_without f [] = refl
moving_without f (i ∷ is) = moving_without (record { moving = f.moving; kept = cond f.moving (slice_set f.kept i (no_front true)) f.kept }) is

-- the right side's front is there after the left side's moved on
pub right_stays : (f : Fronts) (l r : ℕ) → (f.moving ≡ true → AreDistinct (l ∷ r ∷ [])) → front_in (without f (l ∷ [])) r ≡ front_in f r
right_stays f l r d = stays f (l ∷ []) r (λ m a. differs (d m) a)
  where
    differs : AreDistinct (l ∷ r ∷ []) → Among r (l ∷ []) → ⊥
    differs h (inl e) = (let t = eq-eqb r l e in let f = rw t at h.0 in cc)
    differs h (inr a) = a

-- the inputs of a shape are distinct where each is counted once at most
inputs_distinct : (f : Shape) → ((i : ℕ) → times (shape_inputs f) i ≤ 1) → AreDistinct (shape_inputs f)
inputs_distinct (one_source s out) h = tt
inputs_distinct (visits_below i start path out) h = (refl, tt)
inputs_distinct (pairs_up l r tests) h = elim (cases_eq r l) [
  | inl e ↦
      absurd
      (let both = count-append l (l ∷ []) (r ∷ []) in
      let one : times (l ∷ []) l ≡ 1 = count-one l l ∙ ap (λ (b : Bool). cond b 1 0) (eq-eqb l l refl) in
      let two : times (r ∷ []) l ≡ 1 = count-one l r ∙ ap (λ (b : Bool). cond b 1 0) (eq-eqb r l e) in
      let most = h l in
      omega (arith, both, one, two, most))
  | inr n ↦ (let differs : (r == l) ≡ false = ne_eqb r l n in (rw differs refl, (refl, tt)))
]
inputs_distinct (passes_on i stage) h = (refl, tt)
inputs_distinct (no_events i made) h = (refl, tt)

-- the inputs of an operator of a tree are distinct
pub tree_distinct : (ops : List Operator) → IsTree ops → (n : ℕ) → n < length ops → AreDistinct (inputs_of (op_at ops n))
tree_distinct ops t n b = inputs_distinct (shape_of (op_at ops n)) (λ i. (let few = count_flat i ops n b in let once = t.once i in omega (arith, few, once)))

-- no fronts are kept of no operators
pub kept_none : (ops : List Operator) (moving : Bool) → (moving ≡ true → IsTree ops) → AreKept ops 0 (record { moving = moving; kept = [] })
kept_none ops moving t = record { count = refl; tree = t; staying = λ m i b. absurd (omega (arith, b)); waiting = λ i j b. absurd (omega (arith, b)) }

module _ (ops : List Operator) (n : ℕ) (old : Fronts) (b : n < length ops) (h : AreKept ops n old) where
  -- the operator of the number
  abbrev op : Operator
  op = op_at ops n

  -- the front that is kept of an input, or of no bindings where the input stands at or after the operator
  pub input_front : (i : ℕ) → Among i (inputs_of op) → front_in old i ≡ below_op op_front (no_front true) ops n i
  unfolding front
  input_front i a =
      elim (cases_lt i n) as (λ z. front_in old i ≡ below_op op_front (no_front true) ops n i) [
        | inl l ↦ h.waiting i n l (omega arith) b a ∙ sym (below_op-at op_front (no_front true) ops n i l)
        | inr l ↦ (let c = h.count in get_or_past old.kept i (no_front true) (omega (arith, c, l))) ∙ sym (below_op-past op_front (no_front true) ops n i l)
      ]

  -- the front made of those that are kept is the operator's
  pub front_next : op_front op (front_in old) ≡ front ops n
  unfolding front
  front_next =
      op_front-reads op (front_in old) (below_op op_front (no_front true) ops n)
      (among_each (λ i. front_in old i ≡ below_op op_front (no_front true) ops n i) (inputs_of op) input_front)

  -- the fronts of inputs that stand before the operator are kept
  pub inputs_kept : AllByRecursion (λ i. i < n) (inputs_of op) → HasInputs ops old op
  inputs_kept before =
      each_weaker (λ i. (i < n) × Among i (inputs_of op)) (λ i. front_in old i ≡ front ops i) (λ i x. h.waiting i n x.0 (omega arith) b x.1) (inputs_of op)
      (each_both (λ i. i < n) (λ i. Among i (inputs_of op)) (inputs_of op) before (among_each (λ i. Among i (inputs_of op)) (inputs_of op) (λ i a. a)))

  module _ (new : Fronts) (f : Front) (made : f ≡ op_front op (front_in old)) (moves : new.moving ≡ old.moving) (kept : new.kept ≡ (without old (inputs_of op)).kept ++ f ∷ []) where
    -- as many fronts as before, and one more
    many : length (without old (inputs_of op)).kept ≡ n
    many = length_without old (inputs_of op) ∙ h.count

    -- a front that stays
    stays_there : (i : ℕ) → i < n → (old.moving ≡ true → Among i (inputs_of op) → ⊥) → front_in new i ≡ front_in old i
    stays_there i l d =
        ap (λ (fs : List Front). front_at fs i) kept
        ∙ (let m = many in get_or_append_left (without old (inputs_of op)).kept (f ∷ []) (no_front true) i (omega (arith, m, l)))
        ∙ stays old (inputs_of op) i d

    -- the front of the operator itself
    own_there : (i : ℕ) → i ≡ n → front_in new i ≡ front ops i
    own_there i e =
        ap (λ (fs : List Front). front_at fs i) kept
        ∙ get_or_at (without old (inputs_of op)).kept f [] (no_front true) i (many ∙ sym e)
        ∙ made
        ∙ front_next
        ∙ ap (front ops) (sym e)

    -- the fronts of one operator more are kept
    pub kept_more : AreKept ops (suc n) new
    kept_more = record {
      count = (let long = length_push (without old (inputs_of op)).kept f in let m = many in ap length kept ∙ omega (arith, long, m));
      tree = λ m. h.tree (sym moves ∙ m);
      staying = λ m i l.
          elim (cases_lt i n) as (λ z. front_in new i ≡ front ops i) [
            | inl c ↦ stays_there i c (λ t. (let no : true ≡ false = sym t ∙ sym moves ∙ m in cc)) ∙ h.staying (sym moves ∙ m) i c
            | inr c ↦ own_there i (omega (arith, l, c))
          ];
      waiting = λ i j l k within a.
          elim (cases_lt i n) as (λ z. front_in new i ≡ front ops i) [
            | inl c ↦
                stays_there i c
                (λ t own. (let same : j ≡ n = reader_once ops i ((h.tree t).once i) j n within b a own in omega (arith, same, k)))
                ∙ h.waiting i j c (omega (arith, k)) within a
            | inr c ↦ own_there i (omega (arith, l, c))
          ];
    }

-- where all fronts stay, those of an operator's inputs are there after the last
pub inputs_after : (ops : List Operator) (n : ℕ) (f : Fronts) → length ops ≤ n → AreKept ops n f → f.moving ≡ false → (op : Operator) → HasInputs ops f op
inputs_after ops n f b h m op =
    each_all (λ i. front_in f i ≡ front ops i)
    (λ i. elim (cases_lt i n) as (λ z. front_in f i ≡ front ops i) [
      | inl l ↦ h.staying m i l
      | inr l ↦
          (let c = h.count in get_or_past f.kept i (no_front true) (omega (arith, c, l)))
          ∙ sym (front-of ops i (source 0 0) (get_or_past ops i (source 0 0) (omega (arith, b, l))) tt)
    ]) (inputs_of op)

-- whether groups end at the first other key is told by the kept fronts as by the plan
pub stops_found : (ops : List Operator) (f : Fronts) (i : ℕ) (keys : List Key) → front_in f i ≡ front ops i → are_contiguous keys (front_in f i).vars ≡ stops_over ops i keys
stops_found ops f i keys e = ap (λ (g : Front). are_contiguous keys g.vars) e

-- whether no two bindings agree by keys is told by the kept fronts as by the plan
pub apart_found : (ops : List Operator) (f : Fronts) (i : ℕ) (keys : List Key) → front_in f i ≡ front ops i
    → ((front_in f i).whole && covers keys (node_keys (front_in f i).vars)) ≡ apart_over ops i keys
apart_found ops f i keys e = ap (λ (g : Front). g.whole && covers keys (node_keys g.vars)) e

-- what is told of one operator more comes after what is told of those before it
pub told_more : {A : Type 0} (g : Operator → A) (ops : List Op) (i : ℕ) (x : Op) → i < length ops → x ≡ get_or ops i x
    → map g (map op_of (take i ops)) ++ g (op_of x) ∷ [] ≡ map g (map op_of (take (i + 1) ops))
told_more g ops i x b e =
    sym
    (ap (λ (ys : List Op). map g (map op_of ys)) (take_more ops i x b ∙ ap (λ (y : Op). take i ops ++ y ∷ []) (sym e))
    ∙ ap (map g) (map-append op_of (take i ops) (x ∷ []))
    ∙ map-append g (map op_of (take i ops)) (op_of x ∷ []))
