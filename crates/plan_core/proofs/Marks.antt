-- Marks on the inputs of operators, and the plans in which each gets one.
use Rattle.std.proofs.Common.{◌≡◌, ◌<◌, ◌≤◌, ◌+◌, inl, inr, ℕ, zero, suc, true, false, cond, List, [], ◌∷◌, ◌++◌, refl, sym, ap, subst, ◌∙◌, arith, length, take, drop, append_assoc}
use Rattle.std.specs.Prelude.{Bool, slice_index_or, slice_set}
use Rattle.std.specs.List.{AllByRecursion, flat_map}
use Rattle.std.proofs.lemmas.Bool.{eq-eqb, ne_eqb, cases_eq, cases_lt}
use Rattle.std.proofs.lemmas.Grind.{flat_map-append}
use Rattle.std.proofs.lemmas.List.{append-nil, length-set, length_push, drop_all, take_all, take_more}
use Rattle.mix_base.proofs.Firsts.{each_weaker}
use Rattle.plan_core.specs.ByNumber.{op_at}
use Rattle.plan_core.specs.Plans.{Operator, source}
use Rattle.plan_core.specs.Trees.{IsTree, times, HaveMarks, lacks_mark, IsMarked, CannotMark}
use Rattle.plan_core.specs.Valid.{inputs_of, uses_of}
use Rattle.plan_core.proofs.Chained.{count-append, count-one}

-- a mark that a number has, as how often it stands among those with one
abbrev mark_at : List Bool → ℕ → ℕ
mark_at marks n = cond (slice_index_or marks n false) 1 0

-- a number that lacks a mark is one of the marks'
lacks_within : (marks : List Bool) (n : ℕ) → lacks_mark marks n ≡ true → n < length marks
lacks_within [] n g = cc
lacks_within (m ∷ marks) zero g = omega arith
lacks_within (m ∷ marks) (suc n) g = let h = lacks_within marks n g in omega (arith, h)

-- a number that lacks a mark has none
lacks_none : (marks : List Bool) (n : ℕ) → lacks_mark marks n ≡ true → slice_index_or marks n false ≡ false
lacks_none [] n g = cc
lacks_none (true ∷ marks) zero g = cc
lacks_none (false ∷ marks) zero g = refl
lacks_none (m ∷ marks) (suc n) g = lacks_none marks n g

-- a number of the marks' that doesn't lack a mark has one
lacks_not : (marks : List Bool) (n : ℕ) → lacks_mark marks n ≡ false → n < length marks → slice_index_or marks n false ≡ true
lacks_not [] n g h = absurd (omega (arith, h))
lacks_not (true ∷ marks) zero g h = refl
lacks_not (false ∷ marks) zero g h = cc
lacks_not (m ∷ marks) (suc n) g h = lacks_not marks n g (omega (arith, h))

-- a number has the mark that it got
mark_here : (marks : List Bool) (n : ℕ) → n < length marks → slice_index_or (slice_set marks n true) n false ≡ true
mark_here [] n h = absurd (omega (arith, h))
mark_here (m ∷ marks) zero h = refl
mark_here (m ∷ marks) (suc n) h = mark_here marks n (omega (arith, h))

-- another number got no mark
mark_other : (marks : List Bool) (i n : ℕ) → (n ≡ i → ⊥) → slice_index_or (slice_set marks i true) n false ≡ slice_index_or marks n false
mark_other [] i n d = refl
mark_other (m ∷ marks) zero zero d = absurd (d refl)
mark_other (m ∷ marks) zero (suc n) d = refl
mark_other (m ∷ marks) (suc i) zero d = refl
mark_other (m ∷ marks) (suc i) (suc n) d = mark_other marks i n (λ e. d (ap suc e))

-- one number more, which has no mark yet
mark_more : (marks : List Bool) (n : ℕ) → slice_index_or (marks ++ false ∷ []) n false ≡ slice_index_or marks n false
mark_more [] zero = refl
mark_more [] (suc n) = refl
mark_more (m ∷ marks) zero = refl
mark_more (m ∷ marks) (suc n) = mark_more marks n

-- a number that lacks a mark gets one
pub one_marked : (old new : List Bool) (n : ℕ) → lacks_mark old n ≡ true → new ≡ slice_set old n true → IsMarked old (n ∷ []) new
one_marked old new n g e = subst (IsMarked old (n ∷ [])) (sym e) marked
  where
    marked : IsMarked old (n ∷ []) (slice_set old n true)
    marked = record {
      count = length-set old n true;
      within = (lacks_within old n g, tt);
      more = λ had h m.
          (let both = count-append m had (n ∷ []) in
          let own = count-one m n in
          elim (cases_eq m n) as (λ z. times (had ++ n ∷ []) m ≡ mark_at (slice_set old n true) m) [
            | inl e ↦
                (let had_none : times had m ≡ 0 = h m ∙ ap (λ (k : ℕ). mark_at old k) e ∙ ap (λ (b : Bool). cond b 1 0) (lacks_none old n g) in
                let one : times (n ∷ []) m ≡ 1 = own ∙ ap (λ (b : Bool). cond b 1 0) (eq-eqb n m (sym e)) in
                let now : mark_at (slice_set old n true) m ≡ 1 = ap (λ (k : ℕ). mark_at (slice_set old n true) k) e ∙ ap (λ (b : Bool). cond b 1 0) (mark_here old n (lacks_within old n g)) in
                omega (arith, both, had_none, one, now))
            | inr d ↦
                (let none : times (n ∷ []) m ≡ 0 = own ∙ ap (λ (b : Bool). cond b 1 0) (ne_eqb n m (λ e. d (sym e))) in
                let as_had = h m in
                let now : mark_at (slice_set old n true) m ≡ mark_at old m = ap (λ (b : Bool). cond b 1 0) (mark_other old n m d) in
                omega (arith, both, none, as_had, now))
          ]);
    }

-- a number that doesn't lack a mark gets none
pub one_unmarked : (marks : List Bool) (n : ℕ) → lacks_mark marks n ≡ false → CannotMark marks (n ∷ [])
one_unmarked marks n g = record {
  contrary = λ had h w u.
      (let both = count-append n had (n ∷ []) in
      let one : times (n ∷ []) n ≡ 1 = count-one n n ∙ ap (λ (b : Bool). cond b 1 0) (eq-eqb n n refl) in
      let has : times had n ≡ 1 = h n ∙ ap (λ (b : Bool). cond b 1 0) (lacks_not marks n g w.0) in
      let most = u n in
      omega (arith, both, one, has, most));
}

-- no number at all gets a mark
pub none_marked : (marks : List Bool) → IsMarked marks [] marks
none_marked marks = record { count = refl; within = tt; more = λ had h. subst (HaveMarks marks) (sym (append-nil had)) h }

-- two numbers get a mark, one after the other
pub both_marked : (old mid new : List Bool) (l r : ℕ) → IsMarked old (l ∷ []) mid → IsMarked mid (r ∷ []) new → IsMarked old (l ∷ r ∷ []) new
both_marked old mid new l r a b = record {
  count = b.count ∙ a.count;
  within = (a.within.0, (let w = b.within.0 in let c = a.count in omega (arith, w, c), tt));
  more = λ had h. subst (HaveMarks new) (append_assoc had (l ∷ []) (r ∷ [])) (b.more (had ++ l ∷ []) (a.more had h));
}

-- of two numbers the first gets no mark
pub first_unmarked : (marks : List Bool) (l r : ℕ) → CannotMark marks (l ∷ []) → CannotMark marks (l ∷ r ∷ [])
first_unmarked marks l r c = record {
  contrary = λ had h w u.
      c.contrary had h (w.0, tt)
      (λ n. (let one = count-append n had (l ∷ []) in
      let two = count-append n had (l ∷ r ∷ []) in
      let own = count-append n (l ∷ []) (r ∷ []) in
      let most = u n in
      omega (arith, one, two, own, most)));
}

-- of two numbers the second gets no mark after the first
pub second_unmarked : (old mid : List Bool) (l r : ℕ) → IsMarked old (l ∷ []) mid → CannotMark mid (r ∷ []) → CannotMark old (l ∷ r ∷ [])
second_unmarked old mid l r a c = record {
  contrary = λ had h w u.
      c.contrary (had ++ l ∷ []) (a.more had h)
      (let x = w.1.0 in let n = a.count in omega (arith, x, n), tt)
      (λ n. subst (λ (is : List ℕ). times is n ≤ 1) (sym (append_assoc had (l ∷ []) (r ∷ []))) (u n));
}

-- the inputs of the first k operators have marks, and each stands before its operator
pub record AreMarked (ops : List Operator) (k : ℕ) (marks : List Bool) : Type 0 where
  pub count : length marks ≡ k
  pub before : (n : ℕ) → n < k → AllByRecursion (λ i. i < n) (inputs_of (op_at ops n))
  pub have : HaveMarks marks (flat_map inputs_of (take k ops))

-- the inputs of one operator more come after those of the first k
inputs_more : (ops : List Operator) (k : ℕ) → k < length ops → flat_map inputs_of (take (k + 1) ops) ≡ flat_map inputs_of (take k ops) ++ inputs_of (op_at ops k)
inputs_more ops k b =
    ap (flat_map inputs_of) (take_more ops k (source 0 0) b)
    ∙ flat_map-append inputs_of (take k ops) (op_at ops k ∷ [])
    ∙ ap (λ (is : List ℕ). flat_map inputs_of (take k ops) ++ is) (append-nil (inputs_of (op_at ops k)))

-- the first operators use an operator at most as often as all
earlier_fewer : (ops : List Operator) (k i : ℕ) → times (flat_map inputs_of (take k ops)) i ≤ uses_of ops i
earlier_fewer [] zero i = omega arith
earlier_fewer [] (suc k) i = omega arith
earlier_fewer (op ∷ ops) zero i = omega arith
earlier_fewer (op ∷ ops) (suc k) i =
    let fewer = earlier_fewer ops k i in
    let some = count-append i (inputs_of op) (flat_map inputs_of (take k ops)) in
    let all = count-append i (inputs_of op) (flat_map inputs_of ops) in
    omega (arith, fewer, some, all)

-- no operator has marked inputs yet
pub marked_none : (ops : List Operator) → AreMarked ops 0 []
marked_none ops = record { count = refl; before = λ n b. absurd (omega (arith, b)); have = λ n. refl }

-- marks that were changed in place, which are as many as before
pub written_back : (old new : List Bool) (n : ℕ) → length new ≡ length old → length old ≡ n → take n (new ++ drop (length new) old) ≡ new
written_back old new n e l =
    ap (λ (ms : List Bool). take n (new ++ ms)) (drop_all (length new) old (omega (arith, e)))
    ∙ ap (take n) (append-nil new)
    ∙ take_all n new (omega (arith, e, l))

-- the inputs of one operator more have marks
pub marked_more : (ops : List Operator) (k : ℕ) (op : Operator) (old new : List Bool) → k < length ops → op_at ops k ≡ op → AreMarked ops k old → IsMarked old (inputs_of op) new
    → AreMarked ops (k + 1) (new ++ false ∷ [])
marked_more ops k op old new b e h m = record {
  count = (let long = length_push new false in let c = h.count in let d = m.count in omega (arith, long, c, d));
  before = λ n l.
      elim (cases_lt n k) as (λ z. AllByRecursion (λ i. i < n) (inputs_of (op_at ops n))) [
        | inl c ↦ h.before n c
        | inr c ↦
            (let q : n ≡ k = omega (arith, l, c) in
            let own : AllByRecursion (λ i. i < k) (inputs_of op) =
            each_weaker (λ i. i < length old) (λ i. i < k) (λ i x. (let o = h.count in omega (arith, x, o))) (inputs_of op) m.within
            in
            subst (λ (j : ℕ). AllByRecursion (λ i. i < j) (inputs_of (op_at ops j))) (sym q) (subst (λ (o : Operator). AllByRecursion (λ i. i < k) (inputs_of o)) (sym e) own))
      ];
  have = λ n.
      ap (λ (is : List ℕ). times is n) (inputs_more ops k b ∙ ap (λ (o : Operator). flat_map inputs_of (take k ops) ++ inputs_of o) e)
      ∙ m.more (flat_map inputs_of (take k ops)) h.have n
      ∙ ap (λ (x : Bool). cond x 1 0) (sym (mark_more new n));
}

-- where all inputs have marks, the plan is a tree
pub marked_tree : (ops : List Operator) (k : ℕ) (marks : List Bool) → length ops ≤ k → AreMarked ops k marks → IsTree ops
marked_tree ops k marks b h = record {
  before = λ n l. h.before n (omega (arith, b, l));
  once = λ i.
      (let all : times (flat_map inputs_of ops) i ≡ mark_at marks i = ap (λ (os : List Operator). uses_of os i) (sym (take_all k ops b)) ∙ h.have i in
      let most : mark_at marks i ≤ 1 = elim (slice_index_or marks i false) as (λ (x : Bool). cond x 1 0 ≤ 1) [ true ↦ omega arith | false ↦ omega arith ] in
      omega (arith, all, most));
}

-- where the inputs of an operator cannot get marks, the plan is no tree
pub unmarked_no_tree : (ops : List Operator) (k : ℕ) (op : Operator) (marks : List Bool) → k < length ops → op_at ops k ≡ op → AreMarked ops k marks → CannotMark marks (inputs_of op) → IsTree ops → ⊥
unmarked_no_tree ops k op marks b e h c t =
    c.contrary (flat_map inputs_of (take k ops)) h.have
    (each_weaker (λ i. i < k) (λ i. i < length marks) (λ i x. (let o = h.count in omega (arith, x, o))) (inputs_of op)
    (subst (λ (o : Operator). AllByRecursion (λ i. i < k) (inputs_of o)) e (t.before k b)))
    (λ i.
    (let fewer = earlier_fewer ops (k + 1) i in
    let once = t.once i in
    let own : times (flat_map inputs_of (take (k + 1) ops)) i ≡ times (flat_map inputs_of (take k ops) ++ inputs_of op) i =
    ap (λ (is : List ℕ). times is i) (inputs_more ops k b ∙ ap (λ (o : Operator). flat_map inputs_of (take k ops) ++ inputs_of o) e)
    in
    omega (arith, fewer, once, own)))
