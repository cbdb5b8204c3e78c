-- Operators that are numbered by their places, one after another.
use Rattle.std.proofs.Common.{◌≡◌, ◌<◌, ◌≤◌, ◌+◌, ◌∙◌, ℕ, zero, suc, List, [], ◌∷◌, sym, ap, subst, arith, length, take, get_or}
use Rattle.std.specs.List.{AllByRecursion}
use Rattle.plan_core.specs.PlanMade.{op_of}
use Rattle.plan_core.specs.Plans.{Operator}
use Rattle.plan_core.specs.Valid.{HaveSmallerInputs, inputs_of}
use Rattle.plan_read.specs.Checks.{ops_of, CountFrom, AreNumbered}
use Rattle.plan_read.specs.Drafts.{numbered_of, all_numbered, IsPlaced}
use Rattle.plan_read.specs.Reading.{Numbered}
use Rattle.plan_read.specs.declared.draft.Draft.{Draft}
use Rattle.plan_read.proofs.Stopping.{draft_op, draft_number, many_ops, many_numbered}

-- the numbers of the first operators and of the next one count up
count_more : (j : ℕ) (ns : List Numbered) (k : ℕ) (d : Numbered) → k < length ns → CountFrom j (take k ns) → (get_or ns k d).number ≡ j + k → CountFrom j (take (suc k) ns)
count_more j [] k d h c e = absurd (omega arith)
count_more j (n ∷ ns) zero d h c e = let z : j + 0 ≡ j = omega arith in (e ∙ z, tt)
count_more j (n ∷ ns) (suc k) d h c e = let z : j + suc k ≡ suc j + k = omega arith in (c.0, count_more (suc j) ns k d (omega arith) c.1 (e ∙ z))

-- the last of operators that count up has its place as its number
count_last : (j : ℕ) (ns : List Numbered) (k : ℕ) (d : Numbered) → k < length ns → CountFrom j (take (suc k) ns) → (get_or ns k d).number ≡ j + k
count_last j [] k d h c = absurd (omega arith)
count_last j (n ∷ ns) zero d h c = let z : j ≡ j + 0 = omega arith in c.0 ∙ z
count_last j (n ∷ ns) (suc k) d h c = let z : suc j + k ≡ j + suc k = omega arith in count_last (suc j) ns k d (omega arith) c.1 ∙ z

-- where operators count up, fewer of them do
pub count_fewer : (i : ℕ) (ns : List Numbered) (j k : ℕ) → j ≤ k → CountFrom i (take k ns) → CountFrom i (take j ns)
count_fewer i ns zero k h c = tt
count_fewer i [] (suc j) k h c = tt
count_fewer i (n ∷ ns) (suc j) zero h c = absurd (omega arith)
count_fewer i (n ∷ ns) (suc j) (suc k) h c = (c.0, count_fewer (suc i) ns j k (omega arith) c.1)

-- the first operators and the next one have smaller inputs
pub smaller_more : (j : ℕ) (ops : List Operator) (k : ℕ) (d : Operator) → k < length ops → HaveSmallerInputs j (take k ops) → AllByRecursion (λ i. i < j + k) (inputs_of (get_or ops k d)) → HaveSmallerInputs j (take (suc k) ops)
smaller_more j [] k d h s a = absurd (omega arith)
smaller_more j (op ∷ ops) zero d h s a = let z : j + 0 ≡ j = omega arith in (subst (λ (m : ℕ). AllByRecursion (λ i. i < m) (inputs_of op)) z a, tt)
smaller_more j (op ∷ ops) (suc k) d h s a =
    let z : j + suc k ≡ suc j + k = omega arith in
    (s.0, smaller_more (suc j) ops k d (omega arith) s.1 (subst (λ (m : ℕ). AllByRecursion (λ i. i < m) (inputs_of (get_or ops k d))) z a))

-- the last of operators with smaller inputs has smaller inputs
pub smaller_last : (j : ℕ) (ops : List Operator) (k : ℕ) (d : Operator) → k < length ops → HaveSmallerInputs j (take (suc k) ops) → AllByRecursion (λ i. i < j + k) (inputs_of (get_or ops k d))
smaller_last j [] k d h s = absurd (omega arith)
smaller_last j (op ∷ ops) zero d h s = let z : j ≡ j + 0 = omega arith in subst (λ (m : ℕ). AllByRecursion (λ i. i < m) (inputs_of op)) z s.0
smaller_last j (op ∷ ops) (suc k) d h s =
    let z : suc j + k ≡ j + suc k = omega arith in
    subst (λ (m : ℕ). AllByRecursion (λ i. i < m) (inputs_of (get_or ops k d))) z (smaller_last (suc j) ops k d (omega arith) s.1)

-- where operators have smaller inputs, fewer of them have
pub smaller_fewer : (i : ℕ) (ops : List Operator) (j k : ℕ) → j ≤ k → HaveSmallerInputs i (take k ops) → HaveSmallerInputs i (take j ops)
smaller_fewer i ops zero k h s = tt
smaller_fewer i [] (suc j) k h s = tt
smaller_fewer i (op ∷ ops) (suc j) zero h s = absurd (omega arith)
smaller_fewer i (op ∷ ops) (suc j) (suc k) h s = (s.0, smaller_fewer (suc i) ops j k (omega arith) s.1)

-- where operators have smaller inputs, each of them has
pub smaller_at : (ops : List Operator) (k n : ℕ) (d : Operator) → k < length ops → k < n → HaveSmallerInputs 0 (take n ops) → AllByRecursion (λ i. i < k) (inputs_of (get_or ops k d))
smaller_at ops k n d h l s =
    let z : 0 + k ≡ k = omega arith in
    subst (λ (m : ℕ). AllByRecursion (λ i. i < m) (inputs_of (get_or ops k d))) z (smaller_last 0 ops k d h (smaller_fewer 0 ops (suc k) n (omega arith) s))

-- operators of which all those up to their number have smaller inputs have them
pub smaller_all : (j : ℕ) (ops : List Operator) → HaveSmallerInputs j (take (length ops) ops) → HaveSmallerInputs j ops
smaller_all j [] s = tt
smaller_all j (op ∷ ops) s = (s.0, smaller_all (suc j) ops s.1)

-- the first drafts and the next one are numbered by their places
pub numbered_more : (ds : List Draft) (k : ℕ) (d : Draft) → k < length ds → d ≡ get_or ds k d → AreNumbered (all_numbered ds) k → IsPlaced d k → AreNumbered (all_numbered ds) (suc k)
numbered_more ds k d h e before here =
    let l = many_ops ds in
    let m = many_numbered ds in
    let z : 0 + k ≡ k = omega arith in
    let same : get_or (ops_of (all_numbered ds)) k (op_of d.op) ≡ op_of d.op = draft_op ds k d (op_of d.op) h ∙ ap (λ (x : Draft). op_of x.op) (sym e) in
    record {
      counted = count_more 0 (all_numbered ds) k (numbered_of d) (omega (arith, m, h)) before.counted (draft_number ds k d (numbered_of d) h ∙ ap (λ (x : Draft). x.number) (sym e) ∙ here.0 ∙ sym z);
      smaller = smaller_more 0 (ops_of (all_numbered ds)) k (op_of d.op) (omega (arith, l, h)) before.smaller
          (subst (λ (op : Operator). AllByRecursion (λ i. i < 0 + k) (inputs_of op)) (sym same) (subst (λ (n : ℕ). AllByRecursion (λ i. i < n) (inputs_of (op_of d.op))) (sym z) here.1));
    }

-- the last of drafts that are numbered by their places is
pub numbered_last : (ds : List Draft) (k : ℕ) (d : Draft) → k < length ds → d ≡ get_or ds k d → AreNumbered (all_numbered ds) (suc k) → IsPlaced d k
numbered_last ds k d h e before =
    let l = many_ops ds in
    let m = many_numbered ds in
    let z : 0 + k ≡ k = omega arith in
    let same : get_or (ops_of (all_numbered ds)) k (op_of d.op) ≡ op_of d.op = draft_op ds k d (op_of d.op) h ∙ ap (λ (x : Draft). op_of x.op) (sym e) in (
      ap (λ (x : Draft). x.number) e ∙ sym (draft_number ds k d (numbered_of d) h) ∙ count_last 0 (all_numbered ds) k (numbered_of d) (omega (arith, m, h)) before.counted ∙ z,
      subst (λ (n : ℕ). AllByRecursion (λ i. i < n) (inputs_of (op_of d.op))) z
          (subst (λ (op : Operator). AllByRecursion (λ i. i < 0 + k) (inputs_of op)) same (smaller_last 0 (ops_of (all_numbered ds)) k (op_of d.op) (omega (arith, l, h)) before.smaller)),
    )
