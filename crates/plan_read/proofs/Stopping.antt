-- What holds of the first members of a list, of one more and of fewer, and the first line at which it stops to hold.
use Rattle.std.proofs.Common.{◌≡◌, ◌<◌, ◌≤◌, ◌+◌, ◌∙◌, ℕ, zero, suc, List, [], ◌∷◌, refl, sym, ap, subst, arith, length, take, get_or}
use Rattle.std.specs.List.{AllByRecursion}
use Rattle.std.proofs.lemmas.List.{get_or-map}
use Rattle.plan_core.specs.PlanMade.{op_of}
use Rattle.plan_core.specs.Plans.{Operator}
use Rattle.plan_read.specs.Checks.{ops_of}
use Rattle.plan_read.specs.Drafts.{all_numbered, lines_of}
use Rattle.plan_read.specs.Reading.{Numbered}
use Rattle.plan_read.specs.Stops.{StopsAt}
use Rattle.plan_read.specs.declared.draft.Draft.{Draft}

-- what holds of the first members and of the next one holds of one more
pub each_more : {X : Type 0} (Q : X → Type 0) (xs : List X) (k : ℕ) (d : X) → k < length xs → AllByRecursion Q (take k xs) → Q (get_or xs k d) → AllByRecursion Q (take (suc k) xs)
each_more Q [] k d h a q = absurd (omega arith)
each_more Q (x ∷ xs) zero d h a q = (q, tt)
each_more Q (x ∷ xs) (suc k) d h a q = (a.0, each_more Q xs k d (omega arith) a.1 q)

-- what holds of the first members holds of the last of them
pub each_last : {X : Type 0} (Q : X → Type 0) (xs : List X) (k : ℕ) (d : X) → k < length xs → AllByRecursion Q (take (suc k) xs) → Q (get_or xs k d)
each_last Q [] k d h a = absurd (omega arith)
each_last Q (x ∷ xs) zero d h a = a.0
each_last Q (x ∷ xs) (suc k) d h a = each_last Q xs k d (omega arith) a.1

-- what holds of the first members holds of fewer
pub each_fewer : {X : Type 0} (Q : X → Type 0) (xs : List X) (j k : ℕ) → j ≤ k → AllByRecursion Q (take k xs) → AllByRecursion Q (take j xs)
each_fewer Q xs zero k h a = tt
each_fewer Q [] (suc j) k h a = tt
each_fewer Q (x ∷ xs) (suc j) zero h a = absurd (omega arith)
each_fewer Q (x ∷ xs) (suc j) (suc k) h a = (a.0, each_fewer Q xs j k (omega arith) a.1)

-- the operator at a number is that of the draft there
pub draft_op : (ds : List Draft) (k : ℕ) (d : Draft) (op : Operator) → k < length ds → get_or (ops_of (all_numbered ds)) k op ≡ op_of (get_or ds k d).op
draft_op [] k d op h = absurd (omega arith)
draft_op (e ∷ ds) zero d op h = refl
draft_op (e ∷ ds) (suc k) d op h = draft_op ds k d op (omega arith)

-- the number of the operator at a number is that of the draft there
pub draft_number : (ds : List Draft) (k : ℕ) (d : Draft) (n : Numbered) → k < length ds → (get_or (all_numbered ds) k n).number ≡ (get_or ds k d).number
draft_number [] k d n h = absurd (omega arith)
draft_number (e ∷ ds) zero d n h = refl
draft_number (e ∷ ds) (suc k) d n h = draft_number ds k d n (omega arith)

-- the operator of a draft that stands at a number is the one at that number
pub draft_here : (ds : List Draft) (k : ℕ) (d : Draft) (op : Operator) → k < length ds → d ≡ get_or ds k d → get_or (ops_of (all_numbered ds)) k op ≡ op_of d.op
draft_here ds k d op h e = draft_op ds k d op h ∙ ap (λ (x : Draft). op_of x.op) (sym e)

-- the successor of a number is that number and one
pub next : (k : ℕ) → suc k ≡ k + 1
next k = omega arith

-- there are as many operators as drafts
pub many_ops : (ds : List Draft) → length (ops_of (all_numbered ds)) ≡ length ds
many_ops [] = refl
many_ops (d ∷ ds) = ap suc (many_ops ds)

-- there are as many operators with their numbers as drafts
pub many_numbered : (ds : List Draft) → length (all_numbered ds) ≡ length ds
many_numbered [] = refl
many_numbered (d ∷ ds) = ap suc (many_numbered ds)

-- there are as many numbers of lines as drafts
pub many_lines : (ds : List Draft) → length (lines_of ds) ≡ length ds
many_lines [] = refl
many_lines (d ∷ ds) = ap suc (many_lines ds)

-- there are as many operators as there are with their numbers
pub many_of : (ns : List Numbered) → length (ops_of ns) ≡ length ns
many_of [] = refl
many_of (n ∷ ns) = ap suc (many_of ns)

-- what holds of the drafts before one, and not with that one, stops to hold at its line
pub stops_at : (P : ℕ → Type 0) (ds : List Draft) (k : ℕ) (d : Draft) → k < length ds → d ≡ get_or ds k d → P k → (P (suc k) → ⊥) → StopsAt P (lines_of ds) d.line
stops_at P ds k d h e before stops = record {
  place = k;
  inside = (let l = many_lines ds in omega (arith, l, h));
  number = get_or-map (λ (x : Draft). x.line) ds k d 0 h ∙ ap (λ (x : Draft). x.line) (sym e);
  before = before;
  stops = stops;
}

-- what doesn't hold of a draft stops to hold at its line
pub stops_each : (Q : Draft → Type 0) (ds : List Draft) (k : ℕ) (d : Draft) → k < length ds → d ≡ get_or ds k d → AllByRecursion Q (take k ds) → (Q d → ⊥) → StopsAt (λ j. AllByRecursion Q (take j ds)) (lines_of ds) d.line
stops_each Q ds k d h e before fails = stops_at (λ j. AllByRecursion Q (take j ds)) ds k d h e before (λ a. fails (subst Q (sym e) (each_last Q ds k d h a)))

-- what doesn't hold of the operator of a draft stops to hold at its line
pub stops_op : (Q : Operator → Type 0) (ds : List Draft) (k : ℕ) (d : Draft) → k < length ds → d ≡ get_or ds k d → AllByRecursion Q (take k (ops_of (all_numbered ds))) → (Q (op_of d.op) → ⊥)
    → StopsAt (λ j. AllByRecursion Q (take j (ops_of (all_numbered ds)))) (lines_of ds) d.line
stops_op Q ds k d h e before fails =
    let l = many_ops ds in
    let same : get_or (ops_of (all_numbered ds)) k (op_of d.op) ≡ op_of d.op = draft_op ds k d (op_of d.op) h ∙ ap (λ (x : Draft). op_of x.op) (sym e) in
    stops_at (λ j. AllByRecursion Q (take j (ops_of (all_numbered ds)))) ds k d h e before
    (λ a. fails (subst Q same (each_last Q (ops_of (all_numbered ds)) k (op_of d.op) (omega (arith, l, h)) a)))

-- what holds of the first operators and of the next draft's holds of one more
pub more_op : (Q : Operator → Type 0) (ds : List Draft) (k : ℕ) (d : Draft) → k < length ds → d ≡ get_or ds k d → AllByRecursion Q (take k (ops_of (all_numbered ds))) → Q (op_of d.op)
    → AllByRecursion Q (take (suc k) (ops_of (all_numbered ds)))
more_op Q ds k d h e before here =
    let l = many_ops ds in
    let same : get_or (ops_of (all_numbered ds)) k (op_of d.op) ≡ op_of d.op = draft_op ds k d (op_of d.op) h ∙ ap (λ (x : Draft). op_of x.op) (sym e) in
    each_more Q (ops_of (all_numbered ds)) k (op_of d.op) (omega (arith, l, h)) before (subst Q (sym same) here)
