-- What the code does to the operators is the edit; marks of operators are what they bind.
use Rattle.std.proofs.Common.{◌≡◌, ℕ, zero, suc, ◌+◌, ◌<◌, Bool, true, false, cond, List, [], ◌∷◌, ◌++◌, map, take, drop, set, get_or, refl, ◌∙◌, sym, ap, arith, length, length-append, append_assoc}
use Rattle.std.specs.Prelude.{Option, None, Some, ◌||◌, ◌&&◌, ◌==◌}
use Rattle.std.proofs.lemmas.List.{get_or_append_left, get_or_at, drop_more, drop-map}
use Rattle.mix_tree.specs.Keys.{has_var}
use Rattle.mix_tree.specs.declared.comparing.Test.{Test}
use Rattle.plan_core.specs.declared.plan.Op.{Op}
use Rattle.plan_core.specs.PlanMade.{op_of}
use Rattle.plan_core.specs.Plans.{Operator, source, get_descendants, join, over, tuple_destroy}
use Rattle.plan_core.specs.Unary.{Unary, select, order_by, project, group_by, concatenate, create_element}
use Rattle.plan_core.specs.Valid.{Kind, Kinds, a_node, a_list, an_element, kept, either_kind, unary_kinds}
use Rattle.plan_make.specs.Trees.{Tree, begin, descend, both, above, under, numbered}
use Rattle.plan_make.proofs.TreeParts.{tree_kinds}
use Rattle.plan_rewrite.specs.Rewritten.{is_bound}
use Rattle.plan_rewrite.specs.Edits.{Added, bumped_op, landed, edited}
use Rattle.plan_rewrite.specs.Marks.{unary_binds, op_binds, marks}
use Rattle.plan_make.proofs.Numbering.{numbered_end, numbered_ends, join_after}

-- an operator to which a comparison was added, before others, is the selection put into a join
in_join : (t : Test) (n : ℕ) (o p : Operator) (rest : List Operator) → Added t None o p → p ∷ rest ≡ landed t n o rest
in_join t n (source s out) p rest h = absurd h
in_join t n (get_descendants input start path out) p rest h = absurd h
in_join t n (join left right tests) p rest h = ap (λ (z : Operator). z ∷ rest) h
in_join t n (over input op) p rest h = absurd h
in_join t n (tuple_destroy input element) p rest h = absurd h

-- an operator to which a comparison was not added, with the selection after it, is the selection put over it
over_it : (t u : Test) (n : ℕ) (o p : Operator) (rest : List Operator) → Added t (Some u) o p → p ∷ over n (select u) ∷ map (bumped_op n) rest ≡ landed t n o rest
over_it t u n (source s out) p rest h = rw (h.0, h.1) refl
over_it t u n (get_descendants input start path out) p rest h = rw (h.0, h.1) refl
over_it t u n (join left right tests) p rest h = absurd h
over_it t u n (over input op) p rest h = rw (h.0, h.1) refl
over_it t u n (tuple_destroy input element) p rest h = rw (h.0, h.1) refl

-- where a comparison was added to the operator at a place, the operators are those with the selection put in there
pub placed_in : (t : Test) (n k : ℕ) (ops : List Op) (d new : Op) → k < length ops → Added t None (op_of (get_or ops k d)) (op_of new) → map op_of (set ops k new) ≡ edited t n k (map op_of ops)
placed_in t n k [] d new l h = absurd (omega (arith, l))
placed_in t n zero (op ∷ ops) d new l h = in_join t n (op_of op) (op_of new) (map op_of ops) h
placed_in t n (suc k) (op ∷ ops) d new l h = ap (λ (z : List Operator). op_of op ∷ z) (placed_in t n k ops d new (omega (arith, l)) h)

-- where a selection stands over the operator at a place, the operators are those with the selection put in there
pub placed_over : (t u : Test) (n k : ℕ) (ops : List Op) (d new s : Op) (after : List Op) → k < length ops → Added t (Some u) (op_of (get_or ops k d)) (op_of new) → op_of s ≡ over n (select u)
    → map op_of after ≡ map (bumped_op n) (map op_of (drop (suc k) (set ops k new)))
    → map op_of ((take (suc k) (set ops k new) ++ s ∷ []) ++ after) ≡ edited t n k (map op_of ops)
placed_over t u n k [] d new s after l h e g = absurd (omega (arith, l))
placed_over t u n zero (op ∷ ops) d new s after l h e g =
    ap (λ (z : List Operator). op_of new ∷ op_of s ∷ z) g ∙ ap (λ (o : Operator). op_of new ∷ o ∷ map (bumped_op n) (map op_of ops)) e ∙ over_it t u n (op_of op) (op_of new) (map op_of ops) h
placed_over t u n (suc k) (op ∷ ops) d new s after l h e g = ap (λ (z : List Operator). op_of op ∷ z) (placed_over t u n k ops d new s after (omega (arith, l)) h e g)

-- MARKS

-- the marks of operators up to and with one are those before it and that one's
pub marks_more : (v : ℕ) (all : List Bool) (ops : List Op) (i : ℕ) (op : Op) → i < length ops → op ≡ get_or ops i op
    → marks v all (drop i (map op_of ops)) ≡ marks v (all ++ op_binds v (op_of op) (λ j. get_or all j false) ∷ []) (drop (i + 1) (map op_of ops))
marks_more v all ops i op l e =
    ap (marks v all) (drop-map op_of i ops ∙ ap (map op_of) (drop_more ops i op l ∙ ap (λ (o : Op). o ∷ drop (i + 1) ops) (sym e)))
    ∙ ap (marks v (all ++ op_binds v (op_of op) (λ j. get_or all j false) ∷ [])) (sym (drop-map op_of (i + 1) ops))

-- the marks of operators and others are those of the others after those of the first
marks-append : (v : ℕ) (a b : List Operator) (before : List Bool) → marks v before (a ++ b) ≡ marks v (marks v before a) b
marks-append v [] b before = refl
marks-append v (op ∷ a) b before = marks-append v a b (before ++ op_binds v op (λ i. get_or before i false) ∷ [])

-- each operator has its mark
pub marks-length : (v : ℕ) (a : List Operator) (before : List Bool) → length (marks v before a) ≡ length before + length a
marks-length v [] before = omega arith
marks-length v (op ∷ a) before =
    let h = marks-length v a (before ++ op_binds v op (λ i. get_or before i false) ∷ []) in
    let k = length-append before (op_binds v op (λ i. get_or before i false) ∷ []) in omega (arith, h, k)

-- marks that stand already stay
marks-prefix : (v : ℕ) (a : List Operator) (before : List Bool) (j : ℕ) → j < length before → get_or (marks v before a) j false ≡ get_or before j false
marks-prefix v [] before j h = refl
marks-prefix v (op ∷ a) before j h =
    let more : List Bool = op_binds v op (λ i. get_or before i false) ∷ [] in
    let k = length-append before more in
    marks-prefix v a (before ++ more) j (omega (arith, k, h)) ∙ get_or_append_left before more false j h

-- the mark of operator n: whether it binds a variable
abbrev pub mark : ℕ → List Operator → ℕ → Bool
mark v ops n = get_or (marks v [] ops) n false

-- what follows changes no mark
pub mark-stable : (v : ℕ) (ops more : List Operator) (j : ℕ) → j < length ops → mark v (ops ++ more) j ≡ mark v ops j
mark-stable v ops more j h =
    ap (λ (z : List Bool). get_or z j false) (marks-append v ops more []) ∙ marks-prefix v more (marks v [] ops) j (let k = marks-length v ops [] in omega (arith, k, h))

-- the mark of the last operator
mark-last : (v : ℕ) (ops : List Operator) (op : Operator) (n : ℕ) → n ≡ length ops → mark v (ops ++ op ∷ []) n ≡ op_binds v op (mark v ops)
mark-last v ops op n h =
    ap (λ (z : List Bool). get_or z n false) (marks-append v ops (op ∷ []) [])
    ∙ get_or_at (marks v [] ops) (op_binds v op (mark v ops)) [] false n (let k = marks-length v ops [] in omega (arith, k, h))

-- with one variable more, a variable is bound where it is this one or was bound
with_bound : (out v : ℕ) (k : Kind) (o : Option Kind) → is_bound (cond (out == v) (Some k) o) ≡ ((out == v) || is_bound o)
with_bound out v k o = elim (out == v) as (λ w. is_bound (cond w (Some k) o) ≡ (w || is_bound o)) [ true ↦ refl | false ↦ refl ]

-- a variable is bound after others are dropped where it is kept and was bound
kept_bound : (b : Bool) (o : Option Kind) → is_bound (cond b o None) ≡ (b && is_bound o)
kept_bound true o = refl
kept_bound false o = refl

-- an operator with one input binds a variable, by the mark below it, where its kinds say so
unary-bound : (v : ℕ) (op : Unary) (ks : Kinds) → unary_binds v op (is_bound (ks v)) ≡ is_bound (unary_kinds op ks v)
unary-bound v (select test) ks = refl
unary-bound v (order_by w desc) ks = refl
unary-bound v (project keys) ks = sym (kept_bound (has_var keys v) (ks v))
unary-bound v (group_by [] piece out) ks = sym (with_bound out v a_list None)
unary-bound v (group_by (k ∷ keys) piece out) ks = sym (with_bound out v a_list (kept (k ∷ keys) ks v) ∙ ap (λ (x : Bool). (out == v) || x) (kept_bound (has_var (k ∷ keys) v) (ks v)))
unary-bound v (concatenate pieces out) ks = sym (with_bound out v a_list (ks v))
unary-bound v (create_element label list out) ks = sym (with_bound out v an_element (ks v))

-- a join binds a variable exactly where one of its sides does
both-bound : (a b : Option Kind) → (is_bound a || is_bound b) ≡ is_bound (either_kind a b)
both-bound None b = refl
both-bound (Some k) b = refl

-- a truth value or false is the truth value
or_false : (b : Bool) → (b || false) ≡ b
or_false true = refl
or_false false = refl

-- the last of a tree's operators, put after others, is marked where the tree binds the variable
pub mark-tree : (v : ℕ) (x : Tree) (ops : List Operator) (i : ℕ) → i ≡ length ops → mark v (ops ++ numbered i x) (i + under x) ≡ is_bound (tree_kinds x v)
unfolding tree_kinds
mark-tree v (begin s out) ops i h =
    let e : i + zero ≡ i = omega arith in ap (mark v (ops ++ source s out ∷ [])) e ∙ mark-last v ops (source s out) i h ∙ sym (with_bound out v a_node None ∙ or_false (out == v))
mark-tree v (descend x start path out) ops i h =
    let op : Operator = get_descendants (i + under x) start path out in
    ap (λ (z : List Operator). mark v z (i + suc (under x))) (sym (append_assoc ops (numbered i x) (op ∷ [])))
    ∙ mark-last v (ops ++ numbered i x) op (i + suc (under x)) (numbered_end x ops i h)
    ∙ ap (λ (b : Bool). (out == v) || b) (mark-tree v x ops i h)
    ∙ sym (with_bound out v a_node (tree_kinds x v))
mark-tree v (above x op) ops i h =
    let o : Operator = over (i + under x) op in
    ap (λ (z : List Operator). mark v z (i + suc (under x))) (sym (append_assoc ops (numbered i x) (o ∷ [])))
    ∙ mark-last v (ops ++ numbered i x) o (i + suc (under x)) (numbered_end x ops i h)
    ∙ ap (unary_binds v op) (mark-tree v x ops i h)
    ∙ unary-bound v op (tree_kinds x)
mark-tree v (both l r tests) ops i h =
    let m : ℕ = i + suc (under l) in
    let left : List Operator = numbered i l in
    let right : List Operator = numbered m r in
    let j : Operator = join (i + under l) (m + under r) tests in
    let one : List Operator = ops ++ left in
    let two : List Operator = one ++ right in
    let e = numbered_end l ops i h in
    let n : ℕ = i + (suc (under l) + suc (under r)) in
    let lefts : mark v two (i + under l) ≡ is_bound (tree_kinds l v) = mark-stable v one right (i + under l) (omega (arith, e)) ∙ mark-tree v l ops i h in
    let rights : mark v two (m + under r) ≡ is_bound (tree_kinds r v) = mark-tree v r one m e in
    ap (λ (z : List Operator). mark v z n) (join_after ops left right j)
    ∙ mark-last v two j n (numbered_ends l r ops i h)
    ∙ ap (λ (z : Bool). z || mark v two (m + under r)) lefts
    ∙ ap (λ (z : Bool). is_bound (tree_kinds l v) || z) rights
    ∙ both-bound (tree_kinds l v) (tree_kinds r v)
