-- The tree of the numbered operators of a tree is that tree, so their rewriting gives those of the rewritten tree.
use Rattle.std.proofs.Common.{◌≡◌, ℕ, suc, ◌+◌, List, [], ◌∷◌, ◌++◌, refl, ◌∙◌, sym, ap, arith, append_assoc, length, length-append}
use Rattle.std.specs.Prelude.{None}
use Rattle.plan_core.specs.ByNumber.{op_at}
use Rattle.plan_core.specs.Plans.{Operator, source, get_descendants, join, over, tuple_destroy}
use Rattle.plan_core.proofs.Numbers.{by_number-of}
use Rattle.plan_core.proofs.RowLaws.{snoc}
use Rattle.plan_make.specs.Trees.{Tree, begin, descend, both, above, under, numbered}
use Rattle.plan_make.proofs.Numbering.{numbered-length}
use Rattle.plan_make.proofs.TreeParts.{ended}
use Rattle.plan_make.proofs.Whole.{last-snoc}
use Rattle.plan_rewrite.specs.Rewritten.{rewritten, op_tree, tree_at, ended_by, rewritten_ops}
use Rattle.plan_rewrite.proofs.PlanTree.{op_tree-reads}
use Rattle.plan_rewrite.proofs.Walking.{op-last}

-- the tree of the last operator of a tree between others is that tree
tree_at-numbered : (t : Tree) (a b : List Operator) (n : ℕ) → n ≡ length a + under t → tree_at (a ++ (numbered (length a) t ++ b)) n ≡ t
unfolding tree_at
tree_at-numbered (begin s out) a b n e =
    by_number-of op_tree (begin 0 0) (a ++ (source s out ∷ b)) n (source s out) op_tree-reads (op-last a [] b (source s out) n e) tt
tree_at-numbered (descend x start path out) a b n e =
    let i : ℕ = length a in
    let op : Operator = get_descendants (i + under x) start path out in
    let l = numbered-length x i in
    let all : List Operator = a ++ ((numbered i x ++ op ∷ []) ++ b) in
    let below : tree_at all (i + under x) ≡ x =
    ap (λ (z : List Operator). tree_at (a ++ z) (i + under x)) (snoc (numbered i x) op b) ∙ tree_at-numbered x a (op ∷ b) (i + under x) refl in
    by_number-of op_tree (begin 0 0) all n op op_tree-reads (op-last a (numbered i x) b op n (omega (arith, l, e))) (omega (arith, e), tt)
    ∙ ap (λ (y : Tree). descend y start path out) below
tree_at-numbered (above x o) a b n e =
    let i : ℕ = length a in
    let op : Operator = over (i + under x) o in
    let l = numbered-length x i in
    let all : List Operator = a ++ ((numbered i x ++ op ∷ []) ++ b) in
    let below : tree_at all (i + under x) ≡ x =
    ap (λ (z : List Operator). tree_at (a ++ z) (i + under x)) (snoc (numbered i x) op b) ∙ tree_at-numbered x a (op ∷ b) (i + under x) refl in
    by_number-of op_tree (begin 0 0) all n op op_tree-reads (op-last a (numbered i x) b op n (omega (arith, l, e))) (omega (arith, e), tt)
    ∙ ap (λ (y : Tree). above y o) below
tree_at-numbered (both l r tests) a b n e =
    let i : ℕ = length a in
    let m : ℕ = i + suc (under l) in
    let left : List Operator = numbered i l in
    let right : List Operator = numbered m r in
    let j : Operator = join (i + under l) (m + under r) tests in
    let one : List Operator = a ++ left in
    let all : List Operator = a ++ ((left ++ (right ++ j ∷ [])) ++ b) in
    let ll = numbered-length l i in let lr = numbered-length r m in
    let kl = length-append a left in let kr = length-append left right in
    let em : length one ≡ m = omega (arith, ll, kl) in
    let shape : (left ++ (right ++ j ∷ [])) ++ b ≡ left ++ (right ++ j ∷ b) = append_assoc left (right ++ j ∷ []) b ∙ ap (λ (z : List Operator). left ++ z) (snoc right j b) in
    let in_left : all ≡ a ++ (left ++ (right ++ j ∷ b)) = ap (λ (z : List Operator). a ++ z) shape in
    let in_right : all ≡ one ++ (numbered (length one) r ++ j ∷ b) =
    in_left ∙ sym (append_assoc a left (right ++ j ∷ b)) ∙ ap (λ (k : ℕ). one ++ (numbered k r ++ j ∷ b)) (sym em) in
    let below_left : tree_at all (i + under l) ≡ l = ap (λ (z : List Operator). tree_at z (i + under l)) in_left ∙ tree_at-numbered l a (right ++ j ∷ b) (i + under l) refl in
    let below_right : tree_at all (m + under r) ≡ r =
    ap (λ (z : List Operator). tree_at z (m + under r)) in_right ∙ tree_at-numbered r one (j ∷ b) (m + under r) (ap (λ (k : ℕ). k + under r) (sym em)) in
    let here = ap (λ (z : List Operator). a ++ (z ++ b)) (sym (append_assoc left right (j ∷ []))) in
    let at = ap (λ (z : List Operator). op_at z n) here ∙ op-last a (left ++ right) b j n (omega (arith, e, ll, lr, kr)) in
    by_number-of op_tree (begin 0 0) all n j op_tree-reads at (omega (arith, e), (omega (arith, e), tt))
    ∙ ap (λ (y : Tree). both y (tree_at all (m + under r)) tests) below_left
    ∙ ap (λ (y : Tree). both l y tests) below_right

-- the operators of a tree, rewritten, are those of the rewritten tree
pub rewritten-tree : (t : Tree) (v : ℕ) → rewritten_ops (ended t v) ≡ ended (rewritten t) v
rewritten-tree t v =
    let end : Operator = tuple_destroy (under t) v in
    ap (ended_by (tree_at (ended t v))) (last-snoc None (numbered 0 t) end)
    ∙ ap (λ (x : Tree). ended (rewritten x) v) (tree_at-numbered t [] (end ∷ []) (under t) (omega arith))
