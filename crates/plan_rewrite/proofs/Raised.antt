-- Operators after others: a join of two trees, each numbered from 0.
use Rattle.std.proofs.Common.{◌≡◌, ℕ, suc, ◌+◌, List, [], ◌∷◌, ◌++◌, map, refl, ◌∙◌, ap, arith}
use Rattle.std.proofs.lemmas.List.{map-append}
use Rattle.plan_core.specs.Plans.{Operator, get_descendants, join, over}
use Rattle.plan_make.specs.Trees.{Tree, begin, descend, both, above, under, numbered}
use Rattle.plan_rewrite.specs.Edits.{raised_op}

-- the operators of a tree with their inputs raised are the tree's operators, numbered from later on
pub numbered-raised : (i : ℕ) (x : Tree) (j : ℕ) → map (raised_op i) (numbered j x) ≡ numbered (i + j) x
numbered-raised i (begin s out) j = refl
numbered-raised i (descend x start path out) j =
    let e : i + (j + under x) ≡ (i + j) + under x = omega arith in
    map-append (raised_op i) (numbered j x) (get_descendants (j + under x) start path out ∷ [])
    ∙ ap (λ (z : List Operator). z ++ get_descendants (i + (j + under x)) start path out ∷ []) (numbered-raised i x j)
    ∙ ap (λ (b : ℕ). numbered (i + j) x ++ get_descendants b start path out ∷ []) e
numbered-raised i (both l r tests) j =
    let m : ℕ = j + suc (under l) in
    let a : ℕ = j + under l in
    let b : ℕ = m + under r in
    let em : i + m ≡ (i + j) + suc (under l) = omega arith in
    let ea : i + a ≡ (i + j) + under l = omega arith in
    let eb : i + b ≡ ((i + j) + suc (under l)) + under r = omega arith in
    map-append (raised_op i) (numbered j l) (numbered m r ++ join a b tests ∷ [])
    ∙ ap (λ (z : List Operator). z ++ map (raised_op i) (numbered m r ++ join a b tests ∷ [])) (numbered-raised i l j)
    ∙ ap (λ (z : List Operator). numbered (i + j) l ++ z)
    (map-append (raised_op i) (numbered m r) (join a b tests ∷ [])
    ∙ ap (λ (z : List Operator). z ++ join (i + a) (i + b) tests ∷ []) (numbered-raised i r m ∙ ap (λ (k : ℕ). numbered k r) em)
    ∙ ap (λ (k : ℕ). numbered ((i + j) + suc (under l)) r ++ join k (i + b) tests ∷ []) ea
    ∙ ap (λ (k : ℕ). numbered ((i + j) + suc (under l)) r ++ join ((i + j) + under l) k tests ∷ []) eb)
numbered-raised i (above x op) j =
    let e : i + (j + under x) ≡ (i + j) + under x = omega arith in
    map-append (raised_op i) (numbered j x) (over (j + under x) op ∷ [])
    ∙ ap (λ (z : List Operator). z ++ over (i + (j + under x)) op ∷ []) (numbered-raised i x j)
    ∙ ap (λ (b : ℕ). numbered (i + j) x ++ over b op ∷ []) e
