-- What the numbered operators of a tree bind anew; those of the rewritten tree bind the same.
use Rattle.std.proofs.Common.{◌≡◌, ◌≤◌, ◌+◌, ℕ, suc, Bool, true, false, cond, List, [], ◌∷◌, ◌++◌, length, length-append, refl, ◌∙◌, sym, ap, arith}
use Rattle.std.specs.List.{flat_map}
use Rattle.std.proofs.lemmas.Grind.{flat_map-append}
use Rattle.mix_base.proofs.Lists.{append_nil}
use Rattle.mix_tree.specs.declared.comparing.Test.{Test}
use Rattle.plan_core.specs.Unary.{Unary, select, order_by, project, group_by, concatenate, create_element}
use Rattle.plan_core.specs.Plans.{Operator, get_descendants, join, over, tuple_destroy}
use Rattle.plan_core.specs.Valid.{outs_of, unary_outs}
use Rattle.plan_make.specs.Trees.{Tree, begin, descend, both, above, under, numbered}
use Rattle.plan_make.proofs.TreeParts.{tree_kinds, tree_outs, ended}
use Rattle.plan_rewrite.specs.Rewritten.{binds_test, pushed, put_over, rewritten}

-- the numbered operators of a tree bind anew what the tree binds anew
numbered_outs : (t : Tree) (i : ℕ) → flat_map outs_of (numbered i t) ≡ tree_outs t
unfolding tree_outs
numbered_outs (begin s out) i = refl
numbered_outs (descend t start path out) i =
    flat_map-append outs_of (numbered i t) (get_descendants (i + under t) start path out ∷ []) ∙ ap (λ (z : List ℕ). z ++ out ∷ []) (numbered_outs t i)
numbered_outs (both l r tests) i =
    let m : ℕ = i + suc (under l) in
    let j : List Operator = join (i + under l) (m + under r) tests ∷ [] in
    flat_map-append outs_of (numbered i l) (numbered m r ++ j)
    ∙ ap (λ (z : List ℕ). z ++ flat_map outs_of (numbered m r ++ j)) (numbered_outs l i)
    ∙ ap (λ (z : List ℕ). tree_outs l ++ z) (flat_map-append outs_of (numbered m r) j ∙ append_nil (flat_map outs_of (numbered m r)) ∙ numbered_outs r m)
numbered_outs (above t op) i =
    flat_map-append outs_of (numbered i t) (over (i + under t) op ∷ []) ∙ ap (λ (z : List ℕ). z ++ flat_map outs_of (over (i + under t) op ∷ [])) (numbered_outs t i)
    ∙ ap (λ (z : List ℕ). tree_outs t ++ z) (append_nil (unary_outs op))

-- the operators of a tree bind the same anew with a tupleDestroy over them
pub ended_outs : (t : Tree) (v : ℕ) → flat_map outs_of (ended t v) ≡ tree_outs t
ended_outs t v = flat_map-append outs_of (numbered 0 t) (tuple_destroy (under t) v ∷ []) ∙ append_nil (flat_map outs_of (numbered 0 t)) ∙ numbered_outs t 0

-- an operator with one input binds at most one variable anew
unary_few : (op : Unary) → length (unary_outs op) ≤ 1
unary_few (select test) = omega arith
unary_few (order_by v desc) = omega arith
unary_few (project keys) = omega arith
unary_few (group_by [] piece out) = omega arith
unary_few (group_by (k ∷ keys) piece out) = omega arith
unary_few (concatenate pieces out) = omega arith
unary_few (create_element label list out) = omega arith

-- a tree binds no more variables anew than it has operators
pub outs_few : (t : Tree) → length (tree_outs t) ≤ suc (under t)
unfolding tree_outs
outs_few (begin s out) = omega arith
outs_few (descend t start path out) = let h = outs_few t in let l = length-append (tree_outs t) (out ∷ []) in omega (arith, h, l)
outs_few (both l r tests) = let h = outs_few l in let k = outs_few r in let e = length-append (tree_outs l) (tree_outs r) in omega (arith, h, k, e)
outs_few (above t op) = let h = outs_few t in let k = unary_few op in let l = length-append (tree_outs t) (unary_outs op) in omega (arith, h, k, l)

-- where both of two trees bind these anew, so does the one that a test chooses
either_outs : (b : Bool) (vs : List ℕ) (t u : Tree) → tree_outs t ≡ vs → tree_outs u ≡ vs → tree_outs (cond b t u) ≡ vs
either_outs true vs t u h k = h
either_outs false vs t u h k = k

-- a tree with a selection pushed into it binds anew what the tree binds anew
pushed_outs : (test : Test) (t : Tree) → tree_outs (pushed test t) ≡ tree_outs t
unfolding tree_outs
pushed_outs test (begin s out) = refl
pushed_outs test (descend t start path out) = append_nil (tree_outs t ++ out ∷ [])
pushed_outs test (above t op) = append_nil (tree_outs t ++ unary_outs op)
pushed_outs test (both l r tests) =
    either_outs (binds_test (tree_kinds l) test) (tree_outs l ++ tree_outs r) (both (pushed test l) r tests) (cond (binds_test (tree_kinds r) test) (both l (pushed test r) tests) (both l r (tests ++ test ∷ [])))
    (ap (λ (z : List ℕ). z ++ tree_outs r) (pushed_outs test l))
    (either_outs (binds_test (tree_kinds r) test) (tree_outs l ++ tree_outs r) (both l (pushed test r) tests) (both l r (tests ++ test ∷ []))
    (ap (λ (z : List ℕ). tree_outs l ++ z) (pushed_outs test r))
    refl)

-- an operator put over a tree, or pushed into it where it is a selection, adds what it binds anew
over_outs : (op : Unary) (t : Tree) → tree_outs (put_over op t) ≡ tree_outs t ++ unary_outs op
unfolding tree_outs
over_outs (select test) t = pushed_outs test t ∙ sym (append_nil (tree_outs t))
over_outs (order_by v desc) t = refl
over_outs (project keys) t = refl
over_outs (group_by keys piece out) t = refl
over_outs (concatenate pieces out) t = refl
over_outs (create_element label list out) t = refl

-- a rewritten tree binds anew what the tree binds anew
pub rewritten_outs : (t : Tree) → tree_outs (rewritten t) ≡ tree_outs t
unfolding tree_outs
rewritten_outs (begin s out) = refl
rewritten_outs (descend t start path out) = ap (λ (z : List ℕ). z ++ out ∷ []) (rewritten_outs t)
rewritten_outs (both l r tests) = ap (λ (z : List ℕ). z ++ tree_outs (rewritten r)) (rewritten_outs l) ∙ ap (λ (z : List ℕ). tree_outs l ++ z) (rewritten_outs r)
rewritten_outs (above t op) = over_outs op (rewritten t) ∙ ap (λ (z : List ℕ). z ++ unary_outs op) (rewritten_outs t)
