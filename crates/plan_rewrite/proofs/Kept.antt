-- A rewritten plan is valid, and has the document of the plan.
use Rattle.std.proofs.Common.{◌≡◌, ℕ, ◌+◌, List, [], ◌∷◌, refl, sym, ap, subst, ◌∙◌, arith, length}
use Rattle.std.specs.Prelude.{None}
use Rattle.std.specs.List.{last_or}
use Rattle.plan_core.specs.Plans.{World, Operator, tuple_destroy, PlanValue, rows_of, element_of, destroyed, document}
use Rattle.plan_core.specs.Typed.{IsTyped}
use Rattle.plan_core.specs.Valid.{is_single_at, IsValid}
use Rattle.plan_core.proofs.RowLaws.{rows-stable}
use Rattle.plan_make.specs.Trees.{Tree, under, numbered, tree_rows}
use Rattle.plan_make.proofs.Whole.{last-snoc}
use Rattle.plan_rewrite.specs.Rewritten.{rewritten, tree_at, ended_by, rewritten_ops, rewritten_plan}
use Rattle.plan_rewrite.specs.Law.{SameDocument}
use Rattle.plan_make.proofs.Numbering.{numbered-length, numbered-means}
use Rattle.plan_make.proofs.TreeParts.{IsWhole, tree_valid, ended}
use Rattle.plan_rewrite.proofs.Cases.{rewritten_whole}
use Rattle.plan_rewrite.proofs.Pushing.{rewritten-rows}
use Rattle.plan_rewrite.proofs.Endings.{Ended}
use Rattle.plan_rewrite.proofs.PlanTree.{ending, plan_whole, plan_means}

-- the document of a tree's operators below a tupleDestroy is the element in the tree's first binding
pub ended-document : (world : World) (t : Tree) (v : ℕ) → document world (ended t v) ≡ element_of v (tree_rows world t)
ended-document world t v =
    let prefix : List Operator = numbered 0 t in
    let end : Operator = tuple_destroy (under t) v in
    ap (destroyed (rows_of world (ended t v))) (last-snoc None prefix end)
    ∙ ap (element_of v)
    (rows-stable world prefix (end ∷ []) (under t) (let l = numbered-length t 0 in omega (arith, l))
    ∙ (let e : 0 + under t ≡ under t = omega arith in ap (rows_of world prefix) (sym e)) ∙ numbered-means world t [] 0 refl)

-- operators that end with a tupleDestroy are, rewritten, the rewritten tree below it with the tupleDestroy over it
pub rewritten-ended : (ops : List Operator) (e : Ended (is_single_at ops) ops) → rewritten_ops ops ≡ ended (rewritten (tree_at ops e.input)) e.element
rewritten-ended ops e = ap (ended_by (tree_at ops)) (ap (last_or None) e.is ∙ last-snoc None e.prefix (tuple_destroy e.input e.element))

-- the document of operators that end with a tupleDestroy is the element in the first binding of its input
plan-document : (world : World) (ops : List Operator) (e : Ended (is_single_at ops) ops) → document world ops ≡ element_of e.element (rows_of world ops e.input)
plan-document world ops e = ap (destroyed (rows_of world ops)) (ap (last_or None) e.is ∙ last-snoc None e.prefix (tuple_destroy e.input e.element))

-- the rewritten operators of a valid plan have its document
pub keeps_document : (p : PlanValue) → IsValid p → IsTyped p.ops → SameDocument (rewritten_ops p.ops) p.ops
keeps_document p valid typed world =
    let e : Ended (is_single_at p.ops) p.ops = ending p valid typed in
    let x : Tree = tree_at p.ops e.input in
    let w : IsWhole (length p.sources) x e.element = plan_whole p valid typed in
    ap (document world) (rewritten-ended p.ops e)
    ∙ ended-document world (rewritten x) e.element
    ∙ ap (element_of e.element) (rewritten-rows world x w.fits w.distinct ∙ plan_means p valid typed world)
    ∙ sym (plan-document world p.ops e)

-- the rewritten plan of a valid plan is valid
pub keeps_validity : (p : PlanValue) → IsValid p → IsTyped p.ops → IsValid (rewritten_plan p)
keeps_validity p valid typed =
    let e : Ended (is_single_at p.ops) p.ops = ending p valid typed in
    let x : Tree = tree_at p.ops e.input in
    subst (λ (ops : List Operator). IsValid (record { ops = ops; names = p.names; sources = p.sources })) (sym (rewritten-ended p.ops e))
    (tree_valid p.sources p.names (rewritten x) e.element (rewritten_whole (length p.sources) x e.element (plan_whole p valid typed)))
