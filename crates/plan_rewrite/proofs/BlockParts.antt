-- Blocks of operators, each over those of its inputs.
use Rattle.std.proofs.Common.{◌≡◌, ℕ, suc, ◌+◌, ◌-◌, ◌<◌, List, [], ◌∷◌, ◌++◌, map, length, refl, ◌∙◌, ap, arith, append_assoc, Vec, Global}
use Rattle.std.specs.Prelude.{option_to_list}
use Rattle.std.proofs.lemmas.List.{get_or-set_other}
use Rattle.mix_tree.specs.declared.comparing.Test.{Test}
use Rattle.plan_core.specs.Plans.{Operator, source, get_descendants, join, over, tuple_destroy}
use Rattle.plan_core.specs.PlanMade.{op_of}
use Rattle.plan_core.specs.Unary.{select, order_by, project, group_by, concatenate, create_element}
use Rattle.plan_core.specs.Valid.{inputs_of}
use Rattle.plan_core.specs.declared.plan.Op.{Op}
use Rattle.plan_core.specs.declared.plan.Op.TheVariants as op
use Rattle.plan_make.specs.Trees.{Tree, both, under, numbered}
use Rattle.plan_make.proofs.Numbering.{numbered-length}
use Rattle.plan_rewrite.specs.Blocks.{block_at, without, block_over, AreBelow, one_input, put_on, HasBlock}
use Rattle.plan_rewrite.specs.Edits.{raised_op, joined_ops}
use Rattle.plan_rewrite.proofs.Raised.{numbered-raised}

-- taking a block leaves the others
pub block_beside : (all : List (List Operator)) (n j : ℕ) → (j ≡ n → ⊥) → block_at (without (n ∷ []) all) j ≡ block_at all j
block_beside all n j h = get_or-set_other all n j [] [] h

-- the block of a tree's operators is not empty
pub block_some : (x : Tree) (xs : List Operator) → xs ≡ numbered 0 x → 0 < length xs
block_some x xs e = (let l = numbered-length x 0 in let k = ap length e in omega (arith, l, k))

-- an operator over the last one of a tree's block, put after it, comes after the tree's numbered operators
over_last : (x : Tree) (xs : List Operator) → xs ≡ numbered 0 x → (f : ℕ → Operator) (k : ℕ) → k ≡ under x → xs ++ f (length xs - 1) ∷ [] ≡ numbered 0 x ++ f k ∷ []
over_last x xs e f k h =
    let l = numbered-length x 0 in
    let c = ap length e in
    let n : length xs - 1 ≡ k = omega (arith, l, c, h) in
    ap (λ (z : List Operator). z ++ f (length xs - 1) ∷ []) e ∙ ap (λ (m : ℕ). numbered 0 x ++ f m ∷ []) n

-- an operator over the last one of a tree's block, numbered from 0, comes after the tree's numbered operators
over_one : (x : Tree) (xs : List Operator) → xs ≡ numbered 0 x → (f : ℕ → Operator) → xs ++ f (length xs - 1) ∷ [] ≡ numbered 0 x ++ f (0 + under x) ∷ []
over_one x xs e f = over_last x xs e f (0 + under x) (omega arith)

-- the blocks of two trees below a join are the numbered operators of the tree of the join
pub join_last : (l r : Tree) (tests : List Test) (xs ys : List Operator) → xs ≡ numbered 0 l → ys ≡ numbered 0 r → (a b : ℕ) → a ≡ length xs → b ≡ length ys → joined_ops a xs b ys tests ≡ numbered 0 (both l r tests)
join_last l r tests xs ys e f a b g h =
    let m : ℕ = 0 + suc (under l) in
    let ll = numbered-length l 0 in let lr = numbered-length r 0 in
    let cl = ap length e in let cr = ap length f in
    let ea : a - 1 ≡ 0 + under l = omega (arith, ll, cl, g) in
    let eb : (a + b) - 1 ≡ m + under r = omega (arith, ll, cl, g, lr, cr, h) in
    let em : a + 0 ≡ m = omega (arith, ll, cl, g) in
    append_assoc xs (map (raised_op a) ys) (join (a - 1) ((a + b) - 1) tests ∷ [])
    ∙ ap (λ (z : List Operator). z ++ (map (raised_op a) ys ++ join (a - 1) ((a + b) - 1) tests ∷ [])) e
    ∙ ap (λ (z : List Operator). numbered 0 l ++ (z ++ join (a - 1) ((a + b) - 1) tests ∷ [])) (ap (map (raised_op a)) f ∙ numbered-raised a r 0 ∙ ap (λ (k : ℕ). numbered k r) em)
    ∙ ap (λ (k : ℕ). numbered 0 l ++ (numbered m r ++ join k ((a + b) - 1) tests ∷ [])) ea
    ∙ ap (λ (k : ℕ). numbered 0 l ++ (numbered m r ++ join (0 + under l) k tests ∷ [])) eb

-- an operator that is neither a selection nor a join
abbrev pub IsPlain : Operator → Type 0
IsPlain (source s out) = Unit {0}
IsPlain (get_descendants input start path out) = Unit {0}
IsPlain (join left right tests) = ⊥
IsPlain (over input (select test)) = ⊥
IsPlain (over input (order_by v desc)) = Unit {0}
IsPlain (over input (project keys)) = Unit {0}
IsPlain (over input (group_by keys piece out)) = Unit {0}
IsPlain (over input (concatenate pieces out)) = Unit {0}
IsPlain (over input (create_element label list out)) = Unit {0}
IsPlain (tuple_destroy input element) = Unit {0}

-- an operator of the code that is neither a selection nor a join is plain
pub is_plain : (o : Op) → ((input : ℕ) (test : Test) → o ≡ op.Select input test → ⊥) → ((left right : ℕ) (tests : Vec Test Global) → o ≡ op.Join left right tests → ⊥) → IsPlain (op_of o)
is_plain (op.Source s out) f g = tt
is_plain (op.GetDescendants input start path out) f g = tt
is_plain (op.Select input test) f g = f input test refl
is_plain (op.Join left right tests) f g = g left right tests refl
is_plain (op.Project input keys) f g = tt
is_plain (op.GroupBy input keys piece out) f g = tt
is_plain (op.OrderBy input v desc) f g = tt
is_plain (op.Concatenate input pieces out) f g = tt
is_plain (op.CreateElement input label list out) f g = tt
is_plain (op.TupleDestroy input element) f g = tt

-- the block of an operator that is neither a selection nor a join is itself put on the block of its input
pub plain_block : (op : Operator) → IsPlain op → (of : ℕ → Tree) (blocks : List (List Operator)) → AreBelow op of blocks → put_on (one_input op) blocks op ≡ block_over op of
plain_block (source s out) t of blocks h = refl
plain_block (get_descendants input start path out) t of blocks h = over_one (of input) (block_at blocks input) h.0.1 (λ i. get_descendants i start path out)
plain_block (join left right tests) t of blocks h = absurd t
plain_block (over input (select test)) t of blocks h = absurd t
plain_block (over input (order_by v desc)) t of blocks h = over_one (of input) (block_at blocks input) h.0.1 (λ i. over i (order_by v desc))
plain_block (over input (project keys)) t of blocks h = over_one (of input) (block_at blocks input) h.0.1 (λ i. over i (project keys))
plain_block (over input (group_by keys piece out)) t of blocks h = over_one (of input) (block_at blocks input) h.0.1 (λ i. over i (group_by keys piece out))
plain_block (over input (concatenate pieces out)) t of blocks h = over_one (of input) (block_at blocks input) h.0.1 (λ i. over i (concatenate pieces out))
plain_block (over input (create_element label list out)) t of blocks h = over_one (of input) (block_at blocks input) h.0.1 (λ i. over i (create_element label list out))
plain_block (tuple_destroy input element) t of blocks h = over_last (of input) (block_at blocks input) h.0.1 (λ i. tuple_destroy i element) (under (of input)) refl

-- where the inputs of an operator that is no selection and no join have their blocks, its one input has a block
pub plain_below : (op : Operator) → IsPlain op → (of : ℕ → Tree) (blocks : List (List Operator)) → AreBelow op of blocks → HasBlock (one_input op) blocks
plain_below (source s out) t of blocks h = tt
plain_below (get_descendants input start path out) t of blocks h = (h.0.0, block_some (of input) (block_at blocks input) h.0.1)
plain_below (join left right tests) t of blocks h = absurd t
plain_below (over input op) t of blocks h = (h.0.0, block_some (of input) (block_at blocks input) h.0.1)
plain_below (tuple_destroy input element) t of blocks h = (h.0.0, block_some (of input) (block_at blocks input) h.0.1)

-- the inputs of an operator that is no selection and no join are its one input, where it has one
pub plain_inputs : (op : Operator) → IsPlain op → option_to_list (one_input op) ≡ inputs_of op
plain_inputs (source s out) t = refl
plain_inputs (get_descendants input start path out) t = refl
plain_inputs (join left right tests) t = absurd t
plain_inputs (over input op) t = refl
plain_inputs (tuple_destroy input element) t = refl
