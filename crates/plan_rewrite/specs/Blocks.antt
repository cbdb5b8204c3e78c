-- Blocks: each operator of a plan with all that stands below it, rewritten, in numbers of its own.
use Rattle.std.specs.declared.alloc.Global.{Global}
use Rattle.std.specs.Prelude.{◌≡◌, ◌<◌, ◌-◌, Vec, ℕ, List, [], ◌∷◌, ◌++◌, map, length, set, Option, None, Some, slice_index_or}
use Rattle.std.specs.List.{AllByRecursion}
use Rattle.plan_core.specs.Plans.{Operator, source, get_descendants, join, over, tuple_destroy}
use Rattle.plan_core.specs.PlanMade.{op_of}
use Rattle.plan_core.specs.Valid.{inputs_of}
use Rattle.plan_core.specs.declared.plan.Op.{Op}
use Rattle.plan_make.specs.Trees.{Tree, begin, descend, both, numbered}
use Rattle.plan_make.proofs.TreeParts.{ended}
use Rattle.plan_rewrite.specs.Edits.{on_input}
use Rattle.plan_rewrite.specs.Rewritten.{put_over}

-- the operators of the code's blocks, in their plain form
abbrev pub blocks_of : List (Vec Op Global) → List (List Operator)
blocks_of blocks = map (λ (b : Vec Op Global). map op_of b.items) blocks

-- the block of an operator's number; empty where it has none
abbrev pub block_at : List (List Operator) → ℕ → List Operator
block_at blocks n = slice_index_or blocks n []

-- blocks, where those of these numbers were taken
abbrev pub without : List ℕ → List (List Operator) → List (List Operator)
without [] blocks = blocks
without (n ∷ ns) blocks = without ns (set blocks n [])

-- an operator over the rewritten trees of its inputs
abbrev pub block_over : Operator → (ℕ → Tree) → List Operator
block_over (source s out) of = numbered 0 (begin s out)
block_over (get_descendants input start path out) of = numbered 0 (descend (of input) start path out)
block_over (join left right tests) of = numbered 0 (both (of left) (of right) tests)
block_over (over input op) of = numbered 0 (put_over op (of input))
block_over (tuple_destroy input element) of = ended (of input) element

-- operator n has a block, which is the numbered operators of a tree
abbrev pub IsBlock : List (List Operator) → ℕ → Tree → Type 0
IsBlock blocks n x = (n < length blocks) × (block_at blocks n ≡ numbered 0 x)

-- each input of an operator has its block
abbrev pub AreBelow : Operator → (ℕ → Tree) → List (List Operator) → Type 0
AreBelow op of blocks = AllByRecursion (λ i. IsBlock blocks i (of i)) (inputs_of op)

-- the sides of a join differ
abbrev pub SidesDiffer : Operator → Type 0
SidesDiffer (source s out) = Unit {0}
SidesDiffer (get_descendants input start path out) = Unit {0}
SidesDiffer (join left right tests) = left ≡ right → ⊥
SidesDiffer (over input op) = Unit {0}
SidesDiffer (tuple_destroy input element) = Unit {0}

-- the input of an operator that has one
abbrev pub one_input : Operator → Option ℕ
one_input (source s out) = None
one_input (get_descendants input start path out) = Some input
one_input (join left right tests) = None
one_input (over input op) = Some input
one_input (tuple_destroy input element) = Some input

-- an operator by itself, or over the last one of the block of its input
abbrev pub put_on : Option ℕ → List (List Operator) → Operator → List Operator
put_on None blocks op = op ∷ []
put_on (Some n) blocks op = block_at blocks n ++ on_input (length (block_at blocks n) - 1) op ∷ []

-- an input has a block, which is not empty
abbrev pub HasBlock : Option ℕ → List (List Operator) → Type 0
HasBlock None blocks = Unit {0}
HasBlock (Some n) blocks = (n < length blocks) × (0 < length (block_at blocks n))
