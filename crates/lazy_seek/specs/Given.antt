-- The nodes that places give to the variables of evidence, whether or not the operators hold of them.
use Rattle.std.specs.Prelude.{ℕ, zero, suc, cond, ◌==◌, List, [], ◌++◌, length, slice_index_or}
use Rattle.mix_tree.specs.Nodes.{Node, document_node}
use Rattle.plan_core.specs.Plans.{Operator}
use Rattle.plan_core.specs.Shapes.{Shape, one_source, visits_below, pairs_up, passes_on, no_events, shape_at}
use Rattle.plan_evidence.specs.Evidence.{is_on_way, visit_vars}

-- nodes of variables, with this node for one of them
abbrev pub with_node_of : ℕ → Node → (ℕ → Node) → ℕ → Node
with_node_of v n nodes w = cond (v == w) n (nodes w)

-- nodes of variables with that which a shape binds: a source's document node; for a visit the node at a place in the source of its start's node
abbrev pub shape_given : Shape → List ℕ → (ℕ → Node) → ℕ → Node
shape_given (one_source s out) place nodes = with_node_of out (document_node s) nodes
shape_given (visits_below input start path out) place nodes = with_node_of out (record { source = (nodes start).source; place = place }) nodes
shape_given (pairs_up left right tests) place nodes = nodes
shape_given (passes_on input stage) place nodes = nodes
shape_given (no_events input made) place nodes = nodes

-- the variables that visits of a number below i on the way of operator n bind, in the order of their numbers
unfoldable pub vars_below : List Operator → ℕ → ℕ → List ℕ
vars_below ops n zero = []
vars_below ops n (suc i) = vars_below ops n i ++ cond (is_on_way ops n i) (visit_vars (shape_at ops i)) []

-- the place that is the next one once the operators below i on the way of operator n have taken theirs
abbrev pub next_given : List Operator → ℕ → List (List ℕ) → ℕ → List ℕ
next_given ops n places i = slice_index_or places (length (vars_below ops n i)) []

-- the nodes of the variables that sources and visits of a number below i on the way of operator n bind, where each visit takes the next of these places
unfoldable pub given_below : List Operator → ℕ → List (List ℕ) → ℕ → ℕ → Node
given_below ops n places zero = λ v. document_node 0
given_below ops n places (suc i) =
    cond (is_on_way ops n i) (shape_given (shape_at ops i) (next_given ops n places i) (given_below ops n places i)) (given_below ops n places i)

-- the nodes that places give to the variables of evidence of operator n
abbrev pub given : List Operator → ℕ → List (List ℕ) → ℕ → Node
given ops n places = given_below ops n places (suc n)
