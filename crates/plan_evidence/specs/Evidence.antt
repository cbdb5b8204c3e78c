-- Evidence of an operator: nodes for variables, by which each visit on the way is a match and all comparisons on the way hold, and their places.
use Rattle.std.specs.Prelude.{◌≡◌, ◌<◌, ◌||◌, ◌==◌, ℕ, suc, Bool, true, false, cond, List, [], ◌∷◌, ◌++◌, map, length}
use Rattle.std.specs.List.{list_all, list_any}
use Rattle.mix_tree.specs.Comparisons.{passes}
use Rattle.mix_tree.specs.Nodes.{Documents, Node, document_node}
use Rattle.path_expr.specs.Matches.{IsMatch}
use Rattle.plan_core.specs.ByNumber.{by_number}
use Rattle.plan_core.specs.Plans.{Operator}
use Rattle.plan_core.specs.Shapes.{Stage, filters, extends, first_by_keys, one_group, in_order, Shape, one_source, visits_below, pairs_up, passes_on, no_events, shape_of, shape_at}

-- the input of a stage as a list, which is empty below one group of all: what that is made of isn't on the way, since the group is there in any case
abbrev pub stage_way : ℕ → Stage → List ℕ
stage_way input (filters test) = input ∷ []
stage_way input (extends out made) = input ∷ []
stage_way input (first_by_keys keys group) = input ∷ []
stage_way input (one_group piece out) = []
stage_way input (in_order v desc) = input ∷ []

-- the inputs of a shape that are on the way of evidence: all but that of one group of all
abbrev pub shape_way : Shape → List ℕ
shape_way (one_source s out) = []
shape_way (visits_below input start path out) = input ∷ []
shape_way (pairs_up left right tests) = left ∷ right ∷ []
shape_way (passes_on input stage) = stage_way input stage
shape_way (no_events input made) = input ∷ []

-- operator i is one of these inputs, or on the way below one of them
abbrev pub is_under : List ℕ → (ℕ → ℕ → Bool) → ℕ → Bool
is_under inputs of i = list_any (λ j. (j == i) || of j i) inputs

-- operator i is on the way below operator n
unfoldable pub is_below : List Operator → ℕ → ℕ → Bool
is_below ops n i = by_number (λ op of. is_under (shape_way (shape_of op)) of) (λ j. false) ops n i

-- operator i is operator n or on the way below it
abbrev pub is_on_way : List Operator → ℕ → ℕ → Bool
is_on_way ops n i = (n == i) || is_below ops n i

-- a stage holds of the nodes of variables: its comparison does, where it is one
abbrev pub StageHolds : Documents → (ℕ → Node) → Stage → Type 0
StageHolds docs nodes (filters test) = passes docs test nodes ≡ true
StageHolds docs nodes (extends out made) = Unit {0}
StageHolds docs nodes (first_by_keys keys group) = Unit {0}
StageHolds docs nodes (one_group piece out) = Unit {0}
StageHolds docs nodes (in_order v desc) = Unit {0}

-- a shape holds of the nodes of variables: a source's variable is its document node, a visit's is a match of the path from the start's node, and all
-- comparisons hold
abbrev pub ShapeHolds : Documents → (ℕ → Node) → Shape → Type 0
ShapeHolds docs nodes (one_source s out) = nodes out ≡ document_node s
ShapeHolds docs nodes (visits_below input start path out) = IsMatch docs path (nodes start) (nodes out)
ShapeHolds docs nodes (pairs_up left right tests) = list_all (λ t. passes docs t nodes) tests ≡ true
ShapeHolds docs nodes (passes_on input stage) = StageHolds docs nodes stage
ShapeHolds docs nodes (no_events input made) = Unit {0}

-- the nodes of variables are right evidence of operator n: each operator on the way holds of them
abbrev pub AreRight : Documents → List Operator → ℕ → (ℕ → Node) → Type 0
AreRight docs ops n nodes = (i : ℕ) → i < length ops → is_on_way ops n i ≡ true → ShapeHolds docs nodes (shape_at ops i)

-- the variable that a shape binds by a visit, as a list of one or none
abbrev pub visit_vars : Shape → List ℕ
visit_vars (one_source s out) = []
visit_vars (visits_below input start path out) = out ∷ []
visit_vars (pairs_up left right tests) = []
visit_vars (passes_on input stage) = []
visit_vars (no_events input made) = []

-- the variables that visits bind among these operators, the first of number i, as far as they are on the way
abbrev pub vars_from : (ℕ → Bool) → ℕ → List Operator → List ℕ
vars_from on_way i [] = []
vars_from on_way i (op ∷ ops) = cond (on_way i) (visit_vars (shape_of op)) [] ++ vars_from on_way (suc i) ops

-- the variables of evidence of operator n: those that the getDescendants on the way bind, in the order of their numbers
abbrev pub evidence_vars : List Operator → ℕ → List ℕ
evidence_vars ops n = vars_from (is_on_way ops n) 0 ops

-- the places of variables' nodes
abbrev pub places_of : List ℕ → (ℕ → Node) → List (List ℕ)
places_of vars nodes = map (λ v. (nodes v).place) vars

-- the places are those of right evidence of operator n, which is these nodes
pub record IsEvidence (docs : Documents) (ops : List Operator) (n : ℕ) (places : List (List ℕ)) (nodes : ℕ → Node) : Type 0 where
  pub right : AreRight docs ops n nodes
  pub written : places_of (evidence_vars ops n) nodes ≡ places
