-- The bindings of a body: what each condition says of a tuple of nodes, and the order of the tuples.
use Rattle.std.specs.Prelude.{◌≡◌, ◌⊎◌, ◌↔◌, ℕ, Bool, true, cond, List, [], ◌∷◌, ◌==◌, map, Option, Some, None}
use Rattle.std.specs.List.{AllByRecursion}
use Rattle.mix_base.specs.Ascents.{Among, Ascending}
use Rattle.mix_tree.specs.Nodes.{Documents, Node, document_node, label_at, PlaceBefore}
use Rattle.mix_tree.specs.Comparisons.{passes}
use Rattle.mix_tree.specs.LabelOrder.{label_before}
use Rattle.path_expr.specs.Matches.{IsMatch}
use Rattle.xmas_rule.specs.Conditions.{Binder, from_source, from_var, binders, comparisons, in_order}
use Rattle.xmas_rule.specs.declared.condition.Cond.{Cond}
use Rattle.xmas_rule.specs.declared.condition.OrderBy.{OrderBy}

-- a binding: each variable with its node, in the variable order
abbrev pub Binding : Type 0
Binding = List (ℕ × Node)

-- the node of a variable; a document node where it has none
abbrev pub node_of : Binding → ℕ → Node
node_of [] v = document_node 0
node_of (p ∷ b) v = cond (p.0 == v) p.1 (node_of b v)

-- a condition that binds holds: its path leads from its start to the variable's node
abbrev pub Binds : Documents → Binding → Binder → Type 0
Binds docs b (from_source source path var) = IsMatch docs path (document_node source) (node_of b var)
Binds docs b (from_var start path var) = IsMatch docs path (node_of b start) (node_of b var)

-- a tuple of the body's variables, in their order, of which every condition holds
pub record Satisfies (docs : Documents) (conds : List Cond) (b : Binding) : Type 0 where
  pub vars : map (λ p. p.0) b ≡ in_order conds
  pub bound : AllByRecursion (Binds docs b) (binders conds)
  pub compared : AllByRecursion (λ t. passes docs t (node_of b) ≡ true) (comparisons conds)

-- tuples of the same variables stand in order by the first place in which they differ
abbrev pub TupleBefore : Binding → Binding → Type 0
TupleBefore [] b = ⊥
TupleBefore (x ∷ a) [] = ⊥
TupleBefore (x ∷ a) (y ∷ b) = PlaceBefore x.1.place y.1.place ⊎ ((x.1.place ≡ y.1.place) × TupleBefore a b)

-- the label of a variable's node
abbrev pub label_of : Documents → ℕ → Binding → List ℕ
label_of docs v b = label_at docs (node_of b v)

-- the label order, or that order turned round
abbrev pub sorts_before : OrderBy → List ℕ → List ℕ → Bool
sorts_before o a b = cond o.desc (label_before b a) (label_before a b)

-- a binding stands before another: by its tuple, or first by the label of the variable that the rule orders by
abbrev pub StandsBefore : Documents → Option OrderBy → Binding → Binding → Type 0
StandsBefore docs None a b = TupleBefore a b
StandsBefore docs (Some o) a b =
    (sorts_before o (label_of docs o.var a) (label_of docs o.var b) ≡ true)
    ⊎ ((label_of docs o.var a ≡ label_of docs o.var b) × TupleBefore a b)

-- the body's bindings: exactly the tuples of which it holds, each once, in order
pub record AreBindings (docs : Documents) (conds : List Cond) (order : Option OrderBy) (bs : List Binding) : Type 0 where
  pub ascending : Ascending (StandsBefore docs order) bs
  pub exactly : (b : Binding) → Among b bs ↔ Satisfies docs conds b
