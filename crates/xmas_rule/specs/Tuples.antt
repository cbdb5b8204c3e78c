-- The tuples of a body's variables, one binding condition after another, those that pass its comparisons, and their order.
use Rattle.std.specs.Prelude.{ℕ, List, [], ◌∷◌, ◌++◌, map, Option, None, Some}
use Rattle.std.specs.List.{filter, flat_map}
use Rattle.mix_tree.specs.Comparisons.{passes}
use Rattle.mix_tree.specs.Forest.{none, tree}
use Rattle.mix_tree.specs.Nodes.{Documents, Node, document_node}
use Rattle.mix_tree.specs.declared.comparing.Test.{Test}
use Rattle.path_expr.specs.Form.{Form}
use Rattle.path_expr.specs.Matches.{AreMatches}
use Rattle.xmas_rule.specs.Bindings.{Binding, node_of, label_of, sorts_before}
use Rattle.xmas_rule.specs.Conditions.{Binder, from_source, from_var, binder_var}
use Rattle.xmas_rule.specs.declared.condition.OrderBy.{OrderBy}
use Rattle.xmas_rule.specs.Sorted.{sorted_by}

-- lists of places: for each path and each node a list of places below the node
abbrev pub MatchLists : Type 0
MatchLists = Form → Node → List (List ℕ)

-- the lists hold exactly the places that the path leads to, once each, in document order
abbrev pub AreMatchLists : Documents → MatchLists → Type 0
AreMatchLists docs lists = (path : Form) (start : Node) → AreMatches path (tree [] (docs start.source) none) start.place (lists path start)

-- the nodes that a condition allows beside a tuple
unfoldable pub next_nodes : MatchLists → Binder → Binding → List Node
next_nodes lists (from_source source path var) b = map (λ q. record { source = source; place = q }) (lists path (document_node source))
next_nodes lists (from_var start path var) b = map (λ q. record { source = (node_of b start).source; place = q }) (lists path (node_of b start))

-- the tuple with each node that a condition allows beside it
unfoldable pub longer : MatchLists → Binder → Binding → List Binding
unfolding next_nodes
longer lists c b = map (λ m. b ++ (binder_var c, m) ∷ []) (next_nodes lists c b)

-- each of these tuples with each node that a condition allows beside it
unfoldable pub extend : MatchLists → Binder → List Binding → List Binding
extend lists c bs = flat_map (longer lists c) bs

-- the tuples with nodes for conditions, one condition after another
unfoldable pub tuples : MatchLists → List Binding → List Binder → List Binding
tuples lists bs [] = bs
tuples lists bs (c ∷ cs) = tuples lists (extend lists c bs) cs

-- the tuples that pass every comparison
unfoldable pub passing : Documents → List Test → List Binding → List Binding
passing docs [] bs = bs
passing docs (t ∷ ts) bs = passing docs ts (filter (λ b. passes docs t (node_of b)) bs)

-- the bindings in the order of a rule
unfoldable pub in_order_of : Documents → Option OrderBy → List Binding → List Binding
in_order_of docs None bs = bs
in_order_of docs (Some o) bs = sorted_by (λ a b. sorts_before o (label_of docs o.var a) (label_of docs o.var b)) bs
