-- What the steps of the program come to, over documents that are given as a list of trees.
use Rattle.std.specs.Prelude.{◌≡◌, ℕ, Bool, List, [], ◌∷◌, ◌++◌, map}
use Rattle.std.specs.List.{list_any}
use Rattle.mix_tree.specs.Forest.{LabelledTree, Forest, forest_of, tree, none, followed, joined}
use Rattle.mix_tree.specs.Nodes.{Documents, Node}
use Rattle.path_expr.specs.Description.{Labels}
use Rattle.xmas_rule.specs.Bindings.{Binding, label_of, sorts_before}
use Rattle.xmas_rule.specs.Items.{Items}
use Rattle.xmas_rule.specs.Meaning.{same, instances}
use Rattle.xmas_rule.specs.Conditions.{Binder, from_source, from_var}
use Rattle.xmas_rule.specs.Sorted.{insert_by}
use Rattle.xmas_rule.specs.Tuples.{MatchLists, AreMatchLists, tuples}
use Rattle.xmas_rule.specs.declared.condition.OrderBy.{OrderBy}
use Rattle.plain_rule.specs.Documents.{documents_of}
use Rattle.plain_rule.specs.Found.{found_in}
use Rattle.plain_rule.specs.declared.grouping.By.{By}
use Rattle.plain_rule.specs.declared.instances.Scope.{Scope}
use Rattle.plain_rule.specs.declared.matching.Under.{Under}
use Rattle.plain_rule.specs.declared.tuples.Leads.{Leads}

-- what holds of the lists of matches over these documents
abbrev pub ForMatches : List LabelledTree → (MatchLists → Type 0) → Type 0
ForMatches docs P = (lists : MatchLists) → AreMatchLists (documents_of docs) lists → P lists

-- the tuples with the variables of these conditions
abbrev pub AreExtended : List LabelledTree → List Binding → List Binder → List Binding → Type 0
AreExtended docs bs conds longer = ForMatches docs (λ lists. longer ≡ tuples lists bs conds)

-- the condition that leads to a variable's nodes from a source
abbrev pub from_document : Leads → ℕ → Binder
from_document l source = from_source source l.path.now l.var

-- the condition that leads to a variable's nodes from another variable's node
abbrev pub from_node : Leads → ℕ → Binder
from_node l start = from_var start l.path.now l.var

-- a binding with a variable at each of these places of a source
abbrev pub at_places : Binding → ℕ → ℕ → List (List ℕ) → List Binding
at_places binding var source places = map (λ q. binding ++ (var, record { source = source; place = q }) ∷ []) places

-- a binding with a variable at each of the nodes that a path leads to from a start
abbrev pub at_matches : MatchLists → Leads → Node → Binding → List Binding
at_matches lists l start binding = at_places binding l.var start.source (lists l.path.now start)

-- the places added are those of trees and of all below them whose labels pass a test
abbrev pub AddsFound : (Labels → Bool) → Under → List LabelledTree → List (List ℕ) → List (List ℕ) → Type 0
AddsFound test under trees old new = new ≡ old ++ found_in test under.labels.now under.place.now 0 (forest_of trees)

-- whether a binding comes before another in the order of a rule
abbrev pub comes_before : Documents → OrderBy → Binding → Binding → Bool
comes_before docs order a b = sorts_before order (label_of docs order.var a) (label_of docs order.var b)

-- sorted bindings with one more
abbrev pub inserted : Documents → OrderBy → Binding → List Binding → List Binding
inserted docs order b bs = insert_by (comes_before docs order) b bs

-- whether two bindings are the same by keys
abbrev pub is_alike : By → Binding → Binding → Bool
is_alike by a b = same (documents_of by.docs.now) by.keys.now a b

-- whether one of those seen is the same as the binding
abbrev pub is_seen : By → List Binding → Binding → Bool
is_seen by seen b = list_any (λ s. is_alike by s b) seen

-- the trees of the forest were added
abbrev pub Adds : List LabelledTree → List LabelledTree → Forest → Type 0
Adds old new f = forest_of new ≡ followed (forest_of old) f

-- the instances of items over bindings
abbrev pub instances_in : Scope → Items → List Binding → Forest
instances_in scope items bindings = instances (documents_of scope.docs.now) scope.force.now items bindings

-- an element over each part of the bindings, one after another
abbrev pub elements : Scope → List ℕ → Items → List (List Binding) → Forest
elements scope label items parts = joined (λ part. tree label (instances_in scope items part) none) parts
