-- Keys, by which nodes are the same, and which keys are in force in a template.
use Rattle.std.specs.Prelude.{ℕ, Bool, true, false, cond, List, [], ◌∷◌, ◌++◌, ◌==◌, ◌&&◌, not}
use Rattle.std.specs.List.{list_any, list_all}
use Rattle.std.specs.Str.{bytes_eq}
use Rattle.mix_tree.specs.Nodes.{Documents, Node, same_node, label_at}
use Rattle.mix_tree.specs.declared.var.Key.{Key}
use Rattle.mix_tree.specs.declared.var.Key.TheVariants.{Node as node_key, LabelOf as label_key}

-- the variable of a key
abbrev pub key_var : Key → ℕ
key_var (node_key v) = v
key_var (label_key v) = v

-- the variable is that of a key
abbrev pub has_var : List Key → ℕ → Bool
has_var keys v = list_any (λ k. key_var k == v) keys

-- whether two keys are the same
abbrev pub key_eq : Key → Key → Bool
key_eq (node_key v) (node_key w) = v == w
key_eq (node_key v) (label_key w) = false
key_eq (label_key v) (node_key w) = false
key_eq (label_key v) (label_key w) = v == w

-- where the first key is in force, so is the second: a node has one label
abbrev pub gives : Key → Key → Bool
gives (node_key w) k = w == key_var k
gives (label_key w) (node_key v) = false
gives (label_key w) (label_key v) = w == v

-- a key stands in force where one of the keys in force gives it
abbrev pub stands : List Key → Key → Bool
stands force k = list_any (λ f. gives f k) force

-- an item collects where one of its keys doesn't stand in force around it
abbrev pub collects : List Key → List Key → Bool
collects force own = not (list_all (stands force) own)

-- the keys in force at an item: those around it, then its own, without repeats
abbrev pub in_force : List Key → List Key → List Key
in_force force [] = force
in_force force (k ∷ own) = in_force (cond (list_any (key_eq k) force) force (force ++ k ∷ [])) own

-- two ways to give each variable a node agree by a key
abbrev pub same_key : Documents → Key → (ℕ → Node) → (ℕ → Node) → Bool
same_key docs (node_key v) a b = same_node (a v) (b v)
same_key docs (label_key v) a b = bytes_eq (label_at docs (a v)) (label_at docs (b v))

-- two ways to give each variable a node agree by all keys
abbrev pub same_by : Documents → List Key → (ℕ → Node) → (ℕ → Node) → Bool
same_by docs [] a b = true
same_by docs (k ∷ keys) a b = same_key docs k a b && same_by docs keys a b
