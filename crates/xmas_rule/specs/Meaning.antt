-- What a rule means: groups, instances, and the finished document. No operator and no navigation stands here.
use Rattle.std.specs.Prelude.{◌≡◌, ℕ, Bool, cond, List, [], ◌∷◌}
use Rattle.mix_base.specs.Groups.{groups}
use Rattle.mix_tree.specs.Forest.{Forest, none, tree, LabelledTree, followed, joined}
use Rattle.mix_tree.specs.Nodes.{Documents, Node, label_at, kids_at}
use Rattle.mix_tree.specs.declared.var.Key.{Key}
use Rattle.mix_tree.specs.Keys.{same_by, collects, in_force}
use Rattle.xmas_rule.specs.Items.{Shown, whole, label_alone, Items, done, literal, variable, element}
use Rattle.xmas_rule.specs.Bindings.{Binding, node_of, AreBindings}
use Rattle.xmas_rule.specs.Rules.{RuleValue}

-- two bindings are the same by all keys
abbrev pub same : Documents → List Key → Binding → Binding → Bool
same docs keys a b = same_by docs keys (node_of a) (node_of b)

-- what is shown of a node: the whole subtree, or a leaf with its label
abbrev pub shown_tree : Documents → Shown → Node → Forest
shown_tree docs whole n = tree (label_at docs n) (kids_at docs n) none
shown_tree docs label_alone n = tree (label_at docs n) none none

-- an instance of a variable takes the first binding
abbrev pub shown_first : Documents → Shown → ℕ → List Binding → Forest
shown_first docs shown v [] = none
shown_first docs shown v (b ∷ bs) = shown_tree docs shown (node_of b v)

-- what an item has one instance of: each group by its keys where it collects, else the whole list
abbrev pub parts : Documents → List Key → List Key → List Binding → List (List Binding)
parts docs force own bs = cond (collects force own) (groups (same docs own) bs) (bs ∷ [])

-- the instances of items over a list of bindings, one after another
abbrev pub instances : Documents → List Key → Items → List Binding → Forest
instances docs force done bs = none
instances docs force (literal label rest) bs = tree label none (instances docs force rest bs)
instances docs force (variable shown v own rest) bs =
    followed (joined (shown_first docs shown v) (parts docs force own bs)) (instances docs force rest bs)
instances docs force (element label inside own rest) bs =
    followed (joined (λ part. tree label (instances docs (in_force force own) inside part) none) (parts docs force own bs)) (instances docs force rest bs)

-- the outer element over a list of bindings, made once
abbrev pub finished : Documents → RuleValue → List Binding → LabelledTree
finished docs r bs = record { label = r.label; kids = instances docs [] r.items bs }

-- the finished document of a rule: its outer element over the body's bindings
abbrev pub IsFinished : Documents → RuleValue → LabelledTree → Type 0
IsFinished docs r t = (bs : List Binding) × AreBindings docs r.conds r.order bs × (t ≡ finished docs r bs)

-- no rule has two finished documents
abbrev pub HasOneFinished : Type 0
HasOneFinished = (docs : Documents) (r : RuleValue) (t u : LabelledTree) → IsFinished docs r t → IsFinished docs r u → t ≡ u
