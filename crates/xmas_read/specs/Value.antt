-- The rule that a tree stands for. A variable's number is the place of its name among the names that conditions bind.
use Rattle.std.specs.Prelude.{ℕ, suc, cond, List, [], ◌∷◌, Option, Some, None, Result, Ok, Err, map}
use Rattle.std.specs.Str.{bytes_eq}
use Rattle.mix_tree.specs.declared.var.Key.{Key}
use Rattle.mix_tree.specs.declared.var.Key.TheVariants.{Node as node_key, LabelOf as label_key}
use Rattle.mix_tree.specs.declared.comparing.Operand.{Operand}
use Rattle.mix_tree.specs.declared.comparing.Operand.TheVariants.{Var as var_operand, Text as text_operand}
use Rattle.mix_tree.specs.declared.comparing.TestOp.{TestOp}
use Rattle.mix_tree.specs.declared.comparing.TestOp.TheVariants as test
use Rattle.path_expr.specs.Form as paths
use Rattle.xmas_text.specs.Groups.{GroupForm}
use Rattle.xmas_text.specs.Contents.{Leaf, node, label_of, text, Contents, nothing, element, leaf}
use Rattle.xmas_text.specs.declared.var.KeyText.{KeyText}
use Rattle.xmas_text.specs.declared.var.KeyText.TheVariants as keyed
use Rattle.xmas_tokens.specs.declared.lexeme.PathLimit.{PathLimit}
use Rattle.xmas_tokens.specs.declared.lexeme.Comparison.{Comparison}
use Rattle.xmas_tokens.specs.declared.lexeme.Comparison.TheVariants as comparison
use Rattle.xmas_text.specs.declared.cond.CondText.{CondText}
use Rattle.xmas_text.specs.declared.cond.CondText.TheVariants as condition
use Rattle.xmas_text.specs.declared.cond.OperandText.{OperandText}
use Rattle.xmas_text.specs.declared.cond.OperandText.TheVariants as operand
use Rattle.xmas_text.specs.declared.rule.OrderText.{OrderText}
use Rattle.xmas_rule.specs.Items as items
use Rattle.xmas_rule.specs.Rules.{RuleValue}
use Rattle.xmas_rule.specs.declared.condition.Cond.{Cond}
use Rattle.xmas_rule.specs.declared.condition.Cond.TheVariants as cond_of
use Rattle.xmas_rule.specs.declared.condition.OrderBy.{OrderBy}
use Rattle.xmas_read.specs.Tree.{Tree, bound_names}

-- the place of a name among names; how many there are, where it is none of them
abbrev pub place_in : List (List ℕ) → List ℕ → ℕ
place_in [] n = 0
place_in (m ∷ names) n = cond (bytes_eq m n) 0 (suc (place_in names n))

-- a key's value
abbrev pub key_value : List (List ℕ) → KeyText → Key
key_value names (keyed.Node v) = node_key (place_in names v.name)
key_value names (keyed.LabelOf v) = label_key (place_in names v.name)

-- the keys of an item: those of its group label, or what it has without one
abbrev pub own_keys : List (List ℕ) → List Key → Option GroupForm → List Key
own_keys names without None = without
own_keys names without (Some g) = map (key_value names) g.keys

-- an item that holds no others, before other items; a variable without a group label is its own key
abbrev pub leaf_value : List (List ℕ) → Leaf → items.Items → items.Items
leaf_value names (node s) rest =
    items.variable items.whole (place_in names s.var.name) (own_keys names (node_key (place_in names s.var.name) ∷ []) s.group) rest
leaf_value names (label_of s) rest =
    items.variable items.label_alone (place_in names s.var.name) (own_keys names (label_key (place_in names s.var.name) ∷ []) s.group) rest
leaf_value names (text l) rest = items.literal l rest

-- the value of items; an element without a group label has no keys
abbrev pub items_value : List (List ℕ) → Contents → items.Items
items_value names nothing = items.done
items_value names (element tags inside after) =
    items.element tags.name (items_value names inside) (own_keys names [] tags.group) (items_value names after)
items_value names (leaf i after) = leaf_value names i (items_value names after)

-- the value of a path; that of one that passes a limit is no matter
abbrev pub path_value : Result paths.Form PathLimit → paths.Form
path_value (Ok p) = p
path_value (Err e) = record { head = paths.any; members = paths.none }

-- an operand's value
abbrev pub operand_value : List (List ℕ) → OperandText → Operand
operand_value names (operand.Var v) = var_operand (place_in names v.name)
operand_value names (operand.Text l) = text_operand l

-- the test operator that a comparison stands for
abbrev pub op_value : Comparison → TestOp
op_value comparison.Eq = test.Eq
op_value comparison.Ne = test.Ne
op_value comparison.Lt = test.Lt
op_value comparison.Le = test.Le
op_value comparison.Gt = test.Gt
op_value comparison.Ge = test.Ge

-- a condition's value, by the names of sources and of variables
abbrev pub cond_value : List (List ℕ) → List (List ℕ) → CondText → Cond
cond_value sources names (condition.FromSource at source path var) =
    cond_of.FromSource (place_in sources source) (path_value path) (place_in names var.name)
cond_value sources names (condition.FromVar start path var) =
    cond_of.FromVar (place_in names start.name) (path_value path) (place_in names var.name)
cond_value sources names (condition.Compare left op right) =
    cond_of.Compare (record { left = place_in names left.name; op = op_value op; right = operand_value names right })

-- an order's value
abbrev pub order_value : List (List ℕ) → Option OrderText → Option OrderBy
order_value names None = None
order_value names (Some o) = Some (record { var = place_in names o.var.name; desc = o.desc })

-- the rule that a tree stands for, over sources of these names
abbrev pub rule_value : List (List ℕ) → Tree → RuleValue
rule_value sources t =
    let names = bound_names t.conds in
    record {
      label = t.template.name;
      items = items_value names t.template.contents;
      keys = own_keys names [] t.template.group;
      conds = map (cond_value sources names) t.conds;
      order = order_value names t.order;
      names = names;
    }
