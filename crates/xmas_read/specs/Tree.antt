-- The tree of a rule's text, as the checks go over it: variables in the order of the text, group labels, items.
use Rattle.std.specs.Prelude.{ℕ, ◌+◌, List, [], ◌∷◌, ◌++◌, Option, Some, None}
use Rattle.xmas_text.specs.Groups.{GroupForm}
use Rattle.xmas_text.specs.Contents.{Leaf, node, label_of, text, Contents, nothing, element, leaf, ElementForm}
use Rattle.xmas_text.specs.Parsed.{RuleForm}
use Rattle.xmas_text.specs.declared.var.VarText.{VarText}
use Rattle.xmas_text.specs.declared.var.KeyText.{KeyText}
use Rattle.xmas_text.specs.declared.var.KeyText.TheVariants as keyed
use Rattle.xmas_text.specs.declared.element.ItemText.TheVariants as item
use Rattle.xmas_text.specs.declared.cond.CondText.{CondText}
use Rattle.xmas_text.specs.declared.cond.CondText.TheVariants as condition
use Rattle.xmas_text.specs.declared.cond.OperandText.{OperandText}
use Rattle.xmas_text.specs.declared.cond.OperandText.TheVariants as operand
use Rattle.xmas_text.specs.declared.rule.OrderText.{OrderText}
use Rattle.xmas_text.specs.declared.rule.RuleText.{RuleText}

-- the tree of a rule's text: the outer element, the conditions and the order
pub record Tree : Type 0 where
  pub template : ElementForm
  pub conds : List CondText
  pub order : Option OrderText

-- the tree of what the reader of texts gives
abbrev pub tree_of : RuleText → Tree
tree_of t = record { template = t.template; conds = t.conds.items; order = t.order }

-- the tree as the grammar has it
abbrev pub form_of_tree : Tree → RuleForm
form_of_tree t = record { template = item.Element t.template ∷ []; conds = t.conds; order = t.order }

-- the variable of a key
abbrev pub key_var_text : KeyText → VarText
key_var_text (keyed.Node v) = v
key_var_text (keyed.LabelOf v) = v

-- the variables of keys
abbrev pub keys_vars : List KeyText → List VarText
keys_vars [] = []
keys_vars (k ∷ keys) = key_var_text k ∷ keys_vars keys

-- the variables of a group label
abbrev pub group_vars : Option GroupForm → List VarText
group_vars None = []
group_vars (Some g) = keys_vars g.keys

-- the variables of an item that holds no others
abbrev pub leaf_vars : Leaf → List VarText
leaf_vars (node s) = s.var ∷ group_vars s.group
leaf_vars (label_of s) = s.var ∷ group_vars s.group
leaf_vars (text l) = []

-- the variables of items
abbrev pub contents_vars : Contents → List VarText
contents_vars nothing = []
contents_vars (element tags inside after) = contents_vars inside ++ group_vars tags.group ++ contents_vars after
contents_vars (leaf i after) = leaf_vars i ++ contents_vars after

-- the variables of the template
abbrev pub template_vars : ElementForm → List VarText
template_vars e = contents_vars e.contents ++ group_vars e.group

-- the variables of an operand
abbrev pub operand_vars : OperandText → List VarText
operand_vars (operand.Var v) = v ∷ []
operand_vars (operand.Text l) = []

-- the variables of a condition
abbrev pub cond_vars : CondText → List VarText
cond_vars (condition.FromSource at source path var) = var ∷ []
cond_vars (condition.FromVar start path var) = start ∷ var ∷ []
cond_vars (condition.Compare left op right) = left ∷ operand_vars right

-- the variables of conditions
abbrev pub conds_vars : List CondText → List VarText
conds_vars [] = []
conds_vars (c ∷ conds) = cond_vars c ++ conds_vars conds

-- the variables of an order
abbrev pub order_vars : Option OrderText → List VarText
order_vars None = []
order_vars (Some o) = o.var ∷ []

-- all variables of a rule
abbrev pub vars_of : Tree → List VarText
vars_of t = template_vars t.template ++ conds_vars t.conds ++ order_vars t.order

-- how many items stand in a template, at any depth
abbrev pub items_in : Contents → ℕ
items_in nothing = 0
items_in (element tags inside after) = 1 + items_in inside + items_in after
items_in (leaf i after) = 1 + items_in after

-- the variable that a condition binds, where it binds one
abbrev pub bound_var : CondText → Option VarText
bound_var (condition.FromSource at source path var) = Some var
bound_var (condition.FromVar start path var) = Some var
bound_var (condition.Compare left op right) = None

-- a name before others, where there is one
abbrev pub name_before : Option VarText → List (List ℕ) → List (List ℕ)
name_before None names = names
name_before (Some v) names = v.name ∷ names

-- the names of the variables that conditions bind, as written
abbrev pub bound_names : List CondText → List (List ℕ)
bound_names [] = []
bound_names (c ∷ conds) = name_before (bound_var c) (bound_names conds)
