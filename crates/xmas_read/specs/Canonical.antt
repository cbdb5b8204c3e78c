-- The canonical text of a rule, by the names of its sources and of its variables: single blanks, and each group label written out.
use Rattle.std.specs.Prelude.{ℕ, false, true, cond, List, [], ◌∷◌, ◌++◌, get_or, codes, Option, Some, None}
use Rattle.mix_tree.specs.Signs.{op_sign}
use Rattle.mix_tree.specs.Spelling.{quoted}
use Rattle.mix_tree.specs.declared.var.Key.{Key}
use Rattle.mix_tree.specs.declared.var.Key.TheVariants.{Node as node_key, LabelOf as label_key}
use Rattle.mix_tree.specs.declared.comparing.Operand.{Operand}
use Rattle.mix_tree.specs.declared.comparing.Operand.TheVariants.{Var as var_operand, Text as text_operand}
use Rattle.path_expr.specs.Canonical.{canon}
use Rattle.xmas_rule.specs.Items.{Items, done, literal, variable, element, Shown, shown_key}
use Rattle.xmas_rule.specs.Rules.{RuleValue}
use Rattle.xmas_rule.specs.declared.condition.Cond.{Cond}
use Rattle.xmas_rule.specs.declared.condition.Cond.TheVariants.{FromSource, FromVar, Compare}
use Rattle.xmas_rule.specs.declared.condition.OrderBy.{OrderBy}

-- the canonical text of a variable: $ and its name
abbrev pub var_text : List (List ℕ) → ℕ → List ℕ
var_text names v = 36 ∷ get_or names v []

-- the canonical text of a key: a variable, or label and a variable
abbrev pub key_text : List (List ℕ) → Key → List ℕ
key_text names (node_key v) = var_text names v
key_text names (label_key v) = codes "label " ++ var_text names v

-- the canonical text of keys after a first one, each after a comma
abbrev pub more_keys : List (List ℕ) → List Key → List ℕ
more_keys names [] = []
more_keys names (k ∷ keys) = 44 ∷ (key_text names k ++ more_keys names keys)

-- the canonical text of keys, with commas between them
abbrev pub keys_text : List (List ℕ) → List Key → List ℕ
keys_text names [] = []
keys_text names (k ∷ keys) = key_text names k ++ more_keys names keys

-- the canonical text of a group label
abbrev pub group_text : List (List ℕ) → List Key → List ℕ
group_text names keys = 123 ∷ (keys_text names keys ++ 125 ∷ [])

-- an opening tag with a blank, what stands inside, a closing tag with a blank, and the group label
abbrev pub element_text : List (List ℕ) → List ℕ → List ℕ → List Key → List ℕ
element_text names label inside own = 60 ∷ (label ++ (codes "> " ++ (inside ++ (codes "</" ++ (label ++ (codes "> " ++ group_text names own))))))

-- the items of an element, each with a blank after it
abbrev pub items_text : List (List ℕ) → Items → List ℕ
items_text names done = []
items_text names (literal label rest) = quoted label ++ (32 ∷ items_text names rest)
items_text names (variable shown v own rest) = key_text names (shown_key shown v) ++ (32 ∷ (group_text names own ++ (32 ∷ items_text names rest)))
items_text names (element label inside own rest) = element_text names label (items_text names inside) own ++ (32 ∷ items_text names rest)

-- the canonical text of what stands after an operator
abbrev pub operand_text : List (List ℕ) → Operand → List ℕ
operand_text names (var_operand v) = var_text names v
operand_text names (text_operand label) = quoted label

-- the canonical text of a condition
abbrev pub cond_text : List (List ℕ) → List (List ℕ) → Cond → List ℕ
cond_text sources names (FromSource source path v) = get_or sources source [] ++ (32 ∷ (canon path ++ (32 ∷ var_text names v)))
cond_text sources names (FromVar start path v) = var_text names start ++ (32 ∷ (canon path ++ (32 ∷ var_text names v)))
cond_text sources names (Compare t) = var_text names t.left ++ (32 ∷ (op_sign t.op ++ (32 ∷ operand_text names t.right)))

-- the canonical text of conditions after a first one, each after AND
abbrev pub more_conds : List (List ℕ) → List (List ℕ) → List Cond → List ℕ
more_conds sources names [] = []
more_conds sources names (c ∷ conds) = codes " AND " ++ (cond_text sources names c ++ more_conds sources names conds)

-- the canonical text of conditions, with AND between them
abbrev pub conds_text : List (List ℕ) → List (List ℕ) → List Cond → List ℕ
conds_text sources names [] = []
conds_text sources names (c ∷ conds) = cond_text sources names c ++ more_conds sources names conds

-- the canonical text of an order, with a blank before it
abbrev pub order_text : List (List ℕ) → Option OrderBy → List ℕ
order_text names None = []
order_text names (Some o) = codes " ORDER BY " ++ (var_text names o.var ++ cond o.desc (codes " DESC") [])

-- the canonical text of a rule, over sources of these names
abbrev pub canonical : List (List ℕ) → RuleValue → List ℕ
canonical sources r =
    codes "CONSTRUCT " ++ (element_text r.names r.label (items_text r.names r.items) r.keys
    ++ (codes " WHERE " ++ (conds_text sources r.names r.conds ++ order_text r.names r.order)))
