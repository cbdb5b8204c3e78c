-- The tree of a written rule. A place is the length of what stands before it.
use Rattle.std.specs.Prelude.{ℕ, ◌+◌, true, false, length, List, [], ◌∷◌, ◌++◌, Option, Some, None}
use Rattle.mix_tree.specs.LabelGrammar.{meaning}
use Rattle.path_expr.specs.Grammar.{text_of}
use Rattle.xmas_text.specs.declared.var.VarText.{VarText}
use Rattle.xmas_text.specs.declared.var.KeyText.{KeyText}
use Rattle.xmas_text.specs.declared.var.KeyText.TheVariants as keyed
use Rattle.xmas_text.specs.declared.element.ItemText.{ItemText}
use Rattle.xmas_text.specs.declared.element.ItemText.TheVariants as item
use Rattle.xmas_text.specs.declared.cond.OperandText.{OperandText}
use Rattle.xmas_text.specs.declared.cond.OperandText.TheVariants as operand
use Rattle.xmas_text.specs.declared.cond.CondText.{CondText}
use Rattle.xmas_text.specs.declared.cond.CondText.TheVariants as condition
use Rattle.xmas_text.specs.declared.rule.OrderText.{OrderText}
use Rattle.xmas_text.specs.Groups.{GroupForm}
use Rattle.xmas_text.specs.Elements.{contents_of}
use Rattle.xmas_text.specs.Grammar.{Key, node, label, Keys, none, first, more, Group, absent, braced, Items, nothing, variable, literal, element, Operand, a_variable, a_text, Cond, source, walk, compare, Conds, one, also, Order, unordered, ordered, descending, Rule, keys_text, items_text, conds_text, construct_text, where_text}
use Rattle.xmas_tokens.specs.Tokens.{op_text}
use Rattle.xmas_tokens.specs.Lexemes.{path_form}

-- a variable at a place
abbrev pub var_at : ℕ → List ℕ → VarText
var_at at v = record { at = at; name = v }

-- a key that begins at a place
abbrev pub key_at : ℕ → Key → KeyText
key_at at (node v) = keyed.Node (var_at at v)
key_at at (label g v) = keyed.LabelOf (var_at (at + 5 + length g) v)

-- keys after a brace that ends at a place
abbrev pub keys_at : ℕ → Keys → List KeyText
keys_at at none = []
keys_at at (first g k) = key_at (at + length g) k ∷ []
keys_at at (more ks g h k) = keys_at at ks ++ key_at (at + length (keys_text ks) + length g + 1 + length h) k ∷ []

-- a group label after an item that ends at a place
abbrev pub group_at : ℕ → Group → Option GroupForm
group_at at absent = None
group_at at (braced g ks h) = Some (record { at = at + length g; keys = keys_at (at + length g + 1) ks })

-- an item that shows a variable or its label, from a place on
abbrev pub shown_at : ℕ → Key → Option GroupForm → ItemText
shown_at at (node v) e = item.Node (record { at = at; var = var_at at v; group = e })
shown_at at (label g v) e = item.LabelOf (record { at = at; var = var_at (at + 5 + length g) v; group = e })

-- where the closing tag of an element begins, from the place of its opening tag
abbrev pub close_place : ℕ → List ℕ → Items → List ℕ → ℕ
close_place at name inside h = at + 1 + length name + 1 + length (items_text inside) + length h

-- items that begin at a place; a group label stands after its item
abbrev pub items_at : ℕ → Items → List ItemText
items_at at nothing = []
items_at at (variable before g k e) =
    items_at at before ++ shown_at (at + length (items_text before) + length g) k (group_at (at + length (items_text (variable before g k absent))) e) ∷ []
items_at at (literal before g ps) = items_at at before ++ item.Text (meaning ps) ∷ []
items_at at (element before g name inside h close e) =
    let here = at + length (items_text before) + length g in
    items_at at before
    ++ item.Element (record { at = here; name = name; contents = contents_of (items_at (here + 1 + length name + 1) inside); close_at = close_place here name inside h; close_name = close; group = group_at (at + length (items_text (element before g name inside h close absent))) e })
    ∷ []

-- an operand that begins at a place
abbrev pub operand_at : ℕ → Operand → OperandText
operand_at at (a_variable v) = operand.Var (var_at at v)
operand_at at (a_text ps) = operand.Text (meaning ps)

-- a condition that begins at a place
abbrev pub cond_at : ℕ → Cond → CondText
cond_at at (source name g p h v) =
    condition.FromSource at name (path_form p) (var_at (at + length name + length g + length (text_of p) + length h) v)
cond_at at (walk start g p h v) =
    condition.FromVar (var_at at start) (path_form p) (var_at (at + 1 + length start + length g + length (text_of p) + length h) v)
cond_at at (compare v g o h a) =
    condition.Compare (var_at at v) o (operand_at (at + 1 + length v + length g + length (op_text o) + length h) a)

-- conditions that begin at a place
abbrev pub conds_at : ℕ → Conds → List CondText
conds_at at (one g c) = cond_at (at + length g) c ∷ []
conds_at at (also cs g h c) = conds_at at cs ++ cond_at (at + length (conds_text cs) + length g + 3 + length h) c ∷ []

-- an order that begins at a place
abbrev pub order_at : ℕ → Order → Option OrderText
order_at at unordered = None
order_at at (ordered g h i v) = Some (record { var = var_at (at + length g + 5 + length h + 2 + length i) v; desc = false })
order_at at (descending g h i v j) = Some (record { var = var_at (at + length g + 5 + length h + 2 + length i) v; desc = true })

-- the tree of a rule: the items that are its template, of which the grammar has one, the conditions, and the order
pub record RuleForm : Type 0 where
  pub template : List ItemText
  pub conds : List CondText
  pub order : Option OrderText

-- where the template of a rule begins
abbrev pub template_place : Rule → ℕ
template_place r = length r.lead + length construct_text

-- where the conditions of a rule begin
abbrev pub conds_place : Rule → ℕ
conds_place r = template_place r + length (items_text r.template) + length r.gap + length where_text

-- the tree of a written rule
abbrev pub parsed : Rule → RuleForm
parsed r = record {
  template = items_at (template_place r) r.template;
  conds = conds_at (conds_place r) r.conds;
  order = order_at (conds_place r + length (conds_text r.conds)) r.order;
}
