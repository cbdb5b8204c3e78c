-- How a token is added to a rule that is being built.
use Rattle.std.specs.Prelude.{ℕ, true, false, List, [], ◌∷◌, ◌++◌, reverse, Option, Some, None, Result}
use Rattle.path_expr.specs.Form.{Form}
use Rattle.xmas_tokens.specs.declared.token.Mark.TheVariants as mark
use Rattle.xmas_text.specs.declared.var.VarText.{VarText}
use Rattle.xmas_text.specs.declared.var.KeyText.{KeyText}
use Rattle.xmas_text.specs.declared.var.KeyText.TheVariants as keyed
use Rattle.xmas_text.specs.declared.element.ItemText.{ItemText}
use Rattle.xmas_text.specs.declared.element.ItemText.TheVariants as item
use Rattle.xmas_tokens.specs.declared.lexeme.Comparison.{Comparison}
use Rattle.xmas_tokens.specs.declared.lexeme.PathLimit.{PathLimit}
use Rattle.xmas_text.specs.declared.cond.OperandText.TheVariants as operand
use Rattle.xmas_text.specs.declared.cond.CondText.{CondText}
use Rattle.xmas_text.specs.declared.cond.CondText.TheVariants as condition
use Rattle.xmas_text.specs.declared.rule.OrderText.{OrderText}
use Rattle.xmas_tokens.specs.declared.lexeme.Lexeme.{Lexeme}
use Rattle.xmas_tokens.specs.declared.lexeme.Lexeme.TheVariants as lexeme
use Rattle.xmas_text.specs.declared.draft.StartText.{StartText}
use Rattle.xmas_text.specs.declared.draft.StartText.TheVariants as begins
use Rattle.xmas_text.specs.declared.draft.Pending.{Pending}
use Rattle.xmas_text.specs.declared.draft.Pending.TheVariants as pending
use Rattle.xmas_text.specs.Groups.{GroupForm}
use Rattle.xmas_text.specs.Elements.{contents_of}
use Rattle.xmas_text.specs.Parsed.{var_at}
use Rattle.xmas_text.specs.Drafts.{OpenForm, BuiltForm, DraftForm}

-- the draft with these parts that were read whole and this part at hand
abbrev pub draft : BuiltForm → Pending → DraftForm
draft b p = record { built = b; pending = p }

-- what was read whole, with other open elements and items
abbrev pub with_items : BuiltForm → List OpenForm → List ItemText → BuiltForm
with_items b o is = record { open_elements = o; items = is; conds = b.conds; order = b.order }

-- the draft with one more item
abbrev pub with_item : BuiltForm → ItemText → DraftForm
with_item b i = draft (with_items b b.open_elements (b.items ++ i ∷ [])) pending.Items

-- the draft after an opening tag
abbrev pub opened : BuiltForm → ℕ → List ℕ → DraftForm
opened b at name = draft (with_items b (record { at = at; name = name; before = b.items } ∷ b.open_elements) []) pending.Items

-- a closing tag of the innermost open element
abbrev pub closed_in : BuiltForm → List OpenForm → ℕ → List ℕ → DraftForm
closed_in b [] close_at close_name = draft (with_items b [] b.items) pending.Items
closed_in b (e ∷ o) close_at close_name =
    draft
    (with_items b o (e.before ++ item.Element (record { at = e.at; name = e.name; contents = contents_of b.items; close_at = close_at; close_name = close_name; group = None }) ∷ []))
    pending.Items

-- the draft after a closing tag
abbrev pub closed : BuiltForm → ℕ → List ℕ → DraftForm
closed b close_at close_name = closed_in b b.open_elements close_at close_name

-- the brace that opens a group label, after items from the last one on
abbrev pub grouped_in : BuiltForm → List ItemText → ℕ → DraftForm
grouped_in b [] at = draft (with_items b b.open_elements []) pending.Items
grouped_in b (i ∷ is) at = draft (with_items b b.open_elements (reverse is)) (pending.Keys i (record { at = at; keys = [] }))

-- the brace that opens the last item's group label
abbrev pub grouped : BuiltForm → ℕ → DraftForm
grouped b at = grouped_in b (reverse b.items) at

-- the draft after a token between items
abbrev pub item_shifted : BuiltForm → ℕ → Lexeme → DraftForm
item_shifted b at (lexeme.OpenTag name) = opened b at name
item_shifted b at (lexeme.CloseTag name) = closed b at name
item_shifted b at (lexeme.Var name) = with_item b (item.Node (record { at = at; var = var_at at name; group = None }))
item_shifted b at (lexeme.Quoted label) = with_item b (item.Text label)
item_shifted b at (lexeme.Fixed mark.OpenBrace) = grouped b at
item_shifted b at (lexeme.Fixed mark.LabelWord) = draft b (pending.Labelled at)
item_shifted b at (lexeme.Fixed mark.Where) = draft b pending.Cond
item_shifted b at w = draft b pending.Items

-- a token after `label` as an item
abbrev pub labelled_shifted : BuiltForm → ℕ → ℕ → Lexeme → DraftForm
labelled_shifted b from at (lexeme.Var name) = with_item b (item.LabelOf (record { at = from; var = var_at at name; group = None }))
labelled_shifted b from at w = draft b (pending.Labelled from)

-- an item with a group label
abbrev pub item_with : ItemText → GroupForm → ItemText
item_with (item.Element e) g =
    item.Element (record { at = e.at; name = e.name; contents = e.contents; close_at = e.close_at; close_name = e.close_name; group = Some g })
item_with (item.Node s) g = item.Node (record { at = s.at; var = s.var; group = Some g })
item_with (item.LabelOf s) g = item.LabelOf (record { at = s.at; var = s.var; group = Some g })
item_with (item.Text l) g = item.Text l

-- the draft with one more key in the group label at hand
abbrev pub with_key : BuiltForm → ItemText → GroupForm → KeyText → DraftForm
with_key b i g k = draft b (pending.Keys i (record { at = g.at; keys = g.keys ++ k ∷ [] }))

-- a token inside a group label
abbrev pub keys_shifted : BuiltForm → ItemText → GroupForm → ℕ → Lexeme → DraftForm
keys_shifted b i g at (lexeme.Var name) = with_key b i g (keyed.Node (var_at at name))
keys_shifted b i g at (lexeme.Fixed mark.LabelWord) = draft b (pending.KeyLabel i g)
keys_shifted b i g at (lexeme.Fixed mark.CloseBrace) = with_item b (item_with i g)
keys_shifted b i g at w = draft b (pending.Keys i g)

-- a token after `label` inside a group label
abbrev pub key_label_shifted : BuiltForm → ItemText → GroupForm → ℕ → Lexeme → DraftForm
key_label_shifted b i g at (lexeme.Var name) = with_key b i g (keyed.LabelOf (var_at at name))
key_label_shifted b i g at w = draft b (pending.KeyLabel i g)

-- a token where a condition begins
abbrev pub cond_shifted : BuiltForm → ℕ → Lexeme → DraftForm
cond_shifted b at (lexeme.Name name) = draft b (pending.CondFrom (begins.Source at name))
cond_shifted b at (lexeme.Var name) = draft b (pending.CondFrom (begins.Var (var_at at name)))
cond_shifted b at w = draft b pending.Cond

-- an operator after the first word of a condition
abbrev pub operator_after : StartText → Comparison → Pending
operator_after (begins.Var v) o = pending.Compared v o
operator_after (begins.Source at name) o = pending.CondFrom (begins.Source at name)

-- a token after the first word of a condition
abbrev pub from_shifted : BuiltForm → StartText → Lexeme → DraftForm
from_shifted b s (lexeme.Path p) = draft b (pending.CondPath s p)
from_shifted b s (lexeme.Operator o) = draft b (operator_after s o)
from_shifted b s w = draft b (pending.CondFrom s)

-- the draft with one more condition
abbrev pub with_cond : BuiltForm → CondText → DraftForm
with_cond b c = draft (record { open_elements = b.open_elements; items = b.items; conds = b.conds ++ c ∷ []; order = b.order }) pending.Done

-- the condition with a path that begins with this word
abbrev pub cond_by : StartText → Result Form PathLimit → VarText → CondText
cond_by (begins.Source at name) p v = condition.FromSource at name p v
cond_by (begins.Var u) p v = condition.FromVar u p v

-- the draft after a token that follows a path
abbrev pub path_shifted : BuiltForm → StartText → Result Form PathLimit → ℕ → Lexeme → DraftForm
path_shifted b s p at (lexeme.Var name) = with_cond b (cond_by s p (var_at at name))
path_shifted b s p at w = draft b (pending.CondPath s p)

-- a token after an operator
abbrev pub compared_shifted : BuiltForm → VarText → Comparison → ℕ → Lexeme → DraftForm
compared_shifted b v o at (lexeme.Var name) = with_cond b (condition.Compare v o (operand.Var (var_at at name)))
compared_shifted b v o at (lexeme.Quoted label) = with_cond b (condition.Compare v o (operand.Text label))
compared_shifted b v o at w = draft b (pending.Compared v o)

-- an order with DESC after it
abbrev pub descended : Option OrderText → Option OrderText
descended None = None
descended (Some o) = Some (record { var = o.var; desc = true })

-- the draft with another order
abbrev pub with_order : BuiltForm → Option OrderText → DraftForm
with_order b o = draft (record { open_elements = b.open_elements; items = b.items; conds = b.conds; order = o }) pending.Done

-- a token after a condition
abbrev pub done_shifted : BuiltForm → ℕ → Lexeme → DraftForm
done_shifted b at (lexeme.Fixed mark.And) = draft b pending.Cond
done_shifted b at (lexeme.Var name) = with_order b (Some (record { var = var_at at name; desc = false }))
done_shifted b at (lexeme.Fixed mark.Desc) = with_order b (descended b.order)
done_shifted b at w = draft b pending.Done

-- a token by what is pending
abbrev pub shifted_by : BuiltForm → Pending → ℕ → Lexeme → DraftForm
shifted_by b pending.Items at w = item_shifted b at w
shifted_by b (pending.Labelled from) at w = labelled_shifted b from at w
shifted_by b (pending.Keys i g) at w = keys_shifted b i g at w
shifted_by b (pending.KeyLabel i g) at w = key_label_shifted b i g at w
shifted_by b pending.Cond at w = cond_shifted b at w
shifted_by b (pending.CondFrom s) at w = from_shifted b s w
shifted_by b (pending.CondPath s p) at w = path_shifted b s p at w
shifted_by b (pending.Compared v o) at w = compared_shifted b v o at w
shifted_by b pending.Done at w = done_shifted b at w

-- the draft after one more token, which stands at a place
abbrev pub shifted : DraftForm → ℕ → Lexeme → DraftForm
shifted d at w = shifted_by d.built d.pending at w
