-- A rule that is being built, as a value.
use Rattle.std.specs.Prelude.{ℕ, List, [], map, reverse, Option, None}
use Rattle.xmas_text.specs.declared.cond.CondText.{CondText}
use Rattle.xmas_text.specs.declared.element.ItemText.{ItemText}
use Rattle.xmas_text.specs.declared.rule.OrderText.{OrderText}
use Rattle.xmas_text.specs.declared.draft.OpenElement.{OpenElement}
use Rattle.xmas_text.specs.declared.draft.Pending.{Pending}
use Rattle.xmas_text.specs.declared.draft.Pending.TheVariants as pending
use Rattle.xmas_text.specs.declared.draft.Built.{Built}
use Rattle.xmas_text.specs.declared.draft.Draft.{Draft}

-- an element whose closing tag has not come: its place, its name, and the items before it
pub record OpenForm : Type 0 where
  pub at : ℕ
  pub name : List ℕ
  pub before : List ItemText

-- what has been read whole: the open elements, the innermost first, the items inside that one, the conditions, and the order
pub record BuiltForm : Type 0 where
  pub open_elements : List OpenForm
  pub items : List ItemText
  pub conds : List CondText
  pub order : Option OrderText

-- a rule that is being built: what has been read whole, and the part at hand
pub record DraftForm : Type 0 where
  pub built : BuiltForm
  pub pending : Pending

-- an open element of the code
abbrev pub open_in : OpenElement → OpenForm
open_in e = record { at = e.at; name = e.name; before = e.before.items }

-- what the code has read whole
abbrev pub built_in : Built → BuiltForm
built_in b = record { open_elements = reverse (map open_in b.open.items); items = b.items.items; conds = b.conds.items; order = b.order }

-- a draft of the code, as a value
abbrev pub draft_in : Draft → DraftForm
draft_in d = record { built = built_in d.built; pending = d.pending }

-- the draft before a text
abbrev pub empty : DraftForm
empty = record { built = record { open_elements = []; items = []; conds = []; order = None }; pending = pending.Items }
