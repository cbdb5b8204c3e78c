-- The draft of what has been read up to a spot.
use Rattle.std.specs.Prelude.{ℕ, ◌+◌, length, List, [], ◌∷◌, Option, None}
use Rattle.mix_tree.specs.LabelGrammar.{meaning}
use Rattle.xmas_text.specs.declared.cond.CondText.{CondText}
use Rattle.xmas_text.specs.declared.element.ItemText.{ItemText}
use Rattle.xmas_text.specs.declared.element.ItemText.TheVariants as item
use Rattle.xmas_text.specs.declared.rule.OrderText.{OrderText}
use Rattle.xmas_text.specs.declared.draft.StartText.{StartText}
use Rattle.xmas_text.specs.declared.draft.StartText.TheVariants as begins
use Rattle.xmas_text.specs.declared.draft.Pending.TheVariants as pending
use Rattle.xmas_text.specs.Groups.{GroupForm}
use Rattle.xmas_text.specs.Elements.{contents_of}
use Rattle.xmas_text.specs.Grammar.{Keys, Items, nothing, variable, literal, element, items_text, conds_text, construct_text, where_text}
use Rattle.xmas_text.specs.Spots.{Frame, Head, Before, first_cond, also_cond, Start, by_name, by_var, Spot, beginning, items, labelled, keys, key_comma, key_label, cond_start, cond_from, cond_path, cond_done, compared, ordering, ordering_by, sorted}
use Rattle.xmas_text.specs.Parsed.{var_at, keys_at, shown_at, close_place, items_at, conds_at, order_at}
use Rattle.xmas_tokens.specs.Lexemes.{path_form}
use Rattle.xmas_text.specs.Drafts.{OpenForm, BuiltForm, DraftForm, empty}
use Rattle.xmas_text.specs.Shifted.{draft}

-- where the items of the innermost open element begin, or the template
abbrev pub level_place : List ℕ → List Frame → ℕ
level_place lead [] = length lead + length construct_text
level_place lead (f ∷ o) = level_place lead o + length (items_text f.before) + length f.gap + 1 + length f.name + 1

-- the open elements of a spot as the draft keeps them, the innermost first
abbrev pub opens_at : List ℕ → List Frame → List OpenForm
opens_at lead [] = []
opens_at lead (f ∷ o) =
    record { at = level_place lead o + length (items_text f.before) + length f.gap; name = f.name; before = items_at (level_place lead o) f.before } ∷ opens_at lead o

-- the items before the last one
abbrev pub prefix_at : ℕ → Items → List ItemText
prefix_at at nothing = []
prefix_at at (variable before g k e) = items_at at before
prefix_at at (literal before g ps) = items_at at before
prefix_at at (element before g name inside h close e) = items_at at before

-- the last item, without its group label
abbrev pub last_at : ℕ → Items → ItemText
last_at at nothing = item.Text []
last_at at (variable before g k e) = shown_at (at + length (items_text before) + length g) k None
last_at at (literal before g ps) = item.Text (meaning ps)
last_at at (element before g name inside h close e) =
    let here = at + length (items_text before) + length g in
    item.Element (record { at = here; name = name; contents = contents_of (items_at (here + 1 + length name + 1) inside); close_at = close_place here name inside h; close_name = close; group = None })

-- where a group label begins
abbrev pub brace_place : List ℕ → List Frame → Items → List ℕ → ℕ
brace_place lead o xs g = level_place lead o + length (items_text xs) + length g

-- a group label that has not ended
abbrev pub group_so_far : List ℕ → List Frame → Items → List ℕ → Keys → GroupForm
group_so_far lead o xs g ks = record { at = brace_place lead o xs g; keys = keys_at (brace_place lead o xs g + 1) ks }

-- where the conditions begin after what stands before them
abbrev pub head_place : Head → ℕ
head_place r = length r.lead + length construct_text + length (items_text r.template) + length r.gap + length where_text

-- where a condition begins, with the gap before it
abbrev pub before_place : ℕ → Before → ℕ
before_place at first_cond = at
before_place at (also_cond cs g) = at + length (conds_text cs) + length g + 3

-- the conditions that stand before the one at hand
abbrev pub conds_before : ℕ → Before → List CondText
conds_before at first_cond = []
conds_before at (also_cond cs g) = conds_at at cs

-- what a condition begins with
abbrev pub start_at : ℕ → Start → StartText
start_at at (by_name n) = begins.Source at n
start_at at (by_var v) = begins.Var (var_at at v)

-- what has been read whole inside the template
abbrev pub in_template : List ℕ → List Frame → List ItemText → BuiltForm
in_template lead o is = record { open_elements = opens_at lead o; items = is; conds = []; order = None }

-- what has been read whole after WHERE
abbrev pub in_conds : Head → List CondText → Option OrderText → BuiltForm
in_conds r cs o = record { open_elements = []; items = items_at (length r.lead + length construct_text) r.template; conds = cs; order = o }

-- the draft of what has been read up to a spot
abbrev pub draft_of : Spot → DraftForm
draft_of beginning = empty
draft_of (items lead o xs) = draft (in_template lead o (items_at (level_place lead o) xs)) pending.Items
draft_of (labelled lead o xs g) = draft (in_template lead o (items_at (level_place lead o) xs)) (pending.Labelled (brace_place lead o xs g))
draft_of (keys lead o xs g ks) =
    draft (in_template lead o (prefix_at (level_place lead o) xs)) (pending.Keys (last_at (level_place lead o) xs) (group_so_far lead o xs g ks))
draft_of (key_comma lead o xs g ks h) =
    draft (in_template lead o (prefix_at (level_place lead o) xs)) (pending.Keys (last_at (level_place lead o) xs) (group_so_far lead o xs g ks))
draft_of (key_label lead o xs g ks p h) =
    draft (in_template lead o (prefix_at (level_place lead o) xs)) (pending.KeyLabel (last_at (level_place lead o) xs) (group_so_far lead o xs g ks))
draft_of (cond_start r b) = draft (in_conds r (conds_before (head_place r) b) None) pending.Cond
draft_of (cond_from r b g s) = draft (in_conds r (conds_before (head_place r) b) None) (pending.CondFrom (start_at (before_place (head_place r) b + length g) s))
draft_of (cond_path r b g s h p) =
    draft (in_conds r (conds_before (head_place r) b) None) (pending.CondPath (start_at (before_place (head_place r) b + length g) s) (path_form p))
draft_of (compared r b g v h o) =
    draft (in_conds r (conds_before (head_place r) b) None) (pending.Compared (var_at (before_place (head_place r) b + length g) v) o)
draft_of (cond_done r cs) = draft (in_conds r (conds_at (head_place r) cs) None) pending.Done
draft_of (ordering r cs g) = draft (in_conds r (conds_at (head_place r) cs) None) pending.Done
draft_of (ordering_by r cs g h) = draft (in_conds r (conds_at (head_place r) cs) None) pending.Done
draft_of (sorted r cs o) = draft (in_conds r (conds_at (head_place r) cs) (order_at (head_place r + length (conds_text cs)) o)) pending.Done
