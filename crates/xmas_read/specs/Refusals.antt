-- Why the tree of a rule's text is refused. Each kind of refusal is a list of the places where it stands, in the order of the text.
use Rattle.std.specs.Prelude.{ℕ, ◌+◌, Bool, true, false, cond, ◌&&◌, ◌||◌, nat_lt, List, [], ◌∷◌, ◌++◌, Option, Some, None, Result, Ok, Err, map, length, not, option_map}
use Rattle.std.specs.List.{list_any, filter}
use Rattle.std.specs.Str.{bytes_eq}
use Rattle.mix_base.specs.Groups.{firsts}
use Rattle.mix_tree.specs.Keys.{stands, collects, in_force}
use Rattle.mix_tree.specs.declared.var.Key.{Key}
use Rattle.mix_tree.specs.declared.var.Key.TheVariants.{Node as node_key, LabelOf as label_key}
use Rattle.path_expr.specs.Form.{Form}
use Rattle.xmas_text.specs.Groups.{GroupForm}
use Rattle.xmas_text.specs.Contents.{Leaf, node, label_of, text, Contents, nothing, element, leaf, ElementForm}
use Rattle.xmas_text.specs.declared.var.VarText.{VarText}
use Rattle.xmas_text.specs.declared.var.KeyText.{KeyText}
use Rattle.xmas_tokens.specs.declared.lexeme.PathLimit.{PathLimit}
use Rattle.xmas_tokens.specs.declared.lexeme.PathLimit.TheVariants.{Nesting as too_nested, Positions as too_many}
use Rattle.xmas_text.specs.declared.cond.CondText.{CondText}
use Rattle.xmas_text.specs.declared.cond.CondText.TheVariants as condition
use Rattle.xmas_rule.specs.Items as items
use Rattle.xmas_rule.specs.Rules.{RuleValue}
use Rattle.xmas_read.specs.declared.fault.Large.{Large}
use Rattle.xmas_read.specs.declared.fault.Large.TheVariants.{Items, Variables, Conditions, Nesting, Positions}
use Rattle.xmas_read.specs.declared.fault.XmasFault.{XmasFault}
use Rattle.xmas_read.specs.declared.fault.XmasFault.TheVariants.{TooLarge, TagDiffers, UnknownSource, BoundTwice, Unbound, OuterGroup, Loose}
use Rattle.xmas_read.specs.Tree.{Tree, vars_of, template_vars, operand_vars, order_vars, items_in, bound_var, bound_names}
use Rattle.xmas_read.specs.Value.{place_in, own_keys, items_value, rule_value}

-- whether a name is one of these
abbrev pub has_name : List (List ℕ) → List ℕ → Bool
has_name names n = list_any (λ m. bytes_eq m n) names

-- how many different variables stand in a rule, bound or not
abbrev pub different_vars : Tree → ℕ
different_vars t = length (firsts bytes_eq (map (λ v. v.name) (vars_of t)))

-- whether a path is nested too deep
abbrev pub is_nested : Result Form PathLimit → Bool
is_nested (Ok p) = false
is_nested (Err too_nested) = true
is_nested (Err too_many) = false

-- whether a path has too many label positions
abbrev pub has_many : Result Form PathLimit → Bool
has_many (Ok p) = false
has_many (Err too_nested) = false
has_many (Err too_many) = true

-- whether a condition has a path that passes a test
abbrev pub has_path : (Result Form PathLimit → Bool) → CondText → Bool
has_path test (condition.FromSource at source path var) = test path
has_path test (condition.FromVar start path var) = test path
has_path test (condition.Compare left op right) = false

-- the place, where the test fails
abbrev pub unless : Bool → ℕ → List ℕ
unless holds at = cond holds [] (at ∷ [])

-- the closing tags that have another name than their opening tags
abbrev pub differing_tags : Contents → List ℕ
differing_tags nothing = []
differing_tags (element tags inside after) = differing_tags inside ++ unless (bytes_eq tags.name tags.close_name) tags.close_at ++ differing_tags after
differing_tags (leaf i after) = differing_tags after

-- the closing tags of an element, its own included, that have another name than their opening tags
abbrev pub differing_in : ElementForm → List ℕ
differing_in e = differing_tags e.contents ++ unless (bytes_eq e.name e.close_name) e.close_at

-- the names of sources that there are not
abbrev pub unknown_sources : List (List ℕ) → List CondText → List ℕ
unknown_sources sources [] = []
unknown_sources sources (condition.FromSource at source path var ∷ conds) = unless (has_name sources source) at ++ unknown_sources sources conds
unknown_sources sources (condition.FromVar start path var ∷ conds) = unknown_sources sources conds
unknown_sources sources (condition.Compare left op right ∷ conds) = unknown_sources sources conds

-- the place of a variable that is bound, where it is bound already
abbrev pub again_at : List (List ℕ) → Option VarText → List ℕ
again_at earlier None = []
again_at earlier (Some v) = unless (not (has_name earlier v.name)) v.at

-- the names that are bound after a condition
abbrev pub with_bound : List (List ℕ) → Option VarText → List (List ℕ)
with_bound earlier None = earlier
with_bound earlier (Some v) = earlier ++ v.name ∷ []

-- the variables that a condition binds though an earlier one does; some are bound already
abbrev pub bound_again : List (List ℕ) → List CondText → List ℕ
bound_again earlier [] = []
bound_again earlier (c ∷ conds) = again_at earlier (bound_var c) ++ bound_again (with_bound earlier (bound_var c)) conds

-- the variables among these that no condition binds
abbrev pub unbound_vars : List (List ℕ) → List VarText → List ℕ
unbound_vars names [] = []
unbound_vars names (v ∷ vars) = unless (has_name names v.name) v.at ++ unbound_vars names vars

-- the variables that a condition uses and that none binds, or none before it where it starts from it
abbrev pub unbound_at : List (List ℕ) → List (List ℕ) → CondText → List ℕ
unbound_at names earlier (condition.FromSource at source path var) = []
unbound_at names earlier (condition.FromVar start path var) = unless (has_name earlier start.name) start.at
unbound_at names earlier (condition.Compare left op right) = unbound_vars names (left ∷ operand_vars right)

-- the variables that conditions use and that aren't bound in time, where some are bound already
abbrev pub unbound_in : List (List ℕ) → List (List ℕ) → List CondText → List ℕ
unbound_in names earlier [] = []
unbound_in names earlier (c ∷ conds) = unbound_at names earlier c ++ unbound_in names (with_bound earlier (bound_var c)) conds

-- the variables of a rule that aren't bound
abbrev pub unbound : Tree → List ℕ
unbound t =
    let names = bound_names t.conds in
    unbound_vars names (template_vars t.template) ++ unbound_in names [] t.conds ++ unbound_vars names (order_vars t.order)

-- the group label of the outer element, where it has keys
abbrev pub outer_keys : Option GroupForm → List ℕ
outer_keys None = []
outer_keys (Some g) = unless (nat_lt (length g.keys) 1) g.at

-- the keys of an item that holds no others
abbrev pub leaf_keys : List (List ℕ) → Leaf → List Key
leaf_keys names (node s) = own_keys names (node_key (place_in names s.var.name) ∷ []) s.group
leaf_keys names (label_of s) = own_keys names (label_key (place_in names s.var.name) ∷ []) s.group
leaf_keys names (text l) = []

-- the place of an item that shows what isn't in force there, its own keys included
abbrev pub loose_leaf : List (List ℕ) → List Key → Leaf → List ℕ
loose_leaf names force (node s) = unless (stands force (node_key (place_in names s.var.name))) s.at
loose_leaf names force (label_of s) = unless (stands force (label_key (place_in names s.var.name))) s.at
loose_leaf names force (text l) = []

-- the items that show what isn't in force
abbrev pub loose_items : List (List ℕ) → List Key → Contents → List ℕ
loose_items names force nothing = []
loose_items names force (element tags inside after) =
    loose_items names (in_force force (own_keys names [] tags.group)) inside ++ loose_items names force after
loose_items names force (leaf i after) = loose_leaf names (in_force force (leaf_keys names i)) i ++ loose_items names force after

-- the first of places, where there is one
abbrev pub first_in : List ℕ → Option ℕ
first_in [] = None
first_in (at ∷ places) = Some at

-- the first of places, as a refusal
abbrev pub first_place : (ℕ → XmasFault) → List ℕ → Option XmasFault
first_place fault places = option_map fault (first_in places)

-- the refusal for too much of something, where there is too much
abbrev pub too_large : Bool → Large → Option XmasFault
too_large is what = cond is (Some (TooLarge what)) None

-- the first refusal of some
abbrev pub first_of : List (Option XmasFault) → Option XmasFault
first_of [] = None
first_of (None ∷ faults) = first_of faults
first_of (Some e ∷ faults) = Some e

-- the refusals of a tree for what it has too much of
abbrev pub size_refusals : Tree → List (Option XmasFault)
size_refusals t =
    too_large (nat_lt 1000 (items_in t.template.contents)) Items
    ∷ too_large (nat_lt 60 (different_vars t)) Variables
    ∷ too_large (nat_lt 100 (length t.conds)) Conditions
    ∷ too_large (list_any (has_path is_nested) t.conds) Nesting
    ∷ too_large (list_any (has_path has_many) t.conds) Positions
    ∷ []

-- the refusals of a tree for tags that differ, sources that there are not, and variables out of scope
abbrev pub scope_refusals : List (List ℕ) → Tree → List (Option XmasFault)
scope_refusals sources t =
    first_place TagDiffers (differing_in t.template)
    ∷ first_place UnknownSource (unknown_sources sources t.conds)
    ∷ first_place BoundTwice (bound_again [] t.conds)
    ∷ first_place Unbound (unbound t)
    ∷ []

-- the refusals of a tree for keys of the outer element, and for loose items
abbrev pub template_refusals : Tree → List (Option XmasFault)
template_refusals t =
    let names = bound_names t.conds in
    first_place OuterGroup (outer_keys t.template.group)
    ∷ first_place Loose (loose_items names [] t.template.contents)
    ∷ []

-- the refusals of a tree over sources of these names, in the order in which one goes before another
abbrev pub refusals : List (List ℕ) → Tree → List (Option XmasFault)
refusals sources t = size_refusals t ++ (scope_refusals sources t ++ template_refusals t)

-- a tree without a refusal stands for its rule
abbrev pub or_rule : Option XmasFault → RuleValue → Result RuleValue XmasFault
or_rule None r = Ok r
or_rule (Some e) r = Err e

-- what comes of a tree: its rule, or the first refusal
abbrev pub checked : List (List ℕ) → Tree → Result RuleValue XmasFault
checked sources t = or_rule (first_of (refusals sources t)) (rule_value sources t)
