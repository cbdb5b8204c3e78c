-- What is known of an operator from what is known of those before it.
use Rattle.std.specs.Prelude.{ℕ, ◌≤◌, Bool, false, cond, not, ◌||◌, ◌==◌, List, [], ◌∷◌, ◌++◌, length, slice_index_or, Option, Some, None}
use Rattle.mix_tree.specs.declared.var.Key.{Key}
use Rattle.mix_tree.specs.declared.var.Key.TheVariants.{Node as node_key}
use Rattle.mix_tree.specs.declared.comparing.Test.{Test}
use Rattle.path_expr.specs.Form.{Form, positions_in}
use Rattle.path_auto.specs.Automaton.{Machine, machine_of, table_of}
use Rattle.plan_core.specs.declared.plan.Piece.{Piece}
use Rattle.plan_core.specs.declared.plan.Piece.TheVariants.{Var as var_piece, LabelOf as label_piece, Text as text_piece}
use Rattle.plan_core.specs.Fronts.{Front, shared, covers, are_contiguous}
use Rattle.plan_core.specs.Plans.{Operator}
use Rattle.plan_core.specs.Shapes.{Made, a_list_of, an_element_of, Stage, filters, extends, first_by_keys, one_group, in_order, Shape, one_source, visits_below, pairs_up, passes_on, no_events, shape_of}
use Rattle.browse_profile.specs.declared.profile.Profile.{Profile}
use Rattle.browse_profile.specs.Profiles.{one_skip, one_binding, costless, unbounded, in_turn, replaced, passed, first_kept, many}
use Rattle.browse_visit.specs.declared.shape.Shape.{Shape as SourceShape}
use Rattle.browse_visit.specs.declared.shape.Sorts.{Sorts}
use Rattle.browse_visit.specs.Found.{sorts_found, sorts_profile}
use Rattle.browse_visit.specs.Samples.{sample_labels}
use Rattle.browse_visit.specs.Shapes.{shape_at, first_sort, no_sorts, only}
use Rattle.browse_class.specs.Facts.{one_item, tested, group_profile}
use Rattle.browse_class.specs.Levels.{own_level}
use Rattle.plan_class.specs.declared.domain.Domain.{Domain}
use Rattle.plan_class.specs.declared.visit.Visit.{Visit}
use Rattle.plan_class.specs.LevelLists.{Levels, level_in, same_levels, with_first, beside, visit_levels, pair_levels}

-- what is known of an operator: its profile, what it binds anew and what its values can be, keys by which no two bindings agree, its levels
pub record Known : Type 0 where
  pub profile : Profile
  pub out : Option ℕ
  pub domain : Domain
  pub keys : List Key
  pub levels : Levels

-- the values of a variable that are nodes of a source
abbrev pub node_domain : ℕ → Sorts → Domain
node_domain source sorts = record { source = source; sorts = sorts; trees = one_item }

-- the domain of a variable whose values are no nodes, with such trees
abbrev pub value_domain : Profile → Domain
value_domain trees = record { source = 0; sorts = no_sorts; trees = trees }

-- what is known of an operator that binds no variable anew, with these levels after level 0
abbrev pub known_with : Profile → List Key → Levels → Known
known_with p keys levels = record { profile = p; out = None; domain = value_domain one_item; keys = keys; levels = with_first p levels }

-- what is known of an operator, with a variable that it binds anew, and its domain
abbrev pub binding : ℕ → Domain → Known → Known
binding out domain k = record { profile = k.profile; out = Some out; domain = domain; keys = k.keys; levels = k.levels }

-- what is known of no operator: nothing
abbrev pub no_known : Known
no_known = record { profile = costless; out = None; domain = value_domain one_item; keys = []; levels = same_levels unbounded }

-- what is known of the operator of a number
abbrev pub known_at : List Known → ℕ → Known
known_at known n = slice_index_or known n no_known

-- a variable is the one that is bound anew
abbrev pub binds : Option ℕ → ℕ → Bool
binds None v = false
binds (Some out) v = out == v

-- what the values of a variable can be, by the first operator that binds it anew
abbrev pub domain_of : List Known → ℕ → Domain
domain_of [] v = value_domain one_item
domain_of (k ∷ known) v = cond (binds k.out v) k.domain (domain_of known v)

-- the visit by a path's automaton below nodes of a source of this shape, after the skip for its start
abbrev pub visit_in : Machine → List (List ℕ) → SourceShape → Domain → Visit
visit_in m labels shape start = record {
  profile = in_turn one_skip (sorts_profile m labels shape start.sorts);
  found = node_domain start.source (sorts_found m labels shape start.sorts);
}

-- the visit along a path below nodes of a domain
abbrev pub visit_along : List SourceShape → Form → Domain → Visit
visit_along shapes path start = visit_in (machine_of (table_of path)) (sample_labels (table_of path).labels) (shape_at shapes start.source) start

-- what is known of a source
abbrev pub source_known : List SourceShape → ℕ → ℕ → Known
source_known shapes s out = binding out (node_domain s (only (first_sort (shape_at shapes s)))) (known_with one_binding [] (same_levels unbounded))

-- what is known of visits below each binding of an input with a front of m variables
abbrev pub visits_known : ℕ → Visit → ℕ → Bool → Known → Known
visits_known out visit m whole input =
    binding out visit.found
    (known_with (replaced input.profile visit.profile) (input.keys ++ node_key out ∷ []) (visit_levels m whole input.profile visit.profile))

-- the levels of pairs that are compared, which are others where there are no comparisons
abbrev pub tested_levels : List Test → Profile → Levels → Levels
tested_levels [] p levels = levels
tested_levels (t ∷ tests) p levels = same_levels (own_level p)

-- what is known of a join, of which the left side has a front of m variables
abbrev pub pairs_known : List Test → ℕ → Bool → Known → Known → Known
pairs_known tests m whole left right =
    let p = tested tests (beside left.profile right.profile) in
    known_with p (left.keys ++ right.keys) (tested_levels tests p (pair_levels m whole left.profile right.levels))

-- what is known after a comparison
abbrev pub selected_known : Known → Known
selected_known input = known_with (passed input.profile) input.keys (same_levels (own_level (passed input.profile)))

-- what is known after an order
abbrev pub ordered_known : Known → Known
ordered_known input = known_with unbounded input.keys (same_levels unbounded)

-- what is known with one variable more, whose values have such trees
abbrev pub extended_known : ℕ → Profile → Known → Known
extended_known out trees input = binding out (value_domain trees) (known_with input.profile input.keys input.levels)

-- the profile where bindings whose keys were seen are passed over
abbrev pub distinct_known : List Key → List ℕ → Known → Profile
distinct_known keys vars input =
    cond (not (many input.profile.most) || covers keys input.keys) input.profile
    (cond (are_contiguous keys vars) (level_in input.levels (length (shared keys vars))) (first_kept input.profile))

-- what is known of the first bindings by keys
abbrev pub kept_known : List Key → List ℕ → Known → Known
kept_known keys vars input = known_with (distinct_known keys vars input) keys input.levels

-- what is known of the groups by keys, each with its list
abbrev pub grouped_known : List Key → List ℕ → ℕ → Known → Known
grouped_known keys vars out input = binding out (value_domain (group_profile (are_contiguous keys vars) input.profile)) (kept_known keys vars input)

-- what is known of one group of all, with its list
abbrev pub group_known : ℕ → Known → Known
group_known out input = binding out (value_domain input.profile) (known_with one_binding [] (same_levels unbounded))

-- the profile of the trees of a piece, where the values of variables can be these
abbrev pub piece_known : (ℕ → Domain) → Piece → Profile
piece_known domains (label_piece v) = one_item
piece_known domains (text_piece label) = one_item
piece_known domains (var_piece v) = (domains v).trees

-- the trees of the pieces, one after another, after others
abbrev pub pieces_known : (ℕ → Domain) → Profile → List Piece → Profile
pieces_known domains before [] = before
pieces_known domains before (p ∷ pieces) = pieces_known domains (in_turn before (piece_known domains p)) pieces

-- the trees of what is made
abbrev pub made_known : (ℕ → Domain) → Made → Profile
made_known domains (a_list_of pieces) = pieces_known domains costless pieces
made_known domains (an_element_of label list) = one_item

-- what is known after a stage, over an input with a front of these variables
abbrev pub stage_known : (ℕ → Domain) → Stage → List ℕ → Known → Known
stage_known domains (filters test) vars input = selected_known input
stage_known domains (extends out made) vars input = extended_known out (made_known domains made) input
stage_known domains (first_by_keys keys None) vars input = kept_known keys vars input
stage_known domains (first_by_keys keys (Some group)) vars input = grouped_known keys vars group.1 input
stage_known domains (one_group piece out) vars input = group_known out input
stage_known domains (in_order v desc) vars input = ordered_known input

-- what is known of an operator without events
abbrev pub ended_known : Known
ended_known = known_with costless [] (same_levels unbounded)

-- what is known after a shape with one input, which has a front of these variables; of any other shape, no events
abbrev pub over_known : (ℕ → Domain) → List ℕ → Known → Shape → Known
over_known domains vars input (one_source s out) = ended_known
over_known domains vars input (visits_below i start path out) = ended_known
over_known domains vars input (pairs_up left right tests) = ended_known
over_known domains vars input (passes_on i stage) = stage_known domains stage vars input
over_known domains vars input (no_events i made) = ended_known

-- what is known of a shape, from what the values of variables can be and what is known of its inputs
abbrev pub shape_known : List SourceShape → (ℕ → Front) → (ℕ → Domain) → (ℕ → Known) → Shape → Known
shape_known shapes fronts domains at (one_source s out) = source_known shapes s out
shape_known shapes fronts domains at (visits_below input start path out) =
    visits_known out (visit_along shapes path (domains start)) (length (fronts input).vars) (fronts input).whole (at input)
shape_known shapes fronts domains at (pairs_up left right tests) = pairs_known tests (length (fronts left).vars) (fronts left).whole (at left) (at right)
shape_known shapes fronts domains at (passes_on input stage) = stage_known domains stage (fronts input).vars (at input)
shape_known shapes fronts domains at (no_events input made) = ended_known

-- what is known of an operator, from what is known of those before it
abbrev pub op_known : List SourceShape → (ℕ → Front) → List Known → Operator → Known
op_known shapes fronts known op = shape_known shapes fronts (domain_of known) (known_at known) (shape_of op)

-- a shape's path is short enough for an automaton
abbrev pub IsShortShape : Shape → Type 0
IsShortShape (one_source s out) = Unit {0}
IsShortShape (visits_below input start path out) = positions_in path ≤ 120
IsShortShape (pairs_up left right tests) = Unit {0}
IsShortShape (passes_on input stage) = Unit {0}
IsShortShape (no_events input made) = Unit {0}

-- an operator's path, if it has one, is short enough for an automaton
abbrev pub IsShort : Operator → Type 0
IsShort op = IsShortShape (shape_of op)
