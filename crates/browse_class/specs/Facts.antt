-- What is known of an operator's events from the plan and the layouts of its sources: their profile, how the trees below the nodes of its
-- variables are laid out, the profiles of its lists, keys by which no two of its bindings agree, and its levels.
use Rattle.std.specs.Prelude.{ℕ, true, cond, not, ◌||◌, List, [], ◌∷◌, ◌++◌, ◌==◌, Option, Some, None, length, Bool}
use Rattle.mix_tree.specs.declared.var.Key.{Key}
use Rattle.mix_tree.specs.declared.var.Key.TheVariants.{Node as node_key}
use Rattle.mix_tree.specs.declared.comparing.Test.{Test}
use Rattle.path_expr.specs.Form.{Form}
use Rattle.plan_core.specs.declared.plan.Piece.{Piece}
use Rattle.plan_core.specs.declared.plan.Piece.TheVariants.{Var as var_piece, LabelOf as label_piece, Text as text_piece}
use Rattle.plan_core.specs.ByNumber.{by_number}
use Rattle.plan_core.specs.Fronts.{Front, front, shared, covers, are_contiguous}
use Rattle.plan_core.specs.Plans.{Operator}
use Rattle.plan_core.specs.Shapes.{Made, a_list_of, an_element_of, Stage, filters, extends, first_by_keys, one_group, in_order, Shape, one_source, visits_below, pairs_up, passes_on, no_events, shape_of}
use Rattle.plan_core.specs.Valid.{Kind, a_node, an_element, a_list, Kinds, kinds}
use Rattle.browse_profile.specs.declared.profile.Profile.{Profile}
use Rattle.browse_profile.specs.declared.profile.Most.TheVariants.{Once, Many}
use Rattle.browse_profile.specs.Bounds.{larger}
use Rattle.browse_profile.specs.Profiles.{one_skip, one_binding, costless, unbounded, in_turn, replaced, passed, first_kept, many}
use Rattle.browse_visit.specs.Laid.{path_profile, path_layouts}
use Rattle.browse_visit.specs.Layouts.{Layout}
use Rattle.browse_class.specs.Levels.{with_zero, own_level, visits_level, pairs_level}

-- what is known of an operator: layouts and lists by variable, levels by number
pub record Facts : Type 0 where
  pub profile : Profile
  pub layouts : ℕ → List Layout
  pub lists : ℕ → Profile
  pub keys : List Key
  pub levels : ℕ → Profile

-- a function with one value more, for a variable
abbrev pub with_at : {A : Type 0} → ℕ → A → (ℕ → A) → ℕ → A
with_at v a f w = cond (v == w) a (f w)

-- of two things the first where the left side of a join binds the variable, else the second
abbrev pub of_side : {A : Type 0} → Option Kind → A → A → A
of_side None a b = b
of_side (Some k) a b = a

-- the facts of no operator: nothing is known
abbrev pub no_facts : Facts
no_facts = record { profile = costless; layouts = λ v. []; lists = λ v. costless; keys = []; levels = with_zero costless (λ j. unbounded) }

-- the profile of the visit along a path below nodes that are laid out by one of some layouts, after the skip for its start
abbrev pub visit_below : Form → List Layout → Profile
visit_below path gs = in_turn one_skip (path_profile path gs)

-- the profile of the events that comparisons leave: where there are any, bindings may be passed over
abbrev pub tested : List Test → Profile → Profile
tested [] p = p
tested (t ∷ tests) p = passed p

-- bindings whose keys were seen are passed over, unless no two can agree; where those that agree stand side by side, the first of each are a level
abbrev pub distinct_profile : List Key → List ℕ → Facts → Profile
distinct_profile keys vars f =
    cond (not (many f.profile.most) || covers keys f.keys) f.profile
    (cond (are_contiguous keys vars) (f.levels (length (shared keys vars))) (first_kept f.profile))

-- the profile of a list that stands at its first item, of which no more is known
abbrev pub open_list : Profile
open_list = record { lead = Some 0; between = None; trail = None; none = Some 0; all = None; sure = true; most = Many }

-- the profile of a list that ends at the first other binding
abbrev pub run_list : Profile → Profile
run_list p = record { lead = Some 0; between = p.between; trail = larger p.between p.trail; none = Some 0; all = None; sure = true; most = Many }

-- the profile of a list that stands at its single item
abbrev pub single_list : Profile → Profile
single_list p = record { lead = Some 0; between = Some 0; trail = p.trail; none = Some 0; all = None; sure = true; most = Once }

-- the list of a group by keys, which stands at its first member; where it stops, it ends at the first other binding
abbrev pub group_profile : Bool → Profile → Profile
group_profile stops p = cond (many p.most) (cond stops (run_list p) open_list) (single_list p)

-- the profile of an item by itself
abbrev pub one_item : Profile
one_item = record { lead = Some 0; between = Some 0; trail = Some 0; none = Some 0; all = None; sure = true; most = Once }

-- the profile of the trees of a value of a kind
abbrev pub kind_profile : Option Kind → Profile → Profile
kind_profile None p = one_item
kind_profile (Some a_node) p = one_item
kind_profile (Some an_element) p = one_item
kind_profile (Some a_list) p = p

-- the profile of the trees of a piece
abbrev pub piece_profile : Kinds → (ℕ → Profile) → Piece → Profile
piece_profile kinds lists (label_piece v) = one_item
piece_profile kinds lists (text_piece label) = one_item
piece_profile kinds lists (var_piece v) = kind_profile (kinds v) (lists v)

-- the profile of the trees of pieces, one after another, after others
abbrev pub pieces_from : Profile → Kinds → (ℕ → Profile) → List Piece → Profile
pieces_from before kinds lists [] = before
pieces_from before kinds lists (p ∷ pieces) = pieces_from (in_turn before (piece_profile kinds lists p)) kinds lists pieces

-- the profile of the trees of pieces, one after another
abbrev pub pieces_profile : Kinds → (ℕ → Profile) → List Piece → Profile
pieces_profile kinds lists pieces = pieces_from costless kinds lists pieces

-- the profile of the list that is made of pieces; that of an element says nothing
abbrev pub made_profile : Kinds → (ℕ → Profile) → Made → Profile
made_profile kinds lists (a_list_of pieces) = pieces_profile kinds lists pieces
made_profile kinds lists (an_element_of label list) = costless

-- the first bindings by keys, over events with a front of these variables, with these lists and layouts
abbrev pub kept_facts : List Key → List ℕ → Facts → (ℕ → List Layout) → (ℕ → Profile) → Facts
kept_facts keys vars f layouts lists =
    record { profile = distinct_profile keys vars f; layouts = layouts; lists = lists; keys = keys; levels = with_zero (distinct_profile keys vars f) f.levels }

-- the facts after a stage, over events with a front of these variables
abbrev pub stage_facts : Stage → Kinds → List ℕ → Facts → Facts
stage_facts (filters test) kinds vars f =
    record { profile = passed f.profile; layouts = f.layouts; lists = f.lists; keys = f.keys; levels = with_zero (passed f.profile) (λ j. own_level (passed f.profile)) }
stage_facts (extends out made) kinds vars f =
    record {
      profile = f.profile;
      layouts = with_at out [] f.layouts;
      lists = with_at out (made_profile kinds f.lists made) f.lists;
      keys = f.keys;
      levels = with_zero f.profile f.levels;
    }
stage_facts (first_by_keys keys None) kinds vars f = kept_facts keys vars f f.layouts f.lists
stage_facts (first_by_keys keys (Some group)) kinds vars f =
    kept_facts keys vars f (with_at group.1 [] f.layouts) (with_at group.1 (group_profile (are_contiguous keys vars) f.profile) f.lists)
stage_facts (one_group piece out) kinds vars f =
    record { profile = one_binding; layouts = with_at out [] f.layouts; lists = with_at out f.profile f.lists; keys = []; levels = with_zero one_binding (λ j. unbounded) }
stage_facts (in_order v desc) kinds vars f =
    record { profile = unbounded; layouts = f.layouts; lists = f.lists; keys = f.keys; levels = with_zero unbounded (λ j. unbounded) }

-- the profile of the visits below the bindings of an operator's events
abbrev pub visits_profile : Form → ℕ → Facts → Profile
visits_profile path start f = replaced f.profile (visit_below path (f.layouts start))

-- the facts of visits below the bindings of an input with this front
abbrev pub visits_facts : ℕ → Form → ℕ → Front → Facts → Facts
visits_facts start path out fr f =
    record {
      profile = visits_profile path start f;
      layouts = with_at out (path_layouts path (f.layouts start)) f.layouts;
      lists = with_at out costless f.lists;
      keys = f.keys ++ node_key out ∷ [];
      levels = with_zero (visits_profile path start f) (visits_level (length fr.vars) fr.whole (visits_profile path start f) f.profile (visit_below path (f.layouts start)));
    }

-- the profile of the pairs of two sides: the right side beside each left binding
abbrev pub beside_profile : Facts → Facts → Profile
beside_profile f g = replaced f.profile (in_turn one_skip g.profile)

-- the levels of pairs, of which the left side has this front
abbrev pub join_levels : List Test → Front → Facts → Facts → ℕ → Profile
join_levels [] fr f g = with_zero (beside_profile f g) (pairs_level (length fr.vars) fr.whole f.profile g.levels)
join_levels (t ∷ tests) fr f g = with_zero (passed (beside_profile f g)) (λ j. own_level (passed (beside_profile f g)))

-- the facts of a join, of which the left side has this front
abbrev pub pairs_facts : List Test → Kinds → Front → Facts → Facts → Facts
pairs_facts tests kinds fr f g =
    record {
      profile = tested tests (beside_profile f g);
      layouts = λ v. of_side (kinds v) (f.layouts v) (g.layouts v);
      lists = λ v. of_side (kinds v) (f.lists v) (g.lists v);
      keys = f.keys ++ g.keys;
      levels = join_levels tests fr f g;
    }

-- the facts of a source with a given layout
abbrev pub source_facts : Layout → ℕ → Facts
source_facts g out =
    record { profile = one_binding; layouts = with_at out (g ∷ []) (λ v. []); lists = λ v. costless; keys = []; levels = with_zero one_binding (λ j. unbounded) }

-- what is known of a shape, from what is known of its inputs
abbrev pub shape_facts : (ℕ → Layout) → (ℕ → Kinds) → (ℕ → Front) → Shape → (ℕ → Facts) → Facts
shape_facts shapes kinds_of fronts (one_source s out) of = source_facts (shapes s) out
shape_facts shapes kinds_of fronts (visits_below input start path out) of = visits_facts start path out (fronts input) (of input)
shape_facts shapes kinds_of fronts (pairs_up left right tests) of = pairs_facts tests (kinds_of left) (fronts left) (of left) (of right)
shape_facts shapes kinds_of fronts (passes_on input stage) of = stage_facts stage (kinds_of input) (fronts input).vars (of input)
shape_facts shapes kinds_of fronts (no_events input made) of = no_facts

-- the facts of an operator, from those of its inputs
abbrev pub op_facts : (ℕ → Layout) → (ℕ → Kinds) → (ℕ → Front) → Operator → (ℕ → Facts) → Facts
op_facts shapes kinds_of fronts op of = shape_facts shapes kinds_of fronts (shape_of op) of

-- what is known of operator n
unfoldable pub facts : (ℕ → Layout) → List Operator → ℕ → Facts
facts shapes ops n = by_number (op_facts shapes (kinds ops) (front ops)) no_facts ops n
