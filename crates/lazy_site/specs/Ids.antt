-- What an identifier stands for.
use Rattle.std.specs.Prelude.{◌≡◌, ℕ, suc, ◌+◌, ◌-◌, ◌<◌, ◌≤◌, IsTrue, Option, Some, None, List, length, drop, MatchOption}
use Rattle.mix_tree.specs.Forest.{first_kids, after_first}
use Rattle.mix_tree.specs.Nodes.{label_at, kids_at, label_of_first}
use Rattle.plan_core.specs.ByNumber.{op_at}
use Rattle.plan_core.specs.Tolled.{Tolled, ends, item, charged}
use Rattle.plan_core.specs.TolledRows.{TolledValue, of_source, element, trees, piece_items, all_items, collected}
use Rattle.plan_core.specs.Events.{RowEvents, tolled_document}
use Rattle.lazy_plan.specs.Bench.{BenchState, ops_of, documents, events_of, size_of, IsCursor, binding_at, ahead_at, number_at, IsSpotAt, node_at, trees_at_spot, after_at}
use Rattle.lazy_plan.specs.Groups.{IsGroup, group_ahead}
use Rattle.lazy_binding.specs.declared.position.Position.{Position}
use Rattle.plan_forms.specs.Forms.{Form, makes_list, makes_element, gathers_all, gathers_groups, form, input_at, pieces_of, label_in, piece_at, piece_of, text_of, is_text}
use Rattle.lazy_site.specs.Sizes.{pieces_count, size, extent}
use Rattle.lazy_site.specs.Ways.{IsWays}
use Rattle.lazy_site.specs.declared.sites.Origin.{Origin}
use Rattle.lazy_site.specs.declared.sites.Origin.TheVariants.{Node, Element, Joined, All, Group as Same}
use Rattle.lazy_site.specs.declared.sites.Head.{Head}
use Rattle.lazy_site.specs.declared.sites.Head.TheVariants.{Whole, Built, Leaf, Text}
use Rattle.lazy_site.specs.declared.sites.Rest.{Rest, End, Pieces', Members', Group'}
use Rattle.lazy_site.specs.declared.sites.Site.{Site}
use Rattle.lazy_site.specs.declared.sites.Site.TheVariants.{Root, Inside, Item}

-- LISTS AND ELEMENTS BY THEIR OPERATOR

-- the trees below the element that operator op makes over the binding at a cursor of its input
abbrev pub element_trees : BenchState → ℕ → Position → Tolled
element_trees st op at = piece_items (documents st) (piece_of (ops_of st) op) (binding_at st (input_at (ops_of st) op) at) (ends 0)

-- the trees of the pieces of concatenation op from number `next` on, over the binding at a cursor of its input, and the rest after them
abbrev pub pieces_trees : BenchState → ℕ → Position → ℕ → Tolled → Tolled
pieces_trees st op at next rest = all_items (documents st) (drop next (pieces_of (op_at (ops_of st) op))) (binding_at st (input_at (ops_of st) op) at) rest

-- the events of operator n after a cursor, or all of them where there is no cursor
abbrev pub ahead_from : BenchState → ℕ → Option Position → RowEvents
ahead_from st n None = events_of st n
ahead_from st n (Some c) = ahead_at st n c

-- the trees of the members of the list of all bindings that operator op makes, after a cursor, and the rest after them
abbrev pub members_trees : BenchState → ℕ → Option Position → Tolled → Tolled
members_trees st op at rest = collected (documents st) (piece_of (ops_of st) op) (ahead_from st (input_at (ops_of st) op) at) rest

-- the trees of the members of a group of operator op after a cursor, and the rest after them
abbrev pub group_trees : BenchState → ℕ → Position → Position → Tolled → Tolled
group_trees st op first at rest = collected (documents st) (piece_of (ops_of st) op) (group_ahead st op first at) rest

-- the trees of the member of a list or group of operator op at a cursor, and the rest after them
abbrev pub member_trees : BenchState → ℕ → Position → Tolled → Tolled
member_trees st op at rest = piece_items (documents st) (piece_of (ops_of st) op) (binding_at st (input_at (ops_of st) op) at) rest

-- operator op is of this form, and there is a cursor of its input
pub record Stands (st : BenchState) (op : ℕ) (f : Form) (at : Position) : Type 0 where
  pub within : op < length (ops_of st)
  pub is : form (op_at (ops_of st) op) ≡ f
  pub cursor : IsCursor st (input_at (ops_of st) op) at

-- operator op is a groupBy without keys
pub record GathersAll (st : BenchState) (op : ℕ) : Type 0 where
  pub within : op < length (ops_of st)
  pub is : form (op_at (ops_of st) op) ≡ gathers_all

-- WHERE A VALUE IS MADE

-- the value that is made at an origin
abbrev pub value_of : BenchState → Origin → TolledValue
value_of st (Node s p) = of_source (node_at st s p)
value_of st (Element op at) = element (label_in (op_at (ops_of st) op)) (element_trees st op at)
value_of st (Joined op at) = trees (pieces_trees st op at 0 (ends 0))
value_of st (All op) = trees (members_trees st op None (ends 0))
value_of st (Same op c number) = trees (member_trees st op c (group_trees st op c c (ends 0)))

-- an origin is one of the bench: its spot or cursor is one, and its operator is of the form that it names
abbrev pub IsOrigin : BenchState → Origin → Type 0
IsOrigin st (Node s p) = IsSpotAt st s p
IsOrigin st (Element op at) = Stands st op makes_element at
IsOrigin st (Joined op at) = Stands st op makes_list at
IsOrigin st (All op) = GathersAll st op
IsOrigin st (Same op c number) = Stands st op gathers_groups c × IsGroup st op number c c 0

-- IDENTIFIERS

-- the piece at an index of operator op is a text
pub record IsText (st : BenchState) (op index : ℕ) : Type 0 where
  pub within : op < length (ops_of st)
  pub piece : index < length (pieces_of (op_at (ops_of st) op))
  pub is : IsTrue (is_text (piece_at (ops_of st) op index))

-- the label of a node
abbrev pub head_label : BenchState → Head → List ℕ
head_label st (Whole s p) = label_at (documents st) (node_at st s p)
head_label st (Built op at) = label_in (op_at (ops_of st) op)
head_label st (Leaf s p) = label_at (documents st) (node_at st s p)
head_label st (Text op index) = text_of (piece_at (ops_of st) op index)

-- the trees below a node
abbrev pub head_trees : BenchState → Head → Tolled
head_trees st (Whole s p) = charged (kids_at (documents st) (node_at st s p))
head_trees st (Built op at) = element_trees st op at
head_trees st (Leaf s p) = ends 0
head_trees st (Text op index) = ends 0

-- a node is one of the bench: its spot, cursor or piece is one
abbrev pub IsHead : BenchState → Head → Type 0
IsHead st (Whole s p) = IsSpotAt st s p
IsHead st (Built op at) = Stands st op makes_element at
IsHead st (Leaf s p) = IsSpotAt st s p
IsHead st (Text op index) = IsText st op index

-- the trees of what comes after a node
abbrev pub rest_trees : BenchState → Rest → Tolled
rest_trees st End = ends 0
rest_trees st (Pieces' op at next ways q up) = pieces_trees st op at next (rest_trees st up)
rest_trees st (Members' op at q up) = members_trees st op at (rest_trees st up)
rest_trees st (Group' op first number at place q up) = group_trees st op first at (rest_trees st up)

-- what comes after a node is made of cursors and operators of the bench
abbrev pub IsRest : BenchState → Rest → Type 0
IsRest st End = Unit {0}
IsRest st (Pieces' op at next ways q up) =
    Stands st op makes_list at × (next ≤ length (pieces_of (op_at (ops_of st) op))) × IsWays st (input_at (ops_of st) op) at ways × IsRest st up
IsRest st (Members' op at q up) = GathersAll st op × MatchOption at (Unit {0}) (λ c. IsCursor st (input_at (ops_of st) op) c) × IsRest st up
IsRest st (Group' op first number at place q up) =
    Stands st op gathers_groups first × Stands st op gathers_groups at × IsGroup st op number first at place × IsRest st up

-- the tree of the node at which an identifier stands, which was reached already, and the trees after it
abbrev pub here : BenchState → Site → Tolled
here st Root = tolled_document (documents st) (ops_of st)
here st (Inside s p) = item 0 (label_of_first (trees_at_spot st s p)) (charged (first_kids (trees_at_spot st s p))) (charged (after_first (trees_at_spot st s p)))
here st (Item head rest) = item 0 (head_label st head) (head_trees st head) (rest_trees st rest.value)

-- the place at which an identifier stands is one of the bench
abbrev pub IsSite : BenchState → Site → Type 0
IsSite st Root = Unit {0}
IsSite st (Inside s p) = IsSpotAt st s p
IsSite st (Item head rest) = IsHead st head × IsRest st rest.value

-- how many lists and pieces are entered on the way through the pieces of concatenation op from number `next` on
abbrev pub pieces_size : BenchState → ℕ → ℕ → ℕ
pieces_size st op next = pieces_count (λ v. suc (size (ops_of st) (input_at (ops_of st) op) v)) (drop next (pieces_of (op_at (ops_of st) op)))

-- how many trees the pieces of concatenation op from number `next` on have at most
abbrev pub pieces_extent : BenchState → ℕ → ℕ → ℕ
pieces_extent st op next = pieces_count (extent (size_of st) (ops_of st) (input_at (ops_of st) op)) (drop next (pieces_of (op_at (ops_of st) op)))

-- how many lists and pieces are still to be entered in what comes after a node
abbrev pub weight : BenchState → Rest → ℕ
weight st End = 0
weight st (Pieces' op at next ways q up) = suc (pieces_size st op next + weight st up)
weight st (Members' op at q up) = suc (weight st up)
weight st (Group' op first number at place q up) = suc (weight st up)

-- how many bindings of operator n come after a cursor at most, or in all where there is no cursor
abbrev pub number_from : BenchState → ℕ → Option Position → ℕ
number_from st n None = size_of st n
number_from st n (Some c) = number_at st n c

-- how many trees come after a node at most
abbrev pub left : BenchState → Rest → ℕ
left st End = 0
left st (Pieces' op at next ways q up) = pieces_extent st op next + left st up
left st (Members' op at q up) = number_from st (input_at (ops_of st) op) at + left st up
left st (Group' op first number at place q up) = (size_of st (input_at (ops_of st) op) - place) + left st up

-- a number of an identifier that no call raises, and that falls with each step to the right
abbrev pub site_left : BenchState → Site → ℕ
site_left st Root = 0
site_left st (Inside s p) = after_at st s p
site_left st (Item head rest) = left st rest.value
