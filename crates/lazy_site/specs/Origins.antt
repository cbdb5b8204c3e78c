-- Where the value of a variable is made.
use Rattle.std.specs.Prelude.{Bool, false, ◌==◌, IsTrue, ◌≡◌, ◌⊎◌, ℕ, suc, ◌<◌, ◌≤◌, Some, Option, MatchOption}
use Rattle.mix_tree.specs.Keys.{has_var}
use Rattle.plan_core.specs.declared.plan.Piece.{Piece}
use Rattle.plan_core.specs.declared.plan.Piece.TheVariants.{Var as var_piece, LabelOf as label_piece, Text as text_piece}
use Rattle.plan_core.specs.declared.plan.Plan.{Plan}
use Rattle.plan_core.specs.PlanMade.{plan_value}
use Rattle.plan_core.specs.Plans.{Operator, over}
use Rattle.plan_core.specs.Unary.{group_by, concatenate, create_element}
use Rattle.plan_core.specs.ByNumber.{op_at}
use Rattle.plan_core.specs.Valid.{kinds}
use Rattle.plan_core.specs.Valid.{Kind, a_node, an_element, a_list}
use Rattle.plan_core.specs.Tolled.{Tolled, item}
use Rattle.plan_core.specs.TolledRows.{TolledRow, tolled_value, piece_items}
use Rattle.plan_core.specs.Events.{RowEvents}
use Rattle.lazy_binding.specs.World.{World}
use Rattle.lazy_binding.specs.Cursors.{IsFirstBy}
use Rattle.lazy_plan.specs.Bench.{BenchState, ops_of, size_of, documents, told, events_of, IsCursor, binding_at, ahead_at, IsMadeOf, HasUnder, AmongInputs}
use Rattle.lazy_binding.specs.declared.position.Position.{Position}
use Rattle.plan_forms.specs.Forms.{makes_element, form, keys_of, pieces_of, input_at, piece_at}
use Rattle.lazy_site.specs.Labels as of
use Rattle.lazy_site.specs.Sizes.{pieces_count, size, extent}
use Rattle.lazy_site.specs.Ids.{IsOrigin, value_of, IsHead, head_label, head_trees}
use Rattle.lazy_site.specs.Heights.{origin_rank, head_rank}
use Rattle.lazy_site.specs.Ways.{IsBelow, IsWays}
use Rattle.lazy_site.specs.declared.ways.Ways.{Ways}
use Rattle.lazy_site.specs.declared.ways.Found.{Found}
use Rattle.lazy_site.specs.declared.sites.Head.{Head}
use Rattle.lazy_site.specs.declared.sites.Head.TheVariants.{Whole, Built, Leaf, Text}
use Rattle.lazy_site.specs.declared.sites.Origin.{Origin}
use Rattle.lazy_site.specs.declared.sites.Origin.TheVariants.{Node, Element, Joined, All, Group as Same}

-- the kind of the value that is made at an origin: a node, an element or a list
abbrev pub origin_kind : Origin → Kind
origin_kind (Node s p) = a_node
origin_kind (Element op at) = an_element
origin_kind (Joined op at) = a_list
origin_kind (All op) = a_list
origin_kind (Same op c number) = a_list

-- how many lists and pieces are entered on the way through the value of an origin
abbrev pub origin_size : BenchState → Origin → ℕ
origin_size st (Node s p) = 0
origin_size st (Element op at) = 0
origin_size st (Joined op at) = suc (suc (pieces_count (λ v. suc (size (ops_of st) (input_at (ops_of st) op) v)) (pieces_of (op_at (ops_of st) op))))
origin_size st (All op) = 2
origin_size st (Same op c number) = 2

-- how many trees the value of an origin has at most
abbrev pub origin_extent : BenchState → Origin → ℕ
origin_extent st (Node s p) = 1
origin_extent st (Element op at) = 1
origin_extent st (Joined op at) = pieces_count (extent (size_of st) (ops_of st) (input_at (ops_of st) op)) (pieces_of (op_at (ops_of st) op))
origin_extent st (All op) = size_of st (input_at (ops_of st) op)
origin_extent st (Same op c number) = suc (size_of st (input_at (ops_of st) op))

-- whether an operator makes the value of a variable itself
abbrev pub makes : Operator → ℕ → Bool
makes (over input (group_by keys piece out)) v = out == v
makes (over input (concatenate pieces out)) v = out == v
makes (over input (create_element label list out)) v = out == v
makes op v = false

-- the operator of an origin makes the value of variable v itself, where it makes one
abbrev pub IsMakerOf : BenchState → ℕ → Origin → Type 0
IsMakerOf st v (Node s p) = Unit {0}
IsMakerOf st v (Element op at) = IsTrue (makes (op_at (ops_of st) op) v)
IsMakerOf st v (Joined op at) = IsTrue (makes (op_at (ops_of st) op) v)
IsMakerOf st v (All op) = IsTrue (makes (op_at (ops_of st) op) v)
IsMakerOf st v (Same op c number) = IsTrue (makes (op_at (ops_of st) op) v)

-- the keys of groupBy op are of nodes in the binding of operator n's cursor c, the same as in that of cursor d of its input
abbrev pub HasKeysOf : BenchState → ℕ → Position → ℕ → Position → Type 0
HasKeysOf st n c op d =
    (v : ℕ) → IsTrue (has_var (keys_of (op_at (ops_of st) op)) v)
    → (kinds (ops_of st) n v ≡ Some a_node) × (tolled_value (binding_at st n c) v ≡ tolled_value (binding_at st (input_at (ops_of st) op) d) v)

-- the binding of operator n's cursor c has the keys of a group of groupBy op, and where the sources are told the group's first member is at cursor d of its input
pub record HasGroup (st : BenchState) (n : ℕ) (c : Position) (op : ℕ) (d : Position) : Type 0 where
  pub keys : HasKeysOf st n c op d
  pub first : IsTrue (told st) → let input = input_at (ops_of st) op in
      IsFirstBy (documents st) (keys_of (op_at (ops_of st) op)) (events_of st input) (binding_at st input d) (ahead_at st input d)

-- the binding of operator n's cursor c has all that the binding has over which the value of an origin is made; of a group it has the keys
abbrev pub HasMatterOf : BenchState → ℕ → Position → Origin → Type 0
HasMatterOf st n c (Node s p) = Unit {0}
HasMatterOf st n c (Element op at) = IsBelow st n c (input_at (ops_of st) op) at
HasMatterOf st n c (Joined op at) = IsBelow st n c (input_at (ops_of st) op) at
HasMatterOf st n c (All op) = Unit {0}
HasMatterOf st n c (Same op d number) = HasGroup st n c op d

-- the value of variable v in the binding of operator n's cursor c is made at this origin
pub record IsOriginOf (st : BenchState) (n : ℕ) (c : Position) (v : ℕ) (r : Origin) : Type 0 where
  pub origin : IsOrigin st r
  pub value : tolled_value (binding_at st n c) v ≡ value_of st r
  pub kind : kinds (ops_of st) n v ≡ Some (origin_kind r)
  pub size : origin_size st r ≤ size (ops_of st) n v
  pub extent : origin_extent st r ≤ extent (size_of st) (ops_of st) n v
  pub rank : origin_rank r ≤ suc n
  pub maker : IsMakerOf st v r
  pub matter : HasMatterOf st n c r

-- operator n has the value of variable v from the binding of its input i
pub record IsPassedOn (p : Plan) (n v i : ℕ) : Type 0 where
  pub within : i < n
  pub input : AmongInputs i (op_at (plan_value p).ops n)
  pub under : HasUnder (op_at (plan_value p).ops n)
  pub kind : kinds (plan_value p).ops n v ≡ kinds (plan_value p).ops i v
  pub size : size (plan_value p).ops i v ≤ size (plan_value p).ops n v
  pub extent : (bound : ℕ → ℕ) → extent bound (plan_value p).ops i v ≤ extent bound (plan_value p).ops n v
  pub labels : of.labels (plan_value p).ops n v ≡ of.labels (plan_value p).ops i v
  pub value : (w : World) (row below : TolledRow) (es : RowEvents) → IsMadeOf (record { world = w; plan = p }) row i below es (op_at (plan_value p).ops n)
      → tolled_value row v ≡ tolled_value below v

-- operator n has the values of all variables of its input i from there
abbrev pub PassesAll : Plan → ℕ → ℕ → Type 0
PassesAll p n i = (v : ℕ) (k : Kind) → kinds (plan_value p).ops i v ≡ Some k → IsPassedOn p n v i

-- variable v of operator n holds a node, or the operator makes its value itself
abbrev pub IsMadeHere : Plan → ℕ → ℕ → Type 0
IsMadeHere p n v = (kinds (plan_value p).ops n v ≡ Some a_node) ⊎ IsTrue (makes (op_at (plan_value p).ops n) v)

-- a call answers that operator n does not make the value of variable v, or the origin at which it is made in the binding of cursor c
abbrev pub GivesMade : BenchState → ℕ → Position → ℕ → Option Origin → Type 0
GivesMade st n c v r = MatchOption r (makes (op_at (ops_of st) n) v ≡ false) (IsOriginOf st n c v)

-- a call answers that operator n makes no element of variable v, or the cursor of its input over whose binding it makes the element in the binding of cursor c
abbrev pub GivesElement : BenchState → ℕ → Position → ℕ → Option Position → Type 0
GivesElement st n c v r =
    MatchOption r (form (op_at (ops_of st) n) ≡ makes_element → makes (op_at (ops_of st) n) v ≡ false) (λ d. IsOriginOf st n c v (Element n d))

-- the value of variable v in the binding of operator n's cursor c is the tree of this node alone
abbrev pub IsTreeOf : BenchState → ℕ → Position → ℕ → Head → Type 0
IsTreeOf st n c v (Whole s p) = IsOriginOf st n c v (Node s p)
IsTreeOf st n c v (Built op at) = IsOriginOf st n c v (Element op at)
IsTreeOf st n c v (Leaf s p) = ⊥
IsTreeOf st n c v (Text op index) = ⊥

-- a node is the tree of a piece over the binding of operator n's cursor c: that of its variable, a leaf with the label of its variable's node, or a text
abbrev pub IsTreeOfPiece : BenchState → ℕ → Position → Piece → Head → Type 0
IsTreeOfPiece st n c (var_piece v) h = IsTreeOf st n c v h
IsTreeOfPiece st n c (label_piece v) (Whole s p) = ⊥
IsTreeOfPiece st n c (label_piece v) (Built op at) = ⊥
IsTreeOfPiece st n c (label_piece v) (Leaf s p) = IsOriginOf st n c v (Node s p)
IsTreeOfPiece st n c (label_piece v) (Text op index) = ⊥
IsTreeOfPiece st n c (text_piece label) (Whole s p) = ⊥
IsTreeOfPiece st n c (text_piece label) (Built op at) = ⊥
IsTreeOfPiece st n c (text_piece label) (Leaf s p) = ⊥
IsTreeOfPiece st n c (text_piece label) (Text op index) = Unit {0}

-- a node with the trees below it is the only tree of a piece of operator op over the binding of cursor c
pub record IsHeadOf (st : BenchState) (op index : ℕ) (c : Position) (h : Head) : Type 0 where
  pub head : IsHead st h
  pub rank : head_rank h ≤ op
  pub of_piece : IsTreeOfPiece st (input_at (ops_of st) op) c (piece_at (ops_of st) op index) h
  pub trees : (rest : Tolled)
      → piece_items (documents st) (piece_at (ops_of st) op index) (binding_at st (input_at (ops_of st) op) c) rest ≡ item 0 (head_label st h) (head_trees st h) rest

-- from whatever cursor some ways are, the value of a variable in its binding is made at the origin found, and the ways found are from it too
abbrev pub FindsAlong : BenchState → ℕ → Ways → Found → Type 0
FindsAlong st v ways f = (n : ℕ) (c : Position) → IsCursor st n c → IsWays st n c ways → IsOriginOf st n c v f.origin × IsWays st n c f.ways
