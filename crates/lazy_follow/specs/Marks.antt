-- What is kept of a text that was followed.
use Rattle.std.specs.Prelude.{◌≡◌, ◌<◌, ◌+◌, ℕ, IsTrue, List, [], ◌∷◌, ◌++◌, Option, Some, None, MatchOption, length, map, option_map}
use Rattle.mix_tree.specs.Forest.{LabelledTree}
use Rattle.mix_tree.specs.Nodes.{Node}
use Rattle.mix_tree.specs.Place.{tree_at}
use Rattle.node_text.specs.Node.{LevelValue, NodeValue}
use Rattle.plan_core.specs.ByNumber.{op_at}
use Rattle.plan_core.specs.Events.{visited}
use Rattle.plan_core.specs.PlanMade.{plan_value}
use Rattle.plan_core.specs.Plans.{document}
use Rattle.plan_core.specs.Shapes.{shape_at}
use Rattle.plan_core.specs.Valid.{IsValid}
use Rattle.plan_core.specs.declared.plan.Piece.TheVariants.{Var as var_piece, LabelOf as label_piece}
use Rattle.plan_evidence.specs.Held.{UsesHeld}
use Rattle.plan_evidence.specs.Named.{maker, element_list, Names}
use Rattle.plan_forms.specs.Forms.{form, makes_element, is_text, label_in, piece_at, text_of}
use Rattle.lazy_plan.specs.Bench.{BenchState, documents, label_there, ops_of, told, IsSpotAt, KeepsBench}
use Rattle.lazy_seek.specs.Evidenced.{reaches}
use Rattle.lazy_seek.specs.Given.{given}
use Rattle.lazy_seek.specs.Reach.{reach}
use Rattle.lazy_follow.specs.declared.evidence.Evidence.{Evidence}
use Rattle.lazy_follow.specs.declared.mark.Mark.{Mark}
use Rattle.lazy_follow.specs.declared.mark.Shown.{Shown}
use Rattle.lazy_follow.specs.declared.mark.Shown.TheVariants.{Whole, Leaf, Element, Text}
use Rattle.lazy_follow.specs.Choosing.{HasPiece}
use Rattle.lazy_follow.specs.Following.{Ending, text_ending}
use Rattle.lazy_follow.specs.Spotted.{IsSpotted, StandsFor}

-- how far the places of levels reach together
abbrev pub levels_reach : List LevelValue → ℕ
levels_reach [] = 0
levels_reach (l ∷ ls) = reaches l.tuple + levels_reach ls

-- how far the places of a text reach together; the place below counts from the node to which the levels lead
abbrev pub text_reach : NodeValue → ℕ
text_reach d = levels_reach d.levels + reach d.inside

-- for each level evidence of the member to which its places lead; none where it has no places
abbrev pub AreMembers : BenchState → List LevelValue → List (Option Evidence) → Type 0
AreMembers st [] [] = Unit {0}
AreMembers st [] (m ∷ members) = ⊥
AreMembers st (l ∷ levels) [] = ⊥
AreMembers st (l ∷ levels) (m ∷ members) = MatchOption m (l.tuple ≡ []) (IsSpotted st l.tuple) × AreMembers st levels members

-- what a node shows is there: a spot of a source, an operator that makes elements, or a piece that is a text
abbrev pub IsShown : BenchState → Shown → Type 0
IsShown st (Whole x) = IsSpotAt st x.source x.spot
IsShown st (Leaf x) = IsSpotAt st x.source x.spot
IsShown st (Element n) = (n < length (ops_of st)) × (form (op_at (ops_of st) n) ≡ makes_element)
IsShown st (Text n index) = HasPiece (ops_of st) n index × IsTrue (is_text (piece_at (ops_of st) n index))

-- the node at a place below another
abbrev pub node_under : Node → List ℕ → Node
node_under n p = record { source = n.source; place = n.place ++ p }

-- what a node shows is that of the node at a place below the tree at which levels end: below a source's node a node of the source; else the tree's own
abbrev pub ShowsBelow : BenchState → Ending → List ℕ → Shown → Type 0
ShowsBelow st e p (Whole x) =
    (v : ℕ) × (e.piece ≡ var_piece v) × (element_list (maker (ops_of st) v) ≡ None) × StandsFor st (node_under (given (ops_of st) e.stand.op e.stand.places v) p) x
ShowsBelow st e p (Leaf x) = (v : ℕ) × (e.piece ≡ label_piece v) × StandsFor st (given (ops_of st) e.stand.op e.stand.places v) x × (p ≡ [])
ShowsBelow st e p (Element n) = (v : ℕ) × (e.piece ≡ var_piece v) × (maker (ops_of st) v ≡ shape_at (ops_of st) n) × (p ≡ [])
ShowsBelow st e p (Text n index) = (piece_at (ops_of st) n index ≡ e.piece) × (p ≡ [])

-- for each level the operator of the evidence of the member to which it leads, if it leads to one
abbrev pub member_ops : List (Option Evidence) → List (Option ℕ)
member_ops members = map (λ m. option_map (λ (e : Evidence). e.op) m) members

-- levels end at a tree: what the node at the place below it shows is its own, and each member's evidence is of the operator of whose bindings its level chooses
pub record IsEnd (st : BenchState) (e : Ending) (p : List ℕ) (members : List (Option Evidence)) (shown : Shown) : Type 0 where
  pub shows : ShowsBelow st e p shown
  pub inputs : member_ops members ≡ e.inputs

-- levels have an end, and it is this
abbrev pub HasEnd : BenchState → Option Ending → List ℕ → List (Option Evidence) → Shown → Type 0
HasEnd st end p members shown = MatchOption end ⊥ (λ e. IsEnd st e p members shown)

-- what a mark holds is there: the spots of the members that its text says, and what the node shows, which is that of the node at which the text ends
pub record IsMark (st : BenchState) (m : Mark) : Type 0 where
  pub members : AreMembers st m.data.levels m.members.items
  pub shown : IsShown st m.shown
  pub ends : HasEnd st (text_ending (ops_of st) m.data.levels) m.data.inside m.members.items m.shown

-- a mark of a text, as what it says
pub record IsMarkOf (st : BenchState) (d : NodeValue) (m : Mark) : Type 0 where
  pub mark : IsMark st m
  pub says : m.data ≡ d

-- the label that a node shows
abbrev pub shown_label : BenchState → Shown → List ℕ
shown_label st (Whole x) = label_there st x.source x.spot
shown_label st (Leaf x) = label_there st x.source x.spot
shown_label st (Element n) = label_in (op_at (ops_of st) n)
shown_label st (Text n index) = text_of (piece_at (ops_of st) n index)

-- over told sources, where each operator of a valid plan uses what its inputs hold alone, what a mark shows has the label of the node that its text names
abbrev pub MarksShow : Type 0
MarksShow =
    (st : BenchState) → IsValid (plan_value st.plan) → UsesHeld (ops_of st) → IsTrue (told st) → (m : Mark) → IsMark st m → (place : List ℕ)
    → Names (documents st) (ops_of st) m.data place → (t : LabelledTree) → document (visited (documents st)) (ops_of st) ≡ Some t
    → (u : LabelledTree) × (tree_at t place ≡ Some u) × (shown_label st m.shown ≡ u.label)

-- what a mark holds stays, whatever is asked later
abbrev pub MarksStay : Type 0
MarksStay = (a b : BenchState) → KeepsBench a b → (m : Mark) → IsMark a m → IsMark b m
