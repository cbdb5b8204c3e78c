-- What the tree of a piece shows, and the end of levels.
use Rattle.std.specs.Prelude.{◌≡◌, ◌<◌, ◌==◌, ℕ, Bool, false, IsTrue, List, [], Option, Some, None, MatchOption, length}
use Rattle.mix_tree.specs.Nodes.{Node}
use Rattle.plan_core.specs.ByNumber.{op_at}
use Rattle.plan_core.specs.Plans.{Operator, over}
use Rattle.plan_core.specs.Unary.{create_element}
use Rattle.plan_core.specs.declared.plan.Piece.{Piece}
use Rattle.plan_core.specs.declared.plan.Piece.TheVariants.{Var as var_piece, LabelOf as label_piece}
use Rattle.plan_core.specs.Shapes.{shape_at}
use Rattle.plan_evidence.specs.Named.{maker, element_list, IsSingle}
use Rattle.plan_forms.specs.Forms.{form, makes_element, is_text, input_at, piece_at}
use Rattle.lazy_plan.specs.Bench.{BenchState, ops_of, documents, told}
use Rattle.lazy_follow.specs.declared.ends.TreeAt.{TreeAt}
use Rattle.lazy_follow.specs.declared.evidence.Evidence.{Evidence}
use Rattle.lazy_follow.specs.declared.mark.Shown.{Shown}
use Rattle.lazy_follow.specs.declared.mark.Shown.TheVariants.{Whole, Leaf, Element, Text}
use Rattle.lazy_follow.specs.Choosing.{HasPiece}
use Rattle.lazy_follow.specs.Following.{Stand, Ending, IsUnder}
use Rattle.lazy_follow.specs.Marks.{IsShown, ShowsBelow}
use Rattle.lazy_follow.specs.Scope.{InScope}
use Rattle.lazy_follow.specs.Spotted.{IsSpotted, StandsFor}

-- whether an operator makes the elements of a variable
abbrev pub makes_element_of : Operator → ℕ → Bool
makes_element_of (over input (create_element label list out)) v = out == v
makes_element_of op v = false

-- an operator makes the elements of a variable; where there is none, its value is no element
abbrev pub IsElementBy : List Operator → ℕ → Option ℕ → Type 0
IsElementBy ops v r =
    MatchOption r (element_list (maker ops v) ≡ None) (λ n. (n < length ops) × (maker ops v ≡ shape_at ops n) × (form (op_at ops n) ≡ makes_element))

-- the tree of a piece, which is no list, over a binding that was reached by evidence, and whose operator binds all that the piece is made of
pub record IsTreeAt (st : BenchState) (places : List (List ℕ)) (t : TreeAt) : Type 0 where
  pub here : IsSpotted st places t.here.now
  pub has_piece : HasPiece (ops_of st) t.op t.index
  pub scope : InScope (ops_of st) t.here.now.op (input_at (ops_of st) t.op)
  pub single : IsSingle (ops_of st) (piece_at (ops_of st) t.op t.index)

-- what the tree of a piece shows: a node with what is below it, where its variable's value is one; a leaf with a node's label; an element; or a text
abbrev pub Shows : BenchState → (ℕ → Node) → Piece → Shown → Type 0
Shows st nodes piece (Whole x) = (v : ℕ) × (piece ≡ var_piece v) × (element_list (maker (ops_of st) v) ≡ None) × StandsFor st (nodes v) x
Shows st nodes piece (Leaf x) = (v : ℕ) × (piece ≡ label_piece v) × StandsFor st (nodes v) x
Shows st nodes piece (Element n) =
    (v : ℕ) × (u : ℕ) × (piece ≡ var_piece v) × (element_list (maker (ops_of st) v) ≡ Some u) × (n < length (ops_of st)) × (form (op_at (ops_of st) n) ≡ makes_element)
    × (maker (ops_of st) v ≡ shape_at (ops_of st) n)
Shows st nodes piece (Text n index) = HasPiece (ops_of st) n index × (piece_at (ops_of st) n index ≡ piece) × IsTrue (is_text piece)

-- where evidence with these places stands
abbrev pub stand_of : List (List ℕ) → Evidence → Stand
stand_of places e = record { op = e.op; places = places }

-- the tree of a piece, over a binding that was reached by evidence with these places
abbrev pub ending_of : BenchState → List (List ℕ) → TreeAt → Ending
ending_of st places t = record { inputs = []; stand = stand_of places t.here.now; piece = piece_at (ops_of st) t.op t.index }

-- over told sources a place below the tree of a piece isn't there, or it is; what its node shows is there
abbrev pub GivesEnd : BenchState → BenchState → List (List ℕ) → TreeAt → List ℕ → Option Shown → Type 0
GivesEnd old new places t p r =
    let under = IsUnder (documents old) (ops_of old) (stand_of places t.here.now) (piece_at (ops_of old) t.op t.index) p in
    MatchOption r (IsTrue (told old) → under → ⊥) (λ shown. IsShown new shown × (IsTrue (told old) → under) × ShowsBelow new (ending_of old places t) p shown)
