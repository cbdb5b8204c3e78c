-- What following one level comes to.
use Rattle.std.specs.Prelude.{◌≡◌, ◌<◌, ℕ, IsTrue, List, Some, Option, MatchOption, length}
use Rattle.plan_core.specs.ByNumber.{op_at}
use Rattle.plan_core.specs.Shapes.{shape_at}
use Rattle.plan_evidence.specs.Named.{Listing, listing}
use Rattle.plan_forms.specs.Forms.{pieces_of, piece_at, input_at, keys_of, piece_of}
use Rattle.lazy_plan.specs.Bench.{BenchState, ops_of, documents, told}
use Rattle.lazy_follow.specs.declared.levels.Led.{Led}
use Rattle.lazy_follow.specs.declared.levels.Led.TheVariants.{List as list_led, Tree as tree_led, Member as member_led}
use Rattle.lazy_follow.specs.declared.members.Group.{Group}
use Rattle.lazy_follow.specs.Choosing.{HasPiece, MakesPieces, MakesGroups}
use Rattle.lazy_follow.specs.Following.{Choice, nothing, a_tree, a_member, a_list_among, IsMet}
use Rattle.lazy_follow.specs.Members.{IsEvidenceAt}
use Rattle.lazy_follow.specs.Scope.{InScope}
use Rattle.lazy_follow.specs.Spotted.{IsSpotted}

-- a list that an operator makes, in a binding that was reached by evidence, and whose operator binds all that the list's operator does
pub record IsListIn (st : BenchState) (places : List (List ℕ)) (from : Group) : Type 0 where
  pub here : IsSpotted st places from.here.now
  pub within : from.op < length (ops_of st)
  pub list : Listing
  pub is_list : listing (shape_at (ops_of st) from.op) ≡ Some list
  pub scope : InScope (ops_of st) from.here.now.op from.op

-- no level can be followed from what was chosen: nothing, or a member of which the places are none
abbrev pub LeadsNowhere : BenchState → List (List ℕ) → Group → List (List ℕ) → Choice → Type 0
LeadsNowhere st places from tuple nothing = Unit {0}
LeadsNowhere st places from tuple (a_tree piece) = ⊥
LeadsNowhere st places from tuple (a_member input keys piece) =
    IsMet (documents st) (ops_of st) keys (record { op = from.here.now.op; places = places }) (record { op = input; places = tuple }) → ⊥
LeadsNowhere st places from tuple (a_list_among pieces) = ⊥

-- what was chosen was found
abbrev pub IsLed : BenchState → BenchState → List (List ℕ) → Group → List (List ℕ) → Choice → Led → Type 0
IsLed old new places from tuple c (list_led n) = MakesPieces (ops_of old) n × InScope (ops_of old) from.here.now.op n × (c ≡ a_list_among (pieces_of (op_at (ops_of old) n)))
IsLed old new places from tuple c (tree_led n index) = HasPiece (ops_of old) n index × InScope (ops_of old) from.here.now.op (input_at (ops_of old) n) × (c ≡ a_tree (piece_at (ops_of old) n index))
IsLed old new places from tuple c (member_led n e) =
    let input = input_at (ops_of old) n in let keys = keys_of (op_at (ops_of old) n) in
    MakesGroups (ops_of old) n × (c ≡ a_member input keys (piece_of (ops_of old) n)) × IsEvidenceAt new n tuple e
    × (IsTrue (told old) → IsMet (documents old) (ops_of old) keys (record { op = from.here.now.op; places = places }) (record { op = input; places = tuple }))

-- over told sources nothing is found where no level can be followed from what a level chooses; else what was chosen is
abbrev pub GivesLed : BenchState → BenchState → List (List ℕ) → Group → List (List ℕ) → Choice → Option Led → Type 0
GivesLed old new places from tuple c r = MatchOption r (IsTrue (told old) → LeadsNowhere old places from tuple c) (IsLed old new places from tuple c)
