-- Whether the levels of a text lead to a node of a list, by their numbers and by the evidence of the members to which they lead.
use Rattle.std.specs.Prelude.{◌≡◌, ◌==◌, ◌&&◌, ℕ, zero, suc, Bool, true, false, Option, Some, None, MatchOption, List, [], ◌∷◌, ◌++◌, length}
use Rattle.mix_tree.specs.Nodes.{Documents}
use Rattle.node_text.specs.Node.{LevelValue, level}
use Rattle.plan_core.specs.declared.plan.Piece.{Piece}
use Rattle.plan_core.specs.Plans.{Operator}
use Rattle.plan_core.specs.TolledRows.{key_values, same_values}
use Rattle.plan_evidence.specs.Held.{held, node_values}
use Rattle.plan_evidence.specs.Named.{Listing, of_pieces, Reached}
use Rattle.plan_evidence.specs.Opened.{Enters}
use Rattle.plan_evidence.specs.Remains.{Remains, numbers_in, levels_through, IsIndex}
use Rattle.plan_forms.specs.Forms.{input_at}
use Rattle.plan_levels.specs.Entered.{numbers_of}
use Rattle.lazy_binding.specs.declared.position.Position.{Position}
use Rattle.lazy_follow.specs.declared.evidence.Evidence.{Evidence}
use Rattle.lazy_follow.specs.Following.{Choice, nothing, a_tree, a_member, a_list_among, choice, list_in}
use Rattle.lazy_follow.specs.Spotted.{IsSpotted, nodes_of}
use Rattle.lazy_plan.specs.Bench.{BenchState, ops_of, documents, binding_at}
use Rattle.lazy_site.specs.Levels.{HasList}
use Rattle.lazy_site.specs.Standing.{remains, IsHolder, IsStanding}
use Rattle.lazy_site.specs.declared.sites.Head.{Head}
use Rattle.lazy_site.specs.declared.sites.Rest.{Rest, End, Pieces', Members', Group'}

-- NUMBERS

-- the numbers of levels begin with these
abbrev pub BeginWith : List ℕ → List LevelValue → Type 0
BeginWith ns ls = (rest : List ℕ) × (numbers_of ls ≡ ns ++ rest)

-- a call answers that the numbers of levels don't begin with these, or how many these are
abbrev pub BeginsThrough : List ℕ → List LevelValue → Option ℕ → Type 0
BeginsThrough ns ls r = MatchOption r (BeginWith ns ls → ⊥) (λ count. (count ≡ length ns) × BeginWith ns ls)

-- the numbers of pieces, and then that of the last one that was passed of others, if one was
abbrev pub numbers_with : List ℕ → ℕ → List ℕ
numbers_with ns zero = ns
numbers_with ns (suc n) = ns ++ n ∷ []

-- the numbers of the levels of a node, by what is left of its list after it
abbrev pub own_numbers : Remains → List ℕ
own_numbers r = numbers_of (levels_through [] (numbers_in r))

-- EVIDENCE

-- evidence, if there is some, has spots for what some places give
abbrev pub HasSpots : BenchState → Option Evidence → Type 0
HasSpots st m = MatchOption m (Unit {0}) (λ e. (places : List (List ℕ)) × IsSpotted st places e)

-- whether evidence, if there is some, is that of the binding of operator n's cursor c: of the operator, and alike by the keys that this holds
abbrev pub IsAgreed : BenchState → List (List ℕ) → ℕ → Position → Option Evidence → Bool → Type 0
IsAgreed st places n c None b = b ≡ false
IsAgreed st places n c (Some e) b = IsSpotted st places e
    → b ≡ ((e.op == n) && same_values (node_values (documents st) (held (ops_of st) e.op) (nodes_of st places e)) (key_values (documents st) (held (ops_of st) e.op) (binding_at st n c)))

-- whether evidence is that of the member before a rest, where there is one
abbrev pub TellsMember : BenchState → List (List ℕ) → Rest → Option Evidence → Bool → Type 0
TellsMember st places End m b = b ≡ true
TellsMember st places (Pieces' op at next ways q up) m b = b ≡ true
TellsMember st places (Members' op None q up) m b = b ≡ true
TellsMember st places (Members' op (Some d) q up) m b = IsAgreed st places (input_at (ops_of st) op) d m b
TellsMember st places (Group' op first number at place q up) m b = IsAgreed st places (input_at (ops_of st) op) at m b

-- evidence is of the operator of whose bindings a member was chosen; without a member, any or none will do
abbrev pub IsOfChosen : Choice → Option Evidence → Type 0
IsOfChosen nothing m = Unit {0}
IsOfChosen (a_tree piece) m = Unit {0}
IsOfChosen (a_member n keys piece) m = MatchOption m ⊥ (λ e. e.op ≡ n)
IsOfChosen (a_list_among pieces) m = Unit {0}

-- the list in which the levels behind one go on, by what it chose
abbrev pub list_behind : List Operator → Choice → Option Listing
list_behind ops nothing = None
list_behind ops (a_tree piece) = list_in ops piece
list_behind ops (a_member n keys piece) = list_in ops piece
list_behind ops (a_list_among pieces) = Some (of_pieces pieces)

-- what a level of this number chooses of a list
abbrev pub number_choice : List Operator → Listing → ℕ → Choice
number_choice ops list n = choice ops list (level n [])

-- the evidence of each of some levels from a list, as far as they lead, is of the operator of whose bindings the level chooses one
abbrev pub AreOfChosen : List Operator → Option Listing → List LevelValue → List (Option Evidence) → Type 0
AreOfChosen ops None ls ms = Unit {0}
AreOfChosen ops (Some list) [] ms = Unit {0}
AreOfChosen ops (Some list) (l ∷ ls) [] = ⊥
AreOfChosen ops (Some list) (l ∷ ls) (m ∷ ms) =
    IsOfChosen (number_choice ops list l.piece) m × AreOfChosen ops (list_behind ops (number_choice ops list l.piece)) ls ms

-- LEADING

-- the first of some levels lead from a list to the tree at index j, which is made of this piece over a binding; the others are behind it
pub record Lead (docs : Documents) (ops : List Operator) (here : Reached) (list : Listing) (levels : List LevelValue) (j : ℕ) (there : Reached) (piece : Piece) : Type 0 where
  pub front : List LevelValue
  pub behind : List LevelValue
  pub is : levels ≡ front ++ behind
  pub enters : Enters docs ops here list front j there piece

-- where levels lead from a list to the tree at an index, a call answers that a node of the list isn't at that index, or that it is, and how many of the levels lead there
abbrev pub LeadsHere : BenchState → Rest → List LevelValue → List (Option Evidence) → Option ℕ → Type 0
LeadsHere st r levels members result =
    (n : ℕ) (c : Position) (v : ℕ) (list : Listing) → IsHolder st n c → HasList st n v list → (head : Head) → IsStanding st n c list head r
    → (i : ℕ) → IsIndex (documents st) (binding_at st n c) v (remains st r) i → AreOfChosen (ops_of st) (Some list) levels members
    → (here there : Reached) (j : ℕ) (piece : Piece) → here.row ≡ binding_at st n c → (lead : Lead (documents st) (ops_of st) here list levels j there piece)
    → MatchOption result (i ≡ j → ⊥) (λ count. (i ≡ j) × (count ≡ length lead.front))
