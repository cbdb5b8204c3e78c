-- By which levels a tree of a list is entered, and which tree levels enter.
use Rattle.std.specs.Prelude.{◌≡◌, ◌++◌, ◌∷◌, ℕ, List, [], Some, map, slice_get}
use Rattle.mix_tree.specs.Nodes.{Documents}
use Rattle.node_text.specs.Node.{LevelValue}
use Rattle.mix_tree.specs.declared.var.Key.{Key}
use Rattle.plan_core.specs.declared.plan.Piece.{Piece}
use Rattle.plan_core.specs.Plans.{PlanValue}
use Rattle.plan_core.specs.Valid.{IsValid}
use Rattle.plan_evidence.specs.Held.{AreOf}
use Rattle.plan_evidence.specs.Named.{Listing, of_pieces, of_group, IsSingle, Reached}
use Rattle.plan_evidence.specs.Opened.{Enters}
use Rattle.plan_evidence.specs.Remains.{Remains, numbers_in, levels_through, IsAround, IsListIn}

-- the numbers of levels
abbrev pub numbers_of : List LevelValue → List ℕ
numbers_of ls = map (λ l. l.piece) ls

-- two trees are entered alike: through the pieces of the same numbers, and made of the same piece over the same binding
pub record AreAlike (ls ms : List LevelValue) (there also : Reached) (x y : Piece) : Type 0 where
  pub numbers : numbers_of ls ≡ numbers_of ms
  pub row : there.row ≡ also.row
  pub piece : x ≡ y

-- levels that lead to the same index of a list over the same binding enter alike, whatever places they have
abbrev pub EnteredOnce : Type 0
EnteredOnce =
    (p : PlanValue) → IsValid p → (docs : Documents) (here other : Reached) (v : ℕ) (list : Listing) → IsListIn docs p.ops here.row v list → other.row ≡ here.row
    → (ls ms : List LevelValue) (j : ℕ) (there also : Reached) (x y : Piece) → Enters docs p.ops here list ls j there x → Enters docs p.ops other list ms j also y
    → AreAlike ls ms there also x y

-- the same levels lead to one index of a list over the same binding
abbrev pub LevelsEnterOnce : Type 0
LevelsEnterOnce =
    (p : PlanValue) → IsValid p → (docs : Documents) (here other : Reached) (v : ℕ) (list : Listing) → IsListIn docs p.ops here.row v list → other.row ≡ here.row
    → (ls : List LevelValue) (i j : ℕ) (there also : Reached) (x y : Piece) → Enters docs p.ops here list ls i there x → Enters docs p.ops other list ls j also y → i ≡ j

-- the numbers of the levels of a member of a group, by what is left around the group
abbrev pub member_numbers : Remains → List ℕ
member_numbers around = numbers_of (levels_through [] (numbers_in around))

-- levels with the numbers of a group's members lead to that member of whose binding their evidence is: if it is of the binding to which others with these numbers lead,
-- both lead to one index
abbrev pub MembersAreTold : Type 0
MembersAreTold =
    (p : PlanValue) → IsValid p → (docs : Documents) (here other : Reached) (v : ℕ) (list : Listing) → IsListIn docs p.ops here.row v list → other.row ≡ here.row
    → (around : Remains) (input : ℕ) (keys : List Key) (piece : Piece) → IsAround docs p.ops here.row list around (of_group input keys piece)
    → (ls ms : List LevelValue) (i j : ℕ) (there also : Reached) (x y : Piece) → Enters docs p.ops here list ls i there x → Enters docs p.ops other list ms j also y
    → numbers_of ls ≡ member_numbers around → numbers_of ms ≡ member_numbers around → AreOf docs p.ops input also.nodes there.row → i ≡ j

-- levels with the number of a piece that is a single tree lead to it
abbrev pub SinglesAreTold : Type 0
SinglesAreTold =
    (p : PlanValue) → IsValid p → (docs : Documents) (here other : Reached) (v : ℕ) (list : Listing) → IsListIn docs p.ops here.row v list → other.row ≡ here.row
    → (around : Remains) (pieces : List Piece) (n : ℕ) (q : Piece) → IsAround docs p.ops here.row list around (of_pieces pieces) → slice_get pieces n ≡ Some q → IsSingle p.ops q
    → (ls ms : List LevelValue) (i j : ℕ) (there also : Reached) (x y : Piece) → Enters docs p.ops here list ls i there x → Enters docs p.ops other list ms j also y
    → numbers_of ls ≡ numbers_in around ++ n ∷ [] → numbers_of ms ≡ numbers_in around ++ n ∷ [] → i ≡ j
