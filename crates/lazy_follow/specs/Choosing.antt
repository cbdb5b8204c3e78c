-- What the code chooses of lists, by the operators that make them.
use Rattle.std.specs.Prelude.{◌≡◌, ◌<◌, ◌==◌, ℕ, false, List, Some, None, Option, MatchOption, length}
use Rattle.std.specs.List.{list_any}
use Rattle.plan_core.specs.ByNumber.{op_at}
use Rattle.plan_core.specs.Plans.{Operator}
use Rattle.plan_core.specs.Shapes.{shape_at}
use Rattle.plan_core.specs.Valid.{outs_of}
use Rattle.plan_evidence.specs.Named.{Listing, of_pieces, of_group, maker, listing}
use Rattle.plan_forms.specs.Forms.{pieces_of, piece_at, input_at, keys_of, piece_of, IsWritten}
use Rattle.lazy_follow.specs.declared.choosing.Chosen.{Chosen}
use Rattle.lazy_follow.specs.declared.choosing.Chosen.TheVariants.{Nothing, Tree, Member, Among}
use Rattle.lazy_follow.specs.Scope.{InScope}
use Rattle.lazy_follow.specs.Following.{Choice, nothing, a_tree, a_member, a_list_among}

-- operator n has a piece at an index, which is written in it
pub record HasPiece (ops : List Operator) (n index : ℕ) : Type 0 where
  pub within : n < length ops
  pub there : index < length (pieces_of (op_at ops n))
  pub written : IsWritten (op_at ops n)

-- operator n makes lists of its pieces
pub record MakesPieces (ops : List Operator) (n : ℕ) : Type 0 where
  pub within : n < length ops
  pub listed : listing (shape_at ops n) ≡ Some (of_pieces (pieces_of (op_at ops n)))

-- operator n makes groups of its input by its keys, of its piece
pub record MakesGroups (ops : List Operator) (n : ℕ) : Type 0 where
  pub within : n < length ops
  pub listed : listing (shape_at ops n) ≡ Some (of_group (input_at ops n) (keys_of (op_at ops n)) (piece_of ops n))
  pub has_piece : HasPiece ops n 0

-- what the code chose is what is chosen
abbrev pub IsChosen : List Operator → Chosen → Choice → Type 0
IsChosen ops Nothing c = c ≡ nothing
IsChosen ops (Tree n index) c = HasPiece ops n index × (c ≡ a_tree (piece_at ops n index))
IsChosen ops (Member n) c = MakesGroups ops n × (c ≡ a_member (input_at ops n) (keys_of (op_at ops n)) (piece_of ops n))
IsChosen ops (Among n) c = MakesPieces ops n × (c ≡ a_list_among (pieces_of (op_at ops n)))

-- no operator below a number binds a variable anew
abbrev pub NoneMakes : List Operator → ℕ → ℕ → Type 0
NoneMakes ops n v = (i : ℕ) → i < n → list_any (λ w. w == v) (outs_of (op_at ops i)) ≡ false

-- an operator below a number is the one that binds a variable anew
abbrev pub IsMaker : List Operator → ℕ → ℕ → ℕ → Type 0
IsMaker ops n v i = (i < n) × (maker ops v ≡ shape_at ops i)

-- a list, if there is one, is made by this operator, if there is one
abbrev pub IsListBy : List Operator → Option Listing → Option ℕ → Type 0
IsListBy ops None r = r ≡ None
IsListBy ops (Some list) r = MatchOption r ⊥ (λ n. (n < length ops) × (listing (shape_at ops n) ≡ Some list))

-- the operator of a list binds all that the one binds whose list or group was chosen, or the input of the one whose piece was
abbrev pub IsScope : List Operator → ℕ → Chosen → Type 0
IsScope ops n Nothing = Unit {0}
IsScope ops n (Tree m index) = InScope ops n (input_at ops m)
IsScope ops n (Member m) = InScope ops n m
IsScope ops n (Among m) = InScope ops n m
