-- How levels go on from the tree to which those before them lead: a text is put together from the outside in.
use Rattle.std.specs.Prelude.{◌≡◌, ◌+◌, ℕ, Some, List, [], ◌∷◌, ◌++◌, slice_get}
use Rattle.mix_tree.specs.Nodes.{Documents}
use Rattle.node_text.specs.Node.{LevelValue}
use Rattle.plan_core.specs.declared.plan.Piece.{Piece}
use Rattle.plan_core.specs.declared.plan.Piece.TheVariants.{Var as var_piece}
use Rattle.plan_core.specs.Plans.{Operator}
use Rattle.plan_evidence.specs.Named.{maker, Listing, of_pieces, element_list, list_of, before_piece, Reached, Picks, Ends, IsOuter, NamesBy}

module _ (docs : Documents) (ops : List Operator) where
  -- levels lead from a list to the tree at an index, which is made of this piece over a binding: one level alone, or one into a concatenation among the
  -- pieces and those after it
  pub data Enters : Reached → Listing → List LevelValue → ℕ → Reached → Piece → Type 0 where
    by_one : {here there : Reached} {list : Listing} {l : LevelValue} {j : ℕ} {piece : Piece} → Picks docs ops here list l j there piece → Enters here list (l ∷ []) j there piece
    by_pieces : {here there : Reached} {pieces inner : List Piece} {l : LevelValue} {ls : List LevelValue} {v i : ℕ} {piece : Piece}
        → slice_get pieces l.piece ≡ Some (var_piece v) → l.tuple ≡ [] → list_of ops v ≡ Some (of_pieces inner) → Enters here (of_pieces inner) ls i there piece
        → Enters here (of_pieces pieces) (l ∷ ls) (before_piece docs pieces here.row l.piece + i) there piece

  -- levels lead from the outer element to the tree at a place of the document, which is made of this piece over a binding: in the outer element's list, or in
  -- that of an element to which the first of the levels lead
  pub data Opens : List LevelValue → List ℕ → Reached → Piece → Type 0 where
    of_outer : {here there : Reached} {inner : Listing} {ls : List LevelValue} {j : ℕ} {piece : Piece} → IsOuter docs ops here inner → Enters here inner ls j there piece
        → Opens ls (j ∷ []) there piece
    of_element : {here there : Reached} {inner : Listing} {ls ms : List LevelValue} {q : List ℕ} {j v u : ℕ} {piece : Piece} → Opens ls q here (var_piece v)
        → element_list (maker ops v) ≡ Some u → list_of ops u ≡ Some inner → Enters here inner ms j there piece → Opens (ls ++ ms) (q ++ j ∷ []) there piece

-- levels that lead to a tree name what a place below ends at it
abbrev pub OpenedIsNamed : Type 0
OpenedIsNamed =
    (docs : Documents) (ops : List Operator) (ls : List LevelValue) (q p : List ℕ) (there : Reached) (piece : Piece) → Opens docs ops ls q there piece → Ends docs ops there.row piece p
    → NamesBy docs ops ls p (q ++ p)
