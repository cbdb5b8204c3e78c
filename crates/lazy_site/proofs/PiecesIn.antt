-- A turn over pieces is of the list of which the pieces are left.
use Rattle.std.specs.declared.rc.Rc.{Rc}
use Rattle.std.proofs.Common.{Global, add-one, ◌≡◌, ◌<◌, ◌+◌, ℕ, zero, suc, List, [], ◌∷◌, Some, length, refl, ◌∙◌, sym, ap, subst, arith}
use Rattle.std.specs.Prelude.{IsTrue, slice_get, slice_index_or}
use Rattle.std.specs.List.{AllByRecursion}
use Rattle.mix_tree.specs.Nodes.{Documents}
use Rattle.plan_core.specs.declared.plan.Piece.{Piece}
use Rattle.plan_core.specs.declared.plan.Piece.TheVariants.{Var as var_piece, LabelOf as label_piece, Text as text_piece}
use Rattle.plan_core.specs.ByNumber.{op_at}
use Rattle.plan_core.specs.Plans.{Operator}
use Rattle.plan_core.specs.TolledRows.{TolledRow}
use Rattle.plan_evidence.specs.Named.{Listing, of_pieces, IsSingle}
use Rattle.plan_evidence.specs.Remains.{Remains, pieces_left, IsSameIn, IsAround, at_piece}
use Rattle.plan_forms.specs.Forms.{input_at, pieces_of, piece_at}
use Rattle.lazy_plan.specs.Bench.{BenchState, ops_of, documents, told, binding_at}
use Rattle.lazy_binding.specs.declared.position.Position.{Position}
use Rattle.lazy_site.specs.Origins.{IsHeadOf, IsOriginOf, IsTreeOfPiece, origin_kind}
use Rattle.lazy_site.specs.Standing.{remains, AreBelow, ComesNext, a_variable, IsLeftOf, some_pieces, IsLeftIn, StandsIn}
use Rattle.lazy_site.specs.Ways.{IsBelow}
use Rattle.lazy_site.specs.declared.sites.Head.{Head}
use Rattle.lazy_site.specs.declared.sites.Head.TheVariants.{Whole, Built, Leaf, Text}
use Rattle.lazy_site.specs.declared.sites.Origin.{Origin}
use Rattle.lazy_site.specs.declared.sites.Origin.TheVariants.{Node, Element}
use Rattle.lazy_site.specs.declared.sites.Rest.{Rest, Pieces'}
use Rattle.lazy_site.specs.declared.ways.Ways.{Ways}
use Rattle.lazy_site.proofs.Listings.{around_left}
use Rattle.lazy_site.proofs.Making.{origin_held}

-- the member at an index that is one of a list
pub member_at : {X : Type 0} (xs : List X) (i : ℕ) (d x : X) → i < length xs → slice_index_or xs i d ≡ x → slice_get xs i ≡ Some x
member_at [] i d x h e = absurd (omega (arith, h))
member_at (z ∷ xs) zero d x h e = ap Some e
member_at (z ∷ xs) (suc i) d x h e = member_at xs i d x (omega (arith, h)) e

-- what is made over a cursor from which another has all values is so in that one's binding
pub origin_over : (st : BenchState) (n m : ℕ) (c d : Position) (v : ℕ) (r : Origin) → IsBelow st n c m d → IsOriginOf st m d v r → IsOriginOf st n c v r
origin_over st n m c d v r b o = origin_held st n v m c d r (b.held v (origin_kind r) o.kind) b o

-- the tree of a piece over a cursor from which another has all values is so over that one's binding
pub tree_over : (st : BenchState) (n m : ℕ) (c d : Position) (q : Piece) (h : Head) → IsBelow st n c m d → IsTreeOfPiece st m d q h → IsTreeOfPiece st n c q h
tree_over st n m c d (var_piece v) (Whole s x) b t = origin_over st n m c d v (Node s x) b t
tree_over st n m c d (var_piece v) (Built op at) b t = origin_over st n m c d v (Element op at) b t
tree_over st n m c d (var_piece v) (Leaf s x) b t = absurd t
tree_over st n m c d (var_piece v) (Text op index) b t = absurd t
tree_over st n m c d (label_piece v) (Whole s x) b t = absurd t
tree_over st n m c d (label_piece v) (Built op at) b t = absurd t
tree_over st n m c d (label_piece v) (Leaf s x) b t = origin_over st n m c d v (Node s x) b t
tree_over st n m c d (label_piece v) (Text op index) b t = absurd t
tree_over st n m c d (text_piece label) (Whole s x) b t = absurd t
tree_over st n m c d (text_piece label) (Built op at) b t = absurd t
tree_over st n m c d (text_piece label) (Leaf s x) b t = absurd t
tree_over st n m c d (text_piece label) (Text op index) b t = tt

-- a piece that is no variable is a single tree
single_other : (ops : List Operator) (q : Piece) → ((v : ℕ) → q ≡ var_piece v → ⊥) → IsSingle ops q
single_other ops (var_piece v) h = absurd (h v refl)
single_other ops (label_piece v) h = tt
single_other ops (text_piece label) h = tt

-- where pieces are left of a list, they stand in it
pieces_stand : {docs : Documents} {ops : List Operator} {here : TolledRow} {list : Listing} {pieces : List Piece} {row : TolledRow} {next : ℕ} {around : Remains}
    → IsLeftOf docs ops here list (pieces_left pieces row next around) → IsAround docs ops here list around (of_pieces pieces) × AllByRecursion (IsSameIn here row) pieces
pieces_stand (some_pieces up same) = (up, same)

module _ (st : BenchState) (n : ℕ) (c : Position) (list : Listing) (op next : ℕ) (at : Position) (ways : Ways) (q : Rc (Unit {0}) Global) (up : Rest) (l : IsLeftIn st n c list (Pieces' op at next ways q up)) where
  -- after the last piece the rest is left of the list
  pub over_left : (r : Rest) → r ≡ up → IsLeftIn st n c list r
  over_left r e =
      subst (IsLeftIn st n c list) (sym e) (record { below = l.below.1; left = λ y. around_left (documents st) (ops_of st) (binding_at st n c) (pieces_stand (l.left y)).0 })

  -- the pieces after one are over the same cursor
  pub later_below : (w : Ways) (p : _) (r : Rest) → r ≡ Pieces' op at (next + 1) w p up → AreBelow st n c r
  later_below w p r e = subst (AreBelow st n c) (sym e) l.below

  -- the value of a piece's variable comes next, before the later pieces
  pub later_next : (v : ℕ) → next < length (pieces_of (op_at (ops_of st) op)) → piece_at (ops_of st) op next ≡ var_piece v → (w : Ways) (p : _) (r : Rest) → r ≡ Pieces' op at (next + 1) w p up → IsTrue (told st)
      → ComesNext (documents st) (ops_of st) (binding_at st n c) list (remains st r) v
  later_next v there is w p r e y =
      let s = pieces_stand (l.left y) in
      let pieces : List Piece = pieces_of (op_at (ops_of st) op) in
      subst (λ x. ComesNext (documents st) (ops_of st) (binding_at st n c) list (remains st x) v) (sym (e ∙ ap (λ k. Pieces' op at k w p up) (add-one next)))
      (a_variable s.0 s.1 (member_at pieces next (text_piece []) (var_piece v) there is))

  -- the tree of a piece that is no variable stands in the list, before the later pieces
  pub head_in : (h : Head) → next < length (pieces_of (op_at (ops_of st) op)) → IsHeadOf st op next at h → ((v : ℕ) → piece_at (ops_of st) op next ≡ var_piece v → ⊥) → (w : Ways) (p : _) (r : Rest)
      → r ≡ Pieces' op at (next + 1) w p up → StandsIn st n c list h r
  head_in h there head other w p r e =
      let piece : Piece = piece_at (ops_of st) op next in
      let pieces : List Piece = pieces_of (op_at (ops_of st) op) in
      subst (StandsIn st n c list h) (sym (e ∙ ap (λ k. Pieces' op at k w p up) (add-one next)))
      (record {
        below = l.below;
        standing = λ y. (let s = pieces_stand (l.left y) in record {
          piece = piece;
          tree = tree_over st n (input_at (ops_of st) op) c at piece h l.below.0 head.of_piece;
          stands = at_piece s.0 s.1 (member_at pieces next (text_piece []) piece there refl) (single_other (ops_of st) piece other);
        });
      })
