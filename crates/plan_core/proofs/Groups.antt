-- What a groupBy binds and needs, whether by keys or by none.
use Rattle.std.proofs.Common.{◌≡◌, ℕ, List, [], ◌∷◌, refl}
use Rattle.mix_tree.specs.declared.var.Key.{Key}
use Rattle.plan_core.specs.declared.plan.Piece.{Piece}
use Rattle.plan_core.specs.Unary.{group_by}
use Rattle.plan_core.specs.Valid.{Kinds, a_list, kept, with_kind, unary_kinds, AreNodes, IsSinglePiece, IsUnaryFit, unary_outs}

-- a groupBy binds the variables of its keys, and a list
pub group_kinds : (keys : List Key) (piece : Piece) (out : ℕ) (kinds : Kinds) → unary_kinds (group_by keys piece out) kinds ≡ with_kind out a_list (kept keys kinds)
group_kinds [] piece out kinds = refl
group_kinds (k ∷ keys) piece out kinds = refl

-- a groupBy binds anew its list alone
pub group_outs : (keys : List Key) (piece : Piece) (out : ℕ) → unary_outs (group_by keys piece out) ≡ out ∷ []
group_outs [] piece out = refl
group_outs (k ∷ keys) piece out = refl

-- a groupBy is fit where its keys are of nodes, and its piece is no list
pub group_is_fit : (keys : List Key) (piece : Piece) (out : ℕ) (kinds : Kinds) → AreNodes keys kinds → IsSinglePiece kinds piece → IsUnaryFit kinds (group_by keys piece out)
group_is_fit [] piece out kinds h p = p
group_is_fit (k ∷ keys) piece out kinds h p = (h, p)

-- a groupBy that is fit has keys of nodes, and a piece that is no list
pub fit_group : (keys : List Key) (piece : Piece) (out : ℕ) (kinds : Kinds) → IsUnaryFit kinds (group_by keys piece out) → AreNodes keys kinds × IsSinglePiece kinds piece
fit_group [] piece out kinds h = ((λ v e. cc), h)
fit_group (k ∷ keys) piece out kinds h = h
