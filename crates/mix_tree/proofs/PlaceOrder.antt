-- The order of places is strict.
use Rattle.std.proofs.Common.{ℕ, List, [], ◌∷◌, inl, inr, arith}
use Rattle.mix_tree.specs.Nodes.{PlaceBefore}

-- no place stands before itself
pub place_itself : (p : List ℕ) → PlaceBefore p p → ⊥
place_itself [] h = h
place_itself (i ∷ p) (inl e) = omega arith
place_itself (i ∷ p) (inr e) = place_itself p e.1

-- no two places stand before one another
pub place_both : (p q : List ℕ) → PlaceBefore p q → PlaceBefore q p → ⊥
place_both [] [] h k = h
place_both [] (j ∷ q) h k = k
place_both (i ∷ p) [] h k = h
place_both (i ∷ p) (j ∷ q) (inl e) (inl f) = omega arith
place_both (i ∷ p) (j ∷ q) (inl e) (inr f) = (let d = f.0 in omega (arith, e, d))
place_both (i ∷ p) (j ∷ q) (inr e) (inl f) = (let d = e.0 in omega (arith, f, d))
place_both (i ∷ p) (j ∷ q) (inr e) (inr f) = place_both p q e.1 f.1
