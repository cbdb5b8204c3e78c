-- To which member of a list a tree belongs that stands among the trees of all.
use Rattle.std.proofs.Common.{◌≡◌, ℕ, zero, suc, ◌+◌, ◌<◌, Some, List, [], ◌∷◌, take, refl, ap, arith, length}
use Rattle.std.specs.Prelude.{slice_get}
use Rattle.mix_base.proofs.Choices.{some_is, none_some}
use Rattle.mix_tree.specs.Forest.{Forest, joined}
use Rattle.plan_evidence.proofs.Counts.{count_split}
use Rattle.plan_evidence.proofs.TreeLists.{count, count-followed, AreOnes}

module _ {X : Type 0} (f : X → Forest) where
  -- a tree among those of a member is one among all
  pub in_joined : (xs : List X) (a i : ℕ) (x : X) → slice_get xs a ≡ Some x → i < count (f x) → count (joined f (take a xs)) + i < count (joined f xs)
  in_joined xs a i x e u = let s = count_split f xs a x e in omega (arith, s, u)

  -- a tree among all belongs to one member, and stands at one index among its trees
  pub located : (xs : List X) (a b i k : ℕ) (x y : X) → slice_get xs a ≡ Some x → slice_get xs b ≡ Some y → i < count (f x) → k < count (f y)
      → count (joined f (take a xs)) + i ≡ count (joined f (take b xs)) + k → (a ≡ b) × (i ≡ k)
  located [] a b i k x y e g u w z = none_some x e
  located (q ∷ xs) zero zero i k x y e g u w z = (refl, omega (arith, z))
  located (q ∷ xs) zero (suc b) i k x y e g u w z =
      let c = count-followed (f q) (joined f (take b xs)) in
      let d = ap (λ (r : X). count (f r)) (some_is q x e) in
      absurd (omega (arith, z, c, d, u))
  located (q ∷ xs) (suc a) zero i k x y e g u w z =
      let c = count-followed (f q) (joined f (take a xs)) in
      let d = ap (λ (r : X). count (f r)) (some_is q y g) in
      absurd (omega (arith, z, c, d, w))
  located (q ∷ xs) (suc a) (suc b) i k x y e g u w z =
      let c = count-followed (f q) (joined f (take a xs)) in
      let d = count-followed (f q) (joined f (take b xs)) in
      let r = located xs a b i k x y e g u w (omega (arith, z, c, d)) in
      (ap suc r.0, r.1)

  -- where each member is one tree, all trees are as many as the members
  pub ones_count : (xs : List X) → AreOnes f xs → count (joined f xs) ≡ length xs
  ones_count [] h = refl
  ones_count (x ∷ xs) h =
      let a = count-followed (f x) (joined f xs) in
      let b = ap count h.0.2 in
      let c = ones_count xs h.1 in
      omega (arith, a, b, c)
