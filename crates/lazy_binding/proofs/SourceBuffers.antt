-- A buffer for each source, one more at a time.
use Rattle.std.proofs.Common.{◌≡◌, ◌+◌, ℕ, zero, suc, List, [], ◌∷◌, ◌++◌, Some, length, sym, subst, arith}
use Rattle.std.specs.Prelude.{slice_get}
use Rattle.lxp_core.specs.View.{View}
use Rattle.tree_buffer.specs.declared.buffer.Buffer.{Buffer}
use Rattle.tree_buffer.specs.Buffer.{IsSourcesOf, number_of}
use Rattle.lazy_binding.specs.Opening.{AreBuffers}

-- what is so of each member by its index, and of one more at the end, is so of each of all of them
member_more : {X : Type 0} (P : ℕ → X → Type 0) (xs : List X) (b : X) (base : ℕ) → ((k : ℕ) (d : X) → slice_get xs k ≡ Some d → P (base + k) d) → P (base + length xs) b
    → (n : ℕ) (c : X) → slice_get (xs ++ b ∷ []) n ≡ Some c → P (base + n) c
member_more P [] b base f g zero c t = let e : b ≡ c = cc in subst (P (base + 0)) e g
member_more P [] b base f g (suc n) c t = cc
member_more P (x ∷ xs) b base f g zero c t = f 0 c t
member_more P (x ∷ xs) b base f g (suc n) c t =
    let shift : (k : ℕ) → suc base + k ≡ base + suc k = λ k. (let z : suc base + k ≡ base + suc k = omega arith in z) in
    subst (λ (m : ℕ). P m c) (shift n)
    (member_more P xs b (suc base) (λ k d h. subst (λ (m : ℕ). P m d) (sym (shift k)) (f (suc k) d h)) (subst (λ (m : ℕ). P m b) (sym (shift (length xs))) g) n c t)

-- a number counted on from zero is the number
from_zero : (k : ℕ) → 0 + k ≡ k
from_zero k = omega arith

-- buffers of the sources, with one more of the next source at the end, are buffers of the sources
pub buffers_more : (v : View) (bs : List Buffer) (b : Buffer) → AreBuffers v bs → number_of b ≡ length bs → IsSourcesOf v b → AreBuffers v (bs ++ b ∷ [])
buffers_more v bs b h e s n c there = subst (λ (m : ℕ). (number_of c ≡ m) × IsSourcesOf v c) (from_zero n) (member_more (λ m d. (number_of d ≡ m) × IsSourcesOf v d) bs b 0 (λ k d g. subst (λ (m : ℕ). (number_of d ≡ m) × IsSourcesOf v d) (sym (from_zero k)) (h k d g)) (subst (λ (m : ℕ). (number_of b ≡ m) × IsSourcesOf v b) (sym (from_zero (length bs))) (e, s)) n c there)
