-- Lists of sources with the weights of their holes.
use Rattle.std.proofs.Common.{◌≡◌, ℕ, zero, suc, ◌+◌, ◌<◌, ◌≤◌, ◌^◌, List, [], ◌∷◌, ◌++◌, length, get_or, drop, drop-cons, refl, ap, subst, sym, ◌∙◌, arith}
use Rattle.lxp_core.specs.declared.open_tree.HoleId.{HoleId}
use Rattle.lxp_core.specs.declared.open_tree.OpenTree.{OpenTree}
use Rattle.lxp_core.specs.Open as plain
use Rattle.lxp_core.specs.declared.open_tree.OpenTree.TheOpen.{OpenTree-F, Node, Hole}
use Rattle.lxp_core.specs.declared.open_tree.OpenTree.TheFolds.{fold_out-OpenTree}
use Rattle.lxp_core.specs.Plain.{put, put_step, plain as plain_of}
use Rattle.lxp_core.specs.Small.{IsSmallWithin, tops_of}
use Rattle.lxp_core.proofs.Plains.{put-open_followed}
use Rattle.wire_text.specs.Wired.{node, hole, without_weights, with_weights, size_of, wired_followed}
use Rattle.wire_text.specs.Bytes.{trees_bytes, AreTrees}
use Rattle.wire_text.proofs.Trees.{trees_bytes-followed, size_of-followed}
use Rattle.wire_text.proofs.Judged.{are_followed}

module _ (weight : HoleId → ℕ) where
  -- two lists
  pub with_weights-followed : (a b : plain.Open) → with_weights weight (plain.open_followed a b) ≡ wired_followed (with_weights weight a) (with_weights weight b)
  with_weights-followed plain.nil b = refl
  with_weights-followed (plain.node l k r) b = ap (node l (with_weights weight k)) (with_weights-followed r b)
  with_weights-followed (plain.hole i r) b = ap (hole i (weight i)) (with_weights-followed r b)

  -- the weights taken off again
  pub without-with : (o : plain.Open) → without_weights (with_weights weight o) ≡ o
  without-with plain.nil = refl
  without-with (plain.node l k r) = ap (λ a. plain.node l a (without_weights (with_weights weight r))) (without-with k) ∙ ap (plain.node l k) (without-with r)
  without-with (plain.hole i r) = ap (plain.hole i) (without-with r)

  -- a first tree and the others
  pub with_weights-put : (t : OpenTree) (o : plain.Open) → with_weights weight (put t o) ≡ wired_followed (with_weights weight (put t plain.nil)) (with_weights weight o)
  with_weights-put t o = ap (with_weights weight) (put-open_followed t o) ∙ with_weights-followed (put t plain.nil) o

  -- the bytes of the trees from an index on, and those after the first of them
  pub served-step : (ts : List OpenTree) (i : ℕ) (t : OpenTree) → i < length ts → t ≡ get_or ts i t
      → trees_bytes (with_weights weight (plain_of (drop i ts))) ≡ trees_bytes (with_weights weight (put t plain.nil)) ++ trees_bytes (with_weights weight (plain_of (drop (i + 1) ts)))
  served-step ts i t h e =
      ap (λ us. trees_bytes (with_weights weight (plain_of us))) (drop-cons ts i t h ∙ ap (λ n. get_or ts i t ∷ drop n ts) (let k : suc i ≡ i + 1 = omega arith in k))
      ∙ ap (λ u. trees_bytes (with_weights weight (put u (plain_of (drop (i + 1) ts))))) (sym e)
      ∙ ap trees_bytes (with_weights-put t (plain_of (drop (i + 1) ts)))
      ∙ trees_bytes-followed (with_weights weight (put t plain.nil)) (with_weights weight (plain_of (drop (i + 1) ts)))

  -- trees that fit, with one more before the others
  pub are_step : (ts : List OpenTree) (i : ℕ) (t : OpenTree) → i < length ts → t ≡ get_or ts i t → AreTrees (with_weights weight (put t plain.nil))
      → (AreTrees (with_weights weight (plain_of (drop i ts))) → AreTrees (with_weights weight (plain_of ts))) → AreTrees (with_weights weight (plain_of (drop (i + 1) ts))) → AreTrees (with_weights weight (plain_of ts))
  are_step ts i t h e one all later =
      all (subst AreTrees
      (sym (ap (λ us. with_weights weight (plain_of us)) (drop-cons ts i t h ∙ ap (λ n. get_or ts i t ∷ drop n ts) (let k : suc i ≡ i + 1 = omega arith in k))
      ∙ ap (λ u. with_weights weight (put u (plain_of (drop (i + 1) ts)))) (sym e) ∙ with_weights-put t (plain_of (drop (i + 1) ts))))
      (are_followed (with_weights weight (put t plain.nil)) (with_weights weight (plain_of (drop (i + 1) ts))) one later))

-- how many nodes and holes a list has
abbrev pub size_in : plain.Open → ℕ
size_in o = size_of (with_weights (λ h. 0) o)

size-put : (t : OpenTree) (o : plain.Open) → size_in (put t o) ≡ size_in (put t plain.nil) + size_in o
size-put t o = ap size_of (with_weights-put (λ h. 0) t o) ∙ size_of-followed (with_weights (λ h. 0) (put t plain.nil)) (with_weights (λ h. 0) o)

-- no tree of a list is larger than the list
pub open_size_at : (ts : List OpenTree) (i : ℕ) (t : OpenTree) → i < length ts → t ≡ get_or ts i t → size_in (put t plain.nil) ≤ size_in (plain_of ts)
open_size_at [] i t h e = absurd (omega arith)
open_size_at (u ∷ ts) zero t h e = omega (arith, ap (λ v. size_in (put v plain.nil)) e, size-put u (plain_of ts))
open_size_at (u ∷ ts) (suc i) t h e = omega (arith, open_size_at ts i t (omega arith) e, size-put u (plain_of ts))

-- a tree before no others is one
one_put : (x : OpenTree-F (plain.Open → plain.Open)) → tops_of (put_step x plain.nil) ≡ 1
one_put (Node label kids) = refl
one_put (Hole h) = refl

tops-followed : (a b : plain.Open) → tops_of (plain.open_followed a b) ≡ tops_of a + tops_of b
tops-followed plain.nil b = omega arith
tops-followed (plain.node l k r) b = omega (arith, tops-followed r b)
tops-followed (plain.hole i r) b = omega (arith, tops-followed r b)

-- the plain form of a list has as many trees at its top as the list has members
pub tops_of-plain : (ts : List OpenTree) → tops_of (plain_of ts) ≡ length ts
tops_of-plain [] = refl
tops_of-plain (t ∷ ts) =
    let one : tops_of (put t plain.nil) ≡ 1 = subst (λ f. tops_of (f plain.nil) ≡ 1) (sym (fold_out-OpenTree (plain.Open → plain.Open) put_step t)) (one_put _) in
    omega (arith, one, tops_of-plain ts, ap tops_of (put-open_followed t (plain_of ts)), tops-followed (put t plain.nil) (plain_of ts))

-- parts of a small list are small
open_first : (n : ℕ) (a b : plain.Open) → IsSmallWithin n (plain.open_followed a b) → IsSmallWithin n a
open_first n plain.nil b h = tt
open_first zero (plain.node l k r) b h = h
open_first zero (plain.hole i r) b h = h
open_first (suc n) (plain.node l k r) b h = (h.0, h.1, h.2, open_first (suc n) r b h.3)
open_first (suc n) (plain.hole i r) b h = open_first (suc n) r b h

open_second : (n : ℕ) (a b : plain.Open) → IsSmallWithin n (plain.open_followed a b) → IsSmallWithin n b
open_second n plain.nil b h = h
open_second zero (plain.node l k r) b h = absurd h
open_second zero (plain.hole i r) b h = absurd h
open_second (suc n) (plain.node l k r) b h = open_second (suc n) r b h.3
open_second (suc n) (plain.hole i r) b h = open_second (suc n) r b h

-- each tree of a small list is small
pub open_small_at : (n : ℕ) (ts : List OpenTree) (i : ℕ) (t : OpenTree) → i < length ts → t ≡ get_or ts i t → IsSmallWithin n (plain_of ts) → IsSmallWithin n (put t plain.nil)
open_small_at n [] i t h e small = absurd (omega arith)
open_small_at n (u ∷ ts) zero t h e small =
    subst (λ v. IsSmallWithin n (put v plain.nil)) (sym e) (open_first n (put u plain.nil) (plain_of ts) (subst (IsSmallWithin n) (put-open_followed u (plain_of ts)) small))
open_small_at n (u ∷ ts) (suc i) t h e small =
    open_small_at n ts i t (omega arith) e (open_second n (put u plain.nil) (plain_of ts) (subst (IsSmallWithin n) (put-open_followed u (plain_of ts)) small))

-- what a small node has
pub record IsSmallOpen (label : List ℕ) (kids : plain.Open) : Type 0 where
  pub short : length label < 2 ^ 32
  pub few : tops_of kids < 2 ^ 32
  pub small : (n : ℕ) × IsSmallWithin n kids

-- a small node has small parts
pub small_open : (n : ℕ) (label : List ℕ) (kids : plain.Open) → IsSmallWithin n (plain.node label kids plain.nil) → IsSmallOpen label kids
small_open zero label kids h = absurd h
small_open (suc n) label kids h = record { short = h.0; few = h.1; small = (n, h.2) }
