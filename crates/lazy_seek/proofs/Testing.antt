-- Comparisons of the nodes that were found.
use Rattle.std.proofs.Common.{◌≡◌, ℕ, zero, suc, ◌<◌, ◌≤◌, ◌+◌, true, false, List, [], ◌∷◌, refl, sym, ap, subst, ◌∙◌, arith, length, drop}
use Rattle.std.specs.Prelude.{Bool, ◌&&◌, slice_index_or}
use Rattle.std.specs.List.{AllByRecursion, list_all}
use Rattle.mix_tree.specs.Comparisons.{operand_label, passes}
use Rattle.mix_tree.specs.LabelOrder.{compares}
use Rattle.mix_tree.specs.Nodes.{Documents, Node, label_at}
use Rattle.mix_tree.specs.declared.comparing.Test.{Test}
use Rattle.mix_tree.specs.declared.comparing.TestOp.TheVariants.{Same}
use Rattle.mix_tree.proofs.Compared.{passes_labels, of_labels}

-- a comparison of labels holds where it holds of these two
pub label_test : (docs : Documents) (t : Test) (nodes : ℕ → Node) (a b : List ℕ) (r : Bool) → (t.op ≡ Same → ⊥) → a ≡ label_at docs (nodes t.left) → b ≡ operand_label docs t.right nodes
    → r ≡ compares t.op a b → r ≡ passes docs t nodes
label_test docs t nodes a b r other e f h =
    h ∙ ap (λ (x : List ℕ). compares t.op x b) e ∙ ap (compares t.op (label_at docs (nodes t.left))) f ∙ sym (passes_labels docs t nodes (of_labels t.op other))

-- what is so of each member is so of the one at an index
pub each_at : {X : Type 0} (P : X → Type 0) (xs : List X) (i : ℕ) (x : X) → AllByRecursion P xs → i < length xs → x ≡ slice_index_or xs i x → P x
each_at P [] i x all h e = absurd (omega (arith, h))
each_at P (y ∷ xs) zero x all h e = subst P (sym e) all.0
each_at P (y ∷ xs) (suc i) x all h e = each_at P xs i x all.1 (omega (arith, h)) e

-- where a member fails, not all pass
pub one_fails : {X : Type 0} (f : X → Bool) (xs : List X) (i : ℕ) (x : X) → i < length xs → x ≡ slice_index_or xs i x → f x ≡ false → false ≡ list_all f xs
one_fails f [] i x h e g = absurd (omega (arith, h))
one_fails f (y ∷ xs) zero x h e g = sym (ap (λ (b : Bool). b && list_all f xs) (ap f (sym e) ∙ g))
one_fails f (y ∷ xs) (suc i) x h e g = off (f y) (list_all f xs) (one_fails f xs i x (omega (arith, h)) e g)
  where
    off : (a b : Bool) → false ≡ b → false ≡ (a && b)
    off true b z = z
    off false b z = refl

-- where all before an index pass and so does the one there, all before the next one do
pub pass_more : {X : Type 0} (f : X → Bool) (xs : List X) (i : ℕ) (x : X) → i < length xs → x ≡ slice_index_or xs i x → f x ≡ true → list_all f (drop i xs) ≡ list_all f (drop (i + 1) xs)
pass_more f xs i x h e g = (let z : i + 1 ≡ suc i = omega arith in more xs i h e ∙ ap (λ (k : ℕ). list_all f (drop k xs)) (sym z))
  where
    more : (ys : List _) (k : ℕ) → k < length ys → x ≡ slice_index_or ys k x → list_all f (drop k ys) ≡ list_all f (drop (suc k) ys)
    more [] k l q = absurd (omega (arith, l))
    more (y ∷ ys) zero l q = ap (λ (b : Bool). b && list_all f ys) (ap f (sym q) ∙ g)
    more (y ∷ ys) (suc k) l q = more ys k (omega (arith, l)) q

-- behind the last member nothing is left that could fail
pub pass_end : {X : Type 0} (f : X → Bool) (xs : List X) (i : ℕ) → length xs ≤ i → list_all f (drop i xs) ≡ true
pass_end f [] zero h = refl
pass_end f [] (suc i) h = refl
pass_end f (y ∷ xs) zero h = absurd (omega (arith, h))
pass_end f (y ∷ xs) (suc i) h = pass_end f xs i (omega (arith, h))
