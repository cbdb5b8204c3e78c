-- Labels of spots.
use Rattle.std.proofs.Common.{◌≡◌, ◌<◌, ℕ, zero, suc, Bool, true, cond, List, [], ◌∷◌, Some, None, length, ◌∙◌, sym, ap, subst, arith}
use Rattle.std.proofs.Common.{get_or}
use Rattle.std.proofs.lemmas.Option.{get_or_from_slice_get}
use Rattle.std.specs.Prelude.{IsTrue, nat_lt, slice_get}
use Rattle.std.specs.List.{list_all}
use Rattle.std.proofs.lemmas.Bool.Decides.{nat_tests}
use Rattle.mix_base.proofs.Choices.{and_parts}
use Rattle.mix_tree.specs.Forest.{Forest, none, tree, first_label}
use Rattle.mix_tree.specs.Place.{trees_at}
use Rattle.mix_tree.specs.Nodes.{label_at, label_of_first}
use Rattle.lxp_core.specs.View.{document}
use Rattle.tree_buffer.specs.declared.buffer.Buffer.{Buffer}
use Rattle.tree_buffer.specs.declared.spot.Spot.{Spot}
use Rattle.tree_buffer.specs.Document.{document_node}
use Rattle.tree_buffer.specs.Buffer.{number_of, place_of, label_of}
use Rattle.plan_core.specs.Plans.{Operator}
use Rattle.plan_core.specs.Shapes.{Shape, one_source, shape_of, shape_at}
use Rattle.plan_core.specs.TolledRows.{source_node}
use Rattle.lazy_binding.specs.declared.position.Position.{Position}
use Rattle.lazy_binding.specs.Bench.{IsBench}
use Rattle.lazy_binding.specs.World.{World, docs_of, shape_reads, reads, is_told, is_forward, of_buffer, buffer_at, spot_node, IsSpotIn}
use Rattle.lazy_binding.specs.Cursors.{IsRead, source_number}
use Rattle.lazy_binding.specs.Reading.{Found}
use Rattle.lazy_binding.specs.Spots.{spot_in}
use Rattle.lazy_binding.proofs.Spots.{IsSpotOf}

-- what is read at an index of a list is what stands there
pub read_is : {X : Type 0} (xs : List X) (i : ℕ) (x y : X) → slice_get xs i ≡ Some x → y ≡ get_or xs i y → y ≡ x
read_is xs i x y e h = h ∙ get_or_from_slice_get xs i x y e

-- what is true of a shape that reads a source is true of the source
of_shape : (test : ℕ → Bool) (f : Shape) (s : ℕ) → source_number f ≡ Some s → shape_reads test f ≡ true → test s ≡ true
of_shape test (one_source r out) s e t = (let g : r ≡ s = cc in ap test (sym g) ∙ t)
of_shape test f s e t = cc

-- what all operators read is true of each
all_read : (test : ℕ → Bool) (ops : List Operator) (n : ℕ) → n < length ops → (s : ℕ) → source_number (shape_at ops n) ≡ Some s → list_all (reads test) ops ≡ true → test s ≡ true
all_read test [] n h s e t = absurd (omega (arith, h))
all_read test (o ∷ ops) zero h s e t = of_shape test (shape_of o) s e (and_parts (reads test o) (list_all (reads test) ops) t).0
all_read test (o ∷ ops) (suc n) h s e t = all_read test ops n (omega (arith, h)) s e (and_parts (reads test o) (list_all (reads test) ops) t).1

-- where the sources that operators read are told, each of them is
pub told_read : (w : World) (ops : List Operator) (s : ℕ) → IsRead ops s → IsTrue (is_told w ops) → w.view.told s ≡ true
told_read w ops s r t = all_read w.view.told ops r.number r.within s r.is t

-- where the sources that operators read are forward, each of them is
pub forward_read : (w : World) (ops : List Operator) (s : ℕ) → IsRead ops s → IsTrue (is_forward w ops) → w.view.forward s ≡ true
forward_read w ops s r t = all_read w.view.forward ops r.number r.within s r.is t

-- the label of the first tree, where there is one, is the label of the trees' first
first_is : (f : Forest) (l : List ℕ) → first_label f ≡ Some l → label_of_first f ≡ l
first_is none l e = cc
first_is (tree x kids rest) l e = cc

-- the number of a source with a buffer is one of the sources'
pub source_within : (w : World) (ops : List Operator) → IsBench w ops → (s : ℕ) (b : Buffer) → buffer_at w s ≡ Some b → docs_of w s ≡ document w.view s
source_within w ops bench s b there =
    let z = bench.sources s b there in
    let e : s < w.view.count = subst (λ (m : ℕ). m < w.view.count) z.0 z.1.count in
    let f : nat_lt s w.view.count ≡ true = grind (arith, nat_tests, e) in
    ap (λ (t : Bool). cond t (document w.view s) none) f

-- the buffer's label of a spot is the document's
pub spot_label : (w : World) (ops : List Operator) → IsBench w ops → (s : ℕ) (x : Spot) (k : IsSpotIn w s x) → IsRead ops s → IsTrue (is_told w ops)
    → label_of k.buffer x ≡ label_at (docs_of w) (spot_node w s x)
spot_label w ops bench s x k r t =
    let z = bench.sources s k.buffer k.there in
    let told : w.view.told (number_of k.buffer) ≡ true = ap w.view.told z.0 ∙ told_read w ops s r t in
    sym (first_is (trees_at (document_node w.view (number_of k.buffer)) (place_of k.buffer x)) (label_of k.buffer x) (z.1.label told x k.spot))
    ∙ ap (λ (m : ℕ). label_of_first (trees_at (document_node w.view m) (place_of k.buffer x))) z.0
    ∙ ap (λ (f : Forest). label_of_first (trees_at (tree [] f none) (place_of k.buffer x))) (sym (source_within w ops bench s k.buffer k.there))
    ∙ ap (λ (p : List ℕ). label_of_first (trees_at (tree [] (docs_of w s) none) p)) (sym (ap (of_buffer [] (λ (b : Buffer). place_of b x)) k.there))

-- what was found is the variable's spot
pub found_is : (w : World) (ops : List Operator) (n : ℕ) (c : Position) (v s : ℕ) (x : Spot) → IsSpotOf w ops n c v → spot_in ops n c v ≡ Some (s, x) → Found w ops n c v s x
found_is w ops n c v s x k e =
    subst (λ (p : ℕ × Spot). Found w ops n c v p.0 p.1) (same (k.source, k.spot) (s, x) (sym k.is ∙ e)) (record { read = k.read; known = k.known; node = ap source_node k.value })
  where
    same : (p q : ℕ × Spot) → Some p ≡ Some q → p ≡ q
    same p q h = cc

-- a value that is none is not some value
no_value : {X : Type 0} (x : X) → None ≡ Some x → ⊥
no_value x h = cc

-- a variable that has a spot has one
pub has_spot : (w : World) (ops : List Operator) (n : ℕ) (c : Position) (v : ℕ) → IsSpotOf w ops n c v → spot_in ops n c v ≡ None → ⊥
has_spot w ops n c v k e = no_value (k.source, k.spot) (sym e ∙ k.is)
