-- The nodes of a buffer of which nothing was asked yet.
use Rattle.std.proofs.Common.{◌≡◌, ℕ, zero, suc, ◌<◌, true, [], ◌∷◌, Some, length, get_or, refl, sym, arith}
use Rattle.mix_tree.specs.Forest.{from, first_kids, first_label}
use Rattle.mix_tree.specs.Place.{trees_at}
use Rattle.lxp_core.specs.Open.{nil, hole, closed, AllHoles, IsApart}
use Rattle.lxp_core.specs.View.{View, document}
use Rattle.mix_tree.proofs.Forests.{followed-none}
use Rattle.tree_buffer.specs.Document.{document_node}
use Rattle.tree_buffer.specs.Nodes.{Nodes}
use Rattle.tree_buffer.specs.Sourced.{Sourced}

-- the nodes of a new buffer: the document node alone, of whose children nothing is known
abbrev pub start : View → ℕ → Nodes
start v n = record {
  links = (0, 0) ∷ [];
  counts = 0 ∷ [];
  firsts = 0 ∷ [];
  nexts = 0 ∷ [];
  labels = [] ∷ [];
  rests = hole (v.root n) nil ∷ [];
}

-- the view means the sources of a new buffer's nodes
pub sourced_start : (v : View) (n : ℕ) → n < v.count → v.knows n (v.root n) ≡ true → Sourced v n (start v n)
sourced_start v n h known = record {
  number = h;
  root = known;
  rests = refl;
  labels = refl;
  known = each_known;
  apart = each_apart;
  lighter = omega arith;
  closes = λ told i within. each_closes i within;
  stands = λ told i within. each_stands i within;
}
  where
    each_known : (i : ℕ) → AllHoles (v.knows n) (get_or (hole (v.root n) nil ∷ []) i nil)
    each_known zero = (known, tt)
    each_known (suc i) = tt

    each_apart : (i : ℕ) → IsApart (get_or (hole (v.root n) nil ∷ []) i nil)
    each_apart zero = (refl, tt)
    each_apart (suc i) = tt

    each_closes : (i : ℕ) → i < length (start v n).links → from (get_or (0 ∷ []) i 0) (first_kids (trees_at (document_node v n) (get_or ([] ∷ []) i []))) ≡ closed (v.forest n) (get_or (hole (v.root n) nil ∷ []) i nil)
    each_closes zero within = sym (followed-none (document v n))
    each_closes (suc i) within = absurd (omega arith)

    each_stands : (i : ℕ) → i < length (start v n).links → first_label (trees_at (document_node v n) (get_or ([] ∷ []) i [])) ≡ Some (get_or ([] ∷ []) i [])
    each_stands zero within = refl
    each_stands (suc i) within = absurd (omega arith)
