-- When two nodes agree by what a link compares: their labels, or the nodes themselves.
use Rattle.std.proofs.Common.{◌≡◌, ℕ, Bool, true, false, List, Option, Some, refl, ◌∙◌, sym, ap, subst, arith}
use Rattle.std.specs.Cmp.Lexicographic.{bytes_decides}
use Rattle.std.specs.Str.{bytes_eq}
use Rattle.std.proofs.lemmas.Slice.Eq.{bytes_eq-Decides}
use Rattle.mix_tree.specs.Nodes.{Documents, Node, same_node, label_at}
use Rattle.mix_tree.proofs.SameKeys.{same_node-true, same_node-refl}
use Rattle.tree_buffer.specs.declared.spot.Spot.{Spot}
use Rattle.tree_buffer.proofs.Laws.{one_spot}
use Rattle.plan_forms.specs.declared.link.LinkKind.{LinkKind}
use Rattle.plan_forms.specs.declared.link.LinkKind.TheVariants.{Label as by_label, Node as by_node}
use Rattle.lazy_binding.specs.KeyLaws.{part_decides}
use Rattle.lazy_binding.specs.declared.key.KeyPart.TheVariants.{Node as node_part}
use Rattle.lazy_binding.specs.World.{World, spot_node, IsSpotIn}
use Rattle.lazy_binding.proofs.SameKeys.{same_part-is}

-- whether two nodes agree: by label they have the same one, by node they are one
abbrev pub agrees : LinkKind → Documents → Node → Node → Bool
agrees by_label docs m n = bytes_eq (label_at docs m) (label_at docs n)
agrees by_node docs m n = same_node m n

-- two nodes agree by labels or by nodes, or differ, whichever of the two is compared with the other
pub record Agree (by : LinkKind) (docs : Documents) (m n : Node) (verdict : Bool) : Type 0 where
  pub one : agrees by docs m n ≡ verdict
  pub other : agrees by docs n m ≡ verdict

-- equal texts compare as equal
equal : (x y : List ℕ) → x ≡ y → bytes_eq x y ≡ true
equal x y h = grind (arith, bytes_eq-Decides x y, h)

-- nodes of one label agree by label
pub labels_agree : (docs : Documents) (m n : Node) → label_at docs n ≡ label_at docs m → Agree by_label docs m n true
labels_agree docs m n h = record { one = equal (label_at docs m) (label_at docs n) (sym h); other = equal (label_at docs n) (label_at docs m) h }

-- what isn't true is false
pub not_true : (b : Bool) → (b ≡ true → ⊥) → b ≡ false
not_true true h = absurd (h refl)
not_true false h = refl

-- two nodes are alike by what a link compares: by label they have one, by node they are one
abbrev pub Alike : LinkKind → Documents → Node → Node → Type 0
Alike by_label docs m n = label_at docs m ≡ label_at docs n
Alike by_node docs m n = m ≡ n

-- nodes that agree are alike
pub alike_from : (by : LinkKind) (docs : Documents) (m n : Node) → agrees by docs m n ≡ true → Alike by docs m n
alike_from by_label docs m n h = (bytes_decides (label_at docs m) (label_at docs n)).0 h
alike_from by_node docs m n h = same_node-true m n h

-- nodes are alike whichever of the two comes first
pub alike_sym : (by : LinkKind) (docs : Documents) (m n : Node) → Alike by docs m n → Alike by docs n m
alike_sym by_label docs m n h = sym h
alike_sym by_node docs m n h = sym h

-- a spot of a source, as one that is there
abbrev pub some_spot : ℕ → Spot → Option (ℕ × Spot)
some_spot s x = Some (s, x)

-- spots of one node are one
pub one_spot_of : (w : World) (s t : ℕ) (x y : Spot) → IsSpotIn w s x → IsSpotIn w t y → spot_node w s x ≡ spot_node w t y → some_spot s x ≡ some_spot t y
one_spot_of w s t x y h k e = spots ((part_decides (node_part s x) (node_part t y)).0 (same_part-is one_spot w (node_part s x) (node_part t y) h k ∙ same))
  where
    same : same_node (spot_node w s x) (spot_node w t y) ≡ true
    same = subst (λ (z : Node). same_node (spot_node w s x) z ≡ true) e (same_node-refl (spot_node w s x))

    spots : node_part s x ≡ node_part t y → some_spot s x ≡ some_spot t y
    spots f =
        let g : s ≡ t = cc in
        let j : x ≡ y = cc in
        ap (λ (z : ℕ). some_spot z x) g ∙ ap (λ (z : Spot). some_spot t z) j
