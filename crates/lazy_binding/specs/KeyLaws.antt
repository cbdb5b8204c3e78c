-- The laws of the comparison of parts of keys.
use Rattle.std.specs.Prelude.{◌≡◌, ℕ, Bool, true, ◌==◌, ◌&&◌, Decides}
use Rattle.std.proofs.Common.{refl, ap, ◌∙◌}
use Rattle.std.specs.Cmp.{IsEquivalence, IsPartialEquivalence, partial_equiv_from_equiv, decided, unsigned_Decides}
use Rattle.std.specs.Cmp.Lexicographic.{bytes_decides}
use Rattle.std.specs.Hash.{Alike, same_Alike}
use Rattle.mix_base.proofs.Choices.{and_parts}
use Rattle.tree_buffer.specs.declared.spot.Spot.{Spot}
use Rattle.lazy_binding.specs.declared.key.KeyPart.{KeyPart}
use Rattle.lazy_binding.specs.declared.key.KeyPart.TheVariants.{Node as node_part, Label as label_part, Free as free_part}
use Rattle.lazy_binding.specs.Keys.{same_part, part_fed}

-- two parts of keys compare as the same exactly where they are equal
pub part_decides : (p q : KeyPart) → Decides (same_part p q) (p ≡ q)
part_decides (node_part s x) (node_part t y) = (λ e. one (and_parts (s == t) (x.number == y.number) e), λ e. two (cc) (cc))
  where
    one : ((s == t) ≡ true) × ((x.number == y.number) ≡ true) → node_part s x ≡ node_part t y
    one h =
        ap (λ (z : ℕ). node_part z x) ((unsigned_Decides s t).0 h.0)
        ∙ ap (λ (z : ℕ). node_part t (record { number = z })) ((unsigned_Decides x.number y.number).0 h.1)

    two : s ≡ t → x ≡ y → (s == t) && (x.number == y.number) ≡ true
    two e f = ap (λ (z : Bool). z && (x.number == y.number)) ((unsigned_Decides s t).1 e) ∙ (unsigned_Decides x.number y.number).1 (ap (λ (z : Spot). z.number) f)
part_decides (label_part a) (label_part b) = (λ e. ap label_part ((bytes_decides a b).0 e), λ e. (bytes_decides a b).1 cc)
part_decides free_part free_part = (λ e. refl, λ e. refl)
part_decides p q = (λ e. cc, λ e. cc)

-- the comparison of parts of keys is an equivalence
pub part_equivalence : IsEquivalence same_part
part_equivalence = decided same_part part_decides

-- the comparison of parts of keys is symmetric and transitive
pub part_partial_equivalence : IsPartialEquivalence same_part
part_partial_equivalence = partial_equiv_from_equiv part_equivalence

-- parts of keys that are the same feed a hasher alike
pub part_alike : Alike same_part part_fed
part_alike = same_Alike part_fed part_decides
