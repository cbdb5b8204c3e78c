-- Keys are the same by their spots where they compare the same.
use Rattle.std.proofs.Common.{◌≡◌, ℕ, Bool, true, false, ◌&&◌, ◌||◌, List, [], ◌∷◌, Some, map, refl, ◌∙◌, sym, ap, subst}
use Rattle.std.specs.Prelude.{◌==◌}
use Rattle.std.specs.List.{AllByRecursion}
use Rattle.std.specs.Str.{bytes_eq}
use Rattle.std.specs.Cmp.{both_ways, unsigned_Decides}
use Rattle.std.specs.Cmp.Lexicographic.{bytes_decides}
use Rattle.tree_buffer.specs.declared.buffer.Buffer.{Buffer}
use Rattle.tree_buffer.specs.declared.spot.Spot.{Spot}
use Rattle.tree_buffer.specs.Buffer.{IsSpot, place_of}
use Rattle.tree_buffer.specs.Law.{SpotsAreOne}
use Rattle.plan_core.specs.TolledRows.{same_value, same_values, is_seen}
use Rattle.lazy_binding.specs.declared.key.KeyPart.{KeyPart}
use Rattle.lazy_binding.specs.declared.key.KeyPart.TheVariants.{Node as node_part, Label as label_part, Free as free_part}
use Rattle.lazy_binding.specs.World.{World, of_buffer, place_in, IsSpotIn, part_value, seen_values, IsPart}
use Rattle.lazy_binding.specs.Keys.{same_part, same_parts, was_seen}

module _ (ones : SpotsAreOne) (w : World) where
  -- spots of one source are one where they stand at one place
  same_spot : (s : ℕ) (x y : Spot) → IsSpotIn w s x → IsSpotIn w s y → (x.number == y.number) ≡ bytes_eq (place_in w s x) (place_in w s y)
  same_spot s x y h k =
      both_ways (x.number == y.number) (bytes_eq (place_in w s x) (place_in w s y))
      (λ e. (bytes_decides (place_in w s x) (place_in w s y)).1 (ap (λ (m : ℕ). place_in w s (record { number = m })) ((unsigned_Decides x.number y.number).0 e)))
      (λ e. (unsigned_Decides x.number y.number).1
      (ones h.buffer x y h.spot (subst (λ (b : Buffer). IsSpot b y) same k.spot) (sym (at x) ∙ (bytes_decides (place_in w s x) (place_in w s y)).0 e ∙ at y)))
    where
      same : k.buffer ≡ h.buffer
      same = (let e : Some k.buffer ≡ Some h.buffer = sym k.there ∙ h.there in cc)

      at : (z : Spot) → place_in w s z ≡ place_of h.buffer z
      at z = ap (of_buffer [] (λ (b : Buffer). place_of b z)) h.there

  -- parts are the same where they compare the same
  pub same_part-is : (p q : KeyPart) → IsPart w p → IsPart w q → same_part p q ≡ same_value (part_value w p) (part_value w q)
  same_part-is (node_part s x) (node_part t y) h k = by_case (s == t) refl (same_spot s x)
    where
      by_case : (b : Bool) → (s == t) ≡ b → ((z : Spot) → IsSpotIn w s x → IsSpotIn w s z → (x.number == z.number) ≡ bytes_eq (place_in w s x) (place_in w s z))
          → b && (x.number == y.number) ≡ b && bytes_eq (place_in w s x) (place_in w t y)
      by_case true e f =
          let z : s ≡ t = (unsigned_Decides s t).0 e in
          f y h (subst (λ (r : ℕ). IsSpotIn w r y) (sym z) k) ∙ ap (λ (r : ℕ). bytes_eq (place_in w s x) (place_in w r y)) z
      by_case false e f = refl
  same_part-is (node_part s x) (label_part b) h k = refl
  same_part-is (label_part a) (node_part t y) h k = refl
  same_part-is (label_part a) (label_part b) h k = refl
  same_part-is free_part q h k = absurd h
  same_part-is p free_part h k = absurd k

  -- keys of parts that are known compare by their parts as by their values
  pub same_parts-is : (ps qs : List KeyPart) → AllByRecursion (IsPart w) ps → AllByRecursion (IsPart w) qs → same_parts ps qs ≡ same_values (map (part_value w) ps) (map (part_value w) qs)
  same_parts-is [] [] h k = refl
  same_parts-is [] (q ∷ qs) h k = refl
  same_parts-is (p ∷ ps) [] h k = refl
  same_parts-is (p ∷ ps) (q ∷ qs) h k =
      ap (λ (b : Bool). b && same_parts ps qs) (same_part-is p q h.0 k.0)
      ∙ ap (λ (b : Bool). same_value (part_value w p) (part_value w q) && b) (same_parts-is ps qs h.1 k.1)

  -- a key was seen where what it compares was
  pub was_seen-is : (key : List KeyPart) (seen : List (List KeyPart)) → AllByRecursion (IsPart w) key → AllByRecursion (AllByRecursion (IsPart w)) seen
      → was_seen key seen ≡ is_seen (map (part_value w) key) (seen_values w seen)
  was_seen-is key [] h k = refl
  was_seen-is key (x ∷ seen) h k =
      ap (λ (b : Bool). b || was_seen key seen) (same_parts-is x key k.0 h)
      ∙ ap (λ (b : Bool). same_values (map (part_value w) x) (map (part_value w) key) || b) (was_seen-is key seen h k.1)
