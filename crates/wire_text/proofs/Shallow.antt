-- Lists of at most so many levels, by their places and by their form.
use Rattle.std.proofs.Common.{◌≡◌, ℕ, zero, suc, ◌+◌, length, refl, ap, sym, ◌∙◌}
use Rattle.std.specs.Prelude.{Option, Some, None, option_map}
use Rattle.mix_base.proofs.Choices.{none_some}
use Rattle.lxp_core.specs.Small.{IsSmallWithin}
use Rattle.wire_text.specs.Wired.{Wired, nil, node, hole, without_weights}
use Rattle.wire_text.specs.Bytes.{label_bytes, trees_bytes, AreTrees}
use Rattle.wire_text.specs.Reply.{first_place, deep_place}
use Rattle.wire_text.specs.Replies.{ReadListsAreSmall}

-- a small list has no place too deep
pub small_shallow : (n : ℕ) (o : Wired) → IsSmallWithin n (without_weights o) → deep_place n o ≡ None
small_shallow n nil h = refl
small_shallow zero (node l k r) h = absurd h
small_shallow zero (hole i w r) h = absurd h
small_shallow (suc n) (node l k r) h =
    let head = length (label_bytes l) + 5 in
    ap (λ p. first_place (option_map (λ i. head + i) p) (head + length (trees_bytes k)) (deep_place (suc n) r)) (small_shallow n k h.2)
    ∙ ap (option_map (λ i. head + length (trees_bytes k) + i)) (small_shallow (suc n) r h.3)
small_shallow (suc n) (hole i w r) h = ap (option_map (λ n. 41 + n)) (small_shallow (suc n) r h)

not_mapped : (f : ℕ → ℕ) (o : Option ℕ) → option_map f o ≡ None → o ≡ None
not_mapped f None h = refl
not_mapped f (Some i) h = none_some (f i) (sym h)

not_first : (o : Option ℕ) (len : ℕ) (later : Option ℕ) → first_place o len later ≡ None → (o ≡ None) × (later ≡ None)
not_first (Some i) len later h = none_some i (sym h)
not_first None len later h = (refl, not_mapped (λ i. len + i) later h)

-- a list of a reply with no place too deep is small
pub shallow_small : (n : ℕ) (o : Wired) → AreTrees o → deep_place n o ≡ None → IsSmallWithin n (without_weights o)
shallow_small n nil are h = tt
shallow_small zero (node l k r) are h = none_some 0 (sym h)
shallow_small zero (hole i w r) are h = none_some 0 (sym h)
shallow_small (suc n) (node l k r) are h =
    let head = length (label_bytes l) + 5 in
    let parts = not_first (option_map (λ i. head + i) (deep_place n k)) (head + length (trees_bytes k)) (deep_place (suc n) r) h in
    (are.1, are.2, shallow_small n k are.3 (not_mapped (λ i. head + i) (deep_place n k) parts.0), shallow_small (suc n) r are.4 parts.1)
shallow_small (suc n) (hole i w r) are h = shallow_small (suc n) r are.2 (not_mapped (λ n. 41 + n) (deep_place (suc n) r) h)

-- a list that is read is small enough for a wire
pub lists_small : ReadListsAreSmall
lists_small x o p = (p.0.0.0, shallow_small 200 o p.0.0.1 (not_mapped (λ n. 5 + n) (deep_place 200 o) p.1))
