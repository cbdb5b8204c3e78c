-- No reply begins another.
use Rattle.std.proofs.Common.{◌≡◌, ℕ, ◌^◌, ◌<◌, List, ◌++◌, length, get_or, drop, refl, sym, ap, ◌∙◌, append_assoc, arith}
use Rattle.lxp_core.specs.declared.open_tree.HoleId.{HoleId}
use Rattle.wire_text.specs.Wired.{Wired, nil, node, hole, count_of}
use Rattle.wire_text.specs.Bytes.{u32_bytes, u128_bytes, words_bytes, hole_bytes, label_bytes, trees_bytes, IsHole, AreTrees}
use Rattle.wire_text.specs.Reply.{count, root, list, failed, unknown_hole, no_memory, no_source, RepliesAreApart}
use Rattle.wire_text.proofs.Widths.{wide32, wide128, number_one, words_one, prefixes}

-- two holes with their weights at the beginning of one text are one
pub hole_one : (i j : HoleId) (v w : ℕ) (x y : List ℕ) → IsHole i → IsHole j → v < 2 ^ 128 → w < 2 ^ 128 → hole_bytes i v ++ x ≡ hole_bytes j w ++ y
    → (i ≡ j) × ((v ≡ w) × (x ≡ y))
hole_one i j v w x y h k m n e =
    let regrouped : words_bytes i ++ (u128_bytes v ++ x) ≡ words_bytes j ++ (u128_bytes w ++ y) =
    sym (append_assoc (words_bytes i) (u128_bytes v) x) ∙ e ∙ append_assoc (words_bytes j) (u128_bytes w) y in
    let first = words_one i j (u128_bytes v ++ x) (u128_bytes w ++ y) h k regrouped in
    (first.0, number_one u128_bytes 16 (2 ^ 128) wide128 v w x y m n first.1)

-- two labels at the beginning of one text are one
pub label_one : (l m : List ℕ) (x y : List ℕ) → length l < 2 ^ 32 → length m < 2 ^ 32 → label_bytes l ++ x ≡ label_bytes m ++ y → (l ≡ m) × (x ≡ y)
label_one l m x y h k e =
    let regrouped : u32_bytes (length l) ++ (l ++ x) ≡ u32_bytes (length m) ++ (m ++ y) =
    sym (append_assoc (u32_bytes (length l)) l x) ∙ e ∙ append_assoc (u32_bytes (length m)) m y in
    let first = number_one u32_bytes 4 (2 ^ 32) wide32 (length l) (length m) (l ++ x) (m ++ y) h k regrouped in
    prefixes l m x y (length l) refl (sym first.0) first.1

node_parts : (a k t r x : List ℕ) → (a ++ ((k ++ t) ++ r)) ++ x ≡ a ++ (k ++ (t ++ (r ++ x)))
node_parts a k t r x = simp append_assoc

-- as many trees at the beginning of one text are the same
pub trees_one : (o p : Wired) (x y : List ℕ) → AreTrees o → AreTrees p → count_of o ≡ count_of p → trees_bytes o ++ x ≡ trees_bytes p ++ y → (o ≡ p) × (x ≡ y)
trees_one nil nil x y h k n e = (refl, e)
trees_one nil (node l c r) x y h k n e = absurd (omega arith)
trees_one nil (hole i w r) x y h k n e = absurd (omega arith)
trees_one (node l c r) nil x y h k n e = absurd (omega arith)
trees_one (hole i w r) nil x y h k n e = absurd (omega arith)
trees_one (node l c r) (hole i w s) x y h k n e = absurd (omega (arith, ap (λ b. get_or b 0 0) e))
trees_one (hole i w s) (node l c r) x y h k n e = absurd (omega (arith, ap (λ b. get_or b 0 0) e))
trees_one (node l c r) (node m d s) x y h k n e =
    let inner : label_bytes l ++ (u32_bytes (count_of c) ++ (trees_bytes c ++ (trees_bytes r ++ x))) ≡ label_bytes m ++ (u32_bytes (count_of d) ++ (trees_bytes d ++ (trees_bytes s ++ y))) =
    sym (node_parts (label_bytes l) (u32_bytes (count_of c)) (trees_bytes c) (trees_bytes r) x) ∙ ap (drop 1) e
    ∙ node_parts (label_bytes m) (u32_bytes (count_of d)) (trees_bytes d) (trees_bytes s) y in
    let label = label_one l m (u32_bytes (count_of c) ++ (trees_bytes c ++ (trees_bytes r ++ x))) (u32_bytes (count_of d) ++ (trees_bytes d ++ (trees_bytes s ++ y))) h.1 k.1 inner in
    let number = number_one u32_bytes 4 (2 ^ 32) wide32 (count_of c) (count_of d) (trees_bytes c ++ (trees_bytes r ++ x)) (trees_bytes d ++ (trees_bytes s ++ y)) h.2 k.2 label.1 in
    let kids = trees_one c d (trees_bytes r ++ x) (trees_bytes s ++ y) h.3 k.3 number.0 number.1 in
    let others = trees_one r s x y h.4 k.4 (omega arith) kids.1 in
    (ap (λ a. node a c r) label.0 ∙ ap (λ a. node m a r) kids.0 ∙ ap (node m d) others.0, others.1)
trees_one (hole i v r) (hole j w s) x y h k n e =
    let inner : hole_bytes i v ++ (trees_bytes r ++ x) ≡ hole_bytes j w ++ (trees_bytes s ++ y) =
    sym (append_assoc (hole_bytes i v) (trees_bytes r) x) ∙ ap (drop 1) e ∙ append_assoc (hole_bytes j w) (trees_bytes s) y in
    let first = hole_one i j v w (trees_bytes r ++ x) (trees_bytes s ++ y) h.0 k.0 h.1 k.1 inner in
    let others = trees_one r s x y h.2 k.2 (omega arith) first.1.1 in
    (ap (λ a. hole a v r) first.0 ∙ ap (λ a. hole j a r) first.1.0 ∙ ap (hole j w) others.0, others.1)

-- no reply begins another
pub replies_apart : RepliesAreApart
replies_apart (count n) (count m) x y h k e = let both = number_one u32_bytes 4 (2 ^ 32) wide32 n m x y h k (ap (drop 1) e) in (ap count both.0, both.1)
replies_apart (root i v) (root j w) x y h k e =
    let both = hole_one i j v w x y h.0 k.0 h.1 k.1 (ap (drop 1) e) in
    (ap (λ a. root a v) both.0 ∙ ap (root j) both.1.0, both.1.1)
replies_apart (list o) (list p) x y h k e =
    let inner : u32_bytes (count_of o) ++ (trees_bytes o ++ x) ≡ u32_bytes (count_of p) ++ (trees_bytes p ++ y) =
    sym (append_assoc (u32_bytes (count_of o)) (trees_bytes o) x) ∙ ap (drop 1) e ∙ append_assoc (u32_bytes (count_of p)) (trees_bytes p) y in
    let first = number_one u32_bytes 4 (2 ^ 32) wide32 (count_of o) (count_of p) (trees_bytes o ++ x) (trees_bytes p ++ y) h.0 k.0 inner in
    let both = trees_one o p x y h.1 k.1 first.0 first.1 in
    (ap list both.0, both.1)
replies_apart failed failed x y h k e = (refl, ap (drop 1) e)
replies_apart unknown_hole unknown_hole x y h k e = (refl, ap (drop 1) e)
replies_apart no_memory no_memory x y h k e = (refl, ap (drop 1) e)
replies_apart no_source no_source x y h k e = (refl, ap (drop 1) e)
replies_apart (count n) (root j w) x y h k e = absurd (omega (arith, ap (λ b. get_or b 0 0) e))
replies_apart (count n) (list p) x y h k e = absurd (omega (arith, ap (λ b. get_or b 0 0) e))
replies_apart (count n) failed x y h k e = absurd (omega (arith, ap (λ b. get_or b 0 0) e))
replies_apart (count n) unknown_hole x y h k e = absurd (omega (arith, ap (λ b. get_or b 0 0) e))
replies_apart (count n) no_memory x y h k e = absurd (omega (arith, ap (λ b. get_or b 0 0) e))
replies_apart (count n) no_source x y h k e = absurd (omega (arith, ap (λ b. get_or b 0 0) e))
replies_apart (root i v) (count m) x y h k e = absurd (omega (arith, ap (λ b. get_or b 0 0) e))
replies_apart (root i v) (list p) x y h k e = absurd (omega (arith, ap (λ b. get_or b 0 0) e))
replies_apart (root i v) failed x y h k e = absurd (omega (arith, ap (λ b. get_or b 0 0) e))
replies_apart (root i v) unknown_hole x y h k e = absurd (omega (arith, ap (λ b. get_or b 0 0) e))
replies_apart (root i v) no_memory x y h k e = absurd (omega (arith, ap (λ b. get_or b 0 0) e))
replies_apart (root i v) no_source x y h k e = absurd (omega (arith, ap (λ b. get_or b 0 0) e))
replies_apart (list o) (count m) x y h k e = absurd (omega (arith, ap (λ b. get_or b 0 0) e))
replies_apart (list o) (root j w) x y h k e = absurd (omega (arith, ap (λ b. get_or b 0 0) e))
replies_apart (list o) failed x y h k e = absurd (omega (arith, ap (λ b. get_or b 0 0) e))
replies_apart (list o) unknown_hole x y h k e = absurd (omega (arith, ap (λ b. get_or b 0 0) e))
replies_apart (list o) no_memory x y h k e = absurd (omega (arith, ap (λ b. get_or b 0 0) e))
replies_apart (list o) no_source x y h k e = absurd (omega (arith, ap (λ b. get_or b 0 0) e))
replies_apart failed (count m) x y h k e = absurd (omega (arith, ap (λ b. get_or b 0 0) e))
replies_apart failed (root j w) x y h k e = absurd (omega (arith, ap (λ b. get_or b 0 0) e))
replies_apart failed (list p) x y h k e = absurd (omega (arith, ap (λ b. get_or b 0 0) e))
replies_apart failed unknown_hole x y h k e = absurd (omega (arith, ap (λ b. get_or b 0 0) e))
replies_apart failed no_memory x y h k e = absurd (omega (arith, ap (λ b. get_or b 0 0) e))
replies_apart failed no_source x y h k e = absurd (omega (arith, ap (λ b. get_or b 0 0) e))
replies_apart unknown_hole (count m) x y h k e = absurd (omega (arith, ap (λ b. get_or b 0 0) e))
replies_apart unknown_hole (root j w) x y h k e = absurd (omega (arith, ap (λ b. get_or b 0 0) e))
replies_apart unknown_hole (list p) x y h k e = absurd (omega (arith, ap (λ b. get_or b 0 0) e))
replies_apart unknown_hole failed x y h k e = absurd (omega (arith, ap (λ b. get_or b 0 0) e))
replies_apart unknown_hole no_memory x y h k e = absurd (omega (arith, ap (λ b. get_or b 0 0) e))
replies_apart unknown_hole no_source x y h k e = absurd (omega (arith, ap (λ b. get_or b 0 0) e))
replies_apart no_memory (count m) x y h k e = absurd (omega (arith, ap (λ b. get_or b 0 0) e))
replies_apart no_memory (root j w) x y h k e = absurd (omega (arith, ap (λ b. get_or b 0 0) e))
replies_apart no_memory (list p) x y h k e = absurd (omega (arith, ap (λ b. get_or b 0 0) e))
replies_apart no_memory failed x y h k e = absurd (omega (arith, ap (λ b. get_or b 0 0) e))
replies_apart no_memory unknown_hole x y h k e = absurd (omega (arith, ap (λ b. get_or b 0 0) e))
replies_apart no_memory no_source x y h k e = absurd (omega (arith, ap (λ b. get_or b 0 0) e))
replies_apart no_source (count m) x y h k e = absurd (omega (arith, ap (λ b. get_or b 0 0) e))
replies_apart no_source (root j w) x y h k e = absurd (omega (arith, ap (λ b. get_or b 0 0) e))
replies_apart no_source (list p) x y h k e = absurd (omega (arith, ap (λ b. get_or b 0 0) e))
replies_apart no_source failed x y h k e = absurd (omega (arith, ap (λ b. get_or b 0 0) e))
replies_apart no_source unknown_hole x y h k e = absurd (omega (arith, ap (λ b. get_or b 0 0) e))
replies_apart no_source no_memory x y h k e = absurd (omega (arith, ap (λ b. get_or b 0 0) e))
