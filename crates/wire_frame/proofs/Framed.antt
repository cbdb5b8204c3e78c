-- Replies are framed.
use Rattle.std.proofs.Common.{◌≡◌, ℕ, suc, ◌+◌, ◌^◌, ◌<◌, ◌≤◌, [], ◌∷◌, ◌++◌, length, refl, sym, ap, subst, ◌∙◌, arith}
use Rattle.std.proofs.lemmas.List.{length-append}
use Rattle.std.proofs.lemmas.Nat.{from_be_bytes-to_be_bytes_4}
use Rattle.std.proofs.lemmas.Bool.Decides.{nat_tests}
use Rattle.mix_base.proofs.Lists.{take_whole}
use Rattle.lxp_core.specs.declared.open_tree.HoleId.{HoleId}
use Rattle.wire_text.specs.Wired.{Wired, nil, node, hole, count_of}
use Rattle.wire_text.specs.Bytes.{u32_bytes, u128_bytes, words_bytes, hole_bytes, label_bytes, trees_bytes, AreTrees}
use Rattle.wire_text.specs.Reply.{Said, count, root, list, failed, unknown_hole, no_memory, no_source, reply_bytes, IsReply}
use Rattle.wire_text.proofs.Widths.{wide32, wide128, length-words}
use Rattle.wire_frame.specs.Standing.{at_reply, at_length, at_count, at_tree, lost, after, before_label, before_rest, before_trees, standing_after}
use Rattle.wire_frame.specs.Frames.{RepliesAreWhole, WholeIsTheReply, LostIsNoReply}
use Rattle.wire_frame.proofs.Passing.{label_passed, rest_passed}
use Rattle.wire_frame.proofs.Standings.{after-append, lost_stays, goes_on_before}

-- the length of a label is read
length_read : (n trees : ℕ) → n < 2 ^ 32 → after (at_length [] trees) (u32_bytes n) ≡ before_label n trees
unfolding u32_bytes
length_read n trees few = ap (λ m. before_label m trees) (from_be_bytes-to_be_bytes_4 n few)

-- the number of trees of a list is read
count_read : (n trees : ℕ) → n < 2 ^ 32 → after (at_count [] trees) (u32_bytes n) ≡ before_trees (trees + n)
unfolding u32_bytes
count_read n trees few = ap (λ m. before_trees (trees + m)) (from_be_bytes-to_be_bytes_4 n few)

-- fewer than 2^64 trees can come
few_trees : (n : ℕ) → n < 2 ^ 64 → before_trees n ≡ at_tree n
few_trees n few = grind (arith, nat_tests)

-- a hole and its weight have forty bytes
length-hole : (id : HoleId) (w : ℕ) → length (hole_bytes id w) ≡ 40
length-hole id w = omega (arith, length-append (words_bytes id) (u128_bytes w), length-words id, wide128.len w)

-- each tree has a byte
enough : (o : Wired) → count_of o ≤ length (trees_bytes o)
enough nil = omega arith
enough (node label kids rest) =
    omega (arith, enough rest, length-append (label_bytes label) ((u32_bytes (count_of kids) ++ trees_bytes kids) ++ trees_bytes rest), length-append (u32_bytes (count_of kids) ++ trees_bytes kids) (trees_bytes rest))
enough (hole id w rest) = omega (arith, enough rest, length-append (hole_bytes id w) (trees_bytes rest))

-- trees are read
trees_read : (o : Wired) (n : ℕ) → AreTrees o → length (trees_bytes o) + n < 2 ^ 64 → after (at_tree (count_of o + n)) (trees_bytes o) ≡ at_tree n
trees_read nil n are few = let e : 0 + n ≡ n = omega arith in ap at_tree e
trees_read (node label kids rest) n are few =
    let others = count_of rest + n in
    let len = length-append (label_bytes label) ((u32_bytes (count_of kids) ++ trees_bytes kids) ++ trees_bytes rest) in
    let more = length-append (u32_bytes (count_of kids) ++ trees_bytes kids) (trees_bytes rest) in
    let below = length-append (u32_bytes (count_of kids)) (trees_bytes kids) in
    let e : count_of rest + 1 + n ≡ suc others = omega arith in
    let turned : others + count_of kids ≡ count_of kids + others = omega arith in
    let k = trees_bytes kids in
    let r = trees_bytes rest in
    let c = u32_bytes (count_of kids) in
    let l = u32_bytes (length label) in
    ap (λ m. after (at_tree m) (0 ∷ (label_bytes label ++ ((c ++ k) ++ r)))) e
    ∙ after-append (at_length [] others) (l ++ label) ((c ++ k) ++ r)
    ∙ ap (λ s. after s ((c ++ k) ++ r))
    (after-append (at_length [] others) l label ∙ ap (λ s. after s label) (length_read (length label) others are.1) ∙ label_passed (length label) 0 others label (omega arith))
    ∙ after-append (at_count [] others) (c ++ k) r
    ∙ ap (λ s. after s r)
    (after-append (at_count [] others) c k
    ∙ ap (λ s. after s k) (count_read (count_of kids) others are.2 ∙ few_trees (others + count_of kids) (omega (arith, few, len, more, below, enough kids, enough rest)) ∙ ap at_tree turned)
    ∙ trees_read kids others are.3 (omega (arith, few, len, more, below, enough rest)))
    ∙ trees_read rest n are.4 (omega (arith, few, len, more))
trees_read (hole id w rest) n are few =
    let others = count_of rest + n in
    let e : count_of rest + 1 + n ≡ suc others = omega arith in
    ap (λ m. after (at_tree m) (1 ∷ (hole_bytes id w ++ trees_bytes rest))) e
    ∙ after-append (before_rest 40 others) (hole_bytes id w) (trees_bytes rest)
    ∙ ap (λ s. after s (trees_bytes rest)) (rest_passed 40 0 others (hole_bytes id w) (omega (arith, length-hole id w)))
    ∙ trees_read rest n are.2 (omega (arith, few, length-append (hole_bytes id w) (trees_bytes rest)))

-- a reply is read
reply_read : (r : Said) → IsReply r → length (reply_bytes r) < 2 ^ 64 → standing_after (reply_bytes r) ≡ at_tree 0
reply_read (count n) is few = rest_passed 4 0 0 (u32_bytes n) (omega (arith, wide32.len n))
reply_read (root id w) is few = rest_passed 40 0 0 (hole_bytes id w) (omega (arith, length-hole id w))
reply_read (list o) is few =
    let e : 0 + count_of o ≡ count_of o + 0 = omega arith in
    let len = length-append (u32_bytes (count_of o)) (trees_bytes o) in
    after-append (at_count [] 0) (u32_bytes (count_of o)) (trees_bytes o)
    ∙ ap (λ s. after s (trees_bytes o))
    (count_read (count_of o) 0 is.0 ∙ few_trees (0 + count_of o) (omega (arith, few, len, enough o)) ∙ ap at_tree e)
    ∙ trees_read o 0 is.1 (omega (arith, few, len))
reply_read failed is few = refl
reply_read unknown_hole is few = refl
reply_read no_memory is few = refl
reply_read no_source is few = refl

-- a reply is whole after its last byte, and goes on before it
pub replies_whole : RepliesAreWhole
replies_whole x r is =
    let whole : standing_after x ≡ at_tree 0 = ap standing_after is.0.1 ∙ reply_read r is.0.0 (subst (λ y. length y < 2 ^ 64) is.0.1 is.1) in
    (whole, λ n short. goes_on_before at_reply x n whole short)

-- bytes that are whole and begin a reply are that reply
pub whole_is_the_reply : WholeIsTheReply
whole_is_the_reply [] y r e is = absurd cc
whole_is_the_reply (b ∷ x) [] r e is = refl
whole_is_the_reply (b ∷ x) (c ∷ y) r e is =
    let all = b ∷ x in
    let on = (replies_whole (all ++ (c ∷ y)) r is).1 (length all) (omega (arith, length-append all (c ∷ y))) in
    absurd (on.not_whole (ap standing_after (take_whole all (c ∷ y) (length all) refl) ∙ e))

-- lost bytes begin no reply
pub lost_is_no_reply : LostIsNoReply
lost_is_no_reply x y r e is =
    let whole = (replies_whole (x ++ y) r is).0 in
    let f : lost ≡ at_tree 0 = sym (lost_stays y) ∙ ap (λ s. after s y) (sym e) ∙ sym (after-append at_reply x y) ∙ whole in
    cc
