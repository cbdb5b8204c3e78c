-- What is kept of nodes shows them.
use Rattle.std.proofs.Common.{◌≡◌, ◌⊎◌, inl, inr, ◌∙◌, ℕ, zero, suc, ◌+◌, ◌-◌, ◌<◌, ◌≤◌, List, [], ◌∷◌, ◌++◌, length, take, drop, slice_range, reverse, set, get_or, IsUtf8, append_assoc, length-append, refl, sym, ap, subst, arith}
use Rattle.std.proofs.lemmas.List.{reverse-append, reverse-reverse, length-reverse, length-set, set-append_right}
use Rattle.std.proofs.lemmas.Str.{IsUtf8-append}
use Rattle.mix_base.proofs.Lists.{append_nil}
use Rattle.document_store.specs.declared.spots.Spot.{Spot}
use Rattle.std.proofs.Math.Logic.{∥∥₁_map}
use Rattle.std.proofs.Math.Seq.{get_or-append_seam}
use Rattle.document_store.specs.Laid.{LaidNode, node_at, longer}
use Rattle.document_store.specs.Shallow.{IsBounded}
use Rattle.document_store.specs.Spots.{end_of, spot_of, end_at, nodes_in, bytes_of, spots_of, AreTexts, Keeps, IsKept}

-- a list with more after it has the list as its prefix
prefix : (l more : List ℕ) → take (length l) (l ++ more) ≡ l
prefix [] more = refl
prefix (x ∷ l) more = ap (λ r. x ∷ r) (prefix l more)

-- a list between two others is the part at its place
middle : (a l more : List ℕ) → take (length l) (drop (length a) (a ++ (l ++ more))) ≡ l
middle [] l more = prefix l more
middle (x ∷ a) l more = middle a l more

-- a list between two others is the range between its two places
pub piece : (a l more : List ℕ) → slice_range ((a ++ l) ++ more) (length a) (length (a ++ l)) ≡ l
piece a l more =
    let long : length (a ++ l) - length a ≡ length l = omega (arith, length-append a l) in
    ap (λ r. take (length (a ++ l) - length a) (drop (length a) r)) (append_assoc a l more)
    ∙ ap (λ n. take n (drop (length a) (a ++ (l ++ more)))) long ∙ middle a l more

-- the labels end where their bytes do
pub end_is : (v : List LaidNode) → end_of (spots_of v) ≡ length (bytes_of v)
end_is [] = refl
end_is (n ∷ v) = refl

-- a node of a label and a number
abbrev pub node_of : ℕ → List ℕ → LaidNode
node_of below label = record { label = label; below = below }

-- what is kept of nodes shows them
pub shown : (v : List LaidNode) (more : List ℕ) → nodes_in (bytes_of v ++ more) (spots_of v) ≡ v
shown [] more = refl
shown (n ∷ v) more =
    let bytes = (bytes_of v ++ n.label) ++ more in
    let label : slice_range ((bytes_of v ++ n.label) ++ more) (end_of (spots_of v)) (length (bytes_of v ++ n.label)) ≡ n.label =
    ap (λ i. slice_range ((bytes_of v ++ n.label) ++ more) i (length (bytes_of v ++ n.label))) (end_is v) ∙ piece (bytes_of v) n.label more in
    let others : nodes_in ((bytes_of v ++ n.label) ++ more) (spots_of v) ≡ v =
    ap (λ b. nodes_in b (spots_of v)) (append_assoc (bytes_of v) n.label more) ∙ shown v (n.label ++ more) in
    ap (λ l. node_of n.below l ∷ nodes_in ((bytes_of v ++ n.label) ++ more) (spots_of v)) label ∙ ap (λ r. n ∷ r) others

-- what keeps nodes shows them
pub shows : (bytes : List ℕ) (spots : List Spot) (v : List LaidNode) → Keeps bytes spots v → nodes_in bytes (reverse spots) ≡ v
shows bytes spots v k =
    ap (λ b. nodes_in b (reverse spots)) k.bytes_are ∙ ap (nodes_in (bytes_of v)) k.spots_are
    ∙ ap (λ b. nodes_in b (spots_of v)) (sym (append_nil (bytes_of v))) ∙ shown v []

-- what keeps nodes keeps the nodes that it shows
pub kept : (bytes : List ℕ) (spots : List Spot) (v : List LaidNode) → Keeps bytes spots v → IsKept bytes spots
kept bytes spots v k = subst (Keeps bytes spots) (sym (shows bytes spots v k)) k

-- as many spots are kept as there are nodes
pub length-spots_of : (v : List LaidNode) → length (spots_of v) ≡ length v
length-spots_of [] = refl
length-spots_of (n ∷ v) = omega (arith, length-spots_of v)

-- as many nodes are shown as spots are kept
pub length-shown : (bytes : List ℕ) (spots : List Spot) → length (nodes_in bytes (reverse spots)) ≡ length spots
length-shown bytes spots = omega (arith, length-reverse spots, count (reverse spots))
  where
    count : (r : List Spot) → length (nodes_in bytes r) ≡ length r
    count [] = refl
    count (s ∷ r) = omega (arith, count r)

-- what keeps nodes, with the bytes and the spot of one more, keeps that node after them
pub pushed : (bytes bytes' label : List ℕ) (spots spots' : List Spot) (v : List LaidNode) → Keeps bytes spots v → IsUtf8 label → bytes' ≡ bytes ++ label
    → spots' ≡ spots ++ record { end = length bytes + length label; below = 0 } ∷ [] → length spots' ≤ 4294967295 → length bytes' ≤ 4294967295
    → Keeps bytes' spots' (node_of 0 label ∷ v)
pushed bytes bytes' label spots spots' v k u b s few short =
    let end : length bytes + length label ≡ length (bytes_of v ++ label) = omega (arith, ap length k.bytes_are, length-append (bytes_of v) label) in
    let last : List Spot → ℕ → List Spot = λ r e. record { end = e; below = 0 } ∷ r in
    record {
      bytes_are = b ∙ ap (λ r. r ++ label) k.bytes_are;
      spots_are = ap reverse s ∙ reverse-append spots (record { end = length bytes + length label; below = 0 } ∷ []) ∙ ap (last (reverse spots)) end ∙ ap (λ r. last r (length (bytes_of v ++ label))) k.spots_are;
      texts = ∥∥₁_map k.texts (λ t. (u, t));
      few = few;
      short = short;
    }

-- where the labels of some spots end is where the label at the first position ends
end_first : (r : List Spot) → end_of r ≡ end_at r 0
end_first [] = refl
end_first (s ∷ r) = refl

-- the node that is shown at a position has the label between two kept ends, and the kept number of nodes below it
pub node-shown : (bytes : List ℕ) (r : List Spot) (i : ℕ) → i < length r
    → node_at (nodes_in bytes r) i ≡ record { label = slice_range bytes (end_at r (suc i)) (end_at r i); below = (spot_of r i).below }
node-shown bytes [] i h = absurd (omega arith)
node-shown bytes (s ∷ r) zero h = ap (λ e. node_of s.below (slice_range bytes e s.end)) (end_first r)
node-shown bytes (s ∷ r) (suc i) h = node-shown bytes r i (omega arith)

-- labels end one after another, and within the bytes
pub ends-order : (v : List LaidNode) (i : ℕ) → i < length v → (end_at (spots_of v) (suc i) ≤ end_at (spots_of v) i) × (end_at (spots_of v) i ≤ length (bytes_of v))
ends-order [] i h = absurd (omega arith)
ends-order (n ∷ v) zero h = (omega (arith, sym (end_first (spots_of v)) ∙ end_is v, length-append (bytes_of v) n.label), omega arith)
ends-order (n ∷ v) (suc i) h =
    let more = ends-order v i (omega arith) in
    (more.0, omega (arith, more.1, length-append (bytes_of v) n.label))

-- the label of the node at each position is a text
pub text-at : (v : List LaidNode) (i : ℕ) → i < length v → AreTexts v → IsUtf8 (node_at v i).label
text-at [] i h t = absurd (omega arith)
text-at (n ∷ v) zero h t = t.0
text-at (n ∷ v) (suc i) h t = text-at v i (omega arith) t.1

-- a list that is taken apart at a place, counted from its end
pub record Split (v : List LaidNode) (place : ℕ) : Type 0 where
  pub xs : List LaidNode
  pub node : LaidNode
  pub ys : List LaidNode
  pub parts : v ≡ xs ++ node ∷ ys
  pub size : length ys ≡ place

-- a list is taken apart at each place that lies within it
pub split : (v : List LaidNode) (place : ℕ) → place < length v → Split v place
split [] place h = absurd (omega arith)
split (n ∷ v) place h = by_place (same_or_less place (length v) (omega arith)) (λ k. split v place k)
  where
    same_or_less : (i j : ℕ) → i ≤ j → (i < j) ⊎ (i ≡ j)
    same_or_less i j k = grind arith

    by_place : (place < length v) ⊎ (place ≡ length v) → (place < length v → Split v place) → Split (n ∷ v) place
    by_place (inl k) more = let s = more k in record { xs = n ∷ s.xs; node = s.node; ys = s.ys; parts = ap (λ r. n ∷ r) s.parts; size = s.size }
    by_place (inr e) more = record { xs = []; node = n; ys = v; parts = refl; size = sym e }

-- the bytes of the labels of some nodes, after the bytes of others
abbrev pub bytes_on : List LaidNode → List ℕ → List ℕ
bytes_on [] base = base
bytes_on (x ∷ xs) base = bytes_on xs base ++ x.label

-- the spots of some nodes before the spots of others, the bytes of whose labels come first
abbrev pub tops : List LaidNode → List ℕ → List Spot
tops [] base = []
tops (x ∷ xs) base = record { end = length (bytes_on xs base ++ x.label); below = x.below } ∷ tops xs base

-- the bytes of the labels of nodes that are taken apart at a node: those before it come after its label and the bytes of the others
bytes-split : (xs ys : List LaidNode) (n : LaidNode) → bytes_of (xs ++ n ∷ ys) ≡ bytes_on xs (bytes_of ys ++ n.label)
bytes-split [] ys n = refl
bytes-split (x ∷ xs) ys n = ap (λ b. b ++ x.label) (bytes-split xs ys n)

-- the spots of a list of nodes that is taken apart at a node are those before it, its own, and those after it
spots-split : (xs ys : List LaidNode) (n : LaidNode)
    → spots_of (xs ++ n ∷ ys) ≡ tops xs (bytes_of ys ++ n.label) ++ record { end = length (bytes_of ys ++ n.label); below = n.below } ∷ spots_of ys
spots-split [] ys n = refl
spots-split (x ∷ xs) ys n =
    let one : List ℕ → List Spot → List Spot = λ b r. record { end = length (b ++ x.label); below = x.below } ∷ r in
    ap (λ b. one b (spots_of (xs ++ n ∷ ys))) (bytes-split xs ys n) ∙ ap (one (bytes_on xs (bytes_of ys ++ n.label))) (spots-split xs ys n)

-- where the labels of nodes are texts, they still are where one node has another number of nodes below it
texts-split : (xs ys : List LaidNode) (n : LaidNode) (b : ℕ) → AreTexts (xs ++ n ∷ ys) → AreTexts (xs ++ node_of b n.label ∷ ys)
texts-split [] ys n b t = t
texts-split (x ∷ xs) ys n b t = (t.0, texts-split xs ys n b t.1)

-- a list whose reverse is taken apart at a spot is taken apart at that spot
turned : (spots t r : List Spot) (s : Spot) → reverse spots ≡ t ++ s ∷ r → spots ≡ reverse r ++ (s ∷ reverse t)
turned spots t r s e =
    sym (reverse-reverse spots) ∙ ap reverse e ∙ reverse-append t (s ∷ r)
    ∙ ap (λ q. q ++ reverse t) (reverse-append (s ∷ []) r) ∙ append_assoc (reverse r) (s ∷ []) (reverse t)

-- the reverse of a list that is taken apart at a spot, reversed
turned_back : (t r : List Spot) (s : Spot) → reverse (reverse r ++ (s ∷ reverse t)) ≡ t ++ s ∷ r
turned_back t r s =
    reverse-append (reverse r) (s ∷ reverse t) ∙ ap (λ q. q ++ reverse (reverse r)) (reverse-append (s ∷ []) (reverse t))
    ∙ ap (λ q. (q ++ s ∷ []) ++ reverse (reverse r)) (reverse-reverse t) ∙ ap (λ q. (t ++ s ∷ []) ++ q) (reverse-reverse r)
    ∙ append_assoc t (s ∷ []) r

-- writing one spot of a list writes it at its position in the reversed list
set-turned : (spots t r : List Spot) (s w : Spot) (place : ℕ) → reverse spots ≡ t ++ s ∷ r → length r ≡ place → reverse (set spots place w) ≡ t ++ w ∷ r
set-turned spots t r s w place e l =
    let long : length (reverse r) ≡ place = omega (arith, length-reverse r) in
    let none : place - place ≡ 0 = omega arith in
    ap (λ q. reverse (set q place w)) (turned spots t r s e) ∙ ap reverse (set-append_right (reverse r) (s ∷ reverse t) place place w long (omega arith))
    ∙ ap (λ k. reverse (reverse r ++ set (s ∷ reverse t) k w)) none ∙ turned_back t r w

-- reading one spot of a list reads it at its position in the reversed list
get-turned : (spots t r : List Spot) (s d : Spot) (place : ℕ) → reverse spots ≡ t ++ s ∷ r → length r ≡ place → get_or spots place d ≡ s
get-turned spots t r s d place e l =
    let long : place ≡ length (reverse r) = omega (arith, length-reverse r) in
    ap (λ q. get_or q place d) (turned spots t r s e) ∙ ap (λ k. get_or (reverse r ++ (s ∷ reverse t)) k d) long ∙ get_or-append_seam (reverse r) s (reverse t) d

-- where one node gets another number of nodes below it, what is kept with that number written at its place is kept of it
pub renumbered : (bytes : List ℕ) (spots : List Spot) (v xs ys : List LaidNode) (n : LaidNode) (w : Spot) (place : ℕ) → Keeps bytes spots v → v ≡ xs ++ n ∷ ys → length ys ≡ place
    → (d : Spot) → w.end ≡ (get_or spots place d).end → Keeps bytes (set spots place w) (xs ++ node_of w.below n.label ∷ ys)
renumbered bytes spots v xs ys n w place k e l d same =
    let base = bytes_of ys ++ n.label in
    let old : Spot = record { end = length (bytes_of ys ++ n.label); below = n.below } in
    let kept_as : reverse spots ≡ tops xs (bytes_of ys ++ n.label) ++ old ∷ spots_of ys = k.spots_are ∙ ap spots_of e ∙ spots-split xs ys n in
    let count : length (spots_of ys) ≡ place = length-spots_of ys ∙ l in
    let end : w.end ≡ length (bytes_of ys ++ n.label) =
    same ∙ ap (λ (s : Spot). s.end) (get-turned spots (tops xs (bytes_of ys ++ n.label)) (spots_of ys) old d place kept_as count) in
    let one : ℕ → List Spot = λ i. tops xs (bytes_of ys ++ n.label) ++ record { end = i; below = w.below } ∷ spots_of ys in
    record {
      bytes_are = k.bytes_are ∙ ap bytes_of e ∙ bytes-split xs ys n ∙ sym (bytes-split xs ys (node_of w.below n.label));
      spots_are = set-turned spots (tops xs (bytes_of ys ++ n.label)) (spots_of ys) old w place kept_as count ∙ ap one end ∙ sym (spots-split xs ys (node_of w.below n.label));
      texts = ∥∥₁_map k.texts (λ t. texts-split xs ys n w.below (subst AreTexts e t));
      few = omega (arith, k.few, length-set spots place w);
      short = k.short;
    }

-- where the last node's label gets some bytes more, what is kept with those bytes and the new end is kept of it
pub lengthened : (bytes bytes' piece : List ℕ) (spots : List Spot) (n : LaidNode) (v : List LaidNode) (w : Spot) (place : ℕ) → Keeps bytes spots (n ∷ v) → IsUtf8 piece → bytes' ≡ bytes ++ piece
    → length v ≡ place → w.end ≡ length bytes + length piece → w.end ≤ 4294967295 → w.below ≡ n.below → Keeps bytes' (set spots place w) (longer piece (n ∷ v))
lengthened bytes bytes' piece spots n v w place k u b l end most below =
    let old : Spot = record { end = length (bytes_of v ++ n.label); below = n.below } in
    let last : ℕ → ℕ → List Spot = λ e c. record { end = e; below = c } ∷ spots_of v in
    let longer_end : w.end ≡ length (bytes_of v ++ (n.label ++ piece)) =
    omega (arith, end, ap length k.bytes_are, length-append (bytes_of v) n.label, length-append (bytes_of v) (n.label ++ piece), length-append n.label piece) in
    record {
      bytes_are = b ∙ ap (λ r. r ++ piece) k.bytes_are ∙ append_assoc (bytes_of v) n.label piece;
      spots_are =
          set-turned spots [] (spots_of v) old w place k.spots_are (length-spots_of v ∙ l)
          ∙ ap (λ e. last e w.below) longer_end ∙ ap (last (length (bytes_of v ++ (n.label ++ piece)))) below;
      texts = ∥∥₁_map k.texts (λ t. (IsUtf8-append n.label piece t.0 u, t.1));
      few = omega (arith, k.few, length-set spots place w);
      short = omega (arith, end, most, ap length b, length-append bytes piece);
    }

-- the bytes between the ends of two nodes are the label of the second
pub record Ranges (bytes : List ℕ) (n : LaidNode) (from to : ℕ) : Type 0 where
  pub order : from ≤ to
  pub inside : to ≤ length bytes
  pub label : slice_range bytes from to ≡ n.label
  pub utf8 : ∥ IsUtf8 (slice_range bytes from to) ∥₁

-- the bytes between the end before a node's label and its own end are the node's label
pub label-range : (bytes : List ℕ) (spots : List Spot) (i : ℕ) (before here : Spot) → IsKept bytes spots → i < length spots → before ≡ spot_of (reverse spots) (i + 1)
    → here ≡ spot_of (reverse spots) i → Ranges bytes (node_at (nodes_in bytes (reverse spots)) i) before.end here.end
label-range bytes spots i before here k h a b =
    let v = nodes_in bytes (reverse spots) in
    let some : i < length (nodes_in bytes (reverse spots)) = omega (arith, length-shown bytes spots) in
    let turned : i < length (reverse spots) = omega (arith, length-reverse spots) in
    let order = ends-order v i some in
    let next : i + 1 ≡ suc i = omega arith in
    let from : before.end ≡ end_at (reverse spots) (suc i) = ap (λ (s : Spot). s.end) a ∙ ap (end_at (reverse spots)) next in
    let to : here.end ≡ end_at (reverse spots) i = ap (λ (s : Spot). s.end) b in
    let from_is : end_at (reverse spots) (suc i) ≡ end_at (spots_of (nodes_in bytes (reverse spots))) (suc i) = ap (λ r. end_at r (suc i)) k.spots_are in
    let to_is : end_at (reverse spots) i ≡ end_at (spots_of (nodes_in bytes (reverse spots))) i = ap (λ r. end_at r i) k.spots_are in
    let label : slice_range bytes before.end here.end ≡ (node_at (nodes_in bytes (reverse spots)) i).label =
    ap (λ f. slice_range bytes f here.end) from ∙ ap (slice_range bytes (end_at (reverse spots) (suc i))) to
    ∙ sym (ap (λ (n : LaidNode). n.label) (node-shown bytes (reverse spots) i turned)) in
    record {
      order = omega (arith, from, to, from_is, to_is, order.0);
      inside = omega (arith, to, to_is, order.1, ap length k.bytes_are);
      label = label;
      utf8 = subst (λ l. ∥ IsUtf8 l ∥₁) (sym label) (∥∥₁_map k.texts (λ t. text-at v i some t));
    }

-- where the label of the last of some nodes gets some bytes more, what is kept with those bytes and the new end is kept of it
pub lengthened_by : (bytes bytes' piece : List ℕ) (spots : List Spot) (v : List LaidNode) (here w : Spot) (place : ℕ) → Keeps bytes spots v → IsUtf8 piece → bytes' ≡ bytes ++ piece → place + 1 ≡ length v
    → here ≡ get_or spots place here → w.end ≡ length bytes + length piece → w.end ≤ 4294967295 → w.below ≡ here.below → Keeps bytes' (set spots place w) (longer piece v)
lengthened_by bytes bytes' piece spots [] here w place k u b l at end most below = absurd (omega (arith, l))
lengthened_by bytes bytes' piece spots (n ∷ v) here w place k u b l at end most below =
    let long : length v ≡ place = omega (arith, l) in
    let old : Spot = record { end = length (bytes_of v ++ n.label); below = n.below } in
    let found : here ≡ old = at ∙ get-turned spots [] (spots_of v) old here place k.spots_are (length-spots_of v ∙ long) in
    lengthened bytes bytes' piece spots n v w place k u b long end most (below ∙ ap (λ (s : Spot). s.below) found)

-- each label is at most as long as all of them together
label-short : (v : List LaidNode) (i : ℕ) → length (node_at v i).label ≤ length (bytes_of v)
label-short [] i = omega arith
label-short (n ∷ v) zero = omega (arith, length-append (bytes_of v) n.label)
label-short (n ∷ v) (suc i) = omega (arith, label-short v i, length-append (bytes_of v) n.label)

-- the nodes that are kept are fewer than 2^32, and each of their labels is shorter than that
pub kept_bounded : (bytes : List ℕ) (spots : List Spot) → IsKept bytes spots → IsBounded (nodes_in bytes (reverse spots))
kept_bounded bytes spots k = record {
  nodes = omega (arith, k.few, length-shown bytes spots);
  labels = λ i. omega (arith, k.short, ap length k.bytes_are, label-short (nodes_in bytes (reverse spots)) i);
}
