-- What is said of texts of trees, one head after another.
use Rattle.std.proofs.Common.{◌≡◌, ℕ, zero, suc, ◌+◌, ◌-◌, ◌^◌, ◌<◌, ◌≤◌, List, [], ◌∷◌, ◌++◌, length, get_or, take, drop, refl, sym, ap, subst, ◌∙◌, append_assoc, arith}
use Rattle.std.specs.Str.{IsUtf8, IsAscii}
use Rattle.std.proofs.lemmas.Str.{IsUtf8-nil, IsUtf8-from_ascii}
use Rattle.std.proofs.lemmas.List.{take_at, drop_at, take-append-drop, length-append, length-drop, length-take, nil_from_length, take-append-le}
use Rattle.mix_base.proofs.Lists.{append_nil, take_append}
use Rattle.lxp_core.specs.declared.open_tree.HoleId.{HoleId}
use Rattle.wire_text.specs.Wired.{Wired, nil, node, hole, count_of, wired_followed}
use Rattle.wire_text.specs.Bytes.{u32_bytes, u128_bytes, words_bytes, hole_bytes, label_bytes, trees_bytes, IsHole, AreTrees}
use Rattle.wire_text.specs.Reading.{Begins, IsCutOff, Verdict, whole, unexpected, ends, Judges, Leads}
use Rattle.wire_text.specs.Heads.{IsTreesText, IsLabelText}
use Rattle.wire_text.proofs.Widths.{IsBytes, bytes_after, zeros, length-zeros, filled, wide32, wide128, number_one, number_in, words_in, length-words}
use Rattle.wire_text.proofs.Told.{hole_one, label_one, trees_one}
use Rattle.wire_text.proofs.Trees.{trees_bytes-followed, count_of-followed}

-- what is said of the rest is said of the whole text
pub judged : (Is IsRest : List ℕ → Type 0) (prefix rest : List ℕ) (v : Verdict) → Leads Is prefix IsRest → Judges IsRest rest v → Judges Is (prefix ++ rest) v
judged Is IsRest prefix rest whole leads j = leads.there rest j
judged Is IsRest prefix rest ends leads j = record {
  prefix = (j.prefix.0, subst Is (sym (append_assoc prefix rest j.prefix.0)) (leads.there (rest ++ j.prefix.0) j.prefix.1));
  none = λ is. j.none (leads.back rest is);
}
judged Is IsRest prefix rest (unexpected left) leads j =
    let at = j.0 in
    let more : length prefix + at + 1 ≡ length prefix + (at + 1) = omega arith in (
      length prefix + at,
      omega (arith, j.1, length-append prefix rest),
      record {
        inside = omega (arith, j.2.inside, length-append prefix rest);
        prefix = (
          j.2.prefix.0,
          subst Is (ap (λ x. x ++ j.2.prefix.0) (sym (take_append prefix rest at)))
              (subst Is (sym (append_assoc prefix (take at rest) j.2.prefix.0)) (leads.there (take at rest ++ j.2.prefix.0) j.2.prefix.1)),
        );
        wrong = λ b. j.2.wrong (
          b.0,
          leads.back (take (at + 1) rest ++ b.0)
              (subst Is (append_assoc prefix (take (at + 1) rest) b.0) (subst Is (ap (λ x. x ++ b.0) (ap (λ n. take n (prefix ++ rest)) more ∙ take_append prefix rest (at + 1))) b.1)),
        );
      },
    )

-- so many leaves with empty labels
abbrev pub leaves : ℕ → Wired
leaves zero = nil
leaves (suc n) = node [] nil (leaves n)

-- leaves with empty labels are trees, and as many as were asked for
pub leaves_are : (n : ℕ) → AreTrees (leaves n) × (count_of (leaves n) ≡ n)
leaves_are zero = (tt, refl)
leaves_are (suc n) = ((IsUtf8-nil, omega arith, omega arith, tt, (leaves_are n).0), omega (arith, (leaves_are n).1))

-- a text of trees that goes on from another text shows that this is cut off
pub cut_trees : (n : ℕ) (x y : List ℕ) → 0 < length y → IsTreesText n (x ++ y) → IsCutOff (IsTreesText n) x
cut_trees n x y some t = record {
  prefix = (y, t);
  none = λ u.
      let same : trees_bytes t.0 ++ [] ≡ trees_bytes u.0 ++ y = append_nil (trees_bytes t.0) ∙ sym t.3 ∙ ap (λ z. z ++ y) u.3 in
      let both = trees_one t.0 u.0 [] y t.1 u.1 (t.2 ∙ sym u.2) same in
      omega (arith, some, ap length both.1);
}

-- the first so many trees of a list, and the others
pub record Parted (k n : ℕ) (o : Wired) : Type 0 where
  pub first : Wired
  pub others : Wired
  pub are_first : AreTrees first
  pub are_others : AreTrees others
  pub count_first : count_of first ≡ k
  pub count_others : count_of others ≡ n
  pub parts : o ≡ wired_followed first others

-- so many trees are the first of them and the others
pub parted : (k n : ℕ) (o : Wired) → AreTrees o → count_of o ≡ k + n → Parted k n o
parted zero n o are e = record { first = nil; others = o; are_first = tt; are_others = are; count_first = refl; count_others = omega (arith, e); parts = refl }
parted (suc k) n nil are e = absurd (omega arith)
parted (suc k) n (node label kids rest) are e =
    let p = parted k n rest are.4 (omega arith) in
    record {
      first = node label kids p.first;
      others = p.others;
      are_first = (are.0, are.1, are.2, are.3, p.are_first);
      are_others = p.are_others;
      count_first = omega (arith, p.count_first);
      count_others = p.count_others;
      parts = ap (node label kids) p.parts;
    }
parted (suc k) n (hole id w rest) are e =
    let p = parted k n rest are.2 (omega arith) in
    record {
      first = hole id w p.first;
      others = p.others;
      are_first = (are.0, are.1, p.are_first);
      are_others = p.are_others;
      count_first = omega (arith, p.count_first);
      count_others = p.count_others;
      parts = ap (hole id w) p.parts;
    }

-- two lists of trees one after the other are trees
pub are_followed : (a b : Wired) → AreTrees a → AreTrees b → AreTrees (wired_followed a b)
are_followed nil b p q = q
are_followed (node label kids rest) b p q = (p.0, p.1, p.2, p.3, are_followed rest b p.4 q)
are_followed (hole id w rest) b p q = (p.0, p.1, are_followed rest b p.2 q)

node_text : (l k t r : List ℕ) → 0 ∷ (l ++ k) ++ (t ++ r) ≡ 0 ∷ (l ++ ((k ++ t) ++ r))
node_text l k t r = ap (λ x. 0 ∷ x) (append_assoc l k (t ++ r) ∙ ap (λ x. l ++ x) (sym (append_assoc k t r)))

-- after a node's head its children and the other trees come
pub node_leads : (l : List ℕ) (k n : ℕ) → IsUtf8 l → length l < 2 ^ 32 → k < 2 ^ 32 → Leads (IsTreesText (n + 1)) (0 ∷ (label_bytes l ++ u32_bytes k)) (IsTreesText (k + n))
node_leads l k n utf8 short few = record {
  there = λ x t.
      let p = parted k n t.0 t.1 t.2 in
      let text : 0 ∷ (label_bytes l ++ u32_bytes k) ++ x ≡ trees_bytes (node l p.first p.others) =
      ap (λ y. 0 ∷ (label_bytes l ++ u32_bytes k) ++ y) (t.3 ∙ ap trees_bytes p.parts ∙ trees_bytes-followed p.first p.others)
      ∙ node_text (label_bytes l) (u32_bytes k) (trees_bytes p.first) (trees_bytes p.others)
      ∙ ap (λ m. 0 ∷ (label_bytes l ++ ((u32_bytes m ++ trees_bytes p.first) ++ trees_bytes p.others))) (sym p.count_first) in
      (node l p.first p.others, (utf8, short, omega (arith, p.count_first, few), p.are_first, p.are_others), omega (arith, p.count_others), text);
  back = λ x t. node_back l k n x short few t.0 t.1 t.2 t.3;
}
  where
    node_back : (l : List ℕ) (k n : ℕ) (x : List ℕ) → length l < 2 ^ 32 → k < 2 ^ 32 → (o : Wired) → AreTrees o → count_of o ≡ n + 1
        → 0 ∷ (label_bytes l ++ u32_bytes k) ++ x ≡ trees_bytes o → IsTreesText (k + n) x
    node_back l k n x short few nil are cnt e = absurd (omega arith)
    node_back l k n x short few (hole id w rest) are cnt e = absurd (omega (arith, ap (λ b. get_or b 0 0) e))
    node_back l k n x short few (node m kids rest) are cnt e =
        let inner : label_bytes l ++ (u32_bytes k ++ x) ≡ label_bytes m ++ ((u32_bytes (count_of kids) ++ trees_bytes kids) ++ trees_bytes rest) =
        sym (append_assoc (label_bytes l) (u32_bytes k) x) ∙ ap (drop 1) e in
        let label = label_one l m (u32_bytes k ++ x) ((u32_bytes (count_of kids) ++ trees_bytes kids) ++ trees_bytes rest) short are.1 inner in
        let number = number_one u32_bytes 4 (2 ^ 32) wide32 k (count_of kids) x (trees_bytes kids ++ trees_bytes rest) few are.2
        (label.1 ∙ append_assoc (u32_bytes (count_of kids)) (trees_bytes kids) (trees_bytes rest)) in (
          wired_followed kids rest,
          are_followed kids rest are.3 are.4,
          omega (arith, count_of-followed kids rest, number.0, cnt),
          number.1 ∙ sym (trees_bytes-followed kids rest),
        )

-- after a hole the other trees come
pub hole_leads : (id : HoleId) (w n : ℕ) → IsHole id → w < 2 ^ 128 → Leads (IsTreesText (n + 1)) (1 ∷ hole_bytes id w) (IsTreesText (0 + n))
hole_leads id w n is low = record {
  there = λ x t. (hole id w t.0, (is, low, t.1), omega (arith, t.2), ap (λ y. 1 ∷ (hole_bytes id w ++ y)) t.3);
  back = λ x t. hole_back id w n x is low t.0 t.1 t.2 t.3;
}
  where
    hole_back : (id : HoleId) (w n : ℕ) (x : List ℕ) → IsHole id → w < 2 ^ 128 → (o : Wired) → AreTrees o → count_of o ≡ n + 1
        → 1 ∷ (hole_bytes id w ++ x) ≡ trees_bytes o → IsTreesText (0 + n) x
    hole_back id w n x is low nil are cnt e = absurd (omega arith)
    hole_back id w n x is low (node m kids rest) are cnt e = absurd (omega (arith, ap (λ b. get_or b 0 0) e))
    hole_back id w n x is low (hole j v rest) are cnt e =
        let both = hole_one id j w v x (trees_bytes rest) is are.0 low are.1 (ap (drop 1) e) in
        (rest, are.2, omega (arith, cnt), both.1.1)

-- a text of no bytes is cut off, where a tree is to come
pub stuck_empty : (n : ℕ) → IsCutOff (IsTreesText (n + 1)) []
stuck_empty n =
    let are = leaves_are n in
    cut_trees (n + 1) [] (trees_bytes (node [] nil (leaves n))) (omega arith) (node [] nil (leaves n), (IsUtf8-nil, omega arith, omega arith, tt, are.0), omega (arith, are.1), refl)

-- no tree begins with a byte above 1
pub stuck_tag : (b : ℕ) (rest : List ℕ) (n : ℕ) → 2 ≤ b → Judges (IsTreesText (n + 1)) (b ∷ rest) (unexpected (length (b ∷ rest)))
stuck_tag b rest n high = (
  0,
  omega arith,
  record {
    inside = omega arith;
    prefix = (stuck_empty n).prefix;
    wrong = λ t. no_tag b n t.0 high t.1.0 t.1.2 t.1.3;
  },
)
  where
    no_tag : (b n : ℕ) (y : List ℕ) → 2 ≤ b → (o : Wired) → count_of o ≡ n + 1 → b ∷ y ≡ trees_bytes o → ⊥
    no_tag b n y high nil cnt e = omega arith
    no_tag b n y high (node m kids rest) cnt e = omega (arith, ap (λ l. get_or l 0 0) e)
    no_tag b n y high (hole j v rest) cnt e = omega (arith, ap (λ l. get_or l 0 0) e)

-- forty bytes are a hole and its weight
pub hole_in : (x : List ℕ) → IsBytes x → 40 ≤ length x → (id : HoleId) × (w : ℕ) × IsHole id × (w < 2 ^ 128) × (x ≡ hole_bytes id w ++ drop 40 x)
hole_in x fits long =
    let id = words_in x fits (omega arith) in
    let r = drop 24 x in
    let w = number_in u128_bytes 16 (2 ^ 128) wide128 r (bytes_after 24 x fits) (omega (arith, length-drop 24 x)) in
    let text : x ≡ hole_bytes id.0 w.0 ++ drop 16 r =
    id.2 ∙ ap (λ y. words_bytes id.0 ++ y) w.2 ∙ sym (append_assoc (words_bytes id.0) (u128_bytes w.0) (drop 16 r)) in
    let len : length (hole_bytes id.0 w.0) ≡ 40 = omega (arith, length-append (words_bytes id.0) (u128_bytes w.0), length-words id.0, wide128.len w.0) in
    (id.0, w.0, id.1, w.1, text ∙ ap (λ y. hole_bytes id.0 w.0 ++ y) (sym (drop_at (hole_bytes id.0 w.0) (drop 16 r) 40 len) ∙ ap (drop 40) (sym text)))

-- fewer than forty bytes after a 1 are cut off
pub stuck_hole : (rest : List ℕ) (n : ℕ) → IsBytes rest → length rest < 40 → IsCutOff (IsTreesText (n + 1)) (1 ∷ rest)
stuck_hole rest n fits short =
    let y = zeros (40 - length rest) in
    let all = filled rest 40 fits (omega arith) in
    let h = hole_in (rest ++ y) all.0 (omega (arith, all.1)) in
    let end : drop 40 (rest ++ y) ≡ [] = nil_from_length (drop 40 (rest ++ y)) (omega (arith, all.1, length-drop 40 (rest ++ y))) in
    let are = leaves_are n in
    let text : (rest ++ y) ++ trees_bytes (leaves n) ≡ hole_bytes h.0 h.1 ++ trees_bytes (leaves n) =
    ap (λ z. z ++ trees_bytes (leaves n)) (h.4 ∙ ap (λ z. hole_bytes h.0 h.1 ++ z) end ∙ append_nil (hole_bytes h.0 h.1)) in
    cut_trees (n + 1) (1 ∷ rest) (y ++ trees_bytes (leaves n)) (omega (arith, length-append y (trees_bytes (leaves n)), length-zeros (40 - length rest)))
    (hole h.0 h.1 (leaves n), (h.2, h.3, are.0), omega (arith, are.1), ap (λ z. 1 ∷ z) (sym (append_assoc rest y (trees_bytes (leaves n))) ∙ text))

-- a label of so many zeros
pub label_zeros : (n : ℕ) → IsUtf8 (zeros n)
label_zeros n = IsUtf8-from_ascii (zeros n) (ascii n)
  where
    ascii : (n : ℕ) → IsAscii (zeros n)
    ascii zero i = omega arith
    ascii (suc n) zero = omega arith
    ascii (suc n) (suc i) = ascii n i

-- a tree with a label and no children, and further ones
leaf_text : (l : List ℕ) (n : ℕ) → IsUtf8 l → length l < 2 ^ 32 → IsTreesText (n + 1) (0 ∷ (label_bytes l ++ (u32_bytes 0 ++ trees_bytes (leaves n))))
leaf_text l n utf8 short =
    let are = leaves_are n in (
      node l nil (leaves n),
      (utf8, short, omega arith, tt, are.0),
      omega (arith, are.1),
      ap (λ z. 0 ∷ (label_bytes l ++ (z ++ trees_bytes (leaves n)))) (sym (append_nil (u32_bytes 0))),
    )

-- fewer than four bytes after a 0 are cut off
pub stuck_len : (rest : List ℕ) (n : ℕ) → IsBytes rest → length rest < 4 → IsCutOff (IsTreesText (n + 1)) (0 ∷ rest)
stuck_len rest n fits short =
    let y = zeros (4 - length rest) in
    let all = filled rest 4 fits (omega arith) in
    let m = wide32.in' (rest ++ y) all.1 all.0 in
    let l = zeros m.0 in
    let tail = l ++ (u32_bytes 0 ++ trees_bytes (leaves n)) in
    let text : rest ++ (y ++ tail) ≡ label_bytes l ++ (u32_bytes 0 ++ trees_bytes (leaves n)) =
    sym (append_assoc rest y tail) ∙ ap (λ z. z ++ tail) (m.2 ∙ ap u32_bytes (sym (length-zeros m.0)))
    ∙ sym (append_assoc (u32_bytes (length l)) l (u32_bytes 0 ++ trees_bytes (leaves n))) in
    cut_trees (n + 1) (0 ∷ rest) (y ++ tail) (omega (arith, length-append y tail, length-zeros (4 - length rest)))
    (subst (IsTreesText (n + 1)) (ap (λ z. 0 ∷ z) (sym text)) (leaf_text l n (label_zeros m.0) (omega (arith, m.1, length-zeros m.0))))

-- fewer than four bytes after a label are cut off
pub stuck_kids : (l rest : List ℕ) (n : ℕ) → IsUtf8 l → length l < 2 ^ 32 → IsBytes rest → length rest < 4 → IsCutOff (IsTreesText (n + 1)) (0 ∷ (label_bytes l ++ rest))
stuck_kids l rest n utf8 small fits short =
    let y = zeros (4 - length rest) in
    let all = filled rest 4 fits (omega arith) in
    let k = wide32.in' (rest ++ y) all.1 all.0 in
    let are = leaves_are (k.0 + n) in
    let tail = trees_bytes (leaves (k.0 + n)) in
    let given = (node_leads l k.0 n utf8 small k.1).there tail (leaves (k.0 + n), are.0, are.1, refl) in
    let text : (label_bytes l ++ u32_bytes k.0) ++ tail ≡ (label_bytes l ++ rest) ++ (y ++ tail) =
    ap (λ z. (label_bytes l ++ z) ++ tail) (sym k.2) ∙ regrouped (label_bytes l) rest y tail in
    cut_trees (n + 1) (0 ∷ (label_bytes l ++ rest)) (y ++ tail) (omega (arith, length-append y tail, length-zeros (4 - length rest)))
    (subst (IsTreesText (n + 1)) (ap (λ z. 0 ∷ z) text) given)
  where
    regrouped : (a b d e : List ℕ) → (a ++ (b ++ d)) ++ e ≡ (a ++ b) ++ (d ++ e)
    regrouped a b d e = simp append_assoc

-- a prefix of a label is cut off
pub stuck_label : (len : ℕ) (x y : List ℕ) (n : ℕ) → len < 2 ^ 32 → IsLabelText len (x ++ y) → IsCutOff (IsTreesText (n + 1)) (0 ∷ (u32_bytes len ++ x))
stuck_label len x y n few is =
    let tail = u32_bytes 0 ++ trees_bytes (leaves n) in
    let text : label_bytes (x ++ y) ++ tail ≡ (u32_bytes len ++ x) ++ (y ++ tail) =
    ap (λ m. (u32_bytes m ++ (x ++ y)) ++ tail) is.1 ∙ regrouped (u32_bytes len) x y tail in
    cut_trees (n + 1) (0 ∷ (u32_bytes len ++ x)) (y ++ tail)
    (omega (arith, length-append y tail, length-append (u32_bytes 0) (trees_bytes (leaves n)), wide32.len 0))
    (subst (IsTreesText (n + 1)) (ap (λ z. 0 ∷ z) text) (leaf_text (x ++ y) n is.0 (omega (arith, is.1))))
  where
    regrouped : (a b d e : List ℕ) → (a ++ (b ++ d)) ++ e ≡ (a ++ b) ++ (d ++ e)
    regrouped a b d e = simp append_assoc

by_tree : (len at : ℕ) (x z : List ℕ) → len < 2 ^ 32 → at < length x → at < len → ((y : List ℕ) → IsLabelText len (take (at + 1) x ++ y) → ⊥)
    → (o : Wired) → AreTrees o → ((0 ∷ u32_bytes len) ++ take (at + 1) x) ++ z ≡ trees_bytes o → 0 < count_of o → ⊥
by_tree len at x z few inside within none nil are e some = omega arith
by_tree len at x z few inside within none (hole id w rest) are e some = omega (arith, ap (λ b. get_or b 0 0) e)
by_tree len at x z few inside within none (node m kids rest) are e some =
    let prefix = take (at + 1) x in
    let after = (u32_bytes (count_of kids) ++ trees_bytes kids) ++ trees_bytes rest in
    let inner : u32_bytes len ++ (prefix ++ z) ≡ u32_bytes (length m) ++ (m ++ after) =
    sym (append_assoc (u32_bytes len) prefix z) ∙ ap (drop 1) e ∙ append_assoc (u32_bytes (length m)) m after in
    let number = number_one u32_bytes 4 (2 ^ 32) wide32 len (length m) (prefix ++ z) (m ++ after) few are.1 inner in
    let long : length prefix ≡ at + 1 = omega (arith, length-take (at + 1) x) in
    let within_m : at + 1 ≤ length m = omega (arith, number.0) in
    let same : take (at + 1) m ≡ prefix =
    sym (take-append-le (at + 1) m after within_m) ∙ ap (take (at + 1)) (sym number.1) ∙ take_at prefix z (at + 1) long in
    let parts : prefix ++ drop (at + 1) m ≡ m = ap (λ t. t ++ drop (at + 1) m) (sym same) ∙ take-append-drop (at + 1) m in
    none (drop (at + 1) m) (subst IsUtf8 (sym parts) are.0, ap length parts ∙ sym number.0)

-- a byte with which no label goes on
pub stuck_byte : (len at : ℕ) (x y : List ℕ) (n left : ℕ) → len < 2 ^ 32 → at < length x → at < len → at + left ≡ length x → IsLabelText len (take at x ++ y)
    → ((z : List ℕ) → IsLabelText len (take (at + 1) x ++ z) → ⊥) → Judges (IsTreesText (n + 1)) (0 ∷ (u32_bytes len ++ x)) (unexpected left)
stuck_byte len at x y n left few inside within sum is none =
    let head = 0 ∷ u32_bytes len in
    let five : length head ≡ 5 = omega (arith, wide32.len len) in
    let here : take (5 + at) (head ++ x) ≡ head ++ take at x = ap (λ m. take (m + at) (head ++ x)) (sym five) ∙ take_append head x at in
    let next : take (5 + at + 1) (head ++ x) ≡ head ++ take (at + 1) x =
    (let e : 5 + at + 1 ≡ length head + (at + 1) = omega (arith, five) in ap (λ m. take m (head ++ x)) e) ∙ take_append head x (at + 1) in
    let cut = stuck_label len (take at x) y n few is in (
      5 + at,
      omega (arith, sum, length-append (u32_bytes len) x, wide32.len len),
      record {
        inside = omega (arith, inside, length-append (u32_bytes len) x, wide32.len len);
        prefix = subst (Begins (IsTreesText (n + 1))) (sym here) cut.prefix;
        wrong = λ b. no_label len at x n few inside within none (subst (Begins (IsTreesText (n + 1))) next b);
      },
    )
  where
    no_label : (len at : ℕ) (x : List ℕ) (n : ℕ) → len < 2 ^ 32 → at < length x → at < len → ((z : List ℕ) → IsLabelText len (take (at + 1) x ++ z) → ⊥)
        → Begins (IsTreesText (n + 1)) ((0 ∷ u32_bytes len) ++ take (at + 1) x) → ⊥
    no_label len at x n few inside within none b = by_tree len at x b.0 few inside within none b.1.0 b.1.1 b.1.3 (let e : count_of b.1.0 ≡ n + 1 = b.1.2 in omega (arith, e))
