-- What is made of the bytes of trees.
use Rattle.std.proofs.Common.{◌≡◌, ℕ, zero, suc, ◌+◌, ◌-◌, ◌^◌, ◌<◌, List, [], ◌∷◌, ◌++◌, length, get_or, drop, refl, sym, ap, ◌∙◌, append_assoc, arith}
use Rattle.std.specs.Prelude.{Option, Some, None, option_map, Err}
use Rattle.std.proofs.lemmas.List.{length-append}
use Rattle.lxp_core.specs.declared.open_tree.HoleId.{HoleId}
use Rattle.wire_text.specs.declared.reply.WireTree.{WireTree}
use Rattle.wire_text.specs.declared.building.Unbuilt.{Unbuilt}
use Rattle.wire_text.specs.declared.building.Unbuilt.TheVariants.{TooDeep, OutOfMemory}
use Rattle.wire_text.specs.Wired.{Wired, nil, node, hole, count_of, wired_followed}
use Rattle.wire_text.specs.Bytes.{u32_bytes, u128_bytes, words_bytes, hole_bytes, label_bytes, trees_bytes, IsHole, AreTrees}
use Rattle.wire_text.specs.Reply.{deep_place, first_place}
use Rattle.wire_text.specs.Plain.{put, plain}
use Rattle.wire_text.specs.Building.{StopsAt, BuildsList}
use Rattle.mix_base.proofs.Lists.{append_nil}
use Rattle.wire_text.proofs.Widths.{wide32, wide128, length-words}
use Rattle.wire_text.proofs.Trees.{wired_followed_assoc, trees_bytes-followed, put-followed}
use Rattle.wire_text.proofs.Judged.{Parted}

-- a tree that lies too deep after others
shifted : (m n : ℕ) (o : Option ℕ) → option_map (λ i. m + n + i) o ≡ option_map (λ i. m + i) (option_map (λ i. n + i) o)
shifted m n None = refl
shifted m n (Some i) = ap Some (omega arith)

first_shifted : (m n : ℕ) (a b : Option ℕ) → option_map (λ i. m + i) (first_place a n b) ≡ first_place (option_map (λ i. m + i) a) (m + n) b
first_shifted m n (Some i) b = refl
first_shifted m n None None = refl
first_shifted m n None (Some i) = ap Some (omega arith)

first_twice : (a b c : Option ℕ) (m n : ℕ) → first_place a m (first_place b n c) ≡ first_place (first_place a m b) (m + n) c
first_twice (Some i) b c m n = refl
first_twice None (Some i) c m n = refl
first_twice None None None m n = refl
first_twice None None (Some i) m n = ap Some (omega arith)

no_shift : (o : Option ℕ) → option_map (λ i. 0 + i) o ≡ o
no_shift None = refl
no_shift (Some i) = ap Some (omega arith)

-- where the first deep tree of two lists begins
pub deep-followed : (levels : ℕ) (a b : Wired) → deep_place levels (wired_followed a b) ≡ first_place (deep_place levels a) (length (trees_bytes a)) (deep_place levels b)
deep-followed levels nil b = sym (no_shift (deep_place levels b))
deep-followed zero (node l k r) b = refl
deep-followed zero (hole i w r) b = refl
deep-followed (suc m) (node l k r) b =
    let head = length (label_bytes l) + 5 in
    let inside = option_map (λ i. head + i) (deep_place m k) in
    let len = head + length (trees_bytes k) in
    let long : len + length (trees_bytes r) ≡ length (trees_bytes (node l k r)) =
    omega (
      arith,
      length-append (label_bytes l) ((u32_bytes (count_of k) ++ trees_bytes k) ++ trees_bytes r),
      length-append (u32_bytes (count_of k) ++ trees_bytes k) (trees_bytes r),
      length-append (u32_bytes (count_of k)) (trees_bytes k),
      wide32.len (count_of k),
    ) in
    ap (first_place inside len) (deep-followed (suc m) r b)
    ∙ first_twice inside (deep_place (suc m) r) (deep_place (suc m) b) len (length (trees_bytes r))
    ∙ ap (λ n. first_place (first_place inside len (deep_place (suc m) r)) n (deep_place (suc m) b)) long
deep-followed (suc m) (hole i w r) b =
    let long : 41 + length (trees_bytes r) ≡ length (trees_bytes (hole i w r)) =
    omega (arith, length-append (hole_bytes i w) (trees_bytes r), length-append (words_bytes i) (u128_bytes w), length-words i, wide128.len w) in
    ap (option_map (λ n. 41 + n)) (deep-followed (suc m) r b)
    ∙ first_shifted 41 (length (trees_bytes r)) (deep_place (suc m) r) (deep_place (suc m) b)
    ∙ ap (λ n. first_place (option_map (λ j. 41 + j) (deep_place (suc m) r)) n (deep_place (suc m) b)) long

-- a tree pushed after others
pub plain-push : (ts : List WireTree) (t : WireTree) → plain (ts ++ t ∷ []) ≡ wired_followed (plain ts) (put t nil)
plain-push [] t = refl
plain-push (u ∷ ts) t =
    ap (put u) (plain-push ts t) ∙ put-followed u (wired_followed (plain ts) (put t nil)) ∙ sym (wired_followed_assoc (put u nil) (plain ts) (put t nil))
    ∙ ap (λ o. wired_followed o (put t nil)) (sym (put-followed u (plain ts)))

-- trees that were made, and those that are still to be
pub record BuildsOn (levels : ℕ) (o : Wired) (y rest : List ℕ) (trees : List WireTree) (still : ℕ) : Type 0 where
  pub later : Wired
  pub are : AreTrees later
  pub left : count_of later ≡ still
  pub text : rest ≡ trees_bytes later ++ y
  pub parts : o ≡ wired_followed (plain trees) later
  pub shallow : deep_place levels (plain trees) ≡ None

-- what is known of a single tree at the beginning
pub record IsNode (o : Wired) (y rest : List ℕ) : Type 0 where
  pub label : List ℕ
  pub kids : Wired
  pub is : o ≡ node label kids nil
  pub short : length label < 2 ^ 32
  pub few : count_of kids < 2 ^ 32
  pub are : AreTrees kids
  pub text : rest ≡ label_bytes label ++ (u32_bytes (count_of kids) ++ (trees_bytes kids ++ y))

nothing_left : (o : Wired) → count_of o + 1 ≡ 1 → o ≡ nil
nothing_left nil e = refl
nothing_left (node l k r) e = absurd (omega arith)
nothing_left (hole i w r) e = absurd (omega arith)

-- a tree that begins with another byte than 1 is a node
pub node_here : (o : Wired) (y rest : List ℕ) (tag : ℕ) → (tag ≡ 1 → ⊥) → AreTrees o → count_of o ≡ 1 → tag ∷ rest ≡ trees_bytes o ++ y → IsNode o y rest
node_here nil y rest tag other are e f = absurd (omega arith)
node_here (hole i w r) y rest tag other are e f = absurd (other (ap (λ l. get_or l 0 0) f))
node_here (node l k r) y rest tag other are e f =
    let none = nothing_left r e in
    record {
      label = l;
      kids = k;
      is = ap (node l k) none;
      short = are.1;
      few = are.2;
      are = are.3;
      text = ap (drop 1) f ∙ ap (λ s. (label_bytes l ++ ((u32_bytes (count_of k) ++ trees_bytes k) ++ trees_bytes s)) ++ y) none ∙ regrouped (label_bytes l) (u32_bytes (count_of k)) (trees_bytes k) y;
    }
  where
    regrouped : (a b c d : List ℕ) → (a ++ ((b ++ c) ++ [])) ++ d ≡ a ++ (b ++ (c ++ d))
    regrouped a b c d = simp (append_assoc, append_nil)

pub record IsHoleHere (o : Wired) (y rest : List ℕ) : Type 0 where
  pub id : HoleId
  pub weight : ℕ
  pub is : o ≡ hole id weight nil
  pub good : IsHole id
  pub low : weight < 2 ^ 128
  pub text : rest ≡ hole_bytes id weight ++ y

-- a tree whose bytes begin with 1 is a hole
pub hole_here : (o : Wired) (y rest : List ℕ) (tag : ℕ) → tag ≡ 1 → AreTrees o → count_of o ≡ 1 → tag ∷ rest ≡ trees_bytes o ++ y → IsHoleHere o y rest
hole_here nil y rest tag one are e f = absurd (omega arith)
hole_here (node l k r) y rest tag one are e f = absurd (omega (arith, one, ap (λ l. get_or l 0 0) f))
hole_here (hole i w r) y rest tag one are e f =
    let none = nothing_left r e in
    record {
      id = i;
      weight = w;
      is = ap (hole i w) none;
      good = are.0;
      low = are.1;
      text = ap (drop 1) f ∙ ap (λ s. (hole_bytes i w ++ trees_bytes s) ++ y) none ∙ ap (λ z. z ++ y) (append_nil (hole_bytes i w));
    }

-- a tree below no levels lies too deep
pub deep_at_once : (o : Wired) → count_of o ≡ 1 → deep_place 0 o ≡ Some 0
deep_at_once nil e = absurd (omega arith)
deep_at_once (node l k r) e = refl
deep_at_once (hole i w r) e = refl

-- a node of which a child lies too deep, or none
pub deep_node : (levels : ℕ) (l : List ℕ) (k : Wired) → 0 < levels → deep_place levels (node l k nil) ≡ option_map (λ i. length (label_bytes l) + 5 + i) (deep_place (levels - 1) k)
deep_node zero l k h = absurd (omega arith)
deep_node (suc m) l k h =
    let same : suc m - 1 ≡ m = omega arith in
    go (option_map (λ i. length (label_bytes l) + 5 + i) (deep_place m k)) ∙ ap (λ n. option_map (λ i. length (label_bytes l) + 5 + i) (deep_place n k)) (sym same)
  where
    go : (a : Option ℕ) → first_place a (length (label_bytes l) + 5 + length (trees_bytes k)) None ≡ a
    go (Some i) = refl
    go None = refl

-- a hole below a level doesn't
pub deep_hole : (levels : ℕ) (id : HoleId) (w : ℕ) → 0 < levels → deep_place levels (hole id w nil) ≡ None
deep_hole zero id w h = absurd (omega arith)
deep_hole (suc m) id w h = refl

-- with one tree more the trees that were made are those at the beginning, one more of them
pub builds_more : (levels : ℕ) (o : Wired) (y rest after : List ℕ) (trees : List WireTree) (tree : WireTree) (still : ℕ) (b : BuildsOn levels o y rest trees (still + 1))
    (p : Parted 1 still b.later) → put tree nil ≡ p.first → after ≡ trees_bytes p.others ++ y → deep_place levels p.first ≡ None → BuildsOn levels o y after (trees ++ tree ∷ []) still
builds_more levels o y rest after trees tree still b p is text shallow = record {
  later = p.others;
  are = p.are_others;
  left = p.count_others;
  text = text;
  parts = b.parts ∙ ap (wired_followed (plain trees)) p.parts ∙ sym (wired_followed_assoc (plain trees) p.first p.others)
      ∙ ap (λ f. wired_followed (wired_followed (plain trees) f) p.others) (sym is) ∙ ap (λ a. wired_followed a p.others) (sym (plain-push trees tree));
  shallow = ap (deep_place levels) (plain-push trees tree ∙ ap (wired_followed (plain trees)) is) ∙ deep-followed levels (plain trees) p.first
      ∙ ap (λ a. first_place a (length (trees_bytes (plain trees))) (deep_place levels p.first)) b.shallow
      ∙ ap (option_map (λ i. length (trees_bytes (plain trees)) + i)) shallow;
}

-- a tree among them lies too deep, or memory ran out
pub stops_later : (levels : ℕ) (o : Wired) (y bytes rest : List ℕ) (trees : List WireTree) (still : ℕ) (e : Unbuilt) (b : BuildsOn levels o y rest trees (still + 1))
    (p : Parted 1 still b.later) → bytes ≡ trees_bytes o ++ y → StopsAt levels p.first rest e → StopsAt levels o bytes e
stops_later levels o y bytes rest trees still OutOfMemory b p text s = tt
stops_later levels o y bytes rest trees still (TooDeep left) b p text s =
    let a = plain trees in
    let at = s.0 in
    let later : deep_place levels b.later ≡ Some at =
    ap (deep_place levels) p.parts ∙ deep-followed levels p.first p.others ∙ ap (λ d. first_place d (length (trees_bytes p.first)) (deep_place levels p.others)) s.1 in
    let whole : deep_place levels o ≡ Some (length (trees_bytes a) + at) =
    ap (deep_place levels) b.parts ∙ deep-followed levels a b.later ∙ ap (λ d. first_place d (length (trees_bytes a)) (deep_place levels b.later)) b.shallow
    ∙ ap (option_map (λ i. length (trees_bytes a) + i)) later in
    let long : length bytes ≡ length (trees_bytes a) + length rest =
    omega (
      arith,
      ap length text,
      length-append (trees_bytes o) y,
      ap (λ w. length (trees_bytes w)) b.parts,
      ap length (trees_bytes-followed a b.later),
      length-append (trees_bytes a) (trees_bytes b.later),
      ap length b.text,
      length-append (trees_bytes b.later) y,
    ) in
    (length (trees_bytes a) + at, whole, omega (arith, s.2, long))

-- the text of the first tree and of the others
pub first_text : (o : Wired) (y rest : List ℕ) (still : ℕ) (p : Parted 1 still o) → rest ≡ trees_bytes o ++ y → rest ≡ trees_bytes p.first ++ (trees_bytes p.others ++ y)
first_text o y rest still p e =
    e ∙ ap (λ w. trees_bytes w ++ y) p.parts ∙ ap (λ z. z ++ y) (trees_bytes-followed p.first p.others) ∙ append_assoc (trees_bytes p.first) (trees_bytes p.others) y

followed_nil : (o : Wired) → wired_followed o nil ≡ o
followed_nil nil = refl
followed_nil (node l k r) = ap (node l k) (followed_nil r)
followed_nil (hole i w r) = ap (hole i w) (followed_nil r)

no_trees_are : (o : Wired) → count_of o ≡ 0 → o ≡ nil
no_trees_are nil e = refl
no_trees_are (node l k r) e = absurd (omega arith)
no_trees_are (hole i w r) e = absurd (omega arith)

-- all trees were made
pub builds_all : (levels : ℕ) (o : Wired) (y rest : List ℕ) (trees : List WireTree) (still : ℕ) → BuildsOn levels o y rest trees still → still ≡ 0 → (plain trees ≡ o) × (rest ≡ y) × (deep_place levels o ≡ None)
builds_all levels o y rest trees still b e =
    let none = no_trees_are b.later (b.left ∙ e) in
    let all : plain trees ≡ o = sym (b.parts ∙ ap (wired_followed (plain trees)) none ∙ followed_nil (plain trees)) in
    (all, b.text ∙ ap (λ w. trees_bytes w ++ y) none, ap (deep_place levels) (sym all) ∙ b.shallow)

-- a child lies too deep, or memory ran out
pub stops_below : (levels : ℕ) (o : Wired) (l : List ℕ) (k : Wired) (bytes rest : List ℕ) (e : Unbuilt) → 0 < levels → o ≡ node l k nil → length bytes ≡ length (label_bytes l) + 5 + length rest
    → StopsAt (levels - 1) k rest e → StopsAt levels o bytes e
stops_below levels o l k bytes rest OutOfMemory some is long s = tt
stops_below levels o l k bytes rest (TooDeep left) some is long s =
    (length (label_bytes l) + 5 + s.0, ap (deep_place levels) is ∙ deep_node levels l k some ∙ ap (option_map (λ i. length (label_bytes l) + 5 + i)) s.1, omega (arith, long, s.2))

-- a tree of a list lies too deep, or memory ran out
pub stops_list : (o : Wired) (text rest : List ℕ) (e : Unbuilt) → length text ≡ 4 + length rest → StopsAt 200 o rest e → BuildsList o text (Err e)
stops_list o text rest OutOfMemory long s = tt
stops_list o text rest (TooDeep left) long s = (s.0, s.1, omega (arith, long, s.2))
