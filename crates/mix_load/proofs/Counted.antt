-- The nodes of a tree by the brackets and commas of its canonical text.
use Rattle.std.proofs.Common.{◌≡◌, ◌∙◌, ◌==◌, ◌+◌, ℕ, Bool, true, false, cond, IsTrue, List, [], ◌∷◌, ◌++◌, refl, ap, sym, append_assoc, arith}
use Rattle.std.specs.List.{flat_map, list_all}
use Rattle.std.proofs.lemmas.Bool.Decides.{nat_tests}
use Rattle.std.proofs.lemmas.List.{append-nil}
use Rattle.mix_base.proofs.Choices.{and_parts}
use Rattle.mix_tree.specs.Forest.{Forest, none, tree, LabelledTree}
use Rattle.mix_tree.specs.Spelling.{escaped, is_bare, is_bare_label, quoted, spelling}
use Rattle.mix_tree.specs.Weight.{nodes_of, tree_nodes}
use Rattle.bracket_text.specs.Canonical.{canon, canon_brackets, canon_rest, canon_trees}
use Rattle.mix_load.specs.Parts.{parts}
use Rattle.mix_load.specs.declared.nodes.Stand.TheVariants.{Outside, Quoted}

-- a bare byte parts nothing and opens no quotes
bare_byte : (b : ℕ) (y : List ℕ) → IsTrue (is_bare b) → parts Outside (b ∷ y) ≡ parts Outside y
bare_byte b y h =
    let quote : (b == 34) ≡ false = grind (arith, nat_tests) in
    let bracket : (b == 91) ≡ false = grind (arith, nat_tests) in
    let comma : (b == 44) ≡ false = grind (arith, nat_tests) in
    rw (quote, bracket, comma) (omega arith)

-- bare bytes before a text add no parts to it
bare_parts : (l y : List ℕ) → IsTrue (list_all is_bare l) → parts Outside (l ++ y) ≡ parts Outside y
bare_parts [] y h = refl
bare_parts (b ∷ l) y h = let p = and_parts (is_bare b) (list_all is_bare l) h in bare_byte b (l ++ y) p.0 ∙ bare_parts l y p.1

-- a byte as it stands between quotes parts nothing, and the quotes stay open
escaped_parts : (b : ℕ) (y : List ℕ) → parts Quoted (escaped b ++ y) ≡ parts Quoted y
escaped_parts b y = by_cases (b == 34) (b == 92) (b == 10) (b == 9) refl refl
  where
    by_cases : (q s n t : Bool) → (b == 34) ≡ q → (b == 92) ≡ s
        → parts Quoted (cond q (92 ∷ 34 ∷ []) (cond s (92 ∷ 92 ∷ []) (cond n (92 ∷ 110 ∷ []) (cond t (92 ∷ 116 ∷ []) (b ∷ [])))) ++ y) ≡ parts Quoted y
    by_cases true s n t e f = omega arith
    by_cases false true n t e f = omega arith
    by_cases false false true t e f = omega arith
    by_cases false false false true e f = omega arith
    by_cases false false false false e f = rw (e, f) (omega arith)

-- the bytes of a label as they stand between quotes part nothing, and the quotes stay open
inside_parts : (l y : List ℕ) → parts Quoted (flat_map escaped l ++ y) ≡ parts Quoted y
inside_parts [] y = refl
inside_parts (b ∷ l) y =
    ap (parts Quoted) (append_assoc (escaped b) (flat_map escaped l) y) ∙ escaped_parts b (flat_map escaped l ++ y) ∙ inside_parts l y

-- a label between quotes parts nothing
quoted_parts : (l y : List ℕ) → parts Outside (quoted l ++ y) ≡ parts Outside y
quoted_parts l y =
    let inner : parts Quoted ((flat_map escaped l ++ 34 ∷ []) ++ y) ≡ parts Quoted (34 ∷ y) =
    ap (parts Quoted) (append_assoc (flat_map escaped l) (34 ∷ []) y) ∙ inside_parts l (34 ∷ y) in
    omega (arith, inner)

-- a label before a text adds no parts to it
label_parts : (l y : List ℕ) → parts Outside (spelling l ++ y) ≡ parts Outside y
label_parts l y = by_cases l (is_bare_label l) refl
  where
    by_cases : (l : List ℕ) (b : Bool) → is_bare_label l ≡ b → parts Outside (cond b l (quoted l) ++ y) ≡ parts Outside y
    by_cases [] true e = refl
    by_cases (c ∷ l) true e = bare_parts (c ∷ l) y e
    by_cases l false e = quoted_parts l y

-- the canonical text of a forest has one part less than it has nodes
abbrev AreCounted : Forest → Type 0
AreCounted none = Unit {0}
AreCounted (tree l k n) = (y : List ℕ) → parts Outside (canon_trees (tree l k n) ++ y) + 1 ≡ nodes_of (tree l k n) + parts Outside y

-- the brackets round children have as many parts as the children have nodes
brackets_counted : (k : Forest) (y : List ℕ) → AreCounted k → parts Outside (canon_brackets k (canon_trees k) ++ y) ≡ nodes_of k + parts Outside y
brackets_counted none y h = omega arith
brackets_counted (tree l k n) y h =
    let x = canon_trees (tree l k n) in
    let inner : parts Outside ((x ++ 93 ∷ []) ++ y) + 1 ≡ nodes_of (tree l k n) + parts Outside (93 ∷ y) =
    ap (λ r. parts Outside r + 1) (append_assoc x (93 ∷ []) y) ∙ h (93 ∷ y) in
    omega (arith, inner)

-- the comma before other trees and their text have as many parts as these have nodes
rest_counted : (n : Forest) (y : List ℕ) → AreCounted n → parts Outside (canon_rest n (canon_trees n) ++ y) ≡ nodes_of n + parts Outside y
rest_counted none y h = omega arith
rest_counted (tree l k n) y h = omega (arith, h y)

-- the canonical text of each forest has one part less than it has nodes
trees_counted : (f : Forest) → AreCounted f
trees_counted none = tt
trees_counted (tree l k n) = λ y.
    let brackets = canon_brackets k (canon_trees k) in
    let rest = canon_rest n (canon_trees n) in
    let split : parts Outside (canon_trees (tree l k n) ++ y) ≡ parts Outside (brackets ++ (rest ++ y)) =
    ap (parts Outside) (append_assoc (spelling l ++ brackets) rest y ∙ append_assoc (spelling l) brackets (rest ++ y)) ∙ label_parts l (brackets ++ (rest ++ y)) in
    omega (arith, split, brackets_counted k (rest ++ y) (trees_counted k), rest_counted n y (trees_counted n))

-- the canonical text of a tree has a part less than the tree has nodes
pub tree_counted : (t : LabelledTree) → parts Outside (canon t) + 1 ≡ tree_nodes t
tree_counted t =
    let brackets = canon_brackets t.kids (canon_trees t.kids) in
    let label = label_parts t.label brackets in
    let kids : parts Outside brackets ≡ nodes_of t.kids + 0 =
    ap (parts Outside) (sym (append-nil brackets)) ∙ brackets_counted t.kids [] (trees_counted t.kids) in
    omega (arith, label, kids)
