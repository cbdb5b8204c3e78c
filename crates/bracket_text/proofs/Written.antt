-- The canonical text of a tree spells it.
use Rattle.std.proofs.Common.{◌≡◌, inl, ◌<◌, ◌∙◌, ℕ, List, [], ◌∷◌, ◌++◌, refl, sym, ap, append_assoc, arith, length}
use Rattle.mix_base.proofs.Lists.{append_nil}
use Rattle.mix_tree.specs.Forest.{Forest, none, tree, LabelledTree, alone, forest_of}
use Rattle.mix_tree.specs.Spelling.{spelling}
use Rattle.mix_tree.proofs.LabelCanonical.{spelling_spells}
use Rattle.bracket_text.specs.Grammar.{SpellsBrackets, SpellsRest, SpellsTrees, Spells}
use Rattle.bracket_text.specs.Canonical.{canon_brackets, canon_rest, canon_trees, canon}

-- the canonical text of trees spells them, where there are any
abbrev AreSpelled : Forest → Type 0
AreSpelled none = Unit {0}
AreSpelled (tree label kids rest) = SpellsTrees (tree label kids rest) (canon_trees (tree label kids rest))

-- the brackets round children, where their canonical text spells them, are spelled as the grammar has it
brackets_spell : (k : Forest) → AreSpelled k → SpellsBrackets k (SpellsTrees k) (canon_brackets k (canon_trees k))
brackets_spell none h = inl refl
brackets_spell (tree l k n) h =
    let x = canon_trees (tree l k n) in
    ([], [], x, [], refl, refl, refl, h, ap (λ r. 91 ∷ r ++ 93 ∷ []) (sym (append_nil x)))

-- the canonical text of the trees after a tree is spelled as the grammar has it
rest_spells : (n : Forest) → AreSpelled n → SpellsRest n (SpellsTrees n) (canon_rest n (canon_trees n))
rest_spells none h = refl
rest_spells (tree l k n) h = ([], [], canon_trees (tree l k n), refl, refl, h, refl)

-- the canonical text of all trees of a list spells them, where there are any
trees_spell : (f : Forest) → AreSpelled f
trees_spell none = tt
trees_spell (tree l k n) =
    (spelling l, canon_brackets k (canon_trees k), canon_rest n (canon_trees n), spelling_spells l, brackets_spell k (trees_spell k), rest_spells n (trees_spell n), refl)

-- the canonical text of a tree spells it
pub canon_spells : (t : LabelledTree) → Spells (canon t) t
canon_spells t = ([], canon_trees (alone t), [], refl, refl, trees_spell (alone t), sym (append_nil (canon t)) ∙ sym (append_nil (canon t ++ [])))

-- the canonical text of a first tree, and then of the others, is that of all of them
pub first_then : (t : LabelledTree) (ts : List LabelledTree) (x : List ℕ) → (x ++ canon t) ++ canon_rest (forest_of ts) (canon_trees (forest_of ts)) ≡ x ++ canon_trees (forest_of (t ∷ ts))
first_then t ts x = append_assoc x (canon t) (canon_rest (forest_of ts) (canon_trees (forest_of ts)))

-- brackets round the text of children after a label
pub bracketed : (l : List ℕ) (ts : List LabelledTree) (x : List ℕ) → 0 < length ts
    → (((x ++ spelling l) ++ 91 ∷ []) ++ canon_trees (forest_of ts)) ++ 93 ∷ [] ≡ x ++ canon (record { label = l; kids = forest_of ts })
bracketed l [] x h = absurd (omega arith)
bracketed l (t ∷ ts) x h = regrouped x (spelling l) (91 ∷ []) (canon_trees (forest_of (t ∷ ts))) (93 ∷ [])
  where
    regrouped : (a b c d e : List ℕ) → (((a ++ b) ++ c) ++ d) ++ e ≡ a ++ (b ++ (c ++ (d ++ e)))
    regrouped a b c d e = simp append_assoc
