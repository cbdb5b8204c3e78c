-- Bracket text: which text spells which tree.
use Rattle.std.specs.Prelude.{◌≡◌, ◌⊎◌, ℕ, ◌≤◌, Bool, ◌||◌, ◌==◌, IsTrue, List, [], ◌∷◌, ◌++◌}
use Rattle.std.specs.List.{list_all}
use Rattle.mix_tree.specs.Forest.{Forest, none, tree, LabelledTree, alone}
use Rattle.mix_tree.specs.LabelGrammar.{SpellsLabel}
use Rattle.document_store.specs.Shallow.{levels}

-- whether a byte is a blank: a space, a tab, LF or CR
abbrev pub is_blank : ℕ → Bool
is_blank b = b == 32 || b == 9 || b == 10 || b == 13

-- the text is none or more blanks
abbrev pub IsBlanks : List ℕ → Type 0
IsBlanks x = IsTrue (list_all is_blank x)

-- what stands after the label of a tree with these children: nothing or empty brackets where it has none, else brackets round their text
abbrev pub SpellsBrackets : Forest → (List ℕ → Type 0) → List ℕ → Type 0
SpellsBrackets none SpellsKids x = (x ≡ []) ⊎ ((a b : List ℕ) × IsBlanks a × IsBlanks b × (x ≡ a ++ 91 ∷ b ++ 93 ∷ []))
SpellsBrackets (tree label kids rest) SpellsKids x =
    (a b text c : List ℕ) × IsBlanks a × IsBlanks b × IsBlanks c × SpellsKids text × (x ≡ a ++ 91 ∷ b ++ text ++ c ++ 93 ∷ [])

-- what stands after a tree of a list: nothing after the last one, else a comma and the text of the others
abbrev pub SpellsRest : Forest → (List ℕ → Type 0) → List ℕ → Type 0
SpellsRest none SpellsOthers x = x ≡ []
SpellsRest (tree label kids rest) SpellsOthers x =
    (a b others : List ℕ) × IsBlanks a × IsBlanks b × SpellsOthers others × (x ≡ a ++ 44 ∷ b ++ others)

-- the text x spells one or more trees, with commas between them
abbrev pub SpellsTrees : Forest → List ℕ → Type 0
SpellsTrees none x = ⊥
SpellsTrees (tree label kids rest) x =
    (spelled brackets others : List ℕ) × SpellsLabel spelled label × SpellsBrackets kids (SpellsTrees kids) brackets × SpellsRest rest (SpellsTrees rest) others
    × (x ≡ spelled ++ brackets ++ others)

-- the text x spells the tree t, with blanks round it
abbrev pub Spells : List ℕ → LabelledTree → Type 0
Spells x t = (a one b : List ℕ) × IsBlanks a × IsBlanks b × SpellsTrees (alone t) one × (x ≡ a ++ one ++ b)

-- no text spells two trees
abbrev pub SpellsAtMostOne : Type 0
SpellsAtMostOne = (x : List ℕ) (t u : LabelledTree) → Spells x t → Spells x u → t ≡ u

-- the text x spells the tree t, which has at most 200 levels
abbrev pub SpellsShallow : List ℕ → LabelledTree → Type 0
SpellsShallow x t = Spells x t × (levels t ≤ 200)
