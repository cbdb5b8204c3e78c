-- The places of trees, in document order, of which a test of the labels on the way holds.
use Rattle.std.specs.Prelude.{◌≡◌, ◌↔◌, ◌+◌, ℕ, Bool, true, cond, List, [], ◌∷◌, ◌++◌}
use Rattle.mix_tree.specs.Forest.{Forest, none, tree}
use Rattle.path_expr.specs.Form.{Form}
use Rattle.path_expr.specs.Description.{Labels, Describes}

-- the test holds exactly of what the path describes
abbrev pub Tests : Form → (Labels → Bool) → Type 0
Tests p test = (x : Labels) → (test x ≡ true) ↔ Describes p x

-- the places of these trees and of those below them, the first of which stands at an index below a place, under these labels
abbrev pub found_in : (Labels → Bool) → Labels → List ℕ → ℕ → Forest → List (List ℕ)
found_in test above at k none = []
found_in test above at k (tree label kids rest) =
    cond (test (above ++ label ∷ [])) ((at ++ k ∷ []) ∷ []) []
    ++ (found_in test (above ++ label ∷ []) (at ++ k ∷ []) 0 kids ++ found_in test above at (k + 1) rest)
