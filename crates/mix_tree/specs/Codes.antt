-- A list of trees as a list of labels, by which a proof tells two of them apart.
use Rattle.std.specs.Prelude.{◌≡◌, ℕ, List, [], ◌∷◌, ◌++◌, Option, Some, None, refl}
use Rattle.std.specs.Coded.{Coded, code_by, coded×, coded_ℕ, coded_list, coded_option}
use Rattle.std.proofs.Common.{ap, ◌∙◌, sym}
use Rattle.mix_tree.specs.Forest.{Forest, none, tree, LabelledTree}

-- each label, its children and the trees after it, of which each ends in None
abbrev pub forest_codes : Forest → List (Option (List ℕ))
forest_codes none = None ∷ []
forest_codes (tree label kids rest) = Some label ∷ forest_codes kids ++ forest_codes rest

-- the first two lists become one, under a label
abbrev pub with_label : List ℕ → List Forest → List Forest
with_label label [] = []
with_label label (kids ∷ []) = []
with_label label (kids ∷ rest ∷ others) = tree label kids rest ∷ others

-- the lists of trees that a list of labels stands for
abbrev pub forests_from : List (Option (List ℕ)) → List Forest
forests_from [] = []
forests_from (None ∷ codes) = none ∷ forests_from codes
forests_from (Some label ∷ codes) = with_label label (forests_from codes)

-- the first of some lists of trees; an empty one where there is none
abbrev pub first_forest : List Forest → Forest
first_forest [] = none
first_forest (f ∷ others) = f

-- of three lists, the first two or the last two may be joined first
append_assoc : (a b c : List (Option (List ℕ))) → (a ++ b) ++ c ≡ a ++ (b ++ c)
append_assoc [] b c = refl
append_assoc (x ∷ a) b c = ap (λ r. x ∷ r) (append_assoc a b c)

-- nothing after a list changes nothing
append_nil : (a : List (Option (List ℕ))) → a ++ [] ≡ a
append_nil [] = refl
append_nil (x ∷ a) = ap (λ r. x ∷ r) (append_nil a)

-- the labels of a list of trees stand for it, whatever comes after
pub forests_from-codes : (f : Forest) (others : List (Option (List ℕ))) → forests_from (forest_codes f ++ others) ≡ f ∷ forests_from others
forests_from-codes none others = refl
forests_from-codes (tree label kids rest) others =
    ap (λ c. with_label label (forests_from c)) (append_assoc (forest_codes kids) (forest_codes rest) others)
    ∙ ap (with_label label) (forests_from-codes kids (forest_codes rest ++ others) ∙ ap (λ fs. kids ∷ fs) (forests_from-codes rest others))

-- the labels of a list of trees stand for it
pub first_forest-codes : (f : Forest) → first_forest (forests_from (forest_codes f)) ≡ f
first_forest-codes f =
    ap (λ c. first_forest (forests_from c)) (sym (append_nil (forest_codes f))) ∙ ap first_forest (forests_from-codes f [])

-- the code of a list of trees
abbrev pub coded_forest : Coded Forest
coded_forest =
    code_by (List (Option (List ℕ))) (coded_list (coded_option (coded_list coded_ℕ))) forest_codes (λ c. first_forest (forests_from c)) first_forest-codes

-- the code of a tree
abbrev pub coded_tree : Coded LabelledTree
coded_tree =
    code_by (List ℕ × Forest) (coded× (coded_list coded_ℕ) coded_forest) (λ t. (t.label, t.kids)) (λ p. record { label = p.0; kids = p.1 }) (λ _. refl)
