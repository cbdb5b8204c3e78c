-- The plain form of the code's lists of trees with holes.
use Rattle.std.proofs.Common.{◌≡◌, ℕ, List, [], ◌∷◌, ◌++◌, map, refl, ap, subst, sym, ◌∙◌}
use Rattle.std.specs.Prelude.{reverse}
use mathlib.Core.List.{reverse_aux}
use Rattle.lxp_core.specs.declared.open_tree.HoleId.{HoleId}
use Rattle.lxp_core.specs.declared.open_tree.OpenTree.{OpenTree}
use Rattle.lxp_core.specs.declared.open_tree.OpenTree.TheOpen.{OpenTree-F, Node, Hole}
use Rattle.lxp_core.specs.declared.open_tree.OpenTree.TheViews.{roll-OpenTree}
use Rattle.lxp_core.specs.declared.open_tree.OpenTree.TheFolds.{fold-roll-OpenTree, fold_out-OpenTree}
use Rattle.lxp_core.specs.declared.open_tree.OpenTree.TheVariants.{Hole as made_hole, rolls-Hole, Node as made_node, rolls-Node}
use Rattle.lxp_core.specs.Open.{Open, nil, node, hole, open_followed}
use Rattle.lxp_core.specs.Plain.{put, put_step, put_all, all_before, stacked, plain}
use Rattle.lxp_core.proofs.Opens.{open_followed_assoc}

-- trees put before a list one after another are put before it each by its own function
all_before-map : (ts : List OpenTree) (rest : Open) → all_before (map put ts) rest ≡ put_all ts rest
all_before-map [] rest = refl
all_before-map (t ∷ ts) rest = ap (put t) (all_before-map ts rest)

-- a node that is given as one layer of a tree, put before a list, is the plain node before it
pub put-layer_node : (label : List ℕ) (kids : _) (rest : Open) → put (roll-OpenTree (Node label kids)) rest ≡ node label (plain kids.items) rest
put-layer_node label kids rest =
    ap (λ f. f rest) (fold-roll-OpenTree (Open → Open) put_step (Node label kids)) ∙ ap (λ o. node label o rest) (all_before-map kids.items nil)

-- a hole that is given as one layer of a tree, put before a list, is the plain hole before it
pub put-layer_hole : (h : HoleId) (rest : Open) → put (roll-OpenTree (Hole h)) rest ≡ hole h rest
put-layer_hole h rest = ap (λ f. f rest) (fold-roll-OpenTree (Open → Open) put_step (Hole h))

-- a node as code makes it, put before a list, is the plain node before it
pub put-node : (label : List ℕ) (kids : _) (rest : Open) → put (made_node label kids) rest ≡ node label (plain kids.items) rest
put-node label kids rest = ap (λ t. put t rest) (sym (rolls-Node label kids)) ∙ put-layer_node label kids rest

-- a hole as code makes it, put before a list, is the plain hole before it
pub put-hole : (h : HoleId) (rest : Open) → put (made_hole h) rest ≡ hole h rest
put-hole h rest = ap (λ t. put t rest) (sym (rolls-Hole h)) ∙ put-layer_hole h rest

-- one tree with holes before a list is that tree alone and the list after it
put_step-open_followed : (x : OpenTree-F (Open → Open)) (rest : Open) → put_step x rest ≡ open_followed (put_step x nil) rest
put_step-open_followed (Node label kids) rest = refl
put_step-open_followed (Hole h) rest = refl

-- a tree before a list is that tree alone and the list after it
pub put-open_followed : (t : OpenTree) (rest : Open) → put t rest ≡ open_followed (put t nil) rest
put-open_followed t rest =
    subst (λ f. f rest ≡ open_followed (f nil) rest) (sym (fold_out-OpenTree (Open → Open) put_step t)) (put_step-open_followed _ rest)

-- trees before a list are those trees alone and the list after them
pub put_all-open_followed : (ts : List OpenTree) (rest : Open) → put_all ts rest ≡ open_followed (plain ts) rest
put_all-open_followed [] rest = refl
put_all-open_followed (t ∷ ts) rest =
    put-open_followed t (put_all ts rest) ∙ ap (open_followed (put t nil)) (put_all-open_followed ts rest)
    ∙ sym (open_followed_assoc (put t nil) (plain ts) rest)
    ∙ ap (λ o. open_followed o rest) (sym (put-open_followed t (plain ts)))

-- two lists of trees before a list are the first before the second before that list
pub put_all-append : (a b : List OpenTree) (rest : Open) → put_all (a ++ b) rest ≡ put_all a (put_all b rest)
put_all-append [] b rest = refl
put_all-append (t ∷ a) b rest = ap (put t) (put_all-append a b rest)

-- a hole put after trees stands after them, before the list
pub put_all-push_hole : (ts : List OpenTree) (h : HoleId) (rest : Open) → put_all (ts ++ made_hole h ∷ []) rest ≡ put_all ts (hole h rest)
put_all-push_hole ts h rest = put_all-append ts (made_hole h ∷ []) rest ∙ ap (put_all ts) (put-hole h rest)

-- a node put after trees stands after them, before the list
pub put_all-push_node : (ts : List OpenTree) (label : List ℕ) (kids : _) (rest : Open) → put_all (ts ++ made_node label kids ∷ []) rest ≡ put_all ts (node label (plain kids.items) rest)
put_all-push_node ts label kids rest = put_all-append ts (made_node label kids ∷ []) rest ∙ ap (put_all ts) (put-node label kids rest)

-- the plain form of one list of trees after another is that of the first, followed by that of the second
pub plain-append : (a b : List OpenTree) → plain (a ++ b) ≡ open_followed (plain a) (plain b)
plain-append a b = put_all-append a b nil ∙ put_all-open_followed a (plain b)

-- of a longer stack the upper part comes first
pub stacked-append : (a b : List OpenTree) (rest : Open) → stacked (a ++ b) rest ≡ stacked b (stacked a rest)
stacked-append [] b rest = refl
stacked-append (t ∷ a) b rest = stacked-append a b (put t rest)

-- a list that is turned round onto a stack is put before a list after what the stack has
stacked-reverse_aux : (ts b : List OpenTree) (rest : Open) → stacked (reverse_aux ts b) rest ≡ stacked b (put_all ts rest)
stacked-reverse_aux [] b rest = refl
stacked-reverse_aux (t ∷ ts) b rest = stacked-reverse_aux ts (t ∷ b) rest

-- a list of trees turned round is a stack of them
pub stacked-reverse : (ts : List OpenTree) (rest : Open) → stacked (reverse ts) rest ≡ put_all ts rest
stacked-reverse ts rest = stacked-reverse_aux ts [] rest
