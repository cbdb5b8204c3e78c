-- The stacks of trees that fills change.
use Rattle.std.proofs.Common.{◌≡◌, ◌≤◌, ℕ, suc, ◌-◌, Some, List, [], ◌∷◌, ◌++◌, length, length-append, drop, refl, ap, ◌∙◌, arith, append_assoc, false}
use Rattle.std.specs.Prelude.{reverse, remove, slice_get}
use Rattle.std.proofs.lemmas.List.{take_at}
use Rattle.lxp_core.specs.declared.open_tree.HoleId.{HoleId}
use Rattle.lxp_core.specs.declared.open_tree.OpenTree.{OpenTree}
use Rattle.lxp_core.specs.declared.open_tree.OpenTree.TheVariants.{Hole, Node}
use Rattle.lxp_core.specs.Open.{nil, hole, open_followed, begins_with_hole}
use Rattle.lxp_core.specs.Plain.{put, stacked, plain}
use Rattle.lxp_core.proofs.Plains.{put-hole, put-node, put_all-open_followed, stacked-append, stacked-reverse}

-- a stack's last tree is put before the list that the others are
pub stacked-top : (prefix : List OpenTree) (t : OpenTree) → stacked (prefix ++ t ∷ []) nil ≡ put t (stacked prefix nil)
stacked-top prefix t = stacked-append prefix (t ∷ []) nil

-- a hole at the top of a stack stands at the beginning of the list
pub stacked-hole : (prefix : List OpenTree) (h : HoleId) → stacked (prefix ++ Hole h ∷ []) nil ≡ hole h (stacked prefix nil)
stacked-hole prefix h = stacked-top prefix (Hole h) ∙ put-hole h (stacked prefix nil)

-- a list put after a stack's top, of which the old top is then removed, is that list and then what was below the top
pub stacked-refilled : (prefix list : List OpenTree) (t : OpenTree) → stacked (remove ((prefix ++ t ∷ []) ++ reverse list) (length prefix)) nil ≡ open_followed (plain list) (stacked prefix nil)
stacked-refilled prefix list t =
    let parts : (prefix ++ t ∷ []) ++ reverse list ≡ prefix ++ (t ∷ reverse list) = append_assoc prefix (t ∷ []) (reverse list) in
    let whole : remove ((prefix ++ t ∷ []) ++ reverse list) (length prefix) ≡ prefix ++ reverse list =
    rw (parts, take_at prefix (t ∷ reverse list) (length prefix) refl) (ap (λ xs. prefix ++ xs) (dropped prefix t (reverse list))) in
    ap (λ xs. stacked xs nil) whole ∙ stacked-append prefix (reverse list) nil ∙ stacked-reverse list (stacked prefix nil) ∙ put_all-open_followed list (stacked prefix nil)
  where
    dropped : (prefix : List OpenTree) (t : OpenTree) (rest : List OpenTree) → drop (suc (length prefix)) (prefix ++ (t ∷ rest)) ≡ rest
    dropped [] t rest = refl
    dropped (x ∷ prefix) t rest = dropped prefix t rest

-- a list that takes the place of a stack's only tree is that list
pub stacked-only : (prefix list : List OpenTree) (t : OpenTree) → length (prefix ++ t ∷ []) ≡ 1 → stacked (reverse list) nil ≡ open_followed (plain list) (stacked prefix nil)
stacked-only [] list t e = stacked-reverse list nil ∙ put_all-open_followed list nil
stacked-only (x ∷ prefix) list t e = absurd (omega (arith, e, length-append prefix (t ∷ [])))

-- a stack that has a last tree is the others and that one
pub last_split : (xs : List OpenTree) (t : OpenTree) → Some t ≡ slice_get xs (length xs - 1) → (prefix : List OpenTree) × (xs ≡ prefix ++ t ∷ [])
last_split [] t e = cc
last_split (x ∷ []) t e = ([], cc)
last_split (x ∷ y ∷ xs) t e =
    let shorter : length (x ∷ y ∷ xs) - 1 ≡ suc (length (y ∷ xs) - 1) = omega arith in
    let r = last_split (y ∷ xs) t (e ∙ ap (slice_get (x ∷ y ∷ xs)) shorter) in
    (x ∷ r.0, ap (λ zs. x ∷ zs) r.1)

-- a node at the top of a stack is no hole at the beginning of the list
pub no_hole_at_top : (xs : List OpenTree) (t : OpenTree) (l : List ℕ) (ks : _) → Some t ≡ slice_get xs (length xs - 1) → t ≡ Node l ks → begins_with_hole (stacked xs nil) ≡ false
no_hole_at_top xs t l ks e is =
    let r = last_split xs t e in
    ap (λ ys. begins_with_hole (stacked ys nil)) r.1 ∙ ap begins_with_hole (stacked-top r.0 t ∙ ap (λ u. put u (stacked r.0 nil)) is ∙ put-node l ks (stacked r.0 nil))

-- a list of at most one tree is the same, turned round
pub turned_short : (xs : List OpenTree) → length xs ≤ 1 → xs ≡ reverse xs
turned_short [] h = refl
turned_short (x ∷ []) h = refl
turned_short (x ∷ y ∷ xs) h = absurd (omega arith)

-- the last of one tree is that tree
pub last_alone : (prefix : List OpenTree) (t u : OpenTree) → u ∷ [] ≡ prefix ++ t ∷ [] → t ≡ u
last_alone [] t u e = cc
last_alone (x ∷ prefix) t u e = absurd (omega (arith, ap length e, length-append prefix (t ∷ [])))
