-- The places that nodes stand for.
use Rattle.std.proofs.Common.{◌≡◌, ℕ, ◌+◌, ◌<◌, List, [], ◌∷◌, ◌++◌, length, get_or, refl, ap, ◌∙◌, arith, length-append}
use Rattle.std.proofs.lemmas.List.{get_or_append_left, get_or_push}
use Rattle.tree_buffer.specs.Nodes.{place_after, grown, places, place}

-- the places of links in two parts are grown by one part after the other
grown-append : (ps : List (List ℕ)) (a b : List (ℕ × ℕ)) → grown ps (a ++ b) ≡ grown (grown ps a) b
grown-append ps [] b = refl
grown-append ps (l ∷ a) b = grown-append (ps ++ place_after ps l ∷ []) a b

-- each link leads to a place
length-grown : (ps : List (List ℕ)) (ls : List (ℕ × ℕ)) → length (grown ps ls) ≡ length ps + length ls
length-grown ps [] = omega arith
length-grown ps (l ∷ ls) = omega (arith, length-grown (ps ++ place_after ps l ∷ []) ls, length-append ps (place_after ps l ∷ []))

-- there is a place for each link
pub length-places : (ls : List (ℕ × ℕ)) → length (places ls) ≡ length ls
length-places ls = omega (arith, length-grown [] ls)

-- a link after the first one leads below an earlier node
after_some : (ps : List (List ℕ)) (l : ℕ × ℕ) → 0 < length ps → place_after ps l ≡ get_or ps l.0 [] ++ l.1 ∷ []
after_some [] l some = absurd (omega arith)
after_some (p ∷ ps) l some = refl

-- the places with one node more are those before and the new node's below its parent's
pub places-push : (ls : List (ℕ × ℕ)) (l : ℕ × ℕ) → 0 < length ls → places (ls ++ l ∷ []) ≡ places ls ++ (place ls l.0 ++ l.1 ∷ []) ∷ []
places-push ls l some = grown-append [] ls (l ∷ []) ∙ ap (λ p. places ls ++ p ∷ []) (after_some (places ls) l (omega (arith, length-places ls)))

-- the places of earlier nodes stay
pub place-old : (ls : List (ℕ × ℕ)) (l : ℕ × ℕ) (i : ℕ) → i < length ls → place (ls ++ l ∷ []) i ≡ place ls i
place-old ls l i within =
    ap (λ ps. get_or ps i []) (places-push ls l (omega arith)) ∙ get_or_append_left (places ls) ((place ls l.0 ++ l.1 ∷ []) ∷ []) [] i (omega (arith, length-places ls))

-- the new node's place is below its parent's
pub place-new : (ls : List (ℕ × ℕ)) (l : ℕ × ℕ) → 0 < length ls → place (ls ++ l ∷ []) (length ls) ≡ place ls l.0 ++ l.1 ∷ []
place-new ls l some =
    ap (λ ps. get_or ps (length ls) []) (places-push ls l some) ∙ get_or_push (places ls) (place ls l.0 ++ l.1 ∷ []) [] (length ls) (length-places ls)
