-- Lists of texts with a byte between each two, and their last members.
use Rattle.std.proofs.Common.{◌≡◌, ◌∙◌, ◌<◌, ℕ, List, [], ◌∷◌, ◌++◌, sym, ap, arith, length, append_assoc}
use Rattle.std.specs.List.{flat_map, AllByRecursion}
use Rattle.std.proofs.lemmas.Grind.{flat_map-append}
use Rattle.mix_base.proofs.Lists.{append_nil}
use Rattle.node_text.specs.Grammar.{between, place_text, tuple_text}

-- the texts of a list's members, each with a byte after it
abbrev pub each : {X : Type 0} → ℕ → (X → List ℕ) → List X → List ℕ
each b f xs = flat_map (λ x. f x ++ b ∷ []) xs

-- with one member more the byte stands after that member's text too
pub each_more : {X : Type 0} (b : ℕ) (f : X → List ℕ) (xs : List X) (x : X) → each b f (xs ++ x ∷ []) ≡ (each b f xs ++ f x) ++ b ∷ []
each_more b f xs x =
    flat_map-append (λ y. f y ++ b ∷ []) xs (x ∷ []) ∙ ap (λ r. each b f xs ++ r) (append_nil (f x ++ b ∷ [])) ∙ sym (append_assoc (each b f xs) (f x) (b ∷ []))

-- a byte between each two texts is a byte after each but the last
turned : {X : Type 0} (b : ℕ) (f : X → List ℕ) (w : X) (xs : List X) (x : X) → f w ++ flat_map (λ y. b ∷ f y) (xs ++ x ∷ []) ≡ each b f (w ∷ xs) ++ f x
turned b f w [] x = ap (λ r. f w ++ b ∷ r) (append_nil (f x)) ∙ sym (append_assoc (f w) (b ∷ []) (f x)) ∙ ap (λ r. r ++ f x) (sym (append_nil (f w ++ b ∷ [])))
turned b f w (v ∷ xs) x =
    ap (λ r. f w ++ b ∷ r) (turned b f v xs x) ∙ sym (append_assoc (f w) (b ∷ []) (each b f (v ∷ xs) ++ f x))
    ∙ sym (append_assoc (f w ++ b ∷ []) (each b f (v ∷ xs)) (f x))

-- the last member of a list is written without the byte
pub between_last : {X : Type 0} (b : ℕ) (f : X → List ℕ) (xs : List X) (x : X) → between b f (xs ++ x ∷ []) ≡ each b f xs ++ f x
between_last b f [] x = append_nil (f x)
between_last b f (w ∷ xs) x = turned b f w xs x

-- places in parentheses, the last of them at the end
pub tuple_last : (ps : List (List ℕ)) (p : List ℕ) → tuple_text (ps ++ p ∷ []) ≡ 40 ∷ (each 44 place_text ps ++ place_text p) ++ 41 ∷ []
tuple_last [] p = ap (λ r. 40 ∷ r ++ 41 ∷ []) (append_nil (place_text p))
tuple_last (q ∷ ps) p = ap (λ r. 40 ∷ r ++ 41 ∷ []) (between_last 44 place_text (q ∷ ps) p)

-- what holds of each member and of one more holds of all of them
pub all_more : {X : Type 0} (P : X → Type 0) (xs : List X) (x : X) → AllByRecursion P xs → P x → AllByRecursion P (xs ++ x ∷ [])
all_more P [] x h k = (k, tt)
all_more P (y ∷ xs) x h k = (h.0, all_more P xs x h.1 k)

-- what holds of each member gives something else of each
pub all_map : {X : Type 0} (P Q : X → Type 0) → ((x : X) → P x → Q x) → (xs : List X) → AllByRecursion P xs → AllByRecursion Q xs
all_map P Q f [] h = tt
all_map P Q f (x ∷ xs) h = (f x h.0, all_map P Q f xs h.1)

-- two things hold of each member
pub all_both : {X : Type 0} (P Q : X → Type 0) (xs : List X) → AllByRecursion P xs → AllByRecursion Q xs → AllByRecursion (λ x. P x × Q x) xs
all_both P Q [] h k = tt
all_both P Q (x ∷ xs) h k = ((h.0, k.0), all_both P Q xs h.1 k.1)

-- a list with one member more is not empty
pub some_more : {X : Type 0} (xs : List X) (x : X) → 0 < length (xs ++ x ∷ [])
some_more [] x = omega arith
some_more (y ∷ xs) x = omega (arith, some_more xs x)
