-- Items as a list of tokens, by which a proof tells two of them apart.
use Rattle.std.specs.Prelude.{◌≡◌, ℕ, ◌+◌, List, [], ◌∷◌, ◌++◌, cond, ◌==◌, map}
use Rattle.std.specs.Coded.{Coded, code_by, coded×, coded_ℕ, coded_list}
use Rattle.std.proofs.Common.{refl, ap, sym, ◌∙◌}
use Rattle.mix_tree.specs.declared.var.Key.{Key}
use Rattle.mix_tree.specs.declared.var.Key.TheVariants.{Node as node_key, LabelOf as label_key}
use Rattle.xmas_rule.specs.Items.{whole, label_alone, Items, done, literal, variable, element, Element}

-- how many elements stand among items, at any depth
abbrev pub items_size : Items → ℕ
items_size done = 0
items_size (literal label rest) = items_size rest
items_size (variable shown v own rest) = items_size rest
items_size (element label inside own rest) = 1 + items_size inside + items_size rest

-- how many elements an element is, itself included
abbrev pub element_size : Element → ℕ
element_size e = 1 + items_size e.items

-- a key as two numbers
abbrev pub key_code : Key → ℕ × ℕ
key_code (node_key v) = (0, v)
key_code (label_key v) = (1, v)

-- the key of two numbers
abbrev pub key_from : ℕ × ℕ → Key
key_from p = cond (p.0 == 0) (node_key p.1) (label_key p.1)

-- keys as pairs of numbers
abbrev pub keys_code : List Key → List (ℕ × ℕ)
keys_code ks = map key_code ks

-- the keys of pairs of numbers
abbrev pub keys_from : List (ℕ × ℕ) → List Key
keys_from ps = map key_from ps

-- pairs of numbers stand for their keys
pub keys_from-code : (ks : List Key) → keys_from (keys_code ks) ≡ ks
keys_from-code [] = refl
keys_from-code (node_key v ∷ ks) = ap (λ (z : List Key). node_key v ∷ z) (keys_from-code ks)
keys_from-code (label_key v ∷ ks) = ap (λ (z : List Key). label_key v ∷ z) (keys_from-code ks)

-- items as tokens, each a tag, a label, a variable and keys; what is inside and what is after follow
abbrev pub items_code : Items → List (ℕ × (List ℕ × (ℕ × List (ℕ × ℕ))))
items_code done = (0, ([], (0, []))) ∷ []
items_code (literal label rest) = (1, (label, (0, []))) ∷ items_code rest
items_code (variable whole v own rest) = (2, ([], (v, keys_code own))) ∷ items_code rest
items_code (variable label_alone v own rest) = (3, ([], (v, keys_code own))) ∷ items_code rest
items_code (element label inside own rest) = (4, (label, (0, keys_code own))) ∷ items_code inside ++ items_code rest

-- a token takes the items that it needs from a stack of items
abbrev pub token_on : (ℕ × (List ℕ × (ℕ × List (ℕ × ℕ)))) → List Items → List Items
token_on t [] = cond (t.0 == 0) (done ∷ []) []
token_on t (a ∷ []) = cond (t.0 == 0) (done ∷ a ∷ []) (cond (t.0 == 1) (literal t.1.0 a ∷ []) (cond (t.0 == 2) (variable whole t.1.1.0 (keys_from t.1.1.1) a ∷ []) (variable label_alone t.1.1.0 (keys_from t.1.1.1) a ∷ [])))
token_on t (a ∷ b ∷ rest) = cond (t.0 == 0) (done ∷ a ∷ b ∷ rest) (cond (t.0 == 1) (literal t.1.0 a ∷ b ∷ rest) (cond (t.0 == 2) (variable whole t.1.1.0 (keys_from t.1.1.1) a ∷ b ∷ rest) (cond (t.0 == 3) (variable label_alone t.1.1.0 (keys_from t.1.1.1) a ∷ b ∷ rest) (element t.1.0 a (keys_from t.1.1.1) b ∷ rest))))

-- the items that tokens stand for, read from the back
abbrev pub items_from : List (ℕ × (List ℕ × (ℕ × List (ℕ × ℕ)))) → List Items
items_from [] = []
items_from (t ∷ ts) = token_on t (items_from ts)

-- of three lists of tokens, the first two or the last two may be joined first
token_append : (a b c : List (ℕ × (List ℕ × (ℕ × List (ℕ × ℕ))))) → (a ++ b) ++ c ≡ a ++ (b ++ c)
token_append [] b c = refl
token_append (x ∷ a) b c = ap (λ r. x ∷ r) (token_append a b c)

-- a text's token puts the text before the first items of the stack
literal_on : (label : List ℕ) (a : Items) (xs : List Items) → token_on (1, (label, (0, []))) (a ∷ xs) ≡ literal label a ∷ xs
literal_on label a [] = refl
literal_on label a (x ∷ xs) = refl

-- the token of a variable that is shown whole puts that item before the first items of the stack
whole_on : (v : ℕ) (own : List Key) (a : Items) (xs : List Items) → token_on (2, ([], (v, keys_code own))) (a ∷ xs) ≡ variable whole v own a ∷ xs
whole_on v own a [] = ap (λ (k : List Key). variable whole v k a ∷ []) (keys_from-code own)
whole_on v own a (x ∷ xs) = ap (λ (k : List Key). variable whole v k a ∷ x ∷ xs) (keys_from-code own)

-- the token of a variable whose label is shown puts that item before the first items of the stack
alone_on : (v : ℕ) (own : List Key) (a : Items) (xs : List Items) → token_on (3, ([], (v, keys_code own))) (a ∷ xs) ≡ variable label_alone v own a ∷ xs
alone_on v own a [] = ap (λ (k : List Key). variable label_alone v k a ∷ []) (keys_from-code own)
alone_on v own a (x ∷ xs) = ap (λ (k : List Key). variable label_alone v k a ∷ x ∷ xs) (keys_from-code own)

-- the token of the end puts an empty list of items onto the stack
done_on : (xs : List Items) → token_on (0, ([], (0, []))) xs ≡ done ∷ xs
done_on [] = refl
done_on (x ∷ []) = refl
done_on (x ∷ y ∷ xs) = refl

-- the tokens of items stand for them, whatever comes after
pub items_from-code : (i : Items) (rest : List (ℕ × (List ℕ × (ℕ × List (ℕ × ℕ))))) → items_from (items_code i ++ rest) ≡ i ∷ items_from rest
items_from-code done rest = done_on (items_from rest)
items_from-code (literal label i) rest = ap (token_on (1, (label, (0, [])))) (items_from-code i rest) ∙ literal_on label i (items_from rest)
items_from-code (variable whole v own i) rest = ap (token_on (2, ([], (v, keys_code own)))) (items_from-code i rest) ∙ whole_on v own i (items_from rest)
items_from-code (variable label_alone v own i) rest = ap (token_on (3, ([], (v, keys_code own)))) (items_from-code i rest) ∙ alone_on v own i (items_from rest)
items_from-code (element label inside own i) rest =
    ap (λ z. token_on (4, (label, (0, keys_code own))) (items_from z)) (token_append (items_code inside) (items_code i) rest)
    ∙ ap (token_on (4, (label, (0, keys_code own)))) (items_from-code inside (items_code i ++ rest) ∙ ap (λ (z : List Items). inside ∷ z) (items_from-code i rest))
    ∙ ap (λ (k : List Key). element label inside k i ∷ items_from rest) (keys_from-code own)

-- the first items of a stack
abbrev pub first_items : List Items → Items
first_items [] = done
first_items (i ∷ rest) = i

-- the tokens of items stand for them
pub first_items-code : (i : Items) → first_items (items_from (items_code i)) ≡ i
first_items-code i = ap (λ z. first_items (items_from z)) (sym (append_none (items_code i))) ∙ ap first_items (items_from-code i [])
  where
    append_none : (a : List (ℕ × (List ℕ × (ℕ × List (ℕ × ℕ))))) → a ++ [] ≡ a
    append_none [] = refl
    append_none (x ∷ a) = ap (λ r. x ∷ r) (append_none a)

-- an element as a label, tokens and keys
abbrev pub element_code : Element → List ℕ × (List (ℕ × (List ℕ × (ℕ × List (ℕ × ℕ)))) × List (ℕ × ℕ))
element_code e = (e.label, (items_code e.items, keys_code e.keys))

-- the element of a label, tokens and keys
abbrev pub element_from : List ℕ × (List (ℕ × (List ℕ × (ℕ × List (ℕ × ℕ)))) × List (ℕ × ℕ)) → Element
element_from p = record { label = p.0; items = first_items (items_from p.1.0); keys = keys_from p.1.1 }

-- the label, tokens and keys of an element stand for it
pub element_from-code : (e : Element) → element_from (element_code e) ≡ e
element_from-code e = ap (λ (i : Items). record { label = e.label; items = i; keys = keys_from (keys_code e.keys) }) (first_items-code e.items)
    ∙ ap (λ (k : List Key). record { label = e.label; items = e.items; keys = k }) (keys_from-code e.keys)

-- the code of an element
abbrev pub coded_element : Coded Element
coded_element =
    code_by (List ℕ × (List (ℕ × (List ℕ × (ℕ × List (ℕ × ℕ)))) × List (ℕ × ℕ))) (coded× (coded_list coded_ℕ) (coded× (coded_list (coded× coded_ℕ (coded× (coded_list coded_ℕ) (coded× coded_ℕ (coded_list (coded× coded_ℕ coded_ℕ)))))) (coded_list (coded× coded_ℕ coded_ℕ)))) element_code element_from element_from-code
