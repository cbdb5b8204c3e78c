-- An element as a list of its parts, by which a proof tells two of them apart.
use Rattle.std.specs.Prelude.{◌≡◌, ◌⊎◌, ℕ, List, [], ◌∷◌, ◌++◌, Option, Some, None}
use Rattle.std.proofs.Common.{ap, ◌∙◌, refl, sym, inl, inr}
use Rattle.std.specs.Coded.{Coded, code_by, coded×, coded⊎, coded_ℕ, coded_list, coded_option}
use Rattle.xmas_text.specs.declared.var.VarText.{VarText}
use Rattle.xmas_text.specs.declared.var.KeyText.{KeyText}
use Rattle.xmas_text.specs.declared.var.KeyText.TheVariants as key
use Rattle.xmas_text.specs.declared.var.ShownText.{ShownText}
use Rattle.xmas_text.specs.Groups.{GroupForm}
use Rattle.xmas_text.specs.Contents.{Leaf, node, label_of, text, Tags, Contents, nothing, element, leaf, ElementForm}

-- the code of a variable
abbrev pub coded_var : Coded VarText
coded_var = code_by (ℕ × List ℕ) (coded× coded_ℕ (coded_list coded_ℕ)) (λ v. (v.at, v.name)) (λ c. record { at = c.0; name = c.1 }) (λ _. refl)

-- a key as one of two kinds
abbrev pub key_kind : KeyText → VarText ⊎ VarText
key_kind (key.Node v) = inl v
key_kind (key.LabelOf v) = inr v

-- the key of a kind
abbrev pub key_from : VarText ⊎ VarText → KeyText
key_from (inl v) = key.Node v
key_from (inr v) = key.LabelOf v

-- a key's kind stands for it
pub key_again : (k : KeyText) → key_from (key_kind k) ≡ k
key_again (key.Node v) = refl
key_again (key.LabelOf v) = refl

-- the code of a key
abbrev pub coded_key : Coded KeyText
coded_key = code_by (VarText ⊎ VarText) (coded⊎ coded_var coded_var) key_kind key_from key_again

-- the code of a group label
abbrev pub coded_group : Coded GroupForm
coded_group = code_by (ℕ × List KeyText) (coded× coded_ℕ (coded_list coded_key)) (λ g. (g.at, g.keys)) (λ c. record { at = c.0; keys = c.1 }) (λ _. refl)

-- the code of a variable that is shown
abbrev pub coded_shown : Coded ShownText
coded_shown =
    code_by (ℕ × (VarText × Option GroupForm)) (coded× coded_ℕ (coded× coded_var (coded_option coded_group))) (λ s. (s.at, (s.var, s.group)))
    (λ c. record { at = c.0; var = c.1.0; group = c.1.1 })
    (λ _. refl)

-- a leaf as one of three kinds
abbrev pub leaf_kind : Leaf → ShownText ⊎ (ShownText ⊎ List ℕ)
leaf_kind (node s) = inl s
leaf_kind (label_of s) = inr (inl s)
leaf_kind (text l) = inr (inr l)

-- the leaf of a kind
abbrev pub leaf_from : ShownText ⊎ (ShownText ⊎ List ℕ) → Leaf
leaf_from (inl s) = node s
leaf_from (inr (inl s)) = label_of s
leaf_from (inr (inr l)) = text l

-- a leaf's kind stands for it
pub leaf_again : (l : Leaf) → leaf_from (leaf_kind l) ≡ l
leaf_again (node s) = refl
leaf_again (label_of s) = refl
leaf_again (text l) = refl

-- the code of a leaf
abbrev pub coded_leaf : Coded Leaf
coded_leaf = code_by (ShownText ⊎ (ShownText ⊎ List ℕ)) (coded⊎ coded_shown (coded⊎ coded_shown (coded_list coded_ℕ))) leaf_kind leaf_from leaf_again

-- the code of tags
abbrev pub coded_tags : Coded Tags
coded_tags =
    code_by (ℕ × (List ℕ × (ℕ × (List ℕ × Option GroupForm))))
    (coded× coded_ℕ (coded× (coded_list coded_ℕ) (coded× coded_ℕ (coded× (coded_list coded_ℕ) (coded_option coded_group)))))
    (λ t. (t.at, (t.name, (t.close_at, (t.close_name, t.group)))))
    (λ c. record { at = c.0; name = c.1.0; close_at = c.1.1.0; close_name = c.1.1.1.0; group = c.1.1.1.1 })
    (λ _. refl)

-- the tags of each element, what stands inside and what stands after; each leaf; None where items end
abbrev pub content_codes : Contents → List (Option (Tags ⊎ Leaf))
content_codes nothing = None ∷ []
content_codes (element tags inside after) = Some (inl tags) ∷ content_codes inside ++ content_codes after
content_codes (leaf item after) = Some (inr item) ∷ content_codes after

-- the first two of a list of contents become one, under an element's tags
abbrev pub with_tags : Tags → List Contents → List Contents
with_tags tags [] = []
with_tags tags (inside ∷ []) = []
with_tags tags (inside ∷ after ∷ rest) = element tags inside after ∷ rest

-- the first of a list of contents gets a leaf before it
abbrev pub with_leaf : Leaf → List Contents → List Contents
with_leaf item [] = []
with_leaf item (after ∷ rest) = leaf item after ∷ rest

-- the contents that a list of codes stands for
abbrev pub contents_from : List (Option (Tags ⊎ Leaf)) → List Contents
contents_from [] = []
contents_from (None ∷ codes) = nothing ∷ contents_from codes
contents_from (Some (inl tags) ∷ codes) = with_tags tags (contents_from codes)
contents_from (Some (inr item) ∷ codes) = with_leaf item (contents_from codes)

-- the first contents of a list, or nothing
abbrev pub first_contents : List Contents → Contents
first_contents [] = nothing
first_contents (c ∷ rest) = c

-- of three lists, the first two or the last two may be joined first
assoc : (a b c : List (Option (Tags ⊎ Leaf))) → (a ++ b) ++ c ≡ a ++ (b ++ c)
assoc [] b c = refl
assoc (x ∷ a) b c = ap (λ r. x ∷ r) (assoc a b c)

-- nothing after a list changes nothing
nothing_after : (a : List (Option (Tags ⊎ Leaf))) → a ++ [] ≡ a
nothing_after [] = refl
nothing_after (x ∷ a) = ap (λ r. x ∷ r) (nothing_after a)

-- the codes of contents stand for them, whatever comes after
pub contents_from-codes : (c : Contents) (rest : List (Option (Tags ⊎ Leaf))) → contents_from (content_codes c ++ rest) ≡ c ∷ contents_from rest
contents_from-codes nothing rest = refl
contents_from-codes (element tags inside after) rest =
    ap (λ c. with_tags tags (contents_from c)) (assoc (content_codes inside) (content_codes after) rest)
    ∙ ap (with_tags tags) (contents_from-codes inside (content_codes after ++ rest) ∙ ap (λ cs. inside ∷ cs) (contents_from-codes after rest))
contents_from-codes (leaf item after) rest = ap (with_leaf item) (contents_from-codes after rest)

-- the codes of contents stand for them
pub first_contents-codes : (c : Contents) → first_contents (contents_from (content_codes c)) ≡ c
first_contents-codes c = ap (λ d. first_contents (contents_from d)) (sym (nothing_after (content_codes c))) ∙ ap first_contents (contents_from-codes c [])

-- the code of contents
abbrev pub coded_contents : Coded Contents
coded_contents =
    code_by (List (Option (Tags ⊎ Leaf))) (coded_list (coded_option (coded⊎ coded_tags coded_leaf))) content_codes (λ c. first_contents (contents_from c)) first_contents-codes

-- the code of an element
abbrev pub coded_element : Coded ElementForm
coded_element =
    code_by (Tags × Contents) (coded× coded_tags coded_contents)
    (λ e. (record { at = e.at; name = e.name; close_at = e.close_at; close_name = e.close_name; group = e.group }, e.contents))
    (λ c. record { at = c.0.at; name = c.0.name; contents = c.1; close_at = c.0.close_at; close_name = c.0.close_name; group = c.0.group })
    (λ _. refl)
