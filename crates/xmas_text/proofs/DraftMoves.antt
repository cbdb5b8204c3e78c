-- The draft of a spot goes as the spot does.
use Rattle.std.proofs.Common.{◌≡◌, ◌∙◌, ◌+◌, ℕ, IsTrue, reverse, List, [], ◌∷◌, ◌++◌, None, refl, sym, ap, arith, length}
use Rattle.std.proofs.lemmas.List.{reverse-append, reverse-reverse}
use Rattle.path_expr.specs.Grammar as paths
use Rattle.xmas_tokens.specs.declared.lexeme.Comparison.{Comparison}
use Rattle.xmas_tokens.specs.declared.token.Mark.TheVariants as mark
use Rattle.xmas_text.specs.declared.element.ItemText.{ItemText}
use Rattle.xmas_text.specs.declared.var.KeyText.TheVariants as keyed
use Rattle.xmas_text.specs.declared.draft.Pending.TheVariants as pending
use Rattle.xmas_text.specs.Grammar.{node, label, Keys, none, first, more, absent, braced, Items, nothing, variable, literal, element, keys_text, items_text, Cond, compare, a_variable, a_text, Conds, Order, ordered}
use Rattle.xmas_tokens.specs.Tokens.{Token, fixed, open_tag, close_tag, word, var, quoted, path, comparison, kind_of}
use Rattle.xmas_text.specs.Spots.{Frame, Head, Place, at_first, at_more, Before, first_cond, also_cond, Start, by_name, by_var, Spot, beginning, items, labelled, keys, key_comma, key_label, cond_start, cond_from, cond_path, cond_done, compared, ordering, ordering_by, sorted, may_group, with_group, push_cond, cond_of, takes, shift}
use Rattle.xmas_text.specs.Parsed.{var_at, keys_at, items_at, cond_at, conds_at}
use Rattle.xmas_text.specs.Drafts.{BuiltForm}
use Rattle.xmas_text.specs.Shifted.{draft, with_items, grouped_in, item_with, shifted}
use Rattle.xmas_text.specs.Drafted.{level_place, prefix_at, last_at, brace_place, head_place, before_place, conds_before, in_template, in_conds, draft_of}
use Rattle.xmas_tokens.specs.Lexemes.{lexeme_of}
use Rattle.xmas_text.proofs.Texts.{IsPlace, IsSpot}
use Rattle.xmas_text.proofs.Lengths.{spot_end}

-- the draft after a token is that of the spot after it
abbrev pub Drafts : Spot → List ℕ → Token → Type 0
Drafts s g t = draft_of (shift s g t) ≡ shifted (draft_of s) (spot_end s + length g) (lexeme_of t)

-- the items of a level are those before the last one and the last one
items_split : (at : ℕ) (xs : Items) → IsTrue (may_group xs) → items_at at xs ≡ prefix_at at xs ++ last_at at xs ∷ []
items_split at nothing h = cc
items_split at (variable b g k absent) h = refl
items_split at (variable b g k (braced e ks f)) h = cc
items_split at (literal b g ps) h = cc
items_split at (element b g n i j c absent) h = refl
items_split at (element b g n i j c (braced e ks f)) h = cc

-- a brace after some items opens the group label of the last of them
brace_after : (b : BuiltForm) (is prefix : List ItemText) (last : ItemText) (at : ℕ) → is ≡ prefix ++ last ∷ []
    → draft (with_items b b.open_elements prefix) (pending.Keys last (record { at = at; keys = [] })) ≡ grouped_in b (reverse is) at
brace_after b is prefix last at e =
    ap (λ xs. draft (with_items b b.open_elements xs) (pending.Keys last (record { at = at; keys = [] }))) (sym (reverse-reverse prefix))
    ∙ ap (λ xs. grouped_in b xs at) (sym (ap reverse e ∙ reverse-append prefix (last ∷ [])))

-- the items after a group label has ended are those before it, of which the last one has the label
brace_closed : (at : ℕ) (xs : Items) (g : List ℕ) (ks : Keys) (h : List ℕ) → IsTrue (may_group xs)
    → items_at at (with_group xs (braced g ks h))
    ≡ prefix_at at xs ++ item_with (last_at at xs) (record { at = at + length (items_text xs) + length g; keys = keys_at (at + length (items_text xs) + length g + 1) ks }) ∷ []
brace_closed at nothing g ks h m = cc
brace_closed at (variable b f (node v) absent) g ks h m = refl
brace_closed at (variable b f (label e v) absent) g ks h m = refl
brace_closed at (variable b f k (braced e is i)) g ks h m = cc
brace_closed at (literal b f ps) g ks h m = cc
brace_closed at (element b f n i j c absent) g ks h m = refl
brace_closed at (element b f n i j c (braced e is k)) g ks h m = cc

-- before CONSTRUCT, the draft after a token is that of the spot after it
beginning_drafts : (g : List ℕ) (t : Token) → IsTrue (takes beginning g (kind_of t)) → Drafts beginning g t
beginning_drafts g (fixed mark.Construct) h = refl
beginning_drafts g t h = cc

-- outside all elements, the draft after a token is that of the spot after it
outer_drafts : (lead : List ℕ) (xs : Items) (g : List ℕ) (t : Token) → IsTrue (takes (items lead [] xs) g (kind_of t)) → Drafts (items lead [] xs) g t
outer_drafts lead xs g (open_tag l) h = refl
outer_drafts lead xs g (fixed mark.OpenBrace) h =
    brace_after (in_template lead [] (items_at (level_place lead []) xs)) _ _ _ (brace_place lead [] xs g) (items_split (level_place lead []) xs h)
outer_drafts lead xs g (fixed mark.Where) h = refl
outer_drafts lead xs g t h = cc

-- inside an element, the draft after a token is that of the spot after it
inner_drafts : (lead : List ℕ) (f : Frame) (o : List Frame) (xs : Items) (g : List ℕ) (t : Token) → IsTrue (takes (items lead (f ∷ o) xs) g (kind_of t)) → Drafts (items lead (f ∷ o) xs) g t
inner_drafts lead f o xs g (open_tag l) h = refl
inner_drafts lead f o xs g (close_tag l) h = refl
inner_drafts lead f o xs g (var v) h = refl
inner_drafts lead f o xs g (quoted ps) h = refl
inner_drafts lead f o xs g (fixed mark.LabelWord) h = refl
inner_drafts lead f o xs g (fixed mark.OpenBrace) h =
    brace_after (in_template lead (f ∷ o) (items_at (level_place lead (f ∷ o)) xs)) _ _ _ (brace_place lead (f ∷ o) xs g) (items_split (level_place lead (f ∷ o)) xs h)
inner_drafts lead f o xs g t h = cc

-- after `label` as an item, the draft after a token is that of the spot after it
labelled_drafts : (lead : List ℕ) (o : List Frame) (xs : Items) (e g : List ℕ) (t : Token) → IsTrue (takes (labelled lead o xs e) g (kind_of t)) → Drafts (labelled lead o xs e) g t
labelled_drafts lead o xs e g (var v) h = refl
labelled_drafts lead o xs e g t h = cc

-- inside a group label, the draft after a variable as its first key is that of the spot after it
first_key : (lead : List ℕ) (o : List Frame) (xs : Items) (e : List ℕ) (ks : Keys) (g v : List ℕ) → IsTrue (takes (keys lead o xs e ks) g (kind_of (var v))) → Drafts (keys lead o xs e ks) g (var v)
first_key lead o xs e none g v h =
    let n : brace_place lead o xs e + 1 + length g ≡ brace_place lead o xs e + 1 + length (keys_text none) + length g = omega arith in
    ap
    (λ k. draft (in_template lead o (prefix_at (level_place lead o) xs)) (pending.Keys (last_at (level_place lead o) xs) (record { at = brace_place lead o xs e; keys = keyed.Node (var_at k v) ∷ [] })))
    n
first_key lead o xs e (first f k) g v h = cc
first_key lead o xs e (more ks f i k) g v h = cc

-- inside a group label, the draft after a token is that of the spot after it
keys_drafts : (lead : List ℕ) (o : List Frame) (xs : Items) (e : List ℕ) (ks : Keys) (g : List ℕ) (t : Token) → IsTrue (may_group xs) → IsTrue (takes (keys lead o xs e ks) g (kind_of t)) → Drafts (keys lead o xs e ks) g t
keys_drafts lead o xs e ks g (var v) m h = first_key lead o xs e ks g v h
keys_drafts lead o xs e ks g (fixed mark.LabelWord) m h = refl
keys_drafts lead o xs e ks g (fixed mark.Comma) m h = refl
keys_drafts lead o xs e ks g (fixed mark.CloseBrace) m h = ap (λ is. draft (in_template lead o is) pending.Items) (brace_closed (level_place lead o) xs e ks g m)
keys_drafts lead o xs e ks g t m h = cc

-- after a comma, the draft after a token is that of the spot after it
comma_drafts : (lead : List ℕ) (o : List Frame) (xs : Items) (e : List ℕ) (ks : Keys) (f g : List ℕ) (t : Token) → IsTrue (takes (key_comma lead o xs e ks f) g (kind_of t)) → Drafts (key_comma lead o xs e ks f) g t
comma_drafts lead o xs e ks f g (var v) h = refl
comma_drafts lead o xs e ks f g (fixed mark.LabelWord) h = refl
comma_drafts lead o xs e ks f g t h = cc

-- after `label` as a first key or one after a comma, the draft after a variable is that of the spot after it
placed_label : (lead : List ℕ) (o : List Frame) (xs : Items) (e : List ℕ) (ks : Keys) (p : Place) (f g v : List ℕ) → IsPlace ks p → Drafts (key_label lead o xs e ks p f) g (var v)
placed_label lead o xs e none at_first f g v i = refl
placed_label lead o xs e (first h k) at_first f g v i = absurd i
placed_label lead o xs e (more ks h j k) at_first f g v i = absurd i
placed_label lead o xs e ks (at_more h) f g v i = refl

-- after `label` as a key, the draft after a token is that of the spot after it
key_label_drafts : (lead : List ℕ) (o : List Frame) (xs : Items) (e : List ℕ) (ks : Keys) (p : Place) (f g : List ℕ) (t : Token) → IsPlace ks p → IsTrue (takes (key_label lead o xs e ks p f) g (kind_of t)) → Drafts (key_label lead o xs e ks p f) g t
key_label_drafts lead o xs e ks p f g (var v) i h = placed_label lead o xs e ks p f g v i
key_label_drafts lead o xs e ks p f g t i h = cc

-- where a condition begins, the draft after a token is that of the spot after it
start_drafts : (r : Head) (b : Before) (g : List ℕ) (t : Token) → IsTrue (takes (cond_start r b) g (kind_of t)) → Drafts (cond_start r b) g t
start_drafts r b g (word n) h = refl
start_drafts r b g (var v) h = refl
start_drafts r b g t h = cc

-- after the first word of a condition, the draft after a token is that of the spot after it
from_drafts : (r : Head) (b : Before) (e : List ℕ) (s : Start) (g : List ℕ) (t : Token) → IsTrue (takes (cond_from r b e s) g (kind_of t)) → Drafts (cond_from r b e s) g t
from_drafts r b e s g (path p) h = refl
from_drafts r b e (by_var v) g (comparison o) h = refl
from_drafts r b e s g t h = cc

-- conditions with one more as their last are those before it and then that one
pushed : (at : ℕ) (b : Before) (g : List ℕ) (c : Cond) → conds_at at (push_cond b g c) ≡ conds_before at b ++ cond_at (before_place at b + length g) c ∷ []
pushed at first_cond g c = refl
pushed at (also_cond cs h) g c = refl

-- the draft after the variable of a condition with a path is that of the spot after it
path_of : (r : Head) (b : Before) (e : List ℕ) (s : Start) (f : List ℕ) (p : paths.Spelled) (g v : List ℕ) → Drafts (cond_path r b e s f p) g (var v)
path_of r b e (by_name n) f p g v = ap (λ cs. draft (in_conds r cs None) pending.Done) (pushed (head_place r) b e (cond_of (by_name n) f p g v))
path_of r b e (by_var u) f p g v = ap (λ cs. draft (in_conds r cs None) pending.Done) (pushed (head_place r) b e (cond_of (by_var u) f p g v))

-- after a path, the draft after a token is that of the spot after it
path_drafts : (r : Head) (b : Before) (e : List ℕ) (s : Start) (f : List ℕ) (p : paths.Spelled) (g : List ℕ) (t : Token) → IsTrue (takes (cond_path r b e s f p) g (kind_of t)) → Drafts (cond_path r b e s f p) g t
path_drafts r b e s f p g (var v) h = path_of r b e s f p g v
path_drafts r b e s f p g t h = cc

-- after an operator, the draft after a token is that of the spot after it
compared_drafts : (r : Head) (b : Before) (e v f : List ℕ) (o : Comparison) (g : List ℕ) (t : Token) → IsTrue (takes (compared r b e v f o) g (kind_of t)) → Drafts (compared r b e v f o) g t
compared_drafts r b e v f o g (var u) h = ap (λ cs. draft (in_conds r cs None) pending.Done) (pushed (head_place r) b e (compare v f o g (a_variable u)))
compared_drafts r b e v f o g (quoted ps) h = ap (λ cs. draft (in_conds r cs None) pending.Done) (pushed (head_place r) b e (compare v f o g (a_text ps)))
compared_drafts r b e v f o g t h = cc

-- after a condition, the draft after a token is that of the spot after it
done_drafts : (r : Head) (cs : Conds) (g : List ℕ) (t : Token) → IsTrue (takes (cond_done r cs) g (kind_of t)) → Drafts (cond_done r cs) g t
done_drafts r cs g (fixed mark.And) h = refl
done_drafts r cs g (fixed mark.Order) h = refl
done_drafts r cs g t h = cc

-- after ORDER, the draft after a token is that of the spot after it
ordering_drafts : (r : Head) (cs : Conds) (e g : List ℕ) (t : Token) → IsTrue (takes (ordering r cs e) g (kind_of t)) → Drafts (ordering r cs e) g t
ordering_drafts r cs e g (fixed mark.By) h = refl
ordering_drafts r cs e g t h = cc

-- after BY, the draft after a token is that of the spot after it
by_drafts : (r : Head) (cs : Conds) (e f g : List ℕ) (t : Token) → IsTrue (takes (ordering_by r cs e f) g (kind_of t)) → Drafts (ordering_by r cs e f) g t
by_drafts r cs e f g (var v) h = refl
by_drafts r cs e f g t h = cc

-- after the variable that orders, the draft after a token is that of the spot after it
sorted_drafts : (r : Head) (cs : Conds) (o : Order) (g : List ℕ) (t : Token) → IsTrue (takes (sorted r cs o) g (kind_of t)) → Drafts (sorted r cs o) g t
sorted_drafts r cs (ordered e f j v) g (fixed mark.Desc) h = refl
sorted_drafts r cs o g t h = cc

-- at each spot, the draft after a token that may come is that of the spot after it
pub drafts : (s : Spot) (g : List ℕ) (t : Token) → IsSpot s → IsTrue (takes s g (kind_of t)) → Drafts s g t
drafts beginning g t i h = beginning_drafts g t h
drafts (items lead [] xs) g t i h = outer_drafts lead xs g t h
drafts (items lead (f ∷ o) xs) g t i h = inner_drafts lead f o xs g t h
drafts (labelled lead o xs e) g t i h = labelled_drafts lead o xs e g t h
drafts (keys lead o xs e ks) g t i h = keys_drafts lead o xs e ks g t i.2 h
drafts (key_comma lead o xs e ks f) g t i h = comma_drafts lead o xs e ks f g t h
drafts (key_label lead o xs e ks p f) g t i h = key_label_drafts lead o xs e ks p f g t i.5 h
drafts (cond_start r c) g t i h = start_drafts r c g t h
drafts (cond_from r c e a) g t i h = from_drafts r c e a g t h
drafts (cond_path r c e a f p) g t i h = path_drafts r c e a f p g t h
drafts (cond_done r cs) g t i h = done_drafts r cs g t h
drafts (compared r c e v f o) g t i h = compared_drafts r c e v f o g t h
drafts (ordering r cs e) g t i h = ordering_drafts r cs e g t h
drafts (ordering_by r cs e f) g t i h = by_drafts r cs e f g t h
drafts (sorted r cs o) g t i h = sorted_drafts r cs o g t h
