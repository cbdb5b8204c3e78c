-- A token that may come is written after its spot.
use Rattle.std.specs.Prelude.{codes}
use Rattle.std.proofs.Common.{not, ◌≡◌, ◌∙◌, ℕ, IsTrue, List, [], ◌∷◌, ◌++◌, refl, sym, ap, append_assoc}
use Rattle.mix_base.proofs.Choices.{and_parts}
use Rattle.mix_base.proofs.Lists.{append_nil}
use Rattle.mix_tree.specs.Names.{IsName}
use Rattle.xmas_text.specs.Grammar.{Key, node, label, Keys, none, first, more, Group, absent, braced, Items, nothing, variable, literal, element, key_text, keys_text, group_text, items_text, IsKey, HasKeys, AreKeys, IsGroup, IsItemGap, AreItems, Operand, a_variable, a_text, operand_text, IsOperand, Cond, compare, Conds, Order, ordered, ordered_text, cond_text, conds_text, IsCond, AreConds, IsNothing, IsTemplate, construct_text, where_text}
use Rattle.xmas_tokens.specs.Tokens.{quoted_text, op_text, Token, fixed, open_tag, close_tag, word, var, quoted, path, comparison, kind_of, token_text, IsToken}
use Rattle.xmas_tokens.specs.Lexical.{IsBlanks, IsGap, IsVar}
use Rattle.xmas_text.specs.Spots.{Frame, Head, Place, at_first, at_more, Before, first_cond, also_cond, Start, by_name, by_var, Spot, beginning, items, labelled, keys, key_comma, key_label, cond_start, cond_from, cond_path, cond_done, compared, ordering, ordering_by, sorted, has_blank, item_gap, may_group, is_nothing, is_none, takes, with_group, push_key, push_cond, cond_of, shift}
use Rattle.xmas_tokens.specs.declared.lexeme.Comparison.{Comparison}
use Rattle.xmas_tokens.specs.declared.token.Mark.TheVariants as mark
use Rattle.path_expr.specs.Grammar as paths
use Rattle.xmas_text.proofs.Texts.{outer_text, base, head_text, label_text, place_text, before_text, start_text, spot_text, IsTop, Level, IsPlace, IsBefore, IsStart, IsSpot}
use Rattle.xmas_text.proofs.Regrouped.{after_base, open_text, close_text, var_text, where_after, label_after, key_after, brace_after, more_after, comma_label, place_after, two_after, four_after, six_after, order_after, by_after, sorted_after}

-- the spot after a token is well formed, and its text is that of the spot, the gap and the token
pub record Shifts (s : Spot) (g : List ℕ) (t : Token) : Type 0 where
  pub is : IsSpot (shift s g t)
  pub text : spot_text (shift s g t) ≡ spot_text s ++ (g ++ token_text t)

-- blanks of which there is one at least are a gap
gap_of : (g : List ℕ) → IsBlanks g → IsTrue (has_blank g) → IsGap g
gap_of [] h k = cc
gap_of (b ∷ g) h k = h

-- blanks after which an item may come are those that the grammar has before an item
item_gap_of : (xs : Items) (g : List ℕ) → IsBlanks g → IsTrue (item_gap xs g) → IsItemGap xs g
item_gap_of nothing g h k = h
item_gap_of (variable before f e i) g h k = gap_of g h k
item_gap_of (literal before f ps) g h k = gap_of g h k
item_gap_of (element before f n i e c j) g h k = gap_of g h k

-- items that are none are nothing
nothing_of : (xs : Items) → IsTrue (is_nothing xs) → IsNothing xs
nothing_of nothing h = tt
nothing_of (variable before f e i) h = cc
nothing_of (literal before f ps) h = cc
nothing_of (element before f n i e c j) h = cc

-- items that stand outside all elements, of which there are some, are the template
template_of : (xs : Items) → IsTop xs → IsTrue (not (is_nothing xs)) → IsTemplate xs
template_of nothing h k = cc
template_of (variable before f e i) h k = absurd h
template_of (literal before f ps) h k = absurd h
template_of (element before f n i e c j) h k = h

-- the text of items with a group label after the last
with_group_text : (xs : Items) (e : Group) → IsTrue (may_group xs) → items_text (with_group xs e) ≡ items_text xs ++ group_text e
with_group_text nothing e h = cc
with_group_text (variable before f k absent) e h = regrouped (items_text before) f (key_text k) (group_text e)
  where
    regrouped : (a b c d : List ℕ) → a ++ (b ++ (c ++ d)) ≡ (a ++ (b ++ (c ++ []))) ++ d
    regrouped a b c d = simp (append_assoc, append_nil)
with_group_text (variable before f k (braced i ks j)) e h = cc
with_group_text (literal before f ps) e h = cc
with_group_text (element before f n i j c absent) e h =
    regrouped (items_text before) f (60 ∷ []) n (62 ∷ []) (items_text i) j (60 ∷ 47 ∷ []) c (62 ∷ []) (group_text e)
  where
    regrouped : (a b c d e f g h i j k : List ℕ) → a ++ (b ++ (c ++ (d ++ (e ++ (f ++ (g ++ (h ++ (i ++ (j ++ k))))))))) ≡ (a ++ (b ++ (c ++ (d ++ (e ++ (f ++ (g ++ (h ++ (i ++ j))))))))) ++ k
    regrouped a b c d e f g h i j k = simp append_assoc
with_group_text (element before f n i j c (braced k ks l)) e h = cc

-- items whose last one gets a group label stay well formed
with_group_items : (xs : Items) (e : Group) → IsTrue (may_group xs) → IsGroup e → AreItems xs → AreItems (with_group xs e)
with_group_items nothing e h k is = is
with_group_items (variable before f j absent) e h k is = (is.0, is.1, is.2, k)
with_group_items (variable before f j (braced i ks l)) e h k is = cc
with_group_items (literal before f ps) e h k is = is
with_group_items (element before f n i j c absent) e h k is = (is.0, is.1, is.2, is.3, is.4, is.5, k)
with_group_items (element before f n i j c (braced l ks m)) e h k is = cc

-- the template stays one element where it gets a group label
with_group_top : (xs : Items) (e : Group) → IsTrue (may_group xs) → IsGroup e → IsTop xs → IsTop (with_group xs e)
with_group_top nothing e h k is = is
with_group_top (variable before f j i) e h k is = absurd is
with_group_top (literal before f ps) e h k is = absurd is
with_group_top (element before f n i j c absent) e h k is = (is.0, is.1, is.2, is.3, is.4, is.5, k)
with_group_top (element before f n i j c (braced l ks m)) e h k is = cc

-- items and the open elements around them stay well formed where the last item gets a group label
with_group_level : (o : List Frame) (xs : Items) (e : Group) → IsTrue (may_group xs) → IsGroup e → Level o xs → Level o (with_group xs e)
with_group_level [] xs e h k is = with_group_top xs e h k is
with_group_level (f ∷ o) xs e h k is = (with_group_items xs e h k is.0, is.1, is.2, is.3)

-- keys that are not none have a key
has_keys_of : (ks : Keys) → IsTrue (not (is_none ks)) → HasKeys ks
has_keys_of none h = cc
has_keys_of (first g k) h = tt
has_keys_of (more ks g e k) h = tt

-- a key may come first where there is none
place_first : (ks : Keys) → IsTrue (is_none ks) → IsPlace ks at_first
place_first none h = tt
place_first (first g k) h = cc
place_first (more ks g e k) h = cc

-- a key may come after a comma where there is a key
place_more : (ks : Keys) (h : List ℕ) → HasKeys ks → IsBlanks h → IsPlace ks (at_more h)
place_more none h k b = absurd k
place_more (first g j) h k b = b
place_more (more ks g e j) h k b = b

-- the text of a group label with a first key is that key's after its blanks
first_text : (ks : Keys) (g : List ℕ) (k : Key) → IsTrue (is_none ks) → g ++ key_text k ≡ keys_text ks ++ (g ++ key_text k)
first_text none g k h = refl
first_text (first e j) g k h = cc
first_text (more ks f e j) g k h = cc

-- the text of keys with one more is theirs, what stands before that key, and its own
push_text : (ks : Keys) (p : Place) (g : List ℕ) (k : Key) → IsPlace ks p → keys_text (push_key ks p g k) ≡ keys_text ks ++ (place_text p ++ (g ++ key_text k))
push_text none at_first g k h = refl
push_text (first e j) at_first g k h = absurd h
push_text (more ks f e j) at_first g k h = absurd h
push_text none (at_more i) g k h = absurd h
push_text (first e j) (at_more i) g k h = ap (λ r. keys_text (first e j) ++ r) (sym (append_assoc i (44 ∷ []) (g ++ key_text k)))
push_text (more ks f e j) (at_more i) g k h = ap (λ r. keys_text (more ks f e j) ++ r) (sym (append_assoc i (44 ∷ []) (g ++ key_text k)))

-- keys stay well formed with one more
push_is : (ks : Keys) (p : Place) (g : List ℕ) (k : Key) → AreKeys ks → IsPlace ks p → IsBlanks g → IsKey k → AreKeys (push_key ks p g k)
push_is none at_first g k a h b i = (b, i)
push_is (first e j) at_first g k a h b i = absurd h
push_is (more ks f e j) at_first g k a h b i = absurd h
push_is none (at_more l) g k a h b i = absurd h
push_is (first e j) (at_more l) g k a h b i = (tt, a, h, b, i)
push_is (more ks f e j) (at_more l) g k a h b i = (tt, a, h, b, i)

-- the text of conditions with one more is theirs, what stands before that condition, and its own
conds_push : (b : Before) (g : List ℕ) (c : Cond) → conds_text (push_cond b g c) ≡ before_text b ++ (g ++ cond_text c)
conds_push first_cond g c = refl
conds_push (also_cond cs h) g c = regrouped (conds_text cs) h (codes "AND") (g ++ cond_text c)
  where
    regrouped : (a b c d : List ℕ) → a ++ (b ++ (c ++ d)) ≡ (a ++ (b ++ c)) ++ d
    regrouped a b c d = simp append_assoc

-- conditions stay well formed with one more
conds_are : (b : Before) (g : List ℕ) (c : Cond) → IsBefore b → IsGap g → IsCond c → AreConds (push_cond b g c)
conds_are first_cond g c h k i = (k, i)
conds_are (also_cond cs h') g c h k i = (h.0, h.1, k, i)

-- the text of a condition with a path is that of its first word, its path and its variable, with gaps between
cond_of_text : (s : Start) (g : List ℕ) (p : paths.Spelled) (h v : List ℕ) → cond_text (cond_of s g p h v) ≡ start_text s ++ (g ++ (paths.text_of p ++ (h ++ 36 ∷ v)))
cond_of_text (by_name n) g p h v = refl
cond_of_text (by_var u) g p h v = refl

-- a condition with a path is well formed where its parts are
cond_of_is : (s : Start) (g : List ℕ) (p : paths.Spelled) (h v : List ℕ) → IsStart s → IsGap g → paths.Is p paths.a_path → IsGap h → IsVar v → IsCond (cond_of s g p h v)
cond_of_is (by_name n) g p h v a b c d e = (a, b, c, d, e)
cond_of_is (by_var u) g p h v a b c d e = (a, b, c, d, e)

-- the token may come at the spot after the gap
abbrev Taken : Spot → List ℕ → Token → Type 0
Taken s g t = IsTrue (takes s g (kind_of t))

-- before CONSTRUCT, a token that may come is written after its spot
beginning_shifts : (g : List ℕ) (t : Token) → IsBlanks g → IsToken t → Taken beginning g t → Shifts beginning g t
beginning_shifts g (fixed mark.Construct) b i h = record { is = (b, tt); text = refl }
beginning_shifts g t b i h = cc

-- outside all elements, a token that may come is written after its spot
outer_shifts : (lead : List ℕ) (xs : Items) (g : List ℕ) (t : Token) → IsSpot (items lead [] xs) → IsBlanks g → IsToken t → Taken (items lead [] xs) g t → Shifts (items lead [] xs) g t
outer_shifts lead xs g (open_tag l) s b i h =
    let parts = and_parts (is_nothing xs) (has_blank g) h in record {
      is = (s.0, (tt, i, (nothing_of xs parts.0, gap_of g b parts.1), s.1));
      text = open_text lead construct_text [] (items_text xs) g (token_text (open_tag l));
    }
outer_shifts lead xs g (fixed mark.OpenBrace) s b i h = record { is = (s.0, s.1, h, b, tt); text = refl }
outer_shifts lead xs g (fixed mark.Where) s b i h =
    let parts = and_parts (not (is_nothing xs)) (has_blank g) h in record {
      is = ((s.0, template_of xs s.1 parts.0, gap_of g b parts.1), tt);
      text = where_after lead construct_text (items_text xs) g where_text;
    }
outer_shifts lead xs g t s b i h = cc

-- the spot after a closing tag is well formed
closed_is : (lead : List ℕ) (f : Frame) (o : List Frame) (xs : Items) (g l : List ℕ) → IsBlanks lead → Level (f ∷ o) xs → IsBlanks g → IsName l → IsSpot (items lead o (element f.before f.gap f.name xs g l absent))
closed_is lead f [] xs g l a s b i = (a, (s.2.0, s.2.1, s.1, s.0, b, i, tt))
closed_is lead f (e ∷ o) xs g l a s b i = (a, ((s.3.0, s.2, s.1, s.0, b, i, tt), s.3.1, s.3.2, s.3.3))

-- inside an element, a token that may come is written after its spot
inner_shifts : (lead : List ℕ) (f : Frame) (o : List Frame) (xs : Items) (g : List ℕ) (t : Token) → IsSpot (items lead (f ∷ o) xs) → IsBlanks g → IsToken t → Taken (items lead (f ∷ o) xs) g t
    → Shifts (items lead (f ∷ o) xs) g t
inner_shifts lead f o xs g (open_tag l) s b i h = record {
  is = (s.0, (tt, i, item_gap_of xs g b h, s.1));
  text = open_text lead construct_text (outer_text (f ∷ o)) (items_text xs) g (token_text (open_tag l));
}
inner_shifts lead f o xs g (close_tag l) s b i h = record {
  is = closed_is lead f o xs g l s.0 s.1 b i;
  text =
      close_text lead construct_text (outer_text o) (items_text f.before) f.gap (60 ∷ []) f.name (62 ∷ []) (items_text xs) g (token_text (close_tag l));
}
inner_shifts lead f o xs g (var v) s b i h = record {
  is = (s.0, ((s.1.0, item_gap_of xs g b h, i, tt), s.1.1, s.1.2, s.1.3));
  text = var_text lead construct_text (outer_text (f ∷ o)) (items_text xs) g (token_text (var v));
}
inner_shifts lead f o xs g (quoted ps) s b i h = record {
  is = (s.0, ((s.1.0, item_gap_of xs g b h, i), s.1.1, s.1.2, s.1.3));
  text = after_base lead construct_text (outer_text (f ∷ o)) (items_text xs) g (quoted_text ps);
}
inner_shifts lead f o xs g (fixed mark.LabelWord) s b i h = record { is = (s.0, s.1, tt, item_gap_of xs g b h); text = refl }
inner_shifts lead f o xs g (fixed mark.OpenBrace) s b i h = record { is = (s.0, s.1, h, b, tt); text = refl }
inner_shifts lead f o xs g t s b i h = cc

-- the spot after `label` and a variable as an item is well formed
labelled_is : (lead : List ℕ) (o : List Frame) (xs : Items) (e g v : List ℕ) → IsSpot (labelled lead o xs e) → IsGap g → IsVar v → IsSpot (items lead o (variable xs e (label g v) absent))
labelled_is lead [] xs e g v s b i = absurd s.2
labelled_is lead (f ∷ o) xs e g v s b i = (s.0, ((s.1.0, s.3, (b, i), tt), s.1.1, s.1.2, s.1.3))

-- after `label` as an item, a token that may come is written after its spot
labelled_shifts : (lead : List ℕ) (o : List Frame) (xs : Items) (e g : List ℕ) (t : Token) → IsSpot (labelled lead o xs e) → IsBlanks g → IsToken t → Taken (labelled lead o xs e) g t
    → Shifts (labelled lead o xs e) g t
labelled_shifts lead o xs e g (var v) s b i h = record {
  is = labelled_is lead o xs e g v s (gap_of g b h) i;
  text = label_after lead construct_text (outer_text o) (items_text xs) e label_text g (token_text (var v));
}
labelled_shifts lead o xs e g t s b i h = cc

-- inside a group label, a token that may come is written after its spot
keys_shifts : (lead : List ℕ) (o : List Frame) (xs : Items) (e : List ℕ) (ks : Keys) (g : List ℕ) (t : Token) → IsSpot (keys lead o xs e ks) → IsBlanks g → IsToken t → Taken (keys lead o xs e ks) g t
    → Shifts (keys lead o xs e ks) g t
keys_shifts lead o xs e ks g (var v) s b i h = record {
  is = (s.0, s.1, s.2, s.3, (b, i));
  text =
      ap (λ r. base lead o xs ++ (e ++ 123 ∷ r)) (first_text ks g (node v) h)
      ∙ key_after (base lead o xs) e (123 ∷ []) (keys_text ks) g (token_text (var v));
}
keys_shifts lead o xs e ks g (fixed mark.LabelWord) s b i h = record {
  is = (s.0, s.1, s.2, s.3, s.4, place_first ks h, b);
  text = key_after (base lead o xs) e (123 ∷ []) (keys_text ks) g label_text;
}
keys_shifts lead o xs e ks g (fixed mark.Comma) s b i h = record {
  is = (s.0, s.1, s.2, s.3, s.4, has_keys_of ks h, b);
  text = key_after (base lead o xs) e (123 ∷ []) (keys_text ks) g (44 ∷ []);
}
keys_shifts lead o xs e ks g (fixed mark.CloseBrace) s b i h = record {
  is = (s.0, with_group_level o xs (braced e ks g) s.2 (s.3, s.4, b) s.1);
  text =
      ap (λ r. lead ++ (construct_text ++ (outer_text o ++ r))) (with_group_text xs (braced e ks g) s.2)
      ∙ brace_after lead construct_text (outer_text o) (items_text xs) e (123 ∷ []) (keys_text ks) g (125 ∷ []);
}
keys_shifts lead o xs e ks g t s b i h = cc

-- after a comma, a token that may come is written after its spot
comma_shifts : (lead : List ℕ) (o : List Frame) (xs : Items) (e : List ℕ) (ks : Keys) (f g : List ℕ) (t : Token) → IsSpot (key_comma lead o xs e ks f) → IsBlanks g → IsToken t
    → Taken (key_comma lead o xs e ks f) g t → Shifts (key_comma lead o xs e ks f) g t
comma_shifts lead o xs e ks f g (var v) s b i h = record {
  is = (s.0, s.1, s.2, s.3, (s.5, s.4, s.6, b, i));
  text = more_after (base lead o xs) e (123 ∷ []) (keys_text ks) f (44 ∷ []) g (token_text (var v));
}
comma_shifts lead o xs e ks f g (fixed mark.LabelWord) s b i h = record {
  is = (s.0, s.1, s.2, s.3, s.4, place_more ks f s.5 s.6, b);
  text = comma_label (base lead o xs) e (123 ∷ []) (keys_text ks) f (44 ∷ []) g label_text;
}
comma_shifts lead o xs e ks f g t s b i h = cc

-- after `label` as a key, a token that may come is written after its spot
key_label_shifts : (lead : List ℕ) (o : List Frame) (xs : Items) (e : List ℕ) (ks : Keys) (p : Place) (f g : List ℕ) (t : Token) → IsSpot (key_label lead o xs e ks p f) → IsBlanks g → IsToken t
    → Taken (key_label lead o xs e ks p f) g t → Shifts (key_label lead o xs e ks p f) g t
key_label_shifts lead o xs e ks p f g (var v) s b i h = record {
  is = (s.0, s.1, s.2, s.3, push_is ks p f (label g v) s.4 s.5 s.6 (gap_of g b h, i));
  text =
      ap (λ r. base lead o xs ++ (e ++ 123 ∷ r)) (push_text ks p f (label g v) s.5)
      ∙ place_after (base lead o xs) e (123 ∷ []) (keys_text ks) (place_text p) f label_text g (token_text (var v));
}
key_label_shifts lead o xs e ks p f g t s b i h = cc

-- where a condition begins, a token that may come is written after its spot
start_shifts : (r : Head) (c : Before) (g : List ℕ) (t : Token) → IsSpot (cond_start r c) → IsBlanks g → IsToken t → Taken (cond_start r c) g t → Shifts (cond_start r c) g t
start_shifts r c g (word n) s b i h = record { is = (s.0, s.1, gap_of g b h, i); text = two_after (head_text r) (before_text c) g n }
start_shifts r c g (var v) s b i h = record { is = (s.0, s.1, gap_of g b h, i); text = two_after (head_text r) (before_text c) g (token_text (var v)) }
start_shifts r c g t s b i h = cc

-- after the first word of a condition, a token that may come is written after its spot
from_shifts : (r : Head) (c : Before) (e : List ℕ) (a : Start) (g : List ℕ) (t : Token) → IsSpot (cond_from r c e a) → IsBlanks g → IsToken t → Taken (cond_from r c e a) g t → Shifts (cond_from r c e a) g t
from_shifts r c e a g (path p) s b i h = record {
  is = (s.0, s.1, s.2, s.3, gap_of g b h, i);
  text = four_after (head_text r) (before_text c) e (start_text a) g (paths.text_of p);
}
from_shifts r c e (by_var v) g (comparison o) s b i h = record { is = (s.0, s.1, s.2, s.3, b); text = four_after (head_text r) (before_text c) e (36 ∷ v) g (op_text o) }
from_shifts r c e a g t s b i h = cc

-- the spot after an operand is well formed, and its text is that before it, the gap and the operand
operand_shifts : (r : Head) (c : Before) (e v f : List ℕ) (o : Comparison) (g : List ℕ) (a : Operand) → IsSpot (compared r c e v f o) → IsBlanks g → IsOperand a
    → IsSpot (cond_done r (push_cond c e (compare v f o g a))) × (spot_text (cond_done r (push_cond c e (compare v f o g a))) ≡ spot_text (compared r c e v f o) ++ (g ++ operand_text a))
operand_shifts r c e v f o g a s b i = (
  (s.0, conds_are c e (compare v f o g a) s.1 s.2 (s.3, s.4, b, i)),
  ap (λ x. head_text r ++ x) (conds_push c e (compare v f o g a)) ∙ six_after (head_text r) (before_text c) e (36 ∷ v) f (op_text o) g (operand_text a),
)

-- after an operator, a token that may come is written after its spot
compared_shifts : (r : Head) (c : Before) (e v f : List ℕ) (o : Comparison) (g : List ℕ) (t : Token) → IsSpot (compared r c e v f o) → IsBlanks g → IsToken t → Taken (compared r c e v f o) g t → Shifts (compared r c e v f o) g t
compared_shifts r c e v f o g (var u) s b i h = let k = operand_shifts r c e v f o g (a_variable u) s b i in record { is = k.0; text = k.1 }
compared_shifts r c e v f o g (quoted ps) s b i h = let k = operand_shifts r c e v f o g (a_text ps) s b i in record { is = k.0; text = k.1 }
compared_shifts r c e v f o g t s b i h = cc

-- after a path, a token that may come is written after its spot
path_shifts : (r : Head) (c : Before) (e : List ℕ) (a : Start) (f : List ℕ) (p : paths.Spelled) (g : List ℕ) (t : Token) → IsSpot (cond_path r c e a f p) → IsBlanks g → IsToken t
    → Taken (cond_path r c e a f p) g t → Shifts (cond_path r c e a f p) g t
path_shifts r c e a f p g (var v) s b i h = record {
  is = (s.0, conds_are c e (cond_of a f p g v) s.1 s.2 (cond_of_is a f p g v s.3 s.4 s.5 (gap_of g b h) i));
  text =
      ap (λ x. head_text r ++ x) (conds_push c e (cond_of a f p g v) ∙ ap (λ x. before_text c ++ (e ++ x)) (cond_of_text a f p g v))
      ∙ six_after (head_text r) (before_text c) e (start_text a) f (paths.text_of p) g (token_text (var v));
}
path_shifts r c e a f p g t s b i h = cc

-- after a condition, a token that may come is written after its spot
done_shifts : (r : Head) (cs : Conds) (g : List ℕ) (t : Token) → IsSpot (cond_done r cs) → IsBlanks g → IsToken t → Taken (cond_done r cs) g t → Shifts (cond_done r cs) g t
done_shifts r cs g (fixed mark.And) s b i h = record { is = (s.0, (s.1, gap_of g b h)); text = two_after (head_text r) (conds_text cs) g (codes "AND") }
done_shifts r cs g (fixed mark.Order) s b i h = record { is = (s.0, s.1, gap_of g b h); text = two_after (head_text r) (conds_text cs) g (codes "ORDER") }
done_shifts r cs g t s b i h = cc

-- after ORDER, a token that may come is written after its spot
ordering_shifts : (r : Head) (cs : Conds) (e g : List ℕ) (t : Token) → IsSpot (ordering r cs e) → IsBlanks g → IsToken t → Taken (ordering r cs e) g t → Shifts (ordering r cs e) g t
ordering_shifts r cs e g (fixed mark.By) s b i h = record { is = (s.0, s.1, s.2, gap_of g b h); text = order_after (head_text r) (conds_text cs) e (codes "ORDER") g (codes "BY") }
ordering_shifts r cs e g t s b i h = cc

-- after BY, a token that may come is written after its spot
by_shifts : (r : Head) (cs : Conds) (e f g : List ℕ) (t : Token) → IsSpot (ordering_by r cs e f) → IsBlanks g → IsToken t → Taken (ordering_by r cs e f) g t → Shifts (ordering_by r cs e f) g t
by_shifts r cs e f g (var v) s b i h = record { is = (s.0, s.1, (s.2, s.3, gap_of g b h, i)); text = by_after (head_text r) (conds_text cs) e (codes "ORDER") f (codes "BY") g (token_text (var v)) }
by_shifts r cs e f g t s b i h = cc

-- after the variable that orders, a token that may come is written after its spot
sorted_shifts : (r : Head) (cs : Conds) (o : Order) (g : List ℕ) (t : Token) → IsSpot (sorted r cs o) → IsBlanks g → IsToken t → Taken (sorted r cs o) g t → Shifts (sorted r cs o) g t
sorted_shifts r cs (ordered e f j v) g (fixed mark.Desc) s b i h = record { is = (s.0, s.1, (s.2.0, s.2.1, s.2.2, s.2.3, gap_of g b h)); text = sorted_after (head_text r) (conds_text cs) (ordered_text e f j v) g (codes "DESC") }
sorted_shifts r cs o g t s b i h = cc

-- at each spot, a token that may come is written after it
pub shifts : (s : Spot) (g : List ℕ) (t : Token) → IsSpot s → IsBlanks g → IsToken t → IsTrue (takes s g (kind_of t)) → Shifts s g t
shifts beginning g t s b i h = beginning_shifts g t b i h
shifts (items lead [] xs) g t s b i h = outer_shifts lead xs g t s b i h
shifts (items lead (f ∷ o) xs) g t s b i h = inner_shifts lead f o xs g t s b i h
shifts (labelled lead o xs e) g t s b i h = labelled_shifts lead o xs e g t s b i h
shifts (keys lead o xs e ks) g t s b i h = keys_shifts lead o xs e ks g t s b i h
shifts (key_comma lead o xs e ks f) g t s b i h = comma_shifts lead o xs e ks f g t s b i h
shifts (key_label lead o xs e ks p f) g t s b i h = key_label_shifts lead o xs e ks p f g t s b i h
shifts (cond_start r c) g t s b i h = start_shifts r c g t s b i h
shifts (cond_from r c e a) g t s b i h = from_shifts r c e a g t s b i h
shifts (cond_path r c e a f p) g t s b i h = path_shifts r c e a f p g t s b i h
shifts (cond_done r cs) g t s b i h = done_shifts r cs g t s b i h
shifts (compared r c e v f o) g t s b i h = compared_shifts r c e v f o g t s b i h
shifts (ordering r cs e) g t s b i h = ordering_shifts r cs e g t s b i h
shifts (ordering_by r cs e f) g t s b i h = by_shifts r cs e f g t s b i h
shifts (sorted r cs o) g t s b i h = sorted_shifts r cs o g t s b i h
