-- The canonical form of a rule in UTF-8 is UTF-8.
use Rattle.std.proofs.Common.{◌≡◌, ◌<◌, ◌==◌, ℕ, Bool, true, false, cond, IsTrue, List, [], ◌∷◌, ◌++◌, refl, sym, subst, append_assoc, arith}
use Rattle.std.proofs.lemmas.Bool.Decides.{nat_tests}
use Rattle.std.proofs.lemmas.Str.{IsUtf8-nil, IsUtf8-append}
use Rattle.std.specs.Str.{IsUtf8}
use Rattle.std.specs.List.{list_all, flat_map}
use Rattle.mix_base.proofs.Choices.{and_parts, number_is}
use Rattle.mix_base.proofs.Utf8.{utf8_split, one_utf8, utf8_push}
use Rattle.mix_tree.specs.LabelGrammar.{Piece, ArePieces, inside_quotes, meaning}
use Rattle.mix_tree.specs.Names.{IsName}
use Rattle.mix_tree.specs.Spelling.{escaped, quoted}
use Rattle.xmas_tokens.specs.declared.lexeme.Comparison.{Comparison}
use Rattle.xmas_tokens.specs.declared.lexeme.Comparison.TheVariants as op
use Rattle.path_expr.specs.Grammar.{Spelled, text_of}
use Rattle.path_expr.proofs.Again.{quoted_pieces, pieces_of}
use Rattle.path_expr.proofs.Utf8.{label_utf8, name_utf8}
use Rattle.xmas_tokens.specs.Lexical.{is_blank, is_letter, is_word_byte, IsBlanks, IsGap, IsVar}
use Rattle.xmas_text.specs.Grammar.{Key, node, label, Keys, none, first, more, Group, absent, braced, Items, nothing, variable, literal, element, Operand, a_variable, a_text, Cond, source, walk, compare, Conds, one, also, Order, unordered, ordered, descending, Rule, IsKey, AreKeys, IsGroup, IsItemGap, AreItems, IsTemplate, IsOperand, IsCond, AreConds, IsOrder, IsRule, key_text, keys_text, group_text, items_text, operand_text, cond_text, conds_text, order_text, rule_text}
use Rattle.xmas_tokens.specs.Tokens.{quoted_text, op_text}
use Rattle.xmas_read.proofs.CleanForm.{clean_key, clean_keys, clean_group, clean_items, clean_path, clean_operand, clean_cond, clean_conds, clean_order, clean_rule}
use Rattle.xmas_read.proofs.CleanPaths.{PathKept, KeptCond, KeptConds, blank_low, after_blanks, gap_blanks, around_gap, rule_parts}

-- a UTF-8 text with an ASCII byte before it is UTF-8
before : (b : ℕ) (x : List ℕ) → b < 128 → IsUtf8 x → IsUtf8 (b ∷ x)
before b x h u = IsUtf8-append (b ∷ []) x (one_utf8 b h) u

-- two UTF-8 texts, one after the other, are UTF-8
both : (x y : List ℕ) → IsUtf8 x → IsUtf8 y → IsUtf8 (x ++ y)
both x y u v = IsUtf8-append x y u v

-- a UTF-8 text stays UTF-8 where a byte of it, and all bytes after that, are written with their escapes
escaped_one : (u : List ℕ) (b : ℕ) (l : List ℕ) → IsUtf8 (u ++ b ∷ l) → IsUtf8 ((u ++ b ∷ []) ++ flat_map escaped l) → (IsUtf8 l → IsUtf8 (flat_map escaped l)) → IsUtf8 (u ++ (escaped b ++ flat_map escaped l))
escaped_one u b l h next rest = by_cases (b == 34) (b == 92) (b == 10) (b == 9) refl refl refl refl
  where
    two : (c : ℕ) → c < 128 → b < 128 → IsUtf8 (u ++ 92 ∷ c ∷ flat_map escaped l)
    two c low k =
        let parts = utf8_split u l b k h in
        both u (92 ∷ c ∷ flat_map escaped l) parts.0 (before 92 (c ∷ flat_map escaped l) (omega arith) (before c (flat_map escaped l) low (rest parts.1)))

    by_cases : (c d e f : Bool) → (b == 34) ≡ c → (b == 92) ≡ d → (b == 10) ≡ e → (b == 9) ≡ f
        → IsUtf8 (u ++ (cond c (92 ∷ 34 ∷ []) (cond d (92 ∷ 92 ∷ []) (cond e (92 ∷ 110 ∷ []) (cond f (92 ∷ 116 ∷ []) (b ∷ [])))) ++ flat_map escaped l))
    by_cases true d e f p q r s = two 34 (omega arith) (let k = number_is b 34 p in omega (arith, k))
    by_cases false true e f p q r s = two 92 (omega arith) (let k = number_is b 92 q in omega (arith, k))
    by_cases false false true f p q r s = two 110 (omega arith) (let k = number_is b 10 r in omega (arith, k))
    by_cases false false false true p q r s = two 116 (omega arith) (let k = number_is b 9 s in omega (arith, k))
    by_cases false false false false p q r s = subst IsUtf8 (append_assoc u (b ∷ []) (flat_map escaped l)) next

-- a UTF-8 text stays UTF-8 with the escapes of its last part
escaped_all : (u l : List ℕ) → IsUtf8 (u ++ l) → IsUtf8 (u ++ flat_map escaped l)
escaped_all u [] h = h
escaped_all u (b ∷ l) h = escaped_one u b l h (escaped_all (u ++ b ∷ []) l (subst IsUtf8 (sym (append_assoc u (b ∷ []) l)) h)) (escaped_all [] l)

-- the canonical text between quotes of a UTF-8 label is UTF-8
quoted_again : (l : List ℕ) → IsUtf8 l → IsUtf8 (quoted_text (pieces_of l))
quoted_again l u = subst IsUtf8 (quoted_pieces l).2 (before 34 (flat_map escaped l ++ 34 ∷ []) (omega arith) (utf8_push (flat_map escaped l) 34 (omega arith) (escaped_all [] l u)))

-- the label that a UTF-8 text between quotes means is UTF-8
label_in : (ps : List Piece) → ArePieces ps → IsUtf8 (quoted_text ps) → IsUtf8 (meaning ps)
label_in ps h u = label_utf8 [] ps h (utf8_split (inside_quotes ps) [] 34 (omega arith) (utf8_split [] (inside_quotes ps ++ 34 ∷ []) 34 (omega arith) u).1).0

-- bytes of words are ASCII
word_low : (b : ℕ) → is_word_byte b ≡ true → b < 128
word_low b h = grind (arith, nat_tests)

-- letters are ASCII
letter_low : (b : ℕ) → is_letter b ≡ true → b < 128
letter_low b h = grind (arith, nat_tests)

-- words are UTF-8, and so is what stands after them
word_utf8 : (x : List ℕ) → IsTrue (list_all is_word_byte x) → IsUtf8 x
word_utf8 [] h = IsUtf8-nil
word_utf8 (b ∷ x) h = let p = and_parts (is_word_byte b) (list_all is_word_byte x) h in before b x (word_low b p.0) (word_utf8 x p.1)

-- what stands after a word in a UTF-8 text is UTF-8
after_word : (x y : List ℕ) → IsTrue (list_all is_word_byte x) → IsUtf8 (x ++ y) → IsUtf8 y
after_word [] y h u = u
after_word (b ∷ x) y h u = let p = and_parts (is_word_byte b) (list_all is_word_byte x) h in after_word x y p.1 (utf8_split [] (x ++ y) b (word_low b p.0) u).1

-- the name of a variable is UTF-8
var_utf8 : (v : List ℕ) → IsVar v → IsUtf8 v
var_utf8 [] h = absurd h
var_utf8 (b ∷ x) h = before b x (letter_low b h.0) (word_utf8 x h.1)

-- what stands after a variable's name in a UTF-8 text is UTF-8
after_var : (v y : List ℕ) → IsVar v → IsUtf8 (v ++ y) → IsUtf8 y
after_var [] y h u = absurd h
after_var (b ∷ x) y h u = after_word x y h.1 (utf8_split [] (x ++ y) b (letter_low b h.0) u).1

-- what stands before blanks in a UTF-8 text, and from the ASCII byte after them on, is UTF-8
around_blanks : (x g y : List ℕ) (b : ℕ) → IsBlanks g → b < 128 → IsUtf8 (x ++ (g ++ b ∷ y)) → IsUtf8 x × IsUtf8 (b ∷ y)
around_blanks x [] y b h l u = let p = utf8_split x y b l u in (p.0, before b y l p.1)
around_blanks x (c ∷ g) y b h l u =
    let p = and_parts (is_blank c) (list_all is_blank g) h in
    let q = utf8_split x (g ++ b ∷ y) c (blank_low c p.0) u in (q.0, after_blanks g (b ∷ y) p.1 q.1)

-- a gap before an item is of blanks
item_blanks : (xs : Items) (g : List ℕ) → IsItemGap xs g → IsBlanks g
item_blanks nothing g h = h
item_blanks (variable w f k e) g h = gap_blanks g h
item_blanks (literal w f ps) g h = gap_blanks g h
item_blanks (element w f name inside b close e) g h = gap_blanks g h

-- the canonical form of a key is UTF-8
key_utf8 : (k : Key) → IsKey k → IsUtf8 (key_text (clean_key k))
key_utf8 (node v) h = before 36 v (omega arith) (var_utf8 v h)
key_utf8 (label g v) h =
    before 108 _ (omega arith) (before 97 _ (omega arith) (before 98 _ (omega arith) (before 101 _ (omega arith) (before 108 _ (omega arith) (before 32 _ (omega arith) (before 36 v (omega arith) (var_utf8 v h.1)))))))

-- the canonical form of keys is UTF-8
keys_utf8 : (ks : Keys) → AreKeys ks → IsUtf8 (keys_text (clean_keys ks))
keys_utf8 none h = IsUtf8-nil
keys_utf8 (first g k) h = key_utf8 k h.1
keys_utf8 (more ks g b k) h = both (keys_text (clean_keys ks)) (44 ∷ key_text (clean_key k)) (keys_utf8 ks h.1) (before 44 _ (omega arith) (key_utf8 k h.4))

-- the canonical form of a group label is UTF-8, where the keys without one are
group_utf8 : (w : Keys) (e : Group) → IsUtf8 (keys_text w) → IsGroup e → IsUtf8 (group_text (clean_group w e))
group_utf8 w absent u h = before 32 _ (omega arith) (before 123 _ (omega arith) (utf8_push (keys_text w) 125 (omega arith) u))
group_utf8 w (braced g ks b) u h = before 32 _ (omega arith) (before 123 _ (omega arith) (utf8_push (keys_text (clean_keys ks)) 125 (omega arith) (keys_utf8 ks h.1)))

-- the items before one that shows a variable, in a UTF-8 text, are UTF-8
shown_prefix : (xs : Items) (g y : List ℕ) (k : Key) → IsItemGap xs g → IsUtf8 (items_text xs ++ (g ++ (key_text k ++ y))) → IsUtf8 (items_text xs)
shown_prefix xs g y (node v) h u = (around_blanks (items_text xs) g (v ++ y) 36 (item_blanks xs g h) (omega arith) u).0
shown_prefix xs g y (label f v) h u = (around_blanks (items_text xs) g _ 108 (item_blanks xs g h) (omega arith) u).0

-- the canonical form of UTF-8 items is UTF-8
items_utf8 : (xs : Items) → AreItems xs → IsUtf8 (items_text xs) → IsUtf8 (items_text (clean_items xs))
items_utf8 nothing h u = IsUtf8-nil
items_utf8 (variable w g k e) h u =
    both (items_text (clean_items w)) (32 ∷ (key_text (clean_key k) ++ group_text (clean_group (first [] (clean_key k)) e))) (items_utf8 w h.0 (shown_prefix w g (group_text e) k h.1 u))
    (before 32 _ (omega arith) (both (key_text (clean_key k)) (group_text (clean_group (first [] (clean_key k)) e)) (key_utf8 k h.2) (group_utf8 (first [] (clean_key k)) e (key_utf8 k h.2) h.3)))
items_utf8 (literal w g ps) h u =
    let p = around_blanks (items_text w) g (inside_quotes ps ++ 34 ∷ []) 34 (item_blanks w g h.1) (omega arith) u in
    both (items_text (clean_items w)) (32 ∷ quoted_text (pieces_of (meaning ps))) (items_utf8 w h.0 p.0) (before 32 _ (omega arith) (quoted_again (meaning ps) (label_in ps h.2 p.1)))
items_utf8 (element w g name inside b close e) h u =
    let end = 47 ∷ (close ++ 62 ∷ group_text e) in
    let p = around_blanks (items_text w) g (name ++ 62 ∷ (items_text inside ++ (b ++ 60 ∷ end))) 60 (item_blanks w g h.1) (omega arith) u in
    let q = utf8_split (60 ∷ name) (items_text inside ++ (b ++ 60 ∷ end)) 62 (omega arith) p.1 in
    let r = around_blanks (items_text inside) b end 60 h.4 (omega arith) q.1 in
    let tag = name_utf8 name h.2.0 in
    let group = group_utf8 none e IsUtf8-nil h.6 in
    both (items_text (clean_items w)) _ (items_utf8 w h.0 p.0)
    (before 32 _ (omega arith) (before 60 _ (omega arith) (both name _ tag (before 62 _ (omega arith) (both (items_text (clean_items inside)) _ (items_utf8 inside h.3 r.0)
    (before 32 _ (omega arith) (before 60 _ (omega arith) (before 47 _ (omega arith) (both name _ tag (before 62 _ (omega arith) group))))))))))

-- a template of the grammar is items of the grammar
pub template_items : (xs : Items) → IsTemplate xs → AreItems xs
template_items nothing h = absurd h
template_items (variable w g k e) h = absurd h
template_items (literal w g ps) h = absurd h
template_items (element nothing g name inside b close e) h = (tt, gap_blanks g h.1, h.2, h.3, h.4, h.5, h.6)
template_items (element (variable w f k d) g name inside b close e) h = absurd h.0
template_items (element (literal w f ps) g name inside b close e) h = absurd h.0
template_items (element (element w f n i c m d) g name inside b close e) h = absurd h.0

-- what stands after an operator in a UTF-8 text is UTF-8
after_op : (o : Comparison) (y : List ℕ) → IsUtf8 (op_text o ++ y) → IsUtf8 y
after_op op.Eq y u = (utf8_split [] y 61 (omega arith) u).1
after_op op.Ne y u = (utf8_split (33 ∷ []) y 61 (omega arith) u).1
after_op op.Lt y u = (utf8_split [] y 60 (omega arith) u).1
after_op op.Le y u = (utf8_split (60 ∷ []) y 61 (omega arith) u).1
after_op op.Gt y u = (utf8_split [] y 62 (omega arith) u).1
after_op op.Ge y u = (utf8_split (62 ∷ []) y 61 (omega arith) u).1

-- a UTF-8 text with an operator before it is UTF-8
op_before : (o : Comparison) (y : List ℕ) → IsUtf8 y → IsUtf8 (op_text o ++ y)
op_before op.Eq y u = before 61 y (omega arith) u
op_before op.Ne y u = before 33 _ (omega arith) (before 61 y (omega arith) u)
op_before op.Lt y u = before 60 y (omega arith) u
op_before op.Le y u = before 60 _ (omega arith) (before 61 y (omega arith) u)
op_before op.Gt y u = before 62 y (omega arith) u
op_before op.Ge y u = before 62 _ (omega arith) (before 61 y (omega arith) u)

-- the canonical form of a UTF-8 operand is UTF-8
operand_utf8 : (a : Operand) → IsOperand a → IsUtf8 (operand_text a) → IsUtf8 (operand_text (clean_operand a))
operand_utf8 (a_variable v) h u = u
operand_utf8 (a_text ps) h u = quoted_again (meaning ps) (label_in ps h u)

-- a path of the canonical form and a variable, each after a blank, are UTF-8
path_utf8 : (p : Spelled) (v : List ℕ) → PathKept p → IsVar v → IsUtf8 (32 ∷ (text_of (clean_path p) ++ (32 ∷ 36 ∷ v)))
path_utf8 p v k h =
    before 32 _ (omega arith) (both (text_of (clean_path p)) (32 ∷ 36 ∷ v) (subst IsUtf8 (sym k.text) k.utf8) (before 32 _ (omega arith) (before 36 v (omega arith) (var_utf8 v h))))

-- the canonical form of a UTF-8 condition is UTF-8
cond_utf8 : (c : Cond) → IsCond c → KeptCond c → IsUtf8 (cond_text c) → IsUtf8 (cond_text (clean_cond c))
cond_utf8 (source name g p b v) h k u = both name _ (name_utf8 name h.0.0) (path_utf8 p v k h.4)
cond_utf8 (walk start g p b v) h k u = before 36 _ (omega arith) (both start _ (var_utf8 start h.0) (path_utf8 p v k h.4))
cond_utf8 (compare v g o b a) h k u =
    let x = after_var v _ h.0 (utf8_split [] _ 36 (omega arith) u).1 in
    let y = after_op o _ (after_blanks g _ h.1 x) in
    let z = operand_utf8 a h.3 (after_blanks b _ h.2 y) in
    before 36 _ (omega arith) (both v _ (var_utf8 v h.0) (before 32 _ (omega arith) (op_before o _ (before 32 _ (omega arith) z))))

-- the canonical form of UTF-8 conditions is UTF-8
conds_utf8 : (cs : Conds) → AreConds cs → KeptConds cs → IsUtf8 (conds_text cs) → IsUtf8 (conds_text (clean_conds cs))
conds_utf8 (one g c) h k u = before 32 _ (omega arith) (cond_utf8 c h.1 k (after_blanks g (cond_text c) (gap_blanks g h.0) u))
conds_utf8 (also cs g b c) h k u =
    let x = around_gap (conds_text cs) g (65 ∷ 78 ∷ 68 ∷ (b ++ cond_text c)) h.1 u in
    let y = after_blanks b (cond_text c) (gap_blanks b h.2) (utf8_split (65 ∷ 78 ∷ []) (b ++ cond_text c) 68 (omega arith) x.1).1 in
    both (conds_text (clean_conds cs)) _ (conds_utf8 cs h.0 k.0 x.0)
    (before 32 _ (omega arith) (before 65 _ (omega arith) (before 78 _ (omega arith) (before 68 _ (omega arith) (before 32 _ (omega arith) (cond_utf8 c h.3 k.1 y))))))

-- a UTF-8 text with ORDER BY and a $ before it is UTF-8
by_utf8 : (y : List ℕ) → IsUtf8 y → IsUtf8 (32 ∷ 79 ∷ 82 ∷ 68 ∷ 69 ∷ 82 ∷ 32 ∷ 66 ∷ 89 ∷ 32 ∷ 36 ∷ y)
by_utf8 y u =
    before 32 _ (omega arith) (before 79 _ (omega arith) (before 82 _ (omega arith) (before 68 _ (omega arith) (before 69 _ (omega arith) (before 82 _ (omega arith)
    (before 32 _ (omega arith) (before 66 _ (omega arith) (before 89 _ (omega arith) (before 32 _ (omega arith) (before 36 y (omega arith) u))))))))))

-- the canonical form of an order is UTF-8
order_utf8 : (o : Order) → IsOrder o → IsUtf8 (order_text (clean_order o))
order_utf8 unordered h = IsUtf8-nil
order_utf8 (ordered g b i v) h = by_utf8 v (var_utf8 v h.3)
order_utf8 (descending g b i v j) h =
    by_utf8 (v ++ (32 ∷ 68 ∷ 69 ∷ 83 ∷ 67 ∷ []))
    (both v (32 ∷ 68 ∷ 69 ∷ 83 ∷ 67 ∷ []) (var_utf8 v h.3)
    (before 32 _ (omega arith) (before 68 _ (omega arith) (before 69 _ (omega arith) (before 83 _ (omega arith) (before 67 [] (omega arith) IsUtf8-nil))))))

-- a UTF-8 text with WHERE and a blank before it is UTF-8
where_utf8 : (y : List ℕ) → IsUtf8 y → IsUtf8 (32 ∷ 87 ∷ 72 ∷ 69 ∷ 82 ∷ 69 ∷ y)
where_utf8 y u = before 32 _ (omega arith) (before 87 _ (omega arith) (before 72 _ (omega arith) (before 69 _ (omega arith) (before 82 _ (omega arith) (before 69 y (omega arith) u)))))

-- a UTF-8 text with CONSTRUCT before it is UTF-8
construct_utf8 : (y : List ℕ) → IsUtf8 y → IsUtf8 (67 ∷ 79 ∷ 78 ∷ 83 ∷ 84 ∷ 82 ∷ 85 ∷ 67 ∷ 84 ∷ y)
construct_utf8 y u =
    before 67 _ (omega arith) (before 79 _ (omega arith) (before 78 _ (omega arith) (before 83 _ (omega arith) (before 84 _ (omega arith) (before 82 _ (omega arith)
    (before 85 _ (omega arith) (before 67 _ (omega arith) (before 84 y (omega arith) u))))))))

-- the canonical form of a UTF-8 rule is UTF-8
pub rule_utf8 : (r : Rule) → IsRule r → KeptConds r.conds → IsUtf8 (rule_text r) → IsUtf8 (rule_text (clean_rule r))
rule_utf8 r h k u =
    let p = rule_parts r h u in
    let ends = both (order_text (clean_order r.order)) [] (order_utf8 r.order h.order) IsUtf8-nil in
    let conds = both (conds_text (clean_conds r.conds)) _ (conds_utf8 r.conds h.conds k p.1) ends in
    construct_utf8 _ (both (items_text (clean_items r.template)) _ (items_utf8 r.template (template_items r.template h.template) p.0) (where_utf8 _ conds))
