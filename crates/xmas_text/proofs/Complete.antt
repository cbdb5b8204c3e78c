-- The machine reads each text of the grammar as it is written.
use Rattle.std.specs.Prelude.{codes}
use Rattle.std.proofs.Common.{not, ◌≡◌, ◌∙◌, ℕ, Bool, true, false, ◌&&◌, IsTrue, List, [], ◌∷◌, ◌++◌, Some, option_and_then, refl, sym, ap, subst, append_assoc}
use Rattle.std.specs.List.{list_all}
use Rattle.mix_base.proofs.Runs.{run_then, run_byte}
use Rattle.mix_base.proofs.Choices.{and_parts}
use Rattle.mix_tree.specs.Names.{IsName}
use Rattle.xmas_text.specs.Grammar.{Key, node, label, Keys, none, first, more, Group, absent, braced, Items, nothing, variable, literal, element, key_text, keys_text, group_text, items_text, IsKey, HasKeys, AreKeys, IsGroup, IsItemGap, AreItems, Operand, a_variable, a_text, operand_text, IsOperand, Cond, source, walk, compare, Conds, one, also, Order, unordered, ordered, descending, ordered_text, order_text, IsOrder, cond_text, conds_text, IsCond, AreConds, IsTemplate, construct_text, where_text, Rule, IsRule, Writes}
use Rattle.xmas_tokens.specs.Tokens.{quoted_text, op_text, Token, fixed, open_tag, close_tag, word, var, quoted, path, comparison, kind_of, token_text, IsToken}
use Rattle.xmas_tokens.specs.Lexer.{between}
use Rattle.xmas_tokens.specs.Lexical.{is_blank, IsBlanks, IsGap, IsVar}
use Rattle.xmas_text.specs.Machine.{State, at, run, rule_at, whole, start, read_of, step}
use Rattle.xmas_text.specs.Spots.{Frame, Head, at_first, at_more, Before, first_cond, also_cond, Start, by_name, by_var, Spot, beginning, items, labelled, keys, key_comma, key_label, cond_start, cond_from, cond_path, cond_done, compared, ordering, ordering_by, sorted, has_blank, item_gap, may_group, is_none, takes, with_group, push_cond, cond_of, shift}
use Rattle.xmas_tokens.specs.declared.lexeme.Comparison.{Comparison}
use Rattle.xmas_tokens.specs.declared.token.Mark.TheVariants as mark
use Rattle.xmas_tokens.specs.declared.token.Kind.TheVariants as kind
use Rattle.path_expr.specs.Grammar as paths
use Rattle.xmas_text.proofs.Texts.{label_text}
use Rattle.xmas_text.proofs.Tokens.{IsAt, at_start, After, reading, gap_run, gap_step, blank_follows}
use Rattle.xmas_text.proofs.Takes.{taken_reading}

-- from any state at a spot, the text leads to another spot
abbrev pub Reads : Spot → List ℕ → Spot → Type 0
Reads s x s' = (t : State) → IsAt s t → After s' x t

-- a spot leads to itself
pub stays : (s : Spot) → Reads s [] s
stays s t a = record { state = t; runs = refl; is = a }

-- one text leads on where another one has led
pub then : (s s' s'' : Spot) (x y : List ℕ) → Reads s x s' → Reads s' y s'' → Reads s (x ++ y) s''
then s s' s'' x y h k t a =
    let b = h t a in
    let c = k b.state b.is in
    record { state = c.state; runs = run_then step x y t b.state b.runs ∙ c.runs; is = c.is }

-- a token that may come leads to the spot after it
pub token : (s : Spot) (h : List ℕ) (t : Token) → IsBlanks h → IsToken t → IsTrue (takes s h (kind_of t)) → Reads s (h ++ token_text t) (shift s h t)
token s h t b i k st a = reading s st h t a b (taken_reading s h t i k)

-- a text leads from one spot to another one, where an equal text does
as_text : (s s' : Spot) (x y : List ℕ) → x ≡ y → Reads s x s' → Reads s y s'
as_text s s' x y e h = subst (λ z. Reads s z s') e h

-- a gap consists of blanks
blanks_of : (g : List ℕ) → IsGap g → IsBlanks g
blanks_of [] h = absurd h
blanks_of (b ∷ g) h = h

-- a gap has at least one blank
has_gap : (g : List ℕ) → IsGap g → IsTrue (has_blank g)
has_gap [] h = absurd h
has_gap (b ∷ g) h = refl

-- what stands before an item is blanks
item_blanks : (xs : Items) (g : List ℕ) → IsItemGap xs g → IsBlanks g
item_blanks nothing g h = h
item_blanks (variable b f k e) g h = blanks_of g h
item_blanks (literal b f ps) g h = blanks_of g h
item_blanks (element b f n i j c e) g h = blanks_of g h

-- an item may come after items and the blanks that the grammar has before it
item_gaps : (xs : Items) (g : List ℕ) → IsItemGap xs g → IsTrue (item_gap xs g)
item_gaps nothing g h = refl
item_gaps (variable b f k e) g h = has_gap g h
item_gaps (literal b f ps) g h = has_gap g h
item_gaps (element b f n i j c e) g h = has_gap g h

-- the text of a first key leads to the spot after it
key_reads : (lead : List ℕ) (o : List Frame) (xs : Items) (e : List ℕ) (g : List ℕ) (k : Key) → IsBlanks g → IsKey k → Reads (keys lead o xs e none) (g ++ key_text k) (keys lead o xs e (first g k))
key_reads lead o xs e g (node v) b i = token (keys lead o xs e none) g (var v) b i refl
key_reads lead o xs e g (label f v) b i =
    as_text _ _ _ _ (append_assoc g label_text (f ++ 36 ∷ v))
    (then (keys lead o xs e none) (key_label lead o xs e none at_first g) (keys lead o xs e (first g (label f v))) (g ++ label_text) (f ++ 36 ∷ v)
    (token (keys lead o xs e none) g (fixed mark.LabelWord) b tt refl) (token (key_label lead o xs e none at_first g) f (var v) (blanks_of f i.0) i.1 (has_gap f i.0)))

-- the text of a key after a comma leads to the spot after it
more_reads : (lead : List ℕ) (o : List Frame) (xs : Items) (e : List ℕ) (ks : Keys) (h g : List ℕ) (k : Key) → IsBlanks g → IsKey k → Reads (key_comma lead o xs e ks h) (g ++ key_text k) (keys lead o xs e (more ks h g k))
more_reads lead o xs e ks h g (node v) b i = token (key_comma lead o xs e ks h) g (var v) b i refl
more_reads lead o xs e ks h g (label f v) b i =
    as_text _ _ _ _ (append_assoc g label_text (f ++ 36 ∷ v))
    (then (key_comma lead o xs e ks h) (key_label lead o xs e ks (at_more h) g) (keys lead o xs e (more ks h g (label f v))) (g ++ label_text) (f ++ 36 ∷ v)
    (token (key_comma lead o xs e ks h) g (fixed mark.LabelWord) b tt refl) (token (key_label lead o xs e ks (at_more h) g) f (var v) (blanks_of f i.0) i.1 (has_gap f i.0)))

-- keys of which there are some are not none
not_none : (ks : Keys) → HasKeys ks → IsTrue (not (is_none ks))
not_none none h = absurd h
not_none (first g k) h = refl
not_none (more ks g h' k) h = refl

-- the text of the keys of a group label leads to the spot after them
keys_reads : (ks : Keys) (lead : List ℕ) (o : List Frame) (xs : Items) (e : List ℕ) → AreKeys ks → Reads (keys lead o xs e none) (keys_text ks) (keys lead o xs e ks)
keys_reads none lead o xs e i = stays (keys lead o xs e none)
keys_reads (first g k) lead o xs e i = key_reads lead o xs e g k i.0 i.1
keys_reads (more ks h g k) lead o xs e i =
    then (keys lead o xs e none) (keys lead o xs e ks) (keys lead o xs e (more ks h g k)) (keys_text ks) (h ++ 44 ∷ (g ++ key_text k)) (keys_reads ks lead o xs e i.1)
    (as_text _ _ _ _ (append_assoc h (44 ∷ []) (g ++ key_text k))
    (then (keys lead o xs e ks) (key_comma lead o xs e ks h) (keys lead o xs e (more ks h g k)) (h ++ 44 ∷ []) (g ++ key_text k)
    (token (keys lead o xs e ks) h (fixed mark.Comma) i.2 tt (not_none ks i.0)) (more_reads lead o xs e ks h g k i.3 i.4)))

-- items keep as they are where their last one gets no group label
absent_again : (xs : Items) → IsTrue (may_group xs) → with_group xs absent ≡ xs
absent_again nothing h = refl
absent_again (variable b g k absent) h = refl
absent_again (variable b g k (braced e ks f)) h = cc
absent_again (literal b g ps) h = refl
absent_again (element b g n i j c absent) h = refl
absent_again (element b g n i j c (braced e ks f)) h = cc

-- a group label may come after an item that may have one
may_left : (lead : List ℕ) (o : List Frame) (xs : Items) (g : List ℕ) → IsTrue (may_group xs) → IsTrue (takes (items lead o xs) g (kind.Fixed mark.OpenBrace))
may_left lead [] xs g h = h
may_left lead (f ∷ o) xs g h = h

-- the text of a group label, or of none, leads to the spot after it
group_reads : (lead : List ℕ) (o : List Frame) (xs : Items) (e : Group) → IsTrue (may_group xs) → IsGroup e → Reads (items lead o xs) (group_text e) (items lead o (with_group xs e))
group_reads lead o xs absent m i = subst (λ y. Reads (items lead o xs) [] (items lead o y)) (sym (absent_again xs m)) (stays (items lead o xs))
group_reads lead o xs (braced g ks h) m i =
    as_text _ _ _ _ (append_assoc g (123 ∷ []) (keys_text ks ++ (h ++ 125 ∷ [])))
    (then (items lead o xs) (keys lead o xs g none) (items lead o (with_group xs (braced g ks h))) (g ++ 123 ∷ []) (keys_text ks ++ (h ++ 125 ∷ []))
    (token (items lead o xs) g (fixed mark.OpenBrace) i.0 tt (may_left lead o xs g m))
    (then (keys lead o xs g none) (keys lead o xs g ks) (items lead o (with_group xs (braced g ks h))) (keys_text ks) (h ++ 125 ∷ []) (keys_reads ks lead o xs g i.1)
    (token (keys lead o xs g ks) h (fixed mark.CloseBrace) i.2 tt refl)))

-- the text of an item that is a variable leads to the spot after it
variable_reads : (lead : List ℕ) (f : Frame) (o : List Frame) (xs : Items) (g : List ℕ) (k : Key) → IsItemGap xs g → IsKey k → Reads (items lead (f ∷ o) xs) (g ++ key_text k) (items lead (f ∷ o) (variable xs g k absent))
variable_reads lead f o xs g (node v) b i = token (items lead (f ∷ o) xs) g (var v) (item_blanks xs g b) i (item_gaps xs g b)
variable_reads lead f o xs g (label h v) b i =
    as_text _ _ _ _ (append_assoc g label_text (h ++ 36 ∷ v))
    (then (items lead (f ∷ o) xs) (labelled lead (f ∷ o) xs g) (items lead (f ∷ o) (variable xs g (label h v) absent)) (g ++ label_text) (h ++ 36 ∷ v)
    (token (items lead (f ∷ o) xs) g (fixed mark.LabelWord) (item_blanks xs g b) tt (item_gaps xs g b)) (token (labelled lead (f ∷ o) xs g) h (var v) (blanks_of h i.0) i.1 (has_gap h i.0)))

-- the text of an opening tag leads to the spot inside it
token_open : (lead : List ℕ) (o : List Frame) (xs : Items) (g n : List ℕ) → IsBlanks g → IsTrue (takes (items lead o xs) g kind.OpenTag) → IsName n → Reads (items lead o xs) (g ++ 60 ∷ (n ++ 62 ∷ [])) (items lead (record { before = xs; gap = g; name = n } ∷ o) nothing)
token_open lead [] xs g n b t i = token (items lead [] xs) g (open_tag n) b i t
token_open lead (f ∷ o) xs g n b t i = token (items lead (f ∷ o) xs) g (open_tag n) b i t

-- the text of an element, grouped as its opening tag, what stands inside and its closing tag
element_text : (g n x h c e : List ℕ) → g ++ 60 ∷ (n ++ 62 ∷ (x ++ (h ++ 60 ∷ 47 ∷ (c ++ 62 ∷ e)))) ≡ (g ++ 60 ∷ (n ++ 62 ∷ [])) ++ (x ++ ((h ++ 60 ∷ 47 ∷ (c ++ 62 ∷ [])) ++ e))
element_text g n x h c e = parts g (60 ∷ []) n (62 ∷ []) x h (60 ∷ 47 ∷ []) c (62 ∷ []) e
  where
    parts : (g a n b x h d c f e : List ℕ) → g ++ (a ++ (n ++ (b ++ (x ++ (h ++ (d ++ (c ++ (f ++ e)))))))) ≡ (g ++ (a ++ (n ++ b))) ++ (x ++ ((h ++ (d ++ (c ++ f))) ++ e))
    parts g a n b x h d c f e = simp append_assoc

-- where what stands inside an element is read, the text of the element leads to the spot after it
element_reads : (lead : List ℕ) (o : List Frame) (xs : Items) (g n : List ℕ) (inside : Items) (h c : List ℕ) (e : Group) → IsBlanks g → IsTrue (takes (items lead o xs) g kind.OpenTag) → IsName n
    → ((f : Frame) → Reads (items lead (f ∷ o) nothing) (items_text inside) (items lead (f ∷ o) inside)) → IsBlanks h → IsName c → IsGroup e
    → Reads (items lead o xs) (g ++ 60 ∷ (n ++ 62 ∷ (items_text inside ++ (h ++ 60 ∷ 47 ∷ (c ++ 62 ∷ group_text e))))) (items lead o (element xs g n inside h c e))
element_reads lead o xs g n inside h c e b t i r bh ic ie =
    let f : Frame = record { before = xs; gap = g; name = n } in
    as_text _ _ _ _ (sym (element_text g n (items_text inside) h c (group_text e)))
    (then (items lead o xs) (items lead (f ∷ o) nothing) (items lead o (element xs g n inside h c e)) (g ++ 60 ∷ (n ++ 62 ∷ [])) (items_text inside ++ ((h ++ 60 ∷ 47 ∷ (c ++ 62 ∷ [])) ++ group_text e))
    (token_open lead o xs g n b t i)
    (then (items lead (f ∷ o) nothing) (items lead (f ∷ o) inside) (items lead o (element xs g n inside h c e)) (items_text inside) ((h ++ 60 ∷ 47 ∷ (c ++ 62 ∷ [])) ++ group_text e) (r f)
    (then (items lead (f ∷ o) inside) (items lead o (element xs g n inside h c absent)) (items lead o (element xs g n inside h c e)) (h ++ 60 ∷ 47 ∷ (c ++ 62 ∷ [])) (group_text e)
    (token (items lead (f ∷ o) inside) h (close_tag c) bh ic refl) (group_reads lead o (element xs g n inside h c absent) e refl ie))))

-- the text of the items inside an element leads from the spot inside its tag to the spot after them
pub items_reads : (xs : Items) (lead : List ℕ) (f : Frame) (o : List Frame) → AreItems xs → Reads (items lead (f ∷ o) nothing) (items_text xs) (items lead (f ∷ o) xs)
items_reads nothing lead f o i = stays (items lead (f ∷ o) nothing)
items_reads (variable before g k e) lead f o i =
    then (items lead (f ∷ o) nothing) (items lead (f ∷ o) before) (items lead (f ∷ o) (variable before g k e)) (items_text before) (g ++ (key_text k ++ group_text e)) (items_reads before lead f o i.0)
    (as_text _ _ _ _ (append_assoc g (key_text k) (group_text e))
    (then (items lead (f ∷ o) before) (items lead (f ∷ o) (variable before g k absent)) (items lead (f ∷ o) (variable before g k e)) (g ++ key_text k) (group_text e)
    (variable_reads lead f o before g k i.1 i.2) (group_reads lead (f ∷ o) (variable before g k absent) e refl i.3)))
items_reads (literal before g ps) lead f o i =
    then (items lead (f ∷ o) nothing) (items lead (f ∷ o) before) (items lead (f ∷ o) (literal before g ps)) (items_text before) (g ++ quoted_text ps) (items_reads before lead f o i.0)
    (token (items lead (f ∷ o) before) g (quoted ps) (item_blanks before g i.1) i.2 (item_gaps before g i.1))
items_reads (element before g n inside h c e) lead f o i =
    then (items lead (f ∷ o) nothing) (items lead (f ∷ o) before) (items lead (f ∷ o) (element before g n inside h c e)) (items_text before) _ (items_reads before lead f o i.0)
    (element_reads lead (f ∷ o) before g n inside h c e (item_blanks before g i.1) (item_gaps before g i.1) i.2 (λ k. items_reads inside lead k (f ∷ o) i.3) i.4 i.5 i.6)

-- a path and the variable that it binds lead to the spot after the condition
path_part : (r : Head) (b : Before) (g : List ℕ) (s : Start) (e : List ℕ) (p : paths.Spelled) (h v : List ℕ) → IsGap e → paths.Is p paths.a_path → IsGap h → IsVar v
    → Reads (cond_from r b g s) ((e ++ paths.text_of p) ++ (h ++ 36 ∷ v)) (cond_done r (push_cond b g (cond_of s e p h v)))
path_part r b g s e p h v ie ip ih iv =
    then (cond_from r b g s) (cond_path r b g s e p) (cond_done r (push_cond b g (cond_of s e p h v))) (e ++ paths.text_of p) (h ++ 36 ∷ v)
    (token (cond_from r b g s) e (path p) (blanks_of e ie) ip (has_gap e ie)) (token (cond_path r b g s e p) h (var v) (blanks_of h ih) iv (has_gap h ih))

-- the text of a condition, grouped as its first word, its path and its variable
cond_text_parts : (g n e p t : List ℕ) → (g ++ n) ++ ((e ++ p) ++ t) ≡ g ++ (n ++ (e ++ (p ++ t)))
cond_text_parts g n e p t = simp append_assoc

-- the text of an operand leads to the spot after the condition
operand_reads : (r : Head) (b : Before) (g v e : List ℕ) (o : Comparison) (h : List ℕ) (a : Operand) → IsBlanks h → IsOperand a → Reads (compared r b g v e o) (h ++ operand_text a) (cond_done r (push_cond b g (compare v e o h a)))
operand_reads r b g v e o h (a_variable u) ih i = token (compared r b g v e o) h (var u) ih i refl
operand_reads r b g v e o h (a_text ps) ih i = token (compared r b g v e o) h (quoted ps) ih i refl

-- the text of a condition leads to the spot after it
cond_reads : (r : Head) (b : Before) (g : List ℕ) (c : Cond) → IsGap g → IsCond c → Reads (cond_start r b) (g ++ cond_text c) (cond_done r (push_cond b g c))
cond_reads r b g (source n e p h v) ig i =
    as_text _ _ _ _ (cond_text_parts g n e (paths.text_of p) (h ++ 36 ∷ v))
    (then (cond_start r b) (cond_from r b g (by_name n)) (cond_done r (push_cond b g (source n e p h v))) (g ++ n) ((e ++ paths.text_of p) ++ (h ++ 36 ∷ v))
    (token (cond_start r b) g (word n) (blanks_of g ig) i.0 (has_gap g ig)) (path_part r b g (by_name n) e p h v i.1 i.2 i.3 i.4))
cond_reads r b g (walk u e p h v) ig i =
    as_text _ _ _ _ (cond_text_parts g (36 ∷ u) e (paths.text_of p) (h ++ 36 ∷ v))
    (then (cond_start r b) (cond_from r b g (by_var u)) (cond_done r (push_cond b g (walk u e p h v))) (g ++ 36 ∷ u) ((e ++ paths.text_of p) ++ (h ++ 36 ∷ v))
    (token (cond_start r b) g (var u) (blanks_of g ig) i.0 (has_gap g ig)) (path_part r b g (by_var u) e p h v i.1 i.2 i.3 i.4))
cond_reads r b g (compare v e o h a) ig i =
    as_text _ _ _ _ (cond_text_parts g (36 ∷ v) e (op_text o) (h ++ operand_text a))
    (then (cond_start r b) (cond_from r b g (by_var v)) (cond_done r (push_cond b g (compare v e o h a))) (g ++ 36 ∷ v) ((e ++ op_text o) ++ (h ++ operand_text a))
    (token (cond_start r b) g (var v) (blanks_of g ig) i.0 (has_gap g ig))
    (then (cond_from r b g (by_var v)) (compared r b g v e o) (cond_done r (push_cond b g (compare v e o h a))) (e ++ op_text o) (h ++ operand_text a)
    (token (cond_from r b g (by_var v)) e (comparison o) i.1 tt refl) (operand_reads r b g v e o h a i.2 i.3)))

-- the text of all conditions leads to the spot after them
conds_reads : (cs : Conds) (r : Head) → AreConds cs → Reads (cond_start r first_cond) (conds_text cs) (cond_done r cs)
conds_reads (one g c) r i = cond_reads r first_cond g c i.0 i.1
conds_reads (also cs g h c) r i =
    then (cond_start r first_cond) (cond_done r cs) (cond_done r (also cs g h c)) (conds_text cs) (g ++ (codes "AND" ++ (h ++ cond_text c))) (conds_reads cs r i.0)
    (as_text _ _ _ _ (append_assoc g (codes "AND") (h ++ cond_text c))
    (then (cond_done r cs) (cond_start r (also_cond cs g)) (cond_done r (also cs g h c)) (g ++ codes "AND") (h ++ cond_text c)
    (token (cond_done r cs) g (fixed mark.And) (blanks_of g i.1) tt (has_gap g i.1)) (cond_reads r (also_cond cs g) h c i.2 i.3)))

-- two booleans that are true are true together
both : (a b : Bool) → IsTrue a → IsTrue b → IsTrue (a && b)
both true b h k = k
both false b h k = cc

-- the text of the template leads to the spot after it
template_reads : (xs : Items) (lead : List ℕ) → IsTemplate xs → Reads (items lead [] nothing) (items_text xs) (items lead [] xs)
template_reads nothing lead i = absurd i
template_reads (variable b g k e) lead i = absurd i
template_reads (literal b g ps) lead i = absurd i
template_reads (element nothing g n inside h c e) lead i =
    element_reads lead [] nothing g n inside h c e (blanks_of g i.1) (has_gap g i.1) i.2 (λ f. items_reads inside lead f [] i.3) i.4 i.5 i.6
template_reads (element (variable b f k j) g n inside h c e) lead i = absurd i.0
template_reads (element (literal b f ps) g n inside h c e) lead i = absurd i.0
template_reads (element (element b f m j l d a) g n inside h c e) lead i = absurd i.0

-- WHERE may come after the template and a gap
where_takes : (xs : Items) (lead g : List ℕ) → IsTemplate xs → IsGap g → IsTrue (takes (items lead [] xs) g (kind.Fixed mark.Where))
where_takes nothing lead g i k = absurd i
where_takes (variable b f j e) lead g i k = absurd i
where_takes (literal b f ps) lead g i k = absurd i
where_takes (element b f n inside h c e) lead g i k = has_gap g k

-- what stands before the conditions of a rule, of its template
abbrev rule_head : Rule → Head
rule_head r = record { lead = r.lead; template = r.template; gap = r.gap }

-- the spot where a rule with this head, these conditions and this order may end
abbrev pub end_spot : Head → Conds → Order → Spot
end_spot r cs unordered = cond_done r cs
end_spot r cs (ordered g h i v) = sorted r cs (ordered g h i v)
end_spot r cs (descending g h i v j) = sorted r cs (descending g h i v j)

-- the bytes of ORDER
abbrev order_bytes : List ℕ
order_bytes = codes "ORDER"

-- the bytes of BY
abbrev by_bytes : List ℕ
by_bytes = codes "BY"

-- the text of an order, grouped as ORDER, BY and the variable
ordered_parts : (g o h b i v : List ℕ) → (g ++ o) ++ ((h ++ b) ++ (i ++ v)) ≡ g ++ (o ++ (h ++ (b ++ (i ++ v))))
ordered_parts g o h b i v = simp append_assoc

-- the text of an order without DESC leads to the spot after it
ordered_reads : (r : Head) (cs : Conds) (g h i v : List ℕ) → IsOrder (ordered g h i v) → Reads (cond_done r cs) (ordered_text g h i v) (sorted r cs (ordered g h i v))
ordered_reads r cs g h i v is =
    as_text _ _ _ _ (ordered_parts g order_bytes h by_bytes i (36 ∷ v))
    (then (cond_done r cs) (ordering r cs g) (sorted r cs (ordered g h i v)) (g ++ order_bytes) ((h ++ by_bytes) ++ (i ++ 36 ∷ v)) (token (cond_done r cs) g (fixed mark.Order) (blanks_of g is.0) tt (has_gap g is.0))
    (then (ordering r cs g) (ordering_by r cs g h) (sorted r cs (ordered g h i v)) (h ++ by_bytes) (i ++ 36 ∷ v) (token (ordering r cs g) h (fixed mark.By) (blanks_of h is.1) tt (has_gap h is.1))
    (token (ordering_by r cs g h) i (var v) (blanks_of i is.2) is.3 (has_gap i is.2))))

-- the text of an order, or of none, leads to the spot where a rule may end
order_reads : (r : Head) (cs : Conds) (o : Order) → IsOrder o → Reads (cond_done r cs) (order_text o) (end_spot r cs o)
order_reads r cs unordered is = stays (cond_done r cs)
order_reads r cs (ordered g h i v) is = ordered_reads r cs g h i v is
order_reads r cs (descending g h i v j) is =
    then (cond_done r cs) (sorted r cs (ordered g h i v)) (sorted r cs (descending g h i v j)) (ordered_text g h i v) (j ++ codes "DESC") (ordered_reads r cs g h i v (is.0, is.1, is.2, is.3))
    (token (sorted r cs (ordered g h i v)) j (fixed mark.Desc) (blanks_of j is.4) tt (has_gap j is.4))

-- the rule that ends at the last spot has the parts that were read
end_rule : (r : Head) (cs : Conds) (o : Order) (g : List ℕ) → rule_at (end_spot r cs o) g ≡ Some (record { lead = r.lead; template = r.template; gap = r.gap; conds = cs; order = o; tail = g })
end_rule r cs unordered g = refl
end_rule r cs (ordered e h i v) g = refl
end_rule r cs (descending e h i v j) g = refl

-- a rule up to the blanks at its end
rule_reads : (r : Rule) → IsRule r → Reads beginning ((r.lead ++ construct_text) ++ (items_text r.template ++ ((r.gap ++ where_text) ++ (conds_text r.conds ++ order_text r.order)))) (end_spot (rule_head r) r.conds r.order)
rule_reads r i =
    let e : Spot = end_spot (rule_head r) r.conds r.order in
    then beginning (items r.lead [] nothing) e (r.lead ++ construct_text) _ (token beginning r.lead (fixed mark.Construct) i.lead tt refl)
    (then (items r.lead [] nothing) (items r.lead [] r.template) e (items_text r.template) _ (template_reads r.template r.lead i.template)
    (then (items r.lead [] r.template) (cond_start (rule_head r) first_cond) e (r.gap ++ where_text) (conds_text r.conds ++ order_text r.order)
    (token (items r.lead [] r.template) r.gap (fixed mark.Where) (blanks_of r.gap i.gap) tt (where_takes r.template r.lead r.gap i.template i.gap))
    (then (cond_start (rule_head r) first_cond) (cond_done (rule_head r) r.conds) e (conds_text r.conds) (order_text r.order) (conds_reads r.conds (rule_head r) i.conds) (order_reads (rule_head r) r.conds r.order i.order))))

-- a rule that may end at a spot is read whole after blanks at that spot
pub tail_whole : (s : Spot) (t : State) (g : List ℕ) → IsAt s t → IsBlanks g → option_and_then whole (run t g) ≡ rule_at s g
tail_whole s t [] a b = a.ends
tail_whole s t (c ∷ g) a b =
    let parts = and_parts (is_blank c) (list_all is_blank g) b in
    ap (option_and_then whole) (run_byte step c g t (at s (c ∷ []) between) (a.steps c (blank_follows s c parts.0) ∙ gap_step s [] c parts.0) ∙ gap_run s (c ∷ []) g parts.1)

-- the text of a rule, grouped from its first part to its last
rule_parts : (l c x g w cs o t : List ℕ) → ((l ++ c) ++ (x ++ ((g ++ w) ++ (cs ++ o)))) ++ t ≡ l ++ (c ++ (x ++ (g ++ (w ++ (cs ++ (o ++ t))))))
rule_parts l c x g w cs o t = simp append_assoc

-- what is written is read so
pub writes_read : (x : List ℕ) (r : Rule) → Writes x r → read_of x ≡ Some r
writes_read x r h =
    let b = rule_reads r h.0 start (at_start beginning) in
    let prefix : List ℕ = (r.lead ++ construct_text) ++ (items_text r.template ++ ((r.gap ++ where_text) ++ (conds_text r.conds ++ order_text r.order))) in
    ap read_of (sym h.1 ∙ sym (rule_parts r.lead construct_text (items_text r.template) r.gap where_text (conds_text r.conds) (order_text r.order) r.tail))
    ∙ ap (option_and_then whole) (run_then step prefix r.tail start b.state b.runs) ∙ tail_whole (end_spot (rule_head r) r.conds r.order) b.state r.tail b.is h.0.tail ∙ end_rule (rule_head r) r.conds r.order r.tail
