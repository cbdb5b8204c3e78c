-- Each token that may come is read.
use Rattle.std.proofs.Common.{not, ◌≡◌, ◌∙◌, ◌==◌, ℕ, Bool, true, false, cond, ◌&&◌, ◌||◌, IsTrue, List, [], ◌∷◌, Option, Some, None, refl, sym, ap, subst, arith}
use Rattle.std.proofs.lemmas.Bool.Decides.{nat_tests}
use Rattle.mix_base.proofs.Choices.{and_parts, none_some}
use Rattle.mix_tree.specs.Names.{is_name_byte}
use Rattle.xmas_text.specs.Grammar.{Key, Items, nothing, variable, literal, element, Keys, Conds, Order, ordered}
use Rattle.xmas_tokens.specs.Lexer.{Lex, naming, pathing, ready, comparing, map_path, lex_step, begin}
use Rattle.xmas_text.specs.Spots.{Frame, Head, Place, at_first, at_more, Before, Start, by_var, Spot, beginning, items, labelled, keys, key_comma, key_label, cond_start, cond_from, cond_path, cond_done, compared, ordering, ordering_by, sorted, has_blank, item_gap, is_nothing, is_none, takes, push_key}
use Rattle.xmas_tokens.specs.Tokens.{Token, fixed, open_tag, close_tag, word, var, quoted, path, comparison, kind_of, IsToken}
use Rattle.xmas_tokens.specs.declared.lexeme.Comparison.{Comparison}
use Rattle.xmas_tokens.specs.declared.token.Sign.{Sign}
use Rattle.xmas_tokens.specs.declared.lexeme.Comparison.TheVariants as op
use Rattle.xmas_tokens.specs.declared.token.Mark.TheVariants as mark
use Rattle.xmas_tokens.specs.declared.token.Sign.TheVariants as sign
use Rattle.path_expr.specs.Grammar as paths
use Rattle.path_expr.specs.Machine as pathing_
use Rattle.xmas_text.proofs.Tokens.{Reading}
use Rattle.xmas_tokens.proofs.Apart.{is_apart}
use Rattle.xmas_text.proofs.Readings.{no_gap, mark_reading, open_reading, close_reading, quoted_reading, var_reading, word_reading, path_reading}

-- the token may come at the spot after the gap
abbrev Taken : Spot → List ℕ → Token → Type 0
Taken s g t = IsTrue (takes s g (kind_of t))

-- a disjunction whose second part is true is true
or_true : (q : Bool) → (q || true) ≡ true
or_true true = refl
or_true false = refl

-- a disjunction whose first part is true is true
or_left : (q c : Bool) → IsTrue q → IsTrue (q || c)
or_left true c h = refl
or_left false c h = cc

-- an item that stands at once is the first
item_gap_nil : (xs : Items) (h : List ℕ) (c : Bool) → IsTrue (item_gap xs h) → h ≡ [] → IsTrue (is_nothing xs || c)
item_gap_nil nothing h c k e = refl
item_gap_nil (variable b f i j) h c k e = no_gap h c k e
item_gap_nil (literal b f ps) h c k e = no_gap h c k e
item_gap_nil (element b f n i j l m) h c k e = no_gap h c k e

-- a choice by a conjunction with false takes its second side
skip : (q : Bool) (x y : Option Lex) → cond (q && false) x y ≡ y
skip true x y = refl
skip false x y = refl

-- no name begins with $
var_not_name : (b : ℕ) → IsTrue (is_name_byte b) → (b == 36) ≡ false
var_not_name b h = grind (arith, nat_tests)

-- a name begins a condition
start_word : (r : Head) (c : Before) (h : List ℕ) (b : ℕ) → IsTrue (has_blank h) → IsTrue (is_name_byte b) → begin (takes (cond_start r c) h) b ≡ Some (naming (b ∷ []))
start_word r c h b k n =
    skip (b == 67) _ _ ∙ skip (b == 87) _ _ ∙ skip (b == 65) _ _ ∙ skip (b == 79) _ _ ∙ skip (b == 66) _ _ ∙ skip (b == 68) _ _ ∙ skip (b == 108) _ _ ∙ skip (b == 123) _ _ ∙ skip (b == 125) _ _ ∙ skip (b == 44) _ _ ∙ skip (b == 60) _ _
    ∙ rw (var_not_name b n) (skip (b == 34) _ _ ∙ skip (b == 61) _ _ ∙ skip (b == 33) _ _ ∙ skip (b == 60) _ _ ∙ skip (b == 62) _ _ ∙ rw (n, k) refl)

-- the first byte of a path is none with which no path begins
no_path : (b c : ℕ) (q : Bool) (u : pathing_.State) → (b == c) ≡ q → pathing_.step pathing_.first c ≡ None → pathing_.step pathing_.first b ≡ Some u → (b == c) ≡ false
no_path b c true u e n m = let same : c ≡ b = grind (arith, nat_tests) in none_some u (sym (subst (λ d. pathing_.step pathing_.first d ≡ None) same n) ∙ m)
no_path b c false u e n m = e

-- a path begins after the first word of a condition
from_path : (r : Head) (c : Before) (e : List ℕ) (a : Start) (h : List ℕ) (b : ℕ) (u : pathing_.State) → IsTrue (has_blank h) → pathing_.step pathing_.first b ≡ Some u → begin (takes (cond_from r c e a) h) b ≡ Some (pathing u)
from_path r c e a h b u k m =
    let n : (b == 61) ≡ false = no_path b 61 (b == 61) u refl refl m in
    let o : (b == 33) ≡ false = no_path b 33 (b == 33) u refl refl m in
    let p : (b == 60) ≡ false = no_path b 60 (b == 60) u refl refl m in
    let q : (b == 62) ≡ false = no_path b 62 (b == 62) u refl refl m in
    skip (b == 67) _ _ ∙ skip (b == 87) _ _ ∙ skip (b == 65) _ _ ∙ skip (b == 79) _ _ ∙ skip (b == 66) _ _ ∙ skip (b == 68) _ _ ∙ skip (b == 108) _ _ ∙ skip (b == 123) _ _ ∙ skip (b == 125) _ _ ∙ skip (b == 44) _ _ ∙ skip (b == 60) _ _
    ∙ skip (b == 36) _ _ ∙ skip (b == 34) _ _ ∙ rw (n, o, p, q) (skip (is_name_byte b) _ _ ∙ rw k (ap map_path m))

-- a byte other than = ends < and >
no_equal_quiet : (k : Sign) (b : ℕ) → IsTrue (is_apart b && not (b == 61)) → lex_step (comparing k) b ≡ None
no_equal_quiet k b h = by_cases (b == 61) _ (and_parts (is_apart b) (not (b == 61)) h).1
  where
    by_cases : (c : Bool) (x : Option Lex) → IsTrue (not c) → cond c x None ≡ None
    by_cases true x h = cc
    by_cases false x h = refl

-- an operator is read after a variable that begins a condition
comparison_reading : (r : Head) (c : Before) (e v h : List ℕ) (o : Comparison) → Reading (cond_from r c e (by_var v)) h (comparison o)
comparison_reading r c e v h op.Eq = record { first = 61; rest = []; text = refl; solid = refl; may = λ n. refl; lex = ready (comparison op.Eq); begins = refl; last = ready (comparison op.Eq); reads = refl; ends = refl; quiet = λ b f. refl }
comparison_reading r c e v h op.Ne = record { first = 33; rest = 61 ∷ []; text = refl; solid = refl; may = λ n. refl; lex = comparing sign.Bang; begins = refl; last = ready (comparison op.Ne); reads = refl; ends = refl; quiet = λ b f. refl }
comparison_reading r c e v h op.Lt = record { first = 60; rest = []; text = refl; solid = refl; may = λ n. refl; lex = comparing sign.Less; begins = refl; last = comparing sign.Less; reads = refl; ends = refl; quiet = λ b f. no_equal_quiet sign.Less b f }
comparison_reading r c e v h op.Le = record { first = 60; rest = 61 ∷ []; text = refl; solid = refl; may = λ n. refl; lex = comparing sign.Less; begins = refl; last = ready (comparison op.Le); reads = refl; ends = refl; quiet = λ b f. refl }
comparison_reading r c e v h op.Gt = record { first = 62; rest = []; text = refl; solid = refl; may = λ n. refl; lex = comparing sign.Greater; begins = refl; last = comparing sign.Greater; reads = refl; ends = refl; quiet = λ b f. no_equal_quiet sign.Greater b f }
comparison_reading r c e v h op.Ge = record { first = 62; rest = 61 ∷ []; text = refl; solid = refl; may = λ n. refl; lex = comparing sign.Greater; begins = refl; last = ready (comparison op.Ge); reads = refl; ends = refl; quiet = λ b f. refl }

-- keys to which one is added are not none
pub push_unfixed : (ks : Keys) (p : Place) (g : List ℕ) (k : Key) → is_none (push_key ks p g k) ≡ false
push_unfixed ks at_first g k = refl
push_unfixed ks (at_more h) g k = refl

-- before CONSTRUCT, each token that may come is read
beginning_reading : (h : List ℕ) (t : Token) → IsToken t → Taken beginning h t → Reading beginning h t
beginning_reading h (fixed mark.Construct) i k = mark_reading beginning h mark.Construct refl (λ e. refl)
beginning_reading h t i k = cc

-- outside all elements, each token that may come is read
outer_reading : (lead : List ℕ) (xs : Items) (h : List ℕ) (t : Token) → IsToken t → Taken (items lead [] xs) h t → Reading (items lead [] xs) h t
outer_reading lead xs h (open_tag l) i k = open_reading (items lead [] xs) h l false i (rw k refl) (no_gap h _ (and_parts (is_nothing xs) (has_blank h) k).1)
outer_reading lead xs h (fixed mark.OpenBrace) i k = mark_reading (items lead [] xs) h mark.OpenBrace (rw k refl) (λ e. or_true (is_nothing xs))
outer_reading lead xs h (fixed mark.Where) i k = mark_reading (items lead [] xs) h mark.Where (rw k refl) (no_gap h _ (and_parts (not (is_nothing xs)) (has_blank h) k).1)
outer_reading lead xs h t i k = cc

-- inside an element, each token that may come is read
inner_reading : (lead : List ℕ) (f : Frame) (o : List Frame) (xs : Items) (h : List ℕ) (t : Token) → IsToken t → Taken (items lead (f ∷ o) xs) h t → Reading (items lead (f ∷ o) xs) h t
inner_reading lead f o xs h (open_tag l) i k = open_reading (items lead (f ∷ o) xs) h l true i (rw k refl) (λ e. or_true (is_nothing xs))
inner_reading lead f o xs h (close_tag l) i k = close_reading (items lead (f ∷ o) xs) h l (item_gap xs h) i (rw (or_true (item_gap xs h)) refl) (λ e. or_true (is_nothing xs))
inner_reading lead f o xs h (var v) i k = var_reading (items lead (f ∷ o) xs) h v i refl (rw k refl) (item_gap_nil xs h _ k)
inner_reading lead f o xs h (quoted ps) i k = quoted_reading (items lead (f ∷ o) xs) h ps i (rw k refl) (item_gap_nil xs h _ k)
inner_reading lead f o xs h (fixed mark.LabelWord) i k = mark_reading (items lead (f ∷ o) xs) h mark.LabelWord (rw k refl) (item_gap_nil xs h _ k)
inner_reading lead f o xs h (fixed mark.OpenBrace) i k = mark_reading (items lead (f ∷ o) xs) h mark.OpenBrace (rw k refl) (λ e. or_true (is_nothing xs))
inner_reading lead f o xs h t i k = cc

-- after `label` as an item, each token that may come is read
labelled_reading : (lead : List ℕ) (o : List Frame) (xs : Items) (e h : List ℕ) (t : Token) → IsToken t → Taken (labelled lead o xs e) h t → Reading (labelled lead o xs e) h t
labelled_reading lead o xs e h (var v) i k = var_reading (labelled lead o xs e) h v i refl (rw k refl) (no_gap h _ k)
labelled_reading lead o xs e h t i k = cc

-- inside a group label, each token that may come is read
keys_reading : (lead : List ℕ) (o : List Frame) (xs : Items) (e : List ℕ) (ks : Keys) (h : List ℕ) (t : Token) → IsToken t → Taken (keys lead o xs e ks) h t → Reading (keys lead o xs e ks) h t
keys_reading lead o xs e ks h (var v) i k = var_reading (keys lead o xs e ks) h v i refl (rw k refl) (λ n. or_left (is_none ks) _ k)
keys_reading lead o xs e ks h (fixed mark.LabelWord) i k = mark_reading (keys lead o xs e ks) h mark.LabelWord (rw k refl) (λ n. or_left (is_none ks) _ k)
keys_reading lead o xs e ks h (fixed mark.Comma) i k = mark_reading (keys lead o xs e ks) h mark.Comma (rw k refl) (λ n. or_true (is_none ks))
keys_reading lead o xs e ks h (fixed mark.CloseBrace) i k = mark_reading (keys lead o xs e ks) h mark.CloseBrace refl (λ n. or_true (is_none ks))
keys_reading lead o xs e ks h t i k = cc

-- after a comma, each token that may come is read
comma_reading : (lead : List ℕ) (o : List Frame) (xs : Items) (e : List ℕ) (ks : Keys) (f h : List ℕ) (t : Token) → IsToken t → Taken (key_comma lead o xs e ks f) h t → Reading (key_comma lead o xs e ks f) h t
comma_reading lead o xs e ks f h (var v) i k = var_reading (key_comma lead o xs e ks f) h v i refl refl (λ n. refl)
comma_reading lead o xs e ks f h (fixed mark.LabelWord) i k = mark_reading (key_comma lead o xs e ks f) h mark.LabelWord refl (λ n. refl)
comma_reading lead o xs e ks f h t i k = cc

-- after `label` as a key, each token that may come is read
key_label_reading : (lead : List ℕ) (o : List Frame) (xs : Items) (e : List ℕ) (ks : Keys) (p : Place) (f h : List ℕ) (t : Token) → IsToken t → Taken (key_label lead o xs e ks p f) h t → Reading (key_label lead o xs e ks p f) h t
key_label_reading lead o xs e ks p f h (var v) i k = var_reading (key_label lead o xs e ks p f) h v i (push_unfixed ks p f _) (rw k refl) (no_gap h _ k)
key_label_reading lead o xs e ks p f h t i k = cc

-- where a condition begins, each token that may come is read
start_reading : (r : Head) (c : Before) (h : List ℕ) (t : Token) → IsToken t → Taken (cond_start r c) h t → Reading (cond_start r c) h t
start_reading r c h (word n) i k = word_reading (cond_start r c) h n i refl (λ b m. start_word r c h b k m) k
start_reading r c h (var v) i k = var_reading (cond_start r c) h v i refl (rw k refl) (no_gap h _ k)
start_reading r c h t i k = cc

-- after the first word of a condition, each token that may come is read
from_reading : (r : Head) (c : Before) (e : List ℕ) (a : Start) (h : List ℕ) (t : Token) → IsToken t → Taken (cond_from r c e a) h t → Reading (cond_from r c e a) h t
from_reading r c e a h (path p) i k = path_reading (cond_from r c e a) h p i refl (λ b u m. from_path r c e a h b u k m) k
from_reading r c e (by_var v) h (comparison o) i k = comparison_reading r c e v h o
from_reading r c e a h t i k = cc

-- after an operator, each token that may come is read
compared_reading : (r : Head) (c : Before) (e v f : List ℕ) (o : Comparison) (h : List ℕ) (t : Token) → IsToken t → Taken (compared r c e v f o) h t → Reading (compared r c e v f o) h t
compared_reading r c e v f o h (var u) i k = var_reading (compared r c e v f o) h u i refl refl (λ n. refl)
compared_reading r c e v f o h (quoted ps) i k = quoted_reading (compared r c e v f o) h ps i refl (λ n. refl)
compared_reading r c e v f o h t i k = cc

-- after a path, each token that may come is read
cond_path_reading : (r : Head) (c : Before) (e : List ℕ) (a : Start) (f : List ℕ) (p : paths.Spelled) (h : List ℕ) (t : Token) → IsToken t → Taken (cond_path r c e a f p) h t → Reading (cond_path r c e a f p) h t
cond_path_reading r c e a f p h (var v) i k = var_reading (cond_path r c e a f p) h v i refl (rw k refl) (no_gap h _ k)
cond_path_reading r c e a f p h t i k = cc

-- after a condition, each token that may come is read
done_reading : (r : Head) (cs : Conds) (h : List ℕ) (t : Token) → IsToken t → Taken (cond_done r cs) h t → Reading (cond_done r cs) h t
done_reading r cs h (fixed mark.And) i k = mark_reading (cond_done r cs) h mark.And (rw k refl) (no_gap h _ k)
done_reading r cs h (fixed mark.Order) i k = mark_reading (cond_done r cs) h mark.Order (rw k refl) (no_gap h _ k)
done_reading r cs h t i k = cc

-- after ORDER, each token that may come is read
ordering_reading : (r : Head) (cs : Conds) (e h : List ℕ) (t : Token) → IsToken t → Taken (ordering r cs e) h t → Reading (ordering r cs e) h t
ordering_reading r cs e h (fixed mark.By) i k = mark_reading (ordering r cs e) h mark.By (rw k refl) (no_gap h _ k)
ordering_reading r cs e h t i k = cc

-- after BY, each token that may come is read
by_reading : (r : Head) (cs : Conds) (e f h : List ℕ) (t : Token) → IsToken t → Taken (ordering_by r cs e f) h t → Reading (ordering_by r cs e f) h t
by_reading r cs e f h (var v) i k = var_reading (ordering_by r cs e f) h v i refl (rw k refl) (no_gap h _ k)
by_reading r cs e f h t i k = cc

-- after the variable that orders, each token that may come is read
sorted_reading : (r : Head) (cs : Conds) (o : Order) (h : List ℕ) (t : Token) → IsToken t → Taken (sorted r cs o) h t → Reading (sorted r cs o) h t
sorted_reading r cs (ordered e f j v) h (fixed mark.Desc) i k = mark_reading (sorted r cs (ordered e f j v)) h mark.Desc (rw k refl) (no_gap h _ k)
sorted_reading r cs o h t i k = cc

-- each token that may come is read
pub taken_reading : (s : Spot) (h : List ℕ) (t : Token) → IsToken t → IsTrue (takes s h (kind_of t)) → Reading s h t
taken_reading beginning h t i k = beginning_reading h t i k
taken_reading (items lead [] xs) h t i k = outer_reading lead xs h t i k
taken_reading (items lead (f ∷ o) xs) h t i k = inner_reading lead f o xs h t i k
taken_reading (labelled lead o xs e) h t i k = labelled_reading lead o xs e h t i k
taken_reading (keys lead o xs e ks) h t i k = keys_reading lead o xs e ks h t i k
taken_reading (key_comma lead o xs e ks f) h t i k = comma_reading lead o xs e ks f h t i k
taken_reading (key_label lead o xs e ks p f) h t i k = key_label_reading lead o xs e ks p f h t i k
taken_reading (cond_start r c) h t i k = start_reading r c h t i k
taken_reading (cond_from r c e a) h t i k = from_reading r c e a h t i k
taken_reading (cond_path r c e a f p) h t i k = cond_path_reading r c e a f p h t i k
taken_reading (cond_done r cs) h t i k = done_reading r cs h t i k
taken_reading (compared r c e v f o) h t i k = compared_reading r c e v f o h t i k
taken_reading (ordering r cs e) h t i k = ordering_reading r cs e h t i k
taken_reading (ordering_by r cs e f) h t i k = by_reading r cs e f h t i k
taken_reading (sorted r cs o) h t i k = sorted_reading r cs o h t i k
