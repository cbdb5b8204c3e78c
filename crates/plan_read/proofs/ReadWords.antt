-- What words spell is what they are read as.
use Rattle.std.proofs.Common.{◌≡◌, ◌+◌, ◌-◌, ◌∙◌, ◌==◌, ◌&&◌, ◌||◌, ℕ, suc, Bool, true, false, cond, not, IsTrue, List, [], ◌∷◌, ◌++◌, Some, None, inl, inr, refl, sym, ap, subst, arith, length, take, slice_index, slice_range, nat_le, nat_lt, min, position, option_and_then, option_map, length-append}
use Rattle.std.proofs.lemmas.Bool.Decides.{nat_tests}
use Rattle.std.proofs.lemmas.List.{get_or_at}
use Rattle.std.specs.List.{list_all}
use Rattle.std.specs.Str.{IsUtf8, bytes_eq}
use Rattle.std.specs.Str.Parse.{digits_value}
use Rattle.mix_base.proofs.Choices.{some_is, and_parts, and_both, number_is}
use Rattle.mix_base.proofs.Lists.{append_nil, take_whole}
use Rattle.mix_tree.specs.LabelGrammar.{SpellsQuoted}
use Rattle.mix_tree.specs.LabelMachine.{Spot, start, step, run, label_in, seen_from, seen_at_end}
use Rattle.mix_tree.specs.LabelOrder.{is_digit}
use Rattle.mix_tree.specs.Names.{IsName, is_name_byte}
use Rattle.mix_tree.specs.Signs.{op_sign}
use Rattle.mix_tree.specs.declared.var.Key.{Key}
use Rattle.mix_tree.specs.declared.var.Key.TheVariants.{Node as node_key, LabelOf as label_key}
use Rattle.mix_tree.specs.declared.comparing.TestOp.{TestOp}
use Rattle.mix_tree.specs.declared.comparing.TestOp.TheVariants.{Eq, Ne, Lt, Le, Gt, Ge, Same}
use Rattle.mix_tree.proofs.LabelComplete.{spelled_reads}
use Rattle.mix_tree.proofs.LabelTaken.{seen_byte}
use Rattle.mix_words.specs.Words.{is_name, is_letter, is_script_byte, with_first}
use Rattle.mix_catalog.specs.Forms.{is_source_name}
use Rattle.plan_read.specs.Grammar.{IsVarText, SpellsVar, SpellsKey, SpellEach, SpellsKeys}
use Rattle.plan_read.specs.Numbers.{is_decimal, op_number, var_number}
use Rattle.plan_read.specs.Reading.{begins, whole_label, quoted_read, sign_read}
use Rattle.plan_read.specs.Variables.{var_named, var_read, key_read, braced, key_texts, all_read, keys_read}
use Rattle.plan_read.specs.Words.{cut, between}
use Rattle.plan_read.specs.declared.words.Mode.TheVariants.{Plain, Quoted, Braced}
use Rattle.plan_read.proofs.Digits.{digit_bounds}
use Rattle.plan_read.proofs.Spelled.{then_some}
use Rattle.plan_read.proofs.WordReads.{quoted_text}

-- a number of an operator
pub number_reads : (word : List ℕ) (n : ℕ) → IsTrue (is_decimal word) → min (digits_value 10 word) 4294967295 ≡ n → op_number word ≡ Some n
number_reads word n h e = ap (λ b. cond b (Some (min (digits_value 10 word) 4294967295)) None) h ∙ ap Some e

-- a digit is no letter
digit_no_letter : (b : ℕ) → is_digit b ≡ true → is_letter b ≡ false
digit_no_letter b h =
    let bounds = digit_bounds b h in
    let low : nat_le 97 b ≡ false = grind (arith, nat_tests, bounds.1) in
    let high : nat_le 65 b ≡ false = grind (arith, nat_tests, bounds.1) in
    ap (λ c. (c && nat_le b 122) || (nat_le 65 b && nat_le b 90)) low ∙ ap (λ c. c && nat_le b 90) high

-- the bytes of a number are digits
pub all_digits : (x : List ℕ) → IsTrue (is_decimal x) → IsTrue (list_all is_digit x)
all_digits [] h = refl
all_digits (b ∷ []) h = and_both (is_digit b) true h refl
all_digits (b ∷ c ∷ bs) h = (and_parts (not (b == 48)) (list_all is_digit (b ∷ c ∷ bs)) h).1

-- a number is no name
pub no_name : (x : List ℕ) → IsTrue (is_decimal x) → is_name x ≡ false
no_name [] h = refl
no_name (b ∷ x) h =
    let digit = (and_parts (is_digit b) (list_all is_digit x) (all_digits (b ∷ x) h)).0 in
    ap (λ c. c && list_all is_script_byte x) (digit_no_letter b digit)

-- a text that is a variable's after its $ is read as that variable
text_reads : (names : List (List ℕ)) (v : ℕ) (x : List ℕ) → IsVarText names v x → var_named names x ≡ Some v
text_reads names v x (inl (n, h)) = ap (λ b. cond b (position (bytes_eq x) names) (var_number x)) n ∙ h
text_reads names v x (inr (d, e, l)) =
    let less : nat_lt (digits_value 10 x) 4294967296 ≡ true = subst (λ m. nat_lt m 4294967296 ≡ true) (sym e) (grind (arith, nat_tests, l)) in
    ap (λ b. cond b (position (bytes_eq x) names) (var_number x)) (no_name x d)
    ∙ ap (λ b. cond b (Some (digits_value 10 x)) None) (and_both (is_decimal x) (nat_lt (digits_value 10 x) 4294967296) d less) ∙ ap Some e

-- a word that spells a variable is read as that variable
pub var_reads : (names : List (List ℕ)) (v : ℕ) (word : List ℕ) → SpellsVar names v word → var_read names word ≡ Some v
var_reads names v word (x, e, t) = ap (var_read names) e ∙ text_reads names v x t

-- a word that is a name is taken for a source's name
pub name_reads : (word : List ℕ) → IsName word → is_source_name word ≡ true
name_reads word h = let some : nat_le 1 (length word) ≡ true = grind (arith, nat_tests, h.1) in and_both (nat_le 1 (length word)) (list_all is_name_byte word) some h.0

-- the sign of a comparison's operator is read as that operator
pub sign_reads : (op : TestOp) → sign_read (op_sign op) ≡ Some op
sign_reads Eq = refl
sign_reads Ne = refl
sign_reads Lt = refl
sign_reads Le = refl
sign_reads Gt = refl
sign_reads Ge = refl
sign_reads Same = refl

-- a text over which a run comes to a label's end is seen as that label, whole
seen_whole : (x : List ℕ) (s t : Spot) (i : ℕ) (l : List ℕ) → run s x ≡ Some t → label_in t ≡ Some l → whole_label (seen_from s i x) ≡ Some l
seen_whole [] s t i l r e = ap (λ o. whole_label (seen_at_end i o)) (ap label_in (some_is s t r) ∙ e)
seen_whole (b ∷ x) s t i l r e =
    let h = then_some (λ u. run u x) (step s b) t r in
    ap whole_label (seen_byte s h.0 i b x h.1) ∙ seen_whole x h.0 t (i + 1) l h.2 e

-- a quoted label begins with a quote
quote_first : (word l : List ℕ) → SpellsQuoted word l → begins 34 word ≡ true
quote_first word l (ps, are, e, m) = ap (begins 34) e

-- a UTF-8 word that spells a quoted label is read as that label
pub quoted_reads : (word l : List ℕ) → IsUtf8 word → SpellsQuoted word l → quoted_read word ≡ Some l
quoted_reads word l u h =
    let r = spelled_reads word l (inr h) in
    quoted_text word u (quote_first word l h) ∙ seen_whole word start r.0 0 l r.1 r.2

-- a byte that parts nothing and opens nothing
abbrev quiet : ℕ → Bool
quiet b = not (b == 34) && not (b == 123) && not (b == 44)

-- what holds of each member by one test holds by a weaker one
pub all_weaker : (p q : ℕ → Bool) → ((b : ℕ) → p b ≡ true → q b ≡ true) → (x : List ℕ) → IsTrue (list_all p x) → IsTrue (list_all q x)
all_weaker p q f [] h = refl
all_weaker p q f (b ∷ x) h = let parts = and_parts (p b) (list_all p x) h in and_both (q b) (list_all q x) (f b parts.0) (all_weaker p q f x parts.1)

-- a byte for which a test holds is another one than a byte for which it fails
pub other_byte : (p : ℕ → Bool) (b c : ℕ) → p c ≡ false → p b ≡ true → (b == c) ≡ false
other_byte p b c f h = by_test (b == c) refl
  where
    by_test : (e : Bool) → (b == c) ≡ e → e ≡ false
    by_test false e = refl
    by_test true e = sym h ∙ ap p (sym (number_is b c e)) ∙ f

-- a byte for which a test holds that fails for a quote, a brace and a comma is quiet
quiet_by : (p : ℕ → Bool) → p 34 ≡ false → p 123 ≡ false → p 44 ≡ false → (b : ℕ) → p b ≡ true → quiet b ≡ true
quiet_by p f g k b h =
    and_both (not (b == 34) && not (b == 123)) (not (b == 44))
    (and_both (not (b == 34)) (not (b == 123)) (ap not (other_byte p b 34 f h)) (ap not (other_byte p b 123 g h))) (ap not (other_byte p b 44 k h))

-- a variable's text parts nothing
quiet_text : (names : List (List ℕ)) (v : ℕ) (x : List ℕ) → IsVarText names v x → IsTrue (list_all quiet x)
quiet_text names v [] t = refl
quiet_text names v (b ∷ x) (inl (n, h)) =
    let parts = and_parts (is_letter b) (list_all is_script_byte x) n in
    and_both (quiet b) (list_all quiet x) (quiet_by is_letter refl refl refl b parts.0) (all_weaker is_script_byte quiet (quiet_by is_script_byte refl refl refl) x parts.1)
quiet_text names v (b ∷ x) (inr (d, e, l)) = all_weaker is_digit quiet (quiet_by is_digit refl refl refl) (b ∷ x) (all_digits (b ∷ x) d)

-- the bytes of a variable part nothing and open nothing
quiet_var : (names : List (List ℕ)) (v : ℕ) (word : List ℕ) → SpellsVar names v word → IsTrue (list_all quiet word)
quiet_var names v word (x, e, t) = subst (λ w. IsTrue (list_all quiet w)) (sym e) (quiet_text names v x t)

-- the bytes of a key part nothing and open nothing
quiet_key : (names : List (List ℕ)) (k : Key) (x : List ℕ) → SpellsKey names k x → IsTrue (list_all quiet x)
quiet_key names (node_key v) x h = quiet_var names v x h
quiet_key names (label_key v) x (y, e, h) = subst (λ w. IsTrue (list_all quiet w)) (sym e) (quiet_var names v y h)

-- a text isn't empty
abbrev IsSome : List ℕ → Type 0
IsSome [] = ⊥
IsSome (b ∷ x) = Unit {0}

-- a text that spells a key isn't empty
some_key : (names : List (List ℕ)) (k : Key) (x : List ℕ) → SpellsKey names k x → IsSome x
some_key names (node_key v) x (y, e, t) = subst IsSome (sym e) tt
some_key names (label_key v) x (y, e, h) = subst IsSome (sym e) tt

-- a text that spells a key is read as that key
key_reads : (names : List (List ℕ)) (k : Key) (x : List ℕ) → SpellsKey names k x → key_read names x ≡ Some k
key_reads names (node_key v) x (y, e, t) = ap (key_read names) e ∙ by_first y ∙ ap (option_map node_key) (ap (var_read names) (sym e) ∙ var_reads names v x (y, e, t))
  where
    by_first : (z : List ℕ) → key_read names (36 ∷ z) ≡ option_map node_key (var_read names (36 ∷ z))
    by_first z = refl
key_reads names (label_key v) x (y, e, h) = ap (key_read names) e ∙ ap (option_map label_key) (var_reads names v y h)

-- texts that spell keys one by one are read as those keys
each_reads : (names : List (List ℕ)) (ks : List Key) (xs : List (List ℕ)) → SpellEach names ks xs → all_read (key_read names) xs ≡ Some ks
each_reads names [] [] h = refl
each_reads names [] (x ∷ xs) h = absurd h
each_reads names (k ∷ ks) [] h = absurd h
each_reads names (k ∷ ks) (x ∷ xs) h =
    ap (option_and_then (λ a. option_map (λ rest. a ∷ rest) (all_read (key_read names) xs))) (key_reads names k x h.0)
    ∙ ap (option_map (λ rest. k ∷ rest)) (each_reads names ks xs h.1)

-- a quiet byte before a text is put before the first of the texts that commas cut it into
quiet_step : (b : ℕ) (x : List ℕ) → IsTrue (quiet b) → cut 44 Plain (b ∷ x) ≡ with_first b (cut 44 Plain x)
quiet_step b x h = by_tests (b == 34) (b == 123) (b == 44) h
  where
    by_tests : (c d e : Bool) → IsTrue (not c && not d && not e)
        → cond (true && e) ([] ∷ cut 44 Plain x) (with_first b (cut 44 (cond c Quoted (cond d Braced Plain)) x)) ≡ with_first b (cut 44 Plain x)
    by_tests false false false h = refl
    by_tests true d e h = cc
    by_tests false true e h = cc
    by_tests false false true h = cc

-- a quiet text before a comma is the first of the texts that commas cut, before those after the comma
cut_quiet : (t rest : List ℕ) → IsTrue (list_all quiet t) → cut 44 Plain (t ++ 44 ∷ rest) ≡ t ∷ cut 44 Plain rest
cut_quiet [] rest h = refl
cut_quiet (b ∷ t) rest h =
    let parts = and_parts (quiet b) (list_all quiet t) h in
    quiet_step b (t ++ 44 ∷ rest) parts.0 ∙ ap (with_first b) (cut_quiet t rest parts.1)

-- a quiet text at the end is one text
cut_end : (t : List ℕ) → IsTrue (list_all quiet t) → cut 44 Plain t ≡ t ∷ []
cut_end [] h = refl
cut_end (b ∷ t) h = let parts = and_parts (quiet b) (list_all quiet t) h in quiet_step b t parts.0 ∙ ap (with_first b) (cut_end t parts.1)

-- the texts of keys are cut as they were put together
cut_between : (names : List (List ℕ)) (k : Key) (ks : List Key) (t : List ℕ) (ts : List (List ℕ)) → SpellEach names (k ∷ ks) (t ∷ ts) → cut 44 Plain (between 44 (t ∷ ts)) ≡ t ∷ ts
cut_between names k ks t [] h = ap (cut 44 Plain) (append_nil t) ∙ cut_end t (quiet_key names k t h.0)
cut_between names k [] t (u ∷ us) h = absurd h.1
cut_between names k (j ∷ ks) t (u ∷ us) h =
    cut_quiet t (between 44 (u ∷ us)) (quiet_key names k t h.0) ∙ ap (λ r. t ∷ r) (cut_between names j ks u us h.1)

-- texts that spell keys, put together with commas between them, are cut as they were
pub texts_cut : (names : List (List ℕ)) (ks : List Key) (ts : List (List ℕ)) → SpellEach names ks ts → key_texts (between 44 ts) ≡ ts
texts_cut names ks [] h = refl
texts_cut names [] (t ∷ ts) h = absurd h
texts_cut names (k ∷ ks) ([] ∷ ts) h = absurd (some_key names k [] h.0)
texts_cut names (k ∷ ks) ((b ∷ t) ∷ ts) h = cut_between names k ks (b ∷ t) ts h

-- a text between braces is what is read between them
pub braced_reads : (x : List ℕ) → braced (123 ∷ x ++ 125 ∷ []) ≡ Some x
braced_reads x =
    let w : List ℕ = 123 ∷ (x ++ 125 ∷ []) in
    let len : length w ≡ length x + 2 = omega (arith, length-append x (125 ∷ [])) in
    let long : nat_le 2 (length w) ≡ true = grind (arith, nat_tests, len) in
    let at : length w - 1 ≡ suc (length x) = omega (arith, len) in
    let last : slice_index w (length w - 1) ≡ 125 = ap (λ i. slice_index w i) at ∙ get_or_at x 125 [] 0 (length x) refl in
    let same : (slice_index w (length w - 1) == 125) ≡ true = ap (λ b. b == 125) last in
    let n : length w - 1 - 1 ≡ length x = omega (arith, len) in
    let inner : slice_range w 1 (length w - 1) ≡ x = ap (λ i. take i (x ++ 125 ∷ [])) n ∙ take_whole x (125 ∷ []) (length x) refl in
    ap (λ b. cond (b && slice_index w 0 == 123 && slice_index w (length w - 1) == 125) (Some (slice_range w 1 (length w - 1))) None) long
    ∙ ap (λ b. cond b (Some (slice_range w 1 (length w - 1))) None) same ∙ ap Some inner

-- a word that spells keys between braces is read as those keys
pub keys_reads : (names : List (List ℕ)) (ks : List Key) (word : List ℕ) → SpellsKeys names ks word → keys_read names word ≡ Some ks
keys_reads names ks word (ts, each, e) =
    ap (keys_read names) e ∙ ap (option_and_then (λ body. all_read (key_read names) (key_texts body))) (braced_reads (between 44 ts))
    ∙ ap (all_read (key_read names)) (texts_cut names ks ts each) ∙ each_reads names ks ts each
