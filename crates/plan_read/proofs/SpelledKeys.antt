-- What the words of keys, signs, comparisons and pieces are read as is what they spell.
use Rattle.std.proofs.Common.{◌≡◌, ◌<◌, ◌≤◌, ◌+◌, ◌-◌, ◌∙◌, ◌==◌, ◌&&◌, ℕ, suc, Bool, true, false, cond, List, [], ◌∷◌, ◌++◌, Option, Some, None, refl, sym, ap, subst, arith, length, take, drop, get_or, slice_index, slice_range, nat_le, option_map, codes}
use Rattle.std.proofs.lemmas.Bool.Decides.{nat_tests}
use Rattle.std.proofs.lemmas.List.{take_more, take_all, take-append-drop}
use Rattle.std.proofs.lemmas.Slice.Eq.{bytes_eq-Decides}
use Rattle.std.specs.List.{flat_map}
use Rattle.std.specs.Str.{bytes_eq}
use Rattle.mix_base.proofs.Choices.{some_is, none_some, and_parts, number_is}
use Rattle.mix_tree.specs.Signs.{op_sign}
use Rattle.mix_tree.specs.declared.var.Key.{Key}
use Rattle.mix_tree.specs.declared.var.Key.TheVariants.{Node as node_key, LabelOf as label_key}
use Rattle.mix_tree.specs.declared.comparing.TestOp.{TestOp}
use Rattle.mix_tree.specs.declared.comparing.TestOp.TheVariants.{Eq, Ne, Lt, Le, Gt, Ge, Same}
use Rattle.mix_words.specs.Words.{with_first}
use Rattle.plan_read.specs.Grammar.{SpellsKey, SpellEach, SpellsKeys}
use Rattle.plan_read.specs.Reading.{sign_read}
use Rattle.plan_read.specs.Variables.{var_read, has_label, key_read, braced, key_texts, all_read, keys_read}
use Rattle.plan_read.specs.Words.{mode_after, is_outside, cut, between}
use Rattle.plan_read.specs.declared.words.Mode.{Mode}
use Rattle.plan_read.specs.declared.words.Mode.TheVariants.{Plain}
use Rattle.plan_read.proofs.Spelled.{cond_some, then_some, var_spelled}

-- where a function is applied to an option and gives a value, the option has a value from which it comes
pub map_some : {A B : Type 0} (f : A → B) (o : Option A) (y : B) → option_map f o ≡ Some y → (x : A) × (o ≡ Some x) × (f x ≡ y)
map_some f None y e = none_some y e
map_some f (Some x) y e = (x, refl, some_is (f x) y e)

-- a word that the test finds equal to a fixed word is that word
pub word_is : (word fixed : List ℕ) → bytes_eq word fixed ≡ true → word ≡ fixed
word_is word fixed h = (bytes_eq-Decides word fixed).0 h

-- a word that is read as a comparison's sign is the sign of that comparison
pub sign_spelled : (word : List ℕ) (op : TestOp) → sign_read word ≡ Some op → word ≡ op_sign op
sign_spelled word op e = first Eq _ e (λ e. first Ne _ e (λ e. first Lt _ e (λ e. first Le _ e (λ e. first Gt _ e (λ e. first Ge _ e (λ e. first Same None e (λ e. none_some op e)))))))
  where
    first : (sign : TestOp) (rest : Option TestOp) → cond (bytes_eq word (op_sign sign)) (Some sign) rest ≡ Some op → (rest ≡ Some op → word ≡ op_sign op) → word ≡ op_sign op
    first sign rest e more = by_test (bytes_eq word (op_sign sign)) refl e
      where
        by_test : (b : Bool) → bytes_eq word (op_sign sign) ≡ b → cond b (Some sign) rest ≡ Some op → word ≡ op_sign op
        by_test true h k = word_is word (op_sign sign) h ∙ ap op_sign (some_is sign op k)
        by_test false h k = more k

-- a text that is read as a key spells that key
key_spelled : (names : List (List ℕ)) (k : Key) (x : List ℕ) → key_read names x ≡ Some k → SpellsKey names k x
key_spelled names k x e = by_label (has_label x) refl e
  where
    by_label : (b : Bool) → has_label x ≡ b → cond b (option_map label_key (var_read names (drop 6 x))) (option_map node_key (var_read names x)) ≡ Some k → SpellsKey names k x
    by_label true h f =
        let m = map_some label_key (var_read names (drop 6 x)) k f in
        let parts : x ≡ codes "label " ++ drop 6 x = sym (take-append-drop 6 x) ∙ ap (λ r. r ++ drop 6 x) (word_is (take 6 x) (codes "label ") h) in
        subst (λ q. SpellsKey names q x) m.2 (drop 6 x, parts, var_spelled names m.0 (drop 6 x) m.1)
    by_label false h f =
        let m = map_some node_key (var_read names x) k f in
        subst (λ q. SpellsKey names q x) m.2 (var_spelled names m.0 x m.1)

-- texts that are read as keys spell those keys one by one
each_spelled : (names : List (List ℕ)) (xs : List (List ℕ)) (ks : List Key) → all_read (key_read names) xs ≡ Some ks → SpellEach names ks xs
each_spelled names [] ks e = subst (λ qs. SpellEach names qs []) (some_is [] ks e) tt
each_spelled names (x ∷ xs) ks e =
    let h = then_some (λ a. option_map (λ rest. a ∷ rest) (all_read (key_read names) xs)) (key_read names x) ks e in
    let m = map_some (λ rest. h.0 ∷ rest) (all_read (key_read names) xs) ks h.2 in
    subst (λ qs. SpellEach names qs (x ∷ xs)) m.2 (key_spelled names h.0 x h.1, each_spelled names xs m.0 m.1)

-- a list of pieces has a first one
record HasFirst (xs : List (List ℕ)) : Type 0 where
  pub first : List ℕ
  pub rest : List (List ℕ)
  pub parts : xs ≡ first ∷ rest

-- what a text is cut into has a first piece
first_piece : (separator : ℕ) (m : Mode) (x : List ℕ) → HasFirst (cut separator m x)
first_piece separator m [] = record { first = []; rest = []; parts = refl }
first_piece separator m (b ∷ bs) = by_case (is_outside m && b == separator)
  where
    with_byte : (ps : List (List ℕ)) → HasFirst (with_first b ps)
    with_byte [] = record { first = b ∷ []; rest = []; parts = refl }
    with_byte (p ∷ ps) = record { first = b ∷ p; rest = ps; parts = refl }

    by_case : (c : Bool) → HasFirst (cond c ([] ∷ cut separator Plain bs) (with_first b (cut separator (mode_after m b) bs)))
    by_case true = record { first = []; rest = cut separator Plain bs; parts = refl }
    by_case false = with_byte (cut separator (mode_after m b) bs)

-- pieces each after a separator are a separator and the pieces with separators between them
after_separator : (separator : ℕ) (ps : List (List ℕ)) → HasFirst ps → flat_map (λ y. separator ∷ y) ps ≡ separator ∷ between separator ps
after_separator separator ps h = ap (flat_map (λ y. separator ∷ y)) h.parts ∙ ap (λ qs. separator ∷ between separator qs) (sym h.parts)

-- a byte before the first of pieces stands before the text of the pieces with separators between them
byte_before : (separator b : ℕ) (ps : List (List ℕ)) → between separator (with_first b ps) ≡ b ∷ between separator ps
byte_before separator b [] = refl
byte_before separator b (p ∷ ps) = refl

-- pieces with their separators between them are the text
pub between_cut : (separator : ℕ) (m : Mode) (x : List ℕ) → between separator (cut separator m x) ≡ x
between_cut separator m [] = refl
between_cut separator m (b ∷ bs) = by_case (is_outside m && b == separator) refl (between_cut separator Plain bs) (between_cut separator (mode_after m b) bs)
  where
    by_case : (c : Bool) → (is_outside m && b == separator) ≡ c → between separator (cut separator Plain bs) ≡ bs → between separator (cut separator (mode_after m b) bs) ≡ bs
        → between separator (cond c ([] ∷ cut separator Plain bs) (with_first b (cut separator (mode_after m b) bs))) ≡ b ∷ bs
    by_case true e p q =
        after_separator separator (cut separator Plain bs) (first_piece separator Plain bs) ∙ ap (λ r. separator ∷ r) p
        ∙ ap (λ c. c ∷ bs) (number_is b separator (and_parts (is_outside m) (b == separator) e).1)
    by_case false e p q = byte_before separator b (cut separator (mode_after m b) bs) ∙ ap (λ r. b ∷ r) q

-- the texts of keys with commas between them
texts_between : (body : List ℕ) → between 44 (key_texts body) ≡ body
texts_between [] = refl
texts_between (b ∷ x) = between_cut 44 Plain (b ∷ x)

-- a text that isn't empty is its bytes up to the last one, and that byte
last_byte : (x : List ℕ) → 0 < length x → x ≡ take (length x - 1) x ++ get_or x (length x - 1) 0 ∷ []
last_byte x h =
    let inside : length x - 1 < length x = omega arith in
    let whole : length x - 1 + 1 ≡ length x = omega arith in
    sym (take_all (length x - 1 + 1) x (omega arith)) ∙ take_more x (length x - 1) 0 inside

-- a word in which a text is read between braces is that text between braces
braced_spelled : (word body : List ℕ) → braced word ≡ Some body → word ≡ 123 ∷ body ++ 125 ∷ []
braced_spelled word body e =
    let h = cond_some (nat_le 2 (length word) && slice_index word 0 == 123 && slice_index word (length word - 1) == 125) (Some (slice_range word 1 (length word - 1))) body e in
    let both = and_parts (nat_le 2 (length word) && slice_index word 0 == 123) (slice_index word (length word - 1) == 125) h.0 in
    let two = and_parts (nat_le 2 (length word)) (slice_index word 0 == 123) both.0 in
    let long : 2 ≤ length word = grind (arith, nat_tests, two.0) in
    by_word word long (number_is (slice_index word 0) 123 two.1) (number_is (slice_index word (length word - 1)) 125 both.1) (some_is (slice_range word 1 (length word - 1)) body h.1)
  where
    by_word : (w : List ℕ) → 2 ≤ length w → 123 ≡ slice_index w 0 → 125 ≡ slice_index w (length w - 1) → slice_range w 1 (length w - 1) ≡ body → w ≡ 123 ∷ body ++ 125 ∷ []
    by_word [] l f g k = absurd (omega arith)
    by_word (b ∷ x) l f g k =
        let n : length (b ∷ x) - 1 ≡ suc (length x - 1) = omega arith in
        let last : get_or x (length x - 1) 0 ≡ 125 = sym (g ∙ ap (λ i. get_or (b ∷ x) i 0) n) in
        let m : length x - 1 ≡ length (b ∷ x) - 1 - 1 = omega arith in
        let inner : take (length x - 1) x ≡ body = ap (λ i. take i x) m ∙ k in
        ap (λ c. c ∷ x) (sym f)
        ∙ ap (λ r. 123 ∷ r) (last_byte x (omega arith) ∙ ap (λ r. r ++ get_or x (length x - 1) 0 ∷ []) inner ∙ ap (λ c. body ++ c ∷ []) last)

-- a word that is read as keys spells those keys between braces
pub keys_spelled : (names : List (List ℕ)) (word : List ℕ) (ks : List Key) → keys_read names word ≡ Some ks → SpellsKeys names ks word
keys_spelled names word ks e =
    let h = then_some (λ body. all_read (key_read names) (key_texts body)) (braced word) ks e in
    (key_texts h.0, each_spelled names (key_texts h.0) ks h.2, braced_spelled word h.0 h.1 ∙ ap (λ r. 123 ∷ r ++ 125 ∷ []) (sym (texts_between h.0)))
