-- What single words are read as is what they spell.
use Rattle.std.proofs.Common.{◌≡◌, ◌<◌, ◌≤◌, ◌∙◌, ◌==◌, ◌&&◌, ℕ, Bool, true, false, cond, IsTrue, List, [], ◌∷◌, Option, Some, None, inl, inr, refl, sym, ap, subst, arith, length, nat_le, nat_lt, min, position, option_and_then}
use Rattle.std.proofs.lemmas.Bool.Decides.{nat_tests}
use Rattle.std.proofs.lemmas.Str.{IsUtf8-from_is_utf8}
use Rattle.std.specs.List.{list_all}
use Rattle.std.specs.Str.{IsUtf8, is_utf8, bytes_eq}
use Rattle.std.specs.Str.Parse.{digits_value}
use Rattle.mix_base.proofs.Choices.{some_is, none_some, and_parts, number_is}
use Rattle.mix_base.proofs.Lists.{append_nil}
use Rattle.mix_tree.specs.LabelGrammar.{SpellsQuoted, SpellsLabel}
use Rattle.mix_tree.specs.LabelMachine.{Seen, got, unexpected, ends, start, seen_from}
use Rattle.mix_tree.specs.Names.{IsName, is_name_byte}
use Rattle.mix_tree.specs.Spelling.{is_bare, is_bare_label}
use Rattle.mix_tree.proofs.LabelAnswers.{run_writes_some}
use Rattle.mix_tree.proofs.LabelSeen.{Saw, saw}
use Rattle.mix_tree.proofs.LabelSound.{label_spelled}
use Rattle.mix_words.specs.Words.{is_name}
use Rattle.mix_catalog.specs.Forms.{is_source_name}
use Rattle.path_expr.specs.Form.{Form, positions_in}
use Rattle.path_expr.specs.Grammar.{Spelled, Writes}
use Rattle.path_expr.specs.Values.{value_of}
use Rattle.path_expr.specs.Depth.{nesting}
use Rattle.path_expr.specs.Machine.{read_of}
use Rattle.path_expr.proofs.Sound.{read_writes}
use Rattle.plan_read.specs.Grammar.{IsVarText, SpellsVar, SpellsPath}
use Rattle.plan_read.specs.Numbers.{is_decimal, op_number, var_number}
use Rattle.plan_read.specs.Reading.{begins, whole_label, quoted_read, long_path, within_positions, path_form, path_read}
use Rattle.plan_read.specs.Variables.{dollared, var_named, var_read}

-- where a choice whose other side is None gives something, the test holds, and the first side gives it
pub cond_some : {A : Type 0} (b : Bool) (x : Option A) (y : A) → cond b x None ≡ Some y → (b ≡ true) × (x ≡ Some y)
cond_some true x y e = (refl, e)
cond_some false x y e = none_some y e

-- where a step on an optional value gives something, there is a value, and the step gives it from that
pub then_some : {A B : Type 0} (f : A → Option B) (o : Option A) (y : B) → option_and_then f o ≡ Some y → (x : A) × (o ≡ Some x) × (f x ≡ Some y)
then_some f None y e = none_some y e
then_some f (Some x) y e = (x, refl, e)

-- a word that is read as an operator's number is one, and stands for at most the greatest of 32 bits
pub number_spelled : (word : List ℕ) (n : ℕ) → op_number word ≡ Some n → IsTrue (is_decimal word) × (min (digits_value 10 word) 4294967295 ≡ n)
number_spelled word n e =
    let h = cond_some (is_decimal word) (Some (min (digits_value 10 word) 4294967295)) n e in
    (h.0, some_is (min (digits_value 10 word) 4294967295) n h.1)

-- a text that is read as a variable after its $ is that variable's
text_spelled : (names : List (List ℕ)) (v : ℕ) (x : List ℕ) → var_named names x ≡ Some v → IsVarText names v x
text_spelled names v x e = by_name (is_name x) refl e
  where
    numbered : var_number x ≡ Some v → IsVarText names v x
    numbered h =
        let k = cond_some (is_decimal x && nat_lt (digits_value 10 x) 4294967296) (Some (digits_value 10 x)) v h in
        let both = and_parts (is_decimal x) (nat_lt (digits_value 10 x) 4294967296) k.0 in
        let same : digits_value 10 x ≡ v = some_is (digits_value 10 x) v k.1 in
        let less : digits_value 10 x < 4294967296 = grind (arith, nat_tests, both.1) in
        inr (both.0, same, subst (λ m. m < 4294967296) same less)

    by_name : (b : Bool) → is_name x ≡ b → cond b (position (bytes_eq x) names) (var_number x) ≡ Some v → IsVarText names v x
    by_name true n h = inl (n, h)
    by_name false n h = numbered h

-- a word after whose $ a text stands is $ and that text
dollar_spelled : (word x : List ℕ) → dollared word ≡ Some x → word ≡ 36 ∷ x
dollar_spelled [] x e = none_some x e
dollar_spelled (b ∷ y) x e =
    let h = cond_some (b == 36) (Some y) x e in
    ap (λ c. c ∷ y) (sym (number_is b 36 h.0)) ∙ ap (λ r. 36 ∷ r) (some_is y x h.1)

-- a word that is read as a variable spells that variable
pub var_spelled : (names : List (List ℕ)) (v : ℕ) (word : List ℕ) → var_read names word ≡ Some v → SpellsVar names v word
var_spelled names v word e =
    let h = then_some (var_named names) (dollared word) v e in
    (h.0, dollar_spelled word h.0 h.1, text_spelled names v h.0 h.2)

-- a word that is taken for a source's name is a name
pub name_spelled : (word : List ℕ) → is_source_name word ≡ true → IsName word
name_spelled word h =
    let parts = and_parts (nat_le 1 (length word)) (list_all is_name_byte word) h in
    let some : 0 < length word = grind (arith, nat_tests, parts.0) in
    (parts.1, some)

-- a word that is read as a path is UTF-8 and spells that path
pub path_spelled : (word : List ℕ) (p : Form) → path_read word ≡ Some p → IsUtf8 word × SpellsPath word p
path_spelled word p e =
    let h = cond_some (is_utf8 word) (option_and_then path_form (read_of word)) p e in
    let r = then_some path_form (read_of word) p h.1 in
    let n = cond_some (nat_le (nesting r.0) 100) (Some (within_positions (value_of r.0))) p r.2 in
    let few : nesting r.0 ≤ 100 = grind (arith, nat_tests, n.0) in
    (IsUtf8-from_is_utf8 word h.0, by_positions r.0 (read_writes word r.0 r.1) few (nat_le (positions_in (value_of r.0)) 120) refl (some_is (within_positions (value_of r.0)) p n.1))
  where
    by_positions : (s : Spelled) → Writes word s → nesting s ≤ 100 → (b : Bool) → nat_le (positions_in (value_of s)) 120 ≡ b → cond b (value_of s) long_path ≡ p → SpellsPath word p
    by_positions s w few true t e =
        let less : positions_in (value_of s) ≤ 120 = grind (arith, nat_tests, t) in
        inl (record { spelled = s; writes = w; value = e; nesting = few; positions = subst (λ v. positions_in v ≤ 120) e less })
    by_positions s w few false t e =
        let more : 120 < positions_in (value_of s) = grind (arith, nat_tests, t) in
        inr (positions_in (value_of s), (s, w, few, refl, more), sym e)

-- a word that is seen as a label, whole, spells that label
whole_seen : (word l : List ℕ) (z : Seen) → Saw start 0 word z → whole_label z ≡ Some l → SpellsLabel word l
whole_seen word l (got k end []) s e =
    let same : word ≡ s.spelled = s.parts ∙ append_nil s.spelled in
    subst (λ x. SpellsLabel x l) (sym same) (label_spelled s.spelled s.spot l (run_writes_some s.spelled s.spot s.runs) (s.label ∙ e))
whole_seen word l (got k end (b ∷ rest)) s e = none_some l e
whole_seen word l (unexpected at) s e = none_some l e
whole_seen word l ends s e = none_some l e

-- a label that begins with a quote stands between quotes
quoted_one : (word l : List ℕ) → begins 34 word ≡ true → SpellsLabel word l → SpellsQuoted word l
quoted_one [] l b (inl h) = none_some {A = ℕ} 0 (absurd (no_empty h.0))
  where
    no_empty : IsTrue (is_bare_label []) → ⊥
    no_empty h = cc
quoted_one (c ∷ x) l b (inl h) = absurd (no_bare c (number_is c 34 b) (and_parts (is_bare c) (list_all is_bare x) h.0).0)
  where
    no_bare : (c : ℕ) → 34 ≡ c → IsTrue (is_bare c) → ⊥
    no_bare c e h = false_true (subst (λ d. IsTrue (is_bare d)) (sym e) h)
      where
        false_true : ◌≡◌ {A = Bool} false true → ⊥
        false_true h = cc
quoted_one word l b (inr h) = h

-- a word that is read as a quoted label is UTF-8 and spells that label
pub quoted_spelled : (word l : List ℕ) → quoted_read word ≡ Some l → IsUtf8 word × SpellsQuoted word l
quoted_spelled word l e =
    let h = cond_some (is_utf8 word && begins 34 word) (whole_label (seen_from start 0 word)) l e in
    let both = and_parts (is_utf8 word) (begins 34 word) h.0 in
    (IsUtf8-from_is_utf8 word both.0, quoted_one word l both.1 (whole_seen word l (seen_from start 0 word) (saw word start 0) h.1))
