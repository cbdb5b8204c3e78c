-- Words of a plan's text that are neither variables nor keys: they stay whole where lines are cut, and have no variables.
use Rattle.std.proofs.Common.{◌≡◌, ◌<◌, ◌∙◌, ◌==◌, ◌&&◌, ◌||◌, ◌++◌, not, ℕ, Bool, true, false, cond, IsTrue, List, [], ◌∷◌, Some, None, refl, sym, ap, subst, arith, nat_lt}
use Rattle.std.specs.List.{AllByRecursion, list_all, flat_map}
use Rattle.std.specs.Str.{IsUtf8, bytes_eq}
use Rattle.std.proofs.lemmas.Bool.Decides.{nat_tests}
use Rattle.std.proofs.lemmas.Str.{IsUtf8-append, IsUtf8-nil}
use Rattle.mix_base.proofs.Choices.{and_parts, and_both}
use Rattle.mix_base.proofs.Utf8.{one_utf8, utf8_push}
use Rattle.mix_tree.specs.LabelOrder.{is_digit}
use Rattle.mix_tree.specs.Names.{is_name_byte}
use Rattle.mix_tree.specs.Spelling.{escaped, quoted}
use Rattle.mix_words.specs.Words.{is_script_byte}
use Rattle.path_expr.specs.Canonical.{is_plain_name, canon_label, Member, wraps_in_seq, wraps_in_alt, wraps_in_mark, parenthesized, canon_member, canon_rest, canon_between, canon_only, canon_by, members_of, canon}
use Rattle.path_expr.specs.Form as form
use Rattle.path_expr.proofs.CanonUtf8.{canon_utf8}
use Rattle.plan_read.specs.Variables.{as_list, braced, key_dollared, key_texts, word_vars}
use Rattle.plan_read.specs.declared.words.Mode.TheVariants.{Plain, Quoted, Escaped}
use Rattle.plan_read.proofs.Passes.{passes, parts_words, IsWhole, passes_append, whole_append, is_calm, calm_whole}
use Rattle.plan_read.proofs.ReadWords.{all_weaker, other_byte}

-- a text begins like neither a variable nor keys
abbrev pub is_other : List ℕ → Bool
is_other [] = true
is_other (b ∷ x) = not (b == 36) && not (b == 123)

-- a text stays whole where lines are cut, and begins like neither a variable nor keys
pub record IsPlain (x : List ℕ) : Type 0 where
  pub whole : IsWhole x
  pub other : IsTrue (is_other x)

-- one plain text after another is plain
pub plain_append : (x y : List ℕ) → IsPlain x → IsPlain y → IsPlain (x ++ y)
plain_append x y h k = record { whole = whole_append x y h.whole k.whole; other = first x h.other }
  where
    first : (x : List ℕ) → IsTrue (is_other x) → IsTrue (is_other (x ++ y))
    first [] e = k.other
    first (b ∷ x) e = e

-- a plain word has no variables
pub plain_vars : (x : List ℕ) → IsPlain x → word_vars x ≡ []
plain_vars [] h = refl
plain_vars (b ∷ x) h = by_byte (b == 36) (b == 123) h.other
  where
    by_byte : (d k : Bool) → IsTrue (not d && not k)
        → cond k (flat_map (λ body. flat_map key_dollared (key_texts body)) (as_list (braced (b ∷ x)))) (as_list (cond d (Some x) None)) ≡ []
    by_byte false false h = refl
    by_byte true k h = cc
    by_byte false true h = cc

-- a byte for which a test holds that doesn't hold of bytes that part or open something is calm
calm_by : (p : ℕ → Bool) → p 10 ≡ false → p 13 ≡ false → p 32 ≡ false → p 34 ≡ false → p 123 ≡ false → (b : ℕ) → p b ≡ true → is_calm b ≡ true
calm_by p lf cr blank quote brace b h =
    and_both (not (b == 10) && not (b == 13) && not (b == 32) && not (b == 34)) (not (b == 123))
    (and_both (not (b == 10) && not (b == 13) && not (b == 32)) (not (b == 34))
    (and_both (not (b == 10) && not (b == 13)) (not (b == 32))
    (and_both (not (b == 10)) (not (b == 13)) (ap not (other_byte p b 10 lf h)) (ap not (other_byte p b 13 cr h)))
    (ap not (other_byte p b 32 blank h))) (ap not (other_byte p b 34 quote h))) (ap not (other_byte p b 123 brace h))

-- bytes for which a test holds that holds of calm bytes alone, and of neither $ nor {, are a plain word
plain_by : (p : ℕ → Bool) → ((b : ℕ) → p b ≡ true → is_calm b ≡ true) → p 36 ≡ false → p 123 ≡ false → (x : List ℕ) → IsTrue (list_all p x) → IsPlain x
plain_by p calm dollar brace x h = record { whole = calm_whole x (all_weaker p is_calm calm x h); other = first x h }
  where
    first : (x : List ℕ) → IsTrue (list_all p x) → IsTrue (is_other x)
    first [] h = refl
    first (b ∷ x) h =
        let here = (and_parts (p b) (list_all p x) h).0 in
        and_both (not (b == 36)) (not (b == 123)) (ap not (other_byte p b 36 dollar here)) (ap not (other_byte p b 123 brace here))

-- ASCII bytes are UTF-8
pub ascii_utf8 : (x : List ℕ) → IsTrue (list_all (λ b. nat_lt b 128) x) → IsUtf8 x
ascii_utf8 [] h = IsUtf8-nil
ascii_utf8 (b ∷ x) h =
    let parts = and_parts (nat_lt b 128) (list_all (λ b. nat_lt b 128) x) h in
    IsUtf8-append (b ∷ []) x (one_utf8 b (low b parts.0)) (ascii_utf8 x parts.1)
  where
    low : (b : ℕ) → nat_lt b 128 ≡ true → b < 128
    low b h = grind (arith, nat_tests, h)

-- digits are a plain word
pub digits_plain : (x : List ℕ) → IsTrue (list_all is_digit x) → IsPlain x
digits_plain x h = plain_by is_digit (calm_by is_digit refl refl refl refl refl) refl refl x h

-- bytes of names are a plain word
pub name_plain : (x : List ℕ) → IsTrue (list_all is_name_byte x) → IsPlain x
name_plain x h = plain_by is_name_byte (calm_by is_name_byte refl refl refl refl refl) refl refl x h

-- bytes of variables' names are a plain word
pub script_plain : (x : List ℕ) → IsTrue (list_all is_script_byte x) → IsPlain x
script_plain x h = plain_by is_script_byte (calm_by is_script_byte refl refl refl refl refl) refl refl x h

-- a byte as it is written between quotes leaves a line between quotes
escaped_passes : (b : ℕ) → passes parts_words Quoted (escaped b) ≡ Some Quoted
escaped_passes b = by_byte (b == 34) (b == 92) (b == 10) (b == 9) refl refl refl
  where
    by_byte : (q s n t : Bool) → (b == 34) ≡ q → (b == 92) ≡ s → (b == 10) ≡ n
        → passes parts_words Quoted (cond q (92 ∷ 34 ∷ []) (cond s (92 ∷ 92 ∷ []) (cond n (92 ∷ 110 ∷ []) (cond t (92 ∷ 116 ∷ []) (b ∷ []))))) ≡ Some Quoted
    by_byte true s n t e f g = refl
    by_byte false true n t e f g = refl
    by_byte false false true t e f g = refl
    by_byte false false false true e f g = refl
    by_byte false false false false e f g =
        ap (λ c. cond (c || false) None (Some (cond (b == 34) Plain (cond (b == 92) Escaped Quoted)))) g ∙ ap (λ c. Some (cond c Plain (cond (b == 92) Escaped Quoted))) e
        ∙ ap (λ c. Some (cond c Escaped Quoted)) f

-- a label as it is written between quotes leaves a line between quotes
inside_passes : (l : List ℕ) → passes parts_words Quoted (flat_map escaped l) ≡ Some Quoted
inside_passes [] = refl
inside_passes (b ∷ l) = passes_append parts_words Quoted Quoted (escaped b) (flat_map escaped l) (escaped_passes b) ∙ inside_passes l

-- a quoted label is a plain word
pub quoted_plain : (l : List ℕ) → IsPlain (quoted l)
quoted_plain l = record {
  whole = passes_append parts_words Quoted Quoted (flat_map escaped l) (34 ∷ []) (inside_passes l);
  other = refl;
}

-- a label that stands bare in a path has the bytes of names
bare_bytes : (l : List ℕ) → is_plain_name l ≡ true → IsTrue (list_all is_name_byte l)
bare_bytes [] h = refl
bare_bytes (b ∷ l) h = by_name (bytes_eq (b ∷ l) (95 ∷ [])) h
  where
    by_name : (c : Bool) → cond c false (list_all is_name_byte (b ∷ l)) ≡ true → IsTrue (list_all is_name_byte (b ∷ l))
    by_name true h = cc
    by_name false h = h

-- a label as a path has it is a plain word
label_plain : (l : List ℕ) → IsPlain (canon_label l)
label_plain l = by_case (is_plain_name l) refl
  where
    by_case : (c : Bool) → is_plain_name l ≡ c → IsPlain (cond c l (quoted l))
    by_case true e = name_plain l (bare_bytes l e)
    by_case false e = quoted_plain l

-- a byte that is calm, and begins neither a variable nor keys, is a plain word
one_plain : (b : ℕ) → passes parts_words Plain (b ∷ []) ≡ Some Plain → IsTrue (is_other (b ∷ [])) → IsPlain (b ∷ [])
one_plain b h k = record { whole = h; other = k }

-- the texts of members are plain words
abbrev AllPlain : List Member → Type 0
AllPlain ms = AllByRecursion (λ (m : Member). IsPlain m.text) ms

-- a member of a path is a plain word, in parentheses or not, where its text is
member_plain : (wraps : form.Head → Bool) (m : Member) → IsPlain m.text → IsPlain (canon_member wraps m)
member_plain wraps m h = by_case (wraps m.head)
  where
    by_case : (c : Bool) → IsPlain (parenthesized c m.text)
    by_case false = h
    by_case true = plain_append (40 ∷ []) (m.text ++ 41 ∷ []) (one_plain 40 refl refl) (plain_append m.text (41 ∷ []) h (one_plain 41 refl refl))

-- members, each after a separator, are a plain word
rest_plain : (wraps : form.Head → Bool) (b : ℕ) (ms : List Member) → IsPlain (b ∷ []) → AllPlain ms → IsPlain (canon_rest wraps b ms)
rest_plain wraps b [] one h = record { whole = refl; other = refl }
rest_plain wraps b (m ∷ ms) one h =
    plain_append (b ∷ []) (canon_member wraps m ++ canon_rest wraps b ms) one
    (plain_append (canon_member wraps m) (canon_rest wraps b ms) (member_plain wraps m h.0) (rest_plain wraps b ms one h.1))

-- members with a separator between them are a plain word
between_plain : (wraps : form.Head → Bool) (b : ℕ) (ms : List Member) → IsPlain (b ∷ []) → AllPlain ms → IsPlain (canon_between wraps b ms)
between_plain wraps b [] one h = record { whole = refl; other = refl }
between_plain wraps b (m ∷ ms) one h = plain_append (canon_member wraps m) (canon_rest wraps b ms) (member_plain wraps m h.0) (rest_plain wraps b ms one h.1)

-- the member under a mark is a plain word
only_plain : (ms : List Member) → AllPlain ms → IsPlain (canon_only ms)
only_plain [] h = record { whole = refl; other = refl }
only_plain (m ∷ ms) h = member_plain wraps_in_mark m h.0

-- the text of a path by its head is a plain word, where its members are
by_plain : (head : form.Head) (ms : List Member) → AllPlain ms → IsPlain (canon_by head ms)
by_plain (form.name l) ms h = label_plain l
by_plain form.any ms h = one_plain 95 refl refl
by_plain form.seq ms h = between_plain wraps_in_seq 46 ms (one_plain 46 refl refl) h
by_plain form.alt ms h = between_plain wraps_in_alt 124 ms (one_plain 124 refl refl) h
by_plain form.star ms h = plain_append (canon_only ms) (42 ∷ []) (only_plain ms h) (one_plain 42 refl refl)
by_plain form.plus ms h = plain_append (canon_only ms) (43 ∷ []) (only_plain ms h) (one_plain 43 refl refl)
by_plain form.opt ms h = plain_append (canon_only ms) (63 ∷ []) (only_plain ms h) (one_plain 63 refl refl)

-- the members of a path are plain words
members_plain : (ps : form.Paths) → AllPlain (members_of ps)
members_plain form.none = tt
members_plain (form.path head members after) = (by_plain head (members_of members) (members_plain members), members_plain after)

-- the canonical text of a path is a plain word
pub canon_plain : (p : form.Form) → IsPlain (canon p)
canon_plain p = by_plain p.head (members_of p.members) (members_plain p.members)

-- a quoted label in UTF-8 is UTF-8
pub quoted_utf8 : (l : List ℕ) → IsUtf8 l → IsUtf8 (quoted l)
quoted_utf8 l u = by_case (is_plain_name l) refl (canon_utf8 (record { head = form.name l; members = form.none }) u tt)
  where
    same : (b : ℕ) → is_name_byte b ≡ true → escaped b ≡ b ∷ []
    same b h =
        let quote = other_byte is_name_byte b 34 refl h in
        let slash = other_byte is_name_byte b 92 refl h in
        let lf = other_byte is_name_byte b 10 refl h in
        let tab = other_byte is_name_byte b 9 refl h in
        ap (λ c. cond c (92 ∷ 34 ∷ []) (cond (b == 92) (92 ∷ 92 ∷ []) (cond (b == 10) (92 ∷ 110 ∷ []) (cond (b == 9) (92 ∷ 116 ∷ []) (b ∷ []))))) quote
        ∙ ap (λ c. cond c (92 ∷ 92 ∷ []) (cond (b == 10) (92 ∷ 110 ∷ []) (cond (b == 9) (92 ∷ 116 ∷ []) (b ∷ [])))) slash
        ∙ ap (λ c. cond c (92 ∷ 110 ∷ []) (cond (b == 9) (92 ∷ 116 ∷ []) (b ∷ []))) lf ∙ ap (λ c. cond c (92 ∷ 116 ∷ []) (b ∷ [])) tab

    all_same : (l : List ℕ) → IsTrue (list_all is_name_byte l) → flat_map escaped l ≡ l
    all_same [] h = refl
    all_same (b ∷ l) h =
        let parts = and_parts (is_name_byte b) (list_all is_name_byte l) h in
        ap (λ x. x ++ flat_map escaped l) (same b parts.0) ∙ ap (λ x. b ∷ x) (all_same l parts.1)

    by_case : (c : Bool) → is_plain_name l ≡ c → IsUtf8 (cond c l (quoted l)) → IsUtf8 (quoted l)
    by_case true e h =
        IsUtf8-append (34 ∷ []) (flat_map escaped l ++ 34 ∷ []) (one_utf8 34 (omega arith))
        (utf8_push (flat_map escaped l) 34 (omega arith) (subst IsUtf8 (sym (all_same l (bare_bytes l e))) u))
    by_case false e h = h
