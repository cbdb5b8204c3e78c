-- The canonical text of a path with UTF-8 labels is UTF-8.
use Rattle.std.proofs.Common.{◌≡◌, ◌<◌, ◌==◌, ℕ, Bool, true, false, cond, List, [], ◌∷◌, ◌++◌, refl, sym, subst, append_assoc, arith}
use Rattle.std.specs.Str.{IsUtf8}
use Rattle.std.specs.List.{flat_map}
use Rattle.std.proofs.lemmas.Str.{IsUtf8-nil, IsUtf8-append}
use Rattle.mix_base.proofs.Choices.{number_is}
use Rattle.mix_base.proofs.Utf8.{utf8_split, one_utf8, utf8_push}
use Rattle.mix_tree.specs.Spelling.{escaped, quoted}
use Rattle.path_expr.specs.Form as form
use Rattle.path_expr.specs.Labels.{HeadUtf8, AreUtf8}
use Rattle.path_expr.specs.Canonical.{is_plain_name, canon_label, Member, wraps_in_seq, wraps_in_alt, wraps_in_mark, canon_member, canon_rest, canon_between, canon_only, canon_by, members_of, canon, parenthesized}

-- a UTF-8 text stays UTF-8 where a byte of it, and all bytes after that, are written with their escapes
escaped_one : (u : List ℕ) (b : ℕ) (l : List ℕ) → IsUtf8 (u ++ b ∷ l) → IsUtf8 ((u ++ b ∷ []) ++ flat_map escaped l) → (IsUtf8 l → IsUtf8 (flat_map escaped l)) → IsUtf8 (u ++ (escaped b ++ flat_map escaped l))
escaped_one u b l h next rest = by_cases (b == 34) (b == 92) (b == 10) (b == 9) refl refl refl refl
  where
    two : (c : ℕ) → c < 128 → b < 128 → IsUtf8 (u ++ 92 ∷ c ∷ flat_map escaped l)
    two c low k =
        let parts = utf8_split u l b k h in
        IsUtf8-append u (92 ∷ c ∷ flat_map escaped l) parts.0
        (IsUtf8-append (92 ∷ []) (c ∷ flat_map escaped l) (one_utf8 92 (omega arith)) (IsUtf8-append (c ∷ []) (flat_map escaped l) (one_utf8 c low) (rest parts.1)))

    by_cases : (c d e f : Bool) → (b == 34) ≡ c → (b == 92) ≡ d → (b == 10) ≡ e → (b == 9) ≡ f
        → IsUtf8 (u ++ (cond c (92 ∷ 34 ∷ []) (cond d (92 ∷ 92 ∷ []) (cond e (92 ∷ 110 ∷ []) (cond f (92 ∷ 116 ∷ []) (b ∷ [])))) ++ flat_map escaped l))
    by_cases true d e f p q r s = two 34 (omega arith) (let k = number_is b 34 p in omega (arith, k))
    by_cases false true e f p q r s = two 92 (omega arith) (let k = number_is b 92 q in omega (arith, k))
    by_cases false false true f p q r s = two 110 (omega arith) (let k = number_is b 10 r in omega (arith, k))
    by_cases false false false true p q r s = two 116 (omega arith) (let k = number_is b 9 s in omega (arith, k))
    by_cases false false false false p q r s = subst IsUtf8 (append_assoc u (b ∷ []) (flat_map escaped l)) next

-- a UTF-8 text stays UTF-8 with the escapes of its last part
escaped_all : (u l : List ℕ) → IsUtf8 (u ++ l) → IsUtf8 (u ++ flat_map escaped l)
escaped_all u [] h = h
escaped_all u (b ∷ l) h = escaped_one u b l h (escaped_all (u ++ b ∷ []) l (subst IsUtf8 (sym (append_assoc u (b ∷ []) l)) h)) (escaped_all [] l)

-- a UTF-8 text with an ASCII byte on each side is UTF-8
around : (a b : ℕ) (x : List ℕ) → a < 128 → b < 128 → IsUtf8 x → IsUtf8 (a ∷ x ++ b ∷ [])
around a b x h k u = IsUtf8-append (a ∷ []) (x ++ b ∷ []) (one_utf8 a h) (utf8_push x b k u)

-- a UTF-8 label as the canonical text has it is UTF-8
label_canon : (l : List ℕ) → IsUtf8 l → IsUtf8 (canon_label l)
label_canon l u = by_case (is_plain_name l)
  where
    by_case : (c : Bool) → IsUtf8 (cond c l (quoted l))
    by_case true = u
    by_case false = around 34 34 (flat_map escaped l) (omega arith) (omega arith) (escaped_all [] l u)

-- each of these members has a UTF-8 canonical text
abbrev AllText : List Member → Type 0
AllText [] = Unit {0}
AllText (m ∷ ms) = IsUtf8 m.text × AllText ms

-- a member's canonical text is UTF-8, where its text is
member_utf8 : (wraps : form.Head → Bool) (m : Member) → IsUtf8 m.text → IsUtf8 (canon_member wraps m)
member_utf8 wraps m u = by_case (wraps m.head)
  where
    by_case : (c : Bool) → IsUtf8 (parenthesized c m.text)
    by_case true = around 40 41 m.text (omega arith) (omega arith) u
    by_case false = u

-- the members after the first, each with a separator, are UTF-8, where their texts are
rest_utf8 : (wraps : form.Head → Bool) (b : ℕ) (ms : List Member) → b < 128 → AllText ms → IsUtf8 (canon_rest wraps b ms)
rest_utf8 wraps b [] h u = IsUtf8-nil
rest_utf8 wraps b (m ∷ ms) h u =
    IsUtf8-append (b ∷ []) (canon_member wraps m ++ canon_rest wraps b ms) (one_utf8 b h)
    (IsUtf8-append (canon_member wraps m) (canon_rest wraps b ms) (member_utf8 wraps m u.0) (rest_utf8 wraps b ms h u.1))

-- members with an ASCII separator between them are UTF-8, where their texts are
between_utf8 : (wraps : form.Head → Bool) (b : ℕ) (ms : List Member) → b < 128 → AllText ms → IsUtf8 (canon_between wraps b ms)
between_utf8 wraps b [] h u = IsUtf8-nil
between_utf8 wraps b (m ∷ ms) h u = IsUtf8-append (canon_member wraps m) (canon_rest wraps b ms) (member_utf8 wraps m u.0) (rest_utf8 wraps b ms h u.1)

-- the member under a mark is UTF-8, where its text is
only_utf8 : (ms : List Member) → AllText ms → IsUtf8 (canon_only ms)
only_utf8 [] u = IsUtf8-nil
only_utf8 (m ∷ ms) u = member_utf8 wraps_in_mark m u.0

-- the canonical text by a head with a UTF-8 label is UTF-8, where the texts of the members are
by_utf8 : (h : form.Head) (ms : List Member) → HeadUtf8 h → AllText ms → IsUtf8 (canon_by h ms)
by_utf8 (form.name l) ms h u = label_canon l h
by_utf8 form.any ms h u = one_utf8 95 (omega arith)
by_utf8 form.seq ms h u = between_utf8 wraps_in_seq 46 ms (omega arith) u
by_utf8 form.alt ms h u = between_utf8 wraps_in_alt 124 ms (omega arith) u
by_utf8 form.star ms h u = utf8_push (canon_only ms) 42 (omega arith) (only_utf8 ms u)
by_utf8 form.plus ms h u = utf8_push (canon_only ms) 43 (omega arith) (only_utf8 ms u)
by_utf8 form.opt ms h u = utf8_push (canon_only ms) 63 (omega arith) (only_utf8 ms u)

-- the canonical texts of paths with UTF-8 labels are UTF-8
members_utf8 : (ps : form.Paths) → AreUtf8 ps → AllText (members_of ps)
members_utf8 form.none h = tt
members_utf8 (form.path head members after) h = (by_utf8 head (members_of members) h.0 (members_utf8 members h.1), members_utf8 after h.2)

-- the canonical text of a path with UTF-8 labels is UTF-8
pub canon_utf8 : (f : form.Form) → HeadUtf8 f.head → AreUtf8 f.members → IsUtf8 (canon f)
canon_utf8 f h k = by_utf8 f.head (members_of f.members) h (members_utf8 f.members k)
