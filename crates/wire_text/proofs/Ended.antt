-- Where a label ends, by what is said of its characters.
use Rattle.std.proofs.Common.{◌≡◌, ℕ, ◌+◌, ◌-◌, ◌<◌, ◌≤◌, List, [], ◌++◌, length, take, drop, min, sym, ap, subst, ◌∙◌, append_assoc, arith}
use Rattle.std.specs.Str.{IsUtf8, IsValidUpTo}
use Rattle.std.proofs.lemmas.List.{length-append, length-take, length-drop, take-append-drop, take-append-le, take_at, drop_at}
use Rattle.std.proofs.lemmas.Str.{IsUtf8-append}
use Rattle.mix_base.proofs.Lists.{append_nil, take_append}
use Rattle.std.proofs.str.Valid.{longer}
use Rattle.std.proofs.iter.FirstChar.{after_text}
use Rattle.wire_text.specs.Characters.{IsPrefixOfCharacter, IsNoCharacterAt}
use Rattle.wire_text.specs.Heads.{IsLabelText, ReadsLabelEnd}
use Rattle.wire_text.specs.declared.utf8.LabelEnd.TheVariants.{Wrong, Cut}
use Rattle.wire_text.proofs.Widths.{zeros, length-zeros}
use Rattle.wire_text.proofs.Judged.{label_zeros}
use Rattle.wire_text.proofs.Letters.{NoPrefix}

-- UTF-8 of at most so many bytes goes on to a label
padded : (x : List ℕ) (n : ℕ) → IsUtf8 x → length x ≤ n → (y : List ℕ) × IsLabelText n (x ++ y)
padded x n u h =
    let y = zeros (n - length x) in
    (y, (IsUtf8-append x y u (label_zeros (n - length x)), omega (arith, h, length-append x y, length-zeros (n - length x))))

-- a text that is shorter than the label, and UTF-8, is cut off
pub cut_text : (text prefix : List ℕ) (len m : ℕ) → prefix ≡ take m text → m ≡ min len (length text) → (length prefix ≡ len → ⊥) → IsUtf8 prefix → ReadsLabelEnd text len Cut
cut_text text prefix len m is small other u =
    let long : length prefix ≡ m = omega (arith, ap length is, length-take m text, small) in
    let short : length text < len = omega (arith, long, small, other) in
    let all : prefix ≡ text = is ∙ take_at_end text m (omega (arith, small, short)) in
    let p = padded text len (subst IsUtf8 all u) (omega (arith, short)) in
    (short, p)
  where
    take_at_end : (text : List ℕ) (m : ℕ) → m ≡ length text → take m text ≡ text
    take_at_end text m e = sym (ap (take m) (append_nil text)) ∙ take_at text [] m (sym e)

-- after the longest prefix that is UTF-8 none begins
pub none_after : (prefix p : List ℕ) (at : ℕ) → IsValidUpTo prefix at → p ≡ drop at prefix → NoPrefix p
none_after prefix p at v is n some u = v.longest (at + n) (omega (arith, some)) (longer prefix at n v.front (subst (λ q. IsUtf8 (take n q)) is u))

module _ (text prefix p : List ℕ) (len m at : ℕ) (is_prefix : prefix ≡ take m text) (small : m ≡ min len (length text)) (v : IsValidUpTo prefix at) (is_p : p ≡ drop at prefix) where
  long : length prefix ≡ m
  long = omega (arith, ap length is_prefix, length-take m text, small)

  length_p : at + length p ≡ m
  length_p = let s = v.short in omega (arith, ap length is_p, length-drop at prefix, long, s)

  a : List ℕ
  a = take at prefix

  length_a : length (take at prefix) ≡ at
  length_a = let s = v.short in omega (arith, length-take at prefix, s)

  parts : prefix ≡ take at prefix ++ p
  parts = sym (take-append-drop at prefix) ∙ ap (λ q. take at prefix ++ q) (sym is_p)

  -- the prefix of the text up to a place in the character
  up_to : (i : ℕ) → i ≤ length p → take (at + i) text ≡ take at prefix ++ take i p
  up_to i h =
      let inside : at + i ≤ length prefix = omega (arith, h, long, length_p) in
      let e : length (take at prefix) + i ≡ at + i = omega (arith, length_a) in
      ap (take (at + i)) (sym (take-append-drop m text) ∙ ap (λ q. q ++ drop m text) (sym is_prefix))
      ∙ take-append-le (at + i) prefix (drop m text) inside
      ∙ ap (take (at + i)) parts
      ∙ ap (λ n. take n (take at prefix ++ p)) (sym e) ∙ take_append (take at prefix) p i

  -- a byte of a character is wrong
  pub wrong_label : (i : ℕ) → IsNoCharacterAt p (len - at) i → ReadsLabelEnd text len (Wrong (at + i))
  wrong_label i f =
      let inside = f.inside in
      let w = f.prefix in
      let here = up_to i (omega (arith, inside)) in
      let good : IsUtf8 (take at prefix ++ (take i p ++ w.0)) = IsUtf8-append (take at prefix) (take i p ++ w.0) v.front w.1 in
      let q = padded (take at prefix ++ (take i p ++ w.0)) len good (omega (arith, w.2, length-append (take at prefix) (take i p ++ w.0), length_a, length_p, small)) in
      let regrouped : (take at prefix ++ (take i p ++ w.0)) ++ q.0 ≡ take (at + i) text ++ (w.0 ++ q.0) =
      ap (λ x. x ++ q.0) (sym (append_assoc (take at prefix) (take i p) w.0)) ∙ append_assoc (take at prefix ++ take i p) w.0 q.0 ∙ ap (λ x. x ++ (w.0 ++ q.0)) (sym here) in (
        omega (arith, inside, length_p, small),
        omega (arith, inside, length_p, small),
        (w.0 ++ q.0, subst (IsLabelText len) regrouped q.1),
        λ y l.
            let more : at + i + 1 ≡ at + (i + 1) = omega arith in
            let next : take (at + i + 1) text ≡ take at prefix ++ take (i + 1) p = ap (λ n. take n text) more ∙ up_to (i + 1) (omega (arith, inside)) in
            let after = take (i + 1) p ++ y in
            let whole : take (at + i + 1) text ++ y ≡ take at prefix ++ after = ap (λ x. x ++ y) next ∙ append_assoc (take at prefix) (take (i + 1) p) y in
            let u : IsUtf8 (take at prefix ++ after) = subst IsUtf8 whole l.0 in
            let t : IsUtf8 (take at (take at prefix ++ after)) = subst IsUtf8 (sym (take_at (take at prefix) after at length_a)) v.front in
            let rest : IsUtf8 after = subst IsUtf8 (drop_at (take at prefix) after at length_a) (after_text (take at prefix ++ after) at u t) in
            f.wrong y (omega (arith, l.1, ap length whole, length-append (take at prefix) after, length_a)) rest,
      )

  -- the text ends in a character
  pub cut_label : IsPrefixOfCharacter p (len - at) → ReadsLabelEnd text len Cut
  cut_label f =
      let sum = length-append p f.0 in
      let short : length text < len = omega (arith, f.2, f.3, sum, length_p, small) in
      let all : prefix ≡ text = is_prefix ∙ sym (ap (take m) (append_nil text)) ∙ take_at text [] m (omega (arith, small, short)) in
      let good : IsUtf8 (take at prefix ++ (p ++ f.0)) = IsUtf8-append (take at prefix) (p ++ f.0) v.front f.1 in
      let q = padded (take at prefix ++ (p ++ f.0)) len good (omega (arith, f.2, length-append (take at prefix) (p ++ f.0), length_a, length_p, small)) in
      let regrouped : (take at prefix ++ (p ++ f.0)) ++ q.0 ≡ text ++ (f.0 ++ q.0) =
      ap (λ x. x ++ q.0) (sym (append_assoc (take at prefix) p f.0)) ∙ append_assoc (take at prefix ++ p) f.0 q.0 ∙ ap (λ x. x ++ (f.0 ++ q.0)) (sym parts ∙ all) in
      (short, (f.0 ++ q.0, subst (IsLabelText len) regrouped q.1))
