-- What is kept of texts shows them.
use Rattle.std.proofs.Common.{◌≡◌, ◌∙◌, ℕ, zero, suc, ◌+◌, ◌<◌, ◌≤◌, List, [], ◌∷◌, ◌++◌, length, slice_range, get_or, IsUtf8, append_assoc, length-append, refl, sym, ap, subst, arith}
use Rattle.std.specs.List.{All, concat}
use Rattle.std.proofs.lemmas.List.Elements.{All-append, All-cons, All-nil}
use Rattle.std.proofs.lemmas.List.Folds.{concat-append}
use Rattle.std.proofs.Math.Logic.{∥∥₁_map}
use Rattle.mix_base.proofs.Lists.{append_nil}
use Rattle.document_store.specs.Texts.{texts_from, ends_from, begin_at, KeepsTexts, AreKept, IsShort}
use Rattle.document_store.proofs.Kept.{piece}

-- texts after some bytes are shown from there on
shown_from : (before : List ℕ) (ts : List (List ℕ)) → texts_from (before ++ concat ts) (length before) (ends_from (length before) ts) ≡ ts
shown_from before [] = refl
shown_from before (t ∷ ts) =
    let bytes = before ++ (t ++ concat ts) in
    let long : length before + length t ≡ length (before ++ t) = omega (arith, length-append before t) in
    let same : (before ++ t) ++ concat ts ≡ before ++ (t ++ concat ts) = append_assoc before t (concat ts) in
    let first : slice_range (before ++ (t ++ concat ts)) (length before) (length before + length t) ≡ t =
    ap (slice_range bytes (length before)) long ∙ ap (λ b. slice_range b (length before) (length (before ++ t))) (sym same) ∙ piece before t (concat ts) in
    let others : texts_from (before ++ (t ++ concat ts)) (length before + length t) (ends_from (length before + length t) ts) ≡ ts =
    ap (λ n. texts_from bytes n (ends_from n ts)) long ∙ ap (λ b. texts_from b (length (before ++ t)) (ends_from (length (before ++ t)) ts)) (sym same)
    ∙ shown_from (before ++ t) ts in
    ap (λ x. x ∷ texts_from bytes (length before + length t) (ends_from (length before + length t) ts)) first ∙ ap (λ xs. t ∷ xs) others

-- what keeps texts shows them
pub shows_texts : (bytes ends : List ℕ) (ts : List (List ℕ)) → KeepsTexts bytes ends ts → texts_from bytes 0 ends ≡ ts
shows_texts bytes ends ts k = ap (λ b. texts_from b 0 ends) k.bytes_are ∙ ap (texts_from (concat ts) 0) k.ends_are ∙ shown_from [] ts

-- what keeps texts keeps the texts that it shows
pub texts_kept : (bytes ends : List ℕ) (ts : List (List ℕ)) → KeepsTexts bytes ends ts → AreKept bytes ends
texts_kept bytes ends ts k = subst (KeepsTexts bytes ends) (sym (shows_texts bytes ends ts k)) k

-- the ends of texts with one more are their ends and, after those, the end of that one
ends_more : (start : ℕ) (ts : List (List ℕ)) (t : List ℕ) → ends_from start (ts ++ t ∷ []) ≡ ends_from start ts ++ (start + length (concat ts) + length t) ∷ []
ends_more start [] t = let none : start + length t ≡ start + 0 + length t = omega arith in ap (λ n. n ∷ []) none
ends_more start (x ∷ ts) t =
    let first = start + length x in
    let sum : first + length (concat ts) + length t ≡ start + length (x ++ concat ts) + length t = omega (arith, length-append x (concat ts)) in
    ap (λ r. first ∷ r) (ends_more first ts t) ∙ ap (λ n. first ∷ (ends_from first ts ++ n ∷ [])) sum

-- what keeps texts, with the bytes and the end of one more, keeps that text after them
pub text_added : (bytes ends bytes' ends' text : List ℕ) (ts : List (List ℕ)) → KeepsTexts bytes ends ts → IsUtf8 text → bytes' ≡ bytes ++ text
    → ends' ≡ ends ++ (length bytes + length text) ∷ [] → length bytes' ≤ 4294967295 → KeepsTexts bytes' ends' (ts ++ text ∷ [])
text_added bytes ends bytes' ends' text ts k u b e short =
    let end : length bytes + length text ≡ 0 + length (concat ts) + length text = omega (arith, ap length k.bytes_are) in
    let one : text ≡ concat (text ∷ []) = sym (append_nil text) in
    record {
      bytes_are = b ∙ ap (λ r. r ++ text) k.bytes_are ∙ ap (λ r. concat ts ++ r) one ∙ sym (concat-append ts (text ∷ []));
      ends_are = e ∙ ap (λ r. r ++ (length bytes + length text) ∷ []) k.ends_are ∙ ap (λ n. ends_from 0 ts ++ n ∷ []) end ∙ sym (ends_more 0 ts text);
      utf8 = ∥∥₁_map k.utf8 (λ a. All-append IsUtf8 ts (text ∷ []) a (All-cons IsUtf8 text [] u (All-nil IsUtf8)));
      short = short;
    }

-- as many texts are shown as ends are kept
pub length-texts : (bytes : List ℕ) (start : ℕ) (ends : List ℕ) → length (texts_from bytes start ends) ≡ length ends
length-texts bytes start [] = refl
length-texts bytes start (e ∷ ends) = omega (arith, length-texts bytes e ends)

-- the text at an index that is shown lies between the end before it and its own
pub text_shown : (bytes : List ℕ) (start : ℕ) (ends : List ℕ) (i : ℕ) → i < length ends → get_or (texts_from bytes start ends) i [] ≡ slice_range bytes (begin_at start ends i) (get_or ends i 0)
text_shown bytes start [] i h = absurd (omega arith)
text_shown bytes start (e ∷ ends) zero h = refl
text_shown bytes start (e ∷ ends) (suc zero) h = text_shown bytes e ends zero (omega arith)
text_shown bytes start (e ∷ ends) (suc (suc i)) h = text_shown bytes e ends (suc i) (omega arith)

-- the texts end one after another, and within the bytes
pub texts_order : (start : ℕ) (ts : List (List ℕ)) (i : ℕ) → i < length ts
    → (begin_at start (ends_from start ts) i ≤ get_or (ends_from start ts) i 0) × (get_or (ends_from start ts) i 0 ≤ start + length (concat ts))
texts_order start [] i h = absurd (omega arith)
texts_order start (t ∷ ts) zero h = (omega arith, omega (arith, length-append t (concat ts)))
texts_order start (t ∷ ts) (suc zero) h =
    let more = texts_order (start + length t) ts zero (omega arith) in
    (more.0, omega (arith, more.1, length-append t (concat ts)))
texts_order start (t ∷ ts) (suc (suc i)) h =
    let more = texts_order (start + length t) ts (suc i) (omega arith) in
    (more.0, omega (arith, more.1, length-append t (concat ts)))

-- where a text's bytes are among all, and that they are a text
pub record IsPart (bytes : List ℕ) (from to : ℕ) (text : List ℕ) : Type 0 where
  pub order : from ≤ to
  pub inside : to ≤ length bytes
  pub bytes_are : slice_range bytes from to ≡ text
  pub utf8 : ∥ IsUtf8 (slice_range bytes from to) ∥₁

-- the text at an index that is kept
pub text_part : (bytes ends : List ℕ) (i from to : ℕ) → AreKept bytes ends → i < length ends → from ≡ begin_at 0 ends i → to ≡ get_or ends i 0
    → IsPart bytes from to (get_or (texts_from bytes 0 ends) i [])
text_part bytes ends i from to k h f t =
    let ts = texts_from bytes 0 ends in
    let some : i < length (texts_from bytes 0 ends) = omega (arith, length-texts bytes 0 ends) in
    let order = texts_order 0 ts i some in
    let from_is = ap (λ e. begin_at 0 e i) k.ends_are in
    let to_is = ap (λ e. get_or e i 0) k.ends_are in
    let text : slice_range bytes from to ≡ get_or (texts_from bytes 0 ends) i [] =
    ap (λ n. slice_range bytes n to) f ∙ ap (slice_range bytes (begin_at 0 ends i)) t ∙ sym (text_shown bytes 0 ends i h) in
    record {
      order = omega (arith, f, t, from_is, to_is, order.0);
      inside = omega (arith, t, to_is, order.1, ap length k.bytes_are);
      bytes_are = text;
      utf8 = subst (λ l. ∥ IsUtf8 l ∥₁) (sym text) (∥∥₁_map k.utf8 (λ a. a i [] some));
    }

-- each text is at most as long as all of them together
text-short : (ts : List (List ℕ)) (i : ℕ) (d : List ℕ) → i < length ts → length (get_or ts i d) ≤ length (concat ts)
text-short [] i d h = absurd (omega arith)
text-short (t ∷ ts) zero d h = omega (arith, length-append t (concat ts))
text-short (t ∷ ts) (suc i) d h = omega (arith, text-short ts i d (omega arith), length-append t (concat ts))

-- each of the texts that are kept is shorter than 2^32
pub kept_short : (bytes ends : List ℕ) → AreKept bytes ends → All IsShort (texts_from bytes 0 ends)
kept_short bytes ends k = λ i d h. omega (arith, k.short, ap length k.bytes_are, text-short (texts_from bytes 0 ends) i d h)
