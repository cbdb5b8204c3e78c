-- Requests and their prefixes.
use Rattle.std.proofs.Common.{◌≡◌, ℕ, ◌-◌, ◌^◌, ◌<◌, List, [], ◌∷◌, ◌++◌, length, get_or, take, drop, refl, sym, ap, ◌∙◌, append_assoc, arith}
use Rattle.std.proofs.lemmas.List.{take_at, length-append, length-drop, nil_from_length}
use Rattle.mix_base.proofs.Lists.{append_nil}
use Rattle.lxp_core.specs.declared.open_tree.HoleId.{HoleId}
use Rattle.wire_text.specs.declared.request.Request.TheVariants.{Count, Root, Fill}
use Rattle.wire_text.specs.declared.request.RequestRead.TheVariants.{Got}
use Rattle.wire_text.specs.Bytes.{u32_bytes, words_bytes, IsHole}
use Rattle.wire_text.specs.Request.{IsPrefixOfRequest, ReadsRequest, RequestsAreApart}
use Rattle.wire_text.proofs.Widths.{IsBytes, bytes_after, zeros, length-zeros, filled, wide32, number_one, number_in, words_in, words_one, length-words}

-- the empty text is a proper prefix of a request
pub nothing_more : IsPrefixOfRequest []
nothing_more = (0 ∷ [], Count, omega arith, (tt, refl))

-- fewer than four bytes after a 1 are one
pub root_more : (rest : List ℕ) → IsBytes rest → length rest < 4 → IsPrefixOfRequest (1 ∷ rest)
root_more rest fits short =
    let all = filled rest 4 fits (omega arith) in
    let n = wide32.in' (rest ++ zeros (4 - length rest)) all.1 all.0 in
    (zeros (4 - length rest), Root n.0, omega (arith, length-zeros (4 - length rest)), (n.1, ap (λ x. 1 ∷ x) n.2))

-- fewer than twenty-eight bytes after a 2 are one
pub fill_more : (rest : List ℕ) → IsBytes rest → length rest < 28 → IsPrefixOfRequest (2 ∷ rest)
fill_more rest fits short =
    let y = zeros (28 - length rest) in
    let whole = rest ++ y in
    let all = filled rest 28 fits (omega arith) in
    let source = number_in u32_bytes 4 (2 ^ 32) wide32 whole all.0 (omega (arith, all.1)) in
    let id = words_in (drop 4 whole) (bytes_after 4 whole all.0) (omega (arith, all.1, length-drop 4 whole)) in
    let none : drop 24 (drop 4 whole) ≡ [] = nil_from_length (drop 24 (drop 4 whole)) (omega (arith, all.1, length-drop 4 whole, length-drop 24 (drop 4 whole))) in
    let text : whole ≡ u32_bytes source.0 ++ words_bytes id.0 =
    source.2 ∙ ap (λ r. u32_bytes source.0 ++ r) (id.2 ∙ ap (λ r. words_bytes id.0 ++ r) none ∙ append_nil (words_bytes id.0)) in
    (y, Fill source.0 id.0, omega (arith, length-zeros (28 - length rest)), ((source.1, id.1), ap (λ x. 2 ∷ x) text))

-- a source's number after a 1 is a request
pub root_got : (rest r : List ℕ) (s : ℕ) → s < 2 ^ 32 → rest ≡ u32_bytes s ++ r → ReadsRequest (1 ∷ rest) (Got (Root s) 5)
root_got rest r s h e = (
  omega (arith, ap length e, length-append (u32_bytes s) r, wide32.len s),
  (h, ap (λ x. 1 ∷ take 4 x) e ∙ ap (λ x. 1 ∷ x) (take_at (u32_bytes s) r 4 (wide32.len s))),
)

-- a source's number and a hole's words after a 2 are one
pub fill_got : (rest words r : List ℕ) (s : ℕ) (id : HoleId) → s < 2 ^ 32 → IsHole id → rest ≡ u32_bytes s ++ words → words ≡ words_bytes id ++ r
    → ReadsRequest (2 ∷ rest) (Got (Fill s id) 29)
fill_got rest words r s id h k e f =
    let prefix = u32_bytes s ++ words_bytes id in
    let long : length prefix ≡ 28 = omega (arith, length-append (u32_bytes s) (words_bytes id), wide32.len s, length-words id) in
    let whole : rest ≡ prefix ++ r = e ∙ ap (λ x. u32_bytes s ++ x) f ∙ sym (append_assoc (u32_bytes s) (words_bytes id) r) in (
      omega (arith, ap length whole, length-append prefix r, long),
      ((h, k), ap (λ x. 2 ∷ take 28 x) whole ∙ ap (λ x. 2 ∷ x) (take_at prefix r 28 long)),
    )

-- no request begins another
pub apart : RequestsAreApart
apart Count Count x y h k e = (refl, ap (drop 1) e)
apart Count (Root s) x y h k e = absurd (omega (arith, ap (λ l. get_or l 0 0) e))
apart Count (Fill s i) x y h k e = absurd (omega (arith, ap (λ l. get_or l 0 0) e))
apart (Root s) Count x y h k e = absurd (omega (arith, ap (λ l. get_or l 0 0) e))
apart (Root s) (Fill t i) x y h k e = absurd (omega (arith, ap (λ l. get_or l 0 0) e))
apart (Fill s i) Count x y h k e = absurd (omega (arith, ap (λ l. get_or l 0 0) e))
apart (Fill s i) (Root t) x y h k e = absurd (omega (arith, ap (λ l. get_or l 0 0) e))
apart (Root s) (Root t) x y h k e =
    let both = number_one u32_bytes 4 (2 ^ 32) wide32 s t x y h k (ap (drop 1) e) in
    (ap Root both.0, both.1)
apart (Fill s i) (Fill t j) x y h k e =
    let inner : u32_bytes s ++ (words_bytes i ++ x) ≡ u32_bytes t ++ (words_bytes j ++ y) =
    sym (append_assoc (u32_bytes s) (words_bytes i) x) ∙ ap (drop 1) e ∙ append_assoc (u32_bytes t) (words_bytes j) y in
    let first = number_one u32_bytes 4 (2 ^ 32) wide32 s t (words_bytes i ++ x) (words_bytes j ++ y) h.0 k.0 inner in
    let second = words_one i j x y h.1 k.1 first.1 in
    (ap (λ n. Fill n i) first.0 ∙ ap (Fill t) second.0, second.1)
