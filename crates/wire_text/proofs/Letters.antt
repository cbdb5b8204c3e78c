-- Which bytes are a character of UTF-8, and which begin none.
use Rattle.std.proofs.Common.{◌≡◌, ◌⊎◌, inl, inr, ℕ, zero, suc, ◌+◌, ◌-◌, ◌*◌, ◌<◌, ◌≤◌, List, [], ◌∷◌, ◌++◌, length, get_or, take, refl, sym, subst, arith}
use Rattle.std.specs.Str.{IsUtf8, StartsWithNoChar}
use Rattle.std.proofs.lemmas.Bool.{cases_lt}
use Rattle.std.proofs.lemmas.List.{length-append}
use Rattle.std.proofs.lemmas.Str.{IsUtf8-nil}
use Rattle.mix_base.proofs.Lists.{append_nil}
use Rattle.std.proofs.str.Valid.{of_one, of_two, of_three, of_four}
use Rattle.std.proofs.str.Faults.{Ranged, no_char}
use Rattle.std.proofs.iter.FirstChar.{no_text}
use Rattle.wire_text.specs.Characters.{Follows, IsSecond, IsWidth, IsPrefixOfCharacter, IsNoCharacterAt}

-- characters of one to four bytes
char1 : (x : ℕ) → x < 128 → IsUtf8 (x ∷ [])
char1 x h = of_one (x ∷ []) 0 (omega arith) h

char2 : (x y : ℕ) → IsWidth x 2 → IsSecond x y → IsUtf8 (x ∷ y ∷ [])
char2 x y w s = of_two (x ∷ y ∷ []) 0 (omega arith) (w.two refl) (s.low, s.high)

char3 : (x y z : ℕ) → IsWidth x 3 → IsSecond x y → Follows z → IsUtf8 (x ∷ y ∷ z ∷ [])
char3 x y z w s f =
    let r = w.three refl in
    let c = (x - 224) * 4096 + (y - 128) * 64 + (z - 128) in
    let low : 2048 ≤ c = elim (cases_lt x 225) [
      | inl p ↦ (let e : x ≡ 224 = omega (arith, r.0, p) in let l = s.least_of_three e in omega (arith, e, l, f.0))
      | inr p ↦ omega (arith, p)
    ] in
    let gap : (c < 55296) ⊎ (57344 ≤ c) = elim (cases_lt x 237) [
      | inl p ↦ inl (omega (arith, p, s.high, f.1))
      | inr p ↦ elim (cases_lt x 238) [
        | inl q ↦ (let e : x ≡ 237 = omega (arith, p, q) in let m = s.most_of_three e in inl (omega (arith, e, m, f.1)))
        | inr q ↦ inr (omega (arith, q))
      ]
    ] in
    of_three (x ∷ y ∷ z ∷ []) 0 (omega arith) r (s.low, s.high) f low gap

char4 : (x y z u : ℕ) → IsWidth x 4 → IsSecond x y → Follows z → Follows u → IsUtf8 (x ∷ y ∷ z ∷ u ∷ [])
char4 x y z u w s f g =
    let r = w.four refl in
    let low : 16 ≤ (x - 240) * 64 + (y - 128) = elim (cases_lt x 241) [
      | inl p ↦ (let e : x ≡ 240 = omega (arith, r.0, p) in let l = s.least_of_four e in omega (arith, e, l))
      | inr p ↦ omega (arith, p)
    ] in
    let high : (x - 240) * 64 + (y - 128) < 272 = elim (cases_lt x 244) [
      | inl p ↦ omega (arith, p, s.high)
      | inr p ↦ (let e : x ≡ 244 = omega (arith, r.1, p) in let m = s.most_of_four e in omega (arith, e, m))
    ] in
    of_four (x ∷ y ∷ z ∷ u ∷ []) 0 (omega arith) r.0 (s.low, s.high) f g (low, high)

-- one byte that may stand second after a first one
pub some_second : (x : ℕ) → (y : ℕ) × IsSecond x y
some_second x = elim (cases_lt x 225) [
  | inl p ↦ (160, record { low = omega arith; high = omega arith; least_of_three = λ e. omega arith; most_of_three = λ e. absurd (omega arith); least_of_four = λ e. omega arith; most_of_four = λ e. absurd (omega arith) })
  | inr p ↦ elim (cases_lt x 244) [
    | inl q ↦ (144, record { low = omega arith; high = omega arith; least_of_three = λ e. absurd (omega arith); most_of_three = λ e. omega arith; least_of_four = λ e. omega arith; most_of_four = λ e. absurd (omega arith) })
    | inr q ↦ (128, record { low = omega arith; high = omega arith; least_of_three = λ e. absurd (omega arith); most_of_three = λ e. omega arith; least_of_four = λ e. absurd (omega arith); most_of_four = λ e. omega arith })
  ]
]

mid : Follows 128
mid = (omega arith, omega arith)

-- what completes the first byte, the first two and the first three of a character
pub record Completes (x : List ℕ) (width : ℕ) : Type 0 where
  pub more : List ℕ
  pub utf8 : IsUtf8 (x ++ more)
  pub long : length (x ++ more) ≡ width

-- a first byte is completed
pub from_one : (x w : ℕ) → IsWidth x w → 0 < w → Completes (x ∷ []) w
from_one x zero h p = absurd (omega arith)
from_one x (suc zero) h p = record { more = []; utf8 = char1 x (h.one refl); long = refl }
from_one x (suc (suc zero)) h p = let s = some_second x in record { more = s.0 ∷ []; utf8 = char2 x s.0 h s.1; long = refl }
from_one x (suc (suc (suc zero))) h p = let s = some_second x in record { more = s.0 ∷ 128 ∷ []; utf8 = char3 x s.0 128 h s.1 mid; long = refl }
from_one x (suc (suc (suc (suc zero)))) h p = let s = some_second x in record { more = s.0 ∷ 128 ∷ 128 ∷ []; utf8 = char4 x s.0 128 128 h s.1 mid mid; long = refl }
from_one x (suc (suc (suc (suc (suc n))))) h p = absurd (let m = h.most in omega arith)

-- a first and a second byte are completed
pub from_two : (x y w : ℕ) → IsWidth x w → 1 < w → IsSecond x y → Completes (x ∷ y ∷ []) w
from_two x y zero h p s = absurd (omega arith)
from_two x y (suc zero) h p s = absurd (omega arith)
from_two x y (suc (suc zero)) h p s = record { more = []; utf8 = char2 x y h s; long = refl }
from_two x y (suc (suc (suc zero))) h p s = record { more = 128 ∷ []; utf8 = char3 x y 128 h s mid; long = refl }
from_two x y (suc (suc (suc (suc zero)))) h p s = record { more = 128 ∷ 128 ∷ []; utf8 = char4 x y 128 128 h s mid mid; long = refl }
from_two x y (suc (suc (suc (suc (suc n))))) h p s = absurd (let m = h.most in omega arith)

-- three bytes are completed
pub from_three : (x y z w : ℕ) → IsWidth x w → 2 < w → IsSecond x y → Follows z → Completes (x ∷ y ∷ z ∷ []) w
from_three x y z zero h p s f = absurd (omega arith)
from_three x y z (suc zero) h p s f = absurd (omega arith)
from_three x y z (suc (suc zero)) h p s f = absurd (omega arith)
from_three x y z (suc (suc (suc zero))) h p s f = record { more = []; utf8 = char3 x y z h s f; long = refl }
from_three x y z (suc (suc (suc (suc zero)))) h p s f = record { more = 128 ∷ []; utf8 = char4 x y z 128 h s f mid; long = refl }
from_three x y z (suc (suc (suc (suc (suc n))))) h p s f = absurd (let m = h.most in omega arith)

-- a text whose bytes are those of no character
none_begins : (t : List ℕ) → 0 < length t → (Ranged (length t) (get_or t 0 0) (get_or t 1 0) (get_or t 2 0) (get_or t 3 0) → ⊥) → IsUtf8 t → ⊥
none_begins t some h u =
    let absent = no_char t 0 (λ r. h (let e : length t - 0 ≡ length t = omega arith in subst (λ n. Ranged n (get_or t 0 0) (get_or t 1 0) (get_or t 2 0) (get_or t 3 0)) e r)) in
    no_text t [] (subst StartsWithNoChar (sym (append_nil t)) absent) u some

-- no character begins with such a byte, or has as few bytes
pub wrong_first : (x w n : ℕ) (t : List ℕ) → IsWidth x w → (w ≡ 0) ⊎ (n < w) → length (x ∷ t) ≡ n → IsUtf8 (x ∷ t) → ⊥
wrong_first x w n t h p e = none_begins (x ∷ t) (omega arith) (λ r. by x w n t h p e r)
  where
    by : (x w n : ℕ) (t : List ℕ) → IsWidth x w → (w ≡ 0) ⊎ (n < w) → length (x ∷ t) ≡ n → Ranged (length (x ∷ t)) x (get_or t 0 0) (get_or t 1 0) (get_or t 2 0) → ⊥
    by x zero n t h p e r = elim (h.none refl) [
      | inl q ↦ (let s = r.second q.0 in omega (arith, s.0, q.1))
      | inr q ↦ (let f = r.fourth (omega (arith, q)) in omega (arith, f.2.1, q))
    ]
    by x (suc zero) n t h p e r = elim p [ inl q ↦ omega arith | inr q ↦ omega (arith, e) ]
    by x (suc (suc zero)) n t h p e r = elim p [ inl q ↦ omega arith | inr q ↦ (let l = h.two refl in let s = r.second (omega (arith, l.0)) in omega (arith, s.1, e)) ]
    by x (suc (suc (suc zero))) n t h p e r = elim p [ inl q ↦ omega arith | inr q ↦ (let l = h.three refl in let s = r.third l.0 in omega (arith, s.0, e)) ]
    by x (suc (suc (suc (suc zero)))) n t h p e r = elim p [ inl q ↦ omega arith | inr q ↦ (let l = h.four refl in let s = r.fourth l.0 in omega (arith, s.0, e)) ]
    by x (suc (suc (suc (suc (suc m))))) n t h p e r = let q = h.most in omega arith

-- no character of several bytes has another second byte
pub wrong_second : (x y w : ℕ) (t : List ℕ) → IsWidth x w → 1 < w → (IsSecond x y → ⊥) → IsUtf8 (x ∷ y ∷ t) → ⊥
wrong_second x y w t h p none = none_begins (x ∷ y ∷ t) (omega arith) (λ r. none (by x y w t h p r))
  where
    high_first : (x w : ℕ) → IsWidth x w → 1 < w → 194 ≤ x
    high_first x zero h p = absurd (omega arith)
    high_first x (suc zero) h p = absurd (omega arith)
    high_first x (suc (suc zero)) h p = (h.two refl).0
    high_first x (suc (suc (suc zero))) h p = let l = h.three refl in omega (arith, l.0)
    high_first x (suc (suc (suc (suc zero)))) h p = let l = h.four refl in omega (arith, l.0)
    high_first x (suc (suc (suc (suc (suc m))))) h p = absurd (let q = h.most in omega arith)

    by : (x y w : ℕ) (t : List ℕ) → IsWidth x w → 1 < w → Ranged (length (x ∷ y ∷ t)) x y (get_or t 0 0) (get_or t 1 0) → IsSecond x y
    by x y w t h p r =
        let s = r.second (let l = high_first x w h p in omega (arith, l)) in
        record {
          low = s.2.0;
          high = s.2.1;
          least_of_three = λ e. (let t3 = r.in_three (omega (arith, e)) (omega (arith, e)) in omega (arith, e, t3.0, s.2.0));
          most_of_three = λ e. (let t3 = r.in_three (omega (arith, e)) (omega (arith, e)) in elim t3.1 [ inl q ↦ omega (arith, e, q, s.2.0) | inr q ↦ absurd (omega (arith, e, q, s.2.1)) ]);
          least_of_four = λ e. (let t4 = r.fourth (omega (arith, e)) in omega (arith, e, t4.2.0, s.2.0));
          most_of_four = λ e. (let t4 = r.fourth (omega (arith, e)) in omega (arith, e, t4.2.1, s.2.0));
        }

-- a text whose first character has three bytes or more is not UTF-8 where its third byte may not stand there
pub wrong_third : (x y z w : ℕ) (t : List ℕ) → IsWidth x w → 2 < w → (Follows z → ⊥) → IsUtf8 (x ∷ y ∷ z ∷ t) → ⊥
wrong_third x y z w t h p none = none_begins (x ∷ y ∷ z ∷ t) (omega arith) (λ r. none (r.third (high x w h p)).1)
  where
    high : (x w : ℕ) → IsWidth x w → 2 < w → 224 ≤ x
    high x zero h p = absurd (omega arith)
    high x (suc zero) h p = absurd (omega arith)
    high x (suc (suc zero)) h p = absurd (omega arith)
    high x (suc (suc (suc zero))) h p = (h.three refl).0
    high x (suc (suc (suc (suc zero)))) h p = let l = h.four refl in omega (arith, l.0)
    high x (suc (suc (suc (suc (suc m))))) h p = absurd (let q = h.most in omega arith)

-- a text whose first character has four bytes is not UTF-8 where its fourth byte may not stand there
pub wrong_fourth : (x y z u w : ℕ) (t : List ℕ) → IsWidth x w → 3 < w → (Follows u → ⊥) → IsUtf8 (x ∷ y ∷ z ∷ u ∷ t) → ⊥
wrong_fourth x y z u w t h p none = none_begins (x ∷ y ∷ z ∷ u ∷ t) (omega arith) (λ r. none (r.fourth (high x w h p)).1)
  where
    high : (x w : ℕ) → IsWidth x w → 3 < w → 240 ≤ x
    high x zero h p = absurd (omega arith)
    high x (suc zero) h p = absurd (omega arith)
    high x (suc (suc zero)) h p = absurd (omega arith)
    high x (suc (suc (suc zero))) h p = absurd (omega arith)
    high x (suc (suc (suc (suc zero)))) h p = (h.four refl).0
    high x (suc (suc (suc (suc (suc m))))) h p = absurd (let q = h.most in omega arith)

-- no prefix of the text is UTF-8
abbrev pub NoPrefix : List ℕ → Type 0
NoPrefix x = (n : ℕ) → 0 < n → IsUtf8 (take n x) → ⊥

-- a text of which no prefix is UTF-8 has a first character of more than one byte
wide1 : (x w : ℕ) (t : List ℕ) → IsWidth x w → 0 < w → NoPrefix (x ∷ t) → 1 < w
wide1 x zero t h p none = absurd (omega arith)
wide1 x (suc zero) t h p none = absurd (none 1 (omega arith) (char1 x (h.one refl)))
wide1 x (suc (suc w)) t h p none = omega arith

wide2 : (x y w : ℕ) (t : List ℕ) → IsWidth x w → 1 < w → IsSecond x y → NoPrefix (x ∷ y ∷ t) → 2 < w
wide2 x y zero t h p s none = absurd (omega arith)
wide2 x y (suc zero) t h p s none = absurd (omega arith)
wide2 x y (suc (suc zero)) t h p s none = absurd (none 2 (omega arith) (char2 x y h s))
wide2 x y (suc (suc (suc w))) t h p s none = omega arith

wide3 : (x y z w : ℕ) (t : List ℕ) → IsWidth x w → 2 < w → IsSecond x y → Follows z → NoPrefix (x ∷ y ∷ z ∷ t) → 3 < w
wide3 x y z zero t h p s f none = absurd (omega arith)
wide3 x y z (suc zero) t h p s f none = absurd (omega arith)
wide3 x y z (suc (suc zero)) t h p s f none = absurd (omega arith)
wide3 x y z (suc (suc (suc zero))) t h p s f none = absurd (none 3 (omega arith) (char3 x y z h s f))
wide3 x y z (suc (suc (suc (suc w)))) t h p s f none = omega arith

-- the first byte begins none
pub fault0 : (x : List ℕ) (w left : ℕ) → 0 < length x → IsWidth (get_or x 0 0) w → (w ≡ 0) ⊎ (left < w) → IsNoCharacterAt x left 0
fault0 [] w left some h p = absurd (omega arith)
fault0 (a ∷ t) w left some h p = record {
  inside = omega arith;
  prefix = ([], IsUtf8-nil, omega arith);
  wrong = λ y e u. wrong_first a w left y h p e u;
}

-- the second one doesn't go on
pub fault1 : (x : List ℕ) (w left : ℕ) → 1 < length x → IsWidth (get_or x 0 0) w → 0 < w → w ≤ left → NoPrefix x → (IsSecond (get_or x 0 0) (get_or x 1 0) → ⊥) → IsNoCharacterAt x left 1
fault1 [] w left some h p q none bad = absurd (omega arith)
fault1 (a ∷ []) w left some h p q none bad = absurd (omega arith)
fault1 (a ∷ b ∷ t) w left some h p q none bad =
    let c = from_one a w h p in
    record {
      inside = omega arith;
      prefix = (c.more, c.utf8, omega (arith, c.long, q));
      wrong = λ y e u. wrong_second a b w y h (wide1 a w (b ∷ t) h p none) bad u;
    }

-- where the third byte may not stand in the first character, none of so many bytes goes on with it
pub fault2 : (x : List ℕ) (w left : ℕ) → 2 < length x → IsWidth (get_or x 0 0) w → 0 < w → w ≤ left → NoPrefix x → IsSecond (get_or x 0 0) (get_or x 1 0) → (Follows (get_or x 2 0) → ⊥) → IsNoCharacterAt x left 2
fault2 [] w left some h p q none s bad = absurd (omega arith)
fault2 (a ∷ []) w left some h p q none s bad = absurd (omega arith)
fault2 (a ∷ b ∷ []) w left some h p q none s bad = absurd (omega arith)
fault2 (a ∷ b ∷ d ∷ t) w left some h p q none s bad =
    let one = wide1 a w (b ∷ d ∷ t) h p none in
    let c = from_two a b w h one s in
    record {
      inside = omega arith;
      prefix = (c.more, c.utf8, omega (arith, c.long, q));
      wrong = λ y e u. wrong_third a b d w y h (wide2 a b w (d ∷ t) h one s none) bad u;
    }

-- where the fourth byte may not stand in the first character, none of so many bytes goes on with it
pub fault3 : (x : List ℕ) (w left : ℕ) → 3 < length x → IsWidth (get_or x 0 0) w → 0 < w → w ≤ left → NoPrefix x → IsSecond (get_or x 0 0) (get_or x 1 0) → Follows (get_or x 2 0) → (Follows (get_or x 3 0) → ⊥)
    → IsNoCharacterAt x left 3
fault3 [] w left some h p q none s f bad = absurd (omega arith)
fault3 (a ∷ []) w left some h p q none s f bad = absurd (omega arith)
fault3 (a ∷ b ∷ []) w left some h p q none s f bad = absurd (omega arith)
fault3 (a ∷ b ∷ d ∷ []) w left some h p q none s f bad = absurd (omega arith)
fault3 (a ∷ b ∷ d ∷ e ∷ t) w left some h p q none s f bad =
    let two = wide2 a b w (d ∷ e ∷ t) h (wide1 a w (b ∷ d ∷ e ∷ t) h p none) s none in
    let c = from_three a b d w h two s f in
    record {
      inside = omega arith;
      prefix = (c.more, c.utf8, omega (arith, c.long, q));
      wrong = λ y g u. wrong_fourth a b d e w y h (wide3 a b d w (e ∷ t) h two s f none) bad u;
    }

more_left : (x : List ℕ) (w left : ℕ) → Completes x w → length x < w → w ≤ left → IsPrefixOfCharacter x left
more_left x w left c short q = (c.more, c.utf8, omega (arith, c.long, q), omega (arith, c.long, short, length-append x c.more))

-- where no byte is wrong the text is a proper prefix of a character
pub no_fault : (x : List ℕ) (w left : ℕ) → 0 < length x → IsWidth (get_or x 0 0) w → 0 < w → w ≤ left → NoPrefix x → (1 < length x → IsSecond (get_or x 0 0) (get_or x 1 0)) → (2 < length x → Follows (get_or x 2 0))
    → (3 < length x → Follows (get_or x 3 0)) → IsPrefixOfCharacter x left
no_fault [] w left some h p q none s f g = absurd (omega arith)
no_fault (a ∷ []) w left some h p q none s f g = more_left (a ∷ []) w left (from_one a w h p) (wide1 a w [] h p none) q
no_fault (a ∷ b ∷ []) w left some h p q none s f g =
    let one = wide1 a w (b ∷ []) h p none in
    let t = s (omega arith) in
    more_left (a ∷ b ∷ []) w left (from_two a b w h one t) (wide2 a b w [] h one t none) q
no_fault (a ∷ b ∷ d ∷ []) w left some h p q none s f g =
    let t = s (omega arith) in
    let u = f (omega arith) in
    let two = wide2 a b w (d ∷ []) h (wide1 a w (b ∷ d ∷ []) h p none) t none in
    more_left (a ∷ b ∷ d ∷ []) w left (from_three a b d w h two t u) (wide3 a b d w [] h two t u none) q
no_fault (a ∷ b ∷ d ∷ e ∷ x) w left some h p q none s f g =
    let t = s (omega arith) in
    let u = f (omega arith) in
    let two = wide2 a b w (d ∷ e ∷ x) h (wide1 a w (b ∷ d ∷ e ∷ x) h p none) t none in
    let three = wide3 a b d w (e ∷ x) h two t u none in
    let four : w ≡ 4 = (let m = h.most in omega (arith, three, m)) in
    absurd (none 4 (omega arith) (char4 a b d e (subst (IsWidth a) four h) t u (g (omega arith))))
