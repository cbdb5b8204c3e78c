-- Numbers of so many bytes, the highest first.
use Rattle.std.proofs.Common.{◌≡◌, ℕ, zero, suc, ◌+◌, ◌-◌, ◌*◌, ◌/◌, ◌%◌, ◌^◌, ◌<◌, ◌≤◌, List, [], ◌∷◌, ◌++◌, length, get_or, take, drop, refl, sym, ap, ◌∙◌, append_assoc, arith, inl, inr}
use Rattle.std.specs.Int.{w32, w64, from_be_bytes, to_be_bytes}
use Rattle.std.proofs.lemmas.Bool.{cases_lt}
use Rattle.std.proofs.lemmas.List.{take_at, drop_at, take-append-drop, length-append, length-take, length-drop, get_or-drop, get_or-take, get_or_past}
use Rattle.std.proofs.lemmas.Nat.{be_bytes_4, be_bytes_8, from_be_bytes-to_be_bytes_4, from_be_bytes-to_be_bytes_8}
use Rattle.lxp_core.specs.declared.open_tree.HoleId.{HoleId}
use Rattle.wire_text.specs.Bytes.{u32_bytes, u64_bytes, u128_bytes, words_bytes, IsHole}

-- each member of a list is a byte
abbrev pub IsBytes : List ℕ → Type 0
IsBytes bytes = (i : ℕ) → get_or bytes i 0 < 256

-- the members from an index on are bytes
pub bytes_after : (n : ℕ) (bytes : List ℕ) → IsBytes bytes → IsBytes (drop n bytes)
bytes_after n bytes h i = rw get_or-drop (h (n + i))

-- the first of bytes are bytes
pub bytes_before : (n : ℕ) (bytes : List ℕ) → IsBytes bytes → IsBytes (take n bytes)
bytes_before n bytes h i =
    elim (cases_lt i n) [
      | inl lt ↦ rw (get_or-take n bytes i 0 lt) (h i)
      | inr le ↦ rw (get_or_past (take n bytes) i 0 (omega (arith, length-take n bytes))) (omega arith)
    ]

-- so many zeros
abbrev pub zeros : ℕ → List ℕ
zeros zero = []
zeros (suc n) = 0 ∷ zeros n

-- zeros are as many as were asked for
pub length-zeros : (n : ℕ) → length (zeros n) ≡ n
length-zeros zero = refl
length-zeros (suc n) = ap suc (length-zeros n)

-- zeros are bytes
pub bytes_zeros : (n : ℕ) → IsBytes (zeros n)
bytes_zeros zero i = omega arith
bytes_zeros (suc n) zero = omega arith
bytes_zeros (suc n) (suc i) = bytes_zeros n i

-- two lists of bytes one after the other are one
pub bytes_both : (x y : List ℕ) → IsBytes x → IsBytes y → IsBytes (x ++ y)
bytes_both [] y p q i = q i
bytes_both (b ∷ x) y p q zero = p 0
bytes_both (b ∷ x) y p q (suc i) = bytes_both x y (λ j. p (suc j)) q i

-- what is known of the bytes of numbers below a limit
pub record IsWide (bytes_of : ℕ → List ℕ) (size limit : ℕ) : Type 0 where
  pub len : (n : ℕ) → length (bytes_of n) ≡ size
  pub in' : (bytes : List ℕ) → length bytes ≡ size → IsBytes bytes → (n : ℕ) × (n < limit) × (bytes ≡ bytes_of n)
  pub same : (m n : ℕ) → m < limit → n < limit → bytes_of m ≡ bytes_of n → m ≡ n

back32 : (bytes : List ℕ) → length bytes ≡ 4 → IsBytes bytes → to_be_bytes w32 (from_be_bytes w32 bytes) ≡ bytes
back32 bytes len fits = be_bytes_4 bytes _ len fits refl

back64 : (bytes : List ℕ) → length bytes ≡ 8 → IsBytes bytes → to_be_bytes w64 (from_be_bytes w64 bytes) ≡ bytes
back64 bytes len fits = be_bytes_8 bytes _ len fits refl

below32 : (bytes : List ℕ) → IsBytes bytes → from_be_bytes w32 bytes < 2 ^ 32
below32 bytes fits = omega (arith, fits 0, fits 1, fits 2, fits 3)

below64 : (bytes : List ℕ) → IsBytes bytes → from_be_bytes w64 bytes < 2 ^ 64
below64 bytes fits = omega (arith, fits 0, fits 1, fits 2, fits 3, fits 4, fits 5, fits 6, fits 7)

same32 : (m n : ℕ) → m < 2 ^ 32 → n < 2 ^ 32 → to_be_bytes w32 m ≡ to_be_bytes w32 n → m ≡ n
same32 m n h k e = sym (from_be_bytes-to_be_bytes_4 m h) ∙ ap (from_be_bytes w32) e ∙ from_be_bytes-to_be_bytes_4 n k

same64 : (m n : ℕ) → m < 2 ^ 64 → n < 2 ^ 64 → to_be_bytes w64 m ≡ to_be_bytes w64 n → m ≡ n
same64 m n h k e = sym (from_be_bytes-to_be_bytes_8 m h) ∙ ap (from_be_bytes w64) e ∙ from_be_bytes-to_be_bytes_8 n k

-- numbers of 32 bits
pub wide32 : IsWide u32_bytes 4 (2 ^ 32)
unfolding u32_bytes
wide32 = record {
  len = λ n. refl;
  in' = λ bytes len fits. (from_be_bytes w32 bytes, below32 bytes fits, sym (back32 bytes len fits));
  same = same32;
}

-- numbers of 64 bits
pub wide64 : IsWide u64_bytes 8 (2 ^ 64)
unfolding u64_bytes
wide64 = record {
  len = λ n. refl;
  in' = λ bytes len fits. (from_be_bytes w64 bytes, below64 bytes fits, sym (back64 bytes len fits));
  same = same64;
}

-- the number that four bytes are
pub u32_prefix : (bytes rest : List ℕ) (n : ℕ) → IsBytes bytes → 4 ≤ length bytes → rest ≡ drop 4 bytes → n ≡ from_be_bytes w32 (take 4 bytes) → bytes ≡ u32_bytes n ++ rest
unfolding u32_bytes
u32_prefix bytes rest n fits long rest_is n_is =
    sym (take-append-drop 4 bytes)
    ∙ ap (λ prefix. prefix ++ drop 4 bytes) (sym (back32 (take 4 bytes) (omega (arith, length-take 4 bytes)) (bytes_before 4 bytes fits)))
    ∙ ap (λ m. to_be_bytes w32 m ++ drop 4 bytes) (sym n_is)
    ∙ ap (λ r. to_be_bytes w32 n ++ r) (sym rest_is)

-- the number that eight bytes are
pub u64_prefix : (bytes rest : List ℕ) (n : ℕ) → IsBytes bytes → 8 ≤ length bytes → rest ≡ drop 8 bytes → n ≡ from_be_bytes w64 (take 8 bytes) → bytes ≡ u64_bytes n ++ rest
unfolding u64_bytes
u64_prefix bytes rest n fits long rest_is n_is =
    sym (take-append-drop 8 bytes)
    ∙ ap (λ prefix. prefix ++ drop 8 bytes) (sym (back64 (take 8 bytes) (omega (arith, length-take 8 bytes)) (bytes_before 8 bytes fits)))
    ∙ ap (λ m. to_be_bytes w64 m ++ drop 8 bytes) (sym n_is)
    ∙ ap (λ r. to_be_bytes w64 n ++ r) (sym rest_is)

-- two texts that begin with so many bytes each and are one have these and the rest in common
pub prefixes : (a b x y : List ℕ) (size : ℕ) → length a ≡ size → length b ≡ size → a ++ x ≡ b ++ y → (a ≡ b) × (x ≡ y)
prefixes a b x y size p q e = (sym (take_at a x size p) ∙ ap (take size) e ∙ take_at b y size q, sym (drop_at a x size p) ∙ ap (drop size) e ∙ drop_at b y size q)

module _ (bytes_of : ℕ → List ℕ) (size limit : ℕ) (wide : IsWide bytes_of size limit) where
  -- two numbers at the beginning of one text are one
  pub number_one : (m n : ℕ) (x y : List ℕ) → m < limit → n < limit → bytes_of m ++ x ≡ bytes_of n ++ y → (m ≡ n) × (x ≡ y)
  number_one m n x y h k e = let both = prefixes (bytes_of m) (bytes_of n) x y size (wide.len m) (wide.len n) e in (wide.same m n h k both.0, both.1)

  -- enough bytes begin with a number
  pub number_in : (bytes : List ℕ) → IsBytes bytes → size ≤ length bytes → (n : ℕ) × (n < limit) × (bytes ≡ bytes_of n ++ drop size bytes)
  number_in bytes fits long =
      let found = wide.in' (take size bytes) (omega (arith, length-take size bytes)) (bytes_before size bytes fits) in
      (found.0, found.1, sym (take-append-drop size bytes) ∙ ap (λ prefix. prefix ++ drop size bytes) found.2)

-- a number of 128 bits takes sixteen bytes
pub length-u128 : (n : ℕ) → length (u128_bytes n) ≡ 16
length-u128 n = omega (arith, length-append (u64_bytes (n / 2 ^ 64)) (u64_bytes (n % 2 ^ 64)), wide64.len (n / 2 ^ 64), wide64.len (n % 2 ^ 64))

u128_in : (bytes : List ℕ) → length bytes ≡ 16 → IsBytes bytes → (n : ℕ) × (n < 2 ^ 128) × (bytes ≡ u128_bytes n)
u128_in bytes len fits =
    let high = number_in u64_bytes 8 (2 ^ 64) wide64 bytes fits (omega arith) in
    let low = wide64.in' (drop 8 bytes) (omega (arith, length-drop 8 bytes)) (bytes_after 8 bytes fits) in
    let n : ℕ = high.0 * 2 ^ 64 + low.0 in
    let upper : n / 2 ^ 64 ≡ high.0 = omega (arith, low.1) in
    let lower : n % 2 ^ 64 ≡ low.0 = omega (arith, low.1) in (
      n,
      omega (arith, high.1, low.1),
      high.2 ∙ ap (λ r. u64_bytes high.0 ++ r) low.2 ∙ ap (λ h. u64_bytes h ++ u64_bytes low.0) (sym upper) ∙ ap (λ l. u64_bytes (n / 2 ^ 64) ++ u64_bytes l) (sym lower),
    )

u128_same : (m n : ℕ) → m < 2 ^ 128 → n < 2 ^ 128 → u128_bytes m ≡ u128_bytes n → m ≡ n
u128_same m n h k e =
    let both = number_one u64_bytes 8 (2 ^ 64) wide64 (m / 2 ^ 64) (n / 2 ^ 64) (u64_bytes (m % 2 ^ 64)) (u64_bytes (n % 2 ^ 64)) (omega arith) (omega arith) e in
    let low : m % 2 ^ 64 ≡ n % 2 ^ 64 = wide64.same (m % 2 ^ 64) (n % 2 ^ 64) (omega arith) (omega arith) both.1 in
    omega (arith, both.0, low)

-- numbers of 128 bits
pub wide128 : IsWide u128_bytes 16 (2 ^ 128)
wide128 = record { len = length-u128; in' = u128_in; same = u128_same }

-- what completes a text to so many bytes
pub filled : (bytes : List ℕ) (size : ℕ) → IsBytes bytes → length bytes ≤ size → IsBytes (bytes ++ zeros (size - length bytes)) × (length (bytes ++ zeros (size - length bytes)) ≡ size)
filled bytes size fits short = (
  bytes_both bytes (zeros (size - length bytes)) fits (bytes_zeros (size - length bytes)),
  omega (arith, length-append bytes (zeros (size - length bytes)), length-zeros (size - length bytes)),
)

-- the words of a hole take twenty-four bytes
pub length-words : (id : HoleId) → length (words_bytes id) ≡ 24
length-words id =
    let a = u64_bytes (get_or id.words 0 0) in
    let b = u64_bytes (get_or id.words 1 0) in
    let c = u64_bytes (get_or id.words 2 0) in
    omega (arith, length-append a (b ++ c), length-append b c, wide64.len (get_or id.words 0 0), wide64.len (get_or id.words 1 0), wide64.len (get_or id.words 2 0))

-- twenty-four bytes are the words of a hole
pub words_in : (bytes : List ℕ) → IsBytes bytes → 24 ≤ length bytes → (id : HoleId) × IsHole id × (bytes ≡ words_bytes id ++ drop 24 bytes)
words_in bytes fits long =
    let first = number_in u64_bytes 8 (2 ^ 64) wide64 bytes fits (omega arith) in
    let r1 = drop 8 bytes in
    let second = number_in u64_bytes 8 (2 ^ 64) wide64 r1 (bytes_after 8 bytes fits) (omega (arith, length-drop 8 bytes)) in
    let r2 = drop 8 r1 in
    let third = number_in u64_bytes 8 (2 ^ 64) wide64 r2 (bytes_after 8 r1 (bytes_after 8 bytes fits)) (omega (arith, length-drop 8 bytes, length-drop 8 r1)) in
    let id : HoleId = record { words = first.0 ∷ second.0 ∷ third.0 ∷ [] } in
    let a = u64_bytes first.0 in
    let b = u64_bytes second.0 in
    let c = u64_bytes third.0 in
    let whole : bytes ≡ words_bytes id ++ drop 8 r2 =
    first.2 ∙ ap (λ r. a ++ r) (second.2 ∙ ap (λ r. b ++ r) third.2)
    ∙ ap (λ r. a ++ r) (sym (append_assoc b c (drop 8 r2))) ∙ sym (append_assoc a (b ++ c) (drop 8 r2)) in (
      id,
      record { three = refl; first = first.1; second = second.1; third = third.1 },
      whole ∙ ap (λ r. words_bytes id ++ r) (sym (drop_at (words_bytes id) (drop 8 r2) 24 (length-words id)) ∙ ap (drop 24) (sym whole)),
    )

-- lists of three members are equal where these are
same_three : (v w : List ℕ) → length v ≡ 3 → length w ≡ 3 → get_or v 0 0 ≡ get_or w 0 0 → get_or v 1 0 ≡ get_or w 1 0 → get_or v 2 0 ≡ get_or w 2 0 → v ≡ w
same_three [] w p q d e f = absurd (omega arith)
same_three (a ∷ []) w p q d e f = absurd (omega arith)
same_three (a ∷ b ∷ []) w p q d e f = absurd (omega arith)
same_three (a ∷ b ∷ c ∷ u ∷ v) w p q d e f = absurd (omega arith)
same_three (a ∷ b ∷ c ∷ []) [] p q d e f = absurd (omega arith)
same_three (a ∷ b ∷ c ∷ []) (x ∷ []) p q d e f = absurd (omega arith)
same_three (a ∷ b ∷ c ∷ []) (x ∷ y ∷ []) p q d e f = absurd (omega arith)
same_three (a ∷ b ∷ c ∷ []) (x ∷ y ∷ z ∷ u ∷ v) p q d e f = absurd (omega arith)
same_three (a ∷ b ∷ c ∷ []) (x ∷ y ∷ z ∷ []) p q d e f = cc

-- two holes at the beginning of one text are one
pub words_one : (i j : HoleId) (x y : List ℕ) → IsHole i → IsHole j → words_bytes i ++ x ≡ words_bytes j ++ y → (i ≡ j) × (x ≡ y)
words_one i j x y h k e =
    let a = u64_bytes (get_or i.words 0 0) in
    let b = u64_bytes (get_or i.words 1 0) in
    let c = u64_bytes (get_or i.words 2 0) in
    let d = u64_bytes (get_or j.words 0 0) in
    let f = u64_bytes (get_or j.words 1 0) in
    let g = u64_bytes (get_or j.words 2 0) in
    let regrouped : a ++ (b ++ (c ++ x)) ≡ d ++ (f ++ (g ++ y)) =
    ap (λ r. a ++ r) (sym (append_assoc b c x)) ∙ sym (append_assoc a (b ++ c) x) ∙ e ∙ append_assoc d (f ++ g) y ∙ ap (λ r. d ++ r) (append_assoc f g y) in
    let first = number_one u64_bytes 8 (2 ^ 64) wide64 (get_or i.words 0 0) (get_or j.words 0 0) (b ++ (c ++ x)) (f ++ (g ++ y)) h.first k.first regrouped in
    let second = number_one u64_bytes 8 (2 ^ 64) wide64 (get_or i.words 1 0) (get_or j.words 1 0) (c ++ x) (g ++ y) h.second k.second first.1 in
    let third = number_one u64_bytes 8 (2 ^ 64) wide64 (get_or i.words 2 0) (get_or j.words 2 0) x y h.third k.third second.1 in
    let make : List ℕ → HoleId = λ w. record { words = w } in
    (ap make (same_three i.words j.words h.three k.three first.0 second.0 third.0), third.1)
