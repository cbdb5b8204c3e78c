-- The set of first listed leads where the first listed lead.
use Rattle.std.proofs.Common.{◌≡◌, ◌∙◌, ◌⊎◌, inl, inr, ℕ, ◌+◌, ◌^◌, max, ◌<◌, ◌≢◌, ◌==◌, Bool, true, false, ◌&&◌, ◌||◌, IsTrue, List, [], ◌∷◌, ◌++◌, length, Some, None, refl, sym, subst, arith}
use Rattle.std.specs.Int.{bit_at}
use Rattle.std.specs.Int.RustNames.{bit_or}
use Rattle.std.proofs.lemmas.Nat.Bits.{bit_at-zero, bit_at_or, bit_at-pow_same, bit_at-pow_other, bit_at-lt}
use Rattle.std.proofs.lemmas.Bool.Decides.{Decides-eqb, not_from_Decides}
use Rattle.mix_base.proofs.Choices.{and_parts, and_both}
use Rattle.std.specs.Prelude.{◌↔◌ as Iff}
use Rattle.path_expr.specs.Form.{Head, name, any, seq, alt, star, plus, opt, Paths, none, path}
use Rattle.path_expr.specs.Description.{Labels, How, in_turn, one_of}
use Rattle.path_expr.specs.Count.{count_by, count}
use Rattle.path_auto.specs.Positions.{Position, Takes, Begins, nullable_by, nullable, starts_by, positions_if, starts, listed_by, listed}
use Rattle.path_auto.specs.Sets.{entry_by, entry, Leads, Located}
use Rattle.path_auto.proofs.FirstPositions.{begins_left, begins_right, begins_parts, so_begins, begins_so, or_left, or_right, or_parts}

-- what leads to the end from each number
abbrev pub Way : Type 1
Way = ℕ → Labels → Type 0

-- one of two bits is set where the greater is
max_one : (a b : ℕ) → max a b ≡ 1 → (a ≡ 1) ⊎ (b ≡ 1)
max_one a b h = grind arith

-- the greater of two bits is set where the first is
max_left : (a b : ℕ) → a < 2 → b < 2 → a ≡ 1 → max a b ≡ 1
max_left a b p q h = omega (arith, p, q, h)

-- the greater of two bits is set where the second is
max_right : (a b : ℕ) → a < 2 → b < 2 → b ≡ 1 → max a b ≡ 1
max_right a b p q h = omega (arith, p, q, h)

-- what leads on from a union leads on from a part
pub union_parts : (T : Way) (m n : ℕ) (x : Labels) → Leads T (bit_or m n) x → Leads T m x ⊎ Leads T n x
union_parts T m n x (i, h, t) = elim (max_one (bit_at m i) (bit_at n i) (sym (bit_at_or m n i) ∙ h)) [ inl a ↦ inl (i, a, t) | inr b ↦ inr (i, b, t) ]

-- what leads on from a set leads on from a union with it
pub union_left : (T : Way) (m n : ℕ) (x : Labels) → Leads T m x → Leads T (bit_or m n) x
union_left T m n x (i, h, t) = (i, bit_at_or m n i ∙ max_left (bit_at m i) (bit_at n i) (bit_at-lt m i) (bit_at-lt n i) h, t)

-- what leads on from the second part of a union leads on from the union
pub union_right : (T : Way) (m n : ℕ) (x : Labels) → Leads T n x → Leads T (bit_or m n) x
union_right T m n x (i, h, t) = (i, bit_at_or m n i ∙ max_right (bit_at m i) (bit_at n i) (bit_at-lt m i) (bit_at-lt n i) h, t)

-- no number is both 0 and 1
zero_one : {Q : Type 0} (n : ℕ) → n ≡ 0 → n ≡ 1 → Q
zero_one n h k = absurd (omega (arith, h, k))

-- nothing leads on from the empty set
pub empty_leads : {Q : Type 0} (T : Way) (x : Labels) → Leads T 0 x → Q
empty_leads T x (i, h, t) = zero_one (bit_at 0 i) (bit_at-zero i) h

-- numbers are equal or not
same_or : (i b : ℕ) → (i ≡ b) ⊎ (i ≢ b)
same_or i b = by_test (i == b) refl
  where
    by_test : (t : Bool) → (i == b) ≡ t → (i ≡ b) ⊎ (i ≢ b)
    by_test true e = inl ((Decides-eqb i b).0 e)
    by_test false e = inr (not_from_Decides (i == b) (Decides-eqb i b) e)

-- what leads on from a set of one number leads on from that number
pub single_is : (T : Way) (b : ℕ) (x : Labels) → Leads T (2 ^ b) x → T b x
single_is T b x (i, h, t) = elim (same_or i b) [ inl e ↦ subst (λ j. T j x) e t | inr d ↦ zero_one (bit_at (2 ^ b) i) (bit_at-pow_other b i d) h ]

-- what leads on from a number leads on from the set of it
pub is_single : (T : Way) (b : ℕ) (x : Labels) → T b x → Leads T (2 ^ b) x
is_single T b x t = (b, bit_at-pow_same b, t)

-- two lists of positions, one after another, are as long as both together
length_append : (s t : List Position) → length (s ++ t) ≡ length s + length t
length_append [] t = omega arith
length_append (a ∷ s) t = omega (arith, length_append s t)

-- a path has as many positions as are counted, by its head
pub length_by : (h : Head) (m : Paths) → ((w : How) (k : Paths) → length (listed m w k) ≡ count m) → (k : Paths) → length (listed_by h m (listed m) k) ≡ count_by h (count m)
length_by (name l) m ih k = refl
length_by any m ih k = refl
length_by seq m ih k = ih in_turn k
length_by alt m ih k = ih one_of k
length_by star m ih k = ih one_of (path star m k)
length_by plus m ih k = ih one_of (path star m k)
length_by opt m ih k = ih one_of k

-- paths have as many positions as are counted
pub length_is : (m : Paths) (w : How) (k : Paths) → length (listed m w k) ≡ count m
length_is none w k = refl
length_is (path h m after) in_turn k =
    length_append (listed_by h m (listed m) (path seq after k)) (listed after in_turn k)
    ∙ omega (arith, length_by h m (length_is m) (path seq after k), length_is after in_turn k)
length_is (path h m after) one_of k =
    length_append (listed_by h m (listed m) k) (listed after one_of k)
    ∙ omega (arith, length_by h m (length_is m) k, length_is after one_of k)

-- positions in two parts are located, each part from its own number on
pub located_parts : (T : Way) (b : ℕ) (s t : List Position) → Located T b (s ++ t) → Located T b s × Located T (b + length s) t
-- positions in two parts are located, each part from its own number on
located_parts T b [] t h = (tt, (let e : b ≡ b + 0 = omega arith in subst (λ c. Located T c t) e h))
located_parts T b (a ∷ s) t h =
    let r = located_parts T (b + 1) s t h.1 in
    let e : (b + 1) + length s ≡ b + length (a ∷ s) = omega arith in
    ((h.0, r.0), subst (λ c. Located T c t) e r.1)

-- positions in two parts are located, the second from the number after those of the first on
pub parts_at : (T : Way) (b n : ℕ) (s t : List Position) → length s ≡ n → Located T b (s ++ t) → Located T b s × Located T (b + n) t
parts_at T b n s t e h = let r = located_parts T b s t h in (r.0, subst (λ c. Located T (b + c) t) e r.1)

-- a list begins at one of these first positions, or, where the paths may be empty, leads on from the set after
abbrev pub Ways : Way → List Position → Bool → ℕ → Labels → Type 0
Ways T s nl n x = Begins s x ⊎ (IsTrue nl × Leads T n x)

-- the set of the first positions of paths leads where these positions do, and where the set after does if the paths may be empty
abbrev pub Enter : Way → Paths → Type 0
-- the set of the first positions of paths leads where these positions do, and where the set after does if the paths may be empty
Enter T m = (w : How) (k : Paths) (b n : ℕ) (x : Labels) → Located T b (listed m w k) → Iff (Leads T (entry m w b n) x) (Ways T (starts m w k) (nullable m w) n x)

-- the union of a path's first positions and the set after leads where either does
with_before : (T : Way) (s : List Position) (nl : Bool) (n e : ℕ) (x : Labels) → Iff (Leads T e x) (Ways T s nl n x) → Iff (Leads T (bit_or n e) x) (Ways T s true n x)
with_before T s nl n e x ih = (there, back)
  where
    there : Leads T (bit_or n e) x → Ways T s true n x
    there l = elim (union_parts T n e x l) [ inl a ↦ inr (refl, a) | inr c ↦ elim (ih.0 c) [ inl d ↦ inl d | inr d ↦ inr (refl, d.1) ] ]

    back : Ways T s true n x → Leads T (bit_or n e) x
    back (inl d) = union_right T n e x (ih.1 (inl d))
    back (inr d) = union_left T n e x d.1

-- the set of one position leads where that position does
single_ways : (T : Way) (b n : ℕ) (s : Position) (x : Labels) → Iff (T b x) (Takes s x) → Iff (Leads T (2 ^ b) x) (Ways T (s ∷ []) false n x)
single_ways T b n s x h = (there, back)
  where
    there : Leads T (2 ^ b) x → Ways T (s ∷ []) false n x
    there l = inl (inl (h.0 (single_is T b x l)))

    back : Ways T (s ∷ []) false n x → Leads T (2 ^ b) x
    back (inl (inl t)) = is_single T b x (h.1 t)
    back (inl (inr c)) = absurd c
    back (inr d) = let f : false ≡ true = d.0 in cc

-- the set of a path's first positions leads where these do, and where the set after does if it may be empty, by its head
pub enters_by : (T : Way) (h : Head) (m : Paths) → Enter T m → (k : Paths) (b n : ℕ) (x : Labels) → Located T b (listed_by h m (listed m) k)
    → Iff (Leads T (entry_by h (entry m) b n) x) (Ways T (starts_by h m (starts m) k) (nullable_by h (nullable m)) n x)
enters_by T (name l) m ih k b n x at = single_ways T b n (record { test = Some l; rest = k }) x (at.0 x)
enters_by T any m ih k b n x at = single_ways T b n (record { test = None; rest = k }) x (at.0 x)
enters_by T seq m ih k b n x at = ih in_turn k b n x at
enters_by T alt m ih k b n x at = ih one_of k b n x at
enters_by T star m ih k b n x at = with_before T (starts m one_of (path star m k)) (nullable m one_of) n (entry m one_of b n) x (ih one_of (path star m k) b n x at)
enters_by T plus m ih k b n x at = ih one_of (path star m k) b n x at
enters_by T opt m ih k b n x at = with_before T (starts m one_of k) (nullable m one_of) n (entry m one_of b n) x (ih one_of k b n x at)

-- the first set of a path and those after it in turn leads where their first positions do, or the set after
then_ways : (T : Way) (s t : List Position) (p q : Bool) (n e f : ℕ) (x : Labels) → Iff (Leads T f x) (Ways T s p e x) → Iff (Leads T e x) (Ways T t q n x)
    → Iff (Leads T f x) (Ways T (s ++ positions_if p t) (p && q) n x)
then_ways T s t p q n e f x a c = (there, back)
  where
    there : Leads T f x → Ways T (s ++ positions_if p t) (p && q) n x
    there l = elim (a.0 l) [
      | inl d ↦ inl (begins_left s (positions_if p t) x d)
      | inr d ↦ elim (c.0 d.1) [
        | inl g ↦ inl (begins_right s (positions_if p t) x (so_begins p t x d.0 g))
        | inr g ↦ inr (and_both p q d.0 g.0, g.1)
      ]
    ]

    back : Ways T (s ++ positions_if p t) (p && q) n x → Leads T f x
    back (inl d) = elim (begins_parts s (positions_if p t) x d) [
      | inl g ↦ a.1 (inl g)
      | inr g ↦ (let r = begins_so p t x g in a.1 (inr (r.0, c.1 (inl r.1))))
    ]
    back (inr d) = let r = and_parts p q d.0 in a.1 (inr (r.0, c.1 (inr (r.1, d.1))))

-- the first set of a choice of a path and others leads where the first positions of either do, or the set after
or_ways : (T : Way) (s t : List Position) (p q : Bool) (n e f : ℕ) (x : Labels) → Iff (Leads T e x) (Ways T s p n x) → Iff (Leads T f x) (Ways T t q n x)
    → Iff (Leads T (bit_or e f) x) (Ways T (s ++ t) (p || q) n x)
or_ways T s t p q n e f x a c = (there, back)
  where
    there : Leads T (bit_or e f) x → Ways T (s ++ t) (p || q) n x
    there l = elim (union_parts T e f x l) [
      | inl d ↦ elim (a.0 d) [ inl g ↦ inl (begins_left s t x g) | inr g ↦ inr (or_left p q g.0, g.1) ]
      | inr d ↦ elim (c.0 d) [ inl g ↦ inl (begins_right s t x g) | inr g ↦ inr (or_right p q g.0, g.1) ]
    ]

    back : Ways T (s ++ t) (p || q) n x → Leads T (bit_or e f) x
    back (inl d) = elim (begins_parts s t x d) [ inl g ↦ union_left T e f x (a.1 (inl g)) | inr g ↦ union_right T e f x (c.1 (inl g)) ]
    back (inr d) = elim (or_parts p q d.0) [ inl g ↦ union_left T e f x (a.1 (inr (g, d.1))) | inr g ↦ union_right T e f x (c.1 (inr (g, d.1))) ]

-- the first set of no paths in turn is the set after, and leads where that does
end_ways : (T : Way) (n : ℕ) (x : Labels) → Iff (Leads T n x) (Ways T [] true n x)
end_ways T n x = ((λ l. inr (refl, l)), back)
  where
    back : Ways T [] true n x → Leads T n x
    back (inl d) = absurd d
    back (inr d) = d.1

-- the first set of a choice of no paths is empty, and leads nowhere
no_ways : (T : Way) (n : ℕ) (x : Labels) → Iff (Leads T 0 x) (Ways T [] false n x)
no_ways T n x = ((λ l. empty_leads T x l), back)
  where
    back : Ways T [] false n x → Leads T 0 x
    back (inl d) = absurd d
    back (inr d) = let f : false ≡ true = d.0 in cc

-- the set of the first positions of all paths leads where these do, and where the set after does if they may be empty
pub enters : (T : Way) (m : Paths) → Enter T m
enters T none in_turn k b n x at = end_ways T n x
enters T none one_of k b n x at = no_ways T n x
enters T (path h m after) in_turn k b n x at =
    let c : ℕ = count_by h (count m) in
    let r = parts_at T b c (listed_by h m (listed m) (path seq after k)) (listed after in_turn k) (length_by h m (length_is m) (path seq after k)) at in
    then_ways T (starts_by h m (starts m) (path seq after k)) (starts after in_turn k) (nullable_by h (nullable m)) (nullable after in_turn) n (entry after in_turn (b + c) n) _ x
    (enters_by T h m (enters T m) (path seq after k) b (entry after in_turn (b + c) n) x r.0) (enters T after in_turn k (b + c) n x r.1)
enters T (path h m after) one_of k b n x at =
    let c : ℕ = count_by h (count m) in
    let r = parts_at T b c (listed_by h m (listed m) k) (listed after one_of k) (length_by h m (length_is m) k) at in
    or_ways T (starts_by h m (starts m) k) (starts after one_of k) (nullable_by h (nullable m)) (nullable after one_of) n _ _ x
    (enters_by T h m (enters T m) k b n x r.0) (enters T after one_of k (b + c) n x r.1)
