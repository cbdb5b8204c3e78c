-- A step leads where the set led by that label.
use Rattle.std.proofs.Common.{◌≡◌, ◌∙◌, ◌⊎◌, inl, inr, ℕ, zero, suc, ◌+◌, ◌==◌, cond, Bool, true, false, ◌&&◌, IsTrue, List, [], ◌∷◌, ◌++◌, refl, sym, ap, subst, arith}
use Rattle.std.specs.Int.{bit_at}
use Rattle.std.specs.Int.RustNames.{bit_or}
use Rattle.std.proofs.lemmas.Bool.Decides.{Decides-eqb}
use Rattle.mix_base.proofs.Choices.{and_parts, and_both}
use Rattle.std.specs.Prelude.{◌↔◌ as Iff}
use Rattle.path_expr.specs.Form.{Head, name, any, seq, alt, star, plus, opt, Paths, none, path}
use Rattle.path_expr.specs.Description.{Labels, How, in_turn, one_of, DescribesAs}
use Rattle.path_expr.specs.Count.{count_by, count}
use Rattle.path_auto.specs.Positions.{Position, passes, Takes, Begins, nullable_by, nullable, starts_by, starts, listed_by, listed, tests}
use Rattle.path_auto.specs.Sets.{entry_by, entry, rows_by, rows, From, Leads, Located, step_from}
use Rattle.path_auto.proofs.FirstPositions.{complete, sound, nullable_describes, enter_by, sound_by, nullable_by_describes}
use Rattle.path_auto.proofs.Entries.{Way, union_parts, union_left, union_right, empty_leads, length_by, length_is, parts_at, Ways, enters_by, enters}

-- a set that leads where paths do
abbrev pub Means : Way → ℕ → Paths → Type 0
Means T n k = (x : Labels) → Iff (Leads T n x) (DescribesAs k in_turn x)

-- the set of a path's first positions leads where the path does, with what comes after it
pub head_means : (T : Way) (h : Head) (m k : Paths) (b n : ℕ) → Located T b (listed_by h m (listed m) k) → Means T n k → Means T (entry_by h (entry m) b n) (path h m k)
head_means T h m k b n at mean x = (there, back)
  where
    way : Iff (Leads T (entry_by h (entry m) b n) x) (Ways T (starts_by h m (starts m) k) (nullable_by h (nullable m)) n x)
    way = enters_by T h m (enters T m) k b n x at

    there : Leads T (entry_by h (entry m) b n) x → DescribesAs (path h m k) in_turn x
    there l = elim (way.0 l) [
      | inl d ↦ sound_by h m (sound m) k x d
      | inr d ↦ ([], x, refl, nullable_by_describes h m (nullable_describes m) d.0, (mean x).0 d.1)
    ]

    back : DescribesAs (path h m k) in_turn x → Leads T (entry_by h (entry m) b n) x
    back (y, z, e, f, g) = elim (enter_by h m (complete m) k y z f g) [
      | inl d ↦ way.1 (inr (d.0, (mean x).1 (subst (DescribesAs k in_turn) (ap (λ q. q ++ z) (sym d.1) ∙ e) g)))
      | inr d ↦ way.1 (inl (subst (Begins (starts_by h m (starts m) k)) e d))
    ]

-- each row leads where its position goes on
abbrev pub Match : Way → List ℕ → List Position → Type 0
Match T [] [] = Unit
Match T [] (s ∷ ss) = ⊥
Match T (r ∷ rs) [] = ⊥
Match T (r ∷ rs) (s ∷ ss) = Means T r s.rest × Match T rs ss

-- rows that match positions in two parts match all of them
match_append : (T : Way) (r : List ℕ) (s : List Position) (u : List ℕ) (v : List Position) → Match T r s → Match T u v → Match T (r ++ u) (s ++ v)
match_append T [] [] u v h k = k
match_append T [] (a ∷ s) u v h k = absurd h
match_append T (a ∷ r) [] u v h k = absurd h
match_append T (a ∷ r) (c ∷ s) u v h k = (h.0, match_append T r s u v h.1 k)

-- the rows of paths match their positions: each leads where its position goes on
abbrev pub Matches : Way → Paths → Type 0
-- the rows of paths match their positions: each leads where its position goes on
Matches T m = (w : How) (k : Paths) (b n : ℕ) → Located T b (listed m w k) → Means T n k → Match T (rows m w b n) (listed m w k)

-- the rows of a path match its positions, by its head
pub matches_by : (T : Way) (h : Head) (m : Paths) → Matches T m → (k : Paths) (b n : ℕ) → Located T b (listed_by h m (listed m) k) → Means T n k
    → Match T (rows_by h (rows m) (entry m) b n) (listed_by h m (listed m) k)
matches_by T (name l) m ih k b n at mean = (mean, tt)
matches_by T any m ih k b n at mean = (mean, tt)
matches_by T seq m ih k b n at mean = ih in_turn k b n at mean
matches_by T alt m ih k b n at mean = ih one_of k b n at mean
matches_by T star m ih k b n at mean = ih one_of (path star m k) b (bit_or n (entry m one_of b n)) at (head_means T star m k b n at mean)
matches_by T plus m ih k b n at mean = ih one_of (path star m k) b (bit_or n (entry m one_of b n)) at (head_means T star m k b n at mean)
matches_by T opt m ih k b n at mean = ih one_of k b n at mean

-- the rows of all paths match their positions
pub matches : (T : Way) (m : Paths) → Matches T m
matches T none w k b n at mean = tt
matches T (path h m after) in_turn k b n at mean =
    let c : ℕ = count_by h (count m) in
    let e : ℕ = entry after in_turn (b + c) n in
    let r = parts_at T b c (listed_by h m (listed m) (path seq after k)) (listed after in_turn k) (length_by h m (length_is m) (path seq after k)) at in
    match_append T (rows_by h (rows m) (entry m) b e) (listed_by h m (listed m) (path seq after k)) (rows after in_turn (b + c) n) (listed after in_turn k)
    (matches_by T h m (matches T m) (path seq after k) b e r.0 (head_means T seq after k (b + c) n r.1 mean))
    (matches T after in_turn k (b + c) n r.1 mean)
matches T (path h m after) one_of k b n at mean =
    let c : ℕ = count_by h (count m) in
    let r = parts_at T b c (listed_by h m (listed m) k) (listed after one_of k) (length_by h m (length_is m) k) at in
    match_append T (rows_by h (rows m) (entry m) b n) (listed_by h m (listed m) k) (rows after one_of (b + c) n) (listed after one_of k)
    (matches_by T h m (matches T m) k b n r.0 mean)
    (matches T after one_of k (b + c) n r.1 mean)

-- a table is located in itself
located_from : (T : Way) (b : ℕ) (s : List Position) → ((i : ℕ) (x : Labels) → T (b + i) x ≡ From s i x) → Located T b s
located_from T b [] h = tt
located_from T b (a ∷ s) h = (
  (λ x. let e : T b x ≡ Takes a x = ap (λ c. T c x) (zero_more b) ∙ h 0 x in ((λ t. subst (λ A. A) e t), (λ t. subst (λ A. A) (sym e) t))),
  located_from T (b + 1) s (λ i x. ap (λ c. T c x) (one_more b i) ∙ h (suc i) x),
)
  where
    zero_more : (b : ℕ) → b ≡ b + 0
    zero_more b = omega arith

    one_more : (b i : ℕ) → (b + 1) + i ≡ b + suc i
    one_more b i = omega arith

-- the positions of a list are located in the list from 0 on
pub located : (s : List Position) → Located (From s) 0 s
located s = located_from (From s) 0 s (λ i x. ap (λ c. From s c x) (none_more i))
  where
    none_more : (i : ℕ) → 0 + i ≡ i
    none_more i = omega arith

-- some position of the set takes the list of labels
abbrev pub OnAny : ℕ → ℕ → List Position → Labels → Type 0
OnAny n b [] x = ⊥
OnAny n b (s ∷ ss) x = ((bit_at n b ≡ 1) × Takes s x) ⊎ OnAny n (b + 1) ss x

-- a member of the set that leads on is one of them
pub on_from : (n b : ℕ) (s : List Position) (i : ℕ) (l : List ℕ) (y : Labels) → bit_at n (b + i) ≡ 1 → From s i (l ∷ y) → OnAny n b s (l ∷ y)
on_from n b [] zero l y h t = cc
on_from n b [] (suc i) l y h t = absurd t
-- a member of the set that leads on is one of them
on_from n b (a ∷ s) zero l y h t = let e : b + 0 ≡ b = omega arith in inl (subst (λ c. bit_at n c ≡ 1) e h, t)
-- a member of the set that leads on is one of them
on_from n b (a ∷ s) (suc i) l y h t = let e : b + suc i ≡ (b + 1) + i = omega arith in inr (on_from n (b + 1) s i l y (subst (λ c. bit_at n c ≡ 1) e h) t)

-- a list of labels that some position of a set takes leads on from a member of the set
pub from_on : (n b : ℕ) (s : List Position) (x : Labels) → OnAny n b s x → (i : ℕ) × (bit_at n (b + i) ≡ 1) × From s i x
from_on n b [] x h = absurd h
-- a list of labels that some position of a set takes leads on from a member of the set
from_on n b (a ∷ s) x (inl h) = let e : b ≡ b + 0 = omega arith in (0, subst (λ c. bit_at n c ≡ 1) e h.0, h.1)
from_on n b (a ∷ s) x (inr h) =
    let r = from_on n (b + 1) s x h in
    let e : (b + 1) + r.0 ≡ b + suc r.0 = omega arith in
    (suc r.0, subst (λ c. bit_at n c ≡ 1) e r.1, r.2)

-- the labels after the first
abbrev tail : Labels → Labels
tail [] = []
tail (l ∷ x) = x

-- the first label, or the one given
abbrev first_of_or : List ℕ → Labels → List ℕ
first_of_or d [] = d
first_of_or d (l ∷ x) = l

-- what a position takes: its first label may stand there, and the others follow
takes_rest : (s : Position) (l : List ℕ) (y : Labels) → Takes s (l ∷ y) → IsTrue (passes s.test l) × DescribesAs s.rest in_turn y
takes_rest s l y (c, z, e, p, f) = (subst (λ d. IsTrue (passes s.test d)) (ap (first_of_or l) e) p, subst (DescribesAs s.rest in_turn) (ap tail e) f)

-- the row of a member leads where the position does, after the label
row_leads : (T : Way) (n b r : ℕ) (s : Position) (l : List ℕ) (y : Labels) → Means T r s.rest
    → Iff (Leads T (cond (bit_at n b == 1 && passes s.test l) r 0) y) ((bit_at n b ≡ 1) × Takes s (l ∷ y))
row_leads T n b r s l y mean = (there (bit_at n b == 1 && passes s.test l) refl, back)
  where
    there : (t : Bool) → (bit_at n b == 1 && passes s.test l) ≡ t → Leads T (cond t r 0) y → (bit_at n b ≡ 1) × Takes s (l ∷ y)
    there true e d = let q = and_parts (bit_at n b == 1) (passes s.test l) e in ((Decides-eqb (bit_at n b) 1).0 q.0, (l, y, refl, q.1, (mean y).0 d))
    there false e d = empty_leads T y d

    back : (bit_at n b ≡ 1) × Takes s (l ∷ y) → Leads T (cond (bit_at n b == 1 && passes s.test l) r 0) y
    back (h, t) =
        let q = takes_rest s l y t in
        let e : (bit_at n b == 1 && passes s.test l) ≡ true = and_both (bit_at n b == 1) (passes s.test l) ((Decides-eqb (bit_at n b) 1).1 h) q.0 in
        subst (λ t. Leads T (cond t r 0) y) (sym e) ((mean y).1 q.1)

-- the set after a label leads where the set before it does with that label first
pub step_leads : (T : Way) (ss : List Position) (rs : List ℕ) (b n : ℕ) (l : List ℕ) (y : Labels) → Match T rs ss → Iff (Leads T (step_from (tests ss) rs b n l) y) (OnAny n b ss (l ∷ y))
step_leads T [] [] b n l y h = ((λ d. empty_leads T y d), (λ d. absurd d))
step_leads T [] (r ∷ rs) b n l y h = absurd h
step_leads T (s ∷ ss) [] b n l y h = absurd h
step_leads T (s ∷ ss) (r ∷ rs) b n l y h =
    let a = row_leads T n b r s l y h.0 in
    let c = step_leads T ss rs (b + 1) n l y h.1 in
    let now : ℕ = cond (bit_at n b == 1 && passes s.test l) r 0 in
    let more : ℕ = step_from (tests ss) rs (b + 1) n l in (
      (λ d. elim (union_parts T now more y d) [ inl g ↦ inl (a.0 g) | inr g ↦ inr (c.0 g) ]),
      (λ d. elim d [ inl g ↦ union_left T now more y (a.1 g) | inr g ↦ union_right T now more y (c.1 g) ]),
    )
