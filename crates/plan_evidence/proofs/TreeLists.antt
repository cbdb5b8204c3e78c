-- Lists of trees, one after another: how many trees each has, and what stands at a place among them.
use Rattle.std.proofs.Common.{◌≡◌, ◌⊎◌, inl, inr, ℕ, zero, suc, ◌+◌, true, false, List, [], ◌∷◌, take, refl, sym, ap, ◌∙◌, arith}
use Rattle.std.specs.Prelude.{Option, Some, slice_get, is_some}
use Rattle.std.specs.List.{AllByRecursion}
use Rattle.mix_base.proofs.Choices.{some_is, none_some}
use Rattle.mix_tree.specs.Forest.{Forest, none, tree, first_label, from, followed, joined}
use Rattle.mix_tree.specs.Place.{has_place, trees_at}
use Rattle.mix_tree.proofs.Kids.{from_none}
use Rattle.mix_tree.proofs.Places.{trees_at_none}

-- how many trees a list has
abbrev pub count : Forest → ℕ
count none = 0
count (tree label kids rest) = suc (count rest)

-- a list of trees is one tree
abbrev pub IsOne : Forest → Type 0
IsOne f = (label : List ℕ) × (kids : Forest) × (f ≡ tree label kids none)

-- the label at a place, where there is one
abbrev pub place_label : Forest → List ℕ → Option (List ℕ)
place_label f q = first_label (trees_at f q)

-- the label at a tree or below it isn't told by the trees after it
pub label_first : (label : List ℕ) (kids r s : Forest) (q : List ℕ) → place_label (tree label kids r) q ≡ place_label (tree label kids s) q
label_first label kids r s [] = refl
label_first label kids r s (i ∷ q) = refl

-- whether there is a place at a tree or below it isn't told by the trees after it
pub has_first : (label : List ℕ) (kids r s : Forest) (q : List ℕ) → has_place (tree label kids r) q ≡ has_place (tree label kids s) q
has_first label kids r s q = ap is_some (label_first label kids r s q)

-- among no trees there is no place
pub nowhere : (i : ℕ) (q : List ℕ) → has_place (from i none) q ≡ true → ⊥
nowhere i q h =
    let e : has_place (from i none) q ≡ false = ap (λ (f : Forest). has_place f q) (from_none i) ∙ ap (λ (f : Forest). is_some (first_label f)) (trees_at_none q) in
    let z : true ≡ false = sym h ∙ e in
    let f : ⊥ = cc in f

-- the label at a place among the first trees is that among those and others after them
pub label_left : (f g : Forest) (i : ℕ) (q : List ℕ) → has_place (from i f) q ≡ true → place_label (from i (followed f g)) q ≡ place_label (from i f) q
label_left none g i q h = absurd (nowhere i q h)
label_left (tree label kids rest) g zero q h = label_first label kids (followed rest g) rest q
label_left (tree label kids rest) g (suc i) q h = label_left rest g i q h

-- a place among the first trees is one among those and others after them
pub has_left : (f g : Forest) (i : ℕ) (q : List ℕ) → has_place (from i f) q ≡ true → has_place (from i (followed f g)) q ≡ true
has_left f g i q h = ap is_some (label_left f g i q h) ∙ h

-- behind the first trees stand the others
pub from_after : (f g : Forest) (i : ℕ) → from (count f + i) (followed f g) ≡ from i g
from_after none g i = (let e : 0 + i ≡ i = omega arith in ap (λ (n : ℕ). from n g) e)
from_after (tree label kids rest) g i =
    let e : suc (count rest) + i ≡ suc (count rest + i) = omega arith in
    ap (λ (n : ℕ). from n (tree label kids (followed rest g))) e ∙ from_after rest g i

-- two lists together have as many trees as both
pub count-followed : (f g : Forest) → count (followed f g) ≡ count f + count g
count-followed none g = omega arith
count-followed (tree label kids rest) g = omega (arith, count-followed rest g)

-- a place among trees and others after them is one among the first or one among the others
pub has_cases : (f g : Forest) (j : ℕ) (q : List ℕ) → has_place (from j (followed f g)) q ≡ true
    → (has_place (from j f) q ≡ true) ⊎ ((i : ℕ) × (j ≡ count f + i) × (has_place (from i g) q ≡ true))
has_cases none g j q h = inr (j, omega arith, h)
has_cases (tree label kids rest) g zero q h = inl (has_first label kids rest (followed rest g) q ∙ h)
has_cases (tree label kids rest) g (suc j) q h = elim (has_cases rest g j q h) [
  | inl x ↦ inl x
  | inr r ↦ inr (r.0, (let e = r.1 in omega (arith, e)), r.2)
]

module _ {X : Type 0} (f g : X → Forest) where
  -- functions that give the same trees of each member give the same list
  pub joined_same : (xs : List X) → AllByRecursion (λ x. f x ≡ g x) xs → joined f xs ≡ joined g xs
  joined_same [] h = refl
  joined_same (x ∷ xs) h = ap (λ (t : Forest). followed t (joined f xs)) h.0 ∙ ap (followed (g x)) (joined_same xs h.1)

module _ {X : Type 0} (f : X → Forest) where
  -- the label at a place among a member's trees is that among all trees, behind those of the members before it
  pub label_member : (xs : List X) (k : ℕ) (x : X) (i : ℕ) (q : List ℕ) → slice_get xs k ≡ Some x → has_place (from i (f x)) q ≡ true
      → place_label (from (count (joined f (take k xs)) + i) (joined f xs)) q ≡ place_label (from i (f x)) q
  label_member [] k x i q e h = none_some x e
  label_member (y ∷ xs) zero x i q e h =
      let z : 0 + i ≡ i = omega arith in
      let own : has_place (from i (f y)) q ≡ true = ap (λ (y : X). has_place (from i (f y)) q) (some_is y x e) ∙ h in
      ap (λ (n : ℕ). place_label (from n (followed (f y) (joined f xs))) q) z ∙ label_left (f y) (joined f xs) i q own
      ∙ ap (λ (y : X). place_label (from i (f y)) q) (some_is y x e)
  label_member (y ∷ xs) (suc k) x i q e h =
      let n : ℕ = count (joined f (take k xs)) in
      let z : count (followed (f y) (joined f (take k xs))) + i ≡ count (f y) + (n + i) = omega (arith, count-followed (f y) (joined f (take k xs))) in
      ap (λ (m : ℕ). place_label (from m (followed (f y) (joined f xs))) q) z
      ∙ ap (λ (t : Forest). place_label t q) (from_after (f y) (joined f xs) (n + i)) ∙ label_member xs k x i q e h

  -- a place among a member's trees is one among all trees, behind those of the members before it
  pub has_member : (xs : List X) (k : ℕ) (x : X) (i : ℕ) (q : List ℕ) → slice_get xs k ≡ Some x → has_place (from i (f x)) q ≡ true
      → has_place (from (count (joined f (take k xs)) + i) (joined f xs)) q ≡ true
  has_member xs k x i q e h = ap is_some (label_member xs k x i q e h) ∙ h

  -- a member among whose trees there is a place, counted from them
  pub record HasMember (xs : List X) (j : ℕ) (q : List ℕ) : Type 0 where
    pub number : ℕ
    pub one : X
    pub index : ℕ
    pub at : slice_get xs number ≡ Some one
    pub counts : j ≡ count (joined f (take number xs)) + index
    pub has : has_place (from index (f one)) q ≡ true

  -- a place among all trees is one among those of a member
  pub member_of : (xs : List X) (j : ℕ) (q : List ℕ) → has_place (from j (joined f xs)) q ≡ true → HasMember xs j q
  member_of [] j q h = absurd (nowhere j q h)
  member_of (x ∷ xs) j q h = elim (has_cases (f x) (joined f xs) j q h) [
    | inl a ↦ record { number = 0; one = x; index = j; at = refl; counts = omega arith; has = a }
    | inr r ↦ later r.0 r.1 (member_of xs r.0 q r.2)
  ]
    where
      later : (i : ℕ) → j ≡ count (f x) + i → HasMember xs i q → HasMember (x ∷ xs) j q
      later i e m = record {
        number = suc m.number;
        one = m.one;
        index = m.index;
        at = m.at;
        counts = (let d = m.counts in let c = count-followed (f x) (joined f (take m.number xs)) in omega (arith, e, d, c));
        has = m.has;
      }

  -- each member's trees are one tree
  abbrev pub AreOnes : List X → Type 0
  AreOnes xs = AllByRecursion (λ x. IsOne (f x)) xs

  -- the label at a member's tree, or below it, is that at the member's index among all, where each member is one tree
  pub label_one : (xs : List X) (j : ℕ) (x : X) (q : List ℕ) → AreOnes xs → slice_get xs j ≡ Some x → has_place (f x) q ≡ true
      → place_label (from j (joined f xs)) q ≡ place_label (f x) q
  label_one [] j x q a e h = none_some x e
  label_one (y ∷ xs) zero x q a e h =
      label_left (f y) (joined f xs) 0 q (ap (λ (y : X). has_place (f y) q) (some_is y x e) ∙ h) ∙ ap (λ (y : X). place_label (f y) q) (some_is y x e)
  label_one (y ∷ xs) (suc j) x q a e h =
      ap (λ (t : Forest). place_label (from (suc j) (followed t (joined f xs))) q) a.0.2 ∙ label_one xs j x q a.1 e h

  -- the tree of a member stands at the member's index, where each member is one tree
  pub has_one : (xs : List X) (j : ℕ) (x : X) (q : List ℕ) → AreOnes xs → slice_get xs j ≡ Some x → has_place (f x) q ≡ true → has_place (from j (joined f xs)) q ≡ true
  has_one xs j x q a e h = ap is_some (label_one xs j x q a e h) ∙ h

  -- a place among trees of which each member has one is one at a member's tree
  pub one_of : (xs : List X) (j : ℕ) (q : List ℕ) → AreOnes xs → has_place (from j (joined f xs)) q ≡ true → (x : X) × (slice_get xs j ≡ Some x) × (has_place (f x) q ≡ true)
  one_of [] j q a h = absurd (nowhere j q h)
  one_of (y ∷ xs) zero q a h = (
    y,
    refl,
    ap (λ (t : Forest). has_place t q) a.0.2 ∙ has_first a.0.0 a.0.1 none (joined f xs) q ∙ sym (ap (λ (t : Forest). has_place (followed t (joined f xs)) q) a.0.2) ∙ h,
  )
  one_of (y ∷ xs) (suc j) q a h = one_of xs j q a.1 (sym (ap (λ (t : Forest). has_place (from (suc j) (followed t (joined f xs))) q) a.0.2) ∙ h)
