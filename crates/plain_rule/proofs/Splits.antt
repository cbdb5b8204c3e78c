-- Ways to split a list of labels in two.
use Rattle.std.proofs.Common.{◌≡◌, ◌⊎◌, ◌∙◌, inl, inr, ◌<◌, ◌≤◌, ℕ, zero, suc, List, [], ◌∷◌, ◌++◌, length, take, drop, refl, sym, ap, subst, arith, length-append, take-append-drop, Bool, IsTrue, get_or, ◌↔◌, ◌==◌, true, false}
use Rattle.std.specs.Prelude.{nat_eq}
use Rattle.std.specs.Str.{bytes_eq}
use Rattle.std.proofs.lemmas.Bool.{eqb-true}
use Rattle.std.proofs.lemmas.Slice.Eq.{bytes_eq-Decides}
use Rattle.mix_base.proofs.Lists.{append_nil}
use Rattle.plain_rule.specs.Parts.{DescribesAlone, Begins}
use Rattle.std.proofs.lemmas.List.{take_at, drop_at}
use Rattle.path_expr.specs.Form.{Head, Form, repeated}
use Rattle.path_expr.specs.Description.{Labels, Describes, Then, Times, Many}

-- nothing is only nothing after nothing
pub split_nil : (y z : Labels) → y ++ z ≡ [] → (y ≡ []) × (z ≡ [])
split_nil [] z e = (refl, e)
split_nil (l ∷ y) z e = cc

-- a list is split before its first label, or after it
pub then_cases : (P Q : Labels → Type 0) (l : List ℕ) (x : Labels) → Then P Q (l ∷ x) → (P [] × Q (l ∷ x)) ⊎ Then (λ y. P (l ∷ y)) Q x
then_cases P Q l x ([], z, e, a, b) = inl (a, subst Q e b)
then_cases P Q l x (m ∷ y, z, e, a, b) =
    let f : m ≡ l = cc in
    let g : y ++ z ≡ x = cc in
    inr (y, z, g, subst (λ k. P (k ∷ y)) f a, b)

-- a list of labels after a first one that splits so, with that label before its first part, splits so with it
pub then_later : (P Q : Labels → Type 0) (l : List ℕ) (x : Labels) → Then (λ y. P (l ∷ y)) Q x → Then P Q (l ∷ x)
then_later P Q l x (y, z, e, a, b) = (l ∷ y, z, ap (λ r. l ∷ r) e, a, b)

-- any number of lists is none, or a first list that has a label, and any number after it
pub many_cases : (P : Labels → Type 0) (n : ℕ) (x : Labels) → Times P n x → (x ≡ []) ⊎ Then (λ y. (0 < length y) × P y) (Many P) x
many_cases P zero x h = inl h
many_cases P (suc n) x ([], z, e, a, b) = many_cases P n x (subst (Times P n) e b)
many_cases P (suc n) x (l ∷ y, z, e, a, b) = inr (l ∷ y, z, e, (omega arith, a), (n, b))

-- a list, and any number after it
pub many_more : (P : Labels → Type 0) (x : Labels) → Then P (Many P) x → Many P x
many_more P x (y, z, e, a, b) = (suc b.0, (y, z, e, a, b.1))

-- a list is split at an index
pub then_at : (P Q : Labels → Type 0) (x : Labels) (i : ℕ) → P (take i x) → Q (drop i x) → Then P Q x
then_at P Q x i a b = (take i x, drop i x, take-append-drop i x, a, b)

-- where no index splits it, nothing does
pub not_then : (P Q : Labels → Type 0) (x : Labels) → ((i : ℕ) → i ≤ length x → P (take i x) → Q (drop i x) → ⊥) → Then P Q x → ⊥
not_then P Q x h (y, z, e, a, b) =
    let long : length y ≤ length x = omega (arith, length-append y z, ap length e) in
    h (length y) long
    (subst P (sym (ap (take (length y)) (sym e) ∙ take_at y z (length y) refl)) a)
    (subst Q (sym (ap (drop (length y)) (sym e) ∙ drop_at y z (length y) refl)) b)

-- a list of one label is a label alone where it is the same
pub one_label : (w l : List ℕ) (x : Labels) (r : Bool) → length x ≡ 1 → l ≡ get_or x 0 l → r ≡ bytes_eq w l → IsTrue r ↔ (x ≡ w ∷ [])
one_label w l [] r n e f = absurd (omega arith)
one_label w l (m ∷ []) r n e f = (
  (λ h. (let g : w ≡ l = (bytes_eq-Decides w l).0 (sym f ∙ h) in ap (λ (k : List ℕ). k ∷ []) (sym (g ∙ e)))),
  (λ h. (let g : m ≡ w = cc in f ∙ (bytes_eq-Decides w l).1 (sym g ∙ sym e))),
)
one_label w l (m ∷ k ∷ x) r n e f = absurd (omega arith)

-- a list has one label where its length is one
pub single : (x : Labels) → IsTrue (nat_eq (length x) 1) ↔ ((l : List ℕ) × (x ≡ l ∷ []))
single [] = ((λ h. cc), (λ t. (let e = t.1 in cc)))
single (l ∷ []) = ((λ h. (l, refl)), (λ t. refl))
single (l ∷ m ∷ x) = (
  (λ h. (let e : length (l ∷ m ∷ x) ≡ 1 = eqb-true (length (l ∷ m ∷ x)) 1 h in absurd (omega arith))),
  (λ t. (let e = t.1 in cc)),
)

-- a list that is not empty is any number of lists where it begins with one
pub many_begins : (P : Labels → Type 0) (x : Labels) → (x ≡ [] → ⊥) → Many P x ↔ Begins P x
many_begins P x n = (
  (λ h. elim (many_cases P h.0 x h.1) [ inl e ↦ absurd (n e) | inr t ↦ t ]),
  (λ t. many_more P x (t.0, t.1, t.2, t.3.1, t.4)),
)

-- a list that is not empty is at least one list of the kind where it begins with one
pub some_begins : (P : Labels → Type 0) (x : Labels) → (x ≡ [] → ⊥) → Then P (Many P) x ↔ Begins P x
some_begins P x n = (
  (λ h. (many_begins P x n).0 (many_more P x h)),
  (λ t. (t.0, t.1, t.2, t.3.1, t.4)),
)

-- the empty list is at least one list of the kind where it is one
pub some_empty : (P : Labels → Type 0) (x : Labels) → x ≡ [] → Then P (Many P) x ↔ P x
some_empty P x e = (
  (λ h. (let f = split_nil h.0 h.1 (h.2 ∙ e) in subst P (f.0 ∙ sym e) h.3)),
  (λ a. (x, [], append_nil x, a, (0, refl))),
)

-- two facts that say the same
pub both_ways : {A B C : Type 0} → A ↔ B → C ↔ B → A ↔ C
both_ways f g = ((λ a. g.1 (f.0 a)), (λ c. f.1 (g.0 c)))

-- where no index from 1 on splits a list, the list doesn't begin with a list of the kind that has a label
pub not_begun : (P : Labels → Type 0) (x : Labels) → ((i : ℕ) → i ≤ length x → 0 < i → P (take i x) → Many P (drop i x) → ⊥) → Begins P x → ⊥
not_begun P x h t = not_then (λ y. (0 < length y) × P y) (Many P) x (λ i s a b. h i s (some_index i a.0) a.1 b) t
  where
    some_index : (i : ℕ) → 0 < length (take i x) → 0 < i
    some_index zero k = k
    some_index (suc i) k = omega arith

-- a path as the only member of a choice describes what it describes
pub alone_is : (p : Form) (x : Labels) → DescribesAlone p x → Describes p x
alone_is p x (inl a) = a
alone_is p x (inr h) = absurd h

-- a list of which the test of emptiness fails isn't empty
pub not_empty : (x : Labels) (r : Bool) → r ≡ (length x == 0) → r ≡ false → x ≡ [] → ⊥
not_empty x r e h n = let f : true ≡ false = sym (ap (λ (y : Labels). length y == 0) n) ∙ sym e ∙ h in cc

-- a mark describes by what its member describes
pub mark_is : (h : Head) (m member p : Form) (x : Labels) (r : Bool) → m ≡ member → repeated h member ≡ p
    → IsTrue r ↔ Describes (repeated h m) x → IsTrue r ↔ Describes p x
mark_is h m member p x r e f d = subst (λ (q : Form). IsTrue r ↔ Describes q x) (ap (repeated h) e ∙ f) d
