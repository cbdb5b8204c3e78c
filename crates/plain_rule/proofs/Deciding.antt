-- It can be decided whether a path describes a list of labels.
use Rattle.std.proofs.Common.{◌≡◌, ◌⊎◌, ◌↔◌, inl, inr, ◌<◌, ◌≤◌, ℕ, zero, suc, Bool, true, false, List, [], ◌∷◌, length, refl, ap, subst, arith, length-append}
use Rattle.std.specs.Str.{bytes_eq}
use Rattle.std.proofs.lemmas.Slice.Eq.{bytes_eq-Decides}
use Rattle.path_expr.specs.Form.{Head, name, any, seq, alt, star, plus, opt, Paths, none, path, Form}
use Rattle.path_expr.specs.Description.{Labels, How, in_turn, one_of, Then, Many, DescribesBy, DescribesAs}
use Rattle.plain_rule.specs.Found.{Tests}
use Rattle.plain_rule.proofs.Splits.{split_nil, then_cases, then_later, many_cases, many_more}

-- a statement is decided: it holds, or it does not
abbrev pub Either : Type 0 → Type 0
Either P = P ⊎ (P → ⊥)

-- whether a list is one of a kind and then one of another is decided, where each kind is
then_decided : (P Q : Labels → Type 0) → ((y : Labels) → Either (P y)) → ((z : Labels) → Either (Q z)) → (x : Labels) → Either (Then P Q x)
then_decided P Q p q [] =
    elim (p []) [
      | inl a ↦ elim (q []) [
        | inl b ↦ inl ([], [], refl, a, b)
        | inr n ↦ inr (λ (t : Then P Q []). n (subst Q (split_nil t.0 t.1 t.2).1 t.4))
      ]
      | inr n ↦ inr (λ (t : Then P Q []). n (subst P (split_nil t.0 t.1 t.2).0 t.3))
    ]
then_decided P Q p q (l ∷ x) = by (p []) (q (l ∷ x)) (then_decided (λ y. P (l ∷ y)) Q (λ y. p (l ∷ y)) q x)
  where
    by : Either (P []) → Either (Q (l ∷ x)) → Either (Then (λ y. P (l ∷ y)) Q x) → Either (Then P Q (l ∷ x))
    by a b (inl t) = inl (then_later P Q l x t)
    by (inl a) (inl b) (inr n) = inl ([], l ∷ x, refl, a, b)
    by (inl a) (inr m) (inr n) = inr (λ t. elim (then_cases P Q l x t) [ inl c ↦ m c.1 | inr c ↦ n c ])
    by (inr m) b (inr n) = inr (λ t. elim (then_cases P Q l x t) [ inl c ↦ m c.0 | inr c ↦ n c ])

-- whether two statements both hold is decided, where each is
both_decided : (P Q : Type 0) → Either P → Either Q → Either (P × Q)
both_decided P Q (inl a) (inl b) = inl (a, b)
both_decided P Q (inl a) (inr n) = inr (λ h. n h.1)
both_decided P Q (inr n) b = inr (λ h. n h.0)

-- whether a number is at most another
le_decided : (m n : ℕ) → Either (m ≤ n)
le_decided zero n = inl (omega arith)
le_decided (suc m) zero = inr (λ h. omega arith)
le_decided (suc m) (suc n) = elim (le_decided m n) [ inl h ↦ inl (omega arith) | inr h ↦ inr (λ (k : suc m ≤ suc n). (let g : m ≤ n = omega arith in h g)) ]

-- any number of lists, in a list that is at most so long
abbrev Short : (Labels → Type 0) → ℕ → Labels → Type 0
Short P n z = (length z ≤ n) × Many P z

-- whether a list is short and any number of lists is decided, where it is for lists so long
short_decided : (P : Labels → Type 0) (n : ℕ) → ((z : Labels) → length z ≤ n → Either (Many P z)) → (z : Labels) → Either (Short P n z)
short_decided P n d z = elim (le_decided (length z) n) [
  | inl s ↦ elim (d z s) [ inl a ↦ inl (s, a) | inr m ↦ inr (λ a. m a.1) ]
  | inr m ↦ inr (λ a. m a.0)
]

-- what stands after a first label is shorter
shorter : (P : Labels → Type 0) (n : ℕ) (l : List ℕ) (x : Labels) → length (l ∷ x) ≤ suc n → Then (λ y. P (l ∷ y)) (Many P) x → Then (λ y. P (l ∷ y)) (Short P n) x
shorter P n l x h (y, z, e, a, b) = (let s : length z ≤ n = omega (arith, length-append y z, ap length e) in (y, z, e, a, (s, b)))

-- a list that is not empty is a first list that has a label, and shorter lists after it
first_of : (P : Labels → Type 0) (n : ℕ) (l : List ℕ) (x : Labels) → length (l ∷ x) ≤ suc n → Many P (l ∷ x) → Then (λ y. P (l ∷ y)) (Short P n) x
first_of P n l x h (k, t) = elim (many_cases P k (l ∷ x) t) [
  | inl e ↦ cc
  | inr s ↦ elim (then_cases (λ y. (0 < length y) × P y) (Many P) l x s) [
    | inl c ↦ absurd (omega (arith, c.0.0))
    | inr c ↦ shorter P n l x h (c.0, c.1, c.2, c.3.1, c.4)
  ]
]

-- any number of lists, where the whole is at most so long
many_decided : (P : Labels → Type 0) → ((y : Labels) → Either (P y)) → (n : ℕ) (x : Labels) → length x ≤ n → Either (Many P x)
many_decided P p n [] h = inl (0, refl)
many_decided P p zero (l ∷ x) h = absurd (omega arith)
many_decided P p (suc n) (l ∷ x) h =
    elim (then_decided (λ y. P (l ∷ y)) (Short P n) (λ y. p (l ∷ y)) (short_decided P n (λ z s. many_decided P p n z s)) x) [
      | inl t ↦ inl (many_more P (l ∷ x) (then_later P (Many P) l x (t.0, t.1, t.2, t.3, t.4.1)))
      | inr m ↦ inr (λ t. m (first_of P n l x h t))
    ]

-- whether a list is one label alone
alone_decided : (l : List ℕ) (x : Labels) → Either (x ≡ l ∷ [])
alone_decided l [] = inr (λ e. cc)
alone_decided l (m ∷ []) = by (bytes_eq m l) (bytes_eq-Decides m l)
  where
    by : (b : Bool) → (b ≡ true) ↔ (m ≡ l) → Either ((m ∷ []) ≡ (l ∷ []))
    by true d = inl (ap (λ (k : List ℕ). k ∷ []) (d.0 refl))
    by false d = inr (λ e. (let f : m ≡ l = cc in let g : false ≡ true = d.1 f in cc))
alone_decided l (m ∷ k ∷ x) = inr (λ e. cc)

-- what a head describes, where it can be decided what its members do
head_decided : (h : Head) (M : How → Labels → Type 0) → ((w : How) (x : Labels) → Either (M w x)) → (x : Labels) → Either (DescribesBy h M x)
head_decided (name l) M d x = alone_decided l x
head_decided any M d [] = inr (λ t. cc (t.1))
head_decided any M d (m ∷ []) = inl (m, refl)
head_decided any M d (m ∷ k ∷ x) = inr (λ t. cc (t.1))
head_decided seq M d x = d in_turn x
head_decided alt M d x = d one_of x
head_decided star M d x = many_decided (M one_of) (d one_of) (length x) x (omega arith)
head_decided plus M d x = then_decided (M one_of) (Many (M one_of)) (d one_of) (λ z. many_decided (M one_of) (d one_of) (length z) z (omega arith)) x
head_decided opt M d [] = inl (inl refl)
head_decided opt M d (l ∷ x) = elim (d one_of (l ∷ x)) [ inl a ↦ inl (inr a) | inr n ↦ inr (λ h. elim h [ inl e ↦ cc | inr a ↦ n a ]) ]

-- whether paths describe a list is decided
paths_decided : (ps : Paths) (w : How) (x : Labels) → Either (DescribesAs ps w x)
paths_decided none in_turn [] = inl refl
paths_decided none in_turn (l ∷ x) = inr (λ e. cc)
paths_decided none one_of x = inr (λ e. e)
paths_decided (path h m after) in_turn x =
    then_decided (DescribesBy h (DescribesAs m)) (DescribesAs after in_turn) (λ y. head_decided h (DescribesAs m) (λ w z. paths_decided m w z) y) (λ z. paths_decided after in_turn z) x
paths_decided (path h m after) one_of x =
    elim (head_decided h (DescribesAs m) (λ w z. paths_decided m w z) x) [
      | inl a ↦ inl (inl a)
      | inr n ↦ elim (paths_decided after one_of x) [ inl b ↦ inl (inr b) | inr k ↦ inr (λ h. elim h [ inl a ↦ n a | inr b ↦ k b ]) ]
    ]

-- whether a decided statement holds
holds : {P : Type 0} → Either P → Bool
holds (inl a) = true
holds (inr n) = false

-- a decided statement is found to hold exactly where it does
holds_is : {P : Type 0} (d : Either P) → (holds d ≡ true) ↔ P
unfolding holds
holds_is (inl a) = ((λ h. a), (λ h. refl))
holds_is (inr n) = ((λ h. cc), (λ h. absurd (n h)))

-- whether a path describes a list of labels
pub test_of : Form → Labels → Bool
test_of p x = holds (head_decided p.head (DescribesAs p.members) (λ w z. paths_decided p.members w z) x)

-- the test of a path holds exactly of what the path describes
pub tests : (p : Form) → Tests p (test_of p)
unfolding test_of
tests p x = holds_is (head_decided p.head (DescribesAs p.members) (λ w z. paths_decided p.members w z) x)
