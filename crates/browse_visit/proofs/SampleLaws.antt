-- Labels that stand for all labels, to the automaton of a path.
use Rattle.std.proofs.Common.{◌≡◌, inl, inr, ◌⊎◌, ℕ, ◌+◌, ◌≤◌, true, false, cond, List, [], ◌∷◌, ◌++◌, length, refl, sym, ap, subst, ◌∙◌, arith, length-append, append_assoc}
use Rattle.std.specs.Prelude.{Bool, Option, Some, None, ◌&&◌, ◌==◌}
use Rattle.std.specs.Str.{bytes_eq}
use Rattle.std.specs.Int.{bit_at}
use Rattle.std.specs.Int.RustNames.{bit_or}
use Rattle.std.proofs.lemmas.Slice.Eq.{bytes_eq-Decides}
use Rattle.mix_base.specs.Ascents.{Among}
use Rattle.mix_base.proofs.Ascents.{among_left, among_right}
use Rattle.path_auto.specs.Automaton.{Table, machine_of}
use Rattle.path_auto.specs.Positions.{passes}
use Rattle.path_expr.specs.Form.{Form, paths_of}
use Rattle.path_auto.specs.Sets.{step_from, tests_by, tests_of}
use Rattle.path_auto.proofs.Unions.{tests_only}
use Rattle.browse_visit.specs.Visits.{AreSamples}
use Rattle.browse_visit.specs.Samples.{written, all_bytes, other_label, sample_labels}

-- two labels are the same to all tests
AreAlike : List (Option (List ℕ)) → List ℕ → List ℕ → Type 0
AreAlike ts l x = (t : Option (List ℕ)) → Among t ts → passes t l ≡ passes t x

-- what is the same to the tests is the same to the steps
step_alike : (ts : List (Option (List ℕ))) (rs : List ℕ) (b n : ℕ) (l x : List ℕ) → ((t : Option (List ℕ)) → Among t ts → passes t l ≡ passes t x) → step_from ts rs b n l ≡ step_from ts rs b n x
step_alike [] rs b n l x h = refl
step_alike (t ∷ ts) [] b n l x h = refl
step_alike (t ∷ ts) (r ∷ rs) b n l x h =
    ap (λ (w : Bool). bit_or (cond (bit_at n b == 1 && w) r 0) (step_from ts rs (b + 1) n l)) (h t (inl refl))
    ∙ ap (λ (z : ℕ). bit_or (cond (bit_at n b == 1 && passes t x) r 0) z) (step_alike ts rs (b + 1) n l x (λ u a. h u (inr a)))

-- a label is one of those that are written, or no test for a label passes it
is_written : (ts : List (Option (List ℕ))) (l : List ℕ) → Among l (written ts) ⊎ ((x : List ℕ) → Among (Some x) ts → bytes_eq x l ≡ false)
is_written [] l = inr (λ x a. absurd a)
is_written (None ∷ ts) l = elim (is_written ts l) [ inl a ↦ inl a | inr h ↦ inr (λ x a. elim a [ inl e ↦ absurd (no_some x e) | inr b ↦ h x b ]) ]
  where
    no_some : (x : List ℕ) → Some x ≡ None → ⊥
    no_some x e = cc
is_written (Some y ∷ ts) l =
    (elim (bytes_eq y l) as (λ w. bytes_eq y l ≡ w → Among l (written (Some y ∷ ts)) ⊎ ((x : List ℕ) → Among (Some x) (Some y ∷ ts) → bytes_eq x l ≡ false)) [
      | true ↦ λ e. inl (inl (sym ((bytes_eq-Decides y l).0 e)))
      | false ↦ λ e. elim (is_written ts l) [ inl a ↦ inl (inr a) | inr h ↦ inr (λ x a. elim a [ inl i ↦ (let k : x ≡ y = cc in ap (λ (z : List ℕ). bytes_eq z l) k ∙ e) | inr b ↦ h x b ]) ]
    ]) refl

-- each of some labels is no longer than all their bytes
shorter : (ls : List (List ℕ)) (x : List ℕ) → Among x ls → length x ≤ length (all_bytes ls)
shorter [] x a = absurd a
shorter (y ∷ ls) x (inl e) = let h = length-append y (all_bytes ls) in subst (λ (z : List ℕ). length z ≤ length (y ++ all_bytes ls)) (sym e) (omega (arith, h))
shorter (y ∷ ls) x (inr a) = let h = length-append y (all_bytes ls) in let k = shorter ls x a in omega (arith, h, k)

-- the other label is none of the labels that are written
other_fails : (ls : List (List ℕ)) (x : List ℕ) → Among x ls → bytes_eq x (other_label ls) ≡ false
other_fails ls x a =
    (elim (bytes_eq x (other_label ls)) as (λ w. bytes_eq x (other_label ls) ≡ w → w ≡ false) [
      | true ↦ λ e. (let k = ap (λ (z : List ℕ). length z) ((bytes_eq-Decides x (other_label ls)).0 e) in let h = shorter ls x a in absurd (omega (arith, k, h)))
      | false ↦ λ e. refl
    ]) refl

-- a label of a test is written
test_written : (ts : List (Option (List ℕ))) (x : List ℕ) → Among (Some x) ts → Among x (written ts)
test_written [] x a = absurd a
test_written (None ∷ ts) x (inl e) = (let f : Some x ≡ None = e in cc)
test_written (None ∷ ts) x (inr a) = test_written ts x a
test_written (Some y ∷ ts) x (inl e) = (let k : x ≡ y = cc in inl k)
test_written (Some y ∷ ts) x (inr a) = inr (test_written ts x a)

-- a label that no label of a test equals passes the same tests as the other label
alike_other : (ts : List (Option (List ℕ))) (l : List ℕ) → ((x : List ℕ) → Among (Some x) ts → bytes_eq x l ≡ false) → (t : Option (List ℕ)) → Among t ts → passes t l ≡ passes t (other_label (written ts))
alike_other ts l h None a = refl
alike_other ts l h (Some x) a = h x a ∙ sym (other_fails (written ts) x (test_written ts x a))

-- the written labels and one other stand for all
pub are_samples : (t : Table) → AreSamples (machine_of t) (sample_labels t.labels)
unfolding machine_of
are_samples t l =
    let other : List ℕ = other_label (written t.labels) in
    elim (is_written t.labels l) [
      | inl a ↦ (l, among_left (written t.labels) (other ∷ []) l a, λ q. refl)
      | inr h ↦ (other, among_right (written t.labels) (other ∷ []) other (inl refl), λ q. step_alike t.labels t.after 0 q l other (alike_other t.labels l h))
    ]

-- the labels that two lists of tests write are those of the first and then those of the second
pub written_append : (a b : List (Option (List ℕ))) → written (a ++ b) ≡ written a ++ written b
written_append [] b = refl
written_append (None ∷ a) b = written_append a b
written_append (Some l ∷ a) b = ap (λ (z : List (List ℕ)). l ∷ z) (written_append a b)

-- the labels of one path, and then those of others
pub names_pushed : (old mid new : List (List ℕ)) (first : Form) (rest : List Form) → mid ≡ old ++ written (tests_by first.head (tests_of first.members)) → new ≡ mid ++ written (tests_of (paths_of rest))
    → new ≡ old ++ written (tests_of (paths_of (first ∷ rest)))
names_pushed old mid new first rest a b =
    let one : List (List ℕ) = written (tests_by first.head (tests_of first.members)) in
    let more : List (List ℕ) = written (tests_of (paths_of rest)) in
    b ∙ ap (λ (z : List (List ℕ)). z ++ more) a ∙ append_assoc old one more ∙ ap (λ (z : List (List ℕ)). old ++ z) (sym (written_append (tests_by first.head (tests_of first.members)) (tests_of (paths_of rest))))

-- the labels that a list of one path writes are those that the path writes
pub names_alone : (p : Form) → written (tests_of (paths_of (p ∷ []))) ≡ written (tests_by p.head (tests_of p.members))
names_alone p = ap written (tests_only p)
