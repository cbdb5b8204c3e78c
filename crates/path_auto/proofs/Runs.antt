-- After a run over a list the set tells whether it is described, and whether some longer one is.
use Rattle.std.proofs.Common.{◌≡◌, ◌∙◌, ℕ, zero, suc, ◌+◌, ◌^◌, IsTrue, List, [], ◌∷◌, ◌++◌, length, refl, sym, ap, subst, arith}
use Rattle.std.specs.Int.{bit_at}
use Rattle.std.proofs.lemmas.Bool.Decides.{Decides-eqb}
use Rattle.mix_base.proofs.Lists.{append_nil}
use Rattle.std.specs.Prelude.{◌↔◌ as Iff}
use Rattle.path_expr.specs.Form.{none, path, Form}
use Rattle.path_expr.specs.Description.{Labels, in_turn, DescribesAs, Describes}
use Rattle.path_auto.specs.Positions.{Position}
use Rattle.path_auto.specs.Sets.{From, Leads, end_of, first_set, listed_in, rows_in, step, run, accepts}
use Rattle.path_auto.proofs.Entries.{single_is, is_single, length_by, length_is}
use Rattle.path_auto.proofs.Steps.{Means, head_means, Match, matches_by, matches, located, OnAny, on_from, from_on, step_leads}

-- from the end only the empty list leads to the end
from_end : (s : List Position) (x : Labels) → From s (length s) x → x ≡ []
from_end [] x h = h
from_end (a ∷ s) x h = from_end s x h

-- the empty list leads from the end to the end
end_from : (s : List Position) (x : Labels) → x ≡ [] → From s (length s) x
end_from [] x h = h
end_from (a ∷ s) x h = end_from s x h

-- only from the end does the empty list lead to the end
from_nil : (s : List Position) (i : ℕ) → From s i [] → i ≡ length s
from_nil [] zero h = refl
from_nil [] (suc i) h = absurd h
from_nil (a ∷ s) zero (c, y, e, p, f) = cc
from_nil (a ∷ s) (suc i) h = ap suc (from_nil s i h)

-- a path's list of positions is as long as their count
size_is : (p : Form) → length (listed_in p) ≡ end_of p
size_is p = length_by p.head p.members (length_is p.members) none

-- the set of the end leads where nothing follows
end_means : (p : Form) → Means (From (listed_in p)) (2 ^ end_of p) none
end_means p x = (
  (λ l. from_end (listed_in p) x (subst (λ c. From (listed_in p) c x) (sym (size_is p)) (single_is (From (listed_in p)) (end_of p) x l))),
  (λ e. is_single (From (listed_in p)) (end_of p) x (subst (λ c. From (listed_in p) c x) (size_is p) (end_from (listed_in p) x e))),
)

-- the first set leads where the path describes
pub first_leads : (p : Form) (x : Labels) → Iff (Leads (From (listed_in p)) (first_set p) x) (Describes p x)
first_leads p x = (there, back)
  where
    means : Iff (Leads (From (listed_in p)) (first_set p) x) (DescribesAs (path p.head p.members none) in_turn x)
    means = head_means (From (listed_in p)) p.head p.members none 0 (2 ^ end_of p) (located (listed_in p)) (end_means p) x

    alone : DescribesAs (path p.head p.members none) in_turn x → Describes p x
    alone (y, z, e, f, g) = subst (Describes p) (sym (append_nil y) ∙ ap (λ q. y ++ q) (sym g) ∙ e) f

    there : Leads (From (listed_in p)) (first_set p) x → Describes p x
    there l = alone (means.0 l)

    back : Describes p x → Leads (From (listed_in p)) (first_set p) x
    back d = means.1 (x, [], append_nil x, d, refl)

-- what leads on from a set begins at one of its positions
pub on_leads : (s : List Position) (n : ℕ) (l : List ℕ) (y : Labels) → Iff (OnAny n 0 s (l ∷ y)) (Leads (From s) n (l ∷ y))
on_leads s n l y = (there, back)
  where
    none_more : (i : ℕ) → 0 + i ≡ i
    none_more i = omega arith

    there : OnAny n 0 s (l ∷ y) → Leads (From s) n (l ∷ y)
    there h = let r = from_on n 0 s (l ∷ y) h in (r.0, subst (λ c. bit_at n c ≡ 1) (none_more r.0) r.1, r.2)

    back : Leads (From s) n (l ∷ y) → OnAny n 0 s (l ∷ y)
    back (i, h, t) = on_from n 0 s i l y (subst (λ c. bit_at n c ≡ 1) (sym (none_more i)) h) t

-- each row leads where its position goes on
all_match : (p : Form) → Match (From (listed_in p)) (rows_in p) (listed_in p)
all_match p = matches_by (From (listed_in p)) p.head p.members (matches (From (listed_in p)) p.members) none 0 (2 ^ end_of p) (located (listed_in p)) (end_means p)

-- a step takes the first label
step_is : (p : Form) (n : ℕ) (l : List ℕ) (y : Labels) → Iff (Leads (From (listed_in p)) (step p n l) y) (Leads (From (listed_in p)) n (l ∷ y))
step_is p n l y =
    let a = step_leads (From (listed_in p)) (listed_in p) (rows_in p) 0 n l y (all_match p) in
    let c = on_leads (listed_in p) n l y in
    ((λ d. c.0 (a.0 d)), (λ d. a.1 (c.1 d)))

-- a run takes the labels of a list
pub run_leads : (p : Form) (x : Labels) (n : ℕ) (y : Labels) → Iff (Leads (From (listed_in p)) (run p n x) y) (Leads (From (listed_in p)) n (x ++ y))
run_leads p [] n y = ((λ d. d), (λ d. d))
run_leads p (l ∷ x) n y =
    let a = run_leads p x (step p n l) y in
    let c = step_is p n l (x ++ y) in
    ((λ d. c.0 (a.0 d)), (λ d. a.1 (c.1 d)))

-- the end is in a set exactly where the empty list leads on from it
pub accepts_leads : (p : Form) (n : ℕ) → Iff (IsTrue (accepts p n)) (Leads (From (listed_in p)) n [])
accepts_leads p n = (there, back)
  where
    there : IsTrue (accepts p n) → Leads (From (listed_in p)) n []
    there h = (end_of p, (Decides-eqb (bit_at n (end_of p)) 1).0 h, subst (λ c. From (listed_in p) c []) (size_is p) (end_from (listed_in p) [] refl))

    back : Leads (From (listed_in p)) n [] → IsTrue (accepts p n)
    back (i, h, t) = (Decides-eqb (bit_at n (end_of p)) 1).1 (subst (λ c. bit_at n c ≡ 1) (from_nil (listed_in p) i t ∙ size_is p) h)

-- after a list's labels the end is in the set exactly where the path describes the list
pub accepts_is : (p : Form) (x : Labels) → Iff (IsTrue (accepts p (run p (first_set p) x))) (Describes p x)
accepts_is p x =
    let a = accepts_leads p (run p (first_set p) x) in
    let c = run_leads p x (first_set p) [] in
    let d = first_leads p x in (
      (λ h. d.0 (subst (Leads (From (listed_in p)) (first_set p)) (append_nil x) (c.0 (a.0 h)))),
      (λ h. a.1 (c.1 (subst (Leads (From (listed_in p)) (first_set p)) (sym (append_nil x)) (d.1 h)))),
    )
