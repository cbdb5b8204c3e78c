-- Whether nodes are right evidence of an operator is decided.
use Rattle.std.proofs.Common.{◌≡◌, ◌∙◌, ◌<◌, ◌==◌, ◌⊎◌, inl, inr, ℕ, zero, suc, Bool, true, false, List, [], ◌∷◌, map, length, refl, ap, sym, subst, arith}
use Rattle.std.specs.List.{list_all}
use Rattle.std.specs.Str.{bytes_eq}
use Rattle.std.proofs.lemmas.Bool.{cases_lt}
use Rattle.std.proofs.lemmas.Bool.Decides.{nat_tests}
use Rattle.std.proofs.lemmas.Slice.Eq.{bytes_eq-Decides}
use Rattle.mix_base.specs.Ascents.{Among}
use Rattle.mix_tree.specs.Comparisons.{passes}
use Rattle.mix_tree.specs.Nodes.{Documents, Node, document_node}
use Rattle.path_expr.specs.Form.{Form}
use Rattle.path_expr.specs.Matches.{IsMatch}
use Rattle.plan_core.specs.Events.{VisitedAreMatches, visited}
use Rattle.plan_core.specs.Plans.{Operator}
use Rattle.plan_core.specs.Shapes.{Stage, filters, extends, first_by_keys, one_group, in_order, Shape, one_source, visits_below, pairs_up, passes_on, no_events, shape_at}
use Rattle.plan_evidence.specs.Evidence.{AreRight, IsEvidence, ShapeHolds, StageHolds, evidence_vars, is_on_way, places_of}

-- a statement holds, or it doesn't
abbrev pub Decided : Type 0 → Type 0
Decided A = A ⊎ (A → ⊥)

-- a test that comes out true is told apart from one that doesn't
pub decided_test : (b : Bool) → Decided (b ≡ true)
decided_test true = inl refl
decided_test false = inr (λ e. absurd (let z : false ≡ true = e in cc))

-- two numbers are the same or not
pub decided_number : (m n : ℕ) → Decided (m ≡ n)
decided_number m n = by (m == n) refl
  where
    by : (b : Bool) → (m == n) ≡ b → Decided (m ≡ n)
    by true e = inl (grind (arith, nat_tests, e))
    by false e = inr (λ same. absurd (let z : (m == n) ≡ true = grind (arith, nat_tests, same) in let w : false ≡ true = sym e ∙ z in cc))

-- two places are the same or not
pub decided_place : (p q : List ℕ) → Decided (p ≡ q)
decided_place p q = by (bytes_eq p q) refl
  where
    by : (b : Bool) → bytes_eq p q ≡ b → Decided (p ≡ q)
    by true e = inl ((bytes_eq-Decides p q).0 e)
    by false e = inr (λ same. absurd (let z : false ≡ true = sym e ∙ (bytes_eq-Decides p q).1 same in cc))

-- where both of two statements are decided, so is that both hold
pub decided_both : {A B : Type 0} → Decided A → Decided B → Decided (A × B)
decided_both (inl a) (inl b) = inl (a, b)
decided_both (inl a) (inr not) = inr (λ h. not h.1)
decided_both (inr not) b = inr (λ h. not h.0)

-- where one statement holds exactly where a decided one does, it is decided
pub decided_by : {A B : Type 0} → (A → B) → (B → A) → Decided A → Decided B
decided_by to from (inl a) = inl (to a)
decided_by to from (inr not) = inr (λ b. not (from b))

-- two nodes are the same or not
decided_node : (m n : Node) → Decided (m ≡ n)
decided_node m n =
    decided_by (λ h. both h.0 h.1) (λ e. (ap (λ (x : Node). x.source) e, ap (λ (x : Node). x.place) e)) (decided_both (decided_number m.source n.source) (decided_place m.place n.place))
  where
    both : m.source ≡ n.source → m.place ≡ n.place → m ≡ n
    both e k = ap (λ (s : ℕ). record { source = s; place = m.place }) e ∙ ap (λ (p : List ℕ). record { source = n.source; place = p }) k

-- two lists of places are the same or not
pub decided_places : (ps qs : List (List ℕ)) → Decided (ps ≡ qs)
decided_places [] [] = inl refl
decided_places [] (q ∷ qs) = inr (λ e. absurd (let z : [] ≡ q ∷ qs = e in cc))
decided_places (p ∷ ps) [] = inr (λ e. absurd (let z : p ∷ ps ≡ [] = e in cc))
decided_places (p ∷ ps) (q ∷ qs) =
    decided_by (λ h. both h.0 h.1) (λ e. (head e, tail e)) (decided_both (decided_place p q) (decided_places ps qs))
  where
    both : p ≡ q → ps ≡ qs → p ∷ ps ≡ q ∷ qs
    both e k = cc

    head : p ∷ ps ≡ q ∷ qs → p ≡ q
    head e = cc

    tail : p ∷ ps ≡ q ∷ qs → ps ≡ qs
    tail e = cc

-- a place is among others or not
decided_among : (place : List ℕ) (places : List (List ℕ)) → Decided (Among place places)
decided_among place [] = inr (λ h. h)
decided_among place (p ∷ ps) = by (decided_place place p) (decided_among place ps)
  where
    by : Decided (place ≡ p) → Decided (Among place ps) → Decided (Among place (p ∷ ps))
    by (inl here) later = inl (inl here)
    by (inr other) (inl there) = inl (inr there)
    by (inr other) (inr not) = inr (λ h. elim h [ inl here ↦ other here | inr there ↦ not there ])

module _ (visits : VisitedAreMatches) (docs : Documents) where
  -- a node is a match of a path from another or not
  decided_match : (path : Form) (start n : Node) → Decided (IsMatch docs path start n)
  decided_match path start n = by (decided_number n.source start.source)
    where
      there : Node
      there = record { source = start.source; place = n.place }

      by : Decided (n.source ≡ start.source) → Decided (IsMatch docs path start n)
      by (inl same) =
          let known = (visits docs).exactly path start n.place in
          decided_by (λ h. (same, (known.0 h).1)) (λ m. known.1 (refl, m.1)) (decided_among n.place ((visited docs).matches path start))
      by (inr not) = inr (λ m. not m.0)

  module _ (nodes : ℕ → Node) where
    -- a stage holds of nodes or not
    decided_stage : (stage : Stage) → Decided (StageHolds docs nodes stage)
    decided_stage (filters test) = decided_test (passes docs test nodes)
    decided_stage (extends out made) = inl tt
    decided_stage (first_by_keys keys group) = inl tt
    decided_stage (one_group piece out) = inl tt
    decided_stage (in_order v desc) = inl tt

    -- a shape holds of nodes or not
    decided_shape : (shape : Shape) → Decided (ShapeHolds docs nodes shape)
    decided_shape (one_source s out) = decided_node (nodes out) (document_node s)
    decided_shape (visits_below input start path out) = decided_match path (nodes start) (nodes out)
    decided_shape (pairs_up left right tests) = decided_test (list_all (λ t. passes docs t nodes) tests)
    decided_shape (passes_on input stage) = decided_stage stage
    decided_shape (no_events input made) = inl tt

    module _ (ops : List Operator) (n : ℕ) where
      -- the operators on the way below a number hold of nodes
      abbrev HoldBelow : ℕ → Type 0
      HoldBelow k = (i : ℕ) → i < k → is_on_way ops n i ≡ true → ShapeHolds docs nodes (shape_at ops i)

      -- with one operator more those below a number hold where they do and it does, where it is on the way
      one_more : (k : ℕ) → HoldBelow k → (is_on_way ops n k ≡ true → ShapeHolds docs nodes (shape_at ops k)) → HoldBelow (suc k)
      one_more k all own i less on =
          elim (cases_lt i k) as (λ _. ShapeHolds docs nodes (shape_at ops i)) [
            | inl low ↦ all i low on
            | inr high ↦ (
                let same : i ≡ k = omega (arith, less, high) in
                subst (λ (j : ℕ). ShapeHolds docs nodes (shape_at ops j)) (sym same) (own (subst (λ (j : ℕ). is_on_way ops n j ≡ true) same on))
                )
          ]

      -- the operators on the way below a number all hold or not
      decided_below : (k : ℕ) → Decided (HoldBelow k)
      decided_below zero = inl (λ i less on. absurd (omega (arith, less)))
      decided_below (suc k) = by (decided_below k) (is_on_way ops n k) refl (decided_shape (shape_at ops k))
        where
          by : Decided (HoldBelow k) → (b : Bool) → is_on_way ops n k ≡ b → Decided (ShapeHolds docs nodes (shape_at ops k)) → Decided (HoldBelow (suc k))
          by (inr not) b on own = inr (λ all. not (λ i less. all i (omega (arith, less))))
          by (inl all) true on (inl own) = inl (one_more k all (λ _. own))
          by (inl all) true on (inr not) = inr (λ more. not (more k (omega arith) on))
          by (inl all) false on own = inl (one_more k all (λ e. absurd (let z : true ≡ false = sym e ∙ on in cc)))

      -- places are those of right evidence, which is given nodes, or not
      pub decided_evidence : (places : List (List ℕ)) → Decided (IsEvidence docs ops n places nodes)
      decided_evidence places =
          decided_by (λ h. record { right = h.0; written = h.1 }) (λ e. (e.right, e.written))
          (decided_both (decided_below (length ops)) (decided_places (places_of (evidence_vars ops n) nodes) places))
