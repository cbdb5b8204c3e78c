-- The nodes at the parts of a position are right evidence of its binding, where that is among the operator's events.
use Rattle.std.proofs.Common.{◌≡◌, ◌<◌, ℕ, zero, suc, Bool, true, false, cond, List, [], ◌∷◌, ◌++◌, inl, inr, refl, sym, ap, subst, ◌∙◌, arith, length, get_or}
use Rattle.std.specs.Prelude.{IsTrue, ◌==◌, ◌&&◌, Some, None}
use Rattle.std.specs.List.{AllByRecursion, list_all}
use Rattle.std.proofs.lemmas.Bool.{eqb-true}
use Rattle.std.proofs.lemmas.Bool.Decides.{nat_tests}
use Rattle.mix_base.specs.Ascents.{Among}
use Rattle.mix_base.specs.Events.{without_skips}
use Rattle.mix_tree.specs.Comparisons.{passes}
use Rattle.mix_tree.specs.Nodes.{Node, document_node}
use Rattle.mix_tree.specs.declared.comparing.Test.{Test}
use Rattle.path_expr.specs.Form.{Form}
use Rattle.path_expr.specs.Matches.{IsMatch}
use Rattle.path_auto.specs.Visit.{visits}
use Rattle.path_auto.proofs.Bindings.{visits_are_matches}
use Rattle.tree_buffer.specs.declared.spot.Spot.{Spot}
use Rattle.plan_core.specs.Events.{events, passes_all}
use Rattle.plan_core.specs.Plans.{PlanValue}
use Rattle.plan_core.specs.Shapes.{Shape, one_source, visits_below, pairs_up, filters, extends, first_by_keys, one_group, in_order, passes_on, shape_at}
use Rattle.plan_core.specs.TolledRows.{TolledRow, row_node}
use Rattle.plan_core.specs.Typed.{IsTyped}
use Rattle.plan_core.specs.Valid.{a_node, Kinds, either_kind, shape_inputs, kinds, IsTest, IsValid}
use Rattle.plan_evidence.specs.Evidence.{shape_way, ShapeHolds, AreRight}
use Rattle.plan_evidence.proofs.Evident.{node_binds}
use Rattle.plan_evidence.proofs.NodeValues.{passes_alike}
use Rattle.plan_evidence.proofs.Rights.{test_kind, right_alike, right_from}
use Rattle.plan_evidence.proofs.Ways.{binds, out_apart}
use Rattle.lazy_descend.specs.Cursors.{spot_of}
use Rattle.lazy_descend.specs.declared.cursor.DescCursor.{DescCursor}
use Rattle.lazy_binding.specs.declared.position.Position.{Position, Start, Top, Whole, Found', Pass', First', Seen', Pair', Sorted', Row_of-Position-Sorted-0-1 as Row, end_of-Position-Sorted-0-1 as no_more, more_of-Position-Sorted-0-1 as one_more}
use Rattle.lazy_binding.specs.Bench.{IsBench}
use Rattle.lazy_binding.specs.Cursors.{binding, IsIn, AreIn, IsOf, count, rows_in, has_row}
use Rattle.lazy_binding.specs.Spots.{or_else}
use Rattle.lazy_binding.specs.World.{World, docs_of, is_told, match_place}
use Rattle.lazy_binding.proofs.Bound.{kinds_at, inputs_at, fit_at}
use Rattle.lazy_evidence.specs.Below.{spot_below, spot_below_nth, node_there, nodes_at}
use Rattle.lazy_evidence.specs.Laws.{IsAmong}
use Rattle.lazy_evidence.proofs.Belows.{right_there, left_alone, bound_anew, none_below, not_left, not_right, exact_in, exact_at}
use Rattle.lazy_evidence.proofs.Parts.{IsOne, visit_parts, filter_parts, extended_parts, passed_parts, first_parts, sorted_parts, pair_parts}

module _ (p : PlanValue) (valid : IsValid p) (typed : IsTyped p.ops) (w : World) (bench : IsBench w p.ops) (told : IsTrue (is_told w p.ops)) where
  -- the nodes at the parts of a position of an operator of this shape are right evidence of it
  abbrev pub IsRight : ℕ → Shape → Position → Type 0
  IsRight n f c = AreRight (docs_of w) p.ops n (λ v. node_there w (spot_below p.ops f c v))

  -- nodes that are right evidence of the only input on the way, and of which the shape holds, are right evidence of the operator
  on_one : (n i : ℕ) → n < length p.ops → (f : Shape) → shape_at p.ops n ≡ f → shape_way f ≡ i ∷ [] → (nodes : ℕ → Node) → ShapeHolds (docs_of w) nodes f → AreRight (docs_of w) p.ops i nodes
      → AreRight (docs_of w) p.ops n nodes
  on_one n i h f e way nodes holds right =
      right_from p valid typed (docs_of w) n h nodes (subst (ShapeHolds (docs_of w) nodes) (sym e) holds)
      (λ j a. subst (λ k. AreRight (docs_of w) p.ops k nodes) (sym (alone j (subst (Among j) (ap shape_way e ∙ way) a))) right)
    where
      alone : (j : ℕ) → Among j (i ∷ []) → j ≡ i
      alone j (inl x) = x
      alone j (inr a) = absurd a

  -- nodes of which a shape without inputs on the way holds are right evidence of its operator
  on_none : (n : ℕ) → n < length p.ops → (f : Shape) → shape_at p.ops n ≡ f → shape_way f ≡ [] → (nodes : ℕ → Node) → ShapeHolds (docs_of w) nodes f → AreRight (docs_of w) p.ops n nodes
  on_none n h f e way nodes holds =
      right_from p valid typed (docs_of w) n h nodes (subst (ShapeHolds (docs_of w) nodes) (sym e) holds) (λ j a. absurd (subst (Among j) (ap shape_way e ∙ way) a))

  -- the node at a source's position is its document node
  source_right : (n s out : ℕ) → n < length p.ops → shape_at p.ops n ≡ one_source s out → (t : ℕ) (x : Spot) → IsIn w p.ops n (one_source s out) (Top t x) → IsRight n (one_source s out) (Top t x)
  source_right n s out h e t x of =
      let own : (out == out) ≡ true = grind (arith, nat_tests) in
      on_none n h (one_source s out) e refl (λ v. node_there w (spot_below p.ops (one_source s out) (Top t x) v))
      (ap (λ (k : Bool). node_there w (cond k (Some (t, x)) None)) own ∙ ap (λ k. record { source = t; place = k }) of.2 ∙ ap document_node of.0)

  -- the nodes of a match and of the parts of its input are right evidence, where those of the input are
  visit_right : (n i start : ℕ) (path : Form) (out : ℕ) → n < length p.ops → shape_at p.ops n ≡ visits_below i start path out → i < length p.ops → (s : ℕ) (q : _) (c : Position) (d : DescCursor)
      → IsIn w p.ops n (visits_below i start path out) (Found' s q c d) → Among (match_place w s d) (without_skips (visits (docs_of w) path (row_node (binding w p.ops i c) start)))
      → IsRight i (shape_at p.ops i) c → IsRight n (visits_below i start path out) (Found' s q c d)
  visit_right n i start path out h e low s q c d of m right =
      let nodes : ℕ → Node = λ v. node_there w (cond (out == v) (Some (s, spot_of d.frame)) (spot_below p.ops (shape_at p.ops i) c v)) in
      let from : Node = row_node (binding w p.ops i c) start in
      let own : (out == out) ≡ true = grind (arith, nat_tests) in
      let fit = fit_at p.ops typed n h (visits_below i start path out) e in
      let at_out : record { source = from.source; place = match_place w s d } ≡ nodes out =
      ap (λ k. record { source = k; place = match_place w s d }) of.2 ∙ ap (λ (k : Bool). node_there w (cond k (Some (s, spot_of d.frame)) (spot_below p.ops (shape_at p.ops i) c out))) (sym own) in
      let at_start : from ≡ nodes start =
      sym (exact_at p valid typed w i low c of.0 of.1 start fit.0) ∙ same start start_differs in
      let is_match : IsMatch (docs_of w) path from (record { source = from.source; place = match_place w s d }) =
      (refl, ((visits_are_matches (docs_of w) path from).exactly (match_place w s d)).0 m) in
      on_one n i h (visits_below i start path out) e refl nodes
      (subst (λ k. IsMatch (docs_of w) path k (nodes out)) at_start (subst (IsMatch (docs_of w) path from) at_out is_match))
      (right_alike p valid typed (docs_of w) i low (nodes_at w p.ops i c) nodes (λ v b. same v (apart v b)) right)
    where
      same : (v : ℕ) → (out == v) ≡ false → nodes_at w p.ops i c v ≡ node_there w (cond (out == v) (Some (s, spot_of d.frame)) (spot_below p.ops (shape_at p.ops i) c v))
      same v k = ap (λ (t : Bool). node_there w (cond t (Some (s, spot_of d.frame)) (spot_below p.ops (shape_at p.ops i) c v))) (sym k)

      apart : (v : ℕ) → binds p.ops i v ≡ true → (out == v) ≡ false
      apart v b =
          (elim (out == v) as (λ t. (out == v) ≡ t → t ≡ false) [
            | true ↦ λ t. absurd (out_apart p valid typed n i out h (subst (λ (g : Shape). Among i (shape_inputs g)) (sym e) (inl refl)) (bound_anew p valid typed w n out (visits_below i start path out) e (inl refl))
                (subst (λ u. binds p.ops i u ≡ true) (sym (eqb-true out v t)) b))
            | false ↦ λ t. refl
          ]) refl

      start_differs : (out == start) ≡ false
      start_differs = apart start (node_binds p valid typed i start low (fit_at p.ops typed n h (visits_below i start path out) e).0)

  -- comparisons hold of the nodes at the parts of a position as they do of its binding
  same_tests : (ks : Kinds) (nodes : ℕ → Node) (row : TolledRow) → ((v : ℕ) → ks v ≡ Some a_node → nodes v ≡ row_node row v) → (tests : List Test) → AllByRecursion (IsTest ks) tests
      → list_all (λ t. passes (docs_of w) t nodes) tests ≡ passes_all (docs_of w) tests row
  same_tests ks nodes row f [] h = refl
  same_tests ks nodes row f (t ∷ tests) h =
      let e = passes_alike (docs_of w) nodes (row_node row) t (λ v z. f v (test_kind ks t h.0 v z)) in
      let d = same_tests ks nodes row f tests h.1 in
      ap (λ k. k && list_all (λ t. passes (docs_of w) t nodes) tests) e ∙ ap (λ k. passes (docs_of w) t (row_node row) && k) d

  -- the nodes at the parts of what passes a comparison are right evidence, where those of the input are
  filter_right : (n i : ℕ) (test : Test) → n < length p.ops → shape_at p.ops n ≡ passes_on i (filters test) → i < length p.ops → (q : _) (c : Position) → IsOf w p.ops i c → IsTrue (has_row c)
      → passes (docs_of w) test (row_node (binding w p.ops i c)) ≡ true → IsRight i (shape_at p.ops i) c → IsRight n (passes_on i (filters test)) (Pass' q c)
  filter_right n i test h e low q c of row t right =
      on_one n i h (passes_on i (filters test)) e refl (nodes_at w p.ops i c)
      (passes_alike (docs_of w) (nodes_at w p.ops i c) (row_node (binding w p.ops i c)) test
      (λ v a. exact_at p valid typed w i low c of row v (test_kind (kinds p.ops i) test (fit_at p.ops typed n h (passes_on i (filters test)) e) v a)) ∙ t) right

  -- the nodes at the parts of a pair are right evidence, where those of both sides are
  pair_right : (n l r : ℕ) (tests : List Test) → n < length p.ops → shape_at p.ops n ≡ pairs_up l r tests → l < length p.ops → r < length p.ops → (q : _) (x : Position) (q' : _) (y : Position) (k : ℕ)
      → IsIn w p.ops n (pairs_up l r tests) (Pair' q x q' y k) → IsTrue (has_row y) → passes_all (docs_of w) tests (binding w p.ops l x ++ binding w p.ops r y) ≡ true
      → IsRight l (shape_at p.ops l) x → IsRight r (shape_at p.ops r) y → IsRight n (pairs_up l r tests) (Pair' q x q' y k)
  pair_right n l r tests h e low_l low_r q x q' y k of row t left right =
      let nodes : ℕ → Node = λ v. node_there w (or_else (spot_below p.ops (shape_at p.ops l) x v) (spot_below p.ops (shape_at p.ops r) y v)) in
      let ks : Kinds = λ v. either_kind (kinds p.ops l v) (kinds p.ops r v) in
      right_from p valid typed (docs_of w) n h nodes
      (subst (ShapeHolds (docs_of w) nodes) (sym e) (same_tests ks nodes (binding w p.ops l x ++ binding w p.ops r y) exact tests (fit_at p.ops typed n h (pairs_up l r tests) e) ∙ t))
      (λ j a. one nodes
      (right_alike p valid typed (docs_of w) l low_l (nodes_at w p.ops l x) nodes
      (λ v b. sym (ap (node_there w) (left_alone (spot_below p.ops (shape_at p.ops l) x v) (spot_below p.ops (shape_at p.ops r) y v)
      (none_below p valid typed w r low_r y of.2 row v (not_right p valid typed w n l r tests h e v b))))) left)
      (right_alike p valid typed (docs_of w) r low_r (nodes_at w p.ops r y) nodes
      (λ v b. sym (ap (node_there w) (right_there (spot_below p.ops (shape_at p.ops l) x v) (spot_below p.ops (shape_at p.ops r) y v)
      (none_below p valid typed w l low_l x of.0 of.1 v (not_left p valid typed w n l r tests h e v b))))) right) j (subst (λ (g : Shape). Among j (shape_way g)) e a))
    where
      one : (nodes : ℕ → Node) → AreRight (docs_of w) p.ops l nodes → AreRight (docs_of w) p.ops r nodes → (j : ℕ) → Among j (l ∷ r ∷ []) → AreRight (docs_of w) p.ops j nodes
      one nodes f g j (inl z) = subst (λ m. AreRight (docs_of w) p.ops m nodes) (sym z) f
      one nodes f g j (inr (inl z)) = subst (λ m. AreRight (docs_of w) p.ops m nodes) (sym z) g
      one nodes f g j (inr (inr a)) = absurd a

      exact : (v : ℕ) → either_kind (kinds p.ops l v) (kinds p.ops r v) ≡ Some a_node
          → node_there w (or_else (spot_below p.ops (shape_at p.ops l) x v) (spot_below p.ops (shape_at p.ops r) y v)) ≡ row_node (binding w p.ops l x ++ binding w p.ops r y) v
      exact v z =
          let ks : kinds p.ops n ≡ (λ u. either_kind (kinds p.ops l u) (kinds p.ops r u)) = kinds_at p.ops typed n h (pairs_up l r tests) e in
          exact_in p valid typed w n h (pairs_up l r tests) e (Pair' q x q' y k) of row v (ap (λ (m : Kinds). m v) ks ∙ z)

  mutual
    -- the nodes at the parts of a position are right evidence of its operator, where its binding is among the operator's events
    pub right_in : (n : ℕ) → n < length p.ops → (f : Shape) → shape_at p.ops n ≡ f → (c : Position) → IsIn w p.ops n f c → IsTrue (has_row c) → IsOne p valid typed w bench told n f c → IsRight n f c
    right_in n h f e Start of row a = cc
    right_in n h (one_source s out) e (Top t x) of row a = source_right n s out h e t x of
    right_in n h (passes_on i (one_group piece out)) e Whole of row a = on_none n h (passes_on i (one_group piece out)) e refl (λ v. document_node 0) tt
    right_in n h (visits_below i start path out) e (Found' s q c d) of row a =
        let l = inputs_at p.ops typed n h (visits_below i start path out) e in
        let m = visit_parts p valid typed w bench told n i start path out h e s q c d a in
        visit_right n i start path out h e (omega (arith, h, l.0)) s q c d of m.1 (right_in i (omega (arith, h, l.0)) (shape_at p.ops i) refl c of.0 of.1 m.0)
    right_in n h (passes_on i (filters test)) e (Pass' q c) of row a =
        let l = inputs_at p.ops typed n h (passes_on i (filters test)) e in
        let m = filter_parts p valid typed w bench told n i test h e q c a in
        filter_right n i test h e (omega (arith, h, l.0)) q c of.0 of.1 m.1 (right_in i (omega (arith, h, l.0)) (shape_at p.ops i) refl c of.0 of.1 m.0)
    right_in n h (passes_on i (extends out made)) e (Pass' q c) of row a =
        let l = inputs_at p.ops typed n h (passes_on i (extends out made)) e in
        on_one n i h (passes_on i (extends out made)) e refl (nodes_at w p.ops i c) tt
        (right_in i (omega (arith, h, l.0)) (shape_at p.ops i) refl c of.0 of.1 (extended_parts p valid typed w bench told n i out made h e q c a))
    right_in n h (passes_on i (first_by_keys keys None)) e (Pass' q c) of row a =
        let l = inputs_at p.ops typed n h (passes_on i (first_by_keys keys None)) e in
        on_one n i h (passes_on i (first_by_keys keys None)) e refl (nodes_at w p.ops i c) tt
        (right_in i (omega (arith, h, l.0)) (shape_at p.ops i) refl c of.0 of.1 (passed_parts p valid typed w bench told n i keys q c of))
    right_in n h (passes_on i (first_by_keys keys group)) e (First' q c k) of row a =
        let l = inputs_at p.ops typed n h (passes_on i (first_by_keys keys group)) e in
        on_one n i h (passes_on i (first_by_keys keys group)) e refl (nodes_at w p.ops i c) tt
        (right_in i (omega (arith, h, l.0)) (shape_at p.ops i) refl c of.0 of.1 (first_parts p valid typed w bench told n i keys group q c k of))
    right_in n h (passes_on i (first_by_keys keys group)) e (Seen' q c k) of row a = cc
    right_in n h (pairs_up l r tests) e (Pair' q x q' y k) of row a =
        let g = inputs_at p.ops typed n h (pairs_up l r tests) e in
        let m = pair_parts p valid typed w bench told n l r tests h e q x q' y k of row a in
        pair_right n l r tests h e (omega (arith, h, g.0)) (omega (arith, h, g.1.0)) q x q' y k of row m.2
        (right_in l (omega (arith, h, g.0)) (shape_at p.ops l) refl x of.0 of.1 m.0) (right_in r (omega (arith, h, g.1.0)) (shape_at p.ops r) refl y of.2 row m.1)
    right_in n h (passes_on i (in_order u desc)) e (Sorted' q m list k) of row a =
        let l = inputs_at p.ops typed n h (passes_on i (in_order u desc)) e in
        on_one n i h (passes_on i (in_order u desc)) e refl (λ v. node_there w (spot_below_nth p.ops i list k v)) tt
        (right_nth i (omega (arith, h, l.0)) list k of.0 of.1 (sorted_parts p valid typed w bench told n i u desc h e (get_or (rows_in w p.ops i list) k []) a))
    right_in n h f e c of row a = absurd of

    -- the nodes at the parts of the position at an index of a sorted list are right evidence of the operator, where its binding is among the operator's events
    right_nth : (i : ℕ) → i < length p.ops → {m : _} (list : Row m) (k : ℕ) → AreIn w p.ops i list → k < count list → IsAmong (events (docs_of w) p.ops i) (get_or (rows_in w p.ops i list) k [])
        → AreRight (docs_of w) p.ops i (λ v. node_there w (spot_below_nth p.ops i list k v))
    right_nth i h no_more k of l a = absurd (omega (arith, l))
    right_nth i h (one_more q c rest) zero of l a = right_in i h (shape_at p.ops i) refl c of.0 of.1 a
    right_nth i h (one_more q c rest) (suc k) of l a = right_nth i h rest k of.2 (omega (arith, l)) a
