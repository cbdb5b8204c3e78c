-- The spot of a variable in a position's binding.
use Rattle.std.proofs.Common.{◌≡◌, ◌⊎◌, inl, inr, ◌<◌, ℕ, zero, suc, Bool, true, false, cond, List, [], ◌∷◌, Option, Some, None, length, get_or, refl, ◌∙◌, sym, ap, arith}
use Rattle.std.specs.Prelude.{IsTrue, ◌==◌}
use Rattle.lazy_descend.specs.Cursors.{spot_of}
use Rattle.tree_buffer.specs.declared.spot.Spot.{Spot}
use Rattle.mix_tree.specs.Nodes.{Node}
use Rattle.plan_core.specs.Plans.{Operator}
use Rattle.plan_core.specs.Typed.{IsTyped}
use Rattle.plan_core.specs.Valid.{Kind, kinds, a_node, a_list, Kinds, no_kinds, kept, made_kind}
use Rattle.plan_core.specs.Events.{made_value}
use Rattle.plan_core.specs.TolledRows.{TolledRow, of_source, tolled_value, row_node}
use Rattle.plan_core.specs.Fronts.{stops_over}
use Rattle.plan_core.specs.Shapes.{Shape, one_source, visits_below, pairs_up, filters, extends, first_by_keys, one_group, in_order, shape_at, passes_on}
use Rattle.lazy_descend.proofs.Stay.{frame_spot}
use Rattle.lazy_binding.specs.declared.position.Position.{Position, Start, Top, Whole, Found', Pass', First', Seen', Pair', Sorted', Row_of-Position-Sorted-0-1 as Row, end_of-Position-Sorted-0-1 as no_more, more_of-Position-Sorted-0-1 as one_more}
use Rattle.lazy_binding.specs.World.{World, docs_of, spot_node, match_place, IsSpotIn}
use Rattle.lazy_binding.specs.Cursors.{binding, ahead, stands, source_number, IsRead, IsIn, AreIn, count, rows_in, has_row}
use Rattle.lazy_binding.specs.Spots.{spot_at, spot_in, spot_nth, or_else}
use Rattle.lazy_binding.proofs.Bound.{Lacks, value_left, value_more, lacks_more, lacks_both, with_none, with_other, no_list, no_node, fit_nodes, either_none, either_some, kinds_at, inputs_at, fit_at, first_lacks, first_node}

-- an optional spot is that of a variable which holds a node in a binding: it is one of its source, which some operator reads, and the node stands there
pub record IsSpotThere (w : World) (ops : List Operator) (there : Option (ℕ × Spot)) (row : TolledRow) (v : ℕ) : Type 0 where
  pub source : ℕ
  pub spot : Spot
  pub is : there ≡ Some (source, spot)
  pub read : IsRead ops source
  pub known : IsSpotIn w source spot
  pub value : tolled_value row v ≡ of_source (spot_node w source spot)

-- the spot of a variable that holds a node is right in a position's binding, in its shape
abbrev pub IsSpotAt : World → List Operator → ℕ → Shape → Position → ℕ → Type 0
IsSpotAt w ops n f c v = IsSpotThere w ops (spot_at ops f c v) (stands w ops n f c).row v

-- the spot of a variable that holds a node is right in the binding of operator n's cursor
abbrev pub IsSpotOf : World → List Operator → ℕ → Position → ℕ → Type 0
IsSpotOf w ops n c v = IsSpotAt w ops n (shape_at ops n) c v

-- a kind that is none is not some kind
no_kind : (k : Kind) → None ≡ Some k → ⊥
no_kind k h = cc

-- a variable that is the new one has the new node, and any other what was there
either_node : (out v : ℕ) (of : Kinds) (x : Node) (row : TolledRow) → cond (out == v) (Some a_node) (of v) ≡ Some a_node
    → (((out == v) ≡ true) × (tolled_value ((out, of_source x) ∷ row) v ≡ of_source x)) ⊎ (((out == v) ≡ false) × (of v ≡ Some a_node) × (tolled_value ((out, of_source x) ∷ row) v ≡ tolled_value row v))
either_node out v of x row h =
    elim (out == v) as (λ b. cond b (Some a_node) (of v) ≡ Some a_node
    → ((b ≡ true) × (cond b (of_source x) (tolled_value row v) ≡ of_source x)) ⊎ ((b ≡ false) × (of v ≡ Some a_node) × (cond b (of_source x) (tolled_value row v) ≡ tolled_value row v)))
    [ true ↦ λ g. inl (refl, refl) | false ↦ λ g. inr (refl, g, refl) ] h

module _ (ops : List Operator) (typed : IsTyped ops) (w : World) where
  mutual
    -- a variable that an operator doesn't bind has no spot, and no value
    pub lacks : (n : ℕ) → n < length ops → (f : Shape) → shape_at ops n ≡ f → (c : Position) → IsIn w ops n f c → IsTrue (has_row c) → (v : ℕ) → kinds ops n v ≡ None
        → (spot_at ops f c v ≡ None) × Lacks (stands w ops n f c).row v
    lacks n h f e Start of row v k = cc
    lacks n h (one_source s out) e (Top t x) of row v k =
        let z = with_none out v a_node no_kinds (sym (ap (λ (g : Kinds). g v) (kinds_at ops typed n h (one_source s out) e)) ∙ k) in
        (ap (λ (b : Bool). cond b (Some (t, x)) None) z.0, lacks_more out (of_source (spot_node w t x)) [] v z.0 (λ b. refl))
    lacks n h (passes_on i (one_group p out)) e Whole of row v k =
        let z = with_none out v a_list (kept [] (kinds ops i)) (sym (ap (λ (g : Kinds). g v) (kinds_at ops typed n h (passes_on i (one_group p out)) e)) ∙ k) in
        (refl, lacks_more out _ [] v z.0 (λ b. refl))
    lacks n h (visits_below i start path out) e (Found' s q c d) of row v k =
        let z = with_none out v a_node (kinds ops i) (sym (ap (λ (g : Kinds). g v) (kinds_at ops typed n h (visits_below i start path out) e)) ∙ k) in
        let l = inputs_at ops typed n h (visits_below i start path out) e in
        let y = lacks i (omega (arith, h, l.0)) (shape_at ops i) refl c of.0 of.1 v z.1 in (
          ap (λ (b : Bool). cond b (Some (s, spot_of d.frame)) (spot_in ops i c v)) z.0 ∙ y.0,
          lacks_more out (of_source (record { source = (row_node (binding w ops i c) start).source; place = match_place w s d })) (binding w ops i c) v z.0 y.1,
        )
    lacks n h (passes_on i (filters test)) e (Pass' q c) of row v k =
        let l = inputs_at ops typed n h (passes_on i (filters test)) e in
        lacks i (omega (arith, h, l.0)) (shape_at ops i) refl c of.0 of.1 v (sym (ap (λ (g : Kinds). g v) (kinds_at ops typed n h (passes_on i (filters test)) e)) ∙ k)
    lacks n h (passes_on i (extends out made)) e (Pass' q c) of row v k =
        let z = with_none out v (made_kind made) (kinds ops i) (sym (ap (λ (g : Kinds). g v) (kinds_at ops typed n h (passes_on i (extends out made)) e)) ∙ k) in
        let l = inputs_at ops typed n h (passes_on i (extends out made)) e in
        let y = lacks i (omega (arith, h, l.0)) (shape_at ops i) refl c of.0 of.1 v z.1 in
        (y.0, lacks_more out (made_value (docs_of w) made (binding w ops i c)) (binding w ops i c) v z.0 y.1)
    lacks n h (passes_on i (first_by_keys keys None)) e (Pass' q c) of row v k =
        let z = first_lacks (docs_of w) keys false v (kinds ops) None i (fit_nodes keys None (kinds ops i) (fit_at ops typed n h (passes_on i (first_by_keys keys None)) e))
        (sym (ap (λ (g : Kinds). g v) (kinds_at ops typed n h (passes_on i (first_by_keys keys None)) e)) ∙ k) (binding w ops i c) [] in
        (ap (λ (b : Bool). cond b (spot_in ops i c v) None) z.0, z.1)
    lacks n h (passes_on i (first_by_keys keys group)) e (First' q c m) of row v k =
        let z = first_lacks (docs_of w) keys (stops_over ops i keys) v (kinds ops) group i (fit_nodes keys group (kinds ops i) (fit_at ops typed n h (passes_on i (first_by_keys keys group)) e))
        (sym (ap (λ (g : Kinds). g v) (kinds_at ops typed n h (passes_on i (first_by_keys keys group)) e)) ∙ k) (binding w ops i c) (ahead w ops i c) in
        (ap (λ (b : Bool). cond b (spot_in ops i c v) None) z.0, z.1)
    lacks n h (passes_on i (first_by_keys keys group)) e (Seen' q c m) of row v k = cc
    lacks n h (pairs_up l r tests) e (Pair' q x q' y m) of row v k =
        let g = inputs_at ops typed n h (pairs_up l r tests) e in
        let both = either_none (kinds ops l v) (kinds ops r v) (sym (ap (λ (g : Kinds). g v) (kinds_at ops typed n h (pairs_up l r tests) e)) ∙ k) in
        let a = lacks l (omega (arith, h, g.0)) (shape_at ops l) refl x of.0 of.1 v both.0 in
        let b = lacks r (omega (arith, h, g.1.0)) (shape_at ops r) refl y of.2 row v both.1 in
        (ap (λ (z : Option (ℕ × Spot)). or_else z (spot_in ops r y v)) a.0 ∙ b.0, lacks_both (binding w ops l x) (binding w ops r y) v a.1 b.1)
    lacks n h (passes_on i (in_order u desc)) e (Sorted' q z list m) of row v k =
        let l = inputs_at ops typed n h (passes_on i (in_order u desc)) e in
        lacks_nth i (omega (arith, h, l.0)) list m of.0 of.1 v (sym (ap (λ (g : Kinds). g v) (kinds_at ops typed n h (passes_on i (in_order u desc)) e)) ∙ k)
    lacks n h f e c of row v k = absurd of

    -- a variable that an operator doesn't bind has no spot and no value in a member of a sorted list
    lacks_nth : (i : ℕ) → i < length ops → {z : _} (list : Row z) (m : ℕ) → AreIn w ops i list → m < count list → (v : ℕ) → kinds ops i v ≡ None
        → (spot_nth ops i list m v ≡ None) × Lacks (get_or (rows_in w ops i list) m []) v
    lacks_nth i h no_more m of l v k = absurd (omega (arith, l))
    lacks_nth i h (one_more q c rest) zero of l v k = lacks i h (shape_at ops i) refl c of.0 of.1 v k
    lacks_nth i h (one_more q c rest) (suc m) of l v k = lacks_nth i h rest m of.2 (omega (arith, l)) v k

  mutual
    -- a variable that holds a node has its spot
    pub spot_is : (n : ℕ) → n < length ops → (f : Shape) → shape_at ops n ≡ f → (c : Position) → IsIn w ops n f c → IsTrue (has_row c) → (v : ℕ) → kinds ops n v ≡ Some a_node → IsSpotAt w ops n f c v
    spot_is n h f e Start of row v k = cc
    spot_is n h (one_source s out) e (Top t x) of row v k =
        let known = sym (ap (λ (g : Kinds). g v) (kinds_at ops typed n h (one_source s out) e)) ∙ k in
        elim (either_node out v no_kinds (spot_node w t x) [] known) [
          | inl z ↦ record {
            source = t;
            spot = x;
            is = ap (λ (b : Bool). cond b (Some (t, x)) None) z.0;
            read = record { number = n; within = h; is = ap source_number e ∙ ap Some (sym of.0) };
            known = of.1;
            value = z.1;
          }
          | inr z ↦ absurd (no_kind a_node z.1)
        ]
    spot_is n h (passes_on i (one_group p out)) e Whole of row v k =
        let z = with_other out v a_list (kept [] (kinds ops i)) no_list (sym (ap (λ (g : Kinds). g v) (kinds_at ops typed n h (passes_on i (one_group p out)) e)) ∙ k) in absurd (no_kind a_node z.1)
    spot_is n h (visits_below i start path out) e (Found' s q c d) of row v k =
        let known = sym (ap (λ (g : Kinds). g v) (kinds_at ops typed n h (visits_below i start path out) e)) ∙ k in
        let node : Node = record { source = (row_node (binding w ops i c) start).source; place = match_place w s d } in
        elim (either_node out v (kinds ops i) node (binding w ops i c) known) [
          | inl z ↦ record {
            source = s;
            spot = spot_of d.frame;
            is = ap (λ (b : Bool). cond b (Some (s, spot_of d.frame)) (spot_in ops i c v)) z.0;
            read = of.3;
            known = record { buffer = of.4.buffer; there = of.4.there; spot = frame_spot of.4.buffer d.frame of.4.cursor };
            value = z.1 ∙ ap (λ (x : ℕ). of_source (record { source = x; place = match_place w s d })) of.2;
          }
          | inr z ↦ (
              let l = inputs_at ops typed n h (visits_below i start path out) e in
              let y = spot_is i (omega (arith, h, l.0)) (shape_at ops i) refl c of.0 of.1 v z.1 in record {
                source = y.source;
                spot = y.spot;
                is = ap (λ (b : Bool). cond b (Some (s, spot_of d.frame)) (spot_in ops i c v)) z.0 ∙ y.is;
                read = y.read;
                known = y.known;
                value = z.2 ∙ y.value;
              })
        ]
    spot_is n h (passes_on i (filters test)) e (Pass' q c) of row v k =
        let l = inputs_at ops typed n h (passes_on i (filters test)) e in
        let y = spot_is i (omega (arith, h, l.0)) (shape_at ops i) refl c of.0 of.1 v (sym (ap (λ (g : Kinds). g v) (kinds_at ops typed n h (passes_on i (filters test)) e)) ∙ k) in
        record { source = y.source; spot = y.spot; is = y.is; read = y.read; known = y.known; value = y.value }
    spot_is n h (passes_on i (extends out made)) e (Pass' q c) of row v k =
        let z = with_other out v (made_kind made) (kinds ops i) (no_node made) (sym (ap (λ (g : Kinds). g v) (kinds_at ops typed n h (passes_on i (extends out made)) e)) ∙ k) in
        let l = inputs_at ops typed n h (passes_on i (extends out made)) e in
        let y = spot_is i (omega (arith, h, l.0)) (shape_at ops i) refl c of.0 of.1 v z.1 in
        record { source = y.source; spot = y.spot; is = y.is; read = y.read; known = y.known; value = value_more out (made_value (docs_of w) made (binding w ops i c)) (binding w ops i c) v z.0 ∙ y.value }
    spot_is n h (passes_on i (first_by_keys keys None)) e (Pass' q c) of row v k =
        let z = first_node (docs_of w) keys false v (kinds ops) None i (sym (ap (λ (g : Kinds). g v) (kinds_at ops typed n h (passes_on i (first_by_keys keys None)) e)) ∙ k) (binding w ops i c) [] in
        let l = inputs_at ops typed n h (passes_on i (first_by_keys keys None)) e in
        let y = spot_is i (omega (arith, h, l.0)) (shape_at ops i) refl c of.0 of.1 v z.1 in
        record { source = y.source; spot = y.spot; is = ap (λ (b : Bool). cond b (spot_in ops i c v) None) z.0 ∙ y.is; read = y.read; known = y.known; value = z.2 ∙ y.value }
    spot_is n h (passes_on i (first_by_keys keys group)) e (First' q c m) of row v k =
        let z = first_node (docs_of w) keys (stops_over ops i keys) v (kinds ops) group i (sym (ap (λ (g : Kinds). g v) (kinds_at ops typed n h (passes_on i (first_by_keys keys group)) e)) ∙ k) (binding w ops i c) (ahead w ops i c) in
        let l = inputs_at ops typed n h (passes_on i (first_by_keys keys group)) e in
        let y = spot_is i (omega (arith, h, l.0)) (shape_at ops i) refl c of.0 of.1 v z.1 in
        record { source = y.source; spot = y.spot; is = ap (λ (b : Bool). cond b (spot_in ops i c v) None) z.0 ∙ y.is; read = y.read; known = y.known; value = z.2 ∙ y.value }
    spot_is n h (passes_on i (first_by_keys keys group)) e (Seen' q c m) of row v k = cc
    spot_is n h (pairs_up l r tests) e (Pair' q x q' y m) of row v k =
        let g = inputs_at ops typed n h (pairs_up l r tests) e in
        elim (either_some (kinds ops l v) (kinds ops r v) (sym (ap (λ (g : Kinds). g v) (kinds_at ops typed n h (pairs_up l r tests) e)) ∙ k)) [
          | inl left ↦ (let s = spot_is l (omega (arith, h, g.0)) (shape_at ops l) refl x of.0 of.1 v left in record {
            source = s.source;
            spot = s.spot;
            is = ap (λ (z : Option (ℕ × Spot)). or_else z (spot_in ops r y v)) s.is;
            read = s.read;
            known = s.known;
            value = value_left (binding w ops l x) (binding w ops r y) v (spot_node w s.source s.spot) s.value;
          })
          | inr sides ↦ (
              let a = lacks l (omega (arith, h, g.0)) (shape_at ops l) refl x of.0 of.1 v sides.0 in
              let s = spot_is r (omega (arith, h, g.1.0)) (shape_at ops r) refl y of.2 row v sides.1 in record {
                source = s.source;
                spot = s.spot;
                is = ap (λ (z : Option (ℕ × Spot)). or_else z (spot_in ops r y v)) a.0 ∙ s.is;
                read = s.read;
                known = s.known;
                value = a.1 (binding w ops r y) ∙ s.value;
              })
        ]
    spot_is n h (passes_on i (in_order u desc)) e (Sorted' q z list m) of row v k =
        let l = inputs_at ops typed n h (passes_on i (in_order u desc)) e in
        let s = spot_nth-is i (omega (arith, h, l.0)) list m of.0 of.1 v (sym (ap (λ (g : Kinds). g v) (kinds_at ops typed n h (passes_on i (in_order u desc)) e)) ∙ k) in
        record { source = s.source; spot = s.spot; is = s.is; read = s.read; known = s.known; value = s.value }
    spot_is n h f e c of row v k = absurd of

    -- the spot of a variable that holds a node is right in the binding at an index of a sorted list
    spot_nth-is : (i : ℕ) → i < length ops → {z : _} (list : Row z) (m : ℕ) → AreIn w ops i list → m < count list → (v : ℕ) → kinds ops i v ≡ Some a_node
        → IsSpotThere w ops (spot_nth ops i list m v) (get_or (rows_in w ops i list) m []) v
    spot_nth-is i h no_more m of l v k = absurd (omega (arith, l))
    spot_nth-is i h (one_more q c rest) zero of l v k = spot_is i h (shape_at ops i) refl c of.0 of.1 v k
    spot_nth-is i h (one_more q c rest) (suc m) of l v k = spot_nth-is i h rest m of.2 (omega (arith, l)) v k
