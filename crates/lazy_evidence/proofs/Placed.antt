-- The places of the spots that are noted of a position are those of the nodes at its parts.
use Rattle.std.proofs.Common.{◌≡◌, ◌<◌, ◌+◌, ℕ, zero, suc, Bool, true, false, cond, List, [], ◌∷◌, ◌++◌, refl, sym, ap, subst, ◌∙◌, arith, length, get_or, drop, replicate, append_assoc}
use Rattle.std.specs.Prelude.{IsTrue, Option, Some, None, set, slice_get}
use Rattle.mix_tree.specs.Nodes.{Node}
use Rattle.tree_buffer.specs.declared.buffer.Buffer.{Buffer}
use Rattle.tree_buffer.specs.declared.spot.Spot.{Spot}
use Rattle.tree_buffer.specs.Buffer.{IsSpot, place_of}
use Rattle.plan_core.specs.ByNumber.{op_at}
use Rattle.plan_core.specs.Plans.{Operator, PlanValue}
use Rattle.plan_core.specs.Shapes.{Shape, one_source, visits_below, pairs_up, filters, extends, first_by_keys, one_group, in_order, passes_on, no_events, shape_of, shape_at}
use Rattle.plan_core.specs.Typed.{IsTyped}
use Rattle.plan_core.specs.Valid.{IsValid}
use Rattle.plan_evidence.specs.Evidence.{is_on_way, visit_vars, vars_from, evidence_vars, places_of}
use Rattle.lazy_descend.specs.Cursors.{spot_of}
use Rattle.lazy_descend.proofs.Stay.{frame_spot}
use Rattle.lazy_binding.specs.declared.position.Position.{Position, Start, Top, Whole, Found', Pass', First', Seen', Pair', Sorted', Row_of-Position-Sorted-0-1 as Row, end_of-Position-Sorted-0-1 as no_more, more_of-Position-Sorted-0-1 as one_more}
use Rattle.lazy_binding.specs.Cursors.{IsIn, AreIn, IsOf, has_row}
use Rattle.lazy_binding.specs.World.{World, of_buffer}
use Rattle.lazy_evidence.specs.Below.{spot_below, node_there, nodes_at}
use Rattle.lazy_evidence.specs.Noted.{Spots, noted, noted_nth, spots_at, places_there, AreSpots}
use Rattle.lazy_evidence.proofs.Noting.{IsNoted, noted_in, noted_length}

-- WHAT IS NOTED IS KNOWN

-- a spot that is one of its source's buffer, put among such ones
known_set : (buffers : List Buffer) (spots : Spots) (n : ℕ) (x : ℕ × Spot) → ((b : Buffer) × (slice_get buffers x.0 ≡ Some b) × IsSpot b x.1) → AreSpots buffers spots → AreSpots buffers (set spots n (Some x))
known_set buffers [] n x k h = tt
known_set buffers (None ∷ spots) zero x k h = (k, h)
known_set buffers (Some y ∷ spots) zero x k h = (k, h.1)
known_set buffers (None ∷ spots) (suc n) x k h = known_set buffers spots n x k h
known_set buffers (Some y ∷ spots) (suc n) x k h = (h.0, known_set buffers spots n x k h.1)

-- where no spot is there, each that is there is one of its source's buffer
known_none : (buffers : List Buffer) (n : ℕ) → AreSpots buffers (replicate n None)
known_none buffers zero = tt
known_none buffers (suc n) = known_none buffers n

-- a spot that stands at an index, from which on each is one of its source's buffer, is such a one
pub known_at : (buffers : List Buffer) (spots : Spots) (k : ℕ) (x : ℕ × Spot) → AreSpots buffers (drop k spots) → get_or spots k None ≡ Some x → (b : Buffer) × (slice_get buffers x.0 ≡ Some b) × IsSpot b x.1
known_at buffers [] k x h e = cc
known_at buffers (s ∷ spots) zero x h e = (let z : AreSpots buffers (Some x ∷ spots) = subst (λ o. AreSpots buffers (o ∷ spots)) e h in z.0)
known_at buffers (s ∷ spots) (suc k) x h e = known_at buffers spots k x h e

-- where from an index on each spot is one of its source's buffer, so it is from the next one on
known_next : (buffers : List Buffer) (spots : Spots) (k : ℕ) → AreSpots buffers (drop k spots) → AreSpots buffers (drop (suc k) spots)
known_next buffers [] zero h = tt
known_next buffers [] (suc k) h = tt
known_next buffers (None ∷ spots) zero h = h
known_next buffers (Some x ∷ spots) zero h = h.1
known_next buffers (s ∷ spots) (suc k) h = known_next buffers spots k h

-- where no spot stands at an index, the places from it on are those from the next one on
none_next : (buffers : List Buffer) (spots : Spots) (k : ℕ) → get_or spots k None ≡ None → places_there buffers (drop k spots) ≡ places_there buffers (drop (suc k) spots)
none_next buffers [] zero e = refl
none_next buffers [] (suc k) e = refl
none_next buffers (s ∷ spots) zero e = ap (λ o. places_there buffers (o ∷ spots)) e
none_next buffers (s ∷ spots) (suc k) e = none_next buffers spots k e

-- where a spot stands at an index, the places from it on are its own and those from the next one on
some_next : (buffers : List Buffer) (spots : Spots) (k : ℕ) (x : ℕ × Spot) (b : Buffer) → slice_get buffers x.0 ≡ Some b → get_or spots k None ≡ Some x
    → places_there buffers (drop k spots) ≡ place_of b x.1 ∷ places_there buffers (drop (suc k) spots)
some_next buffers [] k x b h e = cc
some_next buffers (s ∷ spots) zero x b h e =
    ap (λ o. places_there buffers (o ∷ spots)) e ∙ ap (λ (z : Option Buffer). of_buffer [] (λ c. place_of c x.1) z ∷ places_there buffers spots) h
some_next buffers (s ∷ spots) (suc k) x b h e = some_next buffers spots k x b h e

-- after a round that finds no spot, what was collected and what is left are all places
pub goes_by : (buffers : List Buffer) (spots : Spots) (k : ℕ) (all before : List (List ℕ)) → get_or spots k None ≡ None → before ++ places_there buffers (drop k spots) ≡ all
    → before ++ places_there buffers (drop (k + 1) spots) ≡ all
goes_by buffers spots k all before e h =
    let n : k + 1 ≡ suc k = omega arith in
    ap (λ m. before ++ places_there buffers (drop m spots)) n ∙ ap (λ z. before ++ z) (sym (none_next buffers spots k e)) ∙ h

-- after a round that takes the place of a spot, what was collected and what is left are all places
pub goes_on : (buffers : List Buffer) (spots : Spots) (k : ℕ) (all before : List (List ℕ)) (x : ℕ × Spot) (b : Buffer) → slice_get buffers x.0 ≡ Some b → get_or spots k None ≡ Some x
    → before ++ places_there buffers (drop k spots) ≡ all → (before ++ place_of b x.1 ∷ []) ++ places_there buffers (drop (k + 1) spots) ≡ all
goes_on buffers spots k all before x b there e h =
    let n : k + 1 ≡ suc k = omega arith in
    ap (λ m. (before ++ place_of b x.1 ∷ []) ++ places_there buffers (drop m spots)) n ∙ append_assoc before (place_of b x.1 ∷ []) (places_there buffers (drop (suc k) spots))
    ∙ ap (λ z. before ++ z) (sym (some_next buffers spots k x b there e)) ∙ h

-- after a round each spot that is left is one of its source's buffer
pub known_on : (buffers : List Buffer) (spots : Spots) (k : ℕ) → AreSpots buffers (drop k spots) → AreSpots buffers (drop (k + 1) spots)
known_on buffers spots k h = (let n : suc k ≡ k + 1 = omega arith in subst (λ m. AreSpots buffers (drop m spots)) n (known_next buffers spots k h))

module _ (w : World) (ops : List Operator) where
  mutual
    -- the spots that are noted of a position are those of their sources' buffers
    pub noted_known : (n : ℕ) (f : Shape) (c : Position) → IsIn w ops n f c → (spots : Spots) → AreSpots w.buffers spots → AreSpots w.buffers (noted ops n f c spots)
    noted_known n f Start of spots h = start f
      where
        start : (g : Shape) → AreSpots w.buffers (noted ops n g Start spots)
        start (one_source s out) = h
        start (visits_below i from path out) = h
        start (pairs_up l r tests) = h
        start (passes_on i stage) = h
        start (no_events i made) = h
    noted_known n (one_source s out) (Top t x) of spots h = h
    noted_known n (passes_on i (one_group piece out)) Whole of spots h = h
    noted_known n (visits_below i start path out) (Found' s q c d) of spots h =
        noted_known i (shape_at ops i) c of.0 (set spots n (Some (s, spot_of d.frame)))
        (known_set w.buffers spots n (s, spot_of d.frame) (of.4.buffer, of.4.there, frame_spot of.4.buffer d.frame of.4.cursor) h)
    noted_known n (passes_on i (filters test)) (Pass' q c) of spots h = noted_known i (shape_at ops i) c of.0 spots h
    noted_known n (passes_on i (extends out made)) (Pass' q c) of spots h = noted_known i (shape_at ops i) c of.0 spots h
    noted_known n (passes_on i (first_by_keys keys None)) (Pass' q c) of spots h = noted_known i (shape_at ops i) c of.0 spots h
    noted_known n (passes_on i (first_by_keys keys group)) (First' q c k) of spots h = noted_known i (shape_at ops i) c of.0 spots h
    noted_known n (passes_on i (first_by_keys keys group)) (Seen' q c k) of spots h = h
    noted_known n (pairs_up l r tests) (Pair' q x q' y k) of spots h =
        noted_known r (shape_at ops r) y of.2 (noted ops l (shape_at ops l) x spots) (noted_known l (shape_at ops l) x of.0 spots h)
    noted_known n (passes_on i (in_order u desc)) (Sorted' q m list k) of spots h = nth_known i list k of.0 spots h
    noted_known n f c of spots h = absurd of

    -- the spots that are noted of the position at an index of a sorted list are those of their sources' buffers
    nth_known : (i : ℕ) {m : _} (list : Row m) (k : ℕ) → AreIn w ops i list → (spots : Spots) → AreSpots w.buffers spots → AreSpots w.buffers (noted_nth ops i list k spots)
    nth_known i no_more k of spots h = h
    nth_known i (one_more q c rest) zero of spots h = noted_known i (shape_at ops i) c of.0 spots h
    nth_known i (one_more q c rest) (suc k) of spots h = nth_known i rest k of.2 spots h

  -- the spots at which the getDescendants on the way to a position stand are those of their sources' buffers
  pub spots_known : (n : ℕ) (c : Position) → IsOf w ops n c → AreSpots w.buffers (spots_at ops n c)
  spots_known n c of = noted_known n (shape_at ops n) c of (replicate (length ops) None) (known_none w.buffers (length ops))

-- PLACES

-- no spot for each of so many operators
abbrev no_spots : ℕ → Spots
no_spots n = replicate n None

-- in a list of no spots none is there
none_at : (n j : ℕ) → get_or (no_spots n) j None ≡ None
none_at zero j = refl
none_at (suc n) zero = refl
none_at (suc n) (suc j) = none_at n j

-- as many as there are wanted
all_there : {X : Type 0} (n : ℕ) (x : X) → length (replicate n x) ≡ n
all_there zero x = refl
all_there (suc n) x = (let e = all_there n x in omega (arith, e))

module _ (w : World) (of : ℕ → Option (ℕ × Spot)) where
  -- the node of a variable at its spot
  abbrev node_of : ℕ → Node
  node_of v = node_there w (of v)

  -- one operator's spot more has the places of the variables that it binds by a visit, where it is on the way
  one_place : (t : Bool) (f : Shape) (o : Option (ℕ × Spot)) (spots : Spots) (more : List ℕ) → IsNoted of (cond t (visit_vars f) []) None o → places_there w.buffers spots ≡ places_of more node_of
      → places_there w.buffers (o ∷ spots) ≡ places_of (cond t (visit_vars f) [] ++ more) node_of
  one_place false f o spots more h e = ap (λ z. places_there w.buffers (z ∷ spots)) h ∙ e
  one_place true (one_source s out) o spots more h e = ap (λ z. places_there w.buffers (z ∷ spots)) h ∙ e
  one_place true (pairs_up l r tests) o spots more h e = ap (λ z. places_there w.buffers (z ∷ spots)) h ∙ e
  one_place true (passes_on i stage) o spots more h e = ap (λ z. places_there w.buffers (z ∷ spots)) h ∙ e
  one_place true (no_events i made) o spots more h e = ap (λ z. places_there w.buffers (z ∷ spots)) h ∙ e
  one_place true (visits_below i start path out) o spots more h e =
      ap (λ z. places_there w.buffers (z ∷ spots)) h.1
      ∙ ap (λ (k : List (List ℕ)). (node_there w (Some h.0)).place ∷ k) e
      ∙ ap (λ z. (node_there w z).place ∷ places_of more node_of) (sym h.2)

  -- where each operator's spot is that of the variable that it binds by a visit, as far as it is on the way, the places of the spots are those of the variables' nodes
  all_places : (on : ℕ → Bool) (i : ℕ) (os : List Operator) (spots : Spots) → length spots ≡ length os
      → ((k : ℕ) → k < length os → IsNoted of (cond (on (i + k)) (visit_vars (shape_of (op_at os k))) []) None (get_or spots k None))
      → places_there w.buffers spots ≡ places_of (vars_from on i os) node_of
  all_places on i [] [] len h = refl
  all_places on i [] (o ∷ spots) len h = absurd (omega (arith, len))
  all_places on i (op ∷ os) [] len h = absurd (omega (arith, len))
  all_places on i (op ∷ os) (o ∷ spots) len h =
      let first : i + 0 ≡ i = omega arith in
      one_place (on i) (shape_of op) o spots (vars_from on (suc i) os) (subst (λ j. IsNoted of (cond (on j) (visit_vars (shape_of op)) []) None o) first (h 0 (omega arith)))
      (all_places on (suc i) os spots (omega (arith, len))
      (λ k b. (let e : i + suc k ≡ suc i + k = omega arith in
      subst (λ j. IsNoted of (cond (on j) (visit_vars (shape_of (op_at os k))) []) None (get_or spots k None)) e (h (suc k) (omega (arith, b))))))

-- the places of the spots at which the getDescendants on the way to a position stand are those of the nodes at its parts
pub places_are : (p : PlanValue) → IsValid p → IsTyped p.ops → (w : World) (n : ℕ) → n < length p.ops → (c : Position) → IsOf w p.ops n c → IsTrue (has_row c)
    → places_there w.buffers (spots_at p.ops n c) ≡ places_of (evidence_vars p.ops n) (nodes_at w p.ops n c)
places_are p valid typed w n h c of row =
    let none : Spots = replicate (length p.ops) None in
    let len : length none ≡ length p.ops = all_there (length p.ops) None in
    all_places w (spot_below p.ops (shape_at p.ops n) c) (is_on_way p.ops n) 0 p.ops (spots_at p.ops n c) (noted_length p.ops n (shape_at p.ops n) c none ∙ len)
    (λ k b. (let e : k ≡ 0 + k = omega arith in
    subst (λ j. IsNoted (spot_below p.ops (shape_at p.ops n) c) (cond (is_on_way p.ops n j) (visit_vars (shape_at p.ops k)) []) None (get_or (spots_at p.ops n c) k None)) e
    (subst (λ o. IsNoted (spot_below p.ops (shape_at p.ops n) c) (cond (is_on_way p.ops n k) (visit_vars (shape_at p.ops k)) []) o (get_or (spots_at p.ops n c) k None)) (none_at (length p.ops) k)
    (noted_in p valid typed w n h (shape_at p.ops n) refl c of row k none len))))
