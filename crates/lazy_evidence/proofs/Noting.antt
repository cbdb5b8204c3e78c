-- The spots that are noted of a position are those that it has for the variables of the getDescendants on the way to it.
use Rattle.std.proofs.Common.{◌≡◌, ◌<◌, ℕ, zero, suc, Bool, true, false, cond, List, [], ◌∷◌, inl, refl, sym, ap, subst, ◌∙◌, arith, length, get_or, length-set}
use Rattle.std.specs.Prelude.{IsTrue, ◌==◌, ◌||◌, Option, Some, None, set}
use Rattle.std.proofs.lemmas.Bool.{eqb-true}
use Rattle.std.proofs.lemmas.Bool.Decides.{nat_tests}
use Rattle.std.proofs.lemmas.List.{get_or-set_same, get_or-set_other}
use Rattle.mix_base.specs.Ascents.{Among}
use Rattle.mix_tree.specs.declared.comparing.Test.{Test}
use Rattle.path_expr.specs.Form.{Form}
use Rattle.tree_buffer.specs.declared.spot.Spot.{Spot}
use Rattle.plan_core.specs.Plans.{Operator, PlanValue}
use Rattle.plan_core.specs.Shapes.{Shape, one_source, visits_below, pairs_up, filters, extends, first_by_keys, one_group, in_order, passes_on, shape_at}
use Rattle.plan_core.specs.Typed.{IsTyped}
use Rattle.plan_core.specs.Valid.{shape_inputs, IsValid}
use Rattle.plan_evidence.specs.Evidence.{shape_way, is_under, is_below, is_on_way, visit_vars}
use Rattle.plan_evidence.proofs.Ways.{binds, binds_yes, below_of, way_self, out_apart}
use Rattle.lazy_descend.specs.Cursors.{spot_of}
use Rattle.lazy_descend.specs.declared.cursor.DescCursor.{DescCursor}
use Rattle.lazy_binding.specs.declared.position.Position.{Position, Start, Top, Whole, Found', Pass', First', Seen', Pair', Sorted', Row_of-Position-Sorted-0-1 as Row, end_of-Position-Sorted-0-1 as no_more, more_of-Position-Sorted-0-1 as one_more}
use Rattle.lazy_binding.specs.Cursors.{IsIn, AreIn, IsOf, count, has_row}
use Rattle.lazy_binding.specs.Spots.{or_else}
use Rattle.lazy_binding.specs.World.{World}
use Rattle.lazy_binding.proofs.Bound.{inputs_at}
use Rattle.lazy_evidence.specs.Below.{spot_below, spot_below_nth}
use Rattle.lazy_evidence.specs.Noted.{Spots, noted, noted_nth}
use Rattle.lazy_evidence.proofs.Belows.{left_there, right_there, bound_anew, none_below, bound_there, not_left}

-- the spot that was noted for variables, of which there is one at most, is that of the variable; without a variable it is the old one
abbrev pub IsNoted : (ℕ → Option (ℕ × Spot)) → List ℕ → Option (ℕ × Spot) → Option (ℕ × Spot) → Type 0
IsNoted of [] old new = new ≡ old
IsNoted of (v ∷ vs) old new = (x : ℕ × Spot) × (new ≡ Some x) × (of v ≡ Some x)

-- what was noted by spots of variables was so by others, which are the same where the first ones are there
noted_weaker : (of of' : ℕ → Option (ℕ × Spot)) → ((v : ℕ) (x : ℕ × Spot) → of v ≡ Some x → of' v ≡ Some x) → (vs : List ℕ) (old new : Option (ℕ × Spot)) → IsNoted of vs old new → IsNoted of' vs old new
noted_weaker of of' f [] old new h = h
noted_weaker of of' f (v ∷ vs) old new h = (h.0, h.1, f v h.0 h.2)

-- what was noted by one and then by the other was noted by both
noted_both : (a b both : ℕ → Option (ℕ × Spot)) → ((v : ℕ) (x : ℕ × Spot) → a v ≡ Some x → both v ≡ Some x) → ((v : ℕ) (x : ℕ × Spot) → b v ≡ Some x → both v ≡ Some x)
    → (vs : List ℕ) (s t : Bool) (old mid new : Option (ℕ × Spot)) → IsNoted a (cond s vs []) old mid → IsNoted b (cond t vs []) mid new → IsNoted both (cond (s || (t || false)) vs []) old new
noted_both a b both f g [] true true old mid new h k = k ∙ h
noted_both a b both f g [] true false old mid new h k = k ∙ h
noted_both a b both f g [] false true old mid new h k = k ∙ h
noted_both a b both f g [] false false old mid new h k = k ∙ h
noted_both a b both f g (v ∷ vs) true true old mid new h k = (k.0, k.1, g v k.0 k.2)
noted_both a b both f g (v ∷ vs) true false old mid new h k = (h.0, k ∙ h.1, f v h.0 h.2)
noted_both a b both f g (v ∷ vs) false true old mid new h k = (k.0, k.1, g v k.0 k.2)
noted_both a b both f g (v ∷ vs) false false old mid new h k = k ∙ h

-- a list that is empty is empty whether it is taken or not
none_taken : (t : Bool) (vs : List ℕ) → vs ≡ [] → cond t vs [] ≡ []
none_taken true vs e = e
none_taken false vs e = refl

-- what is so or not is so
or_not : (t : Bool) → (t || false) ≡ t
or_not true = refl
or_not false = refl

mutual
  -- as many spots are there after some were noted
  pub noted_length : (ops : List Operator) (n : ℕ) (f : Shape) (c : Position) (spots : Spots) → length (noted ops n f c spots) ≡ length spots
  noted_length ops n (visits_below i start path out) (Found' s q c d) spots =
      noted_length ops i (shape_at ops i) c (set spots n (Some (s, spot_of d.frame))) ∙ length-set spots n (Some (s, spot_of d.frame))
  noted_length ops n (pairs_up l r tests) (Pair' q x q' y k) spots = noted_length ops r (shape_at ops r) y (noted ops l (shape_at ops l) x spots) ∙ noted_length ops l (shape_at ops l) x spots
  noted_length ops n (passes_on i stage) (Pass' q c) spots = noted_length ops i (shape_at ops i) c spots
  noted_length ops n (passes_on i stage) (First' q c k) spots = noted_length ops i (shape_at ops i) c spots
  noted_length ops n (passes_on i stage) (Sorted' q m row k) spots = nth_length ops i row k spots
  noted_length ops n f c spots = refl

  -- as many spots are there after those of the position at an index of a sorted list were noted
  nth_length : (ops : List Operator) (i : ℕ) {m : _} (row : Row m) (k : ℕ) (spots : Spots) → length (noted_nth ops i row k spots) ≡ length spots
  nth_length ops i no_more k spots = refl
  nth_length ops i (one_more q c rest) zero spots = noted_length ops i (shape_at ops i) c spots
  nth_length ops i (one_more q c rest) (suc k) spots = nth_length ops i rest k spots

module _ (p : PlanValue) (valid : IsValid p) (typed : IsTyped p.ops) (w : World) where
  -- the variables that operator j binds by a visit, where it is on the way of operator n
  abbrev pub vars_at : ℕ → ℕ → List ℕ
  vars_at n j = cond (is_on_way p.ops n j) (visit_vars (shape_at p.ops j)) []

  -- an operator that binds none by a visit has none at its own number
  none_here : (n j : ℕ) (f : Shape) → shape_at p.ops n ≡ f → visit_vars f ≡ [] → (n == j) ≡ true → visit_vars (shape_at p.ops j) ≡ []
  none_here n j f e none t = ap (λ k. visit_vars (shape_at p.ops k)) (sym (eqb-true n j t)) ∙ ap visit_vars e ∙ none

  -- without an input on the way no variables are bound by visits there
  vars_none : (n j : ℕ) → n < length p.ops → (f : Shape) → shape_at p.ops n ≡ f → shape_way f ≡ [] → visit_vars f ≡ [] → vars_at n j ≡ []
  vars_none n j h f e way none =
      (elim (n == j) as (λ t. (n == j) ≡ t → cond (t || is_below p.ops n j) (visit_vars (shape_at p.ops j)) [] ≡ []) [
        | true ↦ λ t. none_here n j f e none t
        | false ↦ λ t.
            ap (λ k. cond k (visit_vars (shape_at p.ops j)) []) (below_of p.ops n j (typed.inputs n h) ∙ ap (λ (g : Shape). is_under (shape_way g) (is_below p.ops) j) e ∙ ap (λ k. is_under k (is_below p.ops) j) way)
      ]) refl

  -- at the number of another operator, one with a single input on the way has the variables of the input
  vars_below : (n i j : ℕ) → n < length p.ops → (f : Shape) → shape_at p.ops n ≡ f → shape_way f ≡ i ∷ [] → (n == j) ≡ false → vars_at n j ≡ vars_at i j
  vars_below n i j h f e way t =
      ap (λ k. cond (k || is_below p.ops n j) (visit_vars (shape_at p.ops j)) []) t
      ∙ ap (λ k. cond k (visit_vars (shape_at p.ops j)) [])
      (below_of p.ops n j (typed.inputs n h) ∙ ap (λ (g : Shape). is_under (shape_way g) (is_below p.ops) j) e ∙ ap (λ k. is_under k (is_below p.ops) j) way ∙ or_not (is_on_way p.ops i j))

  -- an operator that binds none by a visit itself, with a single input on the way, has the variables of the input
  vars_input : (n i j : ℕ) → n < length p.ops → (f : Shape) → shape_at p.ops n ≡ f → shape_way f ≡ i ∷ [] → visit_vars f ≡ [] → vars_at n j ≡ vars_at i j
  vars_input n i j h f e way none =
      (elim (n == j) as (λ t. (n == j) ≡ t → vars_at n j ≡ vars_at i j) [
        | true ↦ λ t.
            (let z = none_here n j f e none t in
            none_taken (is_on_way p.ops n j) (visit_vars (shape_at p.ops j)) z ∙ sym (none_taken (is_on_way p.ops i j) (visit_vars (shape_at p.ops j)) z))
        | false ↦ λ t. vars_below n i j h f e way t
      ]) refl

  -- a join has the variables of both sides
  vars_sides : (n l r j : ℕ) (tests : List Test) → n < length p.ops → shape_at p.ops n ≡ pairs_up l r tests
      → vars_at n j ≡ cond (is_on_way p.ops l j || (is_on_way p.ops r j || false)) (visit_vars (shape_at p.ops j)) []
  vars_sides n l r j tests h e =
      (elim (n == j) as (λ t. (n == j) ≡ t
      → cond (t || is_below p.ops n j) (visit_vars (shape_at p.ops j)) [] ≡ cond (is_on_way p.ops l j || (is_on_way p.ops r j || false)) (visit_vars (shape_at p.ops j)) []) [
        | true ↦ λ t.
            (let z = none_here n j (pairs_up l r tests) e refl t in z ∙ sym (none_taken (is_on_way p.ops l j || (is_on_way p.ops r j || false)) (visit_vars (shape_at p.ops j)) z))
        | false ↦ λ t.
            ap (λ k. cond k (visit_vars (shape_at p.ops j)) []) (below_of p.ops n j (typed.inputs n h) ∙ ap (λ (g : Shape). is_under (shape_way g) (is_below p.ops) j) e)
      ]) refl

  -- at each number, what is noted of a position of this shape is the spot that it has for the variable there
  abbrev NotesAt : ℕ → Shape → Position → ℕ → Spots → Type 0
  NotesAt n f c j spots = IsNoted (spot_below p.ops f c) (vars_at n j) (get_or spots j None) (get_or (noted p.ops n f c spots) j None)

  -- what is noted of a match is its spot at its own number, and elsewhere what is noted of its input
  visit_noted : (n i start : ℕ) (path : Form) (out : ℕ) → n < length p.ops → shape_at p.ops n ≡ visits_below i start path out → i < length p.ops → (s : ℕ) (q : _) (c : Position) (d : DescCursor)
      → IsOf w p.ops i c → IsTrue (has_row c) → (j : ℕ) (spots : Spots) → length spots ≡ length p.ops → NotesAt i (shape_at p.ops i) c j (set spots n (Some (s, spot_of d.frame)))
      → NotesAt n (visits_below i start path out) (Found' s q c d) j spots
  visit_noted n i start path out h e low s q c d of row j spots len ih = by_number (n == j) refl
    where
      fresh : (v : ℕ) → binds p.ops i v ≡ true → (out == v) ≡ false
      fresh v b =
          (elim (out == v) as (λ t. (out == v) ≡ t → t ≡ false) [
            | true ↦ λ t. absurd (out_apart p valid typed n i out h (subst (λ (g : Shape). Among i (shape_inputs g)) (sym e) (inl refl)) (bound_anew p valid typed w n out (visits_below i start path out) e (inl refl))
                (subst (λ u. binds p.ops i u ≡ true) (sym (eqb-true out v t)) b))
            | false ↦ λ t. refl
          ]) refl

      above : is_on_way p.ops i n ≡ false
      above =
          (elim (is_on_way p.ops i n) as (λ t. is_on_way p.ops i n ≡ t → t ≡ false) [
            | true ↦ λ t. absurd (out_apart p valid typed n i out h (subst (λ (g : Shape). Among i (shape_inputs g)) (sym e) (inl refl)) (bound_anew p valid typed w n out (visits_below i start path out) e (inl refl))
                (binds_yes p.ops i out n h t (bound_anew p valid typed w n out (visits_below i start path out) e (inl refl))))
            | false ↦ λ t. refl
          ]) refl

      spots_of : ℕ → Option (ℕ × Spot)
      spots_of v = cond (out == v) (Some (s, spot_of d.frame)) (spot_below p.ops (shape_at p.ops i) c v)

      after : ℕ → Option (ℕ × Spot)
      after m = get_or (noted p.ops i (shape_at p.ops i) c (set spots n (Some (s, spot_of d.frame)))) m None

      at_own : NotesAt i (shape_at p.ops i) c n (set spots n (Some (s, spot_of d.frame))) → NotesAt n (visits_below i start path out) (Found' s q c d) n spots
      at_own g =
          let own : (out == out) ≡ true = grind (arith, nat_tests) in
          let own_vars : vars_at n n ≡ out ∷ [] = ap (λ t. cond t (visit_vars (shape_at p.ops n)) []) (way_self p.ops n) ∙ ap visit_vars e in
          let input_vars : vars_at i n ≡ [] = ap (λ t. cond t (visit_vars (shape_at p.ops n)) []) above in
          let is : after n ≡ get_or (set spots n (Some (s, spot_of d.frame))) n None =
          subst (λ vs. IsNoted (spot_below p.ops (shape_at p.ops i) c) vs (get_or (set spots n (Some (s, spot_of d.frame))) n None) (after n)) input_vars g in
          subst (λ vs. IsNoted spots_of vs (get_or spots n None) (after n)) (sym own_vars) (
            (s, spot_of d.frame),
            is ∙ get_or-set_same spots n (Some (s, spot_of d.frame)) None (omega (arith, h, len)),
            ap (λ (t : Bool). cond t (Some (s, spot_of d.frame)) (spot_below p.ops (shape_at p.ops i) c out)) own,
          )

      elsewhere : (n == j) ≡ false → NotesAt n (visits_below i start path out) (Found' s q c d) j spots
      elsewhere k =
          let old : get_or (set spots n (Some (s, spot_of d.frame))) j None ≡ get_or spots j None = get_or-set_other spots n j (Some (s, spot_of d.frame)) None
          (λ z. (let t : (n == j) ≡ true = grind (arith, nat_tests, z) in let f : true ≡ false = sym t ∙ k in absurd (let g : ⊥ = cc in g))) in
          subst (λ vs. IsNoted spots_of vs (get_or spots j None) (after j)) (sym (vars_below n i j h (visits_below i start path out) e refl k))
          (noted_weaker (spot_below p.ops (shape_at p.ops i) c) spots_of
          (λ v x z. ap (λ (t : Bool). cond t (Some (s, spot_of d.frame)) (spot_below p.ops (shape_at p.ops i) c v)) (fresh v (bound_there p valid typed w i low c of row v x z)) ∙ z)
          (vars_at i j) (get_or spots j None) (after j) (subst (λ o. IsNoted (spot_below p.ops (shape_at p.ops i) c) (vars_at i j) o (after j)) old ih))

      by_number : (t : Bool) → (n == j) ≡ t → NotesAt n (visits_below i start path out) (Found' s q c d) j spots
      by_number true k =
          subst (λ m. NotesAt n (visits_below i start path out) (Found' s q c d) m spots) (eqb-true n j k)
          (at_own (subst (λ m. NotesAt i (shape_at p.ops i) c m (set spots n (Some (s, spot_of d.frame)))) (sym (eqb-true n j k)) ih))
      by_number false k = elsewhere k

  -- what is noted of a pair is what is noted of both sides
  pair_noted : (n l r : ℕ) (tests : List Test) → n < length p.ops → shape_at p.ops n ≡ pairs_up l r tests → l < length p.ops → r < length p.ops → (q : _) (x : Position) (q' : _) (y : Position) (k : ℕ)
      → IsIn w p.ops n (pairs_up l r tests) (Pair' q x q' y k) → IsTrue (has_row y) → (j : ℕ) (spots : Spots)
      → NotesAt l (shape_at p.ops l) x j spots → NotesAt r (shape_at p.ops r) y j (noted p.ops l (shape_at p.ops l) x spots) → NotesAt n (pairs_up l r tests) (Pair' q x q' y k) j spots
  pair_noted n l r tests h e low_l low_r q x q' y k of row j spots left right =
      let a : ℕ → Option (ℕ × Spot) = spot_below p.ops (shape_at p.ops l) x in
      let b : ℕ → Option (ℕ × Spot) = spot_below p.ops (shape_at p.ops r) y in
      let mid : Spots = noted p.ops l (shape_at p.ops l) x spots in
      let new : Spots = noted p.ops r (shape_at p.ops r) y mid in
      subst (λ vs. IsNoted (λ v. or_else (a v) (b v)) vs (get_or spots j None) (get_or new j None)) (sym (vars_sides n l r j tests h e))
      (noted_both a b (λ v. or_else (a v) (b v)) (λ v z s. left_there (a v) (b v) z s)
      (λ v z s. right_there (a v) (b v) (none_below p valid typed w l low_l x of.0 of.1 v (not_left p valid typed w n l r tests h e v (bound_there p valid typed w r low_r y of.2 row v z s))) ∙ s)
      (visit_vars (shape_at p.ops j)) (is_on_way p.ops l j) (is_on_way p.ops r j) (get_or spots j None) (get_or mid j None) (get_or new j None) left right)

  -- what is noted of the position of an only input, by an operator that binds none by a visit, is what is noted of the input
  one_noted : (n i : ℕ) → n < length p.ops → (f : Shape) → shape_at p.ops n ≡ f → shape_way f ≡ i ∷ [] → visit_vars f ≡ [] → (c : Position) (j : ℕ) (spots : Spots) → NotesAt i (shape_at p.ops i) c j spots
      → IsNoted (spot_below p.ops (shape_at p.ops i) c) (vars_at n j) (get_or spots j None) (get_or (noted p.ops i (shape_at p.ops i) c spots) j None)
  one_noted n i h f e way none c j spots g =
      subst (λ vs. IsNoted (spot_below p.ops (shape_at p.ops i) c) vs (get_or spots j None) (get_or (noted p.ops i (shape_at p.ops i) c spots) j None)) (sym (vars_input n i j h f e way none)) g

  mutual
    -- at each number, what is noted of a position is the spot that it has for the variable there
    pub noted_in : (n : ℕ) → n < length p.ops → (f : Shape) → shape_at p.ops n ≡ f → (c : Position) → IsIn w p.ops n f c → IsTrue (has_row c) → (j : ℕ) (spots : Spots) → length spots ≡ length p.ops
        → NotesAt n f c j spots
    noted_in n h f e Start of row j spots len = cc
    noted_in n h (one_source s out) e (Top t x) of row j spots len =
        subst (λ vs. IsNoted (spot_below p.ops (one_source s out) (Top t x)) vs (get_or spots j None) (get_or spots j None)) (sym (vars_none n j h (one_source s out) e refl refl)) refl
    noted_in n h (passes_on i (one_group piece out)) e Whole of row j spots len =
        subst (λ vs. IsNoted (spot_below p.ops (passes_on i (one_group piece out)) Whole) vs (get_or spots j None) (get_or spots j None)) (sym (vars_none n j h (passes_on i (one_group piece out)) e refl refl)) refl
    noted_in n h (visits_below i start path out) e (Found' s q c d) of row j spots len =
        let l = inputs_at p.ops typed n h (visits_below i start path out) e in
        visit_noted n i start path out h e (omega (arith, h, l.0)) s q c d of.0 of.1 j spots len
        (noted_in i (omega (arith, h, l.0)) (shape_at p.ops i) refl c of.0 of.1 j (set spots n (Some (s, spot_of d.frame))) (length-set spots n (Some (s, spot_of d.frame)) ∙ len))
    noted_in n h (passes_on i (filters test)) e (Pass' q c) of row j spots len =
        let l = inputs_at p.ops typed n h (passes_on i (filters test)) e in
        one_noted n i h (passes_on i (filters test)) e refl refl c j spots (noted_in i (omega (arith, h, l.0)) (shape_at p.ops i) refl c of.0 of.1 j spots len)
    noted_in n h (passes_on i (extends out made)) e (Pass' q c) of row j spots len =
        let l = inputs_at p.ops typed n h (passes_on i (extends out made)) e in
        one_noted n i h (passes_on i (extends out made)) e refl refl c j spots (noted_in i (omega (arith, h, l.0)) (shape_at p.ops i) refl c of.0 of.1 j spots len)
    noted_in n h (passes_on i (first_by_keys keys None)) e (Pass' q c) of row j spots len =
        let l = inputs_at p.ops typed n h (passes_on i (first_by_keys keys None)) e in
        one_noted n i h (passes_on i (first_by_keys keys None)) e refl refl c j spots (noted_in i (omega (arith, h, l.0)) (shape_at p.ops i) refl c of.0 of.1 j spots len)
    noted_in n h (passes_on i (first_by_keys keys group)) e (First' q c k) of row j spots len =
        let l = inputs_at p.ops typed n h (passes_on i (first_by_keys keys group)) e in
        one_noted n i h (passes_on i (first_by_keys keys group)) e refl refl c j spots (noted_in i (omega (arith, h, l.0)) (shape_at p.ops i) refl c of.0 of.1 j spots len)
    noted_in n h (passes_on i (first_by_keys keys group)) e (Seen' q c k) of row j spots len = cc
    noted_in n h (pairs_up l r tests) e (Pair' q x q' y k) of row j spots len =
        let g = inputs_at p.ops typed n h (pairs_up l r tests) e in
        pair_noted n l r tests h e (omega (arith, h, g.0)) (omega (arith, h, g.1.0)) q x q' y k of row j spots (noted_in l (omega (arith, h, g.0)) (shape_at p.ops l) refl x of.0 of.1 j spots len)
        (noted_in r (omega (arith, h, g.1.0)) (shape_at p.ops r) refl y of.2 row j (noted p.ops l (shape_at p.ops l) x spots) (noted_length p.ops l (shape_at p.ops l) x spots ∙ len))
    noted_in n h (passes_on i (in_order u desc)) e (Sorted' q m list k) of row j spots len =
        let l = inputs_at p.ops typed n h (passes_on i (in_order u desc)) e in
        subst (λ vs. IsNoted (spot_below_nth p.ops i list k) vs (get_or spots j None) (get_or (noted_nth p.ops i list k spots) j None)) (sym (vars_input n i j h (passes_on i (in_order u desc)) e refl refl))
        (nth_noted i (omega (arith, h, l.0)) list k of.0 of.1 j spots len)
    noted_in n h f e c of row j spots len = absurd of

    -- at each number, what is noted of the position at an index of a sorted list is the spot that it has for the variable there
    nth_noted : (i : ℕ) → i < length p.ops → {m : _} (list : Row m) (k : ℕ) → AreIn w p.ops i list → k < count list → (j : ℕ) (spots : Spots) → length spots ≡ length p.ops
        → IsNoted (spot_below_nth p.ops i list k) (vars_at i j) (get_or spots j None) (get_or (noted_nth p.ops i list k spots) j None)
    nth_noted i h no_more k of l j spots len = absurd (omega (arith, l))
    nth_noted i h (one_more q c rest) zero of l j spots len = noted_in i h (shape_at p.ops i) refl c of.0 of.1 j spots len
    nth_noted i h (one_more q c rest) (suc k) of l j spots len = nth_noted i h rest k of.2 (omega (arith, l)) j spots len
