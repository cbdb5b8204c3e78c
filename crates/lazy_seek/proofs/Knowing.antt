-- What is known of evidence, from operator to operator.
use Rattle.std.proofs.Common.{◌≡◌, ◌⊎◌, inl, inr, ℕ, zero, suc, ◌<◌, ◌≤◌, true, false, cond, List, [], ◌∷◌, ◌++◌, Some, None, refl, sym, ap, subst, ◌∙◌, arith, length}
use Rattle.std.specs.Prelude.{Bool, ◌==◌, slice_get, Result, Ok, Err, OnOk}
use Rattle.std.specs.declared.alloc.AllocError.{AllocError}
use Rattle.std.specs.declared.alloc.Global.{Global}
use Rattle.std.specs.declared.vec.Vec.{Vec}
use Rattle.std.proofs.lemmas.Bool.{eqb-true}
use Rattle.std.proofs.lemmas.Bool.Decides.{nat_tests}
use Rattle.mix_base.specs.Ascents.{Among}
use Rattle.mix_base.proofs.Choices.{some_is}
use Rattle.mix_base.proofs.Lists.{append_nil}
use Rattle.mix_tree.specs.Nodes.{Node, document_node}
use Rattle.path_expr.specs.Form.{Form}
use Rattle.tree_buffer.specs.declared.spot.Spot.{Spot}
use Rattle.plan_core.specs.Plans.{Operator, PlanValue}
use Rattle.plan_core.specs.Shapes.{filters, extends, first_by_keys, one_group, in_order, Shape, one_source, visits_below, pairs_up, passes_on, no_events, shape_at}
use Rattle.plan_core.specs.Typed.{IsTyped}
use Rattle.plan_core.specs.Valid.{a_node, a_list, Kinds, no_kinds, kept, made_kind, shape_kinds, shape_outs, shape_inputs, IsShapeFit, kinds, IsValid}
use Rattle.plan_core.proofs.Fresh.{smaller, kinds-is}
use Rattle.plan_core.proofs.Typed.{valid_is_typed}
use Rattle.plan_evidence.specs.Evidence.{shape_way, visit_vars, is_on_way}
use Rattle.plan_evidence.proofs.Evident.{shape_vars, way_bound, made_is_no_node, list_is_no_node}
use Rattle.plan_evidence.proofs.Ways.{way_inputs}
use Rattle.lazy_binding.specs.World.{place_in}
use Rattle.lazy_plan.specs.Bench.{BenchState, node_at, IsSpotAt, KeepsBench}
use Rattle.lazy_seek.specs.declared.evidence.Found.{Found}
use Rattle.lazy_seek.specs.declared.evidence.Wanted.{Wanted}
use Rattle.lazy_seek.specs.declared.known.Known.{Known}
use Rattle.lazy_seek.specs.declared.known.KnownNodes.{KnownNodes}
use Rattle.lazy_seek.specs.Evidenced.{AreSpotsOf}
use Rattle.lazy_seek.specs.Given.{vars_below, next_given}
use Rattle.lazy_seek.specs.Known.{known_in, KeepsOthers, IsPlaceOf, IsKnownAs}
use Rattle.lazy_seek.specs.Turns.{nodes_wanted, IsWanted, Knows}
use Rattle.lazy_seek.proofs.Agreeing.{step, with_is, used_kind}
use Rattle.lazy_seek.proofs.Drafts.{way_low, vars_next, source_given, visit_given, next_there, next_get}

-- before any operator nothing is known
pub knows_none : (st : BenchState) (ops : List Operator) (w : Wanted) (f : Found) → f.spots.items ≡ [] → Knows st ops w f 0
unfolding vars_below
knows_none st ops w f e = record {
  known = λ j v l o k. absurd (omega (arith, l));
  spots_are = subst (AreSpotsOf st (nodes_wanted ops w) []) (sym e) tt;
}

-- WHAT WAS FOUND STAYS FOUND

module _ (a b : BenchState) (kept : KeepsBench a b) where
  -- a node that was found for a variable stays found
  pub known_on : (places : List (List ℕ)) (k : KnownNodes) (v : ℕ) (n : Node) → IsKnownAs a places k v n → IsKnownAs b places k v n
  known_on places k v n h =
      let s = kept.spots h.entry.node.source h.entry.node.spot h.spot in
      record { entry = h.entry; is = h.is; spot = s.spot; node = s.node ∙ h.node; at_place = h.at_place }

  -- spots go on standing for the nodes of variables
  pub spots_on : (nodes : ℕ → Node) (vs : List ℕ) (xs : List Spot) → AreSpotsOf a nodes vs xs → AreSpotsOf b nodes vs xs
  spots_on nodes [] [] h = tt
  spots_on nodes [] (x ∷ xs) h = absurd h
  spots_on nodes (v ∷ vs) [] h = absurd h
  spots_on nodes (v ∷ vs) (x ∷ xs) h = (let s = kept.spots (nodes v).source x h.0 in (s.spot, s.node ∙ h.1, spots_on nodes vs xs h.2))

  -- what is known stays known
  pub knows_on : (ops : List Operator) (w : Wanted) (f : Found) (i : ℕ) → Knows a ops w f i → Knows b ops w f i
  knows_on ops w f i h = record {
    known = λ j v l o e. known_on w.places.now f.nodes v (nodes_wanted ops w v) (h.known j v l o e);
    spots_are = spots_on (nodes_wanted ops w) (vars_below ops w.op i) f.spots.items h.spots_are;
  }

-- spots of variables are as many as these
pub spots_length : (st : BenchState) (nodes : ℕ → Node) (vs : List ℕ) (xs : List Spot) → AreSpotsOf st nodes vs xs → length xs ≡ length vs
spots_length st nodes [] [] h = refl
spots_length st nodes [] (x ∷ xs) h = absurd h
spots_length st nodes (v ∷ vs) [] h = absurd h
spots_length st nodes (v ∷ vs) (x ∷ xs) h = ap suc (spots_length st nodes vs xs h.2)

-- spots of variables and of one more
pub spots_more : (st : BenchState) (nodes : ℕ → Node) (vs : List ℕ) (xs : List Spot) (v : ℕ) (x : Spot) → AreSpotsOf st nodes vs xs → IsSpotAt st (nodes v).source x → node_at st (nodes v).source x ≡ nodes v
    → AreSpotsOf st nodes (vs ++ v ∷ []) (xs ++ x ∷ [])
spots_more st nodes [] [] v x h s e = (s, e, tt)
spots_more st nodes [] (y ∷ xs) v x h s e = absurd h
spots_more st nodes (w ∷ vs) [] v x h s e = absurd h
spots_more st nodes (w ∷ vs) (y ∷ xs) v x h s e = (h.0, h.1, spots_more st nodes vs xs v x h.2 s e)

-- what is known of a variable's node is known of the entry that was found
pub record KnownEntry (st : BenchState) (places : List (List ℕ)) (e : Known) (n : Node) : Type 0 where
  pub spot : IsSpotAt st e.node.source e.node.spot
  pub node : node_at st e.node.source e.node.spot ≡ n
  pub at_place : IsPlaceOf places e.place n.place

-- what is known of a variable's node is known of the entry that was found
pub known_entry : (st : BenchState) (places : List (List ℕ)) (k : KnownNodes) (v : ℕ) (n : Node) → IsKnownAs st places k v n → (e : Known) → known_in k v ≡ Some e → KnownEntry st places e n
known_entry st places k v n h e is = subst (λ (x : Known). KnownEntry st places x n) (some_is h.entry e (sym h.is ∙ is)) (record { spot = h.spot; node = h.node; at_place = h.at_place })

-- a variable's node was found, so an entry is there
pub known_there : {Q : Type 0} (st : BenchState) (places : List (List ℕ)) (k : KnownNodes) (v : ℕ) (n : Node) → IsKnownAs st places k v n → known_in k v ≡ None → Q
known_there st places k v n h e = (let z : None ≡ Some h.entry = sym e ∙ h.is in cc)

-- where a variable's node was put, it and the others are known
pub known_put : (st : BenchState) (places : List (List ℕ)) (k k' : KnownNodes) (nodes : ℕ → Node) (out : ℕ) → KeepsOthers out k k' → IsKnownAs st places k' out (nodes out) → (v : ℕ)
    → IsKnownAs st places k v (nodes v) → IsKnownAs st places k' v (nodes v)
known_put st places k k' nodes out others h v g = either (out == v) refl
  where
    either : (t : Bool) → (out == v) ≡ t → IsKnownAs st places k' v (nodes v)
    either true e = subst (λ u. IsKnownAs st places k' u (nodes u)) (eqb-true out v e) h
    either false e = record { entry = g.entry; is = others v e ∙ g.is; spot = g.spot; node = g.node; at_place = g.at_place }

-- what was put for a variable is there
pub put_here : (k k' : KnownNodes) (out : ℕ) (e : Known) → ((v : ℕ) → known_in k' v ≡ cond (out == v) (Some e) (known_in k v)) → known_in k' out ≡ Some e
put_here k k' out e h = (let t : (out == out) ≡ true = grind (arith, nat_tests) in h out ∙ ap (λ (b : Bool). cond b (Some e) (known_in k out)) t)

-- the document node of a source was found, where its spot was put for a variable without a place
pub put_top : (st : BenchState) (places : List (List ℕ)) (k k' : KnownNodes) (s out : ℕ) (x : Spot) (r : Result Unit AllocError)
    → OnOk r ((v : ℕ) → known_in k' v ≡ cond (out == v) (Some (record { node = record { source = s; spot = x }; place = None })) (known_in k v))
    → IsSpotAt st s x → place_in st.world s x ≡ [] → OnOk r (IsKnownAs st places k' out (document_node s))
put_top st places k k' s out x (Ok u) h spot e = record {
  entry = record { node = record { source = s; spot = x }; place = None };
  is = put_here k k' out (record { node = record { source = s; spot = x }; place = None }) h;
  spot = spot;
  node = ap (λ (q : List ℕ). record { source = s; place = q }) e;
  at_place = refl;
}
put_top st places k k' s out x (Err f) h spot e = tt

-- whether a shape binds a node anew
abbrev pub binds_node : Shape → Bool
binds_node (one_source s out) = true
binds_node (visits_below input start path out) = true
binds_node (pairs_up left right tests) = false
binds_node (passes_on input stage) = false
binds_node (no_events input made) = false

-- a shape that binds no node anew doesn't bind a variable that holds one
no_node : (f : Shape) (of : ℕ → Kinds) (v : ℕ) → binds_node f ≡ false → Among v (shape_outs f) → shape_kinds f of v ≡ Some a_node → ⊥
no_node (one_source s out) of v b a k = cc
no_node (visits_below input start path out) of v b a k = cc
no_node (pairs_up l r tests) of v b a k = a
no_node (passes_on j (filters test)) of v b a k = a
no_node (passes_on j (extends out made)) of v b (inl c) k = made_is_no_node made (with_is out v (made_kind made) (of j) c k)
no_node (passes_on j (extends out made)) of v b (inr c) k = c
no_node (passes_on j (first_by_keys keys None)) of v b a k = a
no_node (passes_on j (first_by_keys keys (Some g))) of v b (inl c) k = list_is_no_node (with_is g.1 v a_list (kept keys (of j)) c k)
no_node (passes_on j (first_by_keys keys (Some g))) of v b (inr c) k = c
no_node (passes_on j (one_group piece out)) of v b (inl c) k = list_is_no_node (with_is out v a_list no_kinds c k)
no_node (passes_on j (one_group piece out)) of v b (inr c) k = c
no_node (passes_on j (in_order w desc)) of v b a k = a
no_node (no_events j made) of v b a k = a

-- a shape that binds no node anew binds none by a visit
no_visit : (f : Shape) → binds_node f ≡ false → visit_vars f ≡ []
no_visit (one_source s out) b = cc
no_visit (visits_below input start path out) b = cc
no_visit (pairs_up l r tests) b = refl
no_visit (passes_on j stage) b = refl
no_visit (no_events j made) b = refl

-- a number below the one after another is below the other, or is that
pub below_or : (j i : ℕ) → j < suc i → (j < i) ⊎ (j ≡ i)
below_or zero zero h = inr refl
below_or zero (suc i) h = inl (omega arith)
below_or (suc j) zero h = absurd (omega (arith, h))
below_or (suc j) (suc i) h = elim (below_or j i (omega (arith, h))) [ inl l ↦ inl (omega (arith, l)) | inr e ↦ inr (ap suc e) ]

-- THE NEXT OPERATOR

module _ (p : PlanValue) (valid : IsValid p) (w : Wanted) (wanted : IsWanted p.ops w) (st : BenchState) (i : ℕ) (b : i < length p.ops) where
  -- the plan's operators are typed
  typed : IsTyped p.ops
  typed = valid_is_typed p valid

  -- the nodes of variables that operators up to one hold were found, where those below it were, and those that it binds
  next_known : (k : KnownNodes) → ((j v : ℕ) → j < i → is_on_way p.ops w.op j ≡ true → kinds p.ops j v ≡ Some a_node → IsKnownAs st w.places.now k v (nodes_wanted p.ops w v))
      → ((v : ℕ) → is_on_way p.ops w.op i ≡ true → Among v (shape_outs (shape_at p.ops i)) → shape_kinds (shape_at p.ops i) (kinds p.ops) v ≡ Some a_node → IsKnownAs st w.places.now k v (nodes_wanted p.ops w v))
      → (j v : ℕ) → j < suc i → is_on_way p.ops w.op j ≡ true → kinds p.ops j v ≡ Some a_node → IsKnownAs st w.places.now k v (nodes_wanted p.ops w v)
  next_known k below here j v l o e = elim (below_or j i l) [
    | inl m ↦ below j v m o e
    | inr z ↦
        (let f : Shape = shape_at p.ops i in
        let on : is_on_way p.ops w.op i ≡ true = subst (λ m. is_on_way p.ops w.op m ≡ true) z o in
        let g : shape_kinds f (kinds p.ops) v ≡ Some a_node = sym (ap (λ (ks : Kinds). ks v) (kinds-is p valid typed i b)) ∙ subst (λ m. kinds p.ops m v ≡ Some a_node) z e in
        elim (way_bound f (kinds p.ops) v g) [
          | inl c ↦ here v on c g
          | inr m ↦ below m.0 v (smaller p valid typed m.0 i b (way_inputs f m.0 m.1)) (step p valid w.op wanted.within i b m.0 m.1 on) m.2
        ])
  ]

  -- what is known below an operator that isn't on the way is known below the next one
  pub knows_off : (f : Found) → is_on_way p.ops w.op i ≡ false → Knows st p.ops w f i → Knows st p.ops w f (suc i)
  knows_off f off h = record {
    known = next_known f.nodes h.known (λ v on c k. (let z : true ≡ false = sym on ∙ off in cc));
    spots_are =
        subst (λ (vs : List ℕ). AreSpotsOf st (nodes_wanted p.ops w) vs f.spots.items)
        (sym (vars_next p valid w.op wanted.within i ∙ ap (λ (t : Bool). vars_below p.ops w.op i ++ cond t (visit_vars (shape_at p.ops i)) []) off ∙ append_nil (vars_below p.ops w.op i))) h.spots_are;
  }

  module _ (on : is_on_way p.ops w.op i ≡ true) where
    -- the variables below the next operator, where no visit is at hand
    vars_same : visit_vars (shape_at p.ops i) ≡ [] → vars_below p.ops w.op i ≡ vars_below p.ops w.op (suc i)
    vars_same e =
        sym (vars_next p valid w.op wanted.within i ∙ ap (λ (t : Bool). vars_below p.ops w.op i ++ cond t (visit_vars (shape_at p.ops i)) []) on
        ∙ ap (λ (l : List ℕ). vars_below p.ops w.op i ++ l) e ∙ append_nil (vars_below p.ops w.op i))

    -- what is known below an operator that binds no node anew is known below the next one
    pub knows_pass : (f : Found) → binds_node (shape_at p.ops i) ≡ false → Knows st p.ops w f i → Knows st p.ops w f (suc i)
    knows_pass f without h = record {
      known = next_known f.nodes h.known (λ v o c k. absurd (no_node (shape_at p.ops i) (kinds p.ops) v without c k));
      spots_are = subst (λ (vs : List ℕ). AreSpotsOf st (nodes_wanted p.ops w) vs f.spots.items) (vars_same (no_visit (shape_at p.ops i) without)) h.spots_are;
    }

    -- the nodes of the variables of which an operator that binds no node anew asks something were found
    pub used_known : (f : Found) → binds_node (shape_at p.ops i) ≡ false → Knows st p.ops w f i → (v : ℕ) → Among v (shape_vars (shape_at p.ops i)) → IsKnownAs st w.places.now f.nodes v (nodes_wanted p.ops w v)
    used_known f without h v a =
        let k : shape_kinds (shape_at p.ops i) (kinds p.ops) v ≡ Some a_node = sym (ap (λ (ks : Kinds). ks v) (kinds-is p valid typed i b)) ∙ used_kind p valid w.op wanted.within i b v a in
        elim (way_bound (shape_at p.ops i) (kinds p.ops) v k) [
          | inl c ↦ absurd (no_node (shape_at p.ops i) (kinds p.ops) v without c k)
          | inr m ↦ h.known m.0 v (smaller p valid typed m.0 i b (way_inputs (shape_at p.ops i) m.0 m.1)) (step p valid w.op wanted.within i b m.0 m.1 on) m.2
        ]

    -- what is known below a source, with its document node, is known below the next operator
    pub knows_top : (s out : ℕ) → shape_at p.ops i ≡ one_source s out → (f f' : Found) → Knows st p.ops w f i → KeepsOthers out f.nodes f'.nodes → f'.spots ≡ f.spots
        → IsKnownAs st w.places.now f'.nodes out (document_node s) → Knows st p.ops w f' (suc i)
    knows_top s out e f f' h others same put =
        let low : i ≤ w.op = way_low p valid w.op wanted.within w.op i wanted.within on in
        let here : IsKnownAs st w.places.now f'.nodes out (nodes_wanted p.ops w out) = subst (IsKnownAs st w.places.now f'.nodes out) (sym (source_given p valid w.op wanted.within w.places.now i s out low on e)) put in
        record {
          known = next_known f'.nodes (λ j v l o k. known_put st w.places.now f.nodes f'.nodes (nodes_wanted p.ops w) out others here v (h.known j v l o k))
              (λ v o c k. one v (subst (λ (g : Shape). Among v (shape_outs g)) e c) here);
          spots_are =
              subst (λ (vs : List ℕ). AreSpotsOf st (nodes_wanted p.ops w) vs f'.spots.items) (vars_same (ap visit_vars e))
              (subst (λ (xs : Vec Spot Global). AreSpotsOf st (nodes_wanted p.ops w) (vars_below p.ops w.op i) xs.items) (sym same) h.spots_are);
        }
      where
        one : (v : ℕ) → Among v (out ∷ []) → IsKnownAs st w.places.now f'.nodes out (nodes_wanted p.ops w out) → IsKnownAs st w.places.now f'.nodes v (nodes_wanted p.ops w v)
        one v (inl z) x = subst (λ u. IsKnownAs st w.places.now f'.nodes u (nodes_wanted p.ops w u)) (sym z) x
        one v (inr z) x = absurd z

    module _ (input start out : ℕ) (path : Form) (e : shape_at p.ops i ≡ visits_below input start path out) where
      -- the operator has no greater number than that whose evidence it is
      low : i ≤ w.op
      low = way_low p valid w.op wanted.within w.op i wanted.within on

      -- the start's node was found
      pub start_known : (f : Found) → Knows st p.ops w f i → IsKnownAs st w.places.now f.nodes start (nodes_wanted p.ops w start)
      start_known f h =
          let fit : IsShapeFit (visits_below input start path out) (kinds p.ops) = subst (λ (g : Shape). IsShapeFit g (kinds p.ops)) e (typed.fit i b) in
          h.known input start (smaller p valid typed input i b (subst (λ (g : Shape). Among input (shape_inputs g)) (sym e) (inl refl)))
          (step p valid w.op wanted.within i b input (subst (λ (g : Shape). Among input (shape_way g)) (sym e) (inl refl)) on) fit.0

      -- the next place is there
      pub place_there : (f : Found) → Knows st p.ops w f i → length f.spots.items < length w.places.now
      place_there f h =
          let z = spots_length st (nodes_wanted p.ops w) (vars_below p.ops w.op i) f.spots.items h.spots_are in
          let l = next_there p valid w.op wanted.within w.places.now wanted.places i low on out (ap visit_vars e) in omega (arith, z, l)

      -- the next place, by the number of spots
      pub place_get : (f : Found) → Knows st p.ops w f i → slice_get w.places.now (length f.spots.items) ≡ Some (next_given p.ops w.op w.places.now i)
      place_get f h =
          let z = spots_length st (nodes_wanted p.ops w) (vars_below p.ops w.op i) f.spots.items h.spots_are in
          subst (λ (m : ℕ). slice_get w.places.now m ≡ Some (next_given p.ops w.op w.places.now i)) (sym z)
          (next_get p valid w.op wanted.within w.places.now wanted.places i (next_there p valid w.op wanted.within w.places.now wanted.places i low on out (ap visit_vars e)))

      -- the node of the variable that the visit binds
      pub out_given : nodes_wanted p.ops w out ≡ record { source = (nodes_wanted p.ops w start).source; place = next_given p.ops w.op w.places.now i }
      out_given = visit_given p valid w.op wanted.within w.places.now i input start out path low on e

      -- what is known below a visit, with the node that it binds, is known below the next operator
      pub knows_visit : (f f' : Found) (x : Spot) → Knows st p.ops w f i → KeepsOthers out f.nodes f'.nodes → f'.spots.items ≡ f.spots.items ++ x ∷ []
          → IsKnownAs st w.places.now f'.nodes out (nodes_wanted p.ops w out) → IsSpotAt st (nodes_wanted p.ops w out).source x → node_at st (nodes_wanted p.ops w out).source x ≡ nodes_wanted p.ops w out
          → Knows st p.ops w f' (suc i)
      knows_visit f f' x h others more put spot node =
          let next : vars_below p.ops w.op (suc i) ≡ vars_below p.ops w.op i ++ out ∷ [] =
          vars_next p valid w.op wanted.within i ∙ ap (λ (t : Bool). vars_below p.ops w.op i ++ cond t (visit_vars (shape_at p.ops i)) []) on
          ∙ ap (λ (g : Shape). vars_below p.ops w.op i ++ visit_vars g) e in
          record {
            known = next_known f'.nodes (λ j v l o k. known_put st w.places.now f.nodes f'.nodes (nodes_wanted p.ops w) out others put v (h.known j v l o k))
                (λ v o c k. one v (subst (λ (g : Shape). Among v (shape_outs g)) e c));
            spots_are =
                subst (λ (vs : List ℕ). AreSpotsOf st (nodes_wanted p.ops w) vs f'.spots.items) (sym next)
                (subst (λ (xs : List Spot). AreSpotsOf st (nodes_wanted p.ops w) (vars_below p.ops w.op i ++ out ∷ []) xs) (sym more)
                (spots_more st (nodes_wanted p.ops w) (vars_below p.ops w.op i) f.spots.items out x h.spots_are spot node));
          }
        where
          one : (v : ℕ) → Among v (out ∷ []) → IsKnownAs st w.places.now f'.nodes v (nodes_wanted p.ops w v)
          one v (inl z) = subst (λ u. IsKnownAs st w.places.now f'.nodes u (nodes_wanted p.ops w u)) (sym z) put
          one v (inr z) = absurd z
