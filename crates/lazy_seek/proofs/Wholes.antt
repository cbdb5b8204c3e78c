-- Evidence as a whole: what it reaches, and that what was found of it is all.
use Rattle.std.proofs.Common.{◌≡◌, ℕ, zero, suc, ◌<◌, ◌≤◌, ◌+◌, true, false, cond, List, [], ◌∷◌, ◌++◌, refl, sym, ap, subst, ◌∙◌, arith, length, length-append, take, map}
use Rattle.std.specs.Prelude.{Bool, slice_index_or}
use Rattle.std.proofs.lemmas.List.{length-map}
use Rattle.mix_base.proofs.Lists.{append_nil}
use Rattle.mix_tree.specs.Nodes.{Documents, Node}
use Rattle.plan_core.specs.declared.plan.Op.{Op}
use Rattle.plan_core.specs.declared.plan.Plan.{Plan}
use Rattle.plan_core.specs.PlanMade.{op_of, plan_value}
use Rattle.plan_core.specs.Plans.{Operator, PlanValue}
use Rattle.plan_core.specs.Shapes.{Shape, one_source, visits_below, pairs_up, passes_on, no_events, shape_at}
use Rattle.plan_core.specs.Valid.{IsValid}
use Rattle.plan_evidence.specs.Evidence.{visit_vars, is_on_way, evidence_vars, ShapeHolds, IsEvidence}
use Rattle.lazy_plan.specs.Bench.{BenchState, ops_of, documents, KeepsBench}
use Rattle.lazy_seek.specs.declared.evidence.Found.{Found}
use Rattle.lazy_seek.specs.declared.evidence.Turn.{Turn}
use Rattle.lazy_seek.specs.declared.evidence.Wanted.{Wanted}
use Rattle.lazy_seek.specs.Evidenced.{reaches, AreSpotsOf}
use Rattle.lazy_seek.specs.Given.{vars_below, next_given}
use Rattle.lazy_seek.specs.Reach.{reach}
use Rattle.lazy_seek.specs.Ways.{IsWay}
use Rattle.lazy_seek.specs.Turns.{nodes_wanted, IsWanted, IsTurn, Knows, shape_reach, turn_reach, TurnHolds}
use Rattle.lazy_seek.proofs.Agreeing.{given_holds}
use Rattle.lazy_seek.proofs.Drafts.{way_low, vars_next, vars_are, next_there, places_given, take_one}

-- REACHES

-- one place more
reaches_push : (ps : List (List ℕ)) (p : List ℕ) → reaches (ps ++ p ∷ []) ≡ reaches ps + reach p
reaches_push [] p = omega arith
reaches_push (q ∷ ps) p = (let h = reaches_push ps p in omega (arith, h))

-- the first places reach no further than all
pub reaches_front : (i : ℕ) (ps : List (List ℕ)) → reaches (take i ps) ≤ reaches ps
reaches_front zero ps = omega arith
reaches_front (suc i) [] = omega arith
reaches_front (suc i) (p ∷ ps) = (let h = reaches_front i ps in omega (arith, h))

-- as many places as evidence has variables
pub evidence_length : (docs : Documents) (ops : List Operator) (n : ℕ) (places : List (List ℕ)) (nodes : ℕ → Node) → IsEvidence docs ops n places nodes → length (evidence_vars ops n) ≡ length places
evidence_length docs ops n places nodes h = sym (length-map (evidence_vars ops n) (λ v. (nodes v).place)) ∙ ap length h.written

module _ (p : PlanValue) (valid : IsValid p) (t : Turn) (turn : IsTurn p.ops t) where
  -- how far was walked once the operator at hand had its turn
  far : (x : Bool) (f : Shape) → is_on_way p.ops t.wanted.op t.op ≡ x → shape_at p.ops t.op ≡ f
      → reaches (take (length (vars_below p.ops t.wanted.op t.op)) t.wanted.places.now) + cond x (shape_reach f (next_given p.ops t.wanted.op t.wanted.places.now t.op)) 0
      ≤ reaches (take (length (vars_below p.ops t.wanted.op t.op ++ cond x (visit_vars f) [])) t.wanted.places.now)
  far true (visits_below input start path out) o e =
      let vs : List ℕ = vars_below p.ops t.wanted.op t.op in
      let ps : List (List ℕ) = t.wanted.places.now in
      let low = way_low p valid t.wanted.op turn.is_wanted.within t.wanted.op t.op turn.is_wanted.within o in
      let l = next_there p valid t.wanted.op turn.is_wanted.within ps turn.is_wanted.places t.op low o out (ap visit_vars e) in
      let many : length (vs ++ out ∷ []) ≡ suc (length vs) = omega (arith, length-append vs (out ∷ [])) in
      let more = ap (λ (m : ℕ). reaches (take m ps)) many ∙ ap reaches (take_one ps (length vs) [] l) ∙ reaches_push (take (length vs) ps) (slice_index_or ps (length vs) []) in
      omega (arith, more)
  far true (one_source s out) o e = (let z = ap (λ (l : List ℕ). reaches (take (length l) t.wanted.places.now)) (append_nil (vars_below p.ops t.wanted.op t.op)) in omega (arith, z))
  far true (pairs_up l r tests) o e = (let z = ap (λ (l : List ℕ). reaches (take (length l) t.wanted.places.now)) (append_nil (vars_below p.ops t.wanted.op t.op)) in omega (arith, z))
  far true (passes_on i stage) o e = (let z = ap (λ (l : List ℕ). reaches (take (length l) t.wanted.places.now)) (append_nil (vars_below p.ops t.wanted.op t.op)) in omega (arith, z))
  far true (no_events i made) o e = (let z = ap (λ (l : List ℕ). reaches (take (length l) t.wanted.places.now)) (append_nil (vars_below p.ops t.wanted.op t.op)) in omega (arith, z))
  far false f o e = (let z = ap (λ (l : List ℕ). reaches (take (length l) t.wanted.places.now)) (append_nil (vars_below p.ops t.wanted.op t.op)) in omega (arith, z))

  -- how far was walked once the operator at hand had its turn
  pub walked_on : reaches (take (length (vars_below p.ops t.wanted.op t.op)) t.wanted.places.now) + turn_reach p.ops t ≤ reaches (take (length (vars_below p.ops t.wanted.op (suc t.op))) t.wanted.places.now)
  walked_on =
      subst (λ (x : Bool). reaches (take (length (vars_below p.ops t.wanted.op t.op)) t.wanted.places.now) + cond x (shape_reach (shape_at p.ops t.op) (next_given p.ops t.wanted.op t.wanted.places.now t.op)) 0
      ≤ reaches (take (length (vars_below p.ops t.wanted.op (suc t.op))) t.wanted.places.now)) (sym turn.way)
      (subst (λ (vs : List ℕ). reaches (take (length (vars_below p.ops t.wanted.op t.op)) t.wanted.places.now)
      + cond (is_on_way p.ops t.wanted.op t.op) (shape_reach (shape_at p.ops t.op) (next_given p.ops t.wanted.op t.wanted.places.now t.op)) 0 ≤ reaches (take (length vs) t.wanted.places.now))
      (sym (vars_next p valid t.wanted.op turn.is_wanted.within t.op)) (far (is_on_way p.ops t.wanted.op t.op) (shape_at p.ops t.op) refl refl))

-- TURNS

-- it is the turn of an operator that the list reaches
pub turn_is : (p : PlanValue) (w : Wanted) → IsWanted p.ops w → (way : List Bool) (i : ℕ) → IsWay p.ops w.op way → length way ≡ suc w.op → i < length way
    → IsTurn p.ops (record { wanted = w; op = i; on_way = slice_index_or way i false })
turn_is p w wanted way i is many l = record { within = (let k = wanted.within in omega (arith, k, many, l)); is_wanted = wanted; way = is i }

-- so many visits were counted as evidence has variables
pub counted : (os os' : List Op) (n count : ℕ) (way way' : List Bool) → os' ≡ os → way' ≡ way → IsWay (map op_of os) n way → length way ≡ suc n
    → (IsWay (map op_of os') n way' → count ≡ length (vars_below (map op_of os') n (length way'))) → count ≡ length (vars_below (map op_of os) n (suc n))
counted os os' n count way way' e f w l h =
    h (subst (λ (xs : List Op). IsWay (map op_of xs) n way') (sym e) (subst (IsWay (map op_of os) n) (sym f) w))
    ∙ ap (λ (xs : List Op). length (vars_below (map op_of xs) n (length way'))) e ∙ ap (λ (m : ℕ). length (vars_below (map op_of os) n m)) (ap length f ∙ l)

-- STATES

module _ (a b : BenchState) (kept : KeepsBench a b) where
  -- an operator holds of the nodes given as it did
  pub holds_back : (t : Turn) → TurnHolds b t → TurnHolds a t
  holds_back t h =
      subst (λ (q : Plan). ShapeHolds (documents a) (nodes_wanted (plan_value q).ops t.wanted) (shape_at (plan_value q).ops t.op)) kept.plan
      (subst (λ (d : Documents). ShapeHolds d (nodes_wanted (ops_of b) t.wanted) (shape_at (ops_of b) t.op)) kept.documents h)

  -- and as it will
  pub holds_forth : (t : Turn) → TurnHolds a t → TurnHolds b t
  holds_forth t h =
      subst (λ (q : Plan). ShapeHolds (documents b) (nodes_wanted (plan_value q).ops t.wanted) (shape_at (plan_value q).ops t.op)) (sym kept.plan)
      (subst (λ (d : Documents). ShapeHolds d (nodes_wanted (ops_of a) t.wanted) (shape_at (ops_of a) t.op)) (sym kept.documents) h)

  -- a turn stays one
  pub turn_on : (t : Turn) → IsTurn (ops_of a) t → IsTurn (ops_of b) t
  turn_on t h = subst (λ (q : Plan). IsTurn (plan_value q).ops t) (sym kept.plan) h

  -- what is known of the operators is known of them as they stay
  pub ops_on : (st : BenchState) (w : Wanted) (f : Found) (i : ℕ) → Knows st (ops_of a) w f i → Knows st (ops_of b) w f i
  ops_on st w f i h = subst (λ (q : Plan). Knows st (plan_value q).ops w f i) (sym kept.plan) h

  -- and as they were
  pub ops_back : (st : BenchState) (w : Wanted) (f : Found) (i : ℕ) → Knows st (ops_of b) w f i → Knows st (ops_of a) w f i
  ops_back st w f i h = subst (λ (q : Plan). Knows st (plan_value q).ops w f i) kept.plan h

-- ALL OF IT

module _ (p : PlanValue) (valid : IsValid p) (w : Wanted) (wanted : IsWanted p.ops w) (docs : Documents) where
  -- where an operator on the way doesn't hold of the nodes given, the places aren't evidence
  pub no_evidence : (i : ℕ) → i < length p.ops → is_on_way p.ops w.op i ≡ true → (ShapeHolds docs (nodes_wanted p.ops w) (shape_at p.ops i) → ⊥) → (nodes : ℕ → Node)
      → IsEvidence docs p.ops w.op w.places.now nodes → ⊥
  no_evidence i b on fails nodes is = fails (given_holds p valid w.op wanted.within w.places.now wanted.places docs nodes is i b on)

  -- where each operator on the way holds of the nodes given, these are the evidence
  pub is_evidence : ((j : ℕ) → j < suc w.op → is_on_way p.ops w.op j ≡ true → ShapeHolds docs (nodes_wanted p.ops w) (shape_at p.ops j)) → IsEvidence docs p.ops w.op w.places.now (nodes_wanted p.ops w)
  is_evidence h = record {
    right = λ i b o. h i (let l = way_low p valid w.op wanted.within w.op i wanted.within o in omega (arith, l)) o;
    written = places_given p valid w.op wanted.within w.places.now wanted.places;
  }

  -- the spots that were found are those of the nodes given
  pub spots_given : (st : BenchState) (f : Found) → Knows st p.ops w f (suc w.op) → AreSpotsOf st (nodes_wanted p.ops w) (evidence_vars p.ops w.op) f.spots.items
  spots_given st f h = subst (λ (vs : List ℕ). AreSpotsOf st (nodes_wanted p.ops w) vs f.spots.items) (sym (vars_are p valid w.op wanted.within)) h.spots_are
