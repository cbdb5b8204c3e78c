-- Evidence of members, from call to call.
use Rattle.std.proofs.Common.{◌≡◌, ◌∙◌, ℕ, suc, ◌<◌, List, sym, ap, subst, length, Some, refl}
use Rattle.std.specs.Prelude.{Bool}
use Rattle.node_text.specs.Node.{LevelValue}
use Rattle.mix_tree.specs.Nodes.{Documents, Node}
use Rattle.mix_tree.specs.declared.var.Key.{Key}
use Rattle.plan_core.specs.declared.plan.Plan.{Plan}
use Rattle.plan_core.specs.ByNumber.{op_at}
use Rattle.plan_core.specs.PlanMade.{plan_value}
use Rattle.plan_core.specs.Plans.{PlanValue}
use Rattle.plan_core.specs.TolledRows.{same_values}
use Rattle.plan_core.specs.Shapes.{shape_at}
use Rattle.plan_core.specs.Typed.{IsTyped}
use Rattle.plan_core.specs.Valid.{a_node, kinds, IsValid}
use Rattle.plan_evidence.specs.Evidence.{evidence_vars, IsEvidence}
use Rattle.plan_evidence.specs.Held.{node_values}
use Rattle.plan_evidence.specs.Named.{Listing, listing}
use Rattle.plan_forms.specs.Forms.{input_at, keys_of}
use Rattle.lazy_plan.specs.Bench.{BenchState, ops_of, documents, KeepsBench}
use Rattle.lazy_seek.specs.Evidenced.{AreSpotsOf}
use Rattle.lazy_seek.specs.Given.{given}
use Rattle.lazy_seek.proofs.Agreeing.{given_holds}
use Rattle.lazy_seek.proofs.Drafts.{places_given}
use Rattle.lazy_seek.proofs.Knowing.{spots_on}
use Rattle.lazy_seek.proofs.Wholes.{evidence_length}
use Rattle.lazy_follow.specs.declared.evidence.Evidence.{Evidence}
use Rattle.lazy_follow.specs.declared.choosing.Chosen.{Chosen}
use Rattle.lazy_follow.specs.declared.members.Group.{Group}
use Rattle.lazy_follow.specs.Choosing.{MakesGroups, IsChosen, IsScope}
use Rattle.lazy_follow.specs.Following.{choice}
use Rattle.lazy_follow.specs.Levels.{IsListIn}
use Rattle.lazy_follow.specs.Members.{IsGroup}
use Rattle.lazy_follow.proofs.Choices.{piece_input, keys_there}
use Rattle.lazy_follow.specs.Scope.{InScope}
use Rattle.lazy_follow.proofs.Scopes.{keys_here}
use Rattle.plan_core.proofs.Typed.{valid_is_typed}
use Rattle.lazy_follow.specs.Spotted.{IsSpotted, nodes_of}

-- where places are those of right evidence, the nodes that they give are right evidence
pub given_evidence : (p : PlanValue) → IsValid p → (docs : Documents) (n : ℕ) → n < length p.ops → (places : List (List ℕ)) (nodes : ℕ → Node) → IsEvidence docs p.ops n places nodes
    → IsEvidence docs p.ops n places (given p.ops n places)
given_evidence p valid docs n within places nodes is =
    let full = evidence_length docs p.ops n places nodes is in
    record { right = λ i b o. given_holds p valid n within places full docs nodes is i b o; written = places_given p valid n within places full }

module _ (a b : BenchState) (kept : KeepsBench a b) where
  -- the spots of evidence stay
  pub spotted_on : (places : List (List ℕ)) (e : Evidence) → IsSpotted a places e → IsSpotted b places e
  spotted_on places e h = record {
    within = subst (λ (q : Plan). suc e.op < length (plan_value q).ops) (sym kept.plan) h.within;
    vars = subst (λ (q : Plan). e.vars.items ≡ evidence_vars (plan_value q).ops e.op) (sym kept.plan) h.vars;
    spots =
        subst (λ (q : Plan). AreSpotsOf b (given (plan_value q).ops e.op places) e.vars.items e.spots.items) (sym kept.plan)
        (spots_on a b kept (nodes_of a places e) e.vars.items e.spots.items h.spots);
  }

  -- whether the evidence at hand agrees with other evidence by the keys of a groupBy stays
  pub agreement_on : (op m n : ℕ) (places others : List (List ℕ)) (keys : List Key) → keys ≡ keys_of (op_at (ops_of b) op) → n ≡ input_at (ops_of a) op
      → same_values (node_values (documents b) keys (given (ops_of b) m places)) (node_values (documents b) keys (given (ops_of b) n others))
      ≡ same_values (node_values (documents a) (keys_of (op_at (ops_of a) op)) (given (ops_of a) m places))
      (node_values (documents a) (keys_of (op_at (ops_of a) op)) (given (ops_of a) (input_at (ops_of a) op) others))
  agreement_on op m n places others keys e f =
      let same : Documents → Plan → List Key → ℕ → Bool =
      λ d q ks i. same_values (node_values d ks (given (plan_value q).ops m places)) (node_values d ks (given (plan_value q).ops i others)) in
      ap (λ (d : Documents). same d b.plan keys n) kept.documents ∙ ap (λ (q : Plan). same (documents a) q keys n) kept.plan
      ∙ ap (λ (ks : List Key). same (documents a) a.plan ks n) (e ∙ ap (λ (q : Plan). keys_of (op_at (plan_value q).ops op)) kept.plan)
      ∙ ap (λ (i : ℕ). same (documents a) a.plan (keys_of (op_at (ops_of a) op)) i) f

-- what the code chose of a list is what a level chooses, whichever name the plan has
pub chosen_of : (q p : Plan) → q ≡ p → (op : ℕ) (l : Listing) (level : LevelValue) (r r' : Chosen) → r ≡ r' → listing (shape_at (plan_value p).ops op) ≡ Some l
    → (listing (shape_at (plan_value q).ops op) ≡ Some l → IsChosen (plan_value q).ops r (choice (plan_value q).ops l level)) → IsChosen (plan_value p).ops r' (choice (plan_value p).ops l level)
chosen_of q p e op l level r r' is h f =
    subst (λ (c : Chosen). IsChosen (plan_value p).ops c (choice (plan_value p).ops l level)) is
    (subst (λ (x : Plan). IsChosen (plan_value x).ops r (choice (plan_value x).ops l level)) e (f (subst (λ (x : Plan). listing (shape_at (plan_value x).ops op) ≡ Some l) (sym e) h)))

-- what the code chose of a list stands in its scope, whichever name the plan has
pub scope_of : (q p : Plan) → q ≡ p → (op : ℕ) (r r' : Chosen) → r ≡ r' → IsScope (plan_value q).ops op r → IsScope (plan_value p).ops op r'
scope_of q p e op r r' is h = subst (λ (c : Chosen). IsScope (plan_value p).ops op c) is (subst (λ (x : Plan). IsScope (plan_value x).ops op r) e h)

-- the group of which a level chooses a member
pub group_of : (st : BenchState) (places : List (List ℕ)) (from : Group) → IsValid (plan_value st.plan) → IsListIn st places from → (n : ℕ) → MakesGroups (ops_of st) n → InScope (ops_of st) from.op n
    → IsGroup st places (record { op = n; here = from.here })
group_of st places from valid h n m scope =
    let typed : IsTyped (ops_of st) = valid_is_typed (plan_value st.plan) valid in
    record {
      here = h.here;
      within = m.within;
      low = piece_input (op_at (ops_of st) n) 0 n m.has_piece.there (typed.inputs n m.within);
      nodes_here = λ v t. h.scope v a_node (scope v a_node (keys_here (plan_value st.plan) valid typed n m.within (op_at (ops_of st) n) refl v t));
      nodes_there = keys_there (op_at (ops_of st) n) (kinds (ops_of st)) (typed.fit n m.within);
    }
