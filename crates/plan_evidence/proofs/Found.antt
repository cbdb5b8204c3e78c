-- Right evidence of each operator but the last is of one of its bindings.
use Rattle.std.proofs.Common.{◌≡◌, inl, inr, ℕ, zero, suc, ◌<◌, true, List, [], ◌∷◌, ◌++◌, refl, sym, ap, subst, ◌∙◌, arith, length, map}
use Rattle.std.specs.Prelude.{Bool, ◌&&◌, ◌==◌, Option, Some, None}
use Rattle.std.specs.List.{list_all, AllByRecursion}
use Rattle.std.proofs.lemmas.Bool.{and_parts, and_from}
use Rattle.std.proofs.lemmas.Bool.Decides.{nat_tests}
use Rattle.mix_base.specs.Ascents.{Among}
use Rattle.mix_base.proofs.Ascents.{each_among}
use Rattle.mix_base.specs.Events.{bind, without_skips}
use Rattle.mix_tree.specs.Comparisons.{passes}
use Rattle.mix_tree.specs.Keys.{stands}
use Rattle.mix_tree.specs.Nodes.{Documents, Node, document_node, same_node}
use Rattle.mix_tree.specs.declared.comparing.Test.{Test}
use Rattle.mix_tree.specs.declared.var.Key.{Key}
use Rattle.mix_tree.specs.declared.var.Key.TheVariants.{Node as node_key}
use Rattle.mix_tree.proofs.SameKeys.{same_node-refl}
use Rattle.path_expr.specs.Form.{Form}
use Rattle.path_expr.specs.Matches.{IsMatch}
use Rattle.path_auto.specs.Visit.{visits}
use Rattle.path_auto.proofs.Bindings.{visits_are_matches}
use Rattle.plan_core.specs.declared.plan.Piece.{Piece}
use Rattle.plan_core.specs.ByNumber.{op_at}
use Rattle.plan_core.specs.Events.{RowEvents, only, skips, distinct, expand, each_row, with_node, descendants, passes_all, pairs, extended, made_value, kept_row, shape_events, events}
use Rattle.plan_core.specs.Fronts.{covers, are_contiguous, front}
use Rattle.plan_core.specs.Plans.{PlanValue, Operator, source, get_descendants, join, over, tuple_destroy}
use Rattle.plan_core.specs.Shapes.{Made, Stage, filters, extends, first_by_keys, one_group, in_order, Shape, one_source, visits_below, pairs_up, passes_on, no_events, shape_at, shape_of}
use Rattle.plan_core.specs.TolledRows.{TolledRow, KeyValue, of_source, key_value, key_values, same_values, row_node}
use Rattle.plan_core.specs.Sorted.{sorted_by}
use Rattle.plan_core.specs.Typed.{IsTyped}
use Rattle.plan_core.specs.Valid.{Kind, IsShapeFit, Kinds, kinds, AreNodes, IsStageFit, shape_inputs, IsValid, is_single_at, EndsSingle}
use Rattle.plan_core.proofs.BoundRows.{IsBound, keys_with, keys_left, keys_right}
use Rattle.plan_core.proofs.Fresh.{sides_fresh}
use Rattle.plan_core.proofs.KeyValues.{all_itself, map_more, covered_same, values_alike}
use Rattle.plan_core.proofs.Numbers.{events-of}
use Rattle.plan_core.proofs.Typed.{valid_is_typed}
use Rattle.plan_evidence.specs.Evidence.{shape_way, ShapeHolds, AreRight}
use Rattle.plan_evidence.specs.Held.{piece_uses, shape_held, held, node_values, ShapeUses, UsesHeld, test_uses}
use Rattle.plan_evidence.specs.Laws.{SomeBinding, EvidenceIsOfBindings}
use Rattle.plan_evidence.proofs.HeldApart.{held-of, anew, known_below}
use Rattle.plan_evidence.proofs.HeldSteps.{AreHeld, IsFresh, kept_value}
use Rattle.plan_evidence.proofs.NodeValues.{same_parts, node_is, test_alike}
use Rattle.plan_evidence.proofs.Ways.{right_input, right_here, way_inputs}
use Rattle.plan_evidence.proofs.Somes.{some_weaker, some_both, some_expand, some_nodes, some_each_row, some_only, some_ordered, some_distinct}
use Rattle.browse_class.proofs.FirstKeys.{values_same}

-- a shape is one that has events: any but the last operator's
abbrev HasEvents : Shape → Type 0
HasEvents (one_source s out) = Unit {0}
HasEvents (visits_below input start path out) = Unit {0}
HasEvents (pairs_up left right tests) = Unit {0}
HasEvents (passes_on input stage) = Unit {0}
HasEvents (no_events input made) = ⊥

-- an operator other than the last has a shape with events
early : (single : ℕ → Bool) (ops : List Operator) → EndsSingle single ops → (n : ℕ) → suc n < length ops → HasEvents (shape_of (op_at ops n))
early single [] e n h = absurd e
early single (tuple_destroy i v ∷ []) e n h = absurd (omega (arith, h))
early single (tuple_destroy i v ∷ op ∷ ops) e n h = absurd e
early single (source s out ∷ ops) e zero h = tt
early single (source s out ∷ ops) e (suc n) h = early single ops e n (omega (arith, h))
early single (get_descendants i start path out ∷ ops) e zero h = tt
early single (get_descendants i start path out ∷ ops) e (suc n) h = early single ops e n (omega (arith, h))
early single (join l r tests ∷ ops) e zero h = tt
early single (join l r tests ∷ ops) e (suc n) h = early single ops e n (omega (arith, h))
early single (over i op ∷ ops) e zero h = tt
early single (over i op ∷ ops) e (suc n) h = early single ops e n (omega (arith, h))

-- the nodes of variables agree with a binding by keys
abbrev AgreesBy : Documents → List Key → (ℕ → Node) → TolledRow → Type 0
AgreesBy docs keys nodes row = same_values (node_values docs keys nodes) (key_values docs keys row) ≡ true

module _ (docs : Documents) (nodes : ℕ → Node) where
  -- nodes that agree with a binding by keys and by others agree by both together
  both_agree : (keys more : List Key) (row : TolledRow) → AgreesBy docs keys nodes row → AgreesBy docs more nodes row → AgreesBy docs (keys ++ more) nodes row
  both_agree keys more row h k =
      subst (λ z. same_values z (key_values docs (keys ++ more) row) ≡ true) (sym (map_more (key_value docs nodes) keys more))
      (subst (λ z. same_values (node_values docs keys nodes ++ node_values docs more nodes) z ≡ true) (sym (map_more (key_value docs (row_node row)) keys more))
      (same_parts (node_values docs keys nodes) (node_values docs more nodes) (key_values docs keys row) (key_values docs more row) h k))

  -- nodes that agree with a binding agree with one that has the same values of the keys
  agrees_as : (keys : List Key) (a b : TolledRow) → key_values docs keys b ≡ key_values docs keys a → AgreesBy docs keys nodes a → AgreesBy docs keys nodes b
  agrees_as keys a b e h = subst (λ z. same_values (node_values docs keys nodes) z ≡ true) (sym e) h

  -- nodes of which a source holds agree with its binding
  source_agrees : (s out : ℕ) → nodes out ≡ document_node s → AgreesBy docs (node_key out ∷ []) nodes ((out, of_source (document_node s)) ∷ [])
  source_agrees s out e =
      let t : (out == out) ≡ true = grind (arith, nat_tests) in
      rw t (subst (λ n. (same_node n (document_node s) && true) ≡ true) (sym e) (and_from (same_node (document_node s) (document_node s)) true (same_node-refl (document_node s)) refl))

  -- nodes agree with the binding that a visit makes of their own place, by the node that it binds
  visit_agrees : (out : ℕ) (start : Node) (row : TolledRow) → (nodes out).source ≡ start.source → AgreesBy docs (node_key out ∷ []) nodes (with_node out start row (nodes out).place)
  visit_agrees out start row e =
      let t : (out == out) ≡ true = grind (arith, nat_tests) in
      let n : nodes out ≡ record { source = start.source; place = (nodes out).place } = ap (λ (s : ℕ). record { source = s; place = (nodes out).place }) e in
      rw t (and_from (same_node (nodes out) (record { source = start.source; place = (nodes out).place })) true (subst (λ m. same_node (nodes out) m ≡ true) n (same_node-refl (nodes out))) refl)

  module _ (ks : Kinds) (keys : List Key) (es : RowEvents) (known : AreHeld docs ks keys es) (some : SomeBinding (AgreesBy docs keys nodes) es) where
    -- nodes that agree with one of the input's bindings and are a match agree with one of the getDescendants'
    some_visit : (start : ℕ) (path : Form) (out : ℕ) → ks out ≡ None → covers keys (node_key start ∷ []) ≡ true → IsMatch docs path (nodes start) (nodes out)
        → SomeBinding (AgreesBy docs (keys ++ node_key out ∷ []) nodes) (expand (descendants docs start path out) es)
    some_visit start path out fresh c m =
        some_expand (AgreesBy docs keys nodes) (AgreesBy docs (keys ++ node_key out ∷ []) nodes) (descendants docs start path out) (λ row h. one row h) es some
      where
        one : (row : TolledRow) → AgreesBy docs keys nodes row → SomeBinding (AgreesBy docs (keys ++ node_key out ∷ []) nodes) (descendants docs start path out row)
        one row h =
            let e : nodes start ≡ row_node row start = node_is docs nodes (row_node row) start [] (covered_same docs keys (node_key start ∷ []) nodes (row_node row) c h) in
            let m' : IsMatch docs path (row_node row start) (nodes out) = subst (λ n. IsMatch docs path n (nodes out)) e m in
            let a = ((visits_are_matches docs path (row_node row start)).exactly (nodes out).place).1 m'.1 in
            some_nodes (AgreesBy docs (keys ++ node_key out ∷ []) nodes) out (row_node row start) row (nodes out).place
            (both_agree keys (node_key out ∷ []) (with_node out (row_node row start) row (nodes out).place)
            (agrees_as keys row (with_node out (row_node row start) row (nodes out).place)
            (keys_with docs ks keys out (of_source (record { source = (row_node row start).source; place = (nodes out).place })) row known.nodes fresh) h)
            (visit_agrees out (row_node row start) row m'.0))
            (visits docs path (row_node row start)) a

    -- nodes that agree with one of the input's bindings and pass a comparison agree with one that passes
    some_filter : (test : Test) → covers keys (test_uses test) ≡ true → passes docs test nodes ≡ true → SomeBinding (AgreesBy docs keys nodes) (only (λ row. passes docs test (row_node row)) es)
    some_filter test c p =
        some_only (AgreesBy docs keys nodes) (λ row. passes docs test (row_node row))
        (λ row h. sym (test_alike docs nodes (row_node row) test (covered_same docs keys (test_uses test) nodes (row_node row) c h)) ∙ p) es some

    -- nodes that agree with one of the input's bindings agree with it with a variable more
    some_extended : (out : ℕ) (made : Made) → ks out ≡ None → SomeBinding (AgreesBy docs keys nodes) (each_row (extended docs out made) es)
    some_extended out made fresh =
        some_each_row (AgreesBy docs keys nodes) (AgreesBy docs keys nodes) (extended docs out made)
        (λ row h. agrees_as keys row (extended docs out made row) (keys_with docs ks keys out (made_value docs made row) row known.nodes fresh) h) es some

    -- nodes that agree with one of the input's bindings agree with one of them in order
    some_order : (less : TolledRow → TolledRow → Bool) → SomeBinding (AgreesBy docs keys nodes) (skips es ++ map bind (sorted_by less (without_skips es)))
    some_order less = some_ordered (AgreesBy docs keys nodes) less es some

    -- nodes that agree with one of the input's bindings agree by the keys with what is made of a first binding by them
    some_kept : (own : List Key) (n : AreNodes own ks) → covers keys own ≡ true → (stops : Bool) (group : Option (Piece × ℕ)) → IsFresh docs ks keys es known own n group
        → SomeBinding (AgreesBy docs own nodes) (distinct docs own (kept_row docs own stops group) [] es)
    some_kept own n c stops group fresh =
        let k : List KeyValue = node_values docs own nodes in
        some_weaker (λ row. k ≡ key_values docs own row) (AgreesBy docs own nodes) (λ row e. subst (λ z. same_values k z ≡ true) e (all_itself k))
        (distinct docs own (kept_row docs own stops group) [] es)
        (some_distinct docs own (kept_row docs own stops group)
        (λ row rest. values_alike docs own (kept_row docs own stops group row rest) row (λ v t. kept_value docs ks keys es known own n stops group fresh row rest v t)) k [] refl es
        (some_weaker (AgreesBy docs keys nodes) (λ row. k ≡ key_values docs own row) (λ row h. values_same k (key_values docs own row) (covered_same docs keys own nodes (row_node row) c h)) es some))

  -- comparisons hold of a binding as they do of nodes that agree with it by keys that cover those by which they are told
  tests_agree : (keys : List Key) (row : TolledRow) → AgreesBy docs keys nodes row → (tests : List Test) → AllByRecursion (λ t. covers keys (test_uses t) ≡ true) tests
      → list_all (λ t. passes docs t nodes) tests ≡ passes_all docs tests row
  tests_agree keys row h [] u = refl
  tests_agree keys row h (t ∷ tests) u =
      rw (test_alike docs nodes (row_node row) t (covered_same docs keys (test_uses t) nodes (row_node row) u.0 h), tests_agree keys row h tests u.1) refl

  -- nodes that agree with one binding of each side of a join and pass its comparisons agree with one of the join's
  some_pairs : (kl kr : Kinds) (own more : List Key) (ls rs : RowEvents) → AreHeld docs kl own ls → AreHeld docs kr more rs → ((v : ℕ) (k : Kind) → kr v ≡ Some k → kl v ≡ None)
      → SomeBinding (AgreesBy docs own nodes) ls → SomeBinding (AgreesBy docs more nodes) rs → (tests : List Test) → AllByRecursion (λ t. covers (own ++ more) (test_uses t) ≡ true) tests
      → list_all (λ t. passes docs t nodes) tests ≡ true → SomeBinding (AgreesBy docs (own ++ more) nodes) (expand (pairs docs tests rs) ls)
  some_pairs kl kr own more ls rs left right fresh on_left on_right tests u passed =
      some_expand (λ row. IsBound kl row × AgreesBy docs own nodes row) (AgreesBy docs (own ++ more) nodes) (pairs docs tests rs) (λ l h. one l h.0 h.1) ls
      (some_both (IsBound kl) (AgreesBy docs own nodes) ls left.bound on_left)
    where
      one : (l : TolledRow) → IsBound kl l → AgreesBy docs own nodes l → SomeBinding (AgreesBy docs (own ++ more) nodes) (pairs docs tests rs l)
      one l b h =
          some_only (AgreesBy docs (own ++ more) nodes) (passes_all docs tests) (λ row k. sym (tests_agree (own ++ more) row k tests u) ∙ passed) (each_row (λ r. l ++ r) rs)
          (some_each_row (AgreesBy docs more nodes) (AgreesBy docs (own ++ more) nodes) (λ r. l ++ r)
          (λ r k.
          both_agree own more (l ++ r) (agrees_as own l (l ++ r) (keys_left docs kl own l r left.nodes b) h)
          (agrees_as more r (l ++ r) (keys_right docs kl kr more l r right.nodes fresh b) k)) rs on_right)

-- keys that cover some and others cover the first ones
covers_left : (keys own more : List Key) → covers keys (own ++ more) ≡ true → covers keys own ≡ true
covers_left keys [] more h = refl
covers_left keys (k ∷ own) more h =
    let p = and_parts (stands keys k) (covers keys (own ++ more)) h in
    and_from (stands keys k) (covers keys own) p.0 (covers_left keys own more p.1)

module _ (p : PlanValue) (valid : IsValid p) (uses : UsesHeld p.ops) (docs : Documents) (nodes : ℕ → Node) where
  -- the plan's operators are typed
  typed : IsTyped p.ops
  typed = valid_is_typed p valid

  -- the nodes agree with one of an operator's bindings by the keys that it holds
  abbrev HasSome : ℕ → Type 0
  HasSome n = SomeBinding (AgreesBy docs (held p.ops n) nodes) (events docs p.ops n)

  -- of an operator's events: which variables they bind, and that no two agree by the keys that it holds
  known : (n : ℕ) → n < length p.ops → AreHeld docs (kinds p.ops n) (held p.ops n) (events docs p.ops n)
  known n b = known_below p valid docs (suc n) n (omega arith) b

  -- nodes of which a stage holds agree with one of its bindings, where they do with one of its input's
  stage_some : (n : ℕ) → n < length p.ops → (i : ℕ) → i < length p.ops → (stage : Stage) → shape_at p.ops n ≡ passes_on i stage → IsStageFit (kinds p.ops i) stage
      → ShapeUses (kinds p.ops) (held p.ops) (passes_on i stage) → ShapeHolds docs nodes (passes_on i stage) → (Among i (shape_way (passes_on i stage)) → HasSome i)
      → SomeBinding (AgreesBy docs (shape_held (passes_on i stage) (held p.ops)) nodes) (shape_events docs (front p.ops) (passes_on i stage) (events docs p.ops))
  stage_some n b i l (filters test) e fit u r h = some_filter docs nodes (kinds p.ops i) (held p.ops i) (events docs p.ops i) (known i l) (h (inl refl)) test u r
  stage_some n b i l (extends out made) e fit u r h =
      some_extended docs nodes (kinds p.ops i) (held p.ops i) (events docs p.ops i) (known i l) (h (inl refl)) out made (anew p valid n b (passes_on i (extends out made)) e i out (inl refl) (inl refl))
  stage_some n b i l (first_by_keys keys None) e fit u r h =
      some_kept docs nodes (kinds p.ops i) (held p.ops i) (events docs p.ops i) (known i l) (h (inl refl)) keys fit u (are_contiguous keys (front p.ops i).vars) None tt
  stage_some n b i l (first_by_keys keys (Some group)) e fit u r h =
      some_kept docs nodes (kinds p.ops i) (held p.ops i) (events docs p.ops i) (known i l) (h (inl refl)) keys fit.0
      (covers_left (held p.ops i) keys (piece_uses (kinds p.ops i) group.0) u) (are_contiguous keys (front p.ops i).vars) (Some group)
      (anew p valid n b (passes_on i (first_by_keys keys (Some group))) e i group.1 (inl refl) (inl refl))
  stage_some n b i l (one_group piece out) e fit u r h = inl refl
  stage_some n b i l (in_order v desc) e fit u r h = some_order docs nodes (kinds p.ops i) (held p.ops i) (events docs p.ops i) (known i l) (h (inl refl)) _

  -- nodes of which a shape holds agree with one of its bindings, where they do with one of each input's on the way
  shape_some : (n : ℕ) → n < length p.ops → (f : Shape) → shape_at p.ops n ≡ f → HasEvents f → IsShapeFit f (kinds p.ops) → ShapeUses (kinds p.ops) (held p.ops) f → ShapeHolds docs nodes f
      → ((i : ℕ) → Among i (shape_inputs f) → i < length p.ops) → ((i : ℕ) → Among i (shape_way f) → HasSome i)
      → SomeBinding (AgreesBy docs (shape_held f (held p.ops)) nodes) (shape_events docs (front p.ops) f (events docs p.ops))
  shape_some n b (one_source s out) e v fit u r l h = inl (source_agrees docs nodes s out r)
  shape_some n b (visits_below i start path out) e v fit u r l h =
      some_visit docs nodes (kinds p.ops i) (held p.ops i) (events docs p.ops i) (known i (l i (inl refl))) (h i (inl refl)) start path out
      (anew p valid n b (visits_below i start path out) e i out (inl refl) (inl refl)) u r
  shape_some n b (pairs_up i j tests) e v fit u r l h =
      some_pairs docs nodes (kinds p.ops i) (kinds p.ops j) (held p.ops i) (held p.ops j) (events docs p.ops i) (events docs p.ops j) (known i (l i (inl refl))) (known j (l j (inr (inl refl))))
      (λ w k x. sides_fresh p valid typed n i j w k b (ap shape_inputs e) x) (h i (inl refl)) (h j (inr (inl refl))) tests u r
  shape_some n b (passes_on i stage) e v fit u r l h = stage_some n b i (l i (inl refl)) stage e fit u r (h i)
  shape_some n b (no_events i made) e v fit u r l h = absurd v

  -- right evidence of an operator below a number, other than the last, agrees with one of its bindings
  some_below : (k n : ℕ) → n < k → suc n < length p.ops → AreRight docs p.ops n nodes → HasSome n
  some_below zero n h b r = absurd (omega (arith, h))
  some_below (suc k) n h b r =
      let at : Shape = shape_at p.ops n in
      let small : n < length p.ops = omega (arith, b) in
      let inputs = typed.inputs n small in
      let is = shape_some n small at refl (early (is_single_at p.ops) p.ops valid.ends n b) (typed.fit n small) (uses n small) (right_here p.ops docs nodes n small r)
      (λ i a. (let s = input_smaller small i a in omega (arith, s, b)))
      (λ i a. (let s = input_smaller small i (way_inputs (shape_at p.ops n) i a) in
      some_below k i (omega (arith, s, h)) (omega (arith, s, b)) (right_input p.ops docs nodes n i inputs a r))) in
      subst (λ (keys : List Key). SomeBinding (AgreesBy docs keys nodes) (events docs p.ops n)) (sym (held-of p.ops n inputs))
      (subst (SomeBinding (AgreesBy docs (shape_held at (held p.ops)) nodes)) (sym (events-of docs p.ops n (op_at p.ops n) refl inputs)) is)
    where
      input_smaller : n < length p.ops → (i : ℕ) → Among i (shape_inputs (shape_at p.ops n)) → i < n
      input_smaller small i a = each_among (λ i. i < n) (shape_inputs (shape_at p.ops n)) (typed.inputs n small) i a

-- right evidence of an operator of a valid plan, other than the last, is of one of its bindings
pub evidence_of_bindings : EvidenceIsOfBindings
evidence_of_bindings p valid uses docs n b nodes r = some_below p valid uses docs nodes (suc n) n (omega arith) b r
