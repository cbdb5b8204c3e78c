-- A binding that was reached by evidence: the nodes that the places give are of it, as are all others by the same places.
use Rattle.std.proofs.Common.{◌≡◌, inl, inr, ℕ, suc, ◌<◌, true, false, cond, List, [], ◌∷◌, Option, Some, refl, sym, ap, subst, ◌∙◌, arith, length}
use Rattle.std.specs.Prelude.{Bool, slice_get}
use Rattle.std.specs.List.{filter}
use Rattle.std.specs.Str.{bytes_eq}
use Rattle.std.proofs.lemmas.Bool.{and_parts}
use Rattle.std.proofs.lemmas.Slice.Eq.{bytes_eq-Decides}
use Rattle.mix_base.proofs.Choices.{some_is, none_some}
use Rattle.mix_base.specs.Events.{skip, bind, without_skips}
use Rattle.mix_tree.specs.Forest.{none, tree}
use Rattle.mix_tree.specs.Nodes.{Documents, Node, label_at, kids_at}
use Rattle.mix_tree.specs.Place.{has_place}
use Rattle.mix_tree.specs.declared.var.Key.{Key}
use Rattle.mix_tree.proofs.SameKeys.{same_node-true}
use Rattle.plan_core.specs.declared.plan.Piece.{Piece}
use Rattle.plan_core.specs.declared.plan.Piece.TheVariants.{Var as var_piece, LabelOf as label_piece, Text as text_piece}
use Rattle.plan_core.specs.Events.{RowEvents, events}
use Rattle.plan_core.specs.Plans.{PlanValue}
use Rattle.plan_core.specs.TolledRows.{TolledRow, TolledValue, of_source, KeyValue, by_node, by_label, key_values, same_value, same_values, row_node, source_node, tolled_value}
use Rattle.plan_core.specs.Typed.{IsTyped}
use Rattle.plan_core.specs.Valid.{Kind, a_node, an_element, a_list, kinds, IsPiece, IsSinglePiece, IsValid}
use Rattle.plan_evidence.specs.Evidence.{IsEvidence}
use Rattle.plan_evidence.specs.Held.{held, node_values, AreOf, UsesHeld}
use Rattle.plan_evidence.specs.Laws.{SomeBinding}
use Rattle.plan_evidence.specs.Named.{maker, Listing, of_group, element_list, list_of, IsSingle, members, Reached, IsMember, IsBelow, Ends}
use Rattle.plan_evidence.proofs.Aparts.{at_index}
use Rattle.plan_evidence.proofs.Found.{evidence_of_bindings}
use Rattle.plan_evidence.proofs.Makers.{number_of, element_no_list}
use Rattle.plan_evidence.proofs.NamedNodes.{list_value, element_value, members_sound}
use Rattle.plan_evidence.proofs.NodeValues.{node_is}
use Rattle.plan_evidence.proofs.Once.{rows_agree}
use Rattle.plan_evidence.proofs.Shown.{Tell, IsIn, IsRow, IsListOf}
use Rattle.plan_evidence.proofs.Somes.{some_both}
use Rattle.plan_evidence.proofs.Sounds.{all_sound}
use Rattle.lazy_follow.specs.Following.{Stand, nodes_at, IsMet, IsUnder, IsUnderVar}
use Rattle.lazy_follow.proofs.Groups.{given_evidence}
use Rattle.lazy_follow.proofs.ToldLists.{IsToldPiece, IsToldList, told_list}

-- two values that a key compares as the same are equal
value_same : (x y : KeyValue) → same_value x y ≡ true → x ≡ y
value_same (by_node m) (by_node n) h = ap by_node (same_node-true m n h)
value_same (by_node m) (by_label l) h = cc
value_same (by_label l) (by_node n) h = cc
value_same (by_label l) (by_label m) h = ap by_label ((bytes_eq-Decides l m).0 h)

-- lists of values that keys compare as the same are equal
values_same : (xs ys : List KeyValue) → same_values xs ys ≡ true → xs ≡ ys
values_same [] [] h = refl
values_same [] (y ∷ ys) h = cc
values_same (x ∷ xs) [] h = cc
values_same (x ∷ xs) (y ∷ ys) h = (let s = and_parts (same_value x y) (same_values xs ys) h in rw (value_same x y s.0, values_same xs ys s.1) refl)

-- a binding is at an index of those that pass a test
record IsFoundAt (P : TolledRow → Type 0) (test : TolledRow → Bool) (es : RowEvents) : Type 0 where
  row : TolledRow
  index : ℕ
  at : slice_get (filter test (without_skips es)) index ≡ Some row
  is : P row

-- one of the bindings of events is as is said, and passes a test: it is among those that pass
found_at : (P : TolledRow → Type 0) (test : TolledRow → Bool) → ((row : TolledRow) → P row → test row ≡ true) → (es : RowEvents) → SomeBinding P es
    → IsFoundAt P test es
found_at P test f [] h = absurd h
found_at P test f (skip ∷ es) h = (let r = found_at P test f es h in record { row = r.row; index = r.index; at = r.at; is = r.is })
found_at P test f (bind row ∷ es) (inl h) =
    record { row = row; index = 0; at = ap (λ (t : Bool). slice_get (cond t (row ∷ filter test (without_skips es)) (filter test (without_skips es))) 0) (f row h); is = h }
found_at P test f (bind row ∷ es) (inr h) =
    let r = found_at P test f es h in
    (elim (test row) as (λ t. test row ≡ t → IsFoundAt P test (bind row ∷ es)) [
      | true ↦ λ e. record {
        row = r.row;
        index = suc r.index;
        at = ap (λ (t : Bool). slice_get (cond t (row ∷ filter test (without_skips es)) (filter test (without_skips es))) (suc r.index)) e ∙ r.at;
        is = r.is;
      }
      | false ↦ λ e. record {
        row = r.row;
        index = r.index;
        at = ap (λ (t : Bool). slice_get (cond t (row ∷ filter test (without_skips es)) (filter test (without_skips es))) r.index) e ∙ r.at;
        is = r.is;
      }
    ]) refl

module _ (p : PlanValue) (valid : IsValid p) (typed : IsTyped p.ops) (uses : UsesHeld p.ops) (docs : Documents) where
  -- evidence by the same places is of the same binding
  pub same_binding : (n : ℕ) → suc n < length p.ops → (places : List (List ℕ)) (a b : ℕ → Node) → IsEvidence docs p.ops n places a
      → IsEvidence docs p.ops n places b → (row : TolledRow) → AreOf docs p.ops n a row
      → AreOf docs p.ops n b row
  same_binding n early places a b x y row h =
      let keys : List Key = held p.ops n in
      let within : n < length p.ops = omega (arith, early) in
      let some = found_at (AreOf docs p.ops n b) (λ r. true) (λ r k. refl) (events docs p.ops n) (evidence_of_bindings p valid uses docs n early b y.right) in
      let same : key_values docs keys row ≡ key_values docs keys some.row = rows_agree p valid docs n within a b x.right y.right (x.written ∙ sym y.written) row some.row h some.is in
      subst (λ z. same_values (node_values docs keys b) z ≡ true) (sym same) some.is

  -- a binding of an operator other than the last was reached by places: they give nodes that are of it
  pub record IsAt (s : Stand) (row : TolledRow) : Type 0 where
    pub early : suc s.op < length p.ops
    pub sound : IsRow docs p.ops s.op row
    pub of : AreOf docs p.ops s.op (nodes_at docs p.ops s) row

  -- what a list uses is bound by operator n, and told by the keys that it holds
  pub record IsKnown (n : ℕ) (list : Listing) : Type 0 where
    pub below : ℕ
    pub listed : IsListOf docs p.ops below n list
    pub told : IsToldList p valid typed docs n list

  -- what is made as a list is bound to one
  list_kind : (n v : ℕ) (row : TolledRow) → IsRow docs p.ops n row → IsPiece (kinds p.ops n) (var_piece v) → (list : Listing) → list_of p.ops v ≡ Some list
      → kinds p.ops n v ≡ Some a_list
  list_kind n v row sound bound list e = by_kind bound.0 bound.1 (sound v bound.0 bound.1)
    where
      by_kind : (k : Kind) → kinds p.ops n v ≡ Some k → IsIn docs p.ops (kinds p.ops n) (held p.ops n) row v k → kinds p.ops n v ≡ Some a_list
      by_kind a_node z h = none_some list (sym h.no_list ∙ e)
      by_kind an_element z h = none_some list (sym (element_no_list (maker p.ops v) h.inner h.is_inner) ∙ e)
      by_kind a_list z h = z

  -- the list that a piece is, in a binding, is known
  pub list_known : (n v : ℕ) → n < length p.ops → (row : TolledRow) → IsRow docs p.ops n row → IsPiece (kinds p.ops n) (var_piece v) → (list : Listing)
      → list_of p.ops v ≡ Some list → IsKnown n list
  list_known n v b row sound bound list e =
      let k = list_kind n v row sound bound list e in
      record { below = number_of p.ops v; listed = (list_value p valid typed docs n row sound v list bound e).is_listed; told = told_list p valid typed docs uses n v b k list e }

  -- the list of the element that a piece is, in a binding, is known
  pub inner_known : (n v u : ℕ) → n < length p.ops → (row : TolledRow) → IsRow docs p.ops n row → IsPiece (kinds p.ops n) (var_piece v)
      → element_list (maker p.ops v) ≡ Some u → (list : Listing)
      → list_of p.ops u ≡ Some list → IsKnown n list
  inner_known n v u b row sound bound e list is =
      let x = element_value p valid typed docs n row sound v u bound e in
      let same : x.inner ≡ u = some_is x.inner u (sym x.is_inner ∙ e) in
      list_known n u b row sound (a_list, subst (λ (w : ℕ). kinds p.ops n w ≡ Some a_list) same x.bound) list is

  -- a piece that is a single tree is bound to no list
  pub single_bound : (n : ℕ) (row : TolledRow) → IsRow docs p.ops n row → (x : Piece) → IsPiece (kinds p.ops n) x → IsSingle p.ops x
      → IsSinglePiece (kinds p.ops n) x
  single_bound n row sound (var_piece v) bound h = (bound.0, bound.1, λ z. by_kind bound.0 z (sound v bound.0 bound.1))
    where
      by_kind : (k : Kind) → k ≡ a_list → IsIn docs p.ops (kinds p.ops n) (held p.ops n) row v k → ⊥
      by_kind a_node z x = cc
      by_kind an_element z x = cc
      by_kind a_list z x = none_some x.listing (sym h ∙ x.is_listing)
  single_bound n row sound (label_piece v) bound h = bound
  single_bound n row sound (text_piece label) bound h = tt

  -- THE PLACE BELOW

  module _ (s : Stand) (row : TolledRow) (at : IsAt s row) where
    -- the node that a piece is, is that of the nodes which the places give
    pub node_there : (v : ℕ) → kinds p.ops s.op v ≡ Some a_node → IsToldPiece p valid typed docs s.op (var_piece v) → (node : Node)
        → tolled_value row v ≡ of_source node → nodes_at docs p.ops s v ≡ node
    node_there v k told node is = node_is docs (nodes_at docs p.ops s) (row_node row) v [] (told k (nodes_at docs p.ops s) (row_node row) at.of) ∙ ap source_node is

    -- the label of a node that a piece shows is that of the node which the places give
    pub label_given : (v : ℕ) → IsToldPiece p valid typed docs s.op (label_piece v) → label_at docs (nodes_at docs p.ops s v) ≡ label_at docs (row_node row v)
    label_given v told =
        let a : List ℕ = label_at docs (nodes_at docs p.ops s v) in
        let b : List ℕ = label_at docs (row_node row v) in
        (bytes_eq-Decides a b).0 (and_parts (bytes_eq a b) true (told (nodes_at docs p.ops s) (row_node row) at.of)).0

    -- below a piece that is a single tree, places are as they are below its value
    pub under_is : (x : Piece) → IsSinglePiece (kinds p.ops s.op) x → IsToldPiece p valid typed docs s.op x → (q : List ℕ)
        → IsUnder docs p.ops s x q ≡ Ends docs p.ops row x q
    under_is (label_piece v) bound told q = refl
    under_is (text_piece label) bound told q = refl
    under_is (var_piece v) bound told q = by_kind bound.0 (bound.1, bound.2) (at.sound v bound.0 bound.1)
      where
        by_kind : (k : Kind) → (kinds p.ops s.op v ≡ Some k) × (k ≡ a_list → ⊥) → IsIn docs p.ops (kinds p.ops s.op) (held p.ops s.op) row v k
            → IsUnderVar docs p.ops s v (element_list (maker p.ops v)) q ≡ IsBelow docs p.ops (tolled_value row v) q
        by_kind a_node z x =
            ap (λ (o : Option ℕ). IsUnderVar docs p.ops s v o q) x.no_element
            ∙ ap (λ (n : Node). has_place (tree (label_at docs n) (kids_at docs n) none) q ≡ true) (node_there v z.0 told x.node x.is_value)
            ∙ sym (ap (λ (y : TolledValue). IsBelow docs p.ops y q) x.is_value)
        by_kind an_element z x = ap (λ (o : Option ℕ). IsUnderVar docs p.ops s v o q) x.is_inner ∙ sym (ap (λ (y : TolledValue). IsBelow docs p.ops y q) x.is_value)
        by_kind a_list z x = absurd (z.1 refl)

  -- MEMBERS

  -- the nodes of variables of a binding that was reached have its values of a group's keys
  here_keys : (s : Stand) (row : TolledRow) (nodes : ℕ → Node) → AreOf docs p.ops s.op nodes row → (own : List Key) → Tell docs (held p.ops s.op) own
      → node_values docs own nodes ≡ key_values docs own row
  here_keys s row nodes of own tell = values_same (node_values docs own nodes) (key_values docs own row) (tell nodes (row_node row) of)

  -- the place in a group, and the binding, of a member that was reached
  pub record IsReachedIn (s : Stand) (row : TolledRow) (there : Stand) (own : List Key) : Type 0 where
    pub there_row : TolledRow
    pub index : ℕ
    pub member : IsMember docs p.ops there.op own (record { row = row; nodes = nodes_at docs p.ops s }) there.places index (record { row = there_row; nodes = nodes_at docs p.ops there })
    pub at : IsAt there there_row

  module _ (s : Stand) (row : TolledRow) (at : IsAt s row) (there : Stand) (own : List Key) (piece : Piece) (known : IsKnown s.op (of_group there.op own piece)) where
    -- places that are met are those of a member
    pub met_member : IsMet docs p.ops own s there → IsReachedIn s row there own
    met_member met =
        let i : ℕ = there.op in
        let nodes : ℕ → Node = nodes_at docs p.ops there in
        let P : TolledRow → Type 0 = λ r. IsRow docs p.ops i r × AreOf docs p.ops i nodes r in
        let test : TolledRow → Bool = λ r. same_values (key_values docs own row) (key_values docs own r) in
        let here : node_values docs own (nodes_at docs p.ops s) ≡ key_values docs own row = here_keys s row (nodes_at docs p.ops s) at.of own known.listed.told_here in
        let passes : (r : TolledRow) → P r → test r ≡ true = λ r h.
        subst (λ z. same_values z (key_values docs own r) ≡ true) here
        (subst (λ z. same_values (node_values docs own (nodes_at docs p.ops s)) z ≡ true) (here_keys there r nodes h.1 own known.told.told) met.same_group) in
        let some = evidence_of_bindings p valid uses docs i known.told.early nodes met.evidence.right in
        let all = all_sound p valid typed docs i known.listed.within in
        let x = found_at P test passes (events docs p.ops i) (some_both (IsRow docs p.ops i) (AreOf docs p.ops i nodes) (events docs p.ops i) all some) in
        record {
          there_row = x.row;
          index = x.index;
          member = record { evidence = met.evidence; same_group = met.same_group; of = x.is.1; at = x.at };
          at = record { early = known.told.early; sound = x.is.0; of = x.is.1 };
        }

    -- the places of a member are met, by whichever nodes it was reached
    pub member_met : (nodes : ℕ → Node) → AreOf docs p.ops s.op nodes row → (j : ℕ) (other : Reached)
        → IsMember docs p.ops there.op own (record { row = row; nodes = nodes }) there.places j other
        → IsMet docs p.ops own s there × IsAt there other.row
    member_met nodes of j other m =
        let i : ℕ = there.op in
        let given = given_evidence p valid docs i known.listed.within there.places other.nodes m.evidence in
        let of_given : AreOf docs p.ops i (nodes_at docs p.ops there) other.row =
        same_binding i known.told.early there.places other.nodes (nodes_at docs p.ops there) m.evidence given other.row m.of in
        let here : node_values docs own nodes ≡ node_values docs own (nodes_at docs p.ops s) =
        here_keys s row nodes of own known.listed.told_here ∙ sym (here_keys s row (nodes_at docs p.ops s) at.of own known.listed.told_here) in
        let over : node_values docs own other.nodes ≡ node_values docs own (nodes_at docs p.ops there) =
        here_keys there other.row other.nodes m.of own known.told.told ∙ sym (here_keys there other.row (nodes_at docs p.ops there) of_given own known.told.told) in (
          record {
            evidence = given;
            same_group =
                subst (λ z. same_values z (node_values docs own (nodes_at docs p.ops there)) ≡ true) here
                (subst (λ z. same_values (node_values docs own nodes) z ≡ true) over m.same_group);
          },
          record {
            early = known.told.early;
            sound = at_index (IsRow docs p.ops i) (members docs p.ops i own row) j other.row (members_sound p valid typed docs i known.listed.within own row) m.at;
            of = of_given;
          },
        )
