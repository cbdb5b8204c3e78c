-- The levels by what is left after each element on the way to a node open the document to it.
use Rattle.std.proofs.Common.{◌≡◌, inl, inr, ℕ, zero, suc, Bool, true, false, cond, List, [], ◌∷◌, ◌++◌, Some, None, refl, ◌∙◌, ap, subst}
use Rattle.std.specs.Prelude.{IsTrue, slice_get}
use Rattle.std.specs.List.{filter}
use Rattle.mix_base.proofs.Choices.{none_some, some_is}
use Rattle.mix_base.proofs.Firsts.{each_passes}
use Rattle.mix_base.specs.Events.{skip, bind, without_skips}
use Rattle.mix_tree.specs.declared.var.Key.{Key}
use Rattle.plan_core.specs.declared.plan.Piece.{Piece}
use Rattle.plan_core.specs.ByNumber.{op_at}
use Rattle.plan_core.specs.Events.{RowEvents, events}
use Rattle.plan_core.specs.PlanMade.{plan_value}
use Rattle.plan_core.specs.TolledRows.{TolledRow, key_values, row_node, same_values}
use Rattle.plan_core.specs.Typed.{IsTyped}
use Rattle.plan_core.specs.Valid.{a_list, kinds, AreNodes, IsValid}
use Rattle.plan_evidence.specs.Evidence.{AreRight}
use Rattle.plan_evidence.specs.Held.{node_values, AreOf}
use Rattle.plan_evidence.specs.Laws.{SomeBinding}
use Rattle.plan_evidence.specs.Named.{Listing, members}
use Rattle.plan_evidence.specs.Opened.{Enters, Opens, of_outer, of_element}
use Rattle.plan_evidence.specs.Remains.{Remains, HasTuple, IsIndex, IsListIn, IsToldBy, StandsAt, at_member, levels_of, members_left}
use Rattle.plan_evidence.proofs.Aparts.{at_index}
use Rattle.plan_evidence.proofs.NodeValues.{keys_alike}
use Rattle.plan_evidence.proofs.Leading.{remains_lead}
use Rattle.plan_evidence.proofs.Makers.{number_of}
use Rattle.plan_evidence.proofs.Shown.{IsListOf}
use Rattle.plan_evidence.proofs.NamedNodes.{list_value}
use Rattle.plan_forms.specs.Forms.{input_at, keys_of, piece_of}
use Rattle.lazy_binding.specs.Bench.{IsBench}
use Rattle.lazy_binding.specs.declared.position.Position.{Position}
use Rattle.lazy_evidence.proofs.Belows.{exact_at}
use Rattle.lazy_evidence.proofs.Holds.{positions_have_evidence}
use Rattle.lazy_plan.specs.Bench.{BenchState, ops_of, documents, events_of, told, IsCursor, binding_at, ahead_at}
use Rattle.lazy_plan.specs.Groups.{group_ahead}
use Rattle.lazy_site.specs.Ids.{IsRest}
use Rattle.lazy_site.specs.Levels.{HasList, reached_at, tuple_of, tuple_at, levels_at, IsOpen, of_root, of_member}
use Rattle.lazy_site.specs.Standing.{remains, IsHolder, hand_op, hand_at, IsStanding}
use Rattle.lazy_site.specs.declared.sites.Head.{Head}
use Rattle.lazy_site.specs.declared.sites.Rest.{Rest, End, Pieces', Members', Group'}
use Rattle.lazy_site.proofs.Listings.{holder_sound}
use Rattle.lazy_site.proofs.Holders.{not_gone, not_all}
use Rattle.lazy_site.proofs.MembersHere.{IsMemberHere, member_here}

-- the binding at an index of those that events give is one of theirs
index_among : (es : RowEvents) (i : ℕ) (row : TolledRow) → slice_get (without_skips es) i ≡ Some row → SomeBinding (λ b. b ≡ row) es
index_among [] i row e = none_some row e
index_among (skip ∷ es) i row e = index_among es i row e
index_among (bind b ∷ es) zero row e = inl (some_is b row e)
index_among (bind b ∷ es) (suc i) row e = inr (index_among es i row e)

-- what stands at an index of a list stands at the next one behind another member
one_later : {X : Type 0} (z x : X) (xs : List X) → (i : ℕ) × (slice_get xs i ≡ Some x) → (i : ℕ) × (slice_get (z ∷ xs) i ≡ Some x)
one_later z x xs r = (suc r.0, r.1)

-- what a filter lets through at an index stands at an index of the whole list
filter_index : {X : Type 0} (test : X → Bool) (xs : List X) (k : ℕ) (x : X) → slice_get (filter test xs) k ≡ Some x → (i : ℕ) × (slice_get xs i ≡ Some x)
filter_index test [] k x e = none_some x e
filter_index test (z ∷ xs) zero x e =
    elim (test z) as (λ w. slice_get (cond w (z ∷ filter test xs) (filter test xs)) 0 ≡ Some x → (i : ℕ) × (slice_get (z ∷ xs) i ≡ Some x)) [
      | true ↦ λ f. (0, f)
      | false ↦ λ f. one_later z x xs (filter_index test xs 0 x f)
    ] e
filter_index test (z ∷ xs) (suc k) x e =
    elim (test z) as (λ w. slice_get (cond w (z ∷ filter test xs) (filter test xs)) (suc k) ≡ Some x → (i : ℕ) × (slice_get (z ∷ xs) i ≡ Some x)) [
      | true ↦ λ f. one_later z x xs (filter_index test xs k x f)
      | false ↦ λ f. one_later z x xs (filter_index test xs (suc k) x f)
    ] e

module _ (st : BenchState) (valid : IsValid (plan_value st.plan)) (typed : IsTyped (ops_of st)) (bench : IsBench st.world (ops_of st)) (y : IsTrue (told st)) where
  -- the nodes at the parts of a holder's cursor are right evidence of its binding
  pub holder_evidence : (n : ℕ) (c : Position) → IsHolder st n c
      → AreRight (documents st) (ops_of st) n (reached_at st n c).nodes × AreOf (documents st) (ops_of st) n (reached_at st n c).nodes (binding_at st n c)
  holder_evidence n c h =
      let a = h.among y in
      positions_have_evidence (plan_value st.plan) valid st.world bench y n h.within c h.cursor.of h.cursor.row (index_among (events_of st n) a.0 (binding_at st n c) a.1)

  -- keys of nodes compare of the nodes at the parts of a holder's cursor what they compare of its binding
  holder_keys : (n : ℕ) (c : Position) → IsHolder st n c → (own : List Key) → AreNodes own (kinds (ops_of st) n)
      → node_values (documents st) own (reached_at st n c).nodes ≡ key_values (documents st) own (binding_at st n c)
  holder_keys n c h own nodes =
      keys_alike (documents st) own (reached_at st n c).nodes (row_node (binding_at st n c))
      (λ v t. exact_at (plan_value st.plan) valid typed st.world n h.within c h.cursor.of h.cursor.row v (nodes v t))

  module _ (n : ℕ) (c : Position) (h : IsHolder st n c) (v : ℕ) (list : Listing) (has : HasList st n v list) where
    -- the list of the variable, as one of a binding of the operator
    pub list_in : IsListIn (documents st) (ops_of st) (binding_at st n c) v list
    list_in = (let a = h.among y in record { op = n; within = h.within; index = a.0; binding = a.1; kind = has.0; listing = has.1 })

    -- what the list uses is bound
    listed : IsListOf (documents st) (ops_of st) (number_of (ops_of st) v) n list
    listed = (list_value (plan_value st.plan) valid typed (documents st) n (binding_at st n c) (holder_sound st valid typed n c h y) v list (a_list, has.0) has.1).is_listed

    module _ (input : ℕ) (keys : List Key) (piece : Piece) (ahead : RowEvents) (around : Remains) (d : Position) (cursor : IsCursor st input d)
        (stands : StandsAt (documents st) (ops_of st) (binding_at st n c) list (members_left input keys piece ahead around) (binding_at st input d) piece) where
      -- the member at which a walk stands
      here_member : IsMemberHere (plan_value st.plan) valid typed (documents st) n (reached_at st n c) (holder_sound st valid typed n c h y) input keys piece (binding_at st input d)
      here_member = member_here (plan_value st.plan) valid typed (documents st) n (reached_at st n c) (holder_sound st valid typed n c h y) (number_of (ops_of st) v) listed stands

      -- a member's cursor is a holder
      member_holder : IsHolder st input d
      member_holder = record {
        within = here_member.group.within;
        cursor = cursor;
        among = λ z. filter_index (λ r. same_values (key_values (documents st) keys (binding_at st n c)) (key_values (documents st) keys r)) (without_skips (events_of st input)) here_member.index (binding_at st input d) here_member.at;
      }

      -- the nodes at the parts of a member's cursor tell it from the others
      member_told : IsToldBy (documents st) (ops_of st) input keys (reached_at st n c) (tuple_of st input d) (reached_at st input d)
      member_told =
          let docs = documents st in
          let g = here_member.group in
          let e = holder_evidence input d member_holder in
          let test : TolledRow → Bool = λ r. same_values (key_values docs keys (binding_at st n c)) (key_values docs keys r) in
          let rows : List TolledRow = without_skips (events docs (ops_of st) input) in
          record {
            evidence = record { right = e.0; written = refl };
            same_group = ap (λ z. same_values z (node_values docs keys (reached_at st input d).nodes)) (holder_keys n c h keys g.nodes)
                ∙ ap (λ z. same_values (key_values docs keys (binding_at st n c)) z) (holder_keys input d member_holder keys g.nodes_there)
                ∙ at_index (λ s. test s ≡ true) (members docs (ops_of st) input keys (binding_at st n c)) here_member.index (binding_at st input d) (each_passes test rows) here_member.at;
            of = e.1;
          }

    -- a walk that stands at a member stands at its group's piece
    own_piece : {input : ℕ} {keys : List Key} {piece q : Piece} {ahead : RowEvents} {around : Remains} {row : TolledRow}
        → StandsAt (documents st) (ops_of st) (binding_at st n c) list (members_left input keys piece ahead around) row q
        → StandsAt (documents st) (ops_of st) (binding_at st n c) list (members_left input keys piece ahead around) row piece
    own_piece (at_member up before are) = at_member up before are

    -- the cursor over whose binding a node is made is a holder
    pub hand_holder : (head : Head) (r : Rest) → IsRest st r → IsStanding st n c list head r → IsHolder st (hand_op st n r) (hand_at c r)
    hand_holder head End i s = h
    hand_holder head (Pieces' op at next ways q up) i s = h
    hand_holder head (Members' op None q up) i s = absurd (not_all (documents st) (ops_of st) (binding_at st n c) s.stands)
    hand_holder head (Members' op (Some d) q up) i s =
        member_holder (input_at (ops_of st) op) [] (piece_of (ops_of st) op) (ahead_at st (input_at (ops_of st) op) d) (remains st up) d i.1 (own_piece s.stands)
    hand_holder head (Group' op first number at place q up) i s =
        member_holder (input_at (ops_of st) op) (keys_of (op_at (ops_of st) op)) (piece_of (ops_of st) op) (group_ahead st op first at) (remains st up) at i.1.cursor (own_piece s.stands)

    -- the places at the parts of the cursor over whose binding a node is made tell it from the others of its piece
    hand_told : (head : Head) (r : Rest) → IsRest st r → IsStanding st n c list head r
        → HasTuple (documents st) (ops_of st) (reached_at st n c) (remains st r) (tuple_at st r) (reached_at st (hand_op st n r) (hand_at c r))
    hand_told head End i s = not_gone (documents st) (ops_of st) (binding_at st n c) s.stands refl
    hand_told head (Pieces' op at next ways q up) i s = (refl, refl)
    hand_told head (Members' op None q up) i s = absurd (not_all (documents st) (ops_of st) (binding_at st n c) s.stands)
    hand_told head (Members' op (Some d) q up) i s =
        member_told (input_at (ops_of st) op) [] (piece_of (ops_of st) op) (ahead_at st (input_at (ops_of st) op) d) (remains st up) d i.1 (own_piece s.stands)
    hand_told head (Group' op first number at place q up) i s =
        member_told (input_at (ops_of st) op) (keys_of (op_at (ops_of st) op)) (piece_of (ops_of st) op) (group_ahead st op first at) (remains st up) at i.1.cursor (own_piece s.stands)

    -- the level of a node leads from its list to it
    pub hand_enters : (head : Head) (r : Rest) → IsRest st r → (s : IsStanding st n c list head r) → (j : ℕ) → IsIndex (documents st) (binding_at st n c) v (remains st r) j
        → Enters (documents st) (ops_of st) (reached_at st n c) list (levels_of (tuple_at st r) (remains st r)) j (reached_at st (hand_op st n r) (hand_at c r)) s.piece
    hand_enters head r i s j index =
        remains_lead (plan_value st.plan) valid (documents st) (reached_at st n c) (reached_at st (hand_op st n r) (hand_at c r)) v list list_in (remains st r) s.piece s.stands (tuple_at st r) (hand_told head r i s) j index

  -- the levels by what is left after a node and after each element on the way to it open the document to the node
  pub opens_to : {rests : List Rest} {q : List ℕ} {n v : ℕ} {c : Position} {list : Listing} → IsOpen st rests q n c v list → (head : Head) (r : Rest) → IsRest st r → (s : IsStanding st n c list head r) → (j : ℕ)
      → IsIndex (documents st) (binding_at st n c) v (remains st r) j
      → Opens (documents st) (ops_of st) (levels_at st (r ∷ rests)) (q ++ j ∷ []) (reached_at st (hand_op st n r) (hand_at c r)) s.piece
  opens_to {n = n} {v = v} {c = c} {list = list} (of_root {outer = outer} h o row e has) head r i s j index =
      of_outer
      (record {
        input = n;
        outer = outer;
        list = v;
        is_outer = o;
        is_list = e;
        is_inner = has.1;
        is_row = row;
        right = (holder_evidence n c h).0;
      })
      (hand_enters n c h v list has head r i s j index)
  opens_to (of_member {rests = rests} {q = q} {n = n} {v = v} {u = u} {c = c} {list = list} {inner = inner} {head = above} {r = rest} up i s k index own e has h) head r i' s' j index' =
      let before = subst (Opens (documents st) (ops_of st) (levels_at st (rest ∷ rests)) (q ++ k ∷ []) (reached_at st (hand_op st n rest) (hand_at c rest))) own (opens_to up above rest i s k index) in
      of_element before e has.1 (hand_enters (hand_op st n rest) (hand_at c rest) h u inner has head r i' s' j index')
