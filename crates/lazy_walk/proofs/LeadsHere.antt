-- Levels lead to a node where their numbers and their evidence are the node's.
use Rattle.std.proofs.Common.{◌≡◌, ◌∙◌, ℕ, zero, suc, ◌<◌, ◌-◌, Bool, true, false, List, [], ◌∷◌, ◌++◌, Option, Some, None, refl, sym, ap, subst, arith, length, drop}
use Rattle.std.specs.Prelude.{slice_get, IsTrue, MatchOption, get_or, cond, ◌==◌, ◌&&◌, ◌||◌}
use Rattle.std.proofs.lemmas.Bool.Decides.{nat_tests}
use Rattle.std.proofs.lemmas.List.{map-append, length-map}
use Rattle.std.proofs.lemmas.Option.{get_or_from_slice_get}
use Rattle.mix_tree.specs.Keys.{key_var, has_var}
use Rattle.mix_tree.specs.Nodes.{Documents, Node}
use Rattle.mix_tree.specs.declared.var.Key.{Key}
use Rattle.node_text.specs.Node.{LevelValue}
use Rattle.plan_core.specs.declared.plan.Piece.{Piece}
use Rattle.plan_core.specs.Events.{RowEvents}
use Rattle.plan_core.specs.PlanMade.{plan_value}
use Rattle.plan_core.specs.Plans.{PlanValue, Operator}
use Rattle.plan_core.specs.TolledRows.{TolledRow, of_source, tolled_value, row_node, source_node, key_values, same_values}
use Rattle.plan_core.specs.Typed.{IsTyped}
use Rattle.plan_core.specs.Valid.{IsValid}
use Rattle.plan_evidence.specs.Evidence.{IsEvidence}
use Rattle.plan_evidence.specs.Held.{held, node_values, AreOf}
use Rattle.plan_evidence.specs.Named.{Listing, of_pieces, of_group, Reached, IsSingle}
use Rattle.plan_evidence.specs.Opened.{Enters}
use Rattle.plan_evidence.specs.Remains.{Remains, numbers_in, levels_of, pieces_left, members_left, IsAround, StandsAt, at_piece, at_member, IsIndex}
use Rattle.plan_evidence.proofs.NodeValues.{keys_alike}
use Rattle.plan_evidence.proofs.Once.{rows_agree}
use Rattle.plan_forms.specs.Forms.{input_at, keys_of, pieces_of, piece_of}
use Rattle.plan_core.specs.ByNumber.{op_at}
use Rattle.plan_levels.specs.Entered.{numbers_of, AreAlike}
use Rattle.plan_levels.proofs.Entering.{enters_alike}
use Rattle.plan_levels.proofs.Told.{members_told, singles_told}
use Rattle.lazy_binding.specs.Bench.{IsBench}
use Rattle.lazy_binding.proofs.FirstMembers.{same_values-refl}
use Rattle.lazy_binding.specs.declared.position.Position.{Position}
use Rattle.lazy_plan.specs.Bench.{BenchState, ops_of, documents, told, binding_at}
use Rattle.lazy_seek.specs.Given.{given}
use Rattle.lazy_follow.specs.declared.evidence.Evidence.{Evidence}
use Rattle.lazy_follow.specs.Marks.{AreMembers}
use Rattle.lazy_follow.specs.Spotted.{IsSpotted, nodes_of}
use Rattle.lazy_follow.proofs.Groups.{given_evidence}
use Rattle.lazy_site.specs.Ids.{IsRest}
use Rattle.lazy_site.specs.Levels.{HasList, reached_at, tuple_at}
use Rattle.lazy_site.specs.Standing.{remains, IsHolder, hand_op, hand_at, IsStanding}
use Rattle.lazy_site.specs.declared.sites.Head.{Head}
use Rattle.lazy_site.specs.declared.sites.Rest.{Rest, End, Pieces', Members', Group'}
use Rattle.lazy_site.proofs.Holders.{not_gone, not_all}
use Rattle.lazy_site.proofs.Opening.{list_in, hand_enters, hand_holder}
use Rattle.lazy_walk.specs.Leading.{BeginWith, own_numbers, IsAgreed, TellsMember, AreOfChosen, Lead}
use Rattle.lazy_walk.proofs.OneWay.{through_numbers, numbers_last, one_way, AtMember, in_group}

-- LISTS

-- what stands at an index of a list stands there with others behind
get_front : {X : Type 0} (xs ys : List X) (k : ℕ) (x : X) → slice_get xs k ≡ Some x → slice_get (xs ++ ys) k ≡ Some x
get_front [] ys k x e = cc
get_front (z ∷ xs) ys zero x e = e
get_front (z ∷ xs) ys (suc k) x e = get_front xs ys k x e

-- where the members of a mark are those of its levels, evidence of a level has its places
members_spotted : (st : BenchState) (ls : List LevelValue) (ms : List (Option Evidence)) → AreMembers st ls ms → (k : ℕ) (l : LevelValue) (e : Evidence) → slice_get ls k ≡ Some l → slice_get ms k ≡ Some (Some e) → IsSpotted st l.tuple e
members_spotted st [] [] h k l e f g = cc
members_spotted st [] (m ∷ ms) h k l e f g = absurd h
members_spotted st (x ∷ ls) [] h k l e f g = absurd h
members_spotted st (x ∷ ls) (m ∷ ms) h zero l e f g =
    let same : x ≡ l = cc in
    let is : m ≡ Some e = cc in
    subst (λ (y : LevelValue). IsSpotted st y.tuple e) same (subst (λ o. MatchOption o (x.tuple ≡ []) (IsSpotted st x.tuple)) is h.0)
members_spotted st (x ∷ ls) (m ∷ ms) h (suc k) l e f g = members_spotted st ls ms h.1 k l e f g

-- there is a member for each level of a mark
pub members_length : (st : BenchState) (ls : List LevelValue) (ms : List (Option Evidence)) → AreMembers st ls ms → length ls ≡ length ms
members_length st [] [] h = refl
members_length st [] (m ∷ ms) h = absurd h
members_length st (l ∷ ls) [] h = absurd h
members_length st (l ∷ ls) (m ∷ ms) h = ap suc (members_length st ls ms h.1)

-- the evidence of a level of a mark has places
pub member_spotted : (st : BenchState) (ls : List LevelValue) (ms : List (Option Evidence)) → AreMembers st ls ms → (k : ℕ) (d : Option Evidence) → k < length ms
    → MatchOption (get_or ms k d) (Unit {0}) (λ e. (places : List (List ℕ)) × IsSpotted st places e)
member_spotted st [] [] h k d w = absurd (omega (arith, w))
member_spotted st [] (m ∷ ms) h k d w = absurd h
member_spotted st (l ∷ ls) [] h k d w = absurd h
member_spotted st (l ∷ ls) (None ∷ ms) h zero d w = tt
member_spotted st (l ∷ ls) (Some e ∷ ms) h zero d w = (l.tuple, h.0)
member_spotted st (l ∷ ls) (m ∷ ms) h (suc k) d w = member_spotted st ls ms h.1 k d (omega (arith, w))

-- the members behind some are those of the levels behind
members_drop : (st : BenchState) (k : ℕ) (ls : List LevelValue) (ms : List (Option Evidence)) → AreMembers st ls ms → AreMembers st (drop k ls) (drop k ms)
members_drop st zero ls ms h = h
members_drop st (suc k) [] [] h = h
members_drop st (suc k) [] (m ∷ ms) h = absurd h
members_drop st (suc k) (l ∷ ls) [] h = absurd h
members_drop st (suc k) (l ∷ ls) (m ∷ ms) h = members_drop st k ls ms h.1

pub members_behind : (st : BenchState) (k : ℕ) (ls : List LevelValue) (ms : List (Option Evidence)) → AreMembers st ls ms → (behind : List LevelValue) (others : List (Option Evidence)) → behind ≡ drop k ls → others ≡ drop k ms
    → AreMembers st behind others
members_behind st k ls ms h behind others e f = subst (λ xs. AreMembers st xs others) (sym e) (subst (AreMembers st (drop k ls)) (sym f) (members_drop st k ls ms h))

-- NODES OF EVIDENCE

-- a binding that has these nodes in the variables of keys
row_of : (ℕ → Node) → List Key → TolledRow
row_of nodes [] = []
row_of nodes (k ∷ keys) = (key_var k, of_source (nodes (key_var k))) ∷ row_of nodes keys

-- it has the node of each variable of a key
row_has : (nodes : ℕ → Node) (keys : List Key) (v : ℕ) → has_var keys v ≡ true → nodes v ≡ row_node (row_of nodes keys) v
unfolding row_of
row_has nodes [] v h = cc
row_has nodes (k ∷ keys) v h = either (key_var k == v) refl (row_has nodes keys v)
  where
    either : (t : Bool) → (key_var k == v) ≡ t → (has_var keys v ≡ true → nodes v ≡ row_node (row_of nodes keys) v)
        → nodes v ≡ source_node (cond (key_var k == v) (of_source (nodes (key_var k))) (tolled_value (row_of nodes keys) v))
    either true e f = (let z : key_var k ≡ v = grind (arith, nat_tests, e) in ap nodes (sym z) ∙ sym (ap (λ (t : Bool). source_node (cond t (of_source (nodes (key_var k))) (tolled_value (row_of nodes keys) v))) e))
    either false e f =
        f (ap (λ (t : Bool). t || has_var keys v) (sym e) ∙ h) ∙ sym (ap (λ (t : Bool). source_node (cond t (of_source (nodes (key_var k))) (tolled_value (row_of nodes keys) v))) e)

-- right evidence with the same places as that of a binding is of it too
same_of : (p : PlanValue) → IsValid p → (docs : Documents) (n : ℕ) → n < length p.ops → (places : List (List ℕ)) (a b : ℕ → Node) → IsEvidence docs p.ops n places a → IsEvidence docs p.ops n places b
    → (row : TolledRow) → AreOf docs p.ops n a row → AreOf docs p.ops n b row
same_of p valid docs n within places a b x y row h =
    let keys : List Key = held p.ops n in
    let own : TolledRow = row_of b keys in
    let alike : node_values docs keys b ≡ key_values docs keys own = keys_alike docs keys b (row_node own) (row_has b keys) in
    let of_own : AreOf docs p.ops n b own = ap (same_values (node_values docs keys b)) (sym alike) ∙ same_values-refl (node_values docs keys b) in
    let agree : key_values docs keys own ≡ key_values docs keys row = rows_agree p valid docs n within b a y.right x.right (y.written ∙ sym x.written) own row of_own h in
    subst (λ z. same_values (node_values docs keys b) z ≡ true) agree of_own

-- WHERE A WALK STANDS

module _ (docs : Documents) (ops : List Operator) (here : TolledRow) where
  -- a walk among pieces stands at one that is a single tree
  record AtSingle (list : Listing) (around : Remains) (pieces : List Piece) (next : ℕ) (piece : Piece) : Type 0 where
    number : ℕ
    is_next : next ≡ suc number
    around_it : IsAround docs ops here list around (of_pieces pieces)
    get : slice_get pieces number ≡ Some piece
    single : IsSingle ops piece

  at_single : {list : Listing} {around : Remains} {pieces : List Piece} {row there : TolledRow} {next : ℕ} {piece : Piece} → StandsAt docs ops here list (pieces_left pieces row next around) there piece → AtSingle list around pieces next piece
  at_single (at_piece {n = n} up same get single) = record { number = n; is_next = refl; around_it = up; get = get; single = single }

  -- a walk among members stands in their group
  at_group : {list : Listing} {around : Remains} {input : ℕ} {keys : List Key} {piece q : Piece} {ahead : RowEvents} {there : TolledRow} → StandsAt docs ops here list (members_left input keys piece ahead around) there q
      → IsAround docs ops here list around (of_group input keys piece)
  at_group (at_member up before is) = up

-- LEADING

module _ (st : BenchState) (valid : IsValid (plan_value st.plan)) (typed : IsTyped (ops_of st)) (bench : IsBench st.world (ops_of st)) (y : IsTrue (told st))
    (n : ℕ) (c : Position) (h : IsHolder st n c) (v : ℕ) (list : Listing) (has : HasList st n v list) (head : Head) (r : Rest) (i : IsRest st r) (s : IsStanding st n c list head r)
    (index : ℕ) (is_index : IsIndex (documents st) (binding_at st n c) v (remains st r) index) (levels : List LevelValue) (members : List (Option Evidence)) (are : AreMembers st levels members)
    (chosen : AreOfChosen (ops_of st) (Some list) levels members) (here there : Reached) (j : ℕ) (piece : Piece) (same : here.row ≡ binding_at st n c)
    (lead : Lead (documents st) (ops_of st) here list levels j there piece) where
  -- the node's own levels lead to it
  own : Enters (documents st) (ops_of st) (reached_at st n c) list (levels_of (tuple_at st r) (remains st r)) index (reached_at st (hand_op st n r) (hand_at c r)) s.piece
  own = hand_enters st valid typed bench y n c h v list has head r i s index is_index

  -- they have its numbers
  own_is : numbers_of (levels_of (tuple_at st r) (remains st r)) ≡ own_numbers (remains st r)
  own_is = through_numbers (tuple_at st r) (numbers_in (remains st r))

  -- all numbers are those of the first levels, and those behind
  all_numbers : numbers_of levels ≡ numbers_of lead.front ++ numbers_of lead.behind
  all_numbers = ap numbers_of lead.is ∙ map-append (λ l. l.piece) lead.front lead.behind

  -- where the levels begin with the node's numbers, the first of them have these
  front_own : BeginWith (own_numbers (remains st r)) levels → numbers_of lead.front ≡ own_numbers (remains st r)
  front_own b =
      sym (one_way (documents st) (ops_of st) own lead.enters b.0 (numbers_of lead.behind) (ap (λ (ks : List ℕ). ks ++ b.0) own_is ∙ sym b.1 ∙ all_numbers)) ∙ own_is

  -- where the first levels have the node's numbers, all begin with these
  begin_own : numbers_of lead.front ≡ own_numbers (remains st r) → BeginWith (own_numbers (remains st r)) levels
  begin_own e = (numbers_of lead.behind, all_numbers ∙ ap (λ (ks : List ℕ). ks ++ numbers_of lead.behind) e)

  -- levels that lead to the node's index lead to it alike
  alike : index ≡ j → AreAlike (levels_of (tuple_at st r) (remains st r)) lead.front (reached_at st (hand_op st n r) (hand_at c r)) there s.piece piece
  alike e =
      enters_alike (plan_value st.plan) valid (documents st) (reached_at st n c) here v list (list_in st valid typed bench y n c h v list has) same (levels_of (tuple_at st r) (remains st r)) lead.front index
      (reached_at st (hand_op st n r) (hand_at c r)) there s.piece piece own (subst (λ (k : ℕ). Enters (documents st) (ops_of st) here list lead.front k there piece) (sym e) lead.enters)

  -- they have its numbers
  alike_numbers : index ≡ j → numbers_of lead.front ≡ own_numbers (remains st r)
  alike_numbers e = sym (alike e).numbers ∙ own_is

  -- so many are the first levels as the node's numbers, where they have these
  own_count : numbers_of lead.front ≡ own_numbers (remains st r) → length (own_numbers (remains st r)) ≡ length lead.front
  own_count e = ap length (sym e) ∙ length-map lead.front (λ l. l.piece)

  module _ (m : Option Evidence) (at : m ≡ get_or members (length (own_numbers (remains st r)) - 1) m) (b : Bool) where
    module _ (input : ℕ) (keys : List Key) (q : Piece) (around : Remains) (d : Position) (is_own : own_numbers (remains st r) ≡ own_numbers around) (within : input < length (ops_of st))
        (up : IsAround (documents st) (ops_of st) (binding_at st n c) list around (of_group input keys q)) (hand : binding_at st (hand_op st n r) (hand_at c r) ≡ binding_at st input d)
        (tells : (places : List (List ℕ)) → IsAgreed st places input d m b) where
      -- levels with a member's numbers lead to one of its group, by the evidence of the last
      into : numbers_of lead.front ≡ own_numbers (remains st r) → AtMember (documents st) (ops_of st) (binding_at st n c) lead.behind here there around input keys lead.front members
      into e = in_group (documents st) (ops_of st) (binding_at st n c) lead.behind up lead.front members j lead.enters (e ∙ is_own) (subst (λ (ls : List LevelValue). AreOfChosen (ops_of st) (Some list) ls members) lead.is chosen)

      -- whether the evidence is the member's is told by the nodes that its places give
      agreed : (e : numbers_of lead.front ≡ own_numbers (remains st r))
          → b ≡ same_values (node_values (documents st) (held (ops_of st) input) (given (ops_of st) input (into e).last.tuple)) (key_values (documents st) (held (ops_of st) input) (binding_at st input d))
      agreed e =
          let w = into e in
          let k = length (own_numbers (remains st r)) - 1 in
          let last : slice_get lead.front k ≡ Some w.last = ap (λ (ns : List ℕ). slice_get lead.front (length ns - 1)) is_own ∙ w.is_last in
          let found : slice_get members k ≡ Some (Some w.evidence) = ap (λ (ns : List ℕ). slice_get members (length ns - 1)) is_own ∙ w.is_evidence in
          let is : m ≡ Some w.evidence = at ∙ get_or_from_slice_get members k (Some w.evidence) m found in
          let in_levels : slice_get levels k ≡ Some w.last = ap (λ (ls : List LevelValue). slice_get ls k) lead.is ∙ get_front lead.front lead.behind k w.last last in
          let spotted = members_spotted st levels members are k w.last w.evidence in_levels found in
          let t = subst (λ o. IsAgreed st w.last.tuple input d o b) is (tells w.last.tuple) spotted in
          let of : (w.evidence.op == input) ≡ true = grind (arith, nat_tests, w.op) in
          t ∙ ap (λ (z : Bool). z && same_values (node_values (documents st) (held (ops_of st) w.evidence.op) (nodes_of st w.last.tuple w.evidence)) (key_values (documents st) (held (ops_of st) w.evidence.op) (binding_at st input d))) of
          ∙ ap (λ (o : ℕ). same_values (node_values (documents st) (held (ops_of st) o) (given (ops_of st) o w.last.tuple)) (key_values (documents st) (held (ops_of st) o) (binding_at st input d))) w.op

      -- the nodes that the places give are right evidence
      given_right : (e : numbers_of lead.front ≡ own_numbers (remains st r)) → IsEvidence (documents st) (ops_of st) input (into e).last.tuple (given (ops_of st) input (into e).last.tuple)
      given_right e = given_evidence (plan_value st.plan) valid (documents st) input within (into e).last.tuple there.nodes (into e).member.evidence

      -- evidence of the member at the node's index is the node's
      member_true : index ≡ j → b ≡ true
      member_true z =
          let e = alike_numbers z in
          let row : there.row ≡ binding_at st input d = sym (alike z).row ∙ hand in
          let of = same_of (plan_value st.plan) valid (documents st) input within (into e).last.tuple there.nodes (given (ops_of st) input (into e).last.tuple) (into e).member.evidence (given_right e) there.row (into e).member.of in
          agreed e ∙ subst (λ (x : TolledRow). AreOf (documents st) (ops_of st) input (given (ops_of st) input (into e).last.tuple) x) row of

      -- where the evidence is the node's, levels with its numbers lead to its index
      member_same : b ≡ true → numbers_of lead.front ≡ own_numbers (remains st r) → index ≡ j
      member_same t e =
          let w = into e in
          let own_keys : List Key = held (ops_of st) input in
          let of_given : AreOf (documents st) (ops_of st) input (given (ops_of st) input w.last.tuple) (binding_at st input d) = sym (agreed e) ∙ t in
          let agree : key_values (documents st) own_keys (binding_at st input d) ≡ key_values (documents st) own_keys there.row =
          rows_agree (plan_value st.plan) valid (documents st) input within (given (ops_of st) input w.last.tuple) there.nodes (given_right e).right w.member.evidence.right
          ((given_right e).written ∙ sym w.member.evidence.written) (binding_at st input d) there.row of_given w.member.of in
          let of : AreOf (documents st) (ops_of st) input there.nodes (binding_at st (hand_op st n r) (hand_at c r)) =
          subst (λ (x : TolledRow). AreOf (documents st) (ops_of st) input there.nodes x) (sym hand)
          (subst (λ z. same_values (node_values (documents st) own_keys there.nodes) z ≡ true) (sym agree) w.member.of) in
          members_told (plan_value st.plan) valid (documents st) (reached_at st n c) here v list (list_in st valid typed bench y n c h v list has) same around input keys q up (levels_of (tuple_at st r) (remains st r)) lead.front index j
          (reached_at st (hand_op st n r) (hand_at c r)) there s.piece piece own lead.enters (own_is ∙ is_own) (e ∙ is_own) of

    -- evidence of the node at the levels' index is the node's, and where it is, levels with the node's numbers lead to its index
    abbrev Told : Type 0
    Told = (index ≡ j → b ≡ true) × (b ≡ true → numbers_of lead.front ≡ own_numbers (remains st r) → index ≡ j)

    -- what stands before a rest, whatever the rest is called
    stands_at : (x : Rest) → r ≡ x → StandsAt (documents st) (ops_of st) (binding_at st n c) list (remains st x) (binding_at st (hand_op st n x) (hand_at c x)) s.piece
    stands_at x e = subst (λ (z : Rest). StandsAt (documents st) (ops_of st) (binding_at st n c) list (remains st z) (binding_at st (hand_op st n z) (hand_at c z)) s.piece) e s.stands

    -- so is a member's operator one of the plan
    hand_within : (x : Rest) → r ≡ x → hand_op st n x < length (ops_of st)
    hand_within x e = subst (λ (z : Rest). hand_op st n z < length (ops_of st)) e (hand_holder st valid typed bench y n c h v list has head r i s).within

    -- levels with the number of a piece that is a single tree lead to it
    single_same : (pieces : List Piece) (row : TolledRow) (next : ℕ) (around : Remains) → remains st r ≡ pieces_left pieces row next around → AtSingle (documents st) (ops_of st) (binding_at st n c) list around pieces next s.piece
        → numbers_of lead.front ≡ own_numbers (remains st r) → index ≡ j
    single_same pieces row next around e w f =
        let z : own_numbers (remains st r) ≡ numbers_in around ++ w.number ∷ [] = ap own_numbers e ∙ ap (λ (k : ℕ). own_numbers (pieces_left pieces row k around)) w.is_next ∙ numbers_last (numbers_in around) w.number in
        singles_told (plan_value st.plan) valid (documents st) (reached_at st n c) here v list (list_in st valid typed bench y n c h v list has) same around pieces w.number s.piece w.around_it w.get w.single (levels_of (tuple_at st r) (remains st r)) lead.front index j
        (reached_at st (hand_op st n r) (hand_at c r)) there s.piece piece own lead.enters (own_is ∙ z) (f ∙ z)

    -- a member is told by its evidence, and the tree of a piece by its number
    told_by : (x : Rest) → r ≡ x → ((places : List (List ℕ)) → TellsMember st places x m b) → Told
    told_by End e f = absurd (not_gone (documents st) (ops_of st) (binding_at st n c) (stands_at End e) refl)
    told_by (Pieces' op at next ways q up) e f = (
      λ z. f [],
      λ t g.
          single_same (pieces_of (op_at (ops_of st) op)) (binding_at st (input_at (ops_of st) op) at) next (remains st up) (ap (remains st) e)
          (at_single (documents st) (ops_of st) (binding_at st n c) (stands_at (Pieces' op at next ways q up) e)) g,
    )
    told_by (Members' op None q up) e f = absurd (not_all (documents st) (ops_of st) (binding_at st n c) (stands_at (Members' op None q up) e))
    told_by (Members' op (Some d) q up) e f =
        let x = Members' op (Some d) q up in
        let input = input_at (ops_of st) op in
        let is_own = ap (λ (z : Rest). own_numbers (remains st z)) e in
        let hand = ap (λ (z : Rest). binding_at st (hand_op st n z) (hand_at c z)) e in
        let group = at_group (documents st) (ops_of st) (binding_at st n c) (stands_at x e) in
        (member_true input [] (piece_of (ops_of st) op) (remains st up) d is_own (hand_within x e) group hand f, member_same input [] (piece_of (ops_of st) op) (remains st up) d is_own (hand_within x e) group hand f)
    told_by (Group' op first number at place q up) e f =
        let x = Group' op first number at place q up in
        let input = input_at (ops_of st) op in
        let keys = keys_of (op_at (ops_of st) op) in
        let is_own = ap (λ (z : Rest). own_numbers (remains st z)) e in
        let hand = ap (λ (z : Rest). binding_at st (hand_op st n z) (hand_at c z)) e in
        let group = at_group (documents st) (ops_of st) (binding_at st n c) (stands_at x e) in
        (member_true input keys (piece_of (ops_of st) op) (remains st up) at is_own (hand_within x e) group hand f, member_same input keys (piece_of (ops_of st) op) (remains st up) at is_own (hand_within x e) group hand f)

    module _ (tells : (places : List (List ℕ)) → TellsMember st places r m b) where
      -- evidence that isn't the node's leads to another
      pub untold : b ≡ false → index ≡ j → ⊥
      untold f z = (let e : true ≡ false = sym ((told_by r refl tells).0 z) ∙ f in cc)

      -- levels with the node's numbers lead to it where the evidence is the node's
      pub led : b ≡ true → BeginWith (own_numbers (remains st r)) levels → (count : ℕ) → count ≡ length (own_numbers (remains st r)) → (index ≡ j) × (count ≡ length lead.front)
      led t w count z = ((told_by r refl tells).1 t (front_own w), z ∙ own_count (front_own w))

  -- levels with other numbers lead to another node
  pub unlike : (BeginWith (own_numbers (remains st r)) levels → ⊥) → index ≡ j → ⊥
  unlike f z = f (begin_own (alike_numbers z))
