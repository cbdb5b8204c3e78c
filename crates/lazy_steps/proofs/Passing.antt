-- Members of a join's right side that are known: those that no comparison lets through are passed.
use Rattle.std.proofs.Common.{◌≡◌, ◌<◌, ◌≤◌, ◌+◌, ◌-◌, ℕ, zero, suc, Bool, true, false, List, [], ◌∷◌, ◌++◌, Option, Some, length, get_or, refl, ◌∙◌, sym, ap, subst, arith, length-append}
use Rattle.std.specs.Hash as fed
use Rattle.std.specs.List.{AllByRecursion}
use Rattle.std.specs.Prelude.{IsTrue, Result, IfOk, is_some}
use Rattle.std.specs.declared.alloc.Global.{Global}
use Rattle.std.specs.declared.rc.Rc.{Rc}
use Rattle.std.proofs.lemmas.Result.{IfOk-weaker}
use Rattle.join_memo.specs.Kept.{Kept, labels_of}
use Rattle.mix_base.specs.Events.{found, cost}
use Rattle.mix_base.proofs.EventLaws.{found-append_both, cost-append_both}
use Rattle.lxp_core.specs.View.{View}
use Rattle.lxp_core.specs.declared.fault.WalkFault.{WalkFault}
use Rattle.mix_tree.specs.Nodes.{Node}
use Rattle.mix_tree.specs.declared.comparing.Test.{Test}
use Rattle.plan_core.specs.Plans.{Operator}
use Rattle.plan_core.specs.Shapes.{Shape, pairs_up, shape_at}
use Rattle.plan_core.specs.Typed.{IsTyped}
use Rattle.plan_core.specs.TolledRows.{row_node, source_node}
use Rattle.plan_core.specs.Events.{RowEvents, pairs, passes_all}
use Rattle.plan_core.specs.Valid.{kinds, a_node}
use Rattle.plan_core.proofs.Found.{found-pairs_no, cost-pairs_no}
use Rattle.plan_forms.specs.declared.link.Link.{Link}
use Rattle.plan_forms.specs.declared.link.LinkKind.{LinkKind}
use Rattle.plan_forms.specs.declared.link.LinkKind.TheVariants.{Label as by_label, Node as by_node}
use Rattle.lazy_binding.specs.declared.parts.Growing.{Growing}
use Rattle.lazy_binding.specs.declared.parts.Fixed.{Fixed}
use Rattle.lazy_binding.specs.declared.position.Position.{Position, Start, Pair'}
use Rattle.lazy_binding.specs.Bench.{IsBench}
use Rattle.lazy_binding.specs.World.{World, docs_of, is_told, Member, memo_at, passed, last_of}
use Rattle.lazy_binding.specs.Cursors.{binding, ahead, size, stands, weighs, IsIn, IsOf, has_row}
use Rattle.plan_forms.specs.declared.link.Side.TheVariants.{Left as on_left, Right as on_right}
use Rattle.plan_forms.specs.Links.{shape_links, all_links, links_at, if_label}
use Rattle.lazy_binding.specs.Members.{link_label, link_fed, links_fed, member_label, AreMembers}
use Rattle.lazy_binding.specs.Spots.{spot_in, hash_text, spot_fed, spot_text}
use Rattle.lazy_binding.specs.Parts.{operators, world_of}
use Rattle.lazy_binding.proofs.Bound.{inputs_at}
use Rattle.lazy_binding.proofs.FirstLists.{take_all}
use Rattle.lazy_binding.proofs.Keep.{keeps_same}
use Rattle.lazy_binding.proofs.Spots.{lacks, spot_is}
use Rattle.lazy_binding.proofs.Stay.{size_kept}
use Rattle.lazy_steps.specs.Beside.{sought_label, is_by_label, HasSought, NoneBetween, IsNextPlace, IsPairAt, lets, IsMemberStep, beside_events, beside_number, last_at, IsGrown}
use Rattle.lazy_steps.specs.declared.step.Step.{Step}
use Rattle.lazy_steps.specs.Steps.{Asks, Steps, Ran, CanStep, left_events, left_number}
use Rattle.lazy_steps.proofs.Goes.{Goes, goes_result, asks_nothing, tells_on, in_place}
use Rattle.lazy_steps.proofs.Growing.{take_more, member_at, members_few}
use Rattle.lazy_steps.proofs.Holding.{holds}
use Rattle.lazy_steps.proofs.Agreeing.{Agree, Alike, labels_agree, not_true, one_spot_of}
use Rattle.lazy_steps.proofs.Linked.{LinkFits, join_fits, tests_say, test_holds, none_next, label_some}
use Rattle.lazy_steps.proofs.PairSteps.{right_over, right_past, member_steps, can_then}

module _ (ops : List Operator) (n l r : ℕ) (tests : List Test) (typed : IsTyped ops) (within : n < length ops) (is : shape_at ops n ≡ pairs_up l r tests) (w : World) (bench : IsBench w ops) (x : Position) (here : IsOf w ops l x) (row : IsTrue (has_row x)) where
  abbrev ms : List Member
  ms = (memo_at w n).pairs

  members : AreMembers w ops r (links_at ops n) (memo_at w n)
  members = bench.members n l r tests is

  smaller : (l < length ops) × (r < length ops)
  smaller = (let z = inputs_at ops typed n within (pairs_up l r tests) is in (omega (arith, z.0, within), omega (arith, z.1.0, within)))

  linked : links_at ops n ≡ all_links (kinds ops l) tests
  linked = ap (shape_links ops) is

  -- the nodes of a pair by which its member is looked up are those of its two sides
  pair_nodes : (d : Position) (link : Link) → LinkFits (kinds ops l) (kinds ops r) link
      → (row_node (binding w ops l x ++ binding w ops r d) link.left ≡ row_node (binding w ops l x) link.left)
      × (row_node (binding w ops l x ++ binding w ops r d) link.right ≡ row_node (binding w ops r d) link.right)
  pair_nodes d link fits = (
    ap source_node (holds ops typed w l smaller.0 (shape_at ops l) refl x here row link.left a_node fits.left_is (binding w ops r d)),
    ap source_node ((lacks ops typed w l smaller.0 (shape_at ops l) refl x here row link.right fits.apart).1 (binding w ops r d)),
  )

  -- the variables by which they are looked up
  fits_all : AllByRecursion (LinkFits (kinds ops l) (kinds ops r)) (links_at ops n)
  fits_all = join_fits ops typed n within l r tests is (links_at ops n) refl

  -- two sides that agree by a link do so in their pair
  pair_agrees : (d : Position) (link : Link) (verdict : Bool) → LinkFits (kinds ops l) (kinds ops r) link
      → Agree link.by (docs_of w) (row_node (binding w ops l x) link.left) (row_node (binding w ops r d) link.right) verdict
      → Agree link.by (docs_of w) (row_node (binding w ops l x ++ binding w ops r d) link.left) (row_node (binding w ops l x ++ binding w ops r d) link.right) verdict
  pair_agrees d link verdict fits h =
      let z = pair_nodes d link fits in
      subst (λ (m : Node). Agree link.by (docs_of w) m (row_node (binding w ops l x ++ binding w ops r d) link.right) verdict) (sym z.0)
      (subst (λ (m : Node). Agree link.by (docs_of w) (row_node (binding w ops l x) link.left) m verdict) (sym z.1) h)

  -- where a pair is alike, so are its two sides
  sides_alike : (d : Position) (link : Link) → LinkFits (kinds ops l) (kinds ops r) link
      → Alike link.by (docs_of w) (row_node (binding w ops l x ++ binding w ops r d) link.left) (row_node (binding w ops l x ++ binding w ops r d) link.right)
      → Alike link.by (docs_of w) (row_node (binding w ops l x) link.left) (row_node (binding w ops r d) link.right)
  sides_alike d link fits h =
      let z = pair_nodes d link fits in
      subst (λ (m : Node). Alike link.by (docs_of w) m (row_node (binding w ops r d) link.right)) z.0
      (subst (λ (m : Node). Alike link.by (docs_of w) (row_node (binding w ops l x ++ binding w ops r d) link.left) m) z.1 h)

  -- where two sides have one node, they have one spot
  same_spots : (d : Position) → IsOf w ops r d → IsTrue (has_row d) → (link : Link) → LinkFits (kinds ops l) (kinds ops r) link
      → row_node (binding w ops l x) link.left ≡ row_node (binding w ops r d) link.right → spot_in ops r d link.right ≡ spot_in ops l x link.left
  same_spots d of at link fits h =
      let s = spot_is ops typed w l smaller.0 (shape_at ops l) refl x here row link.left fits.left_is in
      let t = spot_is ops typed w r smaller.1 (shape_at ops r) refl d of at link.right fits.right_is in
      t.is ∙ sym (one_spot_of w s.source t.source s.spot t.spot s.known t.known (sym (ap source_node s.value) ∙ h ∙ ap source_node t.value)) ∙ sym s.is

  -- where two sides are alike, what they are looked up by alone is the same
  same_label : (d : Position) → IsOf w ops r d → IsTrue (has_row d) → (link : Link) → LinkFits (kinds ops l) (kinds ops r) link → (by : LinkKind)
      → Alike by (docs_of w) (row_node (binding w ops l x) link.left) (row_node (binding w ops r d) link.right) → link_label w ops r by link.right d ≡ link_label w ops l by link.left x
  same_label d of at link fits by_label h = sym h
  same_label d of at link fits by_node h = ap spot_text (same_spots d of at link fits h)

  -- where two sides are alike, a hasher is fed the same of them
  same_fed : (d : Position) → IsOf w ops r d → IsTrue (has_row d) → (link : Link) → LinkFits (kinds ops l) (kinds ops r) link → (by : LinkKind)
      → Alike by (docs_of w) (row_node (binding w ops l x) link.left) (row_node (binding w ops r d) link.right) → link_fed w ops r by link.right d ≡ link_fed w ops l by link.left x
  same_fed d of at link fits by_label h = ap (fed.slice fed.u8) (sym h)
  same_fed d of at link fits by_node h = ap spot_fed (same_spots d of at link fits h)

  -- a pair that meets a comparison is alike by the link of that comparison
  abbrev AlikeBy : Position → Link → Type 0
  AlikeBy d link = Alike link.by (docs_of w) (row_node (binding w ops l x ++ binding w ops r d) link.left) (row_node (binding w ops l x ++ binding w ops r d) link.right)

  -- where a pair is alike by all links, a hasher is fed the same of its two sides
  all_fed : (d : Position) → IsOf w ops r d → IsTrue (has_row d) → (links : List Link) → AllByRecursion (LinkFits (kinds ops l) (kinds ops r)) links → AllByRecursion (AlikeBy d) links
      → links_fed w ops r on_right links d ≡ links_fed w ops l on_left links x
  all_fed d of at [] fits alike = refl
  all_fed d of at (link ∷ links) fits alike =
      ap (λ (z : fed.HashWrites). z ++ links_fed w ops r on_right links d) (same_fed d of at link fits.0 link.by (sides_alike d link fits.0 alike.0))
      ∙ ap (λ (z : fed.HashWrites). link_fed w ops l link.by link.left x ++ z) (all_fed d of at links fits.1 alike.1)

  -- where a pair is alike by all links, its two sides are looked up by the same
  same_key : (d : Position) → IsOf w ops r d → IsTrue (has_row d) → (links : List Link) → AllByRecursion (LinkFits (kinds ops l) (kinds ops r)) links → AllByRecursion (AlikeBy d) links
      → member_label w ops r links d ≡ sought_label w ops l links x
  same_key d of at [] fits alike = refl
  same_key d of at (link ∷ []) fits alike = same_label d of at link fits.0 link.by (sides_alike d link fits.0 alike.0)
  same_key d of at (link ∷ other ∷ links) fits alike = ap hash_text (all_fed d of at (link ∷ other ∷ links) fits alike)

  -- a member of another label is let through nowhere
  other_fails : (d : Position) → IsOf w ops r d → IsTrue (has_row d) → (member_label w ops r (links_at ops n) d ≡ sought_label w ops l (links_at ops n) x → ⊥) → lets w ops l r tests x d ≡ false
  other_fails d of at other = not_true (lets w ops l r tests x d) (λ holds. other (same_key d of at (links_at ops n) fits_all (alike holds)))
    where
      alike : lets w ops l r tests x d ≡ true → AllByRecursion (AlikeBy d) (links_at ops n)
      alike holds = subst (AllByRecursion (AlikeBy d)) (sym linked) (tests_say (kinds ops l) (docs_of w) (binding w ops l x ++ binding w ops r d) tests holds)

  -- a member that was found by its label is let through, where nothing else is compared
  pub found_lets : (p : ℕ) → p < length ms → (length tests ≡ 1) × (is_by_label (links_at ops n) ≡ true) → IsTrue (is_told w ops)
      → HasSought ms (sought_label w ops l (links_at ops n) x) (links_at ops n) p → lets w ops l r tests x (passed ms (suc p)) ≡ true
  found_lets p less alone t has = by_case (links_at ops n) refl fits_all alone.1 (sym ((member_at members p less).label_is t) ∙ has (label_some (links_at ops n) alone.1))
    where
      same : (by : LinkKind) (link : Link) → is_some (if_label by link) ≡ true → link_label w ops r by link.right (passed ms (suc p)) ≡ link_label w ops l by link.left x
          → Agree by (docs_of w) (row_node (binding w ops l x) link.left) (row_node (binding w ops r (passed ms (suc p))) link.right) true
      same by_label link is f = labels_agree (docs_of w) _ _ f
      same by_node link is f = cc

      by_case : (by : List Link) → links_at ops n ≡ by → AllByRecursion (LinkFits (kinds ops l) (kinds ops r)) by → is_by_label by ≡ true
          → member_label w ops r by (passed ms (suc p)) ≡ sought_label w ops l by x → lets w ops l r tests x (passed ms (suc p)) ≡ true
      by_case [] e fits some f = cc
      by_case (link ∷ []) e fits some f =
          test_holds (kinds ops l) link (docs_of w) (binding w ops l x ++ binding w ops r (passed ms (suc p)))
          (pair_agrees (passed ms (suc p)) link true fits.0 (same link.by link some f)) tests alone.0 (sym linked ∙ e)
      by_case (link ∷ other ∷ links) e fits some f = cc

  -- a member without the label that is looked up is passed
  pass_one : IsTrue (is_told w ops) → (k : ℕ) → k < length ms → (get_or (labels_of ms) k [] ≡ sought_label w ops l (links_at ops n) x → ⊥)
      → (found (beside_events w ops l r tests x (passed ms k)) ≡ found (beside_events w ops l r tests x (passed ms (suc k))))
      × (cost (beside_events w ops l r tests x (passed ms (suc k))) ≤ cost (beside_events w ops l r tests x (passed ms k)))
  pass_one t k less other =
      let m = member_at members k less in
      let fails = other_fails (passed ms (suc k)) m.cursor m.row (λ f. other (m.label_is t ∙ f)) in
      let f = found-pairs_no (docs_of w) tests (ahead w ops r (passed ms k)) (binding w ops l x) (binding w ops r (passed ms (suc k))) (ahead w ops r (passed ms (suc k))) (m.found t) fails in
      let c = cost-pairs_no (docs_of w) tests (ahead w ops r (passed ms k)) (binding w ops l x) (binding w ops r (passed ms (suc k))) (ahead w ops r (passed ms (suc k))) (m.found t) fails in
      let prefix : RowEvents = pairs (docs_of w) tests (ahead w ops r (passed ms k)) (binding w ops l x) in
      let later : RowEvents = pairs (docs_of w) tests (ahead w ops r (passed ms (suc k))) (binding w ops l x) in (
        found-append_both prefix later (left_events w ops l r tests x) f,
        omega (arith, cost-append_both prefix later (left_events w ops l r tests x) (cost (ahead w ops r (passed ms k))) f c),
      )

  -- members without the label that is looked up are passed, one after another
  pass_many : IsTrue (is_told w ops) → (c k p : ℕ) → k + c ≡ p → p ≤ length ms → NoneBetween ms (sought_label w ops l (links_at ops n) x) k p
      → (found (beside_events w ops l r tests x (passed ms k)) ≡ found (beside_events w ops l r tests x (passed ms p)))
      × (cost (beside_events w ops l r tests x (passed ms p)) ≤ cost (beside_events w ops l r tests x (passed ms k)))
  pass_many t zero k p e low other = (ap (λ (z : ℕ). found (beside_events w ops l r tests x (passed ms z))) (omega (arith, e)), omega (arith, ap (λ (z : ℕ). cost (beside_events w ops l r tests x (passed ms z))) (let f : k ≡ p = omega (arith, e) in f)))
  pass_many t (suc c) k p e low other =
      let first = pass_one t k (omega (arith, e, low)) (λ f. other k (omega arith) (omega (arith, e)) f) in
      let rest = pass_many t c (suc k) p (omega (arith, e)) low (λ j u v f. other j (omega (arith, u)) v f) in
      (first.0 ∙ rest.0, omega (arith, first.1, rest.1))

  -- where none before a place has the label that is looked up, a step goes on from there
  pub pass_known : (k p : ℕ) → k ≤ p → p ≤ length ms → (IsTrue (is_told w ops) → NoneBetween ms (sought_label w ops l (links_at ops n) x) k p)
      → Goes w w ops n (beside_events w ops l r tests x (passed ms k)) (beside_events w ops l r tests x (passed ms p)) (beside_number w ops l r x k) (beside_number w ops l r x p)
  pass_known k p le low other = record {
    kept = keeps_same w ops bench;
    above = λ j z. (refl, refl, refl);
    comes = record {
      tells = tells_on (keeps_same w ops bench) ops;
      falls = omega (arith, le);
      found = λ t. (pass_many t (p - k) k p (omega (arith, le)) low (other t)).0;
      lazy = λ t f. (let z = (pass_many t (p - k) k p (omega (arith, le)) low (other t)).1 in omega (arith, z));
    };
    none = λ s. refl;
  }

  -- the pair of the left position with the member at a place
  pub pair_in : (q q' : _) (p : ℕ) → p < length ms → IsIn w ops n (pairs_up l r tests) (Pair' q x q' (passed ms (suc p)) (suc p)) × IsTrue (has_row (passed ms (suc p)))
  pair_in q q' p less = (let m = member_at members p less in ((here, row, m.cursor, omega (arith, less), refl), m.row))

  -- the pair with the member at a place is a position of the join
  pub pair_is : (p : ℕ) → p < length ms → (z : Position) → IsPairAt ms x p z → IsOf w ops n z × IsTrue (has_row z)
  pair_is p less z at =
      let h = pair_in at.0 at.1 p less in
      subst (λ (c : Position). IsOf w ops n c × IsTrue (has_row c)) (sym at.2) (subst (λ (f : Shape). IsIn w ops n f (Pair' at.0 x at.1 (passed ms (suc p)) (suc p))) (sym is) h.0, h.1)

  -- whether the pair with the member at a place meets all comparisons
  pair_lets : (p : ℕ) (z : Position) → IsPairAt ms x p z → passes_all (docs_of w) tests (binding w ops n z) ≡ lets w ops l r tests x (passed ms (suc p))
  pair_lets p z at =
      ap (λ (c : Position). passes_all (docs_of w) tests (binding w ops n c)) at.2
      ∙ ap (λ (f : Shape). passes_all (docs_of w) tests (stands w ops n f (Pair' at.0 x at.1 (passed ms (suc p)) (suc p))).row) is

  -- the pair with a member at its place is a position of the join, and its comparisons hold of it exactly where they do of the pair
  pub pair_stands : (p : ℕ) → p < length ms → (z : Position) → IsPairAt ms x p z → IsOf w ops n z × (passes_all (docs_of w) tests (binding w ops n z) ≡ lets w ops l r tests x (passed ms (suc p)))
  pair_stands p less z at = ((pair_is p less z at).0, pair_lets p z at)

  -- the event at the pair with the next member is the one to which a step comes
  pub known_steps : (k p : ℕ) → (k ≤ p) × (p < length ms) → (IsTrue (is_told w ops) → NoneBetween ms (sought_label w ops l (links_at ops n) x) k p)
      → (res : Result Step WalkFault) → IfOk res (IsMemberStep w ops l r tests ms x p)
      → IfOk res (Steps w w ops n (pairs_up l r tests) (beside_events w ops l r tests x (passed ms k)) (beside_number w ops l r x k))
  known_steps k p at other res h =
      let m = member_at members p at.1 in
      goes_result w (pass_known k p at.0 (omega (arith, at.1)) other) (pairs_up l r tests) res
      (IfOk-weaker res _ _ (λ s g. member_steps ops n l r tests typed within is w w bench x (passed ms p) here row (asks_nothing w ops n (keeps_same w ops bench) (ahead w ops r (passed ms p))) (passed ms (suc p)) p m.cursor m.row m.found
      (let few = m.few in omega (arith, few)) (omega (arith, at.1)) refl s g) h)

  -- where no member from one place on has the label, a step goes on after all of them
  pub pass_all : (k : ℕ) → k ≤ length ms → (IsTrue (is_told w ops) → NoneBetween ms (sought_label w ops l (links_at ops n) x) k (length ms))
      → Goes w w ops n (beside_events w ops l r tests x (passed ms k)) (beside_events w ops l r tests x (last_at w n)) (beside_number w ops l r x k) (beside_number w ops l r x (length ms))
  pass_all k le other =
      subst (λ (z : Position). Goes w w ops n (beside_events w ops l r tests x (passed ms k)) (beside_events w ops l r tests x z) (beside_number w ops l r x k) (beside_number w ops l r x (length ms)))
      (ap (last_of Start) (take_all ms (length ms) refl)) (pass_known k (length ms) le (omega arith) other)

  -- where the memo has ended, the left side goes on
  pub ended_goes : (memo_at w n).ended ≡ true
      → Goes w w ops n (beside_events w ops l r tests x (last_at w n)) (left_events w ops l r tests x) (beside_number w ops l r x (length ms)) (left_number w ops l r x)
  ended_goes e =
      right_over ops n l r tests typed within is w w bench x (last_at w n) here row (asks_nothing w ops n (keeps_same w ops bench) (ahead w ops r (last_at w n))) (length ms) (λ t. members.all e t)

  -- a member of the right side that came by a call
  module _ (b : World) (k : Asks w b ops n (ahead w ops r (last_at w n))) (g : IsGrown w b ops n r true) where
    pub grown_few : suc (length ms) ≤ size w ops r
    grown_few = (let few = members_few members in let less = g.2.falls in omega (arith, few, less))

    now : (memo_at b n).pairs ≡ ms ++ g.0 ∷ []
    now = ap (λ (m : Kept (Rc Position Global)). m.pairs) g.1

    pub grown_length : length (memo_at b n).pairs ≡ suc (length ms)
    grown_length = (let e = ap length now in let c = length-append ms (g.0 ∷ []) in omega (arith, e, c))

    -- a member that a call brought stands after the others of its memo
    there : passed (memo_at b n).pairs (suc (length ms)) ≡ g.0.1.value
    there = ap (λ (xs : List Member). passed xs (suc (length ms))) now ∙ take_more Start ms g.0 (length ms) refl

    last_there : passed (memo_at b n).pairs (suc (length ms)) ≡ last_at b n
    last_there = ap (last_of Start) (take_all (memo_at b n).pairs (suc (length ms)) (sym grown_length))

    -- the event at the pair with a member that a call brought is the one to which a step comes
    pub grown_steps : (s : Step) → IsMemberStep b ops l r tests (memo_at b n).pairs x (length ms) s
        → Steps w b ops n (pairs_up l r tests) (beside_events w ops l r tests x (last_at w n)) (beside_number w ops l r x (length ms)) s
    grown_steps s h =
        let f = g.2 in
        member_steps ops n l r tests typed within is w b bench x (last_at w n) here row k g.0.1.value (length ms) f.cursor f.row f.found grown_few (omega (arith, grown_length)) there s h

    -- the events after the pair with a member that a call brought, where a comparison doesn't hold
    pub grown_past : (IsTrue (is_told b ops) → lets b ops l r tests x (passed (memo_at b n).pairs (suc (length ms))) ≡ false)
        → Goes w b ops n (beside_events w ops l r tests x (last_at w n)) (beside_events b ops l r tests x (last_at b n)) (beside_number w ops l r x (length ms))
        (beside_number b ops l r x (length (memo_at b n).pairs))
    grown_past h =
        let f = g.2 in
        subst (λ (z : Position). Goes w b ops n (beside_events w ops l r tests x (last_at w n)) (beside_events b ops l r tests x z) (beside_number w ops l r x (length ms))
        (beside_number b ops l r x (length (memo_at b n).pairs))) (sym there ∙ last_there)
        (subst (λ (z : ℕ). Goes w b ops n (beside_events w ops l r tests x (last_at w n)) (beside_events b ops l r tests x g.0.1.value) (beside_number w ops l r x (length ms))
        (beside_number b ops l r x z)) (sym grown_length)
        (right_past ops n l r tests typed within is w b bench x (last_at w n) here row k g.0.1.value (length ms) f.cursor f.row f.found grown_few (omega (arith, grown_length)) there
        (λ t. ap (lets b ops l r tests x) (sym there) ∙ h t)))

-- a call that brought one more member beside a left position, after k of them
module _ {S : Type 0} {view : S → View} {came_from : S → S → Type 0} {s t : S} {g h : Growing} {p : Fixed} {x : Position} (l r n : ℕ) (tests : List Test) (can : CanStep (view s) g p l x)
    (row : IsTrue (has_row x)) (within : n < length (operators p)) (is : shape_at (operators p) n ≡ pairs_up l r tests)
    (ran : Ran view came_from (operators p) n (ahead (world_of (view s) g) (operators p) r (last_at (world_of (view s) g) n)) s g t h)
    (grown : IsGrown (world_of (view s) g) (world_of (view t) h) (operators p) n r true) (k : ℕ) (after : k ≡ length (memo_at (world_of (view s) g) n).pairs) where
  abbrev a : World
  a = world_of (view s) g

  abbrev b : World
  b = world_of (view t) h

  one_more : length (memo_at b n).pairs ≡ suc k
  one_more = omega (arith, grown_length (operators p) n l r tests can.fixed.typed within is a can.bench x can.cursor row b ran.asks grown, after)

  -- the member that was found is the only one that a look-up may find
  only : (j : ℕ) → (k ≤ j) × (j < length (memo_at b n).pairs) → j ≡ length (memo_at a n).pairs
  only j there = omega (arith, there.0, there.1, one_more, after)

  -- where a member that a call brought isn't looked up, the events after it are ahead
  pub more_goes : (res : Option ℕ) → ((j : ℕ) → res ≡ Some j → ⊥)
      → (IsTrue (is_told b (operators p)) → IsNextPlace (memo_at b n).pairs (sought_label b (operators p) l (links_at (operators p) n) x) k res)
      → Goes a b (operators p) n (beside_events a (operators p) l r tests x (last_at a n)) (beside_events b (operators p) l r tests x (last_at b n))
      (beside_number a (operators p) l r x (length (memo_at a n).pairs)) (beside_number b (operators p) l r x (length (memo_at b n).pairs))
  more_goes res never next =
      grown_past (operators p) n l r tests can.fixed.typed within is a can.bench x can.cursor row b ran.asks grown
      (λ u. subst (λ (i : ℕ). lets b (operators p) l r tests x (passed (memo_at b n).pairs (suc i)) ≡ false) after (fails u))
    where
      less : k < length (memo_at b n).pairs
      less = omega (arith, one_more)

      none : IsTrue (is_told b (operators p)) → NoneBetween (memo_at b n).pairs (sought_label b (operators p) l (links_at (operators p) n) x) k (length (memo_at b n).pairs)
      none u = none_next (memo_at b n).pairs (sought_label b (operators p) l (links_at (operators p) n) x) k res never (next u)

      fails : IsTrue (is_told b (operators p)) → lets b (operators p) l r tests x (passed (memo_at b n).pairs (suc k)) ≡ false
      fails u =
          let m = member_at (ran.bench.members n l r tests is) k less in
          other_fails (operators p) n l r tests can.fixed.typed within is b ran.bench x (can_then can (view t) h ran.bench ran.asks.kept).cursor row (passed (memo_at b n).pairs (suc k)) m.cursor m.row
          (λ e. none u k (omega arith) less (m.label_is u ∙ e))

  -- after one more member, fewer members may come
  pub more_falls : size b (operators p) r - length (memo_at b n).pairs < size a (operators p) r - length (memo_at a n).pairs
  more_falls =
      let same = size_kept a b ran.asks.kept (operators p) can.bench r in
      let few = grown_few (operators p) n l r tests can.fixed.typed within is a can.bench x can.cursor row b ran.asks grown in
      omega (arith, same, few, one_more, after)

  -- the event at the pair with a member that was looked up is the one to which a step comes
  pub more_steps : (j : ℕ) → (k ≤ j) × (j < length (memo_at b n).pairs) → (res : Result Step WalkFault) → IfOk res (IsMemberStep b (operators p) l r tests (memo_at b n).pairs x j)
      → IfOk res (Steps a b (operators p) n (pairs_up l r tests) (beside_events a (operators p) l r tests x (last_at a n)) (beside_number a (operators p) l r x (length (memo_at a n).pairs)))
  more_steps j there res h = IfOk-weaker res _ _ (λ z m. grown_steps (operators p) n l r tests can.fixed.typed within is a can.bench x can.cursor row b ran.asks grown z
      (subst (λ (i : ℕ). IsMemberStep b (operators p) l r tests (memo_at b n).pairs x i z) (only j there) m)) h

module _ {v : View} {g : Growing} {p : Fixed} {n : ℕ} {c : Position} (can : CanStep v g p n c) (l r : ℕ) (tests : List Test) (is : shape_at (operators p) n ≡ pairs_up l r tests) where
  module _ (q q' : _) (x y : Position) (k : ℕ) (e : c ≡ Pair' q x q' y k) where
    -- a position that is a pair is one in the shape of the join
    pub in_pair : IsIn (world_of v g) (operators p) n (pairs_up l r tests) (Pair' q x q' y k)
    in_pair = in_place can (pairs_up l r tests) is (Pair' q x q' y k) e

    -- a step to the next member that is known
    pub at_known : (j : ℕ) → (k ≤ j) × (j < length (memo_at (world_of v g) n).pairs)
        → (IsTrue (is_told (world_of v g) (operators p))
        → NoneBetween (memo_at (world_of v g) n).pairs (sought_label (world_of v g) (operators p) l (links_at (operators p) n) x) k j)
        → (res : Result Step WalkFault) → IfOk res (IsMemberStep (world_of v g) (operators p) l r tests (memo_at (world_of v g) n).pairs x j)
        → IfOk res (Steps (world_of v g) (world_of v g) (operators p) n (pairs_up l r tests) (stands (world_of v g) (operators p) n (pairs_up l r tests) (Pair' q x q' y k)).ahead
        (weighs (world_of v g) (operators p) n (pairs_up l r tests) (Pair' q x q' y k)))
    at_known j there none res h =
        subst (λ (z : Position). IfOk res (Steps (world_of v g) (world_of v g) (operators p) n (pairs_up l r tests) (beside_events (world_of v g) (operators p) l r tests x z)
        (beside_number (world_of v g) (operators p) l r x k))) in_pair.4
        (known_steps (operators p) n l r tests can.fixed.typed can.op is (world_of v g) can.bench x in_pair.0 in_pair.1 k j there none res h)

    -- where none is known, a step goes on after all members
    pub at_none : (IsTrue (is_told (world_of v g) (operators p))
        → NoneBetween (memo_at (world_of v g) n).pairs (sought_label (world_of v g) (operators p) l (links_at (operators p) n) x) k (length (memo_at (world_of v g) n).pairs))
        → Goes (world_of v g) (world_of v g) (operators p) n (stands (world_of v g) (operators p) n (pairs_up l r tests) (Pair' q x q' y k)).ahead
        (beside_events (world_of v g) (operators p) l r tests x (last_at (world_of v g) n)) (weighs (world_of v g) (operators p) n (pairs_up l r tests) (Pair' q x q' y k))
        (beside_number (world_of v g) (operators p) l r x (length (memo_at (world_of v g) n).pairs))
    at_none none =
        subst (λ (z : Position). Goes (world_of v g) (world_of v g) (operators p) n (beside_events (world_of v g) (operators p) l r tests x z)
        (beside_events (world_of v g) (operators p) l r tests x (last_at (world_of v g) n)) (beside_number (world_of v g) (operators p) l r x k)
        (beside_number (world_of v g) (operators p) l r x (length (memo_at (world_of v g) n).pairs))) in_pair.4
        (pass_all (operators p) n l r tests can.fixed.typed can.op is (world_of v g) can.bench x in_pair.0 in_pair.1 k in_pair.3 none)

-- a position of a join that is not the first was made as a pair
pub pair_made : {q q' : _} (ms : List Member) (x y z : Position) (p k : ℕ) → z ≡ Pair' q x q' y k → y ≡ passed ms (suc p) → k ≡ suc p → IsPairAt ms x p z
pair_made {q} {q'} ms x y z p k made is one = (q, q', made ∙ ap (λ (c : Position). Pair' q x q' c k) is ∙ ap (Pair' q x q' (passed ms (suc p))) one)
