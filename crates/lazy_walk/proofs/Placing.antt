-- Identifiers and the places of the plan's document.
use Rattle.std.proofs.Common.{◌≡◌, ℕ, zero, suc, ◌+◌, true, false, List, [], ◌∷◌, Option, Some, None, refl, ◌∙◌, sym, ap, subst, add-one, arith}
use Rattle.std.specs.Prelude.{IsTrue, is_some, option_map}
use Rattle.std.specs.List.{last_or}
use Rattle.mix_tree.specs.Forest.{Forest, tree, LabelledTree, alone, first_tree, first_label, first_kids, from}
use Rattle.mix_tree.specs.Place.{trees_at, has_place, tree_at, child_place, next_place}
use Rattle.mix_tree.specs.Nodes.{Documents}
use Rattle.plan_core.specs.declared.plan.Plan.{Plan}
use Rattle.plan_core.specs.PlanMade.{plan_value}
use Rattle.plan_core.specs.Plans.{Operator, source, get_descendants, join, over, tuple_destroy, document}
use Rattle.plan_core.specs.Tolled.{Tolled, ends, item, toll, is_item, item_label, trees_below, trees_after, paid, plain, trees_from, tolled_at}
use Rattle.plan_core.specs.TolledRows.{TolledValue, of_source, element, trees}
use Rattle.plan_core.specs.Events.{RowEvents, events, visited, element_alone, tolled_destroyed, tolled_document}
use Rattle.lazy_plan.specs.Bench.{BenchState, ops_of, documents, told, KeepsBench, AsksAtMost}
use Rattle.lazy_walk.specs.Above.{rests_above, top_above, IsLedTo}
use Rattle.lazy_site.specs.Ids.{here}
use Rattle.lazy_site.specs.Steps.{StandsFor, Reaches}
use Rattle.lazy_walk.specs.Places.{plan_document, down_toll, right_toll, HasPlace, HasNoPlace, IsLabelAt, IsNode, IsAt, IsThere}
use Rattle.lazy_walk.specs.Walks.{NodesStay}
use Rattle.lazy_walk.specs.declared.ids.WalkedNode.{WalkedNode}
use Rattle.lazy_site.specs.declared.sites.Site.TheVariants.{Root}
use Rattle.lazy_walk.proofs.AboveKept.{led-kept, rests-kept, HasTop-kept}
use Rattle.lazy_site.proofs.Indexes.{below_paid, after_paid}
use Rattle.lazy_site.proofs.Keep.{keeps_sites}

-- LISTS OF TREES BY PLACES

-- there is a first tree when it is reached exactly where there was
is_item_paid : (f : Tolled) → is_item (paid f) ≡ is_item f
is_item_paid (ends t) = refl
is_item_paid (item t x d r) = refl

-- the label of the first tree is the same when that is reached
label_paid : (f : Tolled) → item_label (paid f) ≡ item_label f
label_paid (ends t) = refl
label_paid (item t x d r) = refl

-- the trees at the place of a first child are those below the place
at_down : (f : Tolled) (p : List ℕ) → tolled_at f (child_place p) ≡ trees_below (tolled_at f p)
at_down f [] = refl
at_down f (k ∷ p) = at_down (trees_from k (trees_below f)) p

-- the trees from an index on among those after the first are those after the first from that index on
from_after : (k : ℕ) (f : Tolled) → trees_from k (trees_after f) ≡ trees_after (trees_from k f)
from_after zero f = refl
from_after (suc k) f = from_after k (trees_after f)

-- the trees at the next place of a place are those after the first at the place
at_right : (f : Tolled) (p q : List ℕ) → next_place p ≡ Some q → tolled_at f q ≡ trees_after (tolled_at f p)
at_right f [] q e = cc
at_right f (i ∷ []) q e =
    let d : q ≡ suc i ∷ [] = rw add-one at (let z : q ≡ (i + 1) ∷ [] = cc in z) in
    rw d (from_after i (trees_below f))
at_right f (i ∷ j ∷ p) q e = deeper (next_place (j ∷ p)) (λ r z. at_right (trees_from i (trees_below f)) (j ∷ p) r z) refl e
  where
    deeper : (o : Option (List ℕ)) → ((r : List ℕ) → next_place (j ∷ p) ≡ Some r → tolled_at (trees_from i (trees_below f)) r ≡ trees_after (tolled_at f (i ∷ j ∷ p)))
        → next_place (j ∷ p) ≡ o → option_map (λ r. i ∷ r) o ≡ Some q → tolled_at f q ≡ trees_after (tolled_at f (i ∷ j ∷ p))
    deeper None h z d = cc
    deeper (Some r) h z d = let y : q ≡ i ∷ r = cc in rw y (h r z)

-- a place that isn't the root's has a next one
never_none : (c : ℕ) (r : List ℕ) → next_place (c ∷ r) ≡ None → ⊥
never_none c [] e = absurd cc
never_none c (d ∷ r) e = elim (next_place (d ∷ r)) as (λ o. next_place (d ∷ r) ≡ o → option_map (λ s. c ∷ s) o ≡ None → ⊥) [ None ↦ λ u v. never_none d r u | Some s ↦ λ u v. cc ] refl e

-- a place that has no next one, in a tree with nothing after it, has no tree after it
alone_place : (r : List ℕ) → next_place r ≡ None → (f : Tolled) → trees_after f ≡ ends 0 → is_item (trees_after (tolled_at f r)) ≡ true → ⊥
alone_place [] e f g j = let c : false ≡ true = ap is_item (sym g) ∙ j in cc
alone_place (c ∷ r) e f g j = never_none c r e

-- WITHOUT TOLLS

-- the trees from an index on without their tolls are those from it on of the trees without theirs
plain_from : (k : ℕ) (f : Tolled) → plain (trees_from k f) ≡ from k (plain f)
plain_from zero f = refl
plain_from (suc k) (ends t) = plain_from k (ends 0)
plain_from (suc k) (item t x d r) = plain_from k r

-- the trees below the first without their tolls are those below the first of the trees without theirs
pub plain_below : (f : Tolled) → plain (trees_below f) ≡ first_kids (plain f)
plain_below (ends t) = refl
plain_below (item t x d r) = refl

-- the trees without their tolls don't change when the first is reached
plain_paid : (f : Tolled) → plain (paid f) ≡ plain f
plain_paid (ends t) = refl
plain_paid (item t x d r) = refl

-- the trees at a place without their tolls are those at it of the trees without theirs
pub plain_at : (f : Tolled) (p : List ℕ) → plain (tolled_at f p) ≡ trees_at (plain f) p
plain_at f [] = refl
plain_at f (k ∷ p) = plain_at (trees_from k (trees_below f)) p ∙ ap (λ (g : Forest). trees_at g p) (plain_from k (trees_below f) ∙ ap (from k) (plain_below f))

-- there is a tree with tolls where there is a tree without
pub plain_some : (f : Tolled) → is_some (first_label (plain f)) ≡ is_item f
plain_some (ends t) = refl
plain_some (item t x d r) = refl

-- the label of the first tree with tolls is that of the tree without
plain_label : (f : Tolled) → is_item f ≡ true → (u : LabelledTree) × (first_tree (plain f) ≡ Some u) × (item_label f ≡ u.label)
plain_label (ends t) h = cc
plain_label (item t x d r) h = (record { label = x; kids = plain d }, refl, refl)

-- a tree with nothing after it is, without tolls, its first tree alone
plain_alone : (f : Tolled) → trees_after f ≡ ends 0 → (t : LabelledTree) → first_tree (plain f) ≡ Some t → plain f ≡ alone t
plain_alone (ends u) b t e = cc
plain_alone (item u x d r) b t e =
    let i : record { label = x; kids = plain d } ≡ t = cc in
    subst (λ (s : LabelledTree). plain (item u x d r) ≡ alone s) i (ap (λ (g : Tolled). tree x (plain d) (plain g)) b)

-- THE DOCUMENT

-- nothing comes after a made element as a list of it alone
alone_value : (v : TolledValue) → trees_after (element_alone v) ≡ ends 0
alone_value (of_source n) = refl
alone_value (element x k) = refl
alone_value (trees f) = refl

-- nothing comes after the document that the last operator makes
alone_last : (of : ℕ → RowEvents) (o : Option Operator) → trees_after (tolled_destroyed of o) ≡ ends 0
alone_last of None = refl
alone_last of (Some (source s out)) = refl
alone_last of (Some (get_descendants i start path out)) = refl
alone_last of (Some (join l r tests)) = refl
alone_last of (Some (over i op)) = refl
alone_last of (Some (tuple_destroy i v)) = alone_value _

-- a made element as a list of it alone is reached as it is
paid_value : (v : TolledValue) → paid (element_alone v) ≡ element_alone v
paid_value (of_source n) = refl
paid_value (element x k) = refl
paid_value (trees f) = refl

-- the document that the last operator makes is reached as it is
paid_last : (of : ℕ → RowEvents) (o : Option Operator) → paid (tolled_destroyed of o) ≡ tolled_destroyed of o
paid_last of None = refl
paid_last of (Some (source s out)) = refl
paid_last of (Some (get_descendants i start path out)) = refl
paid_last of (Some (join l r tests)) = refl
paid_last of (Some (over i op)) = refl
paid_last of (Some (tuple_destroy i v)) = paid_value _

-- the document with its tolls
abbrev tolled : BenchState → Tolled
tolled st = tolled_document (documents st) (ops_of st)

-- the document is that one without its tolls
abbrev pub IsTolled : BenchState → Type 0
IsTolled st = plan_document st ≡ first_tree (plain (tolled st))

module _ (st : BenchState) (law : IsTolled st) (t : LabelledTree) (e : plan_document st ≡ Some t) where
  -- the document with its tolls is, without them, the plan's document alone
  document_is : plain (tolled st) ≡ alone t
  document_is = plain_alone (tolled st) (alone_last (events (documents st) (ops_of st)) (last_or None (ops_of st))) t
      (sym law ∙ e)

  -- a tree has a place exactly where the tree with tolls has one
  pub has_is : (p : List ℕ) → has_place (alone t) p ≡ is_item (tolled_at (tolled st) p)
  has_is p = ap (λ (f : Forest). is_some (first_label f)) (ap (λ (f : Forest). trees_at f p) (sym document_is) ∙ sym (plain_at (tolled st) p)) ∙ plain_some (tolled_at (tolled st) p)

  -- the label at a place of the tree with tolls is that of the document there
  label_is : (p : List ℕ) → is_item (tolled_at (tolled st) p) ≡ true → (u : LabelledTree) × (tree_at t p ≡ Some u) × (item_label (tolled_at (tolled st) p) ≡ u.label)
  label_is p h =
      let k = plain_label (tolled_at (tolled st) p) h in
      (k.0, ap (λ (f : Forest). first_tree f) (ap (λ (f : Forest). trees_at f p) (sym document_is) ∙ sym (plain_at (tolled st) p)) ∙ k.1, k.2)

-- IDENTIFIERS

-- the root stands at the empty place
pub root_at : (st : BenchState) → IsAt st (record { site = Root; above = None }) []
root_at st = record {
  node = record { site = tt; above = tt; top = refl };
  place = λ y t d. refl;
  here = λ y. sym (paid_last (events (documents st) (ops_of st)) (last_or None (ops_of st)));
  above = λ y. refl;
}

module _ (a b : BenchState) (k : KeepsBench a b) where
  -- the operators of the plan are the same after a call
  ops_same : ops_of b ≡ ops_of a
  ops_same = ap (λ (p : Plan). (plan_value p).ops) k.plan

  -- the plan's document is the same after a call
  document_same : plan_document b ≡ plan_document a
  document_same = ap (λ (d : Documents). document (visited d) (ops_of b)) k.documents ∙ ap (λ (ops : List Operator). document (visited (documents a)) ops) ops_same

  -- the document with its tolls is the same after a call
  tolled_same : tolled b ≡ tolled a
  tolled_same = ap (λ (d : Documents). tolled_document d (ops_of b)) k.documents ∙ ap (tolled_document (documents a)) ops_same

  -- the plan's document has the same places after a call
  has_same : (p : List ℕ) → HasPlace a p → HasPlace b p
  has_same p h t e = h t (sym document_same ∙ e)

  -- an identifier of the walk is one after a call
  node_same : (n : WalkedNode) → IsNode a n → IsNode b n
  node_same n h = record {
    site = (keeps_sites a b k n.site h.site).node;
    above = rests-kept a b k (rests_above n.above) h.above;
    top = HasTop-kept a b k n.site (top_above n.above) h.top;
  }

  -- an identifier that stands at a place stands there after a call
  at_same : (n : WalkedNode) (p : List ℕ) → IsAt a n p → IsAt b n p
  at_same n p h = record {
    node = node_same n h.node;
    place = λ y. has_same p (h.place (sym k.told ∙ y));
    here = λ y. (keeps_sites a b k n.site h.node.site).here ∙ h.here (sym k.told ∙ y) ∙ ap (λ (f : Tolled). paid (tolled_at f p)) (sym tolled_same);
    above = λ y. led-kept a b k n.site h.node.site (rests_above n.above) (top_above n.above) p (h.above (sym k.told ∙ y));
  }

  -- each earlier identifier stays one at its place after a call
  pub nodes_stay : NodesStay a b
  nodes_stay = record {
    node = node_same;
    place = at_same;
    left = λ n h. (keeps_sites a b k n.site h.site).left;
  }

module _ (st : BenchState) (law : IsTolled st) (n : WalkedNode) (p : List ℕ) (h : IsAt st n p) where
  -- the trees below an identifier are those below its place
  pub below_at : IsTrue (told st) → trees_below (here st n.site) ≡ tolled_at (tolled st) (child_place p)
  below_at y = ap trees_below (h.here y) ∙ below_paid (tolled_at (tolled st) p) ∙ sym (at_down (tolled st) p)

  -- the trees after an identifier are those after its place
  after_here : IsTrue (told st) → trees_after (here st n.site) ≡ trees_after (tolled_at (tolled st) p)
  after_here y = ap trees_after (h.here y) ∙ after_paid (tolled_at (tolled st) p)

  -- what is asked for the trees below is the toll of the place
  pub down_asks : (b : BenchState) → AsksAtMost st b (toll (trees_below (here st n.site))) → AsksAtMost st b (down_toll (documents st) (ops_of st) p)
  down_asks b k y w = let e = ap toll (ap trees_below (h.here y) ∙ below_paid (tolled_at (tolled st) p)) in let i = k y w in omega (arith, e, i)

  -- a step to the right asks no more than its toll at the place of the document
  pub right_asks : (b : BenchState) → AsksAtMost st b (toll (trees_after (here st n.site))) → AsksAtMost st b (right_toll (documents st) (ops_of st) p)
  right_asks b k y w = let e = ap toll (after_here y) in let i = k y w in omega (arith, e, i)

  -- the label of an identifier is that at its place
  pub label_there : IsTrue (told st) → (l : List ℕ) → (IsTrue (is_item (here st n.site)) → l ≡ item_label (here st n.site)) → IsLabelAt st p l
  label_there y l k t e =
      let i : is_item (tolled_at (tolled st) p) ≡ true = sym (has_is st law t e p) ∙ h.place y t e in
      let u = label_is st law t e p i in
      (u.0, u.1, k (ap is_item (h.here y) ∙ is_item_paid (tolled_at (tolled st) p) ∙ i) ∙ ap item_label (h.here y) ∙ label_paid (tolled_at (tolled st) p) ∙ u.2)

  -- the trees at which an identifier stands are, without their tolls, those at its place of the document
  pub trees_there : IsTrue (told st) → (t : LabelledTree) → plan_document st ≡ Some t → plain (here st n.site) ≡ trees_at (alone t) p
  trees_there y t e =
      ap plain (h.here y) ∙ plain_paid (tolled_at (tolled st) p) ∙ plain_at (tolled st) p ∙ ap (λ (f : Forest). trees_at f p) (document_is st law t e)

module _ (a b : BenchState) (k : KeepsBench a b) (law : IsTolled a) (f : Tolled) (q : List ℕ) (y : IsTrue (told a)) (e : f ≡ tolled_at (tolled a) q) where
  -- what is reached of the trees at a place stands there, where what is kept above it leads there
  reached_there : (n : WalkedNode) → StandsFor a b f n.site → IsNode b n → IsLedTo b n.site (rests_above n.above) (top_above n.above) q → IsThere a b (Some q) n
  reached_there n h node led =
      let has : HasPlace a q = λ t d. has_is a law t d q ∙ ap is_item (sym e) ∙ h.tree y in
      record {
        place = q;
        asked = refl;
        has = has;
        at = record {
          node = node;
          place = λ w. has_same a b k q has;
          here = λ w. h.here y ∙ ap paid e ∙ ap (λ (g : Tolled). paid (tolled_at g q)) (sym (tolled_same a b k));
          above = λ w. led;
        };
      }

  -- where no tree is reached, the document has no node at the place that is asked for
  reached_none : is_item f ≡ false → HasNoPlace a (Some q)
  reached_none h t d p z = let i : q ≡ p = cc in ap (has_place (alone t)) (sym i) ∙ has_is a law t d q ∙ ap is_item (sym e) ∙ h

module _ (a b : BenchState) (k : KeepsBench a b) (law : IsTolled a) (n : WalkedNode) (p : List ℕ) (h : IsAt a n p) where
  -- where an identifier has no first child, there is no place of one
  pub down_none : Reaches a b (trees_below (here a n.site)) None → IsTrue (told a) → HasNoPlace a (Some (child_place p))
  down_none i y = reached_none a b k law (trees_below (here a n.site)) (child_place p) y (below_at a law n p h y) (i y)

  -- a first child that was found stands at the place of the first child, where what is kept above it leads there
  pub down_some : (m : WalkedNode) → StandsFor a b (trees_below (here a n.site)) m.site → IsNode b m → IsLedTo b m.site (rests_above m.above) (top_above m.above) (child_place p) → IsTrue (told a)
      → IsThere a b (Some (child_place p)) m
  down_some m i node led y = reached_there a b k law (trees_below (here a n.site)) (child_place p) y (below_at a law n p h y) m i node led

  -- where an identifier has no next sibling, there is no next place
  pub right_none : Reaches a b (trees_after (here a n.site)) None → IsTrue (told a) → HasNoPlace a (next_place p)
  right_none i y t d q z = reached_none a b k law (trees_after (here a n.site)) q y (after_here a law n p h y ∙ sym (at_right (tolled a) p q z)) (i y) t d q refl

  -- a next sibling that was found stands at the next place, where what is kept above it leads there
  pub right_some : (m : WalkedNode) → StandsFor a b (trees_after (here a n.site)) m.site → IsNode b m
      → ((q : List ℕ) → next_place p ≡ Some q → IsLedTo b m.site (rests_above m.above) (top_above m.above) q) → IsTrue (told a) → IsThere a b (next_place p) m
  right_some m i node led y = goes (next_place p) refl
    where
      tree_there : is_item (trees_after (tolled_at (tolled a) p)) ≡ true
      tree_there = ap is_item (sym (after_here a law n p h y)) ∙ i.tree y

      goes : (o : Option (List ℕ)) → next_place p ≡ o → IsThere a b o m
      goes None u = absurd (alone_place p u (tolled a) (alone_last (events (documents a) (ops_of a)) (last_or None (ops_of a))) tree_there)
      goes (Some q) u = reached_there a b k law (trees_after (here a n.site)) q y (after_here a law n p h y ∙ sym (at_right (tolled a) p q u)) m i node (led q u)
