-- A buffer as a walker of its source's document.
use Rattle.std.proofs.Common.{◌≡◌, ◌∙◌, ◌+◌, ◌≤◌, ℕ, true, false, cond, List, [], ◌∷◌, Option, Some, None, Result, Ok, Err, refl, ap, sym, subst, arith}
use Rattle.std.specs.Prelude.{IfOk, IfErr, IfSome, is_some, option_map}
use Rattle.mix_tree.specs.Forest.{Forest, none, tree, LabelledTree, alone, first_kids, first_label, first_tree}
use Rattle.mix_tree.specs.Place.{has_place, trees_at, child_place, next_place}
use Rattle.mix_tree.proofs.Places.{trees_at_none}
use Rattle.lxp_core.specs.Causes as Causes
use Rattle.lxp_core.specs.View.{View, document}
use Rattle.lxp_core.specs.declared.fault.WalkFault.{WalkFault}
use Rattle.lxp_core.specs.declared.fault.WalkFault.TheVariants as walk
use Rattle.tree_buffer.specs.declared.buffer.Buffer.{Buffer}
use Rattle.tree_buffer.specs.declared.spot.Spot.{Spot}
use Rattle.tree_buffer.specs.Document.{document_node, has_given, has_next}
use Rattle.tree_buffer.specs.Buffer.{IsSpot, IsSourceOf, IsSourcesOf, Goes, number_of, place_of, label_of, below, after, from_spot, IsChildSpot, IsNextSpot}
use Rattle.mix_script.specs.Transcript.{move_answer}
use Rattle.mix_script.specs.declared.step.Way.TheVariants.{Down, Right}
use Rattle.mix_script.specs.declared.answer.Answer.TheVariants as answer
use Rattle.mix_session.specs.declared.walker.Found.{Found}
use Rattle.mix_session.specs.declared.walker.Found.TheVariants as found
use Rattle.mix_session.specs.Meaning.{Stays}
use Rattle.mix_session.specs.Seeking.{IsSmaller, IfNode, IsReached, HasCause, IsAsked, IsMoved, IsRoot, IsNext, ReadsLabel}
use Rattle.mix_session.specs.Refusals.{of_walk}
use Rattle.mix_session.specs.Walks.{IsPlace, source_meaning}
use Rattle.mix_session.proofs.Walking.{unless_fault}

-- what is said of what a buffer found, where it refused nothing
abbrev Lifts : (Found Spot → Type 0) → Result (Option Spot) WalkFault → Type 0
Lifts P (Ok None) = P found.None
Lifts P (Ok (Some x)) = P (found.Node x)
Lifts P (Err fault) = Unit {0}

-- what is said of what a buffer found, and of each fault that it named, is so of the search's answer
lifted : (P : Found Spot → Type 0) (o : Result (Option Spot) WalkFault) (r : Found Spot) → of_walk o r → Lifts P o → ((s : ℕ) → o ≡ Err (walk.Failed s) → P (found.Fault s)) → P r
lifted P (Ok None) r is h k = subst P (sym is) h
lifted P (Ok (Some x)) r is h k = subst P (sym is) h
lifted P (Err (walk.Failed s)) r is h k = subst P (sym is) (k s refl)
lifted P (Err walk.OutOfMemory) r is h k = absurd is

-- the document node above a tree, as a forest
abbrev above : LabelledTree → Forest
above t = tree [] (alone t) none

-- the document node of a document that is one tree
node_is : (v : View) (n : ℕ) (t : LabelledTree) → document v n ≡ alone t → document_node v n ≡ above t
node_is v n t e = ap (λ f. tree [] f none) e

-- an exact answer of a buffer is exact over a document that is one tree
exact_on : (o : Result (Option Spot) WalkFault) (P : Type 0) (x y : Option Spot → Type 0) → P → ((r : Option Spot) → x r → y r) → IfOk o (λ r. P → x r) → IfOk o y
exact_on (Ok r) P x y h f k = f r (k h)
exact_on (Err fault) P x y h f k = tt

-- what `down` found from a place of a tree is what the tree has as the first child there
moved_down : (t : LabelledTree) (b : Buffer) (x : Spot) (place : List ℕ) (o : Result (Option Spot) WalkFault) → place_of b x ≡ place
    → IfOk o (λ r. IfSome r (IsChildSpot b x 0)) → IfOk o (λ r. is_some r ≡ has_place (above t) (child_place place))
    → (goal : List ℕ) → child_place place ≡ 0 ∷ goal → Lifts (IsMoved (IsPlace b) t (Some goal)) o
moved_down t b x place (Ok None) at child exact goal e = ap (λ h. cond h answer.Node answer.None) (sym (exact ∙ ap (has_place (above t)) e))
moved_down t b x place (Ok (Some c)) at child exact goal e = (
  ap (λ h. cond h answer.Node answer.None) (sym (exact ∙ ap (has_place (above t)) e)),
  (goal, refl, (child.spot, child.place ∙ ap child_place at ∙ e)),
)
moved_down t b x place (Err fault) at child exact goal e = tt

-- whether a place of a tree has a next sibling, seen from the document node
next_above : (t : LabelledTree) (place : List ℕ) → has_next (above t) (0 ∷ place) ≡ has_given (alone t) (next_place place)
next_above t [] = ap (λ f. is_some (first_label f)) (trees_at_none [])
next_above t (i ∷ place) = given (next_place (i ∷ place))
  where
    given : (o : Option (List ℕ)) → has_given (above t) (option_map (λ q. 0 ∷ q) o) ≡ has_given (alone t) o
    given None = refl
    given (Some q) = refl

-- the next sibling's place, seen from the document node, where there is one on the tree
next_is : (place q : List ℕ) → Some q ≡ next_place (0 ∷ place) → (t : LabelledTree) → has_given (alone t) (next_place place) ≡ true
    → (goal : List ℕ) × (next_place place ≡ Some goal) × (q ≡ 0 ∷ goal)
next_is [] q e t h = cc
next_is (i ∷ place) q e t h = given (next_place (i ∷ place)) e h
  where
    tail_of : Option (List ℕ) → List ℕ
    tail_of None = q
    tail_of (Some r) = r

    given : (o : Option (List ℕ)) → Some q ≡ option_map (λ r. 0 ∷ r) o → has_given (alone t) o ≡ true → (goal : List ℕ) × (o ≡ Some goal) × (q ≡ 0 ∷ goal)
    given None k there = cc
    given (Some goal) k there = (goal, refl, ap tail_of k)

-- what `right` found from a place of a tree is what the tree has as the next sibling there
moved_right : (t : LabelledTree) (b : Buffer) (x : Spot) (place : List ℕ) (o : Result (Option Spot) WalkFault) → place_of b x ≡ 0 ∷ place
    → IfOk o (λ r. IfSome r (IsNextSpot b x)) → IfOk o (λ r. is_some r ≡ has_next (above t) (0 ∷ place)) → Lifts (IsMoved (IsPlace b) t (next_place place)) o
moved_right t b x place (Ok None) at next exact = nowhere (next_place place) (exact ∙ next_above t place)
  where
    nowhere : (o : Option (List ℕ)) → false ≡ has_given (alone t) o → move_answer t o ≡ answer.None
    nowhere None h = refl
    nowhere (Some q) h = ap (λ k. cond k answer.Node answer.None) (sym h)
moved_right t b x place (Ok (Some q)) at next exact =
    let there : has_given (alone t) (next_place place) ≡ true = sym (exact ∙ next_above t place) in
    let is = next_is place (place_of b q) (next.place ∙ ap next_place at) t there in
    let found : has_place (alone t) is.0 ≡ true = ap (has_given (alone t)) (sym is.1) ∙ there in (
      ap (move_answer t) is.1 ∙ ap (λ k. cond k answer.Node answer.None) found,
      (is.0, is.1, (next.spot, is.2)),
    )
moved_right t b x place (Err fault) at next exact = tt

-- what holds of each spot of a buffer holds of a child that was found
child_found : (P : Spot → Type 0) (b : Buffer) (x : Spot) (o : Result (Option Spot) WalkFault) → ((c : Spot) → IsSpot b c → P c) → IfOk o (λ r. IfSome r (IsChildSpot b x 0)) → Lifts (IfNode P) o
child_found P b x (Ok None) f h = tt
child_found P b x (Ok (Some c)) f h = f c h.spot
child_found P b x (Err fault) f h = tt

-- what holds of each spot of a buffer holds of a next sibling that was found
next_found : (P : Spot → Type 0) (b : Buffer) (x : Spot) (o : Result (Option Spot) WalkFault) → ((c : Spot) → IsSpot b c → P c) → IfOk o (λ r. IfSome r (IsNextSpot b x)) → Lifts (IfNode P) o
next_found P b x (Ok None) f h = tt
next_found P b x (Ok (Some c)) f h = f c h.spot
next_found P b x (Err fault) f h = tt

-- a search that a buffer answered has its cause, since it was not refused
found_cause : (MayFail : ℕ → Type 0) (before after : ℕ → ℕ) (o : Result (Option Spot) WalkFault) → Lifts (HasCause MayFail before after) o
found_cause MayFail before after (Ok None) = tt
found_cause MayFail before after (Ok (Some x)) = tt
found_cause MayFail before after (Err fault) = tt

module _ (v v' : View) (b b' : Buffer) (goes : Goes v b v' b') where
  -- what a call of a buffer leaves, a call of the walker leaves
  pub source_stays : IsSourcesOf v' b' → Stays (source_meaning v b) (source_meaning v' b')
  source_stays sources = record {
    ready = sources;
    course = record {
      roots = refl;
      may = λ s e. e ∙ goes.number;
      document = λ t one. (goes.told ∙ one.0, ap first_kids goes.document ∙ one.1);
      tolls = λ f. goes.forward ∙ f;
      trail = refl;
      at = refl;
      root_toll = omega arith;
      toll = λ way x. omega arith;
      tells = λ h. h;
      follows = λ h. h;
      names = λ node p h. h;
      named = λ node p h. h;
      reach = λ node. omega arith;
      charge = λ p. omega arith;
    };
    node = goes.spot;
    place = λ x p h. (goes.spot x h.0, goes.place x h.0 ∙ h.1);
    told = λ x node h. goes.spot x h;
    walked = λ x h. h;
    owes = λ x p h. omega arith;
    left = goes.after;
    height = λ x h. let b = goes.below x h in let a = goes.after x h in omega (arith, a, b);
  }

  -- the child that a buffer found has smaller numbers
  smaller_down : (x : Spot) (o : Result (Option Spot) WalkFault) → IfOk o (λ r. IfSome r (λ c. from_spot v' b' c ≤ below v b x))
      → Lifts (IfNode (IsSmaller (source_meaning v b) (source_meaning v' b') Down x)) o
  smaller_down x (Ok None) h = tt
  smaller_down x (Ok (Some c)) h = let less : 1 + below v' b' c + after v' b' c ≤ below v b x = h in omega (arith, less)
  smaller_down x (Err fault) h = tt

  -- the next sibling that a buffer found has smaller numbers
  smaller_right : (x : Spot) (o : Result (Option Spot) WalkFault) → IfOk o (λ r. IfSome r (λ c. from_spot v' b' c ≤ after v b x))
      → Lifts (IfNode (IsSmaller (source_meaning v b) (source_meaning v' b') Right x)) o
  smaller_right x (Ok None) h = tt
  smaller_right x (Ok (Some c)) h = let less : 1 + below v' b' c + after v' b' c ≤ after v b x = h in (λ walked. omega (arith, less), omega (arith, less))
  smaller_right x (Err fault) h = tt

  module _ (o : Result (Option Spot) WalkFault) (r : Found Spot) (is : of_walk o r) (refused : Causes.HasCause (IsSourceOf b) v v' o) where
    cause : HasCause (λ s. s ≡ number_of b) v.faults v'.faults r
    cause = lifted (HasCause (λ s. s ≡ number_of b) v.faults v'.faults) o r is (found_cause (λ s. s ≡ number_of b) v.faults v'.faults o)
        (λ s e. subst (λ z. IfErr z (Causes.HasRose (IsSourceOf b) v v')) e refused)

    -- what is said of a node that a buffer found is so of the search's answer
    given : (P : Spot → Type 0) → Lifts (IfNode P) o → IfNode P r
    given P h = lifted (IfNode P) o r is h (λ s e. tt)

    -- what is said of the place that a buffer found is so of the search's answer
    moved : (t : LabelledTree) (goal : Option (List ℕ)) → Lifts (IsMoved (IsPlace b') t goal) o → IsMoved (IsPlace b') t goal r
    moved t goal h = lifted (IsMoved (IsPlace b') t goal) o r is h (λ s e. tt)

    -- a buffer's search for the first child of a spot is one of the walker
    pub source_down : (x : Spot) → IsSpot b x → IfOk o (λ r. IfSome r (IsChildSpot b' x 0))
        → IfOk o (λ r. v.told (number_of b) ≡ true → is_some r ≡ has_place (document_node v (number_of b)) (child_place (place_of b x)))
        → IfOk o (λ r. IfSome r (λ c. from_spot v' b' c ≤ below v b x)) → IsNext (source_meaning v b) (source_meaning v' b') v.faults v'.faults Down x r
    source_down x spot child exact less = record {
      cause = cause;
      node = given (IsReached (source_meaning v' b')) (child_found (IsReached (source_meaning v' b')) b' x o (λ c h. (h, tt)) child);
      place = λ p at t one.
          let there = exact_on o (v.told (number_of b) ≡ true) _ (λ r. is_some r ≡ has_place (above t) (child_place (0 ∷ p))) one.0
          (λ r e. e ∙ ap (λ q. has_place (document_node v (number_of b)) (child_place q)) at.1 ∙ ap (λ f. has_place f (child_place (0 ∷ p))) (node_is v (number_of b) t one.1)) exact in
          moved t (Some (child_place p)) (moved_down t b' x (0 ∷ p) o (goes.place x at.0 ∙ at.1) child there (child_place p) refl);
      told = λ node at tolls. given (IsAsked (λ x node. IsSpot b' x) (Some tt)) (child_found (IsAsked (λ x node. IsSpot b' x) (Some tt)) b' x o (λ c h. (tt, refl, h)) child);
      smaller = given (IsSmaller (source_meaning v b) (source_meaning v' b') Down x) (smaller_down x o less);
      paid = λ tolls p at. unless_fault (0 ≡ 0) r refl;
    }

    -- a buffer's search for the next sibling of a spot is one of the walker
    pub source_right : (x : Spot) → IsSpot b x → IfOk o (λ r. IfSome r (IsNextSpot b' x))
        → IfOk o (λ r. v.told (number_of b) ≡ true → is_some r ≡ has_next (document_node v (number_of b)) (place_of b x))
        → IfOk o (λ r. IfSome r (λ c. from_spot v' b' c ≤ after v b x)) → IsNext (source_meaning v b) (source_meaning v' b') v.faults v'.faults Right x r
    source_right x spot next exact less = record {
      cause = cause;
      node = given (IsReached (source_meaning v' b')) (next_found (IsReached (source_meaning v' b')) b' x o (λ c h. (h, tt)) next);
      place = λ p at t one.
          let there = exact_on o (v.told (number_of b) ≡ true) _ (λ r. is_some r ≡ has_next (above t) (0 ∷ p)) one.0
          (λ r e. e ∙ ap (has_next (document_node v (number_of b))) at.1 ∙ ap (λ f. has_next f (0 ∷ p)) (node_is v (number_of b) t one.1)) exact in
          moved t (next_place p) (moved_right t b' x p o (goes.place x at.0 ∙ at.1) next there);
      told = λ node at tolls. given (IsAsked (λ x node. IsSpot b' x) (Some tt)) (next_found (IsAsked (λ x node. IsSpot b' x) (Some tt)) b' x o (λ c h. (tt, refl, h)) next);
      smaller = given (IsSmaller (source_meaning v b) (source_meaning v' b') Right x) (smaller_right x o less);
      paid = λ tolls p at. unless_fault (0 ≡ 0) r refl;
    }

    -- a buffer's search for the root, which is the first child of the document node, is one of the walker
    pub source_root : (top : Spot) → IsSpot b top → place_of b top ≡ [] → IfOk o (λ r. IfSome r (IsChildSpot b' top 0))
        → IfOk o (λ r. v.told (number_of b) ≡ true → is_some r ≡ has_place (document_node v (number_of b)) (child_place (place_of b top)))
        → IsRoot (source_meaning v b) (source_meaning v' b') v.faults v'.faults r
    source_root top spot at child exact = record {
      cause = cause;
      node = given (IsReached (source_meaning v' b')) (child_found (IsReached (source_meaning v' b')) b' top o (λ c h. (h, tt)) child);
      sure = λ e. cc;
      place = λ t one.
          let there = exact_on o (v.told (number_of b) ≡ true) _ (λ r. is_some r ≡ has_place (above t) (child_place [])) one.0
          (λ r e. e ∙ ap (λ p. has_place (document_node v (number_of b)) (child_place p)) at ∙ ap (λ f. has_place f (child_place [])) (node_is v (number_of b) t one.1)) exact in
          moved t (Some []) (moved_down t b' top [] o (goes.place top spot ∙ at) child there [] refl);
      told = λ tolls. given (IsAsked (λ x node. IsSpot b' x) (Some tt)) (child_found (IsAsked (λ x node. IsSpot b' x) (Some tt)) b' top o (λ c h. (tt, refl, h)) child);
    }

-- what follows from a fact about an answer holds of it
pub if_ok : {T E : Type 0} (r : Result T E) (P Q : T → Type 0) → ((x : T) → P x → Q x) → IfOk r P → IfOk r Q
if_ok (Ok x) P Q f p = f x p
if_ok (Err e) P Q f p = tt

-- the label of a spot is the document's
pub source_label : (v : View) (b : Buffer) → IsSourcesOf v b → (x : Spot) (label : List ℕ) → label ≡ label_of b x → ReadsLabel (source_meaning v b) x label
source_label v b sources x label is p at t one =
    let there : first_label (trees_at (document_node v (number_of b)) (0 ∷ p)) ≡ Some (label_of b x) =
    subst (λ q. first_label (trees_at (document_node v (number_of b)) q) ≡ Some (label_of b x)) at.1 (sources.label one.0 x at.0) in
    let here : first_label (trees_at (above t) (0 ∷ p)) ≡ Some (label_of b x) = ap (λ f. first_label (trees_at f (0 ∷ p))) (sym (node_is v (number_of b) t one.1)) ∙ there in
    labelled (trees_at (above t) (0 ∷ p)) label (here ∙ ap Some (sym is))
  where
    labelled : (f : Forest) (l : List ℕ) → first_label f ≡ Some l → (u : LabelledTree) × (first_tree f ≡ Some u) × (l ≡ u.label)
    labelled none l e = cc
    labelled (tree k kids more) l e = (record { label = k; kids = kids }, refl, some_same e)
      where
        of : Option (List ℕ) → List ℕ
        of None = l
        of (Some y) = y

        some_same : Some k ≡ Some l → l ≡ k
        some_same h = sym (ap of h)
