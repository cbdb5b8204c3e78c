-- A mediator as a walker of its plan's document.
use Rattle.std.proofs.Common.{◌≡◌, ◌∙◌, ◌<◌, ◌≤◌, ◌+◌, ℕ, false, cond, List, [], Option, Some, None, Result, Ok, Err, refl, ap, sym, subst, arith}
use Rattle.std.specs.Prelude.{IsTrue, IfOk}
use Rattle.std.specs.declared.alloc.AllocError.{AllocError}
use Rattle.mix_tree.specs.Forest.{LabelledTree, alone}
use Rattle.mix_tree.specs.Place.{has_place}
use Rattle.mix_tree.specs.Nodes.{Documents}
use Rattle.node_text.specs.Node.{NodeValue, IsFormed}
use Rattle.lxp_core.specs.View.{View}
use Rattle.lxp_core.specs.declared.fault.WalkFault.{WalkFault}
use Rattle.lxp_core.specs.declared.fault.WalkFault.TheVariants as walk
use Rattle.plan_core.specs.declared.plan.Plan.{Plan}
use Rattle.plan_core.specs.PlanMade.{plan_value}
use Rattle.plan_core.specs.Plans.{Operator, document}
use Rattle.plan_core.specs.Events.{visited}
use Rattle.lazy_plan.specs.declared.bench.Bench.{Bench}
use Rattle.lazy_plan.specs.Bench.{BenchState, KeepsBench, IsBenchOf, ops_of, told, documents}
use Rattle.lazy_plan.specs.Bench as bench
use Rattle.lazy_binding.specs.Cursors.{IsRead}
use Rattle.lazy_steps.specs.Steps as steps
use Rattle.lazy_steps.proofs.Singles.{read_within}
use Rattle.lazy_value.specs.declared.ids.NodeId.{NodeId}
use Rattle.lazy_value.specs.declared.mediator.Mediator.{Mediator}
use Rattle.lazy_value.specs.declared.ids.NodeId.TheVariants.{Walked, Marked}
use Rattle.lazy_value.specs.Named.{IsMediatorOf, IsNamed, IsNamedAt, IsWalkedTo, NamedStay, OwesNoMore, named_height, named_left, owed, state_of}
use Rattle.lazy_value.specs.Steps.{GivesNamed, GivesText, NamedLeadsTo, IsWalkedBelow, GivesBelow, IsWalkedRight, GivesRight, IsPaid}
use Rattle.plan_evidence.specs.Held.{UsesHeld}
use Rattle.plan_evidence.specs.Named.{Names}
use Rattle.lazy_walk.specs.Finding.{walk_charge}
use Rattle.mix_script.specs.Trails.{place_to}
use Rattle.mix_script.specs.Transcript.{move_answer}
use Rattle.mix_script.specs.declared.step.Way.{Way}
use Rattle.mix_script.specs.declared.step.Way.TheVariants.{Down, Right}
use Rattle.mix_script.specs.declared.answer.Answer.TheVariants as answer
use Rattle.mix_session.specs.declared.walker.Found.{Found}
use Rattle.mix_session.specs.declared.walker.Found.TheVariants as found
use Rattle.mix_session.specs.Meaning.{Stays}
use Rattle.mix_session.specs.Seeking.{IsSmaller, IfNode, UnlessFault, IsReached, HasCause, IsAsked, IsMoved, IsNamedBy, IsRoot, IsNext, IsFollowed, IsSaid}
use Rattle.mix_session.specs.Refusals.{of_walk}
use Rattle.mix_session.specs.Walks.{IsDocument, place_toll, plan_meaning}

-- each source that the plan of a bench reads is there
bench_within : (v : View) (b : Bench) → IsBenchOf v b → (s : ℕ) → IsRead (bench.ops_of (bench.state_of v b)) s → s < v.count
bench_within v b is s read =
    let h = read_within _ _ is.bench s read in let few = is.bench.few in omega (arith, h, few)

-- each source that the plan of a mediator reads is there
pub mediator_within : (v : View) (m : Mediator) → IsMediatorOf v m → (s : ℕ) → IsRead (bench.ops_of (state_of v m)) s → s < v.count
mediator_within v m is s read = bench_within v m.walk.bench is.walk s read

-- the operators of a bench are the same after a call
same_ops : (old st : BenchState) → KeepsBench old st → ops_of st ≡ ops_of old
same_ops old st kept = ap (λ (p : Plan). (plan_value p).ops) kept.plan

-- the document of a bench is the same after a call
same_document : (old st : BenchState) → KeepsBench old st → (t : LabelledTree) → IsDocument old t → IsDocument st t
same_document old st kept t one = (
  kept.told ∙ one.0,
  ap (λ (ops : List Operator). document (visited (documents st)) ops) (same_ops old st kept)
      ∙ ap (λ (docs : Documents). document (visited docs) (ops_of old)) kept.documents ∙ one.1,
)

-- the tolls of a bench are the same after a call
same_toll : (old st : BenchState) → KeepsBench old st → (way : Way) (p : List ℕ) → place_toll (documents st) (ops_of st) way p ≡ place_toll (documents old) (ops_of old) way p
same_toll old st kept way p =
    ap (λ (ops : List Operator). place_toll (documents st) ops way p) (same_ops old st kept) ∙ ap (λ (docs : Documents). place_toll docs (ops_of old) way p) kept.documents

-- the walk to a place may cost what it might before a call
same_charge : (old st : BenchState) → KeepsBench old st → (p : List ℕ) → walk_charge (documents st) (ops_of st) p ≡ walk_charge (documents old) (ops_of old) p
same_charge old st kept p =
    ap (λ (ops : List Operator). walk_charge (documents st) ops p) (same_ops old st kept) ∙ ap (λ (docs : Documents). walk_charge docs (ops_of old) p) kept.documents

-- what a text names after a call it named before it
names_before : (old st : BenchState) → KeepsBench old st → (node : NodeValue) (p : List ℕ) → Names (documents st) (ops_of st) node p → Names (documents old) (ops_of old) node p
names_before old st kept node p h =
    subst (λ (docs : Documents). Names docs (ops_of old) node p) kept.documents (subst (λ (ops : List Operator). Names (documents st) ops node p) (same_ops old st kept) h)

-- what a text names before a call it names after it
names_later : (old st : BenchState) → KeepsBench old st → (node : NodeValue) (p : List ℕ) → Names (documents old) (ops_of old) node p → Names (documents st) (ops_of st) node p
names_later old st kept node p h =
    subst (λ (ops : List Operator). Names (documents st) ops node p) (sym (same_ops old st kept)) (subst (λ (docs : Documents). Names docs (ops_of old) node p) (sym kept.documents) h)

-- what a call of a mediator leaves, a call of the walker leaves
pub plan_stays : (v v' : View) (m m' : Mediator) → IsMediatorOf v' m' → KeepsBench (state_of v m) (state_of v' m') → NamedStay (state_of v m) (state_of v' m') → OwesNoMore (state_of v m) m (state_of v' m') m'
    → Stays (plan_meaning v m) (plan_meaning v' m')
plan_stays v v' m m' ready kept stay less = record {
  ready = ready;
  course = record {
    roots = refl;
    may = λ s read. subst (λ (ops : List Operator). IsRead ops s) (same_ops (state_of v m) (state_of v' m') kept) read;
    document = same_document (state_of v m) (state_of v' m') kept;
    tolls = λ both. (kept.told ∙ both.0, kept.forward ∙ both.1);
    trail = refl;
    at = refl;
    root_toll = omega arith;
    toll = λ way p. omega (arith, same_toll (state_of v m) (state_of v' m') kept way p);
    tells = λ h. h;
    follows = λ uses. subst (λ (ops : List Operator). UsesHeld ops) (sym (same_ops (state_of v m) (state_of v' m') kept)) uses;
    names = names_before (state_of v m) (state_of v' m') kept;
    named = names_later (state_of v m) (state_of v' m') kept;
    reach = λ node. omega arith;
    charge = λ p. omega (arith, same_charge (state_of v m) (state_of v' m') kept p);
  };
  node = stay.named;
  place = stay.place;
  told = λ n p h. (h.0, stay.place n p h.1);
  walked = λ n h. h;
  owes = λ n p at. less n p;
  left = stay.left;
  height = stay.height;
}

-- an identifier at a place is one of its mediator
at_node : (st : BenchState) (n : NodeId) (p : List ℕ) → IsNamedAt st n p → IsNamed st n
at_node st (Walked n) p at = at.node
at_node st (Marked t) p at = at.marked

-- the root that a mediator gives is the root of its walker
pub plan_root : (v : View) (m : Mediator) (n : NodeId) → IsWalkedTo n → IsNamedAt (state_of v m) n [] → IsRoot (plan_meaning v m) (plan_meaning v m) v.faults v.faults (found.Node n)
plan_root v m n walked at = record {
  cause = tt;
  node = (at_node (state_of v m) n [] at, walked);
  sure = λ e. refl;
  place = λ t one. (refl, ([], refl, at));
  told = λ tolls. ([], refl, (walked, at));
}

-- what is said of what a mediator found, where it refused nothing
abbrev Lifts : (Found NodeId → Type 0) → Result (Option NodeId) WalkFault → Type 0
Lifts P (Ok None) = P found.None
Lifts P (Ok (Some n)) = P (found.Node n)
Lifts P (Err fault) = Unit {0}

-- what is said of what a mediator found, and of each fault that it named, is so of the search's answer
lifted : (P : Found NodeId → Type 0) (o : Result (Option NodeId) WalkFault) (r : Found NodeId) → of_walk o r → Lifts P o → ((s : ℕ) → o ≡ Err (walk.Failed s) → P (found.Fault s)) → P r
lifted P (Ok None) r is h k = subst P (sym is) h
lifted P (Ok (Some n)) r is h k = subst P (sym is) h
lifted P (Err (walk.Failed s)) r is h k = subst P (sym is) (k s refl)
lifted P (Err walk.OutOfMemory) r is h k = absurd is

-- a search that a mediator refused for a cause has that cause
caused : (ops : List Operator) (v v' : View) (o : Result (Option NodeId) WalkFault) (r : Found NodeId) → of_walk o r → steps.HasCause ops v v' o → HasCause (IsRead ops) v.faults v'.faults r
caused ops v v' (Ok None) r is h = subst (HasCause (IsRead ops) v.faults v'.faults) (sym is) tt
caused ops v v' (Ok (Some n)) r is h = subst (HasCause (IsRead ops) v.faults v'.faults) (sym is) tt
caused ops v v' (Err (walk.Failed s)) r is h = subst (HasCause (IsRead ops) v.faults v'.faults) (sym is) (h.0, h.1)
caused ops v v' (Err walk.OutOfMemory) r is h = absurd is

-- what a mediator found is a node to which a walk led
found_node : (v : View) (m : Mediator) (o : Result (Option NodeId) WalkFault) → IfOk o (GivesNamed (state_of v m)) → Lifts (IfNode IsWalkedTo) o → Lifts (IfNode (IsReached (plan_meaning v m))) o
found_node v m (Ok None) h walked = tt
found_node v m (Ok (Some n)) h walked = (h, walked)
found_node v m (Err fault) h walked = tt

-- the answer of a move to a place that is asked for, where there may be none
no_move : (t : LabelledTree) (goal : Option (List ℕ)) → ((p : List ℕ) → goal ≡ Some p → has_place (alone t) p ≡ false) → move_answer t goal ≡ answer.None
no_move t None h = refl
no_move t (Some p) h = ap (λ b. cond b answer.Node answer.None) (h p refl)

-- what a mediator found is what the document has at that place
moved : (old new : BenchState) (t : LabelledTree) (n : NodeId) (p : List ℕ) (goal : Option (List ℕ)) (o : Result (Option NodeId) WalkFault) → IsNamedAt old n p → IsDocument old t → NamedLeadsTo old new n p goal o
    → Lifts (IsMoved (IsNamedAt new) t goal) o
moved old new t n p goal (Ok None) at one h = no_move t goal (h at one.0 t one.1)
moved old new t n p goal (Ok (Some c)) at one h =
    let there = h at one.0 in (
      ap (move_answer t) there.asked ∙ ap (λ b. cond b answer.Node answer.None) (there.has t one.1),
      (there.place, there.asked, there.at),
    )
moved old new t n p goal (Err fault) at one h = tt

-- what a mediator found stands at the place that was asked for, and a walk led to it
asked : (old new : BenchState) (n : NodeId) (p : List ℕ) (goal : Option (List ℕ)) (o : Result (Option NodeId) WalkFault) → IsNamedAt old n p → IsTrue (told old) → NamedLeadsTo old new n p goal o
    → Lifts (IfNode IsWalkedTo) o → Lifts (IfNode (IsAsked (λ c q. IsWalkedTo c × IsNamedAt new c q) goal)) o
asked old new n p goal (Ok None) at one h walked = tt
asked old new n p goal (Ok (Some c)) at one h walked = let there = h at one in (there.place, there.asked, (walked, there.at))
asked old new n p goal (Err fault) at one h walked = tt

-- nothing is owed any more for the identifier from which a mediator searched, where no source failed
paid : (old new : BenchState) (m' : Mediator) (n : NodeId) (p : List ℕ) (o : Result (Option NodeId) WalkFault) → IsNamedAt old n p → IsTrue (told old) → IsPaid old new m' n o
    → Lifts (UnlessFault (owed new m' n p ≡ 0)) o
paid old new m' n p (Ok None) at one h = h p at one
paid old new m' n p (Ok (Some c)) at one h = h p at one
paid old new m' n p (Err fault) at one h = tt

-- an identifier below another was walked to, and stands lower
below_is : (old new : BenchState) (n c : NodeId) → IsWalkedBelow old new n c → IsWalkedTo c × (named_height new c < named_height old n)
below_is old new n (Walked c) h = (tt, h)
below_is old new n (Marked t) h = absurd h

-- an identifier to the right of another was walked to; fewer are to the right of it where the other was walked to, and it stands no higher
right_is : (old new : BenchState) (n c : NodeId) → IsWalkedRight old new n c → IsWalkedTo c × (IsWalkedTo n → named_left new c < named_left old n) × (named_height new c ≤ named_height old n)
right_is old new (Walked n) (Walked c) h = (tt, λ walked. h.1, h.0)
right_is old new (Marked s) (Walked c) h = (tt, λ walked. absurd walked, h)
right_is old new (Walked n) (Marked t) h = absurd h
right_is old new (Marked s) (Marked t) h = absurd h

-- a walk led to the child that a mediator found
walked_down : (old new : BenchState) (n : NodeId) (o : Result (Option NodeId) WalkFault) → IfOk o (GivesBelow old new n) → Lifts (IfNode IsWalkedTo) o
walked_down old new n (Ok None) h = tt
walked_down old new n (Ok (Some c)) h = (below_is old new n c h).0
walked_down old new n (Err fault) h = tt

-- a walk led to the next sibling that a mediator found
walked_right : (old new : BenchState) (n : NodeId) (o : Result (Option NodeId) WalkFault) → IfOk o (GivesRight old new n) → Lifts (IfNode IsWalkedTo) o
walked_right old new n (Ok None) h = tt
walked_right old new n (Ok (Some c)) h = (right_is old new n c h).0
walked_right old new n (Err fault) h = tt

-- the child that a mediator found has smaller numbers
lower_down : (v v' : View) (m m' : Mediator) (n : NodeId) (o : Result (Option NodeId) WalkFault) → IfOk o (GivesBelow (state_of v m) (state_of v' m') n)
    → Lifts (IfNode (IsSmaller (plan_meaning v m) (plan_meaning v' m') Down n)) o
lower_down v v' m m' n (Ok None) h = tt
lower_down v v' m m' n (Ok (Some c)) h = (below_is (state_of v m) (state_of v' m') n c h).1
lower_down v v' m m' n (Err fault) h = tt

-- the next sibling that a mediator found has smaller numbers
fewer_right : (v v' : View) (m m' : Mediator) (n : NodeId) (o : Result (Option NodeId) WalkFault) → IfOk o (GivesRight (state_of v m) (state_of v' m') n)
    → Lifts (IfNode (IsSmaller (plan_meaning v m) (plan_meaning v' m') Right n)) o
fewer_right v v' m m' n (Ok None) h = tt
fewer_right v v' m m' n (Ok (Some c)) h = let less = right_is (state_of v m) (state_of v' m') n c h in (less.1, less.2)
fewer_right v v' m m' n (Err fault) h = tt

module _ (v v' : View) (m m' : Mediator) (o : Result (Option NodeId) WalkFault) (r : Found NodeId) (is : of_walk o r) (cause : steps.HasCause (ops_of (state_of v m)) v v' o) where
  -- a mediator's search for the node to which a way leads is one of the walker
  plan_next : (way : Way) (n : NodeId) → IfOk o (GivesNamed (state_of v' m')) → Lifts (IfNode IsWalkedTo) o → ((p : List ℕ) → NamedLeadsTo (state_of v m) (state_of v' m') n p (place_to way p) o)
      → Lifts (IfNode (IsSmaller (plan_meaning v m) (plan_meaning v' m') way n)) o → IsPaid (state_of v m) (state_of v' m') m' n o → IsNext (plan_meaning v m) (plan_meaning v' m') v.faults v'.faults way n r
  plan_next way n node walked place less nothing = record {
    cause = caused (ops_of (state_of v m)) v v' o r is cause;
    node = lifted (IfNode (IsReached (plan_meaning v' m'))) o r is (found_node v' m' o node walked) (λ s e. tt);
    place = λ p at t one.
        lifted (IsMoved (IsNamedAt (state_of v' m')) t (place_to way p)) o r is (moved (state_of v m) (state_of v' m') t n p (place_to way p) o at one (place p)) (λ s e. tt);
    told = λ p at tolls.
        lifted (IfNode (IsAsked (λ c q. IsWalkedTo c × IsNamedAt (state_of v' m') c q) (place_to way p))) o r is (asked (state_of v m) (state_of v' m') n p (place_to way p) o at.1 tolls.0 (place p) walked)
        (λ s e. tt);
    smaller = lifted (IfNode (IsSmaller (plan_meaning v m) (plan_meaning v' m') way n)) o r is less (λ s e. tt);
    paid = λ tolls p at. lifted (UnlessFault (owed (state_of v' m') m' n p ≡ 0)) o r is (paid (state_of v m) (state_of v' m') m' n p o at tolls.0 nothing) (λ s e. tt);
  }

  -- a mediator's search for the first child is one of the walker
  pub plan_down : (n : NodeId) → IfOk o (GivesNamed (state_of v' m')) → ((p : List ℕ) → NamedLeadsTo (state_of v m) (state_of v' m') n p (place_to Down p) o) → IfOk o (GivesBelow (state_of v m) (state_of v' m') n)
      → IsPaid (state_of v m) (state_of v' m') m' n o → IsNext (plan_meaning v m) (plan_meaning v' m') v.faults v'.faults Down n r
  plan_down n node place below nothing = plan_next Down n node (walked_down (state_of v m) (state_of v' m') n o below) place (lower_down v v' m m' n o below) nothing

  -- a mediator's search for the next sibling is one of the walker
  pub plan_right : (n : NodeId) → IfOk o (GivesNamed (state_of v' m')) → ((p : List ℕ) → NamedLeadsTo (state_of v m) (state_of v' m') n p (place_to Right p) o) → IfOk o (GivesRight (state_of v m) (state_of v' m') n)
      → IsPaid (state_of v m) (state_of v' m') m' n o → IsNext (plan_meaning v m) (plan_meaning v' m') v.faults v'.faults Right n r
  plan_right n node place right nothing = plan_next Right n node (walked_right (state_of v m) (state_of v' m') n o right) place (fewer_right v v' m m' n o right) nothing

  -- what a mediator found of a text is what the walker finds of it
  pub plan_followed : (node : NodeValue) → IfOk o (GivesText (state_of v m) (state_of v' m') node) → IsFollowed (plan_meaning v m) (plan_meaning v' m') v.faults v'.faults node r
  plan_followed node gives = record {
    cause = caused (ops_of (state_of v m)) v v' o r is cause;
    node = lifted (IfNode (IsNamed (state_of v' m'))) o r is (text_node o gives) (λ s e. tt);
    place = λ t one. lifted (IsNamedBy (Names (documents (state_of v m)) (ops_of (state_of v m))) (IsNamedAt (state_of v' m')) node) o r is (text_place o gives one.0) (λ s e. tt);
  }
    where
      text_node : (o : Result (Option NodeId) WalkFault) → IfOk o (GivesText (state_of v m) (state_of v' m') node) → Lifts (IfNode (IsNamed (state_of v' m'))) o
      text_node (Ok None) h = tt
      text_node (Ok (Some n)) h = h.0
      text_node (Err fault) h = tt

      text_place : (o : Result (Option NodeId) WalkFault) → IfOk o (GivesText (state_of v m) (state_of v' m') node) → IsTrue (told (state_of v m))
          → Lifts (IsNamedBy (Names (documents (state_of v m)) (ops_of (state_of v m))) (IsNamedAt (state_of v' m')) node) o
      text_place (Ok None) h one = h one
      text_place (Ok (Some n)) h one = h.1 one
      text_place (Err fault) h one = tt

-- what a step from an identifier to which a walk led asks is what its way costs: nothing is owed before
pub told_toll : (st : BenchState) (m : Mediator) (n : NodeId) (p : List ℕ) (fills fills' toll : ℕ) → IsWalkedTo n → fills' ≤ fills + (owed st m n p + toll) → fills' ≤ fills + toll
told_toll st m (Walked n) p fills fills' toll walked h = omega (arith, h)
told_toll st m (Marked t) p fills fills' toll walked h = absurd walked

-- what a mediator says of an identifier's text, the walker says of it
pub plan_said : (v : View) (m : Mediator) (n : NodeId) (o : Result NodeValue AllocError) → IfOk o IsFormed
    → ((p : List ℕ) → IsNamedAt (state_of v m) n p → IsTrue (told (state_of v m)) → IfOk o (λ d. Names (documents (state_of v m)) (ops_of (state_of v m)) d p)) → IfOk o (IsSaid (plan_meaning v m) n)
plan_said v m n (Ok d) formed names = record { formed = formed; names = λ p at t one. names p at one.0 }
plan_said v m n (Err e) formed names = tt
