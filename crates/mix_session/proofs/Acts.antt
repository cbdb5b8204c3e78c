-- What a search, or none, becomes as the answer to an act.
use Rattle.std.proofs.Common.{◌≡◌, ◌∙◌, ◌≤◌, ◌+◌, ℕ, Bool, true, false, List, Option, Some, None, Result, Ok, Err, refl, ap, sym, subst, arith}
use Rattle.std.specs.Prelude.{IfOk, OnErr, IsTrue, option_and_then}
use Rattle.std.specs.declared.alloc.AllocError.{AllocError}
use Rattle.mix_base.specs.Counts.{HasRisen}
use Rattle.mix_tree.specs.Forest.{LabelledTree}
use Rattle.mix_tree.specs.Place.{tree_at}
use Rattle.lxp_core.specs.View.{View}
use Rattle.mix_script.specs.Names.{NamesOf, no_names, with_name}
use Rattle.mix_script.specs.Trails.{takes_one_way, place_to, with_named, names_with, goal_on}
use Rattle.mix_script.specs.Transcript.{Finished, Naming, Names, Note, move_answer, text_answer, if_held, unless_failed, goal_of, selected, answer_of}
use Rattle.mix_script.specs.Allowed.{Nodes, MayFind, MayFindRoot, MayPrint, WhereHeld, MayAnswer, nodes_after, mark_of, note_of}
use Rattle.mix_script.specs.Finished.{IsTold}
use Rattle.mix_script.specs.Holding.{HoldBoth}
use Rattle.mix_script.specs.declared.step.Way.{Way}
use Rattle.mix_script.specs.declared.step.Act.{Act}
use Rattle.mix_script.specs.declared.step.Act.TheVariants.{Root, Move, Select, Fetch, Print, Id, At}
use Rattle.mix_script.specs.declared.answer.Answer.{Answer}
use Rattle.mix_script.specs.declared.answer.Answer.TheVariants as answer
use Rattle.mix_script.proofs.Answering.{counted_answer}
use Rattle.mix_script.proofs.Holding.{hold_none, hold_with, hold_weaker, some_other}
use Rattle.mix_session.specs.declared.walker.Found.{Found}
use Rattle.mix_session.specs.declared.walker.Found.TheVariants as found
use Rattle.mix_session.specs.Meaning.{Meaning, Stays}
use Rattle.mix_session.specs.Seeking.{IfNode, UnlessFault, IsReached, HasCause, IsAsked, IsMoved, IsRoot, IsNext, IsSelected, answer_found, names_found}
use Rattle.mix_session.specs.Held.{HoldNodes, HoldPlaces, HoldTold, IsSession}
use Rattle.mix_session.specs.Stepped.{IsStep, IsLedTo, NamesGiven, IsTolled, IsTolledOn, Stepped, owed_before, owed_for}
use Rattle.mix_session.specs.Tolls.{toll_from, select_toll, print_toll}
use Rattle.mix_session.specs.Printing.{place_toll, IsPaidFor, IsPrinted, CostsOn}

-- names that hold nothing hold no wrong node
pub session_start : {V W : Type 0} (m : Meaning V W) (values : NamesOf V) → m.IsReady → values ≡ no_names → IsSession m values
session_start m values ready none = record { ready = ready; nodes = (no_names, subst (λ s. HoldNodes m s no_names) (sym none) (hold_none {W = Unit {0}} (λ n node. m.IsNode n))) }

-- a search by an act becomes an answer: what is told of the node that was found is what was asked for
on_goal : {V W : Type 0} (With With' : V → W → Type 0) → ((n : V) (x : W) → With n x → With' n x) → (values : NamesOf V) (client name : List ℕ) (act : Act)
    → ((xs : NamesOf W) (x : Option W) → with_named xs client act x ≡ with_name xs client name x) → (r : Found V) (xs : NamesOf W) (goal : Option W) → HoldBoth With values xs
    → IfNode (IsAsked With' goal) r → HoldBoth With' (names_found values client name r) (names_with goal xs client act (answer_found r))
on_goal {V} {W} With With' stay values client name act same (found.Node n) xs goal hold asked =
    let Holds : NamesOf W → Type 0 = λ ys. HoldBoth With' (with_name values client name (Some n)) ys in
    subst (λ (g : Option W). Holds (with_named xs client act g)) (sym asked.1)
    (subst Holds (sym (same xs (Some asked.0))) (hold_with With' values xs client name (Some n) (Some asked.0) (hold_weaker With With' values xs stay hold) asked.2))
on_goal {V} {W} With With' stay values client name act same found.None xs goal hold asked =
    let Holds : NamesOf W → Type 0 = λ ys. HoldBoth With' (with_name values client name None) ys in
    subst Holds (sym (same xs None)) (hold_with With' values xs client name None None (hold_weaker With With' values xs stay hold) tt)
on_goal With With' stay values client name act same (found.Fault s) xs goal hold asked = hold_weaker With With' values xs stay hold

-- the search's answer may be given to a search
may_find : {V : Type 0} (MayFail : ℕ → Type 0) (before after : ℕ → ℕ) (r : Found V) → HasCause MayFail before after r → MayFind MayFail (answer_found r)
may_find MayFail before after (found.Node n) h = tt
may_find MayFail before after found.None h = tt
may_find MayFail before after (found.Fault s) h = h.0

-- the fault that a search was answered with was counted
fault_counted : {V : Type 0} (MayFail : ℕ → Type 0) (before after : ℕ → ℕ) (r : Found V) (s : ℕ) → HasCause MayFail before after r → answer_found r ≡ answer.Fault s → HasRisen (before s) (after s)
fault_counted MayFail before after (found.Node n) s h e = cc
fault_counted MayFail before after found.None s h e = cc
fault_counted MayFail before after (found.Fault n) s h e = let same : n ≡ s = cc in subst (λ k. HasRisen (before k) (after k)) same h.1

-- a search of a tree is answered as the tree answers it, under the note that the answer shows
moved_answer : {V : Type 0} (IsAt : V → List ℕ → Type 0) (t : LabelledTree) (goal : Option (List ℕ)) (r : Found V) → IsMoved IsAt t goal r
    → answer_found r ≡ unless_failed (note_of (answer_found r)) (move_answer t goal)
moved_answer IsAt t goal (found.Node n) h = sym h.0
moved_answer IsAt t goal found.None h = sym h
moved_answer IsAt t goal (found.Fault s) h = refl

-- the node that a search found stands where it was asked for
moved_asked : {V : Type 0} (IsAt : V → List ℕ → Type 0) (t : LabelledTree) (goal : Option (List ℕ)) (r : Found V) → IsMoved IsAt t goal r → IfNode (IsAsked IsAt goal) r
moved_asked IsAt t goal (found.Node n) h = h.1
moved_asked IsAt t goal found.None h = tt
moved_asked IsAt t goal (found.Fault s) h = tt

-- the node that a search found is a node
node_asked : {V W : Type 0} (m : Meaning V W) (r : Found V) → IfNode (IsReached m) r → IfNode (IsAsked (λ n node. m.IsNode n) (Some (tt {0}))) r
node_asked m (found.Node n) h = (tt, refl, h.0)
node_asked m found.None h = tt
node_asked m (found.Fault s) h = tt

-- a search is answered without the text of an identifier
found_told : {V : Type 0} (NamesAt : Naming) (places : Names) (client : List ℕ) (act : Act) (r : Found V) → IsTold NamesAt places client act (answer_found r)
found_told NamesAt places client act (found.Node n) = tt
found_told NamesAt places client act found.None = tt
found_told NamesAt places client act (found.Fault s) = tt

-- what is so where no source failed is so where the answer to a search is no fault
unless_marked : {V : Type 0} (Holds : Type 0) (r : Found V) → UnlessFault Holds r → mark_of (answer_found r) ≡ None → Holds
unless_marked Holds (found.Node n) h e = h
unless_marked Holds found.None h e = h
unless_marked Holds (found.Fault s) h e = cc

-- a node to which a walk led may be what any act found
led_to : {V W : Type 0} (m : Meaning V W) (act : Act) (n : V) → m.IsWalked n → IsLedTo m act n
led_to m (Root name) n walked = walked
led_to m (Move way name from) n walked = walked
led_to m (Select name from label) n walked = walked
led_to m (Fetch from) n walked = tt
led_to m (Print from) n walked = tt
led_to m (Id from) n walked = tt
led_to m (At name node) n walked = tt

-- the names after a search hold what was found, as its answer says
names_given : {V W : Type 0} (m : Meaning V W) (values : NamesOf V) (client name : List ℕ) (act : Act) (r : Found V) → IfNode (IsReached m) r
    → ((xs : NamesOf V) (x : Option V) → with_named xs client act x ≡ with_name xs client name x) → NamesGiven m values (names_found values client name r) client act (answer_found r)
names_given m values client name act (found.Node n) node same = (n, led_to m act n node.1, sym (same values (Some n)))
names_given m values client name act found.None node same = sym (same values None)
names_given m values client name act (found.Fault s) node same = refl

module _ {V W : Type 0} (m m' : Meaning V W) (v v' : View) (rises : (s : ℕ) → v.faults s ≤ v'.faults s) (stays : Stays m m') (values : NamesOf V) (session : IsSession m values) where
  -- after a call the names still hold nodes
  kept_session : IsSession m' values
  kept_session = record {
    ready = stays.ready;
    nodes = (session.nodes.0, hold_weaker (λ n node. m.IsNode n) (λ n node. m'.IsNode n) values session.nodes.0 (λ n node h. stays.node n h) session.nodes.1);
  }

  module _ (client : List ℕ) (act : Act) (toll : IsTolled m v.fills v'.fills values client act) (cost : IsTolledOn m v.fills v'.fills values client act) where
    -- where memory ran out, the step left what a step leaves
    pub refused : (values' : NamesOf V) (e : AllocError) → values' ≡ values → Stepped m m' v v' values values' client act (Err e)
    refused values' e still = record {
      session = subst (IsSession m') (sym still) kept_session;
      stays = stays;
      answer = tt;
      names = tt;
      still = still;
      toll = toll;
      cost = cost;
    }

    -- a step that was answered left what a step leaves
    pub answered : (values' : NamesOf V) (a : Answer) → IsStep m m' v.faults v'.faults values values' client act a → NamesGiven m' values values' client act a → Stepped m m' v v' values values' client act (Ok a)
    answered values' a step given = record {
      session = record { ready = stays.ready; nodes = (nodes_after session.nodes.0 client act a, (step.allowed session.nodes.0 session.nodes.1).1) };
      stays = stays;
      answer = step;
      names = given;
      still = tt;
      toll = toll;
      cost = cost;
    }

    module _ (name : List ℕ) (same : (X : Type 0) (xs : NamesOf X) (x : Option X) → with_named xs client act x ≡ with_name xs client name x) (r : Found V)
        (cause : HasCause m.course.MayFail v.faults v'.faults r) (node : IfNode (IsReached m') r)
        (may : (nodes : Nodes) → HoldNodes m values nodes → MayAnswer m.course.roots m.course.MayFail nodes client act (answer_found r))
        (place : (f : Finished) → m.course.IsDocument f.tree → (places : Names) → HoldPlaces m values places
        → ((note : Note) → answer_of f places note client act ≡ unless_failed note (move_answer f.tree (goal_of f places client act))) × IsMoved m'.IsAt f.tree (goal_of f places client act) r)
        (told : IsTrue (takes_one_way act) → m.course.HasTolls → (xs : NamesOf W) → HoldTold m values xs → IfNode (IsAsked m'.IsTold (goal_on m.course.trail xs client act)) r)
        (paid : m.course.HasTolls → (places : Names) → HoldPlaces m values places → mark_of (answer_found r) ≡ None → owed_before m' values places client act ≡ 0) where
      -- the search of an act is a step
      found_step : IsStep m m' v.faults v'.faults values (names_found values client name r) client act (answer_found r)
      found_step = record {
        allowed = λ nodes hold. (
          may nodes hold,
          on_goal (λ n node. m.IsNode n) (λ n node. m'.IsNode n) (λ n node h. stays.node n h) values client name act (λ xs x. same (Unit {0}) xs x) r nodes (Some tt) hold (node_asked m' r node),
        );
        told = λ f one right places hold.
            let given = place f one places hold in (
              moved_answer m'.IsAt f.tree (goal_of f places client act) r given.1 ∙ sym (given.0 (note_of (answer_found r))),
              found_told m.course.NamesAt places client act r,
              on_goal m.IsAt m'.IsAt stays.place values client name act (λ xs x. same (List ℕ) xs x) r places (goal_of f places client act) hold (moved_asked m'.IsAt f.tree (goal_of f places client act) r given.1),
            );
        trail = λ one tolls xs hold.
            on_goal m.IsTold m'.IsTold stays.told values client name act (λ xs x. same W xs x) r xs (goal_on m.course.trail xs client act) hold (told one tolls xs hold);
        paid = λ tolls t one places hold unmarked. paid tolls places hold unmarked;
        counted = counted_answer v.faults v'.faults (answer_found r) rises (λ s e. fault_counted m.course.MayFail v.faults v'.faults r s cause e);
      }

      -- where a search was answered, it left what a step leaves
      taken : (values' : NamesOf V) (o : Result Answer AllocError) → IfOk o (λ a. a ≡ answer_found r) → IfOk o (λ a. values' ≡ names_found values client name r) → OnErr o (values' ≡ values)
          → Stepped m m' v v' values values' client act o
      taken values' (Ok a) is after still =
          let On : NamesOf V → Type 0 = λ ys. Stepped m m' v v' values ys client act (Ok a) in
          subst On (sym after) (subst (λ x. Stepped m m' v v' values (names_found values client name r) client act (Ok x)) (sym is)
          (answered (names_found values client name r) (answer_found r) found_step (names_given m' values client name act r node (λ xs x. same V xs x))))
      taken values' (Err e) is after still = refused values' e still

  -- a step that seeks the root: what it may ask, and what it is answered
  module _ (client name : List ℕ) (toll : m.course.HasTolls → v'.fills ≤ v.fills + m.course.root_toll) where
    pub root_tolled : IsTolled m v.fills v'.fills values client (Root name)
    root_tolled one tolls xs hold = toll tolls

    pub root_costs : IsTolledOn m v.fills v'.fills values client (Root name)
    root_costs tolls t one places hold = let h = toll tolls in omega (arith, h)

    -- the answer to a search of the root may be given
    may_root : (roots : Bool) (MayFail : ℕ → Type 0) (r : Found V) → (roots ≡ false → answer_found r ≡ answer.Node) → MayFind MayFail (answer_found r) → MayFindRoot roots MayFail (answer_found r)
    may_root true MayFail r sure may = may
    may_root false MayFail r sure may = sure refl

    pub root_taken : (r : Found V) → IsRoot m m' v.faults v'.faults r → (values' : NamesOf V) (o : Result Answer AllocError) → IfOk o (λ a. a ≡ answer_found r) → IfOk o (λ a. values' ≡ names_found values client name r)
        → OnErr o (values' ≡ values) → Stepped m m' v v' values values' client (Root name) o
    root_taken r root = taken client (Root name) root_tolled root_costs name (λ X xs x. refl) r root.cause root.node
        (λ nodes hold. may_root m.course.roots m.course.MayFail r root.sure (may_find m.course.MayFail v.faults v'.faults r root.cause))
        (λ f one places hold. (λ note. refl, root.place f.tree one)) (λ one tolls xs hold. root.told tolls) (λ tolls places hold unmarked. refl)

  -- a step that seeks a node from the one that a name holds
  module _ (client from : List ℕ) (n : V) (held : values client from ≡ Some n) where
    -- the place of the document that the name holds
    own_place : (places : Names) → HoldPlaces m values places → (p : List ℕ) × (places client from ≡ Some p) × m.IsAt n p
    own_place places hold = some_other m.IsAt (values client from) (places client from) n held (hold client from)

    -- the answer to a search from a node that is held may be given
    sought_may : (r : Found V) → HasCause m.course.MayFail v.faults v'.faults r → (nodes : Nodes) → HoldNodes m values nodes → WhereHeld (nodes client from) (MayFind m.course.MayFail) (answer_found r)
    sought_may r cause nodes hold =
        let node = some_other (λ n node. m.IsNode n) (values client from) (nodes client from) n held (hold client from) in
        subst (λ o. WhereHeld o (MayFind m.course.MayFail) (answer_found r)) (sym node.1) (may_find m.course.MayFail v.faults v'.faults r cause)

    -- what is asked from a node's place costs at most what is owed for it and the toll at the place that the name holds
    own_costs : (toll : LabelledTree → List ℕ → ℕ)
        → (m.course.HasTolls → (p : List ℕ) → m.IsAt n p → (t : LabelledTree) → m.course.IsDocument t → v'.fills ≤ v.fills + (m.owes n p + toll t p)) → m.course.HasTolls → (t : LabelledTree) → m.course.IsDocument t
        → (places : Names) → HoldPlaces m values places → v'.fills ≤ v.fills + (owed_for m (values client from) (places client from) + toll_from (toll t) (places client from))
    own_costs toll asks tolls t one places hold =
        let place = own_place places hold in
        subst (λ (o : Option V). v'.fills ≤ v.fills + (owed_for m o (places client from) + toll_from (toll t) (places client from))) (sym held)
        (subst (λ (o : Option (List ℕ)). v'.fills ≤ v.fills + (owed_for m (Some n) o + toll_from (toll t) o)) (sym place.1) (asks tolls place.0 place.2 t one))

    -- where nothing is owed any more for the node, nothing is owed for what the name holds
    own_paid : (places : Names) → HoldPlaces m values places → ((p : List ℕ) → m.IsAt n p → m'.owes n p ≡ 0) → owed_for m' (values client from) (places client from) ≡ 0
    own_paid places hold paid =
        let place = own_place places hold in
        ap (λ (o : Option V). owed_for m' o (places client from)) held ∙ ap (owed_for m' (Some n)) place.1 ∙ paid place.0 place.2

    -- a step that goes one way from a node: what it may ask, and what it is answered
    module _ (name : List ℕ) (way : Way) (toll : (x : W) → m.IsTold n x → m.course.HasTolls → v'.fills ≤ v.fills + m.course.toll way x)
        (cost : m.course.HasTolls → (p : List ℕ) → m.IsAt n p → v'.fills ≤ v.fills + (m.owes n p + m.course.toll way (m.course.at p))) where
      pub move_tolled : IsTolled m v.fills v'.fills values client (Move way name from)
      move_tolled one tolls xs hold =
          let x = some_other m.IsTold (values client from) (xs client from) n held (hold client from) in
          subst (λ (o : Option W). v'.fills ≤ v.fills + toll_from (m.course.toll way) o) (sym x.1) (toll x.0 x.2 tolls)

      pub move_costs : IsTolledOn m v.fills v'.fills values client (Move way name from)
      move_costs = own_costs (λ t. place_toll m.course way) (λ tolls p at t one. cost tolls p at)

      pub move_taken : (r : Found V) → IsNext m m' v.faults v'.faults way n r → (values' : NamesOf V) (o : Result Answer AllocError) → IfOk o (λ a. a ≡ answer_found r) → IfOk o (λ a. values' ≡ names_found values client name r)
          → OnErr o (values' ≡ values) → Stepped m m' v v' values values' client (Move way name from) o
      move_taken r next = taken client (Move way name from) move_tolled move_costs name (λ X xs x. refl) r next.cause next.node (sought_may r next.cause)
          (λ f one places hold.
          let place = own_place places hold in (
            λ note. ap (λ o. if_held o (unless_failed note (move_answer f.tree (goal_of f places client (Move way name from))))) place.1,
            subst (λ (o : Option (List ℕ)). IsMoved m'.IsAt f.tree (option_and_then (place_to way) o) r) (sym place.1) (next.place place.0 place.2 f.tree one),
          ))
          (λ one tolls xs hold.
          let x = some_other m.IsTold (values client from) (xs client from) n held (hold client from) in
          subst (λ (o : Option W). IfNode (IsAsked m'.IsTold (option_and_then (m.course.trail.to way) o)) r) (sym x.1) (next.told x.0 x.2 tolls))
          (λ tolls places hold unmarked. own_paid places hold (λ p at. unless_marked (m'.owes n p ≡ 0) r (next.paid tolls p at) unmarked))

    -- a step that seeks among later siblings of a node: what it may ask, and what it is answered
    module _ (name label : List ℕ) (cost : CostsOn m n v.fills v'.fills (λ toll t p. select_toll toll t label p)) where
      pub select_tolled : IsTolled m v.fills v'.fills values client (Select name from label)
      select_tolled one = cc

      pub select_costs : IsTolledOn m v.fills v'.fills values client (Select name from label)
      select_costs = own_costs (λ t. select_toll (place_toll m.course) t label) cost

      pub select_taken : (r : Found V) → IsSelected m m' v.faults v'.faults label n r → (values' : NamesOf V) (o : Result Answer AllocError) → IfOk o (λ a. a ≡ answer_found r) → IfOk o (λ a. values' ≡ names_found values client name r)
          → OnErr o (values' ≡ values) → Stepped m m' v v' values values' client (Select name from label) o
      select_taken r is = taken client (Select name from label) select_tolled select_costs name (λ X xs x. refl) r is.cause is.node (sought_may r is.cause)
          (λ f one places hold.
          let place = own_place places hold in (
            λ note. ap (λ o. if_held o (unless_failed note (move_answer f.tree (goal_of f places client (Select name from label))))) place.1,
            subst (λ (o : Option (List ℕ)). IsMoved m'.IsAt f.tree (option_and_then (selected f.tree label) o) r) (sym place.1) (is.place place.0 place.2 f.tree one),
          ))
          (λ one. cc) (λ tolls places hold unmarked. own_paid places hold (λ p at. unless_marked (m'.owes n p ≡ 0) r (is.paid tolls p at) unmarked))

    -- a step that asks for the text of a node's subtree: what it may ask, and what it is answered
    module _ (cost : CostsOn m n v.fills v'.fills print_toll) where
      pub print_tolled : IsTolled m v.fills v'.fills values client (Print from)
      print_tolled one = cc

      pub print_costs : IsTolledOn m v.fills v'.fills values client (Print from)
      print_costs = own_costs (print_toll (place_toll m.course)) cost

      -- the answer to a question for a text may be given
      print_may : (a : Answer) → IsPrinted m v.faults v'.faults n a → MayPrint m.course.MayFail a
      print_may answer.Node h = h
      print_may answer.None h = h
      print_may (answer.Label l) h = h
      print_may (answer.Text x) h = (h.subtree, h.text)
      print_may answer.NoNode h = h
      print_may (answer.Fault s) h = h.0
      print_may (answer.Id x) h = h
      print_may answer.Foreign h = h

      -- the answer to a question for a text is that of a tree, under the note that it shows
      print_told : (a : Answer) → IsPrinted m v.faults v'.faults n a → (t : LabelledTree) → m.course.IsDocument t → (p : List ℕ) → m.IsAt n p → a ≡ unless_failed (note_of a) (text_answer (tree_at t p))
      print_told answer.Node h t one p at = absurd h
      print_told answer.None h t one p at = absurd h
      print_told (answer.Label l) h t one p at = absurd h
      print_told (answer.Text x) h t one p at = ap answer.Text h.text ∙ sym (ap text_answer (h.place p at t one))
      print_told answer.NoNode h t one p at = absurd h
      print_told (answer.Fault s) h t one p at = refl
      print_told (answer.Id x) h t one p at = absurd h
      print_told answer.Foreign h t one p at = absurd h

      -- a question for a text is answered without the text of an identifier
      print_untold : (a : Answer) → IsPrinted m v.faults v'.faults n a → (places : Names) → IsTold m.course.NamesAt places client (Print from) a
      print_untold answer.Node h places = tt
      print_untold answer.None h places = tt
      print_untold (answer.Label l) h places = tt
      print_untold (answer.Text x) h places = tt
      print_untold answer.NoNode h places = tt
      print_untold (answer.Fault s) h places = tt
      print_untold (answer.Id x) h places = absurd h
      print_untold answer.Foreign h places = tt

      -- the fault that a question for a text was answered with was counted
      print_counted : (a : Answer) → IsPrinted m v.faults v'.faults n a → (s : ℕ) → a ≡ answer.Fault s → HasRisen (v.faults s) (v'.faults s)
      print_counted answer.Node h s e = cc
      print_counted answer.None h s e = cc
      print_counted (answer.Label l) h s e = cc
      print_counted (answer.Text x) h s e = cc
      print_counted answer.NoNode h s e = cc
      print_counted (answer.Fault k) h s e = let same : k ≡ s = cc in subst (λ j. HasRisen (v.faults j) (v'.faults j)) same h.1
      print_counted (answer.Id x) h s e = cc
      print_counted answer.Foreign h s e = cc

      -- after a question for a text the names hold what they held
      print_names : {X : Type 0} (a : Answer) → IsPrinted m v.faults v'.faults n a → (goal : Option X) (xs : NamesOf X) → names_with goal xs client (Print from) a ≡ xs
      print_names answer.Node h goal xs = refl
      print_names answer.None h goal xs = refl
      print_names (answer.Label l) h goal xs = refl
      print_names (answer.Text x) h goal xs = refl
      print_names answer.NoNode h goal xs = refl
      print_names (answer.Fault s) h goal xs = refl
      print_names (answer.Id x) h goal xs = refl
      print_names answer.Foreign h goal xs = refl

      print_given : (a : Answer) → IsPrinted m v.faults v'.faults n a → NamesGiven m' values values client (Print from) a
      print_given answer.Node h = absurd h
      print_given answer.None h = absurd h
      print_given (answer.Label l) h = absurd h
      print_given (answer.Text x) h = refl
      print_given answer.NoNode h = absurd h
      print_given (answer.Fault s) h = refl
      print_given (answer.Id x) h = absurd h
      print_given answer.Foreign h = absurd h

      pub printed : (o : Result Answer AllocError) → IfOk o (IsPrinted m v.faults v'.faults n) → IfOk o (λ a. mark_of a ≡ None → IsPaidFor m m' n) → Stepped m m' v v' values values client (Print from) o
      printed (Ok a) h paid = answered client (Print from) print_tolled print_costs values a
          (record {
            allowed = λ nodes hold.
                let node = some_other (λ n node. m.IsNode n) (values client from) (nodes client from) n held (hold client from) in (
                  subst (λ o. WhereHeld o (MayPrint m.course.MayFail) a) (sym node.1) (print_may a h),
                  subst (λ ys. HoldNodes m' values ys) (sym (print_names a h (Some tt) nodes)) (hold_weaker (λ n node. m.IsNode n) (λ n node. m'.IsNode n) values nodes (λ n node h. stays.node n h) hold),
                );
            told = λ f one right places hold.
                let place = own_place places hold in (
                  print_told a h f.tree one place.0 place.2
                      ∙ sym (ap (λ o. if_held o (unless_failed (note_of a) (text_answer (option_and_then (tree_at f.tree) o)))) place.1),
                  print_untold a h places,
                  subst (λ ys. HoldPlaces m' values ys) (sym (print_names a h (goal_of f places client (Print from)) places)) (hold_weaker m.IsAt m'.IsAt values places stays.place hold),
                );
            trail = λ one. cc;
            paid = λ tolls t one places hold unmarked. own_paid places hold (paid unmarked tolls);
            counted = counted_answer v.faults v'.faults a rises (print_counted a h);
          }) (print_given a h)
      printed (Err e) h paid = refused client (Print from) print_tolled print_costs values e refl
