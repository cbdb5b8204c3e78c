-- The answers to the first steps on a course, as they become more.
use Rattle.std.proofs.Common.{◌≡◌, ◌+◌, ◌≤◌, ℕ, Bool, true, false, List, [], ◌∷◌, ◌++◌, Option, Some, None, Result, sym, subst, arith, append_assoc}
use Rattle.std.specs.declared.alloc.AllocError.{AllocError}
use Rattle.mix_base.proofs.Lists.{append_nil}
use Rattle.lxp_core.specs.View.{View}
use Rattle.mix_script.specs.Names.{NamesOf, no_names}
use Rattle.mix_script.specs.Trails.{Trail, TakeOneWay, names_on}
use Rattle.mix_script.specs.Transcript.{Finished, IsRight, IsRightFor, answered, names_after}
use Rattle.mix_script.specs.Allowed.{MayFind, MayFindRoot, MayFollow, MayPrint, WhereHeld, MayAnswer, AreAnswers, nodes_after, note_of}
use Rattle.mix_script.specs.Finished.{AreOf}
use Rattle.mix_script.specs.Holding.{HoldBoth}
use Rattle.mix_script.specs.declared.step.Act.{Act}
use Rattle.mix_script.specs.declared.step.Act.TheVariants.{Root, Move, Select, Fetch, Print, Id, At}
use Rattle.mix_script.specs.declared.step.Step.{Step}
use Rattle.mix_script.specs.declared.answer.Answer.{Answer}
use Rattle.mix_script.specs.declared.answer.Answer.TheVariants as answer
use Rattle.mix_script.proofs.Answering.{faults_push}
use Rattle.mix_script.proofs.Holding.{hold_none}
use Rattle.mix_script.proofs.Namings.{right_for_same, told_more}
use Rattle.mix_session.specs.Meaning.{Course, Meaning}
use Rattle.mix_session.specs.Held.{HoldNodes, HoldTold}
use Rattle.mix_session.specs.Stepped.{IsStep, NamesGiven, Stepped, act_toll, owed_before, tree_toll}
use Rattle.mix_session.proofs.TollLess.{act_toll_less, tree_toll_less}
use Rattle.mix_session.proofs.Walking.{goes_on_twice, goes_on_same}
use Rattle.mix_lines.specs.Ends.{IsRun, IsLazy}
use Rattle.mix_lines.specs.Written.{IsOnTree, IsPaidSoFar, IsSoFar}
use Rattle.mix_lines.proofs.Paid.{paid_start, paid_begun, paid_next, paid_whole}
use Rattle.mix_lines.proofs.Paying.{held_places}
use Rattle.mix_lines.proofs.Stepping.{spent_start, spent_step, spent_begun, spent_whole}

module _ (May May' : ℕ → Type 0) (more : (s : ℕ) → May s → May' s) where
  -- an answer to a search may be given where more sources may fail
  find_more : (a : Answer) → MayFind May a → MayFind May' a
  find_more answer.Node h = tt
  find_more answer.None h = tt
  find_more (answer.Label l) h = h
  find_more (answer.Text x) h = h
  find_more answer.NoNode h = h
  find_more (answer.Fault s) h = more s h
  find_more (answer.Id x) h = h
  find_more answer.Foreign h = h

  -- an answer to a search for the root may be given where more sources may fail
  root_more : (roots : Bool) (a : Answer) → MayFindRoot roots May a → MayFindRoot roots May' a
  root_more true a h = find_more a h
  root_more false a h = h

  -- an answer to a search from what a name holds may be given where more sources may fail
  held_more : (o : Option (Unit {0})) (a : Answer) → WhereHeld o (MayFind May) a → WhereHeld o (MayFind May') a
  held_more None a h = h
  held_more (Some node) a h = find_more a h

  -- an answer to a print may be given where more sources may fail
  print_more : (a : Answer) → MayPrint May a → MayPrint May' a
  print_more answer.Node h = h
  print_more answer.None h = h
  print_more (answer.Label l) h = h
  print_more (answer.Text x) h = h
  print_more answer.NoNode h = h
  print_more (answer.Fault s) h = more s h
  print_more (answer.Id x) h = h
  print_more answer.Foreign h = h

  -- an answer to a text that was followed may be given where more sources may fail
  follow_more : (a : Answer) → MayFollow May a → MayFollow May' a
  follow_more answer.Node h = tt
  follow_more answer.None h = h
  follow_more (answer.Label l) h = h
  follow_more (answer.Text x) h = h
  follow_more answer.NoNode h = h
  follow_more (answer.Fault s) h = more s h
  follow_more (answer.Id x) h = h
  follow_more answer.Foreign h = tt

  -- an answer to a print of what a name holds may be given where more sources may fail
  text_more : (o : Option (Unit {0})) (a : Answer) → WhereHeld o (MayPrint May) a → WhereHeld o (MayPrint May') a
  text_more None a h = h
  text_more (Some node) a h = print_more a h

  -- an answer to any act may be given where more sources may fail
  answer_more : (roots : Bool) (nodes : NamesOf (Unit {0})) (client : List ℕ) (act : Act) (a : Answer) → MayAnswer roots May nodes client act a → MayAnswer roots May' nodes client act a
  answer_more roots nodes client (Root name) a h = root_more roots a h
  answer_more roots nodes client (Move way name from) a h = held_more (nodes client from) a h
  answer_more roots nodes client (Select name from label) a h = held_more (nodes client from) a h
  answer_more roots nodes client (Fetch from) a h = h
  answer_more roots nodes client (Print from) a h = text_more (nodes client from) a h
  answer_more roots nodes client (Id from) a h = h
  answer_more roots nodes client (At name node) a h = follow_more a h

-- answers with one more at their end before others are the answers before that one and the others
pushed : (answers : List Answer) (a : Answer) (more : List Answer) → (answers ++ a ∷ []) ++ more ≡ answers ++ a ∷ more
pushed answers a more = append_assoc answers (a ∷ []) more

-- before any step no answer was given
pub so_far_start : {V W : Type 0} (m : Meaning V W) (v : View) (values : NamesOf V) (steps : List Step) → values ≡ no_names → IsSoFar m.course m v v values steps steps []
so_far_start {V} {W} m v values steps none = record {
  course = goes_on_same m.course;
  nodes = no_names;
  hold = subst (λ (s : NamesOf V). HoldNodes m s no_names) (sym none) (hold_none {W = Unit {0}} (λ n node. m.IsNode n));
  allowed = λ more h. h;
  right = λ f right. right;
  told = λ f one right. record { places = no_names; hold = subst (λ (s : NamesOf V). HoldBoth m.IsAt s no_names) (sym none) (hold_none m.IsAt); then = λ more h. h };
  counted = λ s. omega arith;
  ways = λ ways. ways;
  spent = λ ways tolls. spent_start m.IsTold (act_toll m.course) (names_on m.course.trail) v.fills values steps none;
  spent_on = λ tolls f one right. paid_start m f v.fills values steps none;
}

-- the answers to the first steps so far are those of a run
pub so_far_run : {V W : Type 0} (c : Course W) (m : Meaning V W) (old now last : View) (values : NamesOf V) (steps later : List Step) (answers : List Answer) → IsSoFar c m old now values steps later answers
    → ((s : ℕ) → now.faults s ≤ last.faults s) → IsRun c old.faults last.faults steps answers
so_far_run c m old now last values steps later answers so rises = record {
  allowed = subst (λ xs. AreAnswers c.roots c.MayFail no_names xs steps) (append_nil answers) (so.allowed [] (nothing later));
  told = λ f one right. subst (λ xs. AreOf c.NamesAt f no_names xs steps) (append_nil answers) ((so.told f one right).then [] (nothing later));
  counted = λ s. let h = so.counted s in let k = rises s in omega (arith, h, k);
}
  where
    nothing : List Step → Unit {0}
    nothing xs = tt

-- the answers so far cost no more than the tolls of their steps
pub so_far_lazy : {V W : Type 0} (c : Course W) (m : Meaning V W) (old now : View) (values : NamesOf V) (steps later : List Step) (answers : List Answer) → IsSoFar c m old now values steps later answers
    → IsLazy c old.fills now.fills steps answers
so_far_lazy c m old now values steps later answers so = record {
  ways = λ ways tolls. spent_whole m.IsTold (act_toll c) (names_on c.trail) old.fills now.fills values steps later answers (so.spent ways tolls);
  tree = λ tolls f one right. paid_whole c m f old.fills now.fills values steps later answers (so.spent_on tolls f one right);
}

module _ {V W : Type 0} (c : Course W) (m m' : Meaning V W) (old v v' : View) (values values' : NamesOf V) (steps : List Step) (step : Step) (later : List Step) (answers : List Answer)
    (so : IsSoFar c m old v values steps (step ∷ later) answers) (rises : (s : ℕ) → v.faults s ≤ v'.faults s) (r : Result Answer AllocError) (done : Stepped m m' v v' values values' step.client step.act r) where
  -- the fills that were asked for the step, where it takes at most one way
  asked : TakeOneWay steps → c.HasTolls → (xs : NamesOf W) → HoldTold m values xs → v'.fills ≤ v.fills + act_toll c xs step.client step.act
  asked ways tolls xs hold =
      let h = done.toll (so.ways ways).0 (so.course.tolls tolls) xs hold in omega (arith, h, act_toll_less c m.course so.course xs step.client step.act)

  -- the fills that were asked for the step, where a tree is the document
  asked_on : c.HasTolls → (f : Finished) → c.IsDocument f.tree → (spent : IsPaidSoFar c m f old.fills v.fills values steps (step ∷ later) answers)
      → v'.fills ≤ v.fills + (owed_before m values spent.places step.client step.act + tree_toll c f.tree spent.places step.client step.act)
  asked_on tolls f one spent =
      let h = done.cost (so.course.tolls tolls) f.tree (so.course.document f.tree one) spent.places (held_places m spent.handed values spent.places spent.hold) in
      omega (arith, h, tree_toll_less c m.course so.course f.tree spent.places step.client step.act)

  -- of the text that the step follows a finished document that is right of all says the right place
  right_here : (f : Finished) → IsRight c.NamesAt f steps → IsRightFor m.course.NamesAt f step.act
  right_here f right = right_for_same c.NamesAt m.course.NamesAt so.course.named so.course.names f step.act (so.right f right).0

  -- the answers so far and this step cost no more than their tolls
  pub lazy_begun : IsLazy c old.fills v'.fills steps answers
  lazy_begun = record {
    ways = λ ways tolls.
        let spent = so.spent ways tolls in
        spent_begun m.IsTold (act_toll c) (names_on c.trail) old.fills v.fills v'.fills values steps step later answers spent (asked ways tolls spent.names spent.hold);
    tree = λ tolls f one right.
        let spent = so.spent_on tolls f one right in
        paid_begun c m m' so.course done.stays f old.fills v.fills v'.fills values values' steps step later answers spent (asked_on tolls f one spent);
  }

  -- the answers before this step are those of a run
  pub earlier : IsRun c old.faults v'.faults steps answers
  earlier = so_far_run c m old v v' values steps (step ∷ later) answers so rises

  module _ (a : Answer) (is : IsStep m m' v.faults v'.faults values values' step.client step.act a) where
    -- the answers so far with the one to this step are the document's
    on_tree : (f : Finished) → c.IsDocument f.tree → IsRight c.NamesAt f steps → IsOnTree c.NamesAt m'.IsAt f values' steps later (answers ++ a ∷ [])
    on_tree f one right =
        let on = so.told f one right in
        let now = is.told f (so.course.document f.tree one) (right_here f right) on.places on.hold in
        record {
          places = (answered f on.places (note_of a) step).1;
          hold = subst (λ x. HoldBoth m'.IsAt values' (names_after f on.places step.client step.act x)) now.0 now.2;
          then = λ more h. subst (λ xs. AreOf c.NamesAt f no_names xs steps) (sym (pushed answers a more)) (on.then (a ∷ more) (now.0, told_more m.course.NamesAt c.NamesAt so.course.names on.places step.client step.act a now.1, h));
        }

    -- the answer to this step may be given
    may : MayAnswer c.roots c.MayFail so.nodes step.client step.act a
    may = subst (λ b. MayAnswer b c.MayFail so.nodes step.client step.act a) so.course.roots
        (answer_more m.course.MayFail c.MayFail so.course.may m.course.roots so.nodes step.client step.act a (is.allowed so.nodes so.hold).0)

    -- where the step was answered, it was paid for
    paid_on : NamesGiven m' values values' step.client step.act a → c.HasTolls → (f : Finished) → c.IsDocument f.tree → IsRight c.NamesAt f steps
        → IsPaidSoFar c m' f old.fills v'.fills values' steps later (answers ++ a ∷ [])
    paid_on given tolls f one right =
        let spent = so.spent_on tolls f one right in
        let places = held_places m spent.handed values spent.places spent.hold in
        let now = is.told f (so.course.document f.tree one) (right_here f right) spent.places places in
        paid_next c m m' so.course done.stays f old.fills v.fills v'.fills values values' steps step later answers spent (asked_on tolls f one spent) a given now.2
        (is.paid (so.course.tolls tolls) f.tree (so.course.document f.tree one) spent.places places)

    -- where the step was answered, one step more is
    pub next : NamesGiven m' values values' step.client step.act a → IsSoFar c m' old v' values' steps later (answers ++ a ∷ [])
    next given = record {
      course = goes_on_twice so.course done.stays.course;
      nodes = nodes_after so.nodes step.client step.act a;
      hold = (is.allowed so.nodes so.hold).1;
      allowed = λ more h. subst (λ xs. AreAnswers c.roots c.MayFail no_names xs steps) (sym (pushed answers a more)) (so.allowed (a ∷ more) (may, h));
      right = λ f right. (so.right f right).1;
      told = on_tree;
      counted = λ s. let h = so.counted s in let k = is.counted s in omega (arith, h, k, faults_push s answers a);
      ways = λ ways. (so.ways ways).1;
      spent = λ ways tolls.
          let spent = so.spent ways tolls in
          let Holds : Trail W → Type 0 = λ trail. HoldTold m' values' (names_on trail spent.names step.client step.act a) in
          spent_step m.IsTold m'.IsTold (act_toll c) (names_on c.trail) old.fills v.fills v'.fills values values' steps step later answers a spent
          (asked ways tolls spent.names spent.hold) (subst Holds so.course.trail (is.trail (so.ways ways).0 (so.course.tolls tolls) spent.names spent.hold));
      spent_on = paid_on given;
    }
