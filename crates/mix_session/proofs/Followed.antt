-- What following a text becomes as the answer to an act.
use Rattle.std.proofs.Common.{◌≡◌, ◌≤◌, ◌+◌, ℕ, List, Option, Some, None, Result, Ok, Err, refl, sym, subst, arith}
use Rattle.std.specs.Prelude.{IfOk, OnErr}
use Rattle.std.specs.declared.alloc.AllocError.{AllocError}
use Rattle.mix_base.specs.Counts.{HasRisen}
use Rattle.node_text.specs.Node.{NodeValue}
use Rattle.lxp_core.specs.View.{View}
use Rattle.mix_script.specs.Names.{NamesOf}
use Rattle.mix_script.specs.Transcript.{Finished, IsRightFor, IsSense, Naming, Names, named_answer, answer_of, names_after}
use Rattle.mix_script.specs.Allowed.{Nodes, MayFollow, nodes_after, note_of}
use Rattle.mix_script.specs.Finished.{IsTold}
use Rattle.mix_script.specs.Holding.{Both}
use Rattle.mix_script.specs.declared.step.Act.TheVariants.{At}
use Rattle.mix_script.specs.declared.answer.Answer.{Answer}
use Rattle.mix_script.specs.declared.answer.Answer.TheVariants as answer
use Rattle.mix_script.proofs.Answering.{counted_answer}
use Rattle.mix_script.proofs.Holding.{hold_with, hold_weaker}
use Rattle.mix_session.specs.declared.walker.Found.{Found}
use Rattle.mix_session.specs.declared.walker.Found.TheVariants as found
use Rattle.mix_session.specs.Meaning.{Meaning, Stays}
use Rattle.mix_session.specs.Seeking.{IfNode, HasCause, IsNamedBy, IsFollowed, answer_found, answer_followed, names_found, names_followed}
use Rattle.mix_session.specs.Held.{HoldNodes, HoldPlaces, IsSession}
use Rattle.mix_session.specs.Stepped.{IsStep, NamesGiven, IsTolled, IsTolledOn, Stepped}
use Rattle.mix_session.proofs.Acts.{answered, refused}

-- where a text was followed to a node, and the document says of it the right place, the node stands there
followed_node : {V : Type 0} (NamesAt : Naming) (IsAt : V → List ℕ → Type 0) (node : NodeValue) (n : V) (o : Option (List ℕ)) → IsSense NamesAt node o → IsNamedBy NamesAt IsAt node (found.Node n)
    → (answer.Node ≡ named_answer o) × Both IsAt (Some n) o
followed_node NamesAt IsAt node n None right h = absurd (right h.0 h.1)
followed_node NamesAt IsAt node n (Some p) right h = (refl, h.2 p right)

-- where a text names no node, and the document says of it the right place, it says none
followed_none : {V : Type 0} (NamesAt : Naming) (IsAt : V → List ℕ → Type 0) (node : NodeValue) (o : Option (List ℕ)) → IsSense NamesAt node o → IsNamedBy NamesAt IsAt node found.None
    → answer.Foreign ≡ named_answer o
followed_none NamesAt IsAt node None right h = refl
followed_none NamesAt IsAt node (Some p) right h = absurd (h p right)

module _ {V W : Type 0} (m m' : Meaning V W) (v v' : View) (rises : (s : ℕ) → v.faults s ≤ v'.faults s) (stays : Stays m m') (values : NamesOf V) (session : IsSession m values) (client name : List ℕ) (node : NodeValue)
    (reach : m.course.HasTolls → v'.fills ≤ v.fills + m.course.reach node) where
  -- a step that follows a text takes no way
  pub follow_tolled : IsTolled m v.fills v'.fills values client (At name node)
  follow_tolled one = cc

  -- a step that follows a text costs no more than its text reaches
  pub follow_costs : IsTolledOn m v.fills v'.fills values client (At name node)
  follow_costs tolls t one places hold = let h = reach tolls in omega (arith, h)

  -- what following a text comes to may be answered
  follow_may : (r : Found V) → HasCause m.course.MayFail v.faults v'.faults r → MayFollow m.course.MayFail (answer_followed r)
  follow_may (found.Node n) h = tt
  follow_may found.None h = tt
  follow_may (found.Fault s) h = h.0

  -- after a text was followed names hold nodes
  follow_nodes : (r : Found V) → IfNode m'.IsNode r → (nodes : Nodes) → HoldNodes m values nodes → HoldNodes m' (names_followed values client name r) (nodes_after nodes client (At name node) (answer_followed r))
  follow_nodes (found.Node n) h nodes hold =
      hold_with (λ n node. m'.IsNode n) values nodes client name (Some n) (Some tt) (hold_weaker (λ n node. m.IsNode n) (λ n node. m'.IsNode n) values nodes (λ n node k. stays.node n k) hold) h
  follow_nodes found.None h nodes hold = hold_weaker (λ n node. m.IsNode n) (λ n node. m'.IsNode n) values nodes (λ n node k. stays.node n k) hold
  follow_nodes (found.Fault s) h nodes hold = hold_weaker (λ n node. m.IsNode n) (λ n node. m'.IsNode n) values nodes (λ n node k. stays.node n k) hold

  -- a text is followed as the document says, and names hold then the places that they should
  follow_told : (r : Found V) (f : Finished) → IsNamedBy m.course.NamesAt m'.IsAt node r → IsRightFor m.course.NamesAt f (At name node) → (places : Names) → HoldPlaces m values places
      → (answer_followed r ≡ answer_of f places (note_of (answer_followed r)) client (At name node)) × IsTold m.course.NamesAt places client (At name node) (answer_followed r)
      × HoldPlaces m' (names_followed values client name r) (names_after f places client (At name node) (answer_followed r))
  follow_told (found.Node n) f named right places hold =
      let there = followed_node m.course.NamesAt m'.IsAt node n (f.named node) right named in (
        there.0,
        tt,
        hold_with m'.IsAt values places client name (Some n) (f.named node) (hold_weaker m.IsAt m'.IsAt values places stays.place hold) there.1,
      )
  follow_told found.None f named right places hold = (followed_none m.course.NamesAt m'.IsAt node (f.named node) right named, tt, hold_weaker m.IsAt m'.IsAt values places stays.place hold)
  follow_told (found.Fault s) f named right places hold = (refl, tt, hold_weaker m.IsAt m'.IsAt values places stays.place hold)

  -- the fault that following a text was answered with was counted
  follow_counted : (r : Found V) → HasCause m.course.MayFail v.faults v'.faults r → (s : ℕ) → answer_followed r ≡ answer.Fault s → HasRisen (v.faults s) (v'.faults s)
  follow_counted (found.Node n) h s e = cc
  follow_counted found.None h s e = cc
  follow_counted (found.Fault k) h s e = let same : k ≡ s = cc in subst (λ j. HasRisen (v.faults j) (v'.faults j)) same h.1

  -- after a text was followed names hold what its answer says
  follow_given : (r : Found V) → NamesGiven m' values (names_followed values client name r) client (At name node) (answer_followed r)
  follow_given (found.Node n) = (n, tt, refl)
  follow_given found.None = refl
  follow_given (found.Fault s) = refl

  -- following a text is a step
  follow_step : (r : Found V) → IsFollowed m m' v.faults v'.faults node r → IsStep m m' v.faults v'.faults values (names_followed values client name r) client (At name node) (answer_followed r)
  follow_step r is = record {
    allowed = λ nodes hold. (follow_may r is.cause, follow_nodes r is.node nodes hold);
    told = λ f one right places hold. follow_told r f (is.place f.tree one) right places hold;
    trail = λ one. cc;
    paid = λ tolls t one places hold unmarked. refl;
    counted = counted_answer v.faults v'.faults (answer_followed r) rises (follow_counted r is.cause);
  }

  -- where a text was followed, that left what a step leaves
  pub follow_taken : (r : Found V) → IsFollowed m m' v.faults v'.faults node r → (values' : NamesOf V) (o : Result Answer AllocError) → IfOk o (λ a. a ≡ answer_followed r) → IfOk o (λ a. values' ≡ names_followed values client name r)
      → OnErr o (values' ≡ values) → Stepped m m' v v' values values' client (At name node) o
  follow_taken r is values' (Ok a) says after still =
      let On : NamesOf V → Type 0 = λ ys. Stepped m m' v v' values ys client (At name node) (Ok a) in
      subst On (sym after) (subst (λ x. Stepped m m' v v' values (names_followed values client name r) client (At name node) (Ok x)) (sym says)
      (answered m m' v v' rises stays values session client (At name node) follow_tolled follow_costs (names_followed values client name r) (answer_followed r) (follow_step r is) (follow_given r)))
  follow_taken r is values' (Err e) says after still = refused m m' v v' rises stays values session client (At name node) follow_tolled follow_costs values' e still

-- a search that found a node or failed is answered as following a text is
pub followed_answer : {V : Type 0} (r : Found V) → (r ≡ found.None → ⊥) → answer_found r ≡ answer_followed r
followed_answer (found.Node n) some = refl
followed_answer found.None some = absurd (some refl)
followed_answer (found.Fault s) some = refl

-- after a search that found a node or failed names hold what they hold after following a text
pub followed_names : {V : Type 0} (values : NamesOf V) (client name : List ℕ) (r : Found V) → (r ≡ found.None → ⊥) → names_found values client name r ≡ names_followed values client name r
followed_names values client name (found.Node n) some = refl
followed_names values client name found.None some = absurd (some refl)
followed_names values client name (found.Fault s) some = refl
