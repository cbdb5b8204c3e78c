-- Acts at which nothing is asked.
use Rattle.std.proofs.Common.{◌≡◌, ◌∙◌, ℕ, List, [], Option, Some, None, Result, Ok, Err, refl, ap, sym, subst, arith}
use Rattle.std.specs.Prelude.{IfOk, MatchOption, option_and_then}
use Rattle.std.specs.declared.alloc.AllocError.{AllocError}
use Rattle.mix_tree.specs.Place.{tree_at}
use Rattle.lxp_core.specs.View.{View}
use Rattle.mix_script.specs.Names.{NamesOf}
use Rattle.mix_script.specs.Trails.{place_to}
use Rattle.mix_script.specs.Transcript.{Names, IsTextOf, move_answer, label_answer, text_answer, if_held, selected}
use Rattle.mix_script.specs.Allowed.{Nodes, MayFind, MayRead, MayPrint, MaySpell, WhereHeld}
use Rattle.mix_script.specs.declared.step.Way.{Way}
use Rattle.mix_script.specs.declared.step.Act.{Act}
use Rattle.mix_script.specs.declared.step.Act.TheVariants.{Move, Select, Fetch, Print, Id}
use Rattle.mix_script.specs.declared.answer.Answer.{Answer}
use Rattle.mix_script.specs.declared.answer.Answer.TheVariants as answer
use Rattle.mix_script.proofs.Holding.{some_other, none_other}
use Rattle.mix_session.specs.Meaning.{Meaning, Stays}
use Rattle.mix_session.specs.Seeking.{IsSpelled, ReadsLabel}
use Rattle.mix_session.specs.Held.{HoldNodes, HoldPlaces, IsSession}
use Rattle.mix_session.specs.Stepped.{IsStep, NamesGiven, IsTolled, IsTolledOn, Stepped, owed_for}
use Rattle.mix_session.proofs.Acts.{answered, refused}

module _ {V W : Type 0} (m : Meaning V W) (v : View) (stays : Stays m m) (values : NamesOf V) (session : IsSession m values) (client from : List ℕ) where
  -- where nothing was asked, an act costs no more than its toll
  idle : (act : Act) → IsTolled m v.fills v.fills values client act
  idle act one tolls xs hold = omega arith

  -- where nothing was asked, an act costs no more than its toll at the places that the names hold
  free : (act : Act) → IsTolledOn m v.fills v.fills values client act
  free act tolls t one places hold = omega arith

  -- where the name holds nothing, the step is answered with no node
  module _ (none : values client from ≡ None) where
    no_node : (nodes : Nodes) → HoldNodes m values nodes → nodes client from ≡ None
    no_node nodes hold = none_other (λ n node. m.IsNode n) (values client from) (nodes client from) none (hold client from)

    no_place : (places : Names) → HoldPlaces m values places → places client from ≡ None
    no_place places hold = none_other m.IsAt (values client from) (places client from) none (hold client from)

    nothing_owed : (places : Names) → owed_for m (values client from) (places client from) ≡ 0
    nothing_owed places = ap (λ (o : Option V). owed_for m o (places client from)) none

    pub no_move : (way : Way) (name : List ℕ) → Stepped m m v v values values client (Move way name from) (Ok answer.NoNode)
    no_move way name = answered m m v v (λ s. omega arith) stays values session client (Move way name from) (idle (Move way name from)) (free (Move way name from)) values answer.NoNode
        (record {
          allowed = λ nodes hold. (subst (λ o. WhereHeld o (MayFind m.course.MayFail) answer.NoNode) (sym (no_node nodes hold)) refl, hold);
          told = λ f one right places hold. (sym (ap (λ o. if_held o (move_answer f.tree (option_and_then (place_to way) o))) (no_place places hold)), tt, hold);
          trail = λ one tolls xs hold. hold;
          paid = λ tolls t one places hold unmarked. nothing_owed places;
          counted = λ s. omega arith;
        }) refl

    pub no_select : (name label : List ℕ) → Stepped m m v v values values client (Select name from label) (Ok answer.NoNode)
    no_select name label = answered m m v v (λ s. omega arith) stays values session client (Select name from label) (idle (Select name from label)) (free (Select name from label)) values answer.NoNode
        (record {
          allowed = λ nodes hold. (subst (λ o. WhereHeld o (MayFind m.course.MayFail) answer.NoNode) (sym (no_node nodes hold)) refl, hold);
          told = λ f one right places hold. (sym (ap (λ o. if_held o (move_answer f.tree (option_and_then (selected f.tree label) o))) (no_place places hold)), tt, hold);
          trail = λ one tolls xs hold. hold;
          paid = λ tolls t one places hold unmarked. nothing_owed places;
          counted = λ s. omega arith;
        }) refl

    pub no_print : Stepped m m v v values values client (Print from) (Ok answer.NoNode)
    no_print = answered m m v v (λ s. omega arith) stays values session client (Print from) (idle (Print from)) (free (Print from)) values answer.NoNode
        (record {
          allowed = λ nodes hold. (subst (λ o. WhereHeld o (MayPrint m.course.MayFail) answer.NoNode) (sym (no_node nodes hold)) refl, hold);
          told = λ f one right places hold. (sym (ap (λ o. if_held o (text_answer (option_and_then (tree_at f.tree) o))) (no_place places hold)), tt, hold);
          trail = λ one tolls xs hold. hold;
          paid = λ tolls t one places hold unmarked. nothing_owed places;
          counted = λ s. omega arith;
        }) refl

    pub no_fetch : Stepped m m v v values values client (Fetch from) (Ok answer.NoNode)
    no_fetch = answered m m v v (λ s. omega arith) stays values session client (Fetch from) (idle (Fetch from)) (free (Fetch from)) values answer.NoNode
        (record {
          allowed = λ nodes hold. (subst (λ o. WhereHeld o MayRead answer.NoNode) (sym (no_node nodes hold)) refl, hold);
          told = λ f one right places hold. (sym (ap (λ o. label_answer (option_and_then (tree_at f.tree) o)) (no_place places hold)), tt, hold);
          trail = λ one tolls xs hold. hold;
          paid = λ tolls t one places hold unmarked. refl;
          counted = λ s. omega arith;
        }) refl

    pub no_id : Stepped m m v v values values client (Id from) (Ok answer.NoNode)
    no_id = answered m m v v (λ s. omega arith) stays values session client (Id from) (idle (Id from)) (free (Id from)) values answer.NoNode
        (record {
          allowed = λ nodes hold. (subst (λ o. WhereHeld o MaySpell answer.NoNode) (sym (no_node nodes hold)) refl, hold);
          told = λ f one right places hold. (sym (ap (λ o. if_held o (answer.Id [])) (no_place places hold)), tt, hold);
          trail = λ one tolls xs hold. hold;
          paid = λ tolls t one places hold unmarked. refl;
          counted = λ s. omega arith;
        }) refl

  -- the label that was read of the node that a name holds answers a step that asks for it
  pub fetched : (n : V) (label : List ℕ) → values client from ≡ Some n → ReadsLabel m n label → Stepped m m v v values values client (Fetch from) (Ok (answer.Label label))
  fetched n label held reads = answered m m v v (λ s. omega arith) stays values session client (Fetch from) (idle (Fetch from)) (free (Fetch from)) values (answer.Label label)
      (record {
        allowed = λ nodes hold.
            let node = some_other (λ n node. m.IsNode n) (values client from) (nodes client from) n held (hold client from) in
            (subst (λ o. WhereHeld o MayRead (answer.Label label)) (sym node.1) tt, hold);
        told = λ f one right places hold.
            let place = some_other m.IsAt (values client from) (places client from) n held (hold client from) in
            let there = reads place.0 place.2 f.tree one in
            let e : label_answer (option_and_then (tree_at f.tree) (places client from)) ≡ answer.Label label =
            ap (λ o. label_answer (option_and_then (tree_at f.tree) o)) place.1 ∙ ap label_answer there.1 ∙ ap answer.Label (sym there.2) in
            (sym e, tt, hold);
        trail = λ one tolls xs hold. hold;
        paid = λ tolls t one places hold unmarked. refl;
        counted = λ s. omega arith;
      }) refl

  -- where memory ran out while a label was copied, the step left what a step leaves
  pub unread : (e : AllocError) → Stepped m m v v values values client (Fetch from) (Err e)
  unread e = refused m m v v (λ s. omega arith) stays values session client (Fetch from) (idle (Fetch from)) (free (Fetch from)) values e refl

  -- the text that was told of the node that a name holds answers a step that asks for it
  module _ (n : V) (held : values client from ≡ Some n) where
    -- a text that was told may be answered
    spelled_may : (a : Answer) → IsSpelled m n a → MaySpell a
    spelled_may answer.Node h = h
    spelled_may answer.None h = h
    spelled_may (answer.Label l) h = h
    spelled_may (answer.Text x) h = h
    spelled_may answer.NoNode h = h
    spelled_may (answer.Fault s) h = h
    spelled_may (answer.Id x) h = (h.0, h.1)
    spelled_may answer.Foreign h = h

    -- a text that was told is one of the node, under the note that it shows
    spelled_step : (a : Answer) → IsSpelled m n a → IsStep m m v.faults v.faults values values client (Id from) a
    spelled_step answer.Node h = absurd h
    spelled_step answer.None h = absurd h
    spelled_step (answer.Label l) h = absurd h
    spelled_step (answer.Text x) h = absurd h
    spelled_step answer.NoNode h = absurd h
    spelled_step (answer.Fault s) h = absurd h
    spelled_step (answer.Id x) h = record {
      allowed = λ nodes hold.
          let node = some_other (λ n node. m.IsNode n) (values client from) (nodes client from) n held (hold client from) in
          (subst (λ o. WhereHeld o MaySpell (answer.Id x)) (sym node.1) (spelled_may (answer.Id x) h), hold);
      told = λ f one right places hold.
          let place = some_other m.IsAt (values client from) (places client from) n held (hold client from) in
          let named : IsTextOf m.course.NamesAt x place.0 = (h.0, h.1.formed, h.1.text, h.2.names place.0 place.2 f.tree one) in (
            sym (ap (λ o. if_held o (answer.Id x)) place.1),
            subst (λ (o : Option (List ℕ)). MatchOption o ⊥ (IsTextOf m.course.NamesAt x)) (sym place.1) named,
            hold,
          );
      trail = λ one tolls xs hold. hold;
      paid = λ tolls t one places hold unmarked. refl;
      counted = λ s. omega arith;
    }
    spelled_step answer.Foreign h = absurd h

    -- after a text was told all names hold what they held
    spelled_given : (a : Answer) → IsSpelled m n a → NamesGiven m values values client (Id from) a
    spelled_given answer.Node h = absurd h
    spelled_given answer.None h = absurd h
    spelled_given (answer.Label l) h = absurd h
    spelled_given (answer.Text x) h = absurd h
    spelled_given answer.NoNode h = absurd h
    spelled_given (answer.Fault s) h = absurd h
    spelled_given (answer.Id x) h = refl
    spelled_given answer.Foreign h = absurd h

    pub spelled_taken : (o : Result Answer AllocError) → IfOk o (IsSpelled m n) → Stepped m m v v values values client (Id from) o
    spelled_taken (Ok a) h =
        answered m m v v (λ s. omega arith) stays values session client (Id from) (idle (Id from)) (free (Id from)) values a (spelled_step a h) (spelled_given a h)
    spelled_taken (Err e) h = refused m m v v (λ s. omega arith) stays values session client (Id from) (idle (Id from)) (free (Id from)) values e refl
