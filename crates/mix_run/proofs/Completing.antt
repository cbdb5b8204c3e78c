-- Answers that are completed by some without a fault, and whose faults answers may be.
use Rattle.std.proofs.Common.{◌≡◌, ◌∙◌, ℕ, ◌+◌, Bool, false, cond, ◌||◌, List, [], ◌∷◌, ◌++◌, Option, Some, None, is_some, refl, ap, arith, length, append_assoc, eq-eqb}
use Rattle.mix_tree.specs.Forest.{LabelledTree, none}
use Rattle.bracket_text.specs.Canonical.{canon}
use Rattle.mix_script.specs.Answers.{line_of}
use Rattle.node_text.specs.Grammar.{Spells}
use Rattle.node_text.specs.Node.{node}
use Rattle.mix_script.specs.Allowed.{Nodes, MayFind, MayFollow, MayRead, MayPrint, MaySpell, WhereHeld, MayAnswer, nodes_after, AreAnswers, answer_lines, mark_of, is_fault, has_fault, is_mark_of, faults_of}
use Rattle.mix_script.specs.declared.step.Act.{Act}
use Rattle.mix_script.specs.declared.step.Act.TheVariants.{Root, Move, Select, Fetch, Print, Id, At}
use Rattle.mix_script.specs.declared.step.Step.{Step}
use Rattle.mix_script.specs.declared.answer.Answer.{Answer}
use Rattle.mix_script.specs.declared.answer.Answer.TheVariants as answer

-- one where a condition holds, else zero
abbrev one_if : Bool → ℕ
one_if b = cond b 1 0

-- an answer where a name holds a node, and no node where it holds none
abbrev or_no_node : Option (Unit {0}) → Answer → Answer
or_no_node None a = answer.NoNode
or_no_node (Some node) a = a

-- a minus sign is the text of the root
root_spelled : Spells (45 ∷ []) (node [] [])
root_spelled = record { formed = record { root = λ e. refl; places = tt }; small = record { levels = tt; inside = tt }; text = refl }

-- the answer to an act that is no fault: a node for the root, the text of the root for an identifier, and else none or no node
abbrev any_answer : Nodes → List ℕ → Act → Answer
any_answer nodes client (Root name) = answer.Node
any_answer nodes client (Move way name from) = or_no_node (nodes client from) answer.None
any_answer nodes client (Select name from label) = or_no_node (nodes client from) answer.None
any_answer nodes client (Fetch from) = or_no_node (nodes client from) (answer.Label [])
any_answer nodes client (Print from) = or_no_node (nodes client from) (answer.Text (canon (record { label = []; kids = none })))
any_answer nodes client (Id from) = or_no_node (nodes client from) (answer.Id (45 ∷ []))
any_answer nodes client (At name d) = answer.Foreign

-- an answer with a property has it where the name holds a node, and where it holds none the answer is no node
held_any : (P : Answer → Type 0) (a : Answer) → P a → (o : Option (Unit {0})) → WhereHeld o P (or_no_node o a)
held_any P a p None = refl
held_any P a p (Some node) = p

-- the answer for a name that may hold a node is no fault, where the answer itself is none
held_unmarked : (a : Answer) → mark_of a ≡ None → (o : Option (Unit {0})) → mark_of (or_no_node o a) ≡ None
held_unmarked a e None = refl
held_unmarked a e (Some node) = e

-- the answer without a fault to any act marks no source
any_unmarked : (nodes : Nodes) (client : List ℕ) (act : Act) → mark_of (any_answer nodes client act) ≡ None
any_unmarked nodes client (Root name) = refl
any_unmarked nodes client (Move way name from) = held_unmarked answer.None refl (nodes client from)
any_unmarked nodes client (Select name from label) = held_unmarked answer.None refl (nodes client from)
any_unmarked nodes client (Fetch from) = held_unmarked (answer.Label []) refl (nodes client from)
any_unmarked nodes client (Print from) = held_unmarked (answer.Text (canon (record { label = []; kids = none }))) refl (nodes client from)
any_unmarked nodes client (Id from) = held_unmarked (answer.Id (45 ∷ [])) refl (nodes client from)
any_unmarked nodes client (At name d) = refl

module _ (May : ℕ → Type 0) (names : List (List ℕ)) where
  -- an act may be answered by the answer without a fault
  any_may : (nodes : Nodes) (client : List ℕ) (act : Act) → MayAnswer false May nodes client act (any_answer nodes client act)
  any_may nodes client (Root name) = refl
  any_may nodes client (Move way name from) = held_any (MayFind May) answer.None tt (nodes client from)
  any_may nodes client (Select name from label) = held_any (MayFind May) answer.None tt (nodes client from)
  any_may nodes client (Fetch from) = held_any MayRead (answer.Label []) tt (nodes client from)
  any_may nodes client (Print from) =
      let t : LabelledTree = record { label = []; kids = none } in
      held_any (MayPrint May) (answer.Text (canon t)) (t, refl) (nodes client from)
  any_may nodes client (Id from) = held_any MaySpell (answer.Id (45 ∷ [])) (node [] [], root_spelled) (nodes client from)
  any_may nodes client (At name d) = tt

  -- with more answers, none of them a fault, all steps are answered
  pub record IsCompleted (nodes : Nodes) (answers : List Answer) (steps : List Step) (more : List Answer) : Type 0 where
    pub allowed : AreAnswers false May nodes (answers ++ more) steps
    pub all : length (answers ++ more) ≡ length steps
    pub fault : has_fault (answers ++ more) ≡ has_fault answers
    pub faults : (s : ℕ) → faults_of s (answers ++ more) ≡ faults_of s answers
    pub rest : List ℕ
    pub lines : answer_lines names answers steps ++ rest ≡ answer_lines names (answers ++ more) steps

  -- answers that may be given are always completed by more without a fault
  pub complete : (nodes : Nodes) (answers : List Answer) (steps : List Step) → AreAnswers false May nodes answers steps → (more : List Answer) × IsCompleted nodes answers steps more
  complete nodes [] [] h = ([], record { allowed = tt; all = refl; fault = refl; faults = λ s. refl; rest = []; lines = refl })
  complete nodes [] (step ∷ steps) h =
      let a = any_answer nodes step.client step.act in
      let none_of : mark_of a ≡ None = any_unmarked nodes step.client step.act in
      let later = complete (nodes_after nodes step.client step.act a) [] steps tt in
      let c = later.1 in (
        a ∷ later.0,
        record {
          allowed = (any_may nodes step.client step.act, c.allowed);
          all = (let e = c.all in omega (arith, e));
          fault = ap (λ m. is_some m || has_fault later.0) none_of ∙ c.fault;
          faults = λ s.
              let still : 0 + faults_of s later.0 ≡ faults_of s later.0 = omega arith in
              ap (λ m. one_if (is_mark_of s m) + faults_of s later.0) none_of ∙ still ∙ c.faults s;
          rest = answer_lines names (a ∷ later.0) (step ∷ steps);
          lines = refl;
        },
      )
  complete nodes (a ∷ answers) [] h = absurd h
  complete nodes (a ∷ answers) (step ∷ steps) h =
      let later = complete (nodes_after nodes step.client step.act a) answers steps h.1 in
      let c = later.1 in (
        later.0,
        record {
          allowed = (h.0, c.allowed);
          all = (let e = c.all in omega (arith, e));
          fault = ap (λ b. is_fault a || b) c.fault;
          faults = λ s. ap (λ n. one_if (is_mark_of s (mark_of a)) + n) (c.faults s);
          rest = c.rest;
          lines = append_assoc (line_of names step.client a) (answer_lines names answers steps) c.rest ∙ ap (λ r. line_of names step.client a ++ r) c.lines;
        },
      )

-- a sum of one and more is not zero
no_sum : (n m : ℕ) → n ≡ 1 → n + m ≡ 0 → ⊥
no_sum n m e z = omega (arith, e, z)

-- a fault of a source among answers is counted
marked_counts : (s : ℕ) (a : Answer) (answers : List Answer) → mark_of a ≡ Some s → faults_of s (a ∷ answers) ≡ 0 → ⊥
marked_counts s a answers e z =
    let one : one_if (is_mark_of s (mark_of a)) ≡ 1 = ap (λ m. one_if (is_mark_of s m)) e ∙ ap one_if (eq-eqb s s refl) in
    no_sum (one_if (is_mark_of s (mark_of a))) (faults_of s answers) one z

-- what is not counted at all is not counted in later answers
after : (b : Bool) (more : ℕ) → cond b 1 0 + more ≡ 0 → more ≡ 0
after b more e = omega (arith, e)

module _ (May Real : ℕ → Type 0) where
  -- where the marked source of an answer that may be given has another property, the answer may be given by that
  find_may : (a : Answer) → ((s : ℕ) → mark_of a ≡ Some s → May s → Real s) → MayFind May a → MayFind Real a
  find_may answer.Node w h = h
  find_may answer.None w h = h
  find_may (answer.Label l) w h = h
  find_may (answer.Text x) w h = h
  find_may answer.NoNode w h = h
  find_may (answer.Fault s) w h = w s refl h
  find_may (answer.Id x) w h = h
  find_may answer.Foreign w h = h

  -- an answer to a print that may be under one property of sources may be under another, where a fault of a source with the first has the second
  print_may : (a : Answer) → ((s : ℕ) → mark_of a ≡ Some s → May s → Real s) → MayPrint May a → MayPrint Real a
  print_may answer.Node w h = h
  print_may answer.None w h = h
  print_may (answer.Label l) w h = h
  print_may (answer.Text x) w h = h
  print_may answer.NoNode w h = h
  print_may (answer.Fault s) w h = w s refl h
  print_may (answer.Id x) w h = h
  print_may answer.Foreign w h = h

  -- an answer where a text is followed that may be under one property of sources may be under another, where a fault of a source with the first has the second
  follow_may : (a : Answer) → ((s : ℕ) → mark_of a ≡ Some s → May s → Real s) → MayFollow May a → MayFollow Real a
  follow_may answer.Node w h = h
  follow_may answer.None w h = h
  follow_may (answer.Label l) w h = h
  follow_may (answer.Text x) w h = h
  follow_may answer.NoNode w h = h
  follow_may (answer.Fault s) w h = w s refl h
  follow_may (answer.Id x) w h = h
  follow_may answer.Foreign w h = h

  -- where one property of an answer gives another, an answer with the one where a name holds a node is one with the other
  held_may : (P Q : Answer → Type 0) (a : Answer) → (P a → Q a) → (o : Option (Unit {0})) → WhereHeld o P a → WhereHeld o Q a
  held_may P Q a w None h = h
  held_may P Q a w (Some node) h = w h

  -- an answer to an act that may be under one property of sources may be under another, where the source that it marks has the second
  answer_may : (nodes : Nodes) (client : List ℕ) (act : Act) (a : Answer) → ((s : ℕ) → mark_of a ≡ Some s → May s → Real s) → MayAnswer false May nodes client act a
      → MayAnswer false Real nodes client act a
  answer_may nodes client (Root name) a w h = h
  answer_may nodes client (Move way name from) a w h = held_may (MayFind May) (MayFind Real) a (find_may a w) (nodes client from) h
  answer_may nodes client (Select name from label) a w h = held_may (MayFind May) (MayFind Real) a (find_may a w) (nodes client from) h
  answer_may nodes client (Fetch from) a w h = h
  answer_may nodes client (Print from) a w h = held_may (MayPrint May) (MayPrint Real) a (print_may a w) (nodes client from) h
  answer_may nodes client (Id from) a w h = h
  answer_may nodes client (At name d) a w h = follow_may a w h

  -- answers may be given by a property of sources that each source with a fault among them has
  pub answers_may : (nodes : Nodes) (answers : List Answer) (steps : List Step) → ((s : ℕ) → May s → (faults_of s answers ≡ 0 → ⊥) → Real s) → AreAnswers false May nodes answers steps
      → AreAnswers false Real nodes answers steps
  answers_may nodes [] steps w h = tt
  answers_may nodes (a ∷ answers) [] w h = absurd h
  answers_may nodes (a ∷ answers) (step ∷ steps) w h = (
    answer_may nodes step.client step.act a (λ s e may. w s may (λ z. marked_counts s a answers e z)) h.0,
    answers_may (nodes_after nodes step.client step.act a) answers steps (λ s may k. w s may (λ z. k (after (is_mark_of s (mark_of a)) (faults_of s answers) z))) h.1,
  )
