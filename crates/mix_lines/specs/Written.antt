-- How far lines have come.
use Rattle.std.specs.Prelude.{◌≡◌, ◌⊎◌, ℕ, ◌+◌, ◌≤◌, Bool, List, [], ◌∷◌, ◌++◌, Option, length}
use Rattle.mix_base.specs.Counts.{HasRisenBy}
use Rattle.mix_io.specs.Contents.{Appends}
use Rattle.mix_script.specs.Names.{NamesOf, no_names}
use Rattle.lxp_core.specs.View.{View}
use Rattle.mix_script.specs.Trails.{TakeOneWay, names_on}
use Rattle.mix_script.specs.Transcript.{Finished, IsRight, Names, Naming, names_after}
use Rattle.mix_script.specs.Allowed.{Nodes, AreAnswers, has_fault, faults_of, begun, walks_owed}
use Rattle.mix_script.specs.Finished.{AreOf}
use Rattle.mix_script.specs.Holding.{HoldBoth}
use Rattle.mix_script.specs.declared.step.Act.{Act}
use Rattle.mix_script.specs.declared.step.Step.{Step}
use Rattle.mix_script.specs.declared.answer.Answer.{Answer}
use Rattle.mix_session.specs.Meaning.{Course, Meaning, GoesOn}
use Rattle.mix_session.specs.Held.{HoldNodes, IsSession}
use Rattle.mix_session.specs.Stepped.{act_toll, tree_toll}
use Rattle.mix_lines.specs.Ends.{charge_named}
use Rattle.mix_lines.specs.Heard.{Heard, steps_in}
use Rattle.mix_lines.specs.Lines.{spoken}

-- the names hold nodes at places of a finished document, from which its answers to the later steps, put after those so far, are its answers to all steps
pub record IsOnTree {V : Type 0} (NamesAt : Naming) (At : V → List ℕ → Type 0) (f : Finished) (values : NamesOf V) (steps later : List Step) (answers : List Answer) : Type 0 where
  pub places : Names
  pub hold : HoldBoth At values places
  pub then : (more : List Answer) → AreOf NamesAt f places more later → AreOf NamesAt f no_names (answers ++ more) steps

-- what was asked so far, with what the later steps may cost from what names hold now, is no more than what all steps may cost
pub record IsSpent {V W : Type 0} (With : V → W → Type 0) (cost : NamesOf W → List ℕ → Act → ℕ) (after : NamesOf W → List ℕ → Act → Answer → NamesOf W) (asked asked' : ℕ)
    (values : NamesOf V) (steps later : List Step) (answers : List Answer) : Type 0 where
  pub names : NamesOf W
  pub hold : HoldBoth With values names
  pub spent : (more : List Answer) → asked' + begun cost after names more later ≤ asked + begun cost after no_names (answers ++ more) steps

-- a node with its place is one of a list
abbrev pub IsAmong : {V : Type 0} → V → List ℕ → List (V × List ℕ) → Type 0
IsAmong n p [] = ⊥
IsAmong n p (one ∷ more) = ((n ≡ one.0) × (p ≡ one.1)) ⊎ IsAmong n p more

-- each node of a list is at the place that stands with it
abbrev pub AreAt : {V : Type 0} → (V → List ℕ → Type 0) → List (V × List ℕ) → Type 0
AreAt At [] = Unit {0}
AreAt At (one ∷ more) = At one.0 one.1 × AreAt At more

-- the sum of a number over the nodes of a list, which depends on a node and its place
abbrev pub sum_over : {V : Type 0} → (V → List ℕ → ℕ) → List (V × List ℕ) → ℕ
sum_over number [] = 0
sum_over number (one ∷ more) = number one.0 one.1 + sum_over number more

-- a node is at a place, and nothing is owed for it, or it is one of those that texts named
abbrev pub IsHeldFor : {V W : Type 0} → Meaning V W → List (V × List ℕ) → V → List ℕ → Type 0
IsHeldFor m handed n p = m.IsAt n p × ((m.owes n p ≡ 0) ⊎ IsAmong n p handed)

-- what was asked so far, with what is owed now for the nodes that texts named and what the later steps may cost from what names hold now, is no more than
-- what all steps may cost, with what the nodes that texts name may cost beside the tolls
pub record IsPaidSoFar {V W : Type 0} (c : Course W) (m : Meaning V W) (f : Finished) (asked asked' : ℕ) (values : NamesOf V) (steps later : List Step) (answers : List Answer) : Type 0 where
  pub places : Names
  pub handed : List (V × List ℕ)
  pub at : AreAt m.IsAt handed
  pub hold : HoldBoth (IsHeldFor m handed) values places
  pub spent : (more : List Answer)
      → asked' + (sum_over m.owes handed + (begun (tree_toll c f.tree) (names_after f) places more later + walks_owed (charge_named c f) (sum_over (λ n. c.charge) handed) more later))
      ≤ asked + (begun (tree_toll c f.tree) (names_after f) no_names (answers ++ more) steps + walks_owed (charge_named c f) 0 (answers ++ more) steps)

-- a walk of a course has come to a given meaning: the answers so far are those of a run, and the names hold what they should after them
pub record IsSoFar {V W : Type 0} (c : Course W) (m : Meaning V W) (old now : View) (values : NamesOf V) (steps later : List Step) (answers : List Answer) : Type 0 where
  pub course : GoesOn c m.course
  pub nodes : Nodes
  pub hold : HoldNodes m values nodes
  pub allowed : (more : List Answer) → AreAnswers c.roots c.MayFail nodes more later → AreAnswers c.roots c.MayFail no_names (answers ++ more) steps
  pub right : (f : Finished) → IsRight c.NamesAt f steps → IsRight c.NamesAt f later
  pub told : (f : Finished) → c.IsDocument f.tree → IsRight c.NamesAt f steps → IsOnTree c.NamesAt m.IsAt f values steps later answers
  pub counted : (s : ℕ) → HasRisenBy (faults_of s answers) (old.faults s) (now.faults s)
  pub ways : TakeOneWay steps → TakeOneWay later
  pub spent : TakeOneWay steps → c.HasTolls → IsSpent m.IsTold (act_toll c) (names_on c.trail) old.fills now.fills values steps later answers
  pub spent_on : c.HasTolls → (f : Finished) → c.IsDocument f.tree → IsRight c.NamesAt f steps → IsPaidSoFar c m f old.fills now.fills values steps later answers

-- a session has answered all that was heard so far, and the lines of its answers were written; this tells whether one of them is a fault
pub record IsFar {V W : Type 0} (c : Course W) (m : Meaning V W) (old now : View) (values : NamesOf V) (names : List (List ℕ)) (heard : List Heard) (before after : Option (List ℕ)) (marked : Bool) : Type 0 where
  pub session : IsSession m values
  pub answers : List Answer
  pub so : (later : List Step) → IsSoFar c m old now values (steps_in heard ++ later) later answers
  pub all : length answers ≡ length (steps_in heard)
  pub written : Appends before after (spoken names heard answers)
  pub marks : marked ≡ has_fault answers
