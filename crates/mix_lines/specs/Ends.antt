-- How lines end that answer what was heard.
use Rattle.std.specs.Prelude.{◌≡◌, ◌⊎◌, ℕ, ◌+◌, ◌≤◌, Bool, List, [], ◌∷◌, ◌++◌, length, take, Result, Ok, Err}
use Rattle.mix_base.specs.Counts.{HasRisen, HasRisenBy}
use Rattle.node_text.specs.Node.{NodeValue}
use Rattle.mix_io.specs.Views.{SinkView}
use Rattle.mix_io.specs.Contents.{Appends}
use Rattle.mix_script.specs.Names.{no_names}
use Rattle.lxp_core.specs.View.{View}
use Rattle.mix_script.specs.Trails.{TakeOneWay, names_on}
use Rattle.mix_script.specs.Transcript.{Finished, IsRight, names_after}
use Rattle.mix_script.specs.Allowed.{AreAnswers, has_fault, faults_of, begun, walks_owed}
use Rattle.mix_session.specs.Meaning.{Course}
use Rattle.mix_session.specs.Stepped.{act_toll, tree_toll}
use Rattle.mix_session.specs.Tolls.{toll_from}
use Rattle.mix_script.specs.Finished.{AreOf}
use Rattle.mix_script.specs.declared.step.Step.{Step}
use Rattle.mix_script.specs.declared.answer.Answer.{Answer}
use Rattle.mix_lines.specs.declared.fault.LinesFault.{LinesFault}
use Rattle.mix_lines.specs.declared.fault.LinesFault.TheVariants.{InputFailed, SinkFailed, OutOfMemory}
use Rattle.mix_lines.specs.Heard.{Heard, steps_in}
use Rattle.mix_lines.specs.Lines.{spoken}

-- what the walk to the node may cost that a text names, by what it says; nothing where it names none
abbrev pub charge_named : {W : Type 0} → Course W → Finished → NodeValue → ℕ
charge_named c f node = toll_from c.charge (f.named node)

-- answers to the first steps on a course: each is one that its step may have; on a finished document that is the course's and
-- says the right place of each text, each is the document's under the note that it shows; and the count of each source's
-- faults rose by as many as there are faults of it
pub record IsRun {W : Type 0} (c : Course W) (faults faults' : ℕ → ℕ) (steps : List Step) (answers : List Answer) : Type 0 where
  pub allowed : AreAnswers c.roots c.MayFail no_names answers steps
  pub told : (f : Finished) → c.IsDocument f.tree → IsRight c.NamesAt f steps → AreOf c.NamesAt f no_names answers steps
  pub counted : (s : ℕ) → HasRisenBy (faults_of s answers) (faults s) (faults' s)

-- no more fills were asked than the tolls of the steps that were begun come to: where no step takes more than one way; and
-- where a tree is the document, with what the nodes that texts named may cost beside the tolls
pub record IsLazy {W : Type 0} (c : Course W) (fills fills' : ℕ) (steps : List Step) (answers : List Answer) : Type 0 where
  pub ways : TakeOneWay steps → c.HasTolls → fills' ≤ fills + begun (act_toll c) (names_on c.trail) no_names answers steps
  pub tree : c.HasTolls → (f : Finished) → c.IsDocument f.tree → IsRight c.NamesAt f steps
      → fills' ≤ fills + (begun (tree_toll c f.tree) (names_after f) no_names answers steps + walks_owed (charge_named c f) 0 answers steps)

-- all that was heard was answered, and its lines were written; a fault line was written where this is marked. The first says what the
-- answers are, the second what they and one step more may have cost
pub record IsWhole (Are Cost : List Answer → Type 0) (names : List (List ℕ)) (heard : List Heard) (before after : SinkView) (marked : Bool) : Type 0 where
  pub answers : List Answer
  pub are : Are answers
  pub all : length answers ≡ length (steps_in heard)
  pub written : Appends before.written after.written (spoken names heard answers)
  pub cost : Cost answers
  pub marks : marked ≡ has_fault answers

-- the lines that answer the first part of what was heard were written whole, and at most what comes next was begun
pub record EndsBetween (Are Cost : List Answer → Type 0) (names : List (List ℕ)) (heard : List Heard) (before after : SinkView) : Type 0 where
  pub done : List Heard
  pub later : List Heard
  pub parts : heard ≡ done ++ later
  pub answers : List Answer
  pub are : Are answers
  pub all : length answers ≡ length (steps_in done)
  pub written : Appends before.written after.written (spoken names done answers)
  pub cost : Cost answers

-- the lines that answer the first part of what was heard were written whole, and a prefix of the line of what comes next
pub record EndsWithin (Are Cost : List Answer → Type 0) (names : List (List ℕ)) (heard : List Heard) (before after : SinkView) : Type 0 where
  pub done : List Heard
  pub next : Heard
  pub later : List Heard
  pub parts : heard ≡ done ++ next ∷ later
  pub answers : List Answer
  pub last : List Answer
  pub are : Are (answers ++ last)
  pub all : length answers ≡ length (steps_in done)
  pub one : length last ≡ length (steps_in (next ∷ []))
  pub count : ℕ
  pub written : Appends before.written after.written (spoken names done answers ++ take count (spoken names (next ∷ []) last))
  pub cost : Cost answers

-- how lines end that answer what was heard: all were written, where the input failed too; or the sink failed in a line; or memory ran out,
-- between two lines or in one
abbrev pub EndsBy : (List Answer → Type 0) → (List Answer → Type 0) → List (List ℕ) → List Heard → SinkView → SinkView → Result Bool LinesFault → Type 0
EndsBy Are Cost names heard before after (Ok marked) = IsWhole Are Cost names heard before after marked
EndsBy Are Cost names heard before after (Err InputFailed) = (marked : Bool) × IsWhole Are Cost names heard before after marked
EndsBy Are Cost names heard before after (Err SinkFailed) = HasRisen before.faults after.faults × EndsWithin Are Cost names heard before after
EndsBy Are Cost names heard before after (Err OutOfMemory) = EndsBetween Are Cost names heard before after ⊎ EndsWithin Are Cost names heard before after

-- how lines on a course end that answer what was heard, over sources that meant the first view before and mean the second after
abbrev pub Ends : {W : Type 0} → Course W → View → View → List (List ℕ) → List Heard → SinkView → SinkView → Result Bool LinesFault → Type 0
Ends c old new names heard before after r =
    EndsBy (IsRun c old.faults new.faults (steps_in heard)) (IsLazy c old.fills new.fills (steps_in heard)) names heard before after r

-- lines that need no input don't end by its failure
abbrev pub IsInputless : Result Bool LinesFault → Type 0
IsInputless (Ok marked) = Unit {0}
IsInputless (Err InputFailed) = ⊥
IsInputless (Err SinkFailed) = Unit {0}
IsInputless (Err OutOfMemory) = Unit {0}
