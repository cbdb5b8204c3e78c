-- Texts by another relation of what they say to places.
use Rattle.std.proofs.Common.{ℕ, Bool, IsTrue, List, [], ◌∷◌, Option, Some, None}
use Rattle.std.specs.Option.{MatchOption}
use Rattle.node_text.specs.Node.{NodeValue}
use Rattle.mix_script.specs.Transcript.{Finished, Names, Naming, Note, nothing, failed, spelled, IsSense, IsRightFor, IsRight, IsTextOf, IsTextFor, MayBeNoted, AreNotes, answered, first_note, later_notes}
use Rattle.mix_script.specs.Allowed.{note_of}
use Rattle.mix_script.specs.Finished.{IsTold, AreOf}
use Rattle.mix_script.specs.Steps.{is_plain, ArePlain}
use Rattle.mix_script.specs.declared.step.Act.{Act}
use Rattle.mix_script.specs.declared.step.Act.TheVariants.{Root, Move, Select, Fetch, Print, Id, At}
use Rattle.mix_script.specs.declared.step.Step.{Step}
use Rattle.mix_script.specs.declared.answer.Answer.{Answer}
use Rattle.mix_script.specs.declared.answer.Answer.TheVariants as answer

-- plain steps follow no text, so that of each text that they follow a finished document says the right place
pub plain_right : (NamesAt : Naming) (f : Finished) (steps : List Step) → ArePlain steps → IsRight NamesAt f steps
plain_right NamesAt f [] p = tt
plain_right NamesAt f (step ∷ steps) p = (of step.act p.0, plain_right NamesAt f steps p.1)
  where
    of : (act : Act) → IsTrue (is_plain act) → IsRightFor NamesAt f act
    of (Root name) q = tt
    of (Move way name from) q = tt
    of (Select name from label) q = tt
    of (Fetch from) q = tt
    of (Print from) q = tt
    of (Id from) q = tt
    of (At name node) q = cc

module _ (NamesAt Other : Naming) (more : (node : NodeValue) (p : List ℕ) → NamesAt node p → Other node p) where
  -- a text of an identifier of the node at a place is one by a relation that more holds of
  text_more : (o : Option (List ℕ)) (text : List ℕ) → MatchOption o ⊥ (IsTextOf NamesAt text) → MatchOption o ⊥ (IsTextOf Other text)
  text_more None text h = h
  text_more (Some place) text h = (h.0, h.1, h.2, more h.0 place h.3)

  -- a text that answers an act does by a relation that more holds of
  pub text_for_more : (names : Names) (client : List ℕ) (act : Act) (text : List ℕ) → IsTextFor NamesAt names client act text → IsTextFor Other names client act text
  text_for_more names client (Root name) text h = h
  text_for_more names client (Move way name from) text h = h
  text_for_more names client (Select name from label) text h = h
  text_for_more names client (Fetch from) text h = h
  text_for_more names client (Print from) text h = h
  text_for_more names client (Id from) text h = text_more (names client from) text h
  text_for_more names client (At name node) text h = h

  -- a text that is answered is one of its node by a relation that more holds of
  pub told_more : (names : Names) (client : List ℕ) (act : Act) (a : Answer) → IsTold NamesAt names client act a → IsTold Other names client act a
  told_more names client act answer.Node h = tt
  told_more names client act answer.None h = tt
  told_more names client act (answer.Label l) h = tt
  told_more names client act (answer.Text x) h = tt
  told_more names client act answer.NoNode h = tt
  told_more names client act (answer.Fault s) h = tt
  told_more names client act (answer.Id x) h = text_for_more names client act x h
  told_more names client act answer.Foreign h = tt

  -- answers of a document are its answers by a relation that more holds of
  pub of_more : (f : Finished) (names : Names) (answers : List Answer) (steps : List Step) → AreOf NamesAt f names answers steps → AreOf Other f names answers steps
  of_more f names [] steps h = tt
  of_more f names (a ∷ answers) [] h = h
  of_more f names (a ∷ answers) (step ∷ steps) h =
      (h.0, told_more names step.client step.act a h.1, of_more f (answered f names (note_of a) step).1 answers steps h.2)

  -- a note that may stand may stand by a relation that more holds of
  noted_more : (roots : Bool) (names : Names) (step : Step) (note : Note) → MayBeNoted roots NamesAt names step note → MayBeNoted roots Other names step note
  noted_more roots names step nothing h = h
  noted_more roots names step (failed source) h = h
  noted_more roots names step (spelled text) h = text_for_more names step.client step.act text h

  -- notes that stand where they may stand so by a relation that more holds of
  pub notes_more : (roots : Bool) (f : Finished) (names : Names) (notes : List Note) (steps : List Step) → AreNotes roots NamesAt f names notes steps → AreNotes roots Other f names notes steps
  notes_more roots f names notes [] h = tt
  notes_more roots f names notes (step ∷ steps) h =
      (noted_more roots names step (first_note notes) h.0, notes_more roots f (answered f names (first_note notes) step).1 (later_notes notes) steps h.1)

  module _ (less : (node : NodeValue) (p : List ℕ) → Other node p → NamesAt node p) where
    -- what a text is said to name it is said to name by a relation that holds of the same
    sense_same : (node : NodeValue) (place : Option (List ℕ)) → IsSense NamesAt node place → IsSense Other node place
    sense_same node None h = λ p k. h p (less node p k)
    sense_same node (Some place) h = more node place h

    -- a finished document says the right place by a relation that holds of the same
    pub right_for_same : (f : Finished) (act : Act) → IsRightFor NamesAt f act → IsRightFor Other f act
    right_for_same f (Root name) h = tt
    right_for_same f (Move way name from) h = tt
    right_for_same f (Select name from label) h = tt
    right_for_same f (Fetch from) h = tt
    right_for_same f (Print from) h = tt
    right_for_same f (Id from) h = tt
    right_for_same f (At name node) h = sense_same node (f.named node) h

    -- of each text that steps follow a finished document says the right place by a relation that holds of the same
    pub right_same : (f : Finished) (steps : List Step) → IsRight NamesAt f steps → IsRight Other f steps
    right_same f [] h = tt
    right_same f (step ∷ steps) h = (right_for_same f step.act h.0, right_same f steps h.1)
