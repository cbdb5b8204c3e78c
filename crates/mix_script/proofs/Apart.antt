-- A client's steps are answered as if the others' were not there.
use Rattle.std.proofs.Common.{◌≡◌, ◌∙◌, ℕ, Bool, true, false, cond, ◌&&◌, List, [], ◌∷◌, ◌++◌, Option, None, option_and_then, refl, ap, sym, subst}
use Rattle.std.proofs.lemmas.Slice.Eq.{bytes_eq-Decides}
use Rattle.std.specs.Str.{bytes_eq}
use Rattle.mix_tree.specs.Place.{tree_at}
use Rattle.mix_script.specs.Names.{with_name, no_names}
use Rattle.mix_script.specs.Answers.{line_of}
use Rattle.mix_script.specs.Trails.{place_to, with_named}
use Rattle.mix_script.specs.Transcript.{Finished, Names, Note, selected, goal_of, move_answer, label_answer, text_answer, id_answer, if_held, unless_failed, answer_of, names_after, answered, first_note, later_notes, lines_from}
use Rattle.mix_script.specs.Clients.{own_steps, own_notes, own_lines_from, ClientsAreApart}
use Rattle.mix_script.specs.declared.step.Act.{Act}
use Rattle.mix_script.specs.declared.step.Act.TheVariants.{Root, Move, Select, Fetch, Print, Id, At}
use Rattle.mix_script.specs.declared.step.Step.{Step}
use Rattle.mix_script.specs.declared.answer.Answer.{Answer}
use Rattle.mix_script.specs.declared.answer.Answer.TheVariants as answer

-- the names of a client hold the same
abbrev Agree : List ℕ → Names → Names → Type 0
Agree client names others = (n : List ℕ) → names client n ≡ others client n

module _ (f : Finished) (client : List ℕ) (names others : Names) (same : Agree client names others) where
  -- an act of a client asks for the same goal where the client's names hold the same
  same_goal : (act : Act) → goal_of f names client act ≡ goal_of f others client act
  same_goal (Root name) = refl
  same_goal (Move way name from) = ap (option_and_then (place_to way)) (same from)
  same_goal (Select name from label) = ap (option_and_then (selected f.tree label)) (same from)
  same_goal (Fetch from) = refl
  same_goal (Print from) = refl
  same_goal (Id from) = refl
  same_goal (At name node) = refl

  -- a client's act is answered alike where its names hold the same
  same_answer : (note : Note) (act : Act) → answer_of f names note client act ≡ answer_of f others note client act
  same_answer note (Root name) = refl
  same_answer note (Move way name from) = ap (λ o. if_held o (unless_failed note (move_answer f.tree (option_and_then (place_to way) o)))) (same from)
  same_answer note (Select name from label) = ap (λ o. if_held o (unless_failed note (move_answer f.tree (option_and_then (selected f.tree label) o)))) (same from)
  same_answer note (Fetch from) = ap (λ o. label_answer (option_and_then (tree_at f.tree) o)) (same from)
  same_answer note (Print from) = ap (λ o. if_held o (unless_failed note (text_answer (option_and_then (tree_at f.tree) o)))) (same from)
  same_answer note (Id from) = ap (λ o. if_held o (id_answer note)) (same from)
  same_answer note (At name node) = refl

  -- where a client's names hold the same, they do after one of them holds the same new thing
  same_with : (name : List ℕ) (v w : Option (List ℕ)) → v ≡ w → Agree client (with_name names client name v) (with_name others client name w)
  same_with name v w e n = of (bytes_eq client client && bytes_eq name n)
    where
      of : (b : Bool) → cond b v (names client n) ≡ cond b w (others client n)
      of true = e
      of false = same n

  -- where a client's names hold the same, they do after the name that an act of the client names holds the same new thing
  same_named : (act : Act) (v w : Option (List ℕ)) → v ≡ w → Agree client (with_named names client act v) (with_named others client act w)
  same_named (Root name) v w e = same_with name v w e
  same_named (Move way name from) v w e = same_with name v w e
  same_named (Select name from label) v w e = same_with name v w e
  same_named (Fetch from) v w e = same
  same_named (Print from) v w e = same
  same_named (Id from) v w e = same
  same_named (At name node) v w e = same_with name v w e

  -- where a client's names hold the same, they do after each answer to the client
  same_after : (act : Act) (a : Answer) → Agree client (names_after f names client act a) (names_after f others client act a)
  same_after act answer.Node = same_named act (goal_of f names client act) (goal_of f others client act) (same_goal act)
  same_after act answer.None = same_named act None None refl
  same_after act (answer.Label l) = same
  same_after act (answer.Text x) = same
  same_after act answer.NoNode = same
  same_after act (answer.Fault s) = same
  same_after act (answer.Id x) = same
  same_after act answer.Foreign = same

module _ (client other : List ℕ) (apart : bytes_eq other client ≡ false) (names others : Names) (same : Agree client names others) where
  -- a client's names hold the same after a name of another client holds something else
  apart_with : (name : List ℕ) (v : Option (List ℕ)) → Agree client (with_name names other name v) others
  apart_with name v n = ap (λ b. cond (b && bytes_eq name n) v (names client n)) apart ∙ same n

  -- a client's names hold the same after the name that an act of another client names holds something else
  apart_named : (act : Act) (v : Option (List ℕ)) → Agree client (with_named names other act v) others
  apart_named (Root name) v = apart_with name v
  apart_named (Move way name from) v = apart_with name v
  apart_named (Select name from label) v = apart_with name v
  apart_named (Fetch from) v = same
  apart_named (Print from) v = same
  apart_named (Id from) v = same
  apart_named (At name node) v = apart_with name v

  -- an answer to another client leaves what a client's names hold
  apart_after : (f : Finished) (act : Act) (a : Answer) → Agree client (names_after f names other act a) others
  apart_after f act answer.Node = apart_named act (goal_of f names other act)
  apart_after f act answer.None = apart_named act None
  apart_after f act (answer.Label l) = same
  apart_after f act (answer.Text x) = same
  apart_after f act answer.NoNode = same
  apart_after f act (answer.Fault s) = same
  apart_after f act (answer.Id x) = same
  apart_after f act answer.Foreign = same

module _ (f : Finished) (sources : List (List ℕ)) (client : List ℕ) where
  -- a client's lines among all are those of its steps alone, where its names hold the same
  own_alone : (names others : Names) (notes : List Note) (steps : List Step) → Agree client names others
      → own_lines_from f sources client names notes steps ≡ lines_from f sources others (own_notes client notes steps) (own_steps client steps)
  own_alone names others notes [] same = refl
  own_alone names others notes (step ∷ steps) same = by_client (bytes_eq step.client client) refl (λ after. own_alone (answered f names (first_note notes) step).1 after (later_notes notes) steps)
    where
      -- what is said of one step and those after it, where the step is the client's or not
      Said : Bool → Type 0
      Said b =
          cond b (line_of sources step.client (answered f names (first_note notes) step).0 ++ own_lines_from f sources client (answered f names (first_note notes) step).1 (later_notes notes) steps)
          (own_lines_from f sources client (answered f names (first_note notes) step).1 (later_notes notes) steps)
          ≡ lines_from f sources others (cond b (first_note notes ∷ own_notes client (later_notes notes) steps) (own_notes client (later_notes notes) steps)) (cond b (step ∷ own_steps client steps) (own_steps client steps))

      by_client : (b : Bool) → bytes_eq step.client client ≡ b
          → ((after : Names) → Agree client (answered f names (first_note notes) step).1 after
          → own_lines_from f sources client (answered f names (first_note notes) step).1 (later_notes notes) steps ≡ lines_from f sources after (own_notes client (later_notes notes) steps) (own_steps client steps))
          → Said b
      by_client false e later = later others (apart_after client step.client e names others same f step.act (answer_of f names (first_note notes) step.client step.act))
      by_client true e later =
          let own : step.client ≡ client = (bytes_eq-Decides step.client client).0 e in
          let agree : Agree step.client names others = subst (λ c. Agree c names others) (sym own) same in
          let said : answer_of f names (first_note notes) step.client step.act ≡ answer_of f others (first_note notes) step.client step.act =
          same_answer f step.client names others agree (first_note notes) step.act in
          let after : Agree client (answered f names (first_note notes) step).1 (answered f others (first_note notes) step).1 =
          subst (λ c. Agree c (answered f names (first_note notes) step).1 (answered f others (first_note notes) step).1) own
          (subst (λ a. Agree step.client (answered f names (first_note notes) step).1 (names_after f others step.client step.act a)) said
          (same_after f step.client names others agree step.act (answer_of f names (first_note notes) step.client step.act))) in
          ap (λ x. line_of sources step.client (answered f names (first_note notes) step).0 ++ x) (later (answered f others (first_note notes) step).1 after)
          ∙ ap (λ a. line_of sources step.client a ++ lines_from f sources (answered f others (first_note notes) step).1 (own_notes client (later_notes notes) steps) (own_steps client steps)) said

-- each client's lines are those of its own steps alone
pub clients_apart : ClientsAreApart
clients_apart f sources client notes steps = own_alone f sources client no_names no_names notes steps (λ n. refl)
