-- The notes under which answers to the first steps begin the lines of all steps.
use Rattle.std.proofs.Common.{◌≡◌, ◌∙◌, ◌&&◌, IsTrue, ℕ, Bool, true, false, cond, List, [], ◌∷◌, ◌++◌, Option, Some, None, refl, ap, sym, subst, arith, length, is_some, append_assoc}
use Rattle.std.specs.Prelude.{MatchOption, option_and_then}
use Rattle.std.specs.List.{AllByRecursion}
use Rattle.std.specs.Str.{bytes_eq}
use Rattle.mix_tree.specs.Forest.{LabelledTree, alone}
use Rattle.mix_tree.specs.Place.{has_place, tree_at}
use Rattle.node_text.specs.Node.{NodeValue}
use Rattle.mix_script.specs.Allowed.{Nodes, MayAnswer, MayFindRoot, nodes_after, AreAnswers, note_of, notes_of}
use Rattle.mix_script.specs.Answers.{line_of}
use Rattle.mix_script.specs.Finished.{AreOf, IsTold}
use Rattle.mix_script.specs.Names.{no_names, with_name}
use Rattle.mix_script.specs.Trails.{with_named, names_with}
use Rattle.mix_script.specs.Transcript.{AreNotes, Finished, IsRight, IsRightFor, IsSense, IsTextOf, MayBeNoted, Names, Naming, Note, answer_of, answered, failed, goal_of, if_held, label_answer, may_fail, move_answer, nothing, spelled, unless_failed}
use Rattle.mix_script.specs.declared.answer.Answer.{Answer}
use Rattle.mix_script.specs.declared.answer.Answer.TheVariants as answer
use Rattle.mix_script.specs.declared.step.Act.{Act}
use Rattle.mix_script.specs.declared.step.Act.TheVariants.{Root, Move, Select, Fetch, Print, Id, At}
use Rattle.mix_script.specs.declared.step.Step.{Step}
use Rattle.mix_lines.specs.Heard.{Heard, no_form, step as asked, steps_in}
use Rattle.mix_lines.specs.Lines.{heard_transcript, no_form_line, spoken, spoken_from}
use Rattle.mix_run.specs.Answered.{IsNoFault}

module _ (NamesAt : Naming) (f : Finished) (each : (p : List ℕ) → has_place (alone f.tree) p ≡ true → (x : List ℕ) × IsTextOf NamesAt x p)
    (nodes : (node : NodeValue) (p : List ℕ) → NamesAt node p → has_place (alone f.tree) p ≡ true) where
  -- each place that a name holds is one of the tree
  abbrev AreThere : Names → Type 0
  AreThere names = (client name p : List ℕ) → names client name ≡ Some p → has_place (alone f.tree) p ≡ true

  -- a place that is asked for, if any is, is one of the tree
  abbrev IsThere : Option (List ℕ) → Type 0
  IsThere goal = (p : List ℕ) → goal ≡ Some p → has_place (alone f.tree) p ≡ true

  -- where one name holds a place of the tree or none, and the others did so before, all do
  with_there : (names : Names) (client name : List ℕ) (goal : Option (List ℕ)) → AreThere names → IsThere goal → AreThere (with_name names client name goal)
  with_there names client name goal there new c n p = by (bytes_eq client c && bytes_eq name n)
    where
      by : (b : Bool) → cond b goal (names c n) ≡ Some p → has_place (alone f.tree) p ≡ true
      by true e = new p e
      by false e = there c n p e

  -- where the name of an act holds a place of the tree or none, all names do
  named_there : (names : Names) (client : List ℕ) (act : Act) (goal : Option (List ℕ)) → AreThere names → IsThere goal → AreThere (with_named names client act goal)
  named_there names client (Root name) goal there new = with_there names client name goal there new
  named_there names client (Move way name from) goal there new = with_there names client name goal there new
  named_there names client (Select name from label) goal there new = with_there names client name goal there new
  named_there names client (Fetch from) goal there new = there
  named_there names client (Print from) goal there new = there
  named_there names client (Id from) goal there new = there
  named_there names client (At name node) goal there new = with_there names client name goal there new

  -- where a node is answered to be there, the place that was asked for is one of the tree
  moved : (note : Note) (goal : Option (List ℕ)) → unless_failed note (move_answer f.tree goal) ≡ answer.Node → IsThere goal
  moved nothing None e p is = absurd (let z : answer.None ≡ answer.Node = e in cc)
  moved nothing (Some place) e p is = by (has_place (alone f.tree) place) refl e
    where
      by : (b : Bool) → has_place (alone f.tree) place ≡ b → cond b answer.Node answer.None ≡ answer.Node → has_place (alone f.tree) p ≡ true
      by true own k = subst (λ (q : Option (List ℕ)). MatchOption q (has_place (alone f.tree) p ≡ true) (λ r. has_place (alone f.tree) r ≡ true)) is own
      by false own k = cc
  moved (failed source) goal e p is = absurd (let z : answer.Fault source ≡ answer.Node = e in cc)
  moved (spelled text) None e p is = absurd (let z : answer.None ≡ answer.Node = e in cc)
  moved (spelled text) (Some place) e p is = by (has_place (alone f.tree) place) refl e
    where
      by : (b : Bool) → has_place (alone f.tree) place ≡ b → cond b answer.Node answer.None ≡ answer.Node → has_place (alone f.tree) p ≡ true
      by true own k = subst (λ (q : Option (List ℕ)). MatchOption q (has_place (alone f.tree) p ≡ true) (λ r. has_place (alone f.tree) r ≡ true)) is own
      by false own k = cc

  -- where a name holds what to begin at and a node is answered, the place that was asked for is one of the tree
  held_moved : (note : Note) (held goal : Option (List ℕ)) → if_held held (unless_failed note (move_answer f.tree goal)) ≡ answer.Node → IsThere goal
  held_moved note None goal e = absurd (let z : answer.NoNode ≡ answer.Node = e in cc)
  held_moved note (Some place) goal e = moved note goal e

  -- the place that a text is said to name is one of the tree
  sense_there : (node : NodeValue) (goal : Option (List ℕ)) → IsSense NamesAt node goal → IsThere goal
  sense_there node None sense p is = absurd (let z : None ≡ Some p = is in cc)
  sense_there node (Some place) sense p is =
      subst (λ (q : Option (List ℕ)). MatchOption q (has_place (alone f.tree) p ≡ true) (λ r. has_place (alone f.tree) r ≡ true)) is (nodes node place sense)

  -- where a node is answered to an act, the place that the act asks for is one of the tree
  goal_there : (names : Names) (note : Note) (client : List ℕ) (act : Act) → IsRightFor NamesAt f act → answer_of f names note client act ≡ answer.Node → IsThere (goal_of f names client act)
  goal_there names note client (Root name) right e = λ p is. subst (λ (q : Option (List ℕ)). MatchOption q (has_place (alone f.tree) p ≡ true) (λ r. has_place (alone f.tree) r ≡ true)) is refl
  goal_there names note client (Move way name from) right e = held_moved note (names client from) (goal_of f names client (Move way name from)) e
  goal_there names note client (Select name from label) right e = held_moved note (names client from) (goal_of f names client (Select name from label)) e
  goal_there names note client (Fetch from) right e = λ p is. absurd (let z : None ≡ Some p = is in cc)
  goal_there names note client (Print from) right e = λ p is. absurd (let z : None ≡ Some p = is in cc)
  goal_there names note client (Id from) right e = λ p is. absurd (let z : None ≡ Some p = is in cc)
  goal_there names note client (At name node) right e = sense_there node (f.named node) right

  -- after an answer of the document names hold places of the tree that did so before
  there_after : (names : Names) (note : Note) (step : Step) → IsRightFor NamesAt f step.act → AreThere names → AreThere (answered f names note step).1
  there_after names note step right there = by (answer_of f names note step.client step.act) refl
    where
      goal : Option (List ℕ)
      goal = goal_of f names step.client step.act

      by : (a : Answer) → answer_of f names note step.client step.act ≡ a → AreThere (names_with goal names step.client step.act a)
      by answer.Node e = named_there names step.client step.act goal there (goal_there names note step.client step.act right e)
      by answer.None e = named_there names step.client step.act None there (λ p is. absurd (let z : None ≡ Some p = is in cc))
      by (answer.Label l) e = there
      by (answer.Text x) e = there
      by answer.NoNode e = there
      by (answer.Fault s) e = there
      by (answer.Id x) e = there
      by answer.Foreign e = there

  -- a note that may stand at an act that is not answered yet
  some_note : (roots : Bool) (names : Names) (step : Step) → AreThere names → (note : Note) × IsNoFault note × MayBeNoted roots NamesAt names step note
  some_note roots names step there = by step.act refl
    where
      for_id : (from : List ℕ) (held : Option (List ℕ)) → names step.client from ≡ held → step.act ≡ Id from → (note : Note) × IsNoFault note × MayBeNoted roots NamesAt names (record { client = step.client; act = Id from }) note
      for_id from None e is = (nothing, tt, ap is_some e)
      for_id from (Some p) e is =
          let text = each p (there step.client from p e) in
          (spelled text.0, tt, subst (λ (o : Option (List ℕ)). MatchOption o ⊥ (IsTextOf NamesAt text.0)) (sym e) text.1)

      by : (act : Act) → step.act ≡ act → (note : Note) × IsNoFault note × MayBeNoted roots NamesAt names (record { client = step.client; act = act }) note
      by (Root name) e = (nothing, tt, tt)
      by (Move way name from) e = (nothing, tt, tt)
      by (Select name from label) e = (nothing, tt, tt)
      by (Fetch from) e = (nothing, tt, tt)
      by (Print from) e = (nothing, tt, tt)
      by (Id from) e = for_id from (names step.client from) refl e
      by (At name node) e = (nothing, tt, tt)

  -- notes that may stand at steps of which none is answered yet
  some_notes : (roots : Bool) (names : Names) (steps : List Step) → IsRight NamesAt f steps → AreThere names → (notes : List Note) × AllByRecursion IsNoFault notes × AreNotes roots NamesAt f names notes steps
  some_notes roots names [] right there = ([], tt, tt)
  some_notes roots names (step ∷ steps) right there =
      let first = some_note roots names step there in
      let later = some_notes roots (answered f names first.0 step).1 steps right.1 (there_after names first.0 step right.0 there) in
      (first.0 ∷ later.0, (first.1, later.1), (first.2, later.2))

  module _ (roots : Bool) (MayFail : ℕ → Type 0) where
    -- a node that is sought is marked only where a name holds the node to begin at
    held_fault : (o : Option (List ℕ)) (x : Answer) (s : ℕ) → answer.Fault s ≡ if_held o x → is_some o ≡ true
    held_fault None x s e = cc
    held_fault (Some place) x s e = refl

    -- the root is marked only where it is sought in a source
    root_fault : (b : Bool) (s : ℕ) → MayFindRoot b MayFail (answer.Fault s) → b ≡ true
    root_fault true s h = refl
    root_fault false s h = cc

    -- an act whose answer is a fault of a source may be noted so
    fault_noted : (nodes : Nodes) (names : Names) (client : List ℕ) (act : Act) (s : ℕ) → MayAnswer roots MayFail nodes client act (answer.Fault s) → answer.Fault s ≡ answer_of f names (failed s) client act
        → IsTrue (may_fail roots names client act)
    fault_noted nodes names client (Root name) s may e = root_fault roots s may
    fault_noted nodes names client (Move way name from) s may e = held_fault (names client from) _ s e
    fault_noted nodes names client (Select name from label) s may e = held_fault (names client from) _ s e
    fault_noted nodes names client (Print from) s may e = held_fault (names client from) _ s e
    fault_noted nodes names client (Fetch from) s may e = never (option_and_then (tree_at f.tree) (names client from)) e
      where
        never : {X : Type 0} (o : Option LabelledTree) → answer.Fault s ≡ label_answer o → X
        never None k = cc
        never (Some t) k = cc
    fault_noted nodes names client (Id from) s may e = never (names client from) e
      where
        never : {X : Type 0} (o : Option (List ℕ)) → answer.Fault s ≡ if_held o (answer.Id []) → X
        never None k = cc
        never (Some place) k = cc
    fault_noted nodes names client (At name node) s may e = refl

    -- an answer of the document that is neither a fault nor a text is one to an act that needs no text
    quiet_noted : (names : Names) (client : List ℕ) (act : Act) (a : Answer) → a ≡ answer_of f names nothing client act → ((x : List ℕ) → a ≡ answer.Id x → ⊥)
        → MayBeNoted roots NamesAt names (record { client = client; act = act }) nothing
    quiet_noted names client (Root name) a e none = tt
    quiet_noted names client (Move way name from) a e none = tt
    quiet_noted names client (Select name from label) a e none = tt
    quiet_noted names client (Fetch from) a e none = tt
    quiet_noted names client (Print from) a e none = tt
    quiet_noted names client (Id from) a e none = by (names client from) e
      where
        by : (o : Option (List ℕ)) → a ≡ if_held o (answer.Id []) → is_some o ≡ false
        by None k = refl
        by (Some place) k = absurd (none [] k)
    quiet_noted names client (At name node) a e none = tt

    -- the note that an answer of the document shows may stand at its step
    answer_noted : (nodes : Nodes) (names : Names) (a : Answer) (step : Step) → MayAnswer roots MayFail nodes step.client step.act a → a ≡ (answered f names (note_of a) step).0
        → IsTold NamesAt names step.client step.act a → MayBeNoted roots NamesAt names step (note_of a)
    answer_noted nodes names answer.Node step may e told = quiet_noted names step.client step.act answer.Node e (λ x k. cc)
    answer_noted nodes names answer.None step may e told = quiet_noted names step.client step.act answer.None e (λ x k. cc)
    answer_noted nodes names (answer.Label l) step may e told = quiet_noted names step.client step.act (answer.Label l) e (λ x k. cc)
    answer_noted nodes names (answer.Text t) step may e told = quiet_noted names step.client step.act (answer.Text t) e (λ x k. cc)
    answer_noted nodes names answer.NoNode step may e told = quiet_noted names step.client step.act answer.NoNode e (λ x k. cc)
    answer_noted nodes names (answer.Fault s) step may e told = fault_noted nodes names step.client step.act s may e
    answer_noted nodes names (answer.Id x) step may e told = told
    answer_noted nodes names answer.Foreign step may e told = quiet_noted names step.client step.act answer.Foreign e (λ x k. cc)

    -- the notes that answers to the first steps show go on to notes that may stand at all steps
    notes_go_on : (nodes : Nodes) (names : Names) (answers : List Answer) (steps : List Step) → IsRight NamesAt f steps → AreThere names → AreAnswers roots MayFail nodes answers steps → AreOf NamesAt f names answers steps
        → (more : List Note) × AllByRecursion IsNoFault more × AreNotes roots NamesAt f names (notes_of answers ++ more) steps
    notes_go_on nodes names [] steps right there may of = some_notes roots names steps right there
    notes_go_on nodes names (a ∷ answers) [] right there may of = absurd of
    notes_go_on nodes names (a ∷ answers) (step ∷ steps) right there may of =
        let later = notes_go_on (nodes_after nodes step.client step.act a) (answered f names (note_of a) step).1 answers steps right.1 (there_after names (note_of a) step right.0 there) may.1 of.2 in
        (later.0, later.1, (answer_noted nodes names a step may.0 of.0 of.1, later.2))

    -- the notes that answers to the first steps of a script show go on to notes that may stand at all its steps
    pub notes_complete : (answers : List Answer) (steps : List Step) → IsRight NamesAt f steps → AreAnswers roots MayFail no_names answers steps → AreOf NamesAt f no_names answers steps
        → (more : List Note) × AllByRecursion IsNoFault more × AreNotes roots NamesAt f no_names (notes_of answers ++ more) steps
    notes_complete answers steps right may of = notes_go_on no_names no_names answers steps right (λ client name p is. absurd (let z : None ≡ Some p = is in cc)) may of

module _ (NamesAt : Naming) (f : Finished) (sources : List (List ℕ)) (more : List Note) where
  -- the lines of answers that are a document's begin those under the notes that they show and then others, from these names on
  lines_begin_from : (names : Names) (heard : List Heard) (answers : List Answer) → AreOf NamesAt f names answers (steps_in heard)
      → (rest : List ℕ) × (spoken sources heard answers ++ rest ≡ spoken_from f sources names (notes_of answers ++ more) heard)
  lines_begin_from names [] answers of = ([], refl)
  lines_begin_from names (no_form ∷ heard) answers of =
      let later = lines_begin_from names heard answers of in
      (later.0, append_assoc no_form_line (spoken sources heard answers) later.0 ∙ ap (λ r. no_form_line ++ r) later.1)
  lines_begin_from names (asked s ∷ heard) [] of = (spoken_from f sources names more (asked s ∷ heard), refl)
  lines_begin_from names (asked s ∷ heard) (a ∷ answers) of =
      let later = lines_begin_from (answered f names (note_of a) s).1 heard answers of.2 in (
        later.0,
        append_assoc (line_of sources s.client a) (spoken sources heard answers) later.0
            ∙ ap (λ r. line_of sources s.client a ++ r) later.1
            ∙ ap (λ x. line_of sources s.client x ++ spoken_from f sources (answered f names (note_of a) s).1 (notes_of answers ++ more) heard) of.0,
      )

  -- the lines of answers to the first steps that were heard begin the transcript of all, under the notes that the answers show and then others
  pub lines_begin : (heard : List Heard) (answers : List Answer) → AreOf NamesAt f no_names answers (steps_in heard)
      → (rest : List ℕ) × (spoken sources heard answers ++ rest ≡ heard_transcript f sources (notes_of answers ++ more) heard)
  lines_begin heard answers of = lines_begin_from no_names heard answers of

  -- the lines of answers to all steps that were heard are those under the notes that the answers show, from these names on
  lines_all_from : (names : Names) (heard : List Heard) (answers : List Answer) → AreOf NamesAt f names answers (steps_in heard) → length answers ≡ length (steps_in heard)
      → spoken sources heard answers ≡ spoken_from f sources names (notes_of answers ++ more) heard
  lines_all_from names [] answers of all = refl
  lines_all_from names (no_form ∷ heard) answers of all = ap (λ r. no_form_line ++ r) (lines_all_from names heard answers of all)
  lines_all_from names (asked s ∷ heard) [] of all = absurd (omega (arith, all))
  lines_all_from names (asked s ∷ heard) (a ∷ answers) of all =
      ap (λ r. line_of sources s.client a ++ r) (lines_all_from (answered f names (note_of a) s).1 heard answers of.2 (omega (arith, all)))
      ∙ ap (λ x. line_of sources s.client x ++ spoken_from f sources (answered f names (note_of a) s).1 (notes_of answers ++ more) heard) of.0

  -- the lines of answers to all steps that were heard are the transcript, under the notes that the answers show
  pub lines_all : (heard : List Heard) (answers : List Answer) → AreOf NamesAt f no_names answers (steps_in heard) → length answers ≡ length (steps_in heard)
      → spoken sources heard answers ≡ heard_transcript f sources (notes_of answers ++ more) heard
  lines_all heard answers of all = lines_all_from no_names heard answers of all
