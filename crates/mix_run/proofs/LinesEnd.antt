-- How lines over sources end.
use Rattle.std.proofs.Common.{◌≡◌, ◌∙◌, ◌+◌, ◌≤◌, inl, inr, ℕ, Bool, true, false, cond, List, [], ◌∷◌, ◌++◌, Option, Result, Ok, Err, refl, ap, sym, subst, arith, length, map, take, take_all, append_assoc}
use Rattle.mix_base.proofs.Lists.{append_nil, take_append}
use Rattle.mix_io.specs.Views.{SinkView}
use Rattle.mix_io.specs.Contents.{Appends}
use Rattle.mix_reach.specs.Reach.{CameFrom, Reaching}
use Rattle.mix_reach.specs.Stores.{stores_of}
use Rattle.plan_core.specs.PlanMade.{plan_value}
use Rattle.xmas_read.specs.Results.{names_of_sources}
use Rattle.lazy_plan.specs.Bench.{BenchState}
use Rattle.mix_script.specs.Allowed.{has_fault}
use Rattle.mix_script.specs.declared.answer.Answer.{Answer}
use Rattle.mix_script.specs.declared.step.Step.{Step}
use Rattle.mix_script.specs.Transcript.{Finished}
use Rattle.mix_lines.specs.Ends.{Ends, EndsBetween, EndsBy, EndsWithin, IsLazy, IsRun, IsWhole}
use Rattle.mix_lines.specs.Heard.{Heard, step, steps_in}
use Rattle.mix_lines.specs.Lines.{spoken}
use Rattle.mix_lines.specs.declared.fault.LinesFault.{LinesFault}
use Rattle.mix_lines.specs.declared.fault.LinesFault.TheVariants as lines_fault
use Rattle.mix_lines.proofs.Script.{steps_of_script}
use Rattle.mix_lines.proofs.Telling.{spoken_append}
use Rattle.mix_session.specs.Meaning.{Course}
use Rattle.mix_session.specs.Walks.{plan_course}
use Rattle.lxp_core.specs.View.{View}
use Rattle.mix_run.specs.Answered.{IsHeardAnswered}
use Rattle.mix_run.specs.Ends.{TookPrefix}
use Rattle.mix_run.specs.declared.asked.Asked.{Asked}
use Rattle.mix_run.specs.declared.outcome.Outcome.{Outcome}
use Rattle.mix_run.specs.Finishing.{IsFinishedOf}
use Rattle.mix_run.specs.Question.{Question, finished}
use Rattle.mix_run.specs.Running.{IsLinesEnd, LinesOver, by_fills, all_documents, placed_of, question}
use Rattle.mix_run.proofs.Answering.{Frugal, IsAnswering, IsOver, answering, prefix_of, unanswered}
use Rattle.mix_run.proofs.Sums.{none_counted}
use Rattle.plan_core.specs.declared.plan.Plan.{Plan}
use Rattle.mix_place.specs.declared.refusal.Stop.{Stop}
use Rattle.mix_place.specs.declared.refusal.Stop.TheVariants.{OutOfMemory}
use Rattle.mix_run.proofs.Lines.{nothing_of}
use Rattle.mix_run.specs.Stops.{EndsAsHeard, IsDoneAs, IsEndOf, outcome_of, outcome_status}

-- the end of lines under equal names and steps is the same end
pub renamed : {W : Type 0} (c : Course W) (old new : View) (names names' : List (List ℕ)) (steps steps' : List Step) (before after : SinkView) (r : Result Bool LinesFault) → names' ≡ names → steps' ≡ steps
    → Ends c old new names' (map step steps') before after r → Ends c old new names (map step steps) before after r
renamed c old new names names' steps steps' before after r e f h =
    subst (λ (n : List (List ℕ)). Ends c old new n (map step steps) before after r) e (subst (λ (s : List Step). Ends c old new names' (map step s) before after r) f h)

-- the status of answers is that of their outcome
outcome_is : (marked : Bool) (answers : List Answer) → marked ≡ has_fault answers → cond (has_fault answers) 1 0 ≡ outcome_status (outcome_of marked)
outcome_is true answers marks = ap (λ b. cond b 1 0) (sym marks)
outcome_is false answers marks = ap (λ b. cond b 1 0) (sym marks)

module _ (C D : ℕ → List ℕ → Type 0) (before after : SinkView) (w : (status : ℕ) (lines : List ℕ) → C status lines → D status lines) where
  -- lines that end in one course end in any course that has its lines
  pub heard_weaker : (r : Result Bool LinesFault) → EndsAsHeard C before after r → EndsAsHeard D before after r
  heard_weaker (Ok marked) h = (h.0, w _ h.0 h.1, h.2)
  heard_weaker (Err lines_fault.InputFailed) h = (h.0, (h.1.0, w h.0 h.1.0 h.1.1, h.1.2))
  heard_weaker (Err lines_fault.SinkFailed) h = (h.0, (h.1.0, h.1.1, w h.1.0 h.1.1 h.1.2, h.1.3))
  heard_weaker (Err lines_fault.OutOfMemory) h = (h.0, h.1, w h.0 h.1 h.2, h.3)

-- lines that need no input end as the run does
run_end : (Course : SinkView → SinkView → ℕ → List ℕ → Type 0) (before after : SinkView) (r : Result Bool LinesFault) (end : Result Outcome Stop) → IsEndOf r end → EndsAsHeard (Course before after) before after r
    → IsLinesEnd Course before after end
run_end Course before after (Ok marked) end is h = rw is h
run_end Course before after (Err lines_fault.InputFailed) end is h = absurd is
run_end Course before after (Err lines_fault.SinkFailed) end is h = rw is h
run_end Course before after (Err lines_fault.OutOfMemory) end is h = rw is h

module _ (heard : List Heard) (old new : View) (a b : Reaching) (st : BenchState) (q : Question) (same : q.steps ≡ steps_in heard) (over : IsOver old new st a b q)
    (few : b.mounted.tables.pages ≤ a.mounted.tables.pages + b.fills) (before after : SinkView) (texts : IsFinishedOf q.docs q.ops q.steps (finished q)) where
  -- the names of the sources
  abbrev names : List (List ℕ)
  names = names_of_sources q.sources

  -- answers that a run on the course of the plan gives
  abbrev Are : List Answer → Type 0
  Are answers = IsRun (plan_course st) old.faults new.faults q.steps answers

  -- answers that ask for no more fills than the course of the plan allows
  abbrev Cost : List Answer → Type 0
  Cost answers = IsLazy (plan_course st) old.fills new.fills q.steps answers

  -- the lines that answer what was heard, by the fills that were asked
  abbrev Lines : ℕ → List ℕ → Type 0
  Lines = IsHeardAnswered heard (stores_of a) (stores_of b) q b.fills before after

  -- the lines of answers to what was heard answer the question
  run : IsAnswering heard old new a b q st before after
  run = answering heard old new st a b q over few before after same texts

  -- where a prefix of lines of the answers was written, a prefix of all lines was
  took : (answers : List Answer) → Are answers → Frugal heard a b q before after answers → (lines rest : List ℕ) → lines ++ rest ≡ spoken names heard answers
      → (n : ℕ) → Appends before.written after.written (take n lines) → TookPrefix Lines before after
  took answers are less lines rest begin n h =
      let p = run.prefix answers are less in
      let whole : lines ++ (rest ++ p.rest) ≡ p.lines = sym (append_assoc lines rest p.rest) ∙ ap (λ l. l ++ p.rest) begin ∙ p.begun in
      (p.status, p.lines, p.is, prefix_of before.written after.written n lines (rest ++ p.rest) p.lines whole h)

  -- the lines of what was heard first and of what comes after it are the lines of all
  spoken_parts : (done later : List Heard) (answers last : List Answer) → heard ≡ done ++ later → length answers ≡ length (steps_in done)
      → spoken names done answers ++ spoken names later last ≡ spoken names heard (answers ++ last)
  spoken_parts done later answers last parts all = sym (ap (λ (h : List Heard). spoken names h (answers ++ last)) parts ∙ spoken_append names done later answers last all)

  -- where the lines ended between two lines, a prefix of them was written
  between : EndsBetween Are Cost names heard before after → TookPrefix Lines before after
  between w =
      let lines = spoken names w.done w.answers in
      let less = run.frugal w.answers [] lines w.cost (record { done = w.done; later = w.later; parts = w.parts; all = w.all; rest = []; are = sym (append_nil lines) }) w.written in
      took w.answers w.are (subst (λ (x : List Answer). Frugal heard a b q before after x) (append_nil w.answers) less) lines (spoken names w.later [])
      (spoken_parts w.done w.later w.answers [] w.parts w.all ∙ ap (spoken names heard) (append_nil w.answers)) (length lines)
      (subst (Appends before.written after.written) (sym (take_all (length lines) lines (omega arith))) w.written)

  -- where the lines ended within a line, a prefix of them was written
  within : EndsWithin Are Cost names heard before after → TookPrefix Lines before after
  within w =
      let lines = spoken names w.done w.answers in
      let line = spoken names (w.next ∷ []) w.last in
      let later = spoken names w.later [] in
      let less =
      run.frugal w.answers w.last (lines ++ take w.count line) w.cost
      (record { done = w.done; later = w.next ∷ w.later; parts = w.parts; all = w.all; rest = take w.count line; are = refl }) w.written in
      let next : spoken names (w.next ∷ w.later) w.last ≡ line ++ later =
      ap (spoken names (w.next ∷ w.later)) (sym (append_nil w.last)) ∙ spoken_append names (w.next ∷ []) w.later w.last [] w.one in
      took (w.answers ++ w.last) w.are less (lines ++ line) later
      (append_assoc lines line later ∙ ap (λ l. lines ++ l) (sym next) ∙ spoken_parts w.done (w.next ∷ w.later) w.answers w.last w.parts w.all) (length lines + w.count)
      (subst (Appends before.written after.written) (sym (take_append lines line w.count)) w.written)

  -- where all lines were written, they are those of all that was heard
  whole : (marked : Bool) → IsWhole Are Cost names heard before after marked → IsDoneAs Lines before after (outcome_of marked)
  whole marked w =
      let lines = spoken names heard w.answers in
      let less = run.frugal w.answers [] lines w.cost (record { done = heard; later = []; parts = sym (append_nil heard); all = w.all; rest = []; are = sym (append_nil lines) }) w.written in
      let less' : Frugal heard a b q before after w.answers = subst (λ (x : List Answer). Frugal heard a b q before after x) (append_nil w.answers) less in
      let all : length w.answers ≡ length q.steps = w.all ∙ ap (λ (xs : List Step). length xs) (sym same) in
      (lines, subst (λ (n : ℕ). Lines n lines) (outcome_is marked w.answers w.marks) (run.whole w.answers w.are less' all), w.written)

  -- lines over the steps that are asked came to their end, or were cut short
  by_steps : (r : Result Bool LinesFault) → EndsBy Are Cost names heard before after r → EndsAsHeard Lines before after r
  by_steps (Ok marked) w = whole marked w
  by_steps (Err lines_fault.InputFailed) w = (outcome_status (outcome_of w.0), whole w.0 w.1)
  by_steps (Err lines_fault.SinkFailed) w = (w.0, within w.1)
  by_steps (Err lines_fault.OutOfMemory) (inl w) = between w
  by_steps (Err lines_fault.OutOfMemory) (inr w) = within w

  -- lines over sources that answer what was heard came to their end, or were cut short
  pub heard_end : (r : Result Bool LinesFault) → Ends (plan_course st) old new names heard before after r → EndsAsHeard Lines before after r
  heard_end r ends =
      let By : List Step → Type 0 = λ steps. EndsBy (IsRun (plan_course st) old.faults new.faults steps) (IsLazy (plan_course st) old.fills new.fills steps) names heard before after r in
      by_steps r (subst By (sym same) ends)

-- where memory ran out before anything was answered over sources of which no fill was asked, nothing was written of the lines
pub heard_unbegun : (heard : List Heard) (a b : Reaching) → CameFrom a b → (q : Question) → q.steps ≡ steps_in heard → IsFinishedOf q.docs q.ops q.steps (finished q) → b.fills ≡ 0
    → b.mounted.tables.pages ≤ a.mounted.tables.pages + b.fills → (before : SinkView) → TookPrefix (IsHeardAnswered heard (stores_of a) (stores_of b) q b.fills before before) before before
heard_unbegun heard a b came q same texts none few before =
    let p = unanswered heard a b q (none_counted a b came q) none few before same texts (record { done = []; later = heard; parts = refl; all = refl; rest = []; are = refl }) in
    (p.status, p.lines, p.is, nothing_of before.written p.lines)

module _ (a b : Reaching) (views : List (Option Plan)) (asked : Asked) (f : Finished) (texts : IsFinishedOf (all_documents (stores_of a) (placed_of a views)) (plan_value asked.plan).ops asked.steps.items f)
    (few : b.mounted.tables.pages ≤ a.mounted.tables.pages + b.fills) where
  -- the question of the run: its script on the document, over the sources
  abbrev asks : Question
  asks = question (stores_of a) (placed_of a views) asked f

  -- what is heard of the script
  abbrev script : List Heard
  script = map step asked.steps.items

  -- the lines that answer the script, by the fills that were asked
  abbrev Answers : SinkView → SinkView → ℕ → List ℕ → Type 0
  Answers = LinesOver (by_fills b.fills) (stores_of a) (stores_of b) (placed_of a views) asked

  -- lines that answer the question are those of the run over the sources
  answers_over : (before after : SinkView) (status : ℕ) (lines : List ℕ) → IsHeardAnswered script (stores_of a) (stores_of b) asks b.fills before after status lines → Answers before after status lines
  answers_over before after status lines is = (f, texts.document, texts.named, is)

  -- the lines of a run over sources came to their end, or were cut short
  pub lines_end : (old new : View) (st : BenchState) → IsOver old new st a b asks → (before after : SinkView) (r : Result Bool LinesFault) (end : Result Outcome Stop) → IsEndOf r end
      → Ends (plan_course st) old new (names_of_sources asked.catalog) script before after r → IsLinesEnd Answers before after end
  lines_end old new st over before after r end is ends =
      run_end Answers before after r end is
      (heard_weaker (IsHeardAnswered script (stores_of a) (stores_of b) asks b.fills before after) (Answers before after) before after (answers_over before after) r
      (heard_end script old new a b st asks (sym (steps_of_script asked.steps.items)) over few before after texts r ends))

  -- where memory ran out before the first step of a run over sources of which no fill was asked, nothing was written of the run's lines
  pub lines_unbegun : CameFrom a b → b.fills ≡ 0 → (before : SinkView) → IsLinesEnd Answers before before (Err OutOfMemory)
  lines_unbegun came none before =
      let p = heard_unbegun script a b came asks (sym (steps_of_script asked.steps.items)) texts none few before in
      (p.0, p.1, answers_over before before p.0 p.1 p.2, p.3)
