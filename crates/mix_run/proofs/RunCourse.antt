-- The course of a run whose files were all accepted.
use Rattle.std.proofs.Common.{◌≡◌, ◌∙◌, ◌-◌, inl, inr, ℕ, true, false, cond, nat_lt, List, [], Option, Some, None, Result, Ok, Err, IfOk, IfErr, refl, ap, arith, sym, subst, length, slice_get, get_or}
use Rattle.std.proofs.lemmas.Option.{slice_get_within}
use Rattle.mix_tree.specs.Forest.{Forest, LabelledTree}
use Rattle.mix_tree.specs.Nodes.{Documents}
use Rattle.mix_catalog.specs.Grammar.{is_view}
use Rattle.mix_catalog.specs.Sources.{base_of}
use Rattle.plan_core.specs.Plans.{Operator, document as plan_document, PlanValue}
use Rattle.plan_core.specs.Valid.{IsValid}
use Rattle.plan_core.specs.declared.plan.Plan.{Plan}
use Rattle.view_stack.specs.Stacks.{tree_alone}
use Rattle.xmas_read.specs.Results.{names_of_sources}
use Rattle.mix_place.specs.Placed.{IsViewPlaced, view_number, ArePlaced, Placed}
use Rattle.mix_place.specs.Views.{lower_at, view_ops}
use Rattle.mix_place.proofs.Bases.{base_there}
use Rattle.mix_run.specs.Question.{Question, IsPlanDocument}
use Rattle.mix_run.proofs.Places.{less_is, more_is, ops_at}
use Rattle.std.proofs.lemmas.Result.{IfErr-weaker}
use Rattle.mix_io.specs.Views.{FilesView, SinkView}
use Rattle.mix_catalog.specs.declared.source.SourceSpec.{SourceSpec}
use Rattle.mix_script.specs.Transcript.{Finished}
use Rattle.mix_script.specs.declared.step.Step.{Step}
use Rattle.mix_reach.specs.Stores.{StoresView}
use Rattle.plan_core.specs.Events.{VisitedAreMatches, visited}
use Rattle.plan_core.specs.PlanMade.{plan_value}
use Rattle.mix_run.specs.declared.outcome.Outcome.{Outcome}
use Rattle.mix_place.specs.declared.refusal.Stop.{Stop}
use Rattle.mix_place.specs.declared.refusal.Stop.TheVariants.{Refused, SinkFailed, OutOfMemory}
use Rattle.mix_run.specs.declared.asked.Ready.{Ready}
use Rattle.mix_run.specs.declared.asked.Asked.{Asked}
use Rattle.mix_run.specs.declared.running.RunForm.{RunForm}
use Rattle.mix_run.specs.declared.running.RunForm.TheVariants.{Answers, Counts, Executed, Looped}
use Rattle.mix_place.specs.Files.{IsCatalogFile, IsPlanFile}
use Rattle.mix_run.specs.Runs.{AreDocuments, IsPlanQuestion, IsViewDocument, IsViewQuestion, PlanFile, RunLines, Runs, lines_of_run}
use Rattle.mix_run.specs.Ends.{TookPrefix}
use Rattle.mix_run.specs.Outside.{outside}
use Rattle.mix_run.specs.Running.{IsLinesEnd, IsPlanGiven, IsReady, IsReadyStop, LinesOver, by_fills, all_documents, given_by, lower_document, placed, question, question_of}
use Rattle.mix_place.specs.Plans.{IsViewPlan}
use Rattle.mix_run.specs.Stops.{IsDoneAs, IsStopFrom, outcome_status}
use Rattle.mix_run.proofs.Mounts.{documents_placed}

module _ (visits : VisitedAreMatches) (has : (p : PlanValue) → IsValid p → (d : Documents) → (t : LabelledTree) × (plan_document (visited d) p.ops ≡ Some t)) (old : FilesView) (stores : StoresView) (sources : List SourceSpec) (p : PlanValue)
    (steps : List Step) (place : Placed) (placed : ArePlaced old p.ops sources place) (f : Finished) where
  -- what steps ask
  abbrev q : Question
  q = question_of stores place sources p.ops steps f

  -- there are as many mounts as sources that are no views
  many : length place.docs ≡ length (base_of sources)
  many = placed.mounted.count

  -- the number of a source that is no view is below that of their mounts
  low : (s : ℕ) (spec : SourceSpec) → slice_get sources s ≡ Some spec → is_view spec.kind ≡ false → nat_lt s (length place.docs) ≡ true
  low s spec at unset = (let w = slice_get_within (base_of sources) s spec (base_there sources placed.last s spec at unset) in let m = many in less_is s (length place.docs) (omega (arith, w, m)))

  -- the document of a view is the finished document of its rule over those of the sources that are no views
  view_document : (names : List (List ℕ)) (spec : SourceSpec) (view : Option Plan) → IsViewPlaced old (base_of sources) spec view
      → IsViewDocument old (names_of_sources (base_of sources)) spec q.below (view_ops view) (lower_document q.below (view_ops view))
  view_document names spec None is = refl
  view_document names spec (Some view) is =
      let plan = plan_value view in
      let found = has plan is.1.valid q.below in
      (is.0.rule, is.0.rule_is, is.0.plan_is, found.0, (is.0.means (visited q.below) found.0 (visits q.below)).1 found.1, ap tree_alone found.1)

  -- what was placed are the documents of what is asked
  pub documents_asked : AreDocuments (outside old stores) q
  documents_asked = record {
    lower = placed.lower;
    below = λ s spec at no. documents_placed old p.ops sources place placed stores s spec (base_there sources placed.last s spec at no);
    same = λ s spec at no. ap (λ b. cond b (q.below s) (lower_document q.below (lower_at q.lower (s - length place.docs)))) (low s spec at no);
    views = λ i spec at.
        let m = many in
        let s : ℕ = view_number sources i in
        let high : nat_lt s (length place.docs) ≡ false = more_is s (length place.docs) (omega (arith, m)) in
        let there : s - length place.docs ≡ i = omega (arith, m) in
        let own : q.docs s ≡ lower_document q.below (lower_at q.lower i) =
        ap (λ b. cond b (q.below s) (lower_document q.below (lower_at q.lower (s - length place.docs)))) high ∙ ap (λ n. lower_document q.below (lower_at q.lower n)) there in
        subst (λ (f : Forest). IsViewDocument old (names_of_sources (base_of sources)) spec q.below (lower_at q.lower i) f) (sym own)
        (subst (λ (o : Option (List Operator)). IsViewDocument old (names_of_sources (base_of sources)) spec q.below o (lower_document q.below o)) (sym (ops_at place.views i))
        (view_document [] spec (get_or place.views i None) (placed.views i spec at)));
  }

  module _ (file catalog : List ℕ) (catalog_is : IsCatalogFile old catalog sources) (is_document : IsPlanDocument (all_documents stores place) p.ops f.tree) where
    -- what steps ask of the plan of a view over what was placed, with the plan's document, is what is asked of the view
    pub view_question : IsViewPlan old file sources p → IsViewQuestion (outside old stores) file catalog q
    view_question is =
        let found = all_documents stores place in
        record {
          catalog_is = catalog_is;
          rule = is.rule;
          rule_is = is.rule_is;
          plan_is = is.plan_is;
          documents = documents_asked;
          finished = (is.means (visited found) f.tree (visits found)).1 is_document;
        }

    -- what steps ask of a written plan over what was placed, with the plan's document, is what is asked of the plan text
    text_question : IsPlanFile old file sources p → IsPlanQuestion (outside old stores) file catalog q
    text_question is = record { catalog_is = catalog_is; plan = p; plan_file = is; plan_is = refl; documents = documents_asked; finished = is_document }

    -- what steps ask of the plan of a run over what was placed, with the plan's document, is what is asked of the file that gives the plan
    pub given_question : (form : RunForm) → IsPlanGiven form old file sources p → (given_by form).IsQuestion (outside old stores) file catalog q
    given_question Answers is = view_question is
    given_question Counts is = view_question is
    given_question Executed is = text_question is
    given_question Looped is = view_question is

module _ (C D : ℕ → List ℕ → Type 0) (before after : SinkView) (w : (status : ℕ) (lines : List ℕ) → C status lines → D status lines) where
  -- where a prefix of the lines of one course was written, it is one of the lines of any that has them
  took_weaker : TookPrefix C before after → TookPrefix D before after
  took_weaker h = (h.0, h.1, w h.0 h.1 h.2, h.3)

  -- a command that was stopped in one course was stopped in any that has its lines
  stop_weaker : (Unbegun : Type 0) (stop : Stop) → IsStopFrom Unbegun C before after stop → IsStopFrom Unbegun D before after stop
  stop_weaker Unbegun (Refused r) h = (w r.status _ h.0, h.1)
  stop_weaker Unbegun SinkFailed h = (h.0, took_weaker h.1)
  stop_weaker Unbegun OutOfMemory (inl h) = inl h
  stop_weaker Unbegun OutOfMemory (inr h) = inr (took_weaker h)

module _ (form : RunForm) (Lines : RunLines) (old new : FilesView) (stores stores' : StoresView) (file catalog script : List ℕ) (ready : Ready) (is : IsReady form old file catalog script ready) (visits : VisitedAreMatches)
    (has : (p : PlanValue) → IsValid p → (d : Documents) → (t : LabelledTree) × (plan_document (visited d) p.ops ≡ Some t)) (before after : SinkView) where
  -- the lines over what was made ready
  abbrev Over : ℕ → List ℕ → Type 0
  Over = LinesOver Lines stores stores' (placed ready) ready.asked before after

  -- the course of the run over files and stores
  abbrev Course : ℕ → List ℕ → Type 0
  Course = Runs (given_by form) Lines (outside old stores) (outside new stores') file catalog script before after

  -- lines over what was made ready are those of the run
  runs : (status : ℕ) (lines : List ℕ) → Over status lines → Course status lines
  runs status lines h =
      inr (
        question stores (placed ready) ready.asked h.0,
        record {
          file_is = given_question visits has old stores ready.asked.catalog (plan_value ready.asked.plan) ready.asked.steps.items (placed ready) is.placed_are h.0 file catalog is.catalog_is h.1 form is.plan_is;
          script_is = is.script_is;
          texts = h.2;
        },
        h.3,
      )

  -- where the lines over what was made ready were done, the run was
  pub run_done : {E : Type 0} (r : Result Outcome E) → IfOk r (IsDoneAs Over before after) → IfOk r (IsDoneAs Course before after)
  run_done (Ok outcome) h = (h.0, runs (outcome_status outcome) h.0 h.1, h.2)
  run_done (Err e) h = tt

  -- where the lines over what was made ready were stopped, the run was
  pub run_stopped : {T : Type 0} (r : Result T Stop) → IfErr r (IsStopFrom (stores' ≡ stores) Over before after) → IfErr r (IsStopFrom (stores' ≡ stores) Course before after)
  run_stopped r h =
      IfErr-weaker r (IsStopFrom (stores' ≡ stores) Over before after) (IsStopFrom (stores' ≡ stores) Course before after) (λ stop. stop_weaker Over Course before after runs (stores' ≡ stores) stop) h

-- a run whose files were not all accepted was stopped before it asked stores or wrote
pub unready_stops : (given : PlanFile) (Lines : RunLines) (old new : FilesView) (stores : StoresView) (file catalog script : List ℕ) (before : SinkView) (stop : Stop)
    → IsReadyStop given old new file catalog script stop → IsStopFrom (stores ≡ stores) (Runs given Lines (outside old stores) (outside new stores) file catalog script before before) before before stop
unready_stops given Lines old new stores file catalog script before (Refused r) h = (inl (h, refl), refl)
unready_stops given Lines old new stores file catalog script before SinkFailed h = absurd h
unready_stops given Lines old new stores file catalog script before OutOfMemory h = inl (refl, refl)

module _ (stores stores' : StoresView) (place : Placed) (asked : Asked) (before after : SinkView) where
  -- the course of the lines of `run` over what was mounted
  abbrev Run : ℕ → List ℕ → Type 0
  Run = LinesOver lines_of_run stores stores' place asked before after

  module _ (fills : ℕ) where
    -- the course of the lines that answer the script by some number of fills
    abbrev ByFills : ℕ → List ℕ → Type 0
    ByFills = LinesOver (by_fills fills) stores stores' place asked before after

    -- the course of the lines with some number of fills is that of `run`
    of_run : (status : ℕ) (lines : List ℕ) → ByFills status lines → Run status lines
    of_run status lines h = (h.0, h.1, h.2, (fills, h.3))

    -- lines by some number of fills that came to their end are those of a run that was done
    pub ended_done : (r : Result Outcome Stop) → IsLinesEnd (LinesOver (by_fills fills) stores stores' place asked) before after r → IfOk r (IsDoneAs Run before after)
    ended_done (Ok outcome) h = (h.0, of_run (outcome_status outcome) h.0 h.1, h.2)
    ended_done (Err stop) h = tt

    -- lines by some number of fills that were cut short are those of a run that was stopped
    pub ended_stopped : (r : Result Outcome Stop) → IsLinesEnd (LinesOver (by_fills fills) stores stores' place asked) before after r
        → IfErr r (IsStopFrom (stores' ≡ stores) Run before after)
    ended_stopped (Ok outcome) h = tt
    ended_stopped (Err (Refused r)) h = absurd h
    ended_stopped (Err SinkFailed) h = (h.0, took_weaker ByFills Run before after of_run h.1)
    ended_stopped (Err OutOfMemory) h = inr (took_weaker ByFills Run before after of_run h)
