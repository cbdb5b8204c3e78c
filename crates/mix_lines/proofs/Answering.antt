-- A request is answered.
use Rattle.std.proofs.Common.{◌≡◌, ◌≤◌, ℕ, Bool, true, false, ◌||◌, List, [], ◌∷◌, ◌++◌, Result, Ok, Err, refl, sym, subst}
use Rattle.mix_base.proofs.Lists.{append_nil}
use Rattle.mix_io.specs.Contents.{Appends}
use Rattle.mix_io.specs.Views.{SinkView}
use Rattle.lxp_core.specs.View.{View}
use Rattle.std.specs.declared.alloc.AllocError.{AllocError}
use Rattle.mix_script.specs.Names.{NamesOf}
use Rattle.mix_script.specs.declared.answer.Answer.{Answer}
use Rattle.mix_script.specs.Answers.{line_of}
use Rattle.mix_script.specs.declared.step.Step as step
use Rattle.mix_session.specs.Meaning.{Course, Meaning}
use Rattle.mix_session.specs.Stepped.{Stepped}
use Rattle.mix_lines.specs.Answered.{IsRequestAnswered, IsSaid, IsCutByAnswer}
use Rattle.mix_lines.specs.Cuts.{IsNoFormCut, IsStepCut}
use Rattle.mix_lines.specs.Ends.{Ends}
use Rattle.mix_lines.specs.Heard as heard
use Rattle.mix_lines.specs.Heard.{Heard}
use Rattle.mix_lines.specs.Requests.{request_asks}
use Rattle.mix_lines.specs.Written.{IsFar}
use Rattle.mix_lines.specs.declared.fault.LinesFault.{LinesFault}
use Rattle.mix_lines.specs.declared.fault.LinesFault.TheVariants.{InputFailed, SinkFailed, OutOfMemory}
use Rattle.mix_lines.specs.declared.requests.Request.{Request}
use Rattle.mix_lines.specs.declared.requests.Request.TheVariants.{Passed, NoForm, Step}
use Rattle.mix_lines.proofs.Far.{AreThere, far_cut, far_no_form, far_no_form_cut, far_short, far_step}

-- what was marked in one way wasn't in another
marks_same : {k l : Bool} {r : Result Bool LinesFault} → r ≡ Ok k → r ≡ Ok l → k ≡ l
marks_same e f = cc

-- where nothing more is marked, the mark is as it was
or_false : (a : Bool) → (a || false) ≡ a
or_false true = refl
or_false false = refl

-- an answer that was cut short in a line is no failure of the input
no_form_short : (between sink' : SinkView) (fault : LinesFault) → IsNoFormCut between sink' fault → IsCutByAnswer (Err fault)
no_form_short between sink' InputFailed cut = absurd cut
no_form_short between sink' SinkFailed cut = tt
no_form_short between sink' OutOfMemory cut = tt

-- a step's line that was cut short is no failure of the input
step_short : (IsAnswer : Answer → Type 0) (names : List (List ℕ)) (client : List ℕ) (between sink' : SinkView) (fault : LinesFault) → IsStepCut IsAnswer names client between sink' fault → IsCutByAnswer (Err fault)
step_short IsAnswer names client between sink' InputFailed cut = absurd cut
step_short IsAnswer names client between sink' SinkFailed cut = tt
step_short IsAnswer names client between sink' OutOfMemory cut = tt

-- lines have come so far on a course
module _ {V X : Type 0} (c : Course X) (m m' : Meaning V X) (old now v' : View) (values values' : NamesOf V) (names : List (List ℕ)) (done : List Heard) (sink between sink' : SinkView) (marked : Bool)
    (far : IsFar c m old now values names done sink.written between.written marked) (rises : (n : ℕ) → now.faults n ≤ v'.faults n) where
  -- where a step was answered and its line written, the lines have come further
  step_told : (s : step.Step) (answered : Result Answer AllocError) → Stepped m m' now v' values values' s.client s.act answered → (k : Bool) → IsSaid names s.client between sink' answered (Ok k)
      → IsFar c m' old v' values' names (done ++ heard.step s ∷ []) sink.written sink'.written (marked || k)
  step_told s (Ok a) stepped k said =
      rw (said.marks, said.answer)
      (far_step c m old now values names done sink between marked far s m' v' values' rises (Ok a) stepped a stepped.answer stepped.names sink'.written
      (subst (λ x. Appends between.written sink'.written (line_of names s.client x)) said.answer said.written))
  step_told s (Err e) stepped k said = absurd said

  -- how lines end whatever is asked for after a request that asks for this
  abbrev CutAt : List Heard → LinesFault → Type 0
  CutAt asks fault = IsCutByAnswer (Err fault) × AreThere c m old now values names done sink between marked far sink' × ((later : List Heard) → Ends c old v' names (done ++ (asks ++ later)) sink sink' (Err fault))

  -- where a step's line was cut short, or there was none, the lines end
  step_cut : (s : step.Step) (answered : Result Answer AllocError) → Stepped m m' now v' values values' s.client s.act answered → (fault : LinesFault) → IsSaid names s.client between sink' answered (Err fault)
      → sink.faults ≤ between.faults → CutAt (heard.step s ∷ []) fault
  step_cut s (Ok a) stepped fault said count =
      let cut = far_cut c m old now values names done sink between marked far s m' v' values' rises (Ok a) stepped a stepped.answer stepped.names sink' count fault said in
      (step_short (λ x. x ≡ a) names s.client between sink' fault said, cut.0, cut.1)
  step_cut s (Err e) stepped fault said count =
      let cut = far_short c m old now values names done sink between marked far s m' v' values' rises (Err e) stepped in
      rw (said.0, said.1) (tt, cut.0, cut.1)

-- a request was answered by a session over sources
module _ {U P V X : Type 0} (s s' : U) (session session' : P) (view : U → View) (means : U → P → Meaning V X) (values : P → NamesOf V) (c : Course X) (old : View) (names : List (List ℕ)) (done : List Heard)
    (sink between sink' : SinkView) (marked : Bool) (far : IsFar c (means s session) old (view s) (values session) names done sink.written between.written marked) (rises : (n : ℕ) → (view s).faults n ≤ (view s').faults n) where
  -- where the answer to a request was told, the lines have come further
  pub request_told : (request : Request) (k : Bool) → IsRequestAnswered s s' session session' view means values names request between sink' (Ok k)
      → IsFar c (means s' session') old (view s') (values session') names (done ++ request_asks request) sink.written sink'.written (marked || k)
  request_told Passed k is = rw (is.0, is.1, is.2, marks_same refl is.3, or_false marked, append_nil done) far
  request_told NoForm k is =
      let said = is.2 in
      rw (is.0, is.1, said.0, or_false marked) (far_no_form c (means s session) old (view s) (values session) names done sink between marked far sink'.written said.1)
  request_told (Step step) k is =
      step_told c (means s session) (means s' session') old (view s) (view s') (values session) (values session') names done sink between sink' marked far rises step.now is.answer is.stepped k is.said

  -- how lines end whatever is asked for after a request that asks for this
  abbrev pub RequestCut : List Heard → LinesFault → Type 0
  RequestCut asks fault = CutAt c (means s session) (means s' session') old (view s) (view s') (values session) (values session') names done sink between sink' marked far rises asks fault

  -- where the answer to a request was cut short, the lines end
  pub request_cut : (request : Request) (fault : LinesFault) → IsRequestAnswered s s' session session' view means values names request between sink' (Err fault) → sink.faults ≤ between.faults
      → RequestCut (request_asks request) fault
  request_cut Passed fault is count = absurd (let e = is.3 in cc)
  request_cut NoForm fault is count =
      let cut = far_no_form_cut c (means s session) old (view s) (values session) names done sink between marked far sink' count fault is.2 in
      let Ended : U → Type 0 = λ x. (later : List Heard) → Ends c old (view x) names (done ++ heard.no_form ∷ later) sink sink' (Err fault) in
      (no_form_short between sink' fault is.2, cut.0, subst Ended (sym is.0) cut.1)
  request_cut (Step step) fault is count =
      step_cut c (means s session) (means s' session') old (view s) (view s') (values session) (values session') names done sink between sink' marked far rises step.now is.answer is.stepped fault is.said count
