-- What answering one request comes to, and all that come.
use Rattle.std.specs.Prelude.{◌≡◌, ℕ, Bool, true, false, List, [], ◌++◌, length, Result, Ok, Err}
use Rattle.std.specs.declared.alloc.AllocError.{AllocError}
use Rattle.mix_io.specs.Contents.{Appends}
use Rattle.mix_io.specs.Views.{SinkView}
use Rattle.lxp_core.specs.View.{View}
use Rattle.mix_script.specs.Names.{NamesOf}
use Rattle.mix_script.specs.declared.answer.Answer.{Answer}
use Rattle.mix_script.specs.declared.step.Step as step
use Rattle.mix_session.specs.Meaning.{Course, Meaning}
use Rattle.mix_session.specs.Stepped.{Stepped}
use Rattle.mix_io.specs.declared.input.TakeFault.{TakeFault}
use Rattle.mix_lines.specs.Cuts.{WroteLine, IsNoFormCut, IsStepCut, of_take}
use Rattle.mix_lines.specs.Ends.{Ends}
use Rattle.mix_lines.specs.Heard.{Heard, steps_in}
use Rattle.mix_lines.specs.declared.fault.LinesFault.{LinesFault}
use Rattle.mix_lines.specs.declared.fault.LinesFault.TheVariants.{InputFailed, SinkFailed, OutOfMemory}
use Rattle.mix_lines.specs.Lines.{no_form_line, spoken}
use Rattle.mix_lines.specs.Requests.{coming}
use Rattle.mix_lines.specs.declared.requests.Request.{Request}
use Rattle.mix_lines.specs.declared.requests.Request.TheVariants.{Passed, NoForm, Step}

-- what was written of an answer to a step: its line, or a prefix of it; where there is none since memory ran out, nothing
abbrev pub IsSaid : List (List ℕ) → List ℕ → SinkView → SinkView → Result Answer AllocError → Result Bool LinesFault → Type 0
IsSaid names client before after (Ok a) (Ok marked) = WroteLine (λ x. x ≡ a) names client before after marked
IsSaid names client before after (Ok a) (Err fault) = IsStepCut (λ x. x ≡ a) names client before after fault
IsSaid names client before after (Err e) (Ok marked) = ⊥
IsSaid names client before after (Err e) (Err fault) = (fault ≡ OutOfMemory) × (after ≡ before)

-- a step was answered, and its line written
pub record IsStepAnswered {V W : Type 0} (m m' : Meaning V W) (v v' : View) (values values' : NamesOf V) (names : List (List ℕ)) (s : step.Step) (before after : SinkView) (r : Result Bool LinesFault) : Type 0 where
  pub answer : Result Answer AllocError
  pub stepped : Stepped m m' v v' values values' s.client s.act answer
  pub said : IsSaid names s.client before after answer r

-- the line that answers a line of no form was written whole, or it was cut short
abbrev pub SaidNoForm : SinkView → SinkView → Result Bool LinesFault → Type 0
SaidNoForm before after (Ok marked) = (marked ≡ false) × Appends before.written after.written no_form_line
SaidNoForm before after (Err fault) = IsNoFormCut before after fault

-- a request was answered by a session over sources: one that asks for nothing by nothing, one of no form by its line alone, and a step as a
-- step is
abbrev pub IsRequestAnswered : {U P V X : Type 0} → U → U → P → P → (U → View) → (U → P → Meaning V X) → (P → NamesOf V) → List (List ℕ) → Request → SinkView → SinkView → Result Bool LinesFault → Type 0
IsRequestAnswered s s' session session' view means values names Passed before after r = (s' ≡ s) × (session' ≡ session) × (after ≡ before) × (r ≡ Ok false)
IsRequestAnswered s s' session session' view means values names NoForm before after r = (s' ≡ s) × (session' ≡ session) × SaidNoForm before after r
IsRequestAnswered s s' session session' view means values names (Step step) before after r =
    IsStepAnswered (means s session) (means s' session') (view s) (view s') (values session) (values session') names step.now before after r

-- lines were cut short by what answers a request
abbrev pub IsCutByAnswer : Result Bool LinesFault → Type 0
IsCutByAnswer (Ok marked) = ⊥
IsCutByAnswer (Err InputFailed) = ⊥
IsCutByAnswer (Err SinkFailed) = Unit {0}
IsCutByAnswer (Err OutOfMemory) = Unit {0}

-- how lines can end after the last call for a request: where one came, cut short by its answer; where none came any more, whole; and else
-- as the call failed
abbrev pub EndsAfter : Result Bool TakeFault → Result Bool LinesFault → Type 0
EndsAfter (Ok true) r = IsCutByAnswer r
EndsAfter (Ok false) r = (marked : Bool) × (r ≡ Ok marked)
EndsAfter (Err fault) r = r ≡ Err (of_take fault)

-- what may be asked for after the last request that came, where lines end so: nothing where they are whole
abbrev pub IsLater : Result Bool LinesFault → List Heard → Type 0
IsLater (Ok marked) later = later ≡ []
IsLater (Err InputFailed) later = later ≡ []
IsLater (Err SinkFailed) later = Unit {0}
IsLater (Err OutOfMemory) later = Unit {0}

-- requests were answered on a course: the lines of all that came up to some state were written, and then one more was asked for. Whatever is
-- asked for later, the lines end so
pub record AreAnswered {R F W : Type 0} (Come : R → F → List Heard → Type 0) (Moved : R → F → R → F → Result Bool TakeFault → Type 0) (IsReady : R → F → Type 0) (asks : R → List Heard)
    (c : Course W) (old new : View) (names : List (List ℕ)) (from : F) (before after : SinkView) (r : Result Bool LinesFault) : Type 0 where
  pub requests : R
  pub given : F
  pub ready : IsReady requests given
  pub done : List Heard
  pub come : Come requests given done
  pub answers : List Answer
  pub all : length answers ≡ length (steps_in done)
  pub rest : List ℕ
  pub written : Appends before.written after.written (spoken names done answers ++ rest)
  pub last : R
  pub call : Result Bool TakeFault
  pub moved : Moved requests given last from call
  pub ends_after : EndsAfter call r
  pub ends : (later : List Heard) → IsLater r later → Ends c old new names (done ++ (coming (asks last) call ++ later)) before after r
