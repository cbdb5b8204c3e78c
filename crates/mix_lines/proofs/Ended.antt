-- How requests end that were answered.
use Rattle.std.proofs.Common.{◌≡◌, ◌∙◌, inl, ℕ, Bool, true, false, List, [], ◌++◌, Result, Ok, Err, refl, ap, sym, subst, arith}
use Rattle.mix_base.proofs.Lists.{append_nil}
use Rattle.mix_io.specs.Views.{SinkView}
use Rattle.mix_io.specs.declared.input.TakeFault.{TakeFault}
use Rattle.mix_io.specs.declared.input.TakeFault.TheVariants as take
use Rattle.lxp_core.specs.View.{View}
use Rattle.mix_script.specs.Names.{NamesOf}
use Rattle.mix_script.specs.declared.step.Step.{Step}
use Rattle.mix_session.specs.Meaning.{Course, Meaning}
use Rattle.mix_lines.specs.Answered.{AreAnswered, IsCutByAnswer, IsLater}
use Rattle.mix_lines.specs.Cuts.{of_take}
use Rattle.mix_lines.specs.Ends.{Ends}
use Rattle.mix_lines.specs.Heard.{Heard, steps_in}
use Rattle.mix_lines.specs.Written.{IsFar}
use Rattle.mix_lines.specs.declared.fault.LinesFault.{LinesFault}
use Rattle.mix_lines.specs.declared.fault.LinesFault.TheVariants.{OutOfMemory}
use Rattle.mix_lines.proofs.Timely.{appends_nothing}
use Rattle.mix_lines.proofs.Far.{AreThere, far_stops, far_whole, there}

module _ {R F V W : Type 0} (Come : R → F → List Heard → Type 0) (Moved : R → F → R → F → Result Bool TakeFault → Type 0) (IsReady : R → F → Type 0) (asks : R → List Heard)
    (c : Course W) (m : Meaning V W) (old now : View) (values : NamesOf V) (names : List (List ℕ)) (sink between : SinkView) (marked : Bool) (requests : R) (given : F) (ready : IsReady requests given)
    (done : List Heard) (come : Come requests given done) (far : IsFar c m old now values names done sink.written between.written marked) (last : R) (from : F) where
  -- requests that were answered end so
  abbrev Answered : View → SinkView → Result Bool LinesFault → Type 0
  Answered new sink' r = AreAnswered Come Moved IsReady asks c old new names from sink sink' r

  -- where nothing is asked for later, all that was heard is what was answered
  at_end : (later : List Heard) → later ≡ [] → (r : Result Bool LinesFault) → Ends c old now names done sink between r → Ends c old now names (done ++ later) sink between r
  at_end later none r ends = subst (λ h. Ends c old now names h sink between r) (sym (ap (λ h. done ++ h) none ∙ append_nil done)) ends

  -- where the next request couldn't be asked for, the lines end
  pub answered_failed : (fault : TakeFault) → Moved requests given last from (Err fault) → Answered now between (Err (of_take fault))
  answered_failed fault moved = record {
    requests = requests;
    given = given;
    ready = ready;
    done = done;
    come = come;
    answers = far.answers;
    all = far.all;
    rest = (there c m old now values names done sink between marked far).0;
    written = (there c m old now values names done sink between marked far).1;
    last = last;
    call = Err fault;
    moved = moved;
    ends_after = refl;
    ends = by_fault fault;
  }
    where
      by_fault : (fault : TakeFault) → (later : List Heard) → IsLater (Err (of_take fault)) later → Ends c old now names (done ++ ([] ++ later)) sink between (Err (of_take fault))
      by_fault take.Failed later none = at_end later none (Err (of_take take.Failed)) (marked, far_whole c m old now values names done sink between marked far)
      by_fault take.OutOfMemory later any = inl (far_stops c m old now values names done sink between marked far later)

  -- where there is no request any more, the lines end
  pub answered_all : Moved requests given last from (Ok false) → Answered now between (Ok marked)
  answered_all moved = record {
    requests = requests;
    given = given;
    ready = ready;
    done = done;
    come = come;
    answers = far.answers;
    all = far.all;
    rest = (there c m old now values names done sink between marked far).0;
    written = (there c m old now values names done sink between marked far).1;
    last = last;
    call = Ok false;
    moved = moved;
    ends_after = (marked, refl);
    ends = λ later none. at_end later none (Ok marked) (far_whole c m old now values names done sink between marked far);
  }

  -- where the answer to a request was cut short, the lines end
  pub answered_cut : (new : View) (sink' : SinkView) (fault : LinesFault) (asked : List Heard) → Moved requests given last from (Ok true) → asked ≡ asks last → IsCutByAnswer (Err fault)
      → AreThere c m old now values names done sink between marked far sink' → ((later : List Heard) → Ends c old new names (done ++ (asked ++ later)) sink sink' (Err fault)) → Answered new sink' (Err fault)
  answered_cut new sink' fault asked moved same cut left ends = record {
    requests = requests;
    given = given;
    ready = ready;
    done = done;
    come = come;
    answers = far.answers;
    all = far.all;
    rest = left.0;
    written = left.1;
    last = last;
    call = Ok true;
    moved = moved;
    ends_after = cut;
    ends = λ later any. subst (λ h. Ends c old new names (done ++ (h ++ later)) sink sink' (Err fault)) same (ends later);
  }

-- where memory ran out before anything was asked for, the lines end
pub unbegun_ends : {W : Type 0} (c : Course W) (v : View) (names : List (List ℕ)) (heard : List Heard) (sink : SinkView) → Ends c v v names heard sink sink (Err OutOfMemory)
unbegun_ends c v names heard sink = inl record {
  done = [];
  later = heard;
  parts = refl;
  answers = [];
  are = record { allowed = nothing (steps_in heard); told = λ f one right. nothing (steps_in heard); counted = λ s. omega arith };
  all = refl;
  written = appends_nothing sink.written;
  cost = record { ways = λ ways tolls. omega arith; tree = λ tolls f one right. omega arith };
}
  where
    nothing : List Step → Unit {0}
    nothing steps = tt
