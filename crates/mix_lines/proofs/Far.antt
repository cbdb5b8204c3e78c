-- Lines that answer requests begin, come one request further, and end.
use Rattle.std.proofs.Common.{◌≡◌, ◌∙◌, inl, inr, ◌+◌, ◌≤◌, ℕ, Bool, false, ◌||◌, List, [], ◌∷◌, ◌++◌, Option, Some, None, Result, Err, refl, ap, sym, subst, arith, length, take, append_assoc, length-append}
use Rattle.std.specs.declared.alloc.AllocError.{AllocError}
use Rattle.mix_base.proofs.Lists.{append_nil}
use Rattle.mix_io.specs.Contents.{Appends, AppendsPrefix}
use Rattle.mix_io.specs.Views.{SinkView}
use Rattle.mix_io.proofs.Written.{one_more}
use Rattle.lxp_core.specs.View.{View}
use Rattle.mix_script.specs.Names.{NamesOf, no_names}
use Rattle.mix_script.specs.Answers.{line_of}
use Rattle.mix_script.specs.Allowed.{is_fault}
use Rattle.mix_script.specs.declared.step.Step.{Step}
use Rattle.mix_script.specs.declared.answer.Answer.{Answer}
use Rattle.mix_script.proofs.Answering.{has_fault_push}
use Rattle.mix_session.specs.Meaning.{Course, Meaning}
use Rattle.mix_session.specs.Held.{IsSession}
use Rattle.mix_session.specs.Stepped.{IsStep, NamesGiven, Stepped}
use Rattle.mix_lines.specs.Cuts.{IsNoFormCut, IsStepCut, WrotePrefix}
use Rattle.mix_lines.specs.Ends.{Ends, EndsBetween, EndsWithin, IsLazy, IsRun, IsWhole}
use Rattle.mix_lines.specs.Heard.{Heard, no_form, step, steps_in}
use Rattle.mix_lines.specs.Lines.{no_form_line, spoken}
use Rattle.mix_lines.specs.Written.{IsFar, IsSoFar}
use Rattle.mix_lines.specs.declared.fault.LinesFault.{LinesFault}
use Rattle.mix_lines.specs.declared.fault.LinesFault.TheVariants.{InputFailed, SinkFailed, OutOfMemory}
use Rattle.mix_lines.proofs.SoFar.{so_far_start, so_far_run, so_far_lazy, earlier, lazy_begun, next}
use Rattle.mix_lines.proofs.Telling.{spoken_append, steps_append}
use Rattle.mix_lines.proofs.Timely.{appends_nothing}

-- before any request nothing was answered
pub far_start : {V W : Type 0} (m : Meaning V W) (v : View) (values : NamesOf V) (names : List (List ℕ)) (before : Option (List ℕ)) → IsSession m values → values ≡ no_names
    → IsFar m.course m v v values names [] before before false
far_start m v values names before session none = record {
  session = session;
  answers = [];
  so = λ later. so_far_start m v values later none;
  all = refl;
  written = appends_nothing before;
  marks = refl;
}

-- lines that were written and then a prefix of a line are a prefix of all
prefix : (o now after : Option (List ℕ)) (lines line : List ℕ) → Appends o now lines → AppendsPrefix now after line → (count : ℕ) × Appends o after (lines ++ take count line)
prefix None now after lines line h k = (0, subst (λ (m : Option (List ℕ)). AppendsPrefix m after line) h k)
prefix (Some w) now after lines line h k =
    let cut : (n : ℕ) × (after ≡ Some ((w ++ lines) ++ take n line)) = subst (λ (m : Option (List ℕ)). AppendsPrefix m after line) h k in
    (cut.0, cut.1 ∙ ap Some (append_assoc w lines (take cut.0 line)))

module _ {V W : Type 0} (c : Course W) (m : Meaning V W) (old now : View) (values : NamesOf V) (names : List (List ℕ)) (heard : List Heard) (sink between : SinkView) (marked : Bool)
    (far : IsFar c m old now values names heard sink.written between.written marked) where
  -- the lines that were written, and anything after them
  abbrev pub AreThere : SinkView → Type 0
  AreThere sink' = (rest : List ℕ) × Appends sink.written sink'.written (spoken names heard far.answers ++ rest)

  -- where nothing more was written, the lines are there
  pub there : AreThere between
  there = ([], subst (Appends sink.written between.written) (sym (append_nil (spoken names heard far.answers))) far.written)

  -- all that was heard was answered
  pub far_whole : IsWhole (IsRun c old.faults now.faults (steps_in heard)) (IsLazy c old.fills now.fills (steps_in heard)) names heard sink between marked
  far_whole =
      let So : List Step → Type 0 = λ steps. IsSoFar c m old now values steps [] far.answers in
      let so : So (steps_in heard) = subst So (append_nil (steps_in heard)) (far.so []) in
      record {
        answers = far.answers;
        are = so_far_run c m old now now values (steps_in heard) [] far.answers so (λ s. omega arith);
        all = far.all;
        written = far.written;
        cost = so_far_lazy c m old now values (steps_in heard) [] far.answers so;
        marks = far.marks;
      }

  -- the answers so far are those to what was heard first
  so_first : (later : List Heard) → IsSoFar c m old now values (steps_in (heard ++ later)) (steps_in later) far.answers
  so_first later = subst (λ steps. IsSoFar c m old now values steps (steps_in later) far.answers) (sym (steps_append heard later)) (far.so (steps_in later))

  -- answers that a run on the course gives to what was heard and what is asked for later
  abbrev Are : List Heard → View → List Answer → Type 0
  Are later new = IsRun c old.faults new.faults (steps_in (heard ++ later))

  -- answers that cost no more than the course allows
  abbrev Cost : List Heard → View → List Answer → Type 0
  Cost later new = IsLazy c old.fills new.fills (steps_in (heard ++ later))

  -- the lines end between two lines, where nothing is begun
  pub far_stops : (later : List Heard) → EndsBetween (Are later now) (Cost later now) names (heard ++ later) sink between
  far_stops later = record {
    done = heard;
    later = later;
    parts = refl;
    answers = far.answers;
    are = so_far_run c m old now now values (steps_in (heard ++ later)) (steps_in later) far.answers (so_first later) (λ s. omega arith);
    all = far.all;
    written = far.written;
    cost = so_far_lazy c m old now values (steps_in (heard ++ later)) (steps_in later) far.answers (so_first later);
  }

  -- where the line of a request of no form was written, the lines have come further
  pub far_no_form : (after : Option (List ℕ)) → Appends between.written after no_form_line → IsFar c m old now values names (heard ++ no_form ∷ []) sink.written after marked
  far_no_form after wrote =
      let same : steps_in (heard ++ no_form ∷ []) ≡ steps_in heard = steps_append heard (no_form ∷ []) ∙ append_nil (steps_in heard) in
      let lines : spoken names (heard ++ no_form ∷ []) far.answers ≡ spoken names heard far.answers ++ no_form_line =
      ap (spoken names (heard ++ no_form ∷ [])) (sym (append_nil far.answers)) ∙ spoken_append names heard (no_form ∷ []) far.answers [] far.all in
      record {
        session = far.session;
        answers = far.answers;
        so = λ later. subst (λ steps. IsSoFar c m old now values (steps ++ later) later far.answers) (sym same) (far.so later);
        all = far.all ∙ sym (ap (λ (xs : List Step). length xs) same);
        written = subst (Appends sink.written after) (sym lines) (one_more sink.written between.written after (spoken names heard far.answers) no_form_line far.written wrote);
        marks = far.marks;
      }

  -- where the line of a request of no form was cut short, the lines end
  module _ (sink' : SinkView) (rises : sink.faults ≤ between.faults) where
    -- a prefix of the line was written
    within_no_form : (later : List Heard) → AppendsPrefix between.written sink'.written no_form_line
        → EndsWithin (Are (no_form ∷ later) now) (Cost (no_form ∷ later) now) names (heard ++ no_form ∷ later) sink sink'
    within_no_form later wrote =
        let written = prefix sink.written between.written sink'.written (spoken names heard far.answers) no_form_line far.written wrote in
        let steps = steps_in (heard ++ no_form ∷ later) in
        let here = so_first (no_form ∷ later) in
        record {
          done = heard;
          next = no_form;
          later = later;
          parts = refl;
          answers = far.answers;
          last = [];
          are = subst (Are (no_form ∷ later) now) (sym (append_nil far.answers)) (so_far_run c m old now now values steps (steps_in later) far.answers here (λ s. omega arith));
          all = far.all;
          one = refl;
          count = written.0;
          written = written.1;
          cost = so_far_lazy c m old now values steps (steps_in later) far.answers here;
        }

    -- the lines that were written before are there
    no_form_there : AppendsPrefix between.written sink'.written no_form_line → AreThere sink'
    no_form_there wrote =
        let written = prefix sink.written between.written sink'.written (spoken names heard far.answers) no_form_line far.written wrote in
        (take written.0 no_form_line, written.1)

    pub far_no_form_cut : (fault : LinesFault) → IsNoFormCut between sink' fault → AreThere sink' × ((later : List Heard) → Ends c old now names (heard ++ no_form ∷ later) sink sink' (Err fault))
    far_no_form_cut InputFailed cut = absurd cut
    far_no_form_cut SinkFailed cut = (no_form_there cut.1, λ later. (let h = cut.0 in omega (arith, h, rises), within_no_form later cut.1))
    far_no_form_cut OutOfMemory cut = (no_form_there cut, λ later. inr (within_no_form later cut))

  -- a step was answered
  module _ (s : Step) (m' : Meaning V W) (v' : View) (values' : NamesOf V) (rises : (n : ℕ) → now.faults n ≤ v'.faults n) (answered : Result Answer AllocError)
      (stepped : Stepped m m' now v' values values' s.client s.act answered) where
    -- the lines end before the step's line
    before_line : (sink' : SinkView) → sink' ≡ between → (later : List Heard) → EndsBetween (Are (step s ∷ later) v') (Cost (step s ∷ later) v') names (heard ++ step s ∷ later) sink sink'
    before_line sink' same later = record {
      done = heard;
      later = step s ∷ later;
      parts = refl;
      answers = far.answers;
      are = earlier c m m' old now v' values values' (steps_in (heard ++ step s ∷ later)) s (steps_in later) far.answers (so_first (step s ∷ later)) rises answered stepped;
      all = far.all;
      written = subst (λ (x : SinkView). Appends sink.written x.written (spoken names heard far.answers)) (sym same) far.written;
      cost = lazy_begun c m m' old now v' values values' (steps_in (heard ++ step s ∷ later)) s (steps_in later) far.answers (so_first (step s ∷ later)) rises answered stepped;
    }

    -- where memory ran out before there was an answer, the lines end
    pub far_short : AreThere between × ((later : List Heard) → Ends c old v' names (heard ++ step s ∷ later) sink between (Err OutOfMemory))
    far_short = (there, λ later. inl (before_line between refl later))

    module _ (a : Answer) (is : IsStep m m' now.faults v'.faults values values' s.client s.act a) (given : NamesGiven m' values values' s.client s.act a) where
      -- where the step's line was written, the lines have come further
      pub far_step : (after : Option (List ℕ)) → Appends between.written after (line_of names s.client a) → IsFar c m' old v' values' names (heard ++ step s ∷ []) sink.written after (marked || is_fault a)
      far_step after wrote =
          let same : steps_in (heard ++ step s ∷ []) ≡ steps_in heard ++ s ∷ [] = steps_append heard (step s ∷ []) in
          let lines : spoken names (heard ++ step s ∷ []) (far.answers ++ a ∷ []) ≡ spoken names heard far.answers ++ line_of names s.client a =
          spoken_append names heard (step s ∷ []) far.answers (a ∷ []) far.all ∙ ap (λ l. spoken names heard far.answers ++ l) (append_nil (line_of names s.client a)) in
          record {
            session = stepped.session;
            answers = far.answers ++ a ∷ [];
            so = λ later.
                subst (λ steps. IsSoFar c m' old v' values' steps later (far.answers ++ a ∷ [])) (sym (append_assoc (steps_in heard) (s ∷ []) later) ∙ ap (λ steps. steps ++ later) (sym same))
                (next c m m' old now v' values values' (steps_in heard ++ s ∷ later) s later far.answers (far.so (s ∷ later)) rises answered stepped a is given);
            all = length-append far.answers (a ∷ []) ∙ ap (λ n. n + 1) far.all ∙ sym (ap (λ (xs : List Step). length xs) same ∙ length-append (steps_in heard) (s ∷ []));
            written = subst (Appends sink.written after) (sym lines) (one_more sink.written between.written after (spoken names heard far.answers) (line_of names s.client a) far.written wrote);
            marks = ap (λ k. k || is_fault a) far.marks ∙ sym (has_fault_push far.answers a);
          }

      module _ (sink' : SinkView) where
        -- what was written of the step's line is a prefix of it
        cut_line : WrotePrefix (λ x. x ≡ a) names s.client between sink' → (count : ℕ) × Appends sink.written sink'.written (spoken names heard far.answers ++ take count (spoken names (step s ∷ []) (a ∷ [])))
        cut_line w =
            let line = spoken names (step s ∷ []) (a ∷ []) in
            let whole : line_of names s.client w.a ≡ line = ap (line_of names s.client) w.answer ∙ sym (append_nil (line_of names s.client a)) in
            prefix sink.written between.written sink'.written (spoken names heard far.answers) line far.written (subst (AppendsPrefix between.written sink'.written) whole w.written)

        -- where a prefix of the step's line was written, the lines end within it
        within_line : (later : List Heard) → WrotePrefix (λ x. x ≡ a) names s.client between sink' → EndsWithin (Are (step s ∷ later) v') (Cost (step s ∷ later) v') names (heard ++ step s ∷ later) sink sink'
        within_line later w =
            let cut = cut_line w in
            let steps = steps_in (heard ++ step s ∷ later) in
            let here = so_first (step s ∷ later) in
            record {
              done = heard;
              next = step s;
              later = later;
              parts = refl;
              answers = far.answers;
              last = a ∷ [];
              are = so_far_run c m' old v' v' values' steps (steps_in later) (far.answers ++ a ∷ []) (next c m m' old now v' values values' steps s (steps_in later) far.answers here rises answered stepped a is given) (λ n. omega arith);
              all = far.all;
              one = refl;
              count = cut.0;
              written = cut.1;
              cost = lazy_begun c m m' old now v' values values' steps s (steps_in later) far.answers here rises answered stepped;
            }

        -- the lines that were written before are there
        line_there : WrotePrefix (λ x. x ≡ a) names s.client between sink' → AreThere sink'
        line_there w = let cut = cut_line w in (take cut.0 (spoken names (step s ∷ []) (a ∷ [])), cut.1)

        -- where the step's line was cut short, the lines end
        pub far_cut : sink.faults ≤ between.faults → (fault : LinesFault) → IsStepCut (λ x. x ≡ a) names s.client between sink' fault
            → AreThere sink' × ((later : List Heard) → Ends c old v' names (heard ++ step s ∷ later) sink sink' (Err fault))
        far_cut count InputFailed cut = absurd cut
        far_cut count SinkFailed cut = (line_there cut.1, λ later. (let h = cut.0 in omega (arith, h, count), within_line later cut.1))
        far_cut count OutOfMemory (inl same) = (subst (λ (x : SinkView). AreThere x) (sym same) there, λ later. inl (before_line sink' same later))
        far_cut count OutOfMemory (inr w) = (line_there w, λ later. inr (within_line later w))
