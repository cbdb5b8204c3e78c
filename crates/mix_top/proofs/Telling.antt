-- How a command ends whose end was told.
use Rattle.std.proofs.Common.{Result, Ok, Err, IfOk, IfErr, ◌≡◌, ◌≤◌, inl, inr, ◌∙◌, ℕ, List, Option, refl, string_bytes, sym, subst}
use Rattle.mix_base.proofs.Risen.{risen_before}
use Rattle.mix_io.specs.Input.{InputView}
use Rattle.mix_io.specs.Views.{SinkView}
use Rattle.mix_io.specs.Contents.{Appends, AppendsPrefix}
use Rattle.mix_top.specs.Commands.{Command, help, version, walk, read, plan, check, run, count, exec, loop, talk, load, unknown}
use Rattle.mix_top.specs.Call.{CommandEnds}
use Rattle.mix_top.specs.Course.{IsCourse}
use Rattle.mix_top.specs.Stops.{IsTold}
use Rattle.mix_run.specs.Ends.{Ends, EndsFrom, TookPrefix}
use Rattle.mix_run.specs.Outside.{Outside}
use Rattle.mix_run.specs.Stops.{IsDoneAs, IsStopFrom, outcome_status}
use Rattle.mix_run.specs.TalkEnds.{TalkEnds}
use Rattle.mix_run.specs.Talks.{IsTalkRefused}
use Rattle.mix_run.specs.declared.outcome.Outcome.{Outcome}
use Rattle.mix_place.specs.declared.refusal.Refusal.{Refusal}
use Rattle.mix_place.specs.declared.refusal.Stop.{Stop}
use Rattle.mix_place.specs.declared.refusal.Stop.TheVariants.{Refused, SinkFailed, OutOfMemory}
use Rattle.mix_run.proofs.Further.{TookOn, answered_on, ends_on}
use Rattle.mix_run.proofs.Lines.{nothing_of}

module _ (before mid after : SinkView) (on : TookOn mid after) where
  -- the lines of a command's course are those of it after the sink took more lines
  course_on : (o o' : Outside) (command : Command) (status : ℕ) (lines : List ℕ) → IsCourse o o' command before mid status lines → IsCourse o o' command before after status lines
  course_on o o' help status lines h = h
  course_on o o' version status lines h = h
  course_on o o' (walk file script) status lines h = h
  course_on o o' (read view catalog) status lines h = h
  course_on o o' (plan view catalog) status lines h = h
  course_on o o' (check text catalog) status lines h = h
  course_on o o' (run view catalog script) status lines (inl refused) = inl refused
  course_on o o' (run view catalog script) status lines (inr h) = inr (h.0, h.1, (h.2.0, answered_on before mid after on o.stores o'.stores h.0 h.2.0 status lines h.2.1))
  course_on o o' (count view catalog script) status lines (inl refused) = inl refused
  course_on o o' (count view catalog script) status lines (inr h) = inr (h.0, h.1, (h.2.0, h.2.1, answered_on before mid after on o.stores o'.stores h.0 h.2.0 status h.2.1 h.2.2, h.2.3))
  course_on o o' (exec text catalog script) status lines (inl refused) = inl refused
  course_on o o' (exec text catalog script) status lines (inr h) = inr (h.0, h.1, (h.2.0, answered_on before mid after on o.stores o'.stores h.0 h.2.0 status lines h.2.1))
  course_on o o' (loop view catalog script) status lines (inl refused) = inl refused
  course_on o o' (loop view catalog script) status lines (inr h) = inr (h.0, h.1, (h.2.0, answered_on before mid after on o.stores o'.stores h.0 h.2.0 status lines h.2.1))
  course_on o o' (talk view catalog) status lines h = h
  course_on o o' (load people) status lines h = h
  course_on o o' unknown status lines h = h

-- the refusal of a command is its course, and its line is written, or cut short
pub refused_ends : (o o' : Outside) (command : Command) (before mid after : SinkView) (r : Refusal) (status : ℕ) → before.faults ≤ mid.faults
    → IsStopFrom (o'.stores ≡ o.stores) (IsCourse o o' command before mid) before mid (Refused r) → Ends (λ s lines. (s ≡ r.status) × (lines ≡ string_bytes r.line)) mid after status
    → EndsFrom (o'.stores ≡ o.stores) (IsCourse o o' command before after) before after status
refused_ends o o' command before mid after r status steady stop ends = ended ends
  where
    Line : ℕ → List ℕ → Type 0
    Line s lines = (s ≡ r.status) × (lines ≡ string_bytes r.line)

    on : TookOn mid after
    on = ends_on Line mid after status ends

    -- the line of the refusal is a line of the command's course
    lines_are : (s : ℕ) (lines : List ℕ) → Line s lines → IsCourse o o' command before after s lines
    lines_are s lines l =
        subst (λ (n : ℕ). IsCourse o o' command before after n lines) (sym l.0)
        (subst (λ (x : List ℕ). IsCourse o o' command before after r.status x) (sym l.1) (course_on before mid after on o o' command r.status (string_bytes r.line) stop.0))

    prefix : TookPrefix Line mid after → TookPrefix (IsCourse o o' command before after) before after
    prefix f = (f.0, f.1, lines_are f.0 f.1 f.2, subst (λ (x : Option (List ℕ)). AppendsPrefix x after.written f.1) stop.1 f.3)

    -- where nothing was written of the refusal's line, no byte was of the lines of the command's course
    nothing : after.written ≡ mid.written → TookPrefix (IsCourse o o' command before after) before after
    nothing same = (
      r.status,
      string_bytes r.line,
      lines_are r.status (string_bytes r.line) (refl, refl),
      subst (λ (x : Option (List ℕ)). AppendsPrefix before.written x (string_bytes r.line)) (sym (same ∙ stop.1)) (nothing_of before.written (string_bytes r.line)),
    )

    ended : Ends Line mid after status → EndsFrom (o'.stores ≡ o.stores) (IsCourse o o' command before after) before after status
    ended (inl w) = inl (record { lines = w.lines; course = lines_are status w.lines w.course; written = subst (λ (x : Option (List ℕ)). Appends x after.written w.lines) stop.1 w.written })
    ended (inr (inl w)) = inr (inl (record { five = w.five; cause = risen_before before.faults mid.faults after.faults steady w.cause; prefix = prefix w.prefix }))
    ended (inr (inr w)) = inr (inr (record { six = w.six; prefix = elim w.prefix [ inl same ↦ inr (nothing same.1) | inr f ↦ inr (prefix f) ] }))

-- a command whose lines were done or stopped, and whose end was told, ends as its course says
pub told_ends : (o o' : Outside) (command : Command) (before mid after : SinkView) (end : Result Outcome Stop) (status : ℕ) → before.faults ≤ mid.faults
    → IfOk end (IsDoneAs (IsCourse o o' command before mid) before mid) → IfErr end (IsStopFrom (o'.stores ≡ o.stores) (IsCourse o o' command before mid) before mid) → IsTold end mid after status
    → EndsFrom (o'.stores ≡ o.stores) (IsCourse o o' command before after) before after status
told_ends o o' command before mid after end status steady = told end
  where
    Ended : SinkView → ℕ → Type 0
    Ended s n = EndsFrom (o'.stores ≡ o.stores) (IsCourse o o' command before s) before s n

    -- where no line was written after the command's, it ends as these say
    still : (n : ℕ) → status ≡ n → after ≡ mid → Ended mid n → Ended after status
    still n e same h = subst (λ (s : SinkView). Ended s status) (sym same) (subst (Ended mid) (sym e) h)

    told : (end : Result Outcome Stop) → IfOk end (IsDoneAs (IsCourse o o' command before mid) before mid) → IfErr end (IsStopFrom (o'.stores ≡ o.stores) (IsCourse o o' command before mid) before mid)
        → IsTold end mid after status → Ended after status
    told (Ok outcome) done stop is = still (outcome_status outcome) is.0 is.1 (inl (record { lines = done.0; course = done.1; written = done.2 }))
    told (Err (Refused r)) done stop is = refused_ends o o' command before mid after r status steady stop is
    told (Err SinkFailed) done stop is = still 5 is.0 is.1 (inr (inl (record { five = refl; cause = stop.0; prefix = stop.1 })))
    told (Err OutOfMemory) done stop is = still 6 is.0 is.1 (inr (inr (record { six = refl; prefix = stop })))

-- where what is given is so in any case, it was so before any line
pub ends_from : (Unbegun : Type 0) → Unbegun → (Course : ℕ → List ℕ → Type 0) (before after : SinkView) (status : ℕ) → Ends Course before after status → EndsFrom Unbegun Course before after status
ends_from Unbegun is Course before after status (inl w) = inl w
ends_from Unbegun is Course before after status (inr (inl w)) = inr (inl w)
ends_from Unbegun is Course before after status (inr (inr w)) = inr (inr (record { six = w.six; prefix = elim w.prefix [ inl none ↦ inl (is, none.1) | inr p ↦ inr p ] }))

-- a talk that ended, which a command is, ends as this command
pub talk_ends : (o o' : Outside) (command : Command) (view catalog : List ℕ) → talk view catalog ≡ command → (input input' : InputView) (before after : SinkView) (status : ℕ)
    → TalkEnds o o' view catalog input input' before after status → CommandEnds command o o' input input' before after status
talk_ends o o' command view catalog is input input' before after status (inr held) = inr (view, catalog, sym is, held)
talk_ends o o' command view catalog is input input' before after status (inl h) = inl (h.0, subst (λ (c : Command). EndsFrom (o'.stores ≡ o.stores) (IsCourse o o' c before after) before after status) is (refused h.2))
  where
    same : o'.stores ≡ o.stores
    same = h.1

    more : TookPrefix (IsTalkRefused o.files o'.files view catalog) before after → TookPrefix (IsCourse o o' (talk view catalog) before after) before after
    more p = (p.0, p.1, (p.2, same), p.3)

    refused : Ends (IsTalkRefused o.files o'.files view catalog) before after status → EndsFrom (o'.stores ≡ o.stores) (IsCourse o o' (talk view catalog) before after) before after status
    refused (inl w) = inl (record { lines = w.lines; course = (w.course, same); written = w.written })
    refused (inr (inl w)) = inr (inl (record { five = w.five; cause = w.cause; prefix = more w.prefix }))
    refused (inr (inr w)) = inr (inr (record { six = w.six; prefix = elim w.prefix [ inl none ↦ inl (same, none.1) | inr p ↦ inr (more p) ] }))
