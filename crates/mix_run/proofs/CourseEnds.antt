-- How a call ends, by what its lines are.
use Rattle.std.proofs.Common.{◌≡◌, ℕ, List, inl, inr, subst, sym}
use Rattle.mix_io.specs.Views.{SinkView}
use Rattle.mix_run.specs.Ends.{Ends, TookPrefix}

module _ (Course : ℕ → List ℕ → Type 0) (before after : SinkView) (number : ℕ) (text : List ℕ) (course : Course number text) where
  abbrev These : ℕ → List ℕ → Type 0
  These s lines = (s ≡ number) × (lines ≡ text)

  in_course : (s : ℕ) (lines : List ℕ) → These s lines → Course s lines
  in_course s lines l = subst (λ (n : ℕ). Course n lines) (sym l.0) (subst (Course number) (sym l.1) course)

  prefix_of_course : TookPrefix These before after → TookPrefix Course before after
  prefix_of_course f = (f.0, f.1, in_course f.0 f.1 f.2, f.3)

  -- where a status and lines of a course are answered and written or cut short, a call ends as that course says
  pub course_ends : (status : ℕ) → Ends (λ s lines. (s ≡ number) × (lines ≡ text)) before after status → Ends Course before after status
  course_ends status (inl w) = inl (record { lines = w.lines; course = in_course status w.lines w.course; written = w.written })
  course_ends status (inr (inl w)) = inr (inl (record { five = w.five; cause = w.cause; prefix = prefix_of_course w.prefix }))
  course_ends status (inr (inr w)) = inr (inr (record { six = w.six; prefix = elim w.prefix [ inl same ↦ inl same | inr f ↦ inr (prefix_of_course f) ] }))
