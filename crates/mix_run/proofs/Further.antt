-- What holds of a run whose sink has taken some of its lines holds after it took more.
use Rattle.std.proofs.Common.{inl, inr, ◌∙◌, ℕ, List, ◌++◌, Option, ap, append_assoc, map, sym, subst}
use Rattle.mix_io.specs.Views.{SinkView}
use Rattle.mix_io.specs.Contents.{Appends}
use Rattle.mix_io.proofs.Written.{one_more}
use Rattle.mix_lines.specs.Heard.{Heard, step}
use Rattle.mix_lines.specs.Lines.{spoken}
use Rattle.mix_script.specs.declared.answer.Answer.{Answer}
use Rattle.mix_reach.specs.Stores.{StoresView}
use Rattle.xmas_read.specs.Results.{names_of_sources}
use Rattle.mix_run.specs.Answered.{IsAnswered, IsFrugal}
use Rattle.mix_run.specs.Ends.{Ends}
use Rattle.mix_run.specs.Question.{Question}
use Rattle.mix_run.proofs.Lines.{prefix_on, nothing_more}

-- a sink took some lines more
abbrev pub TookOn : SinkView → SinkView → Type 0
TookOn before after = (more : List ℕ) × Appends before.written after.written more

module _ (before mid after : SinkView) (on : TookOn mid after) where
  -- steps that asked no more than their tolls asked no more after the sink took more lines
  frugal_on : (heard : List Heard) (q : Question) (fills : ℕ) (answers : List Answer) → IsFrugal heard before.written mid.written q fills answers → IsFrugal heard before.written after.written q fills answers
  frugal_on heard q fills answers h = record {
    whole = h.whole;
    later = h.later;
    parts = h.parts;
    lines = h.lines ++ on.0;
    begin = record {
      done = h.begin.done;
      later = h.begin.later;
      parts = h.begin.parts;
      all = h.begin.all;
      rest = h.begin.rest ++ on.0;
      are = ap (λ l. l ++ on.0) h.begin.are ∙ append_assoc (spoken (names_of_sources q.sources) h.begin.done h.whole) h.begin.rest on.0;
    };
    written = one_more before.written mid.written after.written h.lines on.0 h.written on.1;
    cost = h.cost;
  }

  -- the answers of a run are those of that run after the sink took more lines
  pub answered_on : (stores stores' : StoresView) (q : Question) (fills status : ℕ) (lines : List ℕ) → IsAnswered stores stores' q fills before mid status lines
      → IsAnswered stores stores' q fills before after status lines
  answered_on stores stores' q fills status lines h = record {
    answers = h.answers;
    allowed = h.allowed;
    counted = h.counted;
    counted_far = h.counted_far;
    counted_view = h.counted_view;
    status_is = h.status_is;
    pages = h.pages;
    cost = λ e. frugal_on (map step q.steps) q fills h.answers (h.cost e);
    told = h.told;
    untold = h.untold;
  }

-- a command that ended took lines, or none
pub ends_on : (Course : ℕ → List ℕ → Type 0) (before after : SinkView) (status : ℕ) → Ends Course before after status → TookOn before after
ends_on Course before after status (inl w) = (w.lines, w.written)
ends_on Course before after status (inr (inl w)) = prefix_on w.prefix.1 before.written after.written w.prefix.3
ends_on Course before after status (inr (inr w)) =
    elim w.prefix [
      | inl same ↦ subst (λ (x : Option (List ℕ)). (more : List ℕ) × Appends before.written x more) (sym same.1) (nothing_more before.written)
      | inr prefix ↦ prefix_on prefix.1 before.written after.written prefix.3
    ]
