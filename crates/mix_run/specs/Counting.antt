-- What writing the counts of a run comes to.
use Rattle.std.specs.Prelude.{◌≡◌, ◌⊎◌, ℕ, List, Result, Ok, Err}
use Rattle.mix_io.specs.Views.{SinkView}
use Rattle.mix_run.specs.declared.counting.Counts.{Counts}
use Rattle.mix_run.specs.declared.outcome.Outcome.{Outcome}
use Rattle.mix_place.specs.declared.refusal.Stop.{Stop}
use Rattle.mix_run.specs.Counts.{count_lines}
use Rattle.mix_run.specs.Stops.{IsCut, Wrote}

-- the lines that tell the counts of a run, and the class of its view
abbrev pub lines_of_counts : Counts → List ℕ
lines_of_counts counts = count_lines counts.commands counts.spent.fills counts.spent.pages counts.class

-- a run came to its end with a given outcome, and the lines of its counts were written
abbrev pub IsCounted : Result Outcome Stop → SinkView → SinkView → List ℕ → Outcome → Type 0
IsCounted end before after lines outcome = (end ≡ Ok outcome) × Wrote before after lines

-- a run was cut short and no counts were written, or it came to its end and the lines of its counts were cut short
abbrev pub IsCountStop : Result Outcome Stop → SinkView → SinkView → List ℕ → Stop → Type 0
IsCountStop end before after lines stop =
    ((end ≡ Err stop) × (after ≡ before))
    ⊎ ((outcome : Outcome) × (end ≡ Ok outcome) × IsCut before after lines stop)
