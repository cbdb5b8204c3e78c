-- What a talk comes to.
use Rattle.std.specs.Prelude.{◌≡◌, ℕ, List}
use Rattle.mix_io.specs.Views.{FilesView, SinkView}
use Rattle.mix_lines.specs.Heard.{Heard, steps_in}
use Rattle.mix_run.specs.Answered.{IsHeardAnswered}
use Rattle.mix_run.specs.Runs.{IsRefusedAfter, IsViewQuestion, by_view}
use Rattle.mix_place.specs.Placed.{IsSourceRefused, SourceMayRead}
use Rattle.mix_run.specs.FilesRead.{MayReadAfter}
use Rattle.mix_run.specs.Outside.{Outside}
use Rattle.mix_run.specs.Question.{AreNamed, Question}
use Rattle.mix_place.specs.Reading.{IsEither}

-- a file of a talk is refused, the first in this order: the catalog, the view, and the files of the sources that the view's plan reads
abbrev pub IsTalkRefused : FilesView → FilesView → List ℕ → List ℕ → ℕ → List ℕ → Type 0
IsTalkRefused old new view catalog = IsRefusedAfter by_view (λ sources ops. IsSourceRefused (IsEither catalog view) old new ops sources) old new view catalog

-- a talk may read the catalog, the view, and then the files of the sources that the view's plan reads
abbrev pub TalkMayRead : FilesView → List ℕ → List ℕ → List ℕ → Type 0
TalkMayRead files view catalog = MayReadAfter by_view (λ sources ops. SourceMayRead files ops sources) files view catalog

-- what a talk asks whose files were all accepted: what is asked of its view over its catalog, and the steps that were heard, whose texts are said to name what they
-- name
pub record IsTalk (before : Outside) (view catalog : List ℕ) (asked : List Heard) (q : Question) : Type 0 where
  pub view_is : IsViewQuestion before view catalog q
  pub steps_are : q.steps ≡ steps_in asked
  pub texts : AreNamed q

-- given lines answer, on the document of the view, all that a talk has heard
abbrev pub Talks : Outside → Outside → List ℕ → List ℕ → List Heard → SinkView → SinkView → ℕ → List ℕ → Type 0
Talks before after view catalog asked sink sink' status lines =
    (q : Question) × IsTalk before view catalog asked q
    × (fills : ℕ) × IsHeardAnswered asked before.stores after.stores q fills sink sink' status lines
