-- What the commands of the top call come to.
use Rattle.std.specs.Prelude.{◌≡◌, ◌⊎◌, ℕ, List}
use Rattle.mix_io.specs.Input.{InputView}
use Rattle.mix_io.specs.Views.{SinkView}
use Rattle.mix_run.specs.Ends.{EndsAlong}
use Rattle.mix_run.specs.Outside.{Outside}
use Rattle.mix_run.specs.TalkEnds.{IsHeld}
use Rattle.mix_top.specs.Commands.{Command, talk}
use Rattle.mix_top.specs.Course.{IsCourse}

-- how a command ends: it takes nothing of the input and ends as its course says, or it is a talk that was held
abbrev pub CommandEnds : Command → Outside → Outside → InputView → InputView → SinkView → SinkView → ℕ → Type 0
CommandEnds command before after input input' sink sink' status =
    ((input' ≡ input) × EndsAlong (after.stores ≡ before.stores) (IsCourse before after command) sink sink' status)
    ⊎ ((view : List ℕ) × (catalog : List ℕ) × (command ≡ talk view catalog) × IsHeld before after view catalog input input' sink sink' status)
