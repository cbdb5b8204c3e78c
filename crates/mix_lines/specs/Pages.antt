-- What a page is filled with.
use Rattle.std.specs.Prelude.{◌≡◌, ◌^◌, ◌<◌, ℕ, List, []}
use Rattle.mix_io.specs.Input.{InputView, IsAtEnd, Took}

-- a page was filled with the next bytes of an input; there are none only where the input has ended
pub record Refilled (old new : InputView) (bytes : List ℕ) : Type 0 where
  pub took : Took old new bytes
  pub few : new.taken < 2 ^ 64
  pub end : bytes ≡ [] → IsAtEnd new
