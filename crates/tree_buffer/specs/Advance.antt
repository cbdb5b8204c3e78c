-- How a buffer's nodes go on within a call.
use Rattle.std.specs.Prelude.{◌≡◌}
use Rattle.lxp_core.specs.View.{View}
use Rattle.tree_buffer.specs.declared.buffer.Buffer.{Buffer}
use Rattle.tree_buffer.specs.Sourced.{Moved}
use Rattle.tree_buffer.specs.Buffer.{nodes_of, number_of, weigh, IsSourcesOf}

-- between two states a buffer stays one of the same source, and each of its nodes keeps its place and label and weighs no more
pub record Advances (v : View) (b : Buffer) (v' : View) (b' : Buffer) : Type 0 where
  pub number : number_of b' ≡ number_of b
  pub moved : Moved (weigh v b) (nodes_of b) (weigh v' b') (nodes_of b')

-- what part of a call leaves of sources and a buffer: the state came from the one before, and the buffer is still one of the sources and advanced
pub record Advanced {S : Type 0} (view : S → View) (came_from : S → S → Type 0) (s : S) (b : Buffer) (s' : S) (b' : Buffer) : Type 0 where
  pub came : came_from s s'
  pub sources : IsSourcesOf (view s') b'
  pub advances : Advances (view s) b (view s') b'
