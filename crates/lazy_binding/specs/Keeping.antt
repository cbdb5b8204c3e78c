-- What every call of a bench keeps.
use Rattle.std.specs.Prelude.{◌≡◌, ◌≤◌, ℕ, Some, List, take, length}
use Rattle.lxp_core.specs.View.{Keeps as KeepsView}
use Rattle.tree_buffer.specs.declared.buffer.Buffer.{Buffer}
use Rattle.tree_buffer.specs.Buffer.{Goes}
use Rattle.plan_core.specs.Plans.{Operator}
use Rattle.lazy_binding.specs.declared.position.Position.{Position}
use Rattle.lazy_binding.specs.World.{World, buffer_at, seen_at, memo_at, IsFound}
use Rattle.plan_core.specs.Shapes.{Shape, shape_at}
use Rattle.lazy_binding.specs.Bench.{IsBench}
use Rattle.lazy_binding.specs.Cursors.{stands, weighs, IsIn, IsOf}

-- source s has a buffer in the new world too, which goes on from the old one
pub record GoesOn (old new : World) (s : ℕ) (b : Buffer) : Type 0 where
  pub later : Buffer
  pub there : buffer_at new s ≡ Some later
  pub goes : Goes old.view b new.view later

-- each member of a group that was found in the old world stands at the same place in the new one
abbrev pub FoundStay : World → World → Type 0
FoundStay old new = (n number place : ℕ) (c : Position) → IsFound old n number place c → IsFound new n number place c

-- what every call keeps: what the sources keep, buffers that go on, keys that were seen, members of memos and members of groups, which all stay and only become more
pub record Keeps (old new : World) : Type 0 where
  pub view : KeepsView old.view new.view
  pub buffers : length new.buffers ≡ length old.buffers
  pub goes : (s : ℕ) (b : Buffer) → buffer_at old s ≡ Some b → GoesOn old new s b
  pub lists : length new.seen ≡ length old.seen
  pub longer : (n : ℕ) → length (seen_at old n) ≤ length (seen_at new n)
  pub seen : (n k : ℕ) → k ≤ length (seen_at old n) → take k (seen_at new n) ≡ take k (seen_at old n)
  pub memos : length new.memos ≡ length old.memos
  pub more : (n : ℕ) → length (memo_at old n).pairs ≤ length (memo_at new n).pairs
  pub members : (n k : ℕ) → k ≤ length (memo_at old n).pairs → take k (memo_at new n).pairs ≡ take k (memo_at old n).pairs
  pub found : FoundStay old new

-- an earlier position of operator n, in this shape, stands for the same binding, with the same events after it, and its number did not rise
pub record StaysIn (old new : World) (ops : List Operator) (n : ℕ) (f : Shape) (c : Position) : Type 0 where
  pub cursor : IsIn new ops n f c
  pub binding_is : (stands new ops n f c).row ≡ (stands old ops n f c).row
  pub ahead_is : (stands new ops n f c).ahead ≡ (stands old ops n f c).ahead
  pub number_is : weighs new ops n f c ≤ weighs old ops n f c

-- an earlier cursor of operator n stands for the same binding, with the same events after it, and its number did not rise
abbrev pub Stays : World → World → List Operator → ℕ → Position → Type 0
Stays old new ops n c = StaysIn old new ops n (shape_at ops n) c

-- each earlier cursor of each operator stands for the same binding, with the same events after it, and its number did not rise
abbrev pub KeepsCursors : World → World → List Operator → Type 0
KeepsCursors old new ops = (n : ℕ) (c : Position) → IsOf old ops n c → Stays old new ops n c

-- wherever what every call keeps is kept, each earlier cursor stays
abbrev pub CursorsStay : Type 0
CursorsStay = (old new : World) (ops : List Operator) → IsBench old ops → Keeps old new → KeepsCursors old new ops
