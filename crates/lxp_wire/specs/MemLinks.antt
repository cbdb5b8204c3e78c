-- What a link to sources in the same memory means.
use Rattle.std.specs.Prelude.{ℕ, ◌≤◌, true, List, [], Option, Some, None, refl}
use Rattle.std.proofs.Common.{arith}
use Rattle.std.specs.Global.{Vec}
use Rattle.lxp_core.specs.View.{View, Keeps}
use Rattle.lxp_wire.specs.Links.{LinkView, KeepsLink}

-- the bytes of the last reply
abbrev pub last_bytes : Option (Vec ℕ) → List ℕ
last_bytes None = []
last_bytes (Some reply) = reply.items

-- what a link to sources in memory means: it tells them, and never fails
abbrev pub memory_view : View → ℕ → Option (Vec ℕ) → LinkView
memory_view peer replies last = record { faults = 0; replies = replies; last = last_bytes last; told = true; peer = peer }

-- a count is no less than itself
pub same_count : (a : ℕ) → a ≤ a
same_count a = omega arith

-- a count that is no less than another is no less than one below that
pub later_count : (a b c : ℕ) → a ≤ b → b ≤ c → a ≤ c
later_count a b c x y = omega arith

-- what came from a state keeps it
pub came_keeps : (v w : View) (m n : ℕ) (x y : Option (Vec ℕ)) → Keeps v w → m ≤ n → KeepsLink (memory_view v m x) (memory_view w n y)
came_keeps v w m n x y k h = record { told = refl; faults = omega arith; replies = h; peer = λ told. k }
