-- What calls leave together, and what they leave of buffers that they don't take.
use Rattle.std.specs.Prelude.{◌≡◌}
use Rattle.lxp_core.specs.View.{View, Keeps}
use Rattle.tree_buffer.specs.declared.buffer.Buffer.{Buffer}
use Rattle.tree_buffer.specs.declared.spot.Spot.{Spot}
use Rattle.tree_buffer.specs.Buffer.{IsSpot, place_of, IsSourcesOf, IsKept, Ran}

-- sources and a buffer that stay as they are count as left by a call
abbrev pub RanSame : {S : Type 0} → (S → View) → (S → S → Type 0) → Type 0
RanSame {S} view came_from = (s : S) (b : Buffer) → IsSourcesOf (view s) b → Ran view came_from s b s b

-- sources and a buffer that two calls leave, one after the other, count as left by one call
abbrev pub RanTwice : {S : Type 0} → (S → View) → (S → S → Type 0) → Type 0
RanTwice {S} view came_from = (s t u : S) (a b c : Buffer) → Ran view came_from s a t b → Ran view came_from t b u c → Ran view came_from s a u c

-- where sources keep what every call keeps, each buffer of theirs that no call takes stays one of theirs and goes on
abbrev pub KeepsBuffers : Type 0
KeepsBuffers = (v v' : View) (b : Buffer) → IsSourcesOf v b → Keeps v v' → IsKept v v' b

-- two spots of a buffer that stand for the same place are the same spot
abbrev pub SpotsAreOne : Type 0
SpotsAreOne = (b : Buffer) (x y : Spot) → IsSpot b x → IsSpot b y → place_of b x ≡ place_of b y → x.number ≡ y.number
