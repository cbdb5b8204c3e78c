-- Paths as values: a head and the members under it.
use Rattle.std.specs.Prelude.{ℕ, ◌+◌, List, [], ◌∷◌}

-- what a path is, apart from its members
pub data Head : Type 0 where
  name : List ℕ → Head
  any : Head
  seq : Head
  alt : Head
  star : Head
  plus : Head
  opt : Head

-- a list of paths: the first one's head and members, and the paths after it
pub data Paths : Type 0 where
  none : Paths
  path : (head : Head) → (members : Paths) → (after : Paths) → Paths

-- a path: its head, and the members under it
pub record Form : Type 0 where
  pub head : Head
  pub members : Paths

-- a list of paths as the members under a head
abbrev pub paths_of : List Form → Paths
paths_of [] = none
paths_of (p ∷ ps) = path p.head p.members (paths_of ps)

-- a sequence or a choice of one is its member
abbrev pub joined : Head → List Form → Form
joined h [] = record { head = h; members = none }
joined h (p ∷ []) = p
joined h (p ∷ q ∷ ps) = record { head = h; members = paths_of (p ∷ q ∷ ps) }

-- a path under a mark
abbrev pub repeated : Head → Form → Form
repeated h p = record { head = h; members = paths_of (p ∷ []) }

-- how many label positions a head has itself: one for a label or _, else none
abbrev pub head_positions : Head → ℕ
head_positions (name l) = 1
head_positions any = 1
head_positions seq = 0
head_positions alt = 0
head_positions star = 0
head_positions plus = 0
head_positions opt = 0

-- the label positions of a list of paths
abbrev pub positions_of : Paths → ℕ
positions_of none = 0
positions_of (path head members after) = (head_positions head + positions_of members) + positions_of after

-- the label positions of a path
abbrev pub positions_in : Form → ℕ
positions_in p = head_positions p.head + positions_of p.members
