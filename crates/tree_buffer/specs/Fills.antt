-- What fills make of a list with holes.
use Rattle.std.specs.Prelude.{◌≡◌, ℕ, ◌+◌, ◌≤◌, true, cond, List}
use Rattle.lxp_core.specs.declared.open_tree.HoleId.{HoleId}
use Rattle.lxp_core.specs.declared.open_tree.OpenTree.{OpenTree}
use Rattle.lxp_core.specs.Open.{Open, nil, node, hole, closed, weight_of, AllHoles, IsApart, begins_with_hole}
use Rattle.lxp_core.specs.Plain.{stacked}
use Rattle.lxp_core.specs.View.{View, Keeps}

-- 1 where a list begins with a hole
abbrev pub hole_first : Open → ℕ
hole_first o = cond (begins_with_hole o) 1 0

-- the weights of the holes of a list
abbrev pub holes_weight : (HoleId → ℕ) → Open → ℕ
holes_weight weight nil = 0
holes_weight weight (node label kids rest) = holes_weight weight kids + holes_weight weight rest
holes_weight weight (hole id rest) = weight id + holes_weight weight rest

-- a number that falls with each fill of the first hole of a list
abbrev pub fills_left : (HoleId → ℕ) → Open → ℕ
fills_left weight o = holes_weight weight o + holes_weight weight o + hole_first o

-- a number that falls with each fill of the first hole of a list that is kept as a stack, its last tree first
abbrev pub left_in : View → ℕ → List OpenTree → ℕ
left_in v number stack = fills_left (v.weight number) (stacked stack nil)

-- the list `now`, under the new view, stands for what `was` stood for under the old one, weighs no more,
-- and is empty where that was
pub record IsRefined (old new : View) (n : ℕ) (was now : Open) : Type 0 where
  pub known : AllHoles (new.knows n) now
  pub apart : IsApart now
  pub lighter : weight_of (new.weight n) now ≤ weight_of (old.weight n) was
  pub closes : old.told n ≡ true → closed (new.forest n) now ≡ closed (old.forest n) was
  pub whole : was ≡ nil → now ≡ nil

-- over a forward source at most one fill was asked between two states, and one only where a list began with a hole and now begins with none
abbrev pub IsLazy : View → View → ℕ → Open → Open → Type 0
IsLazy old new n was now = old.forward n ≡ true → new.fills + hole_first now ≤ old.fills + hole_first was

-- what filling the first holes of a list comes to: all sources are kept, the list is refined, and over a forward source at most one fill was asked
pub record IsSettling (old new : View) (n : ℕ) (was now : Open) : Type 0 where
  pub keeps : Keeps old new
  pub refined : IsRefined old new n was now
  pub lazy : IsLazy old new n was now
