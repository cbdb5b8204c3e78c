-- What a fill answers, and why it is refused.
use Rattle.std.specs.Prelude.{◌≡◌, ℕ, ◌+◌, ◌≤◌, ◌⊎◌, Bool, true, false, Result, IsErrOf, OnOk}
use Rattle.mix_base.specs.Counts.{HasRisen}
use Rattle.mix_tree.specs.Forest.{Forest}
use Rattle.lxp_core.specs.declared.fault.SourceFault.{SourceFault}
use Rattle.lxp_core.specs.declared.fault.SourceFault.TheVariants.{Failed, UnknownHole, OutOfMemory}
use Rattle.lxp_core.specs.declared.open_tree.HoleId.{HoleId}
use Rattle.lxp_core.specs.Open.{Open, closed, weight_of, AllHoles, IsProgress, begins_with_hole}
use Rattle.lxp_core.specs.Small.{IsSmall}
use Rattle.lxp_core.specs.View.{View}

-- what one document that is given piece by piece means
pub record Piecewise : Type 0 where
  -- whether it is told
  pub told : Bool
  -- whether a hole is known
  pub knows : HoleId → Bool
  -- the trees that a known hole of a told document stands for
  pub forest : HoleId → Forest
  -- the weight of a known hole
  pub weight : HoleId → ℕ
  -- whether no list that is answered begins with a hole
  pub forward : Bool
  -- whether each list that is answered is small enough for a wire
  pub small : Bool
  -- how often its source failed
  pub faults : ℕ

-- the document of a source of this number
abbrev pub source_of : View → ℕ → Piecewise
source_of v s = record {
  told = v.told s;
  knows = v.knows s;
  forest = v.forest s;
  weight = v.weight s;
  forward = v.forward s;
  small = v.small s;
  faults = v.faults s;
}

-- a list answers a fill of a hole: closed it is what the hole stands for, it makes progress, its holes are known, and it weighs no more than the hole
pub record Answers (old new : Piecewise) (h : HoleId) (list : Open) : Type 0 where
  pub closes : old.told ≡ true → closed new.forest list ≡ old.forest h
  pub progress : IsProgress list
  pub known : AllHoles new.knows list
  pub lighter : weight_of new.weight list ≤ old.weight h
  pub forward : old.forward ≡ true → begins_with_hole list ≡ false
  pub small : old.small ≡ true → IsSmall list

-- a fill of a hole is refused as failed only where the count of faults rose, as unknown exactly for a hole that isn't known, if memory allows
pub record IsRefused (T : Type 0) (old new : Piecewise) (h : HoleId) (result : Result T SourceFault) : Type 0 where
  pub failed : IsErrOf result Failed → HasRisen old.faults new.faults
  pub unknown : IsErrOf result UnknownHole → old.knows h ≡ false
  pub only_unknown : old.knows h ≡ false → IsErrOf result UnknownHole ⊎ IsErrOf result OutOfMemory

-- a fill of a hole is refused as failed only where the count of faults rose, and as unknown exactly for a hole that isn't known
pub record IsRefusedAtOnce (T : Type 0) (old new : Piecewise) (h : HoleId) (result : Result T SourceFault) : Type 0 where
  pub failed : IsErrOf result Failed → HasRisen old.faults new.faults
  pub unknown : IsErrOf result UnknownHole → old.knows h ≡ false
  pub only_unknown : old.knows h ≡ false → IsErrOf result UnknownHole

-- a fill counts once where it is answered or fails, and at most once else
pub record IsCounted (T : Type 0) (old new : ℕ) (result : Result T SourceFault) : Type 0 where
  pub at_most_one : new ≤ old + 1
  pub answered : OnOk result (HasRisen old new)
  pub failed : IsErrOf result Failed → HasRisen old new
