-- What is known over a link to far sources, and what each call keeps of it.
use Rattle.std.specs.Prelude.{◌≡◌, ◌-◌, ◌^◌, ◌||◌, ℕ, Bool, true, false, if◌then◌else◌}
use Rattle.mix_tree.specs.Forest.{none}
use Rattle.lxp_core.specs.declared.open_tree.HoleId.{HoleId}
use Rattle.lxp_wire.specs.Links.{LinkView}
use Rattle.lxp_remote.specs.Remotes as remote
use Rattle.lxp_remote.specs.Remotes.{Remoting}
use Rattle.far_keep.specs.declared.far_source.FarSource.{FarSource}
use Rattle.far_keep.specs.Names.{is_far_root}
use Rattle.far_keep.specs.Views.{FarsView}

-- how far a line over two files has come: it has no link yet, it has one whose sources are not told, or these are told
pub data Standing : Type 0 where
  undialled : Standing
  dialled : LinkView → Standing
  opened : Remoting → Standing

-- whether the source of a number is known to have a hole
abbrev pub knows_in : Standing → ℕ → HoleId → Bool
knows_in undialled s h = false
knows_in (dialled v) s h = false
knows_in (opened r) s h = (remote.view_of r).knows s h

-- the weight of a hole of the source of a number
abbrev pub weight_in : Standing → ℕ → HoleId → ℕ
weight_in undialled s h = 0
weight_in (dialled v) s h = 0
weight_in (opened r) s h = (remote.view_of r).weight s h

-- whether a hole is known: that of a whole document is, and others are where the source of a number is known to have them
abbrev pub knows : Standing → ℕ → HoleId → Bool
knows v s h = is_far_root h || knows_in v s h

-- the weight of a hole: that of a whole document weighs as much as a weight can be
abbrev pub weight : Standing → ℕ → HoleId → ℕ
weight v s h = if is_far_root h then 2 ^ 128 - 1 else weight_in v s h

-- what every call keeps of a line: each hole that is known, and its weight
pub record KeepsLine (old new : Standing) : Type 0 where
  pub knows : (s : ℕ) (h : HoleId) → knows_in old s h ≡ true → knows_in new s h ≡ true
  pub weight : (s : ℕ) (h : HoleId) → knows_in old s h ≡ true → weight_in new s h ≡ weight_in old s h

-- what far sources over lines mean: none tells its document
abbrev pub fars_view : (FarSource → Standing) → (FarSource → ℕ) → FarsView
fars_view standing faults = record {
  told = λ far. false;
  knows = λ far h. knows (standing far) far.number h;
  forest = λ far h. none;
  weight = λ far h. weight (standing far) far.number h;
  faults = faults;
}
