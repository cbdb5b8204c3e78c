-- What no sources of other machines mean.
use Rattle.std.specs.Prelude.{◌≡◌, ℕ, true, false, refl}
use Rattle.mix_tree.specs.Forest.{none}
use Rattle.far_keep.specs.declared.far_source.FarSource.{FarSource}
use Rattle.far_keep.specs.declared.no_fars.NoFars.{NoFars}
use Rattle.far_keep.specs.Names.{is_far_root}
use Rattle.far_keep.specs.Views.{FarsView, far_root}

-- what far sources mean none of which tells its document: each knows the hole of its whole document alone, and they failed so often
abbrev pub untold_fars : ℕ → FarsView
untold_fars faults = record {
  told = λ _. false;
  knows = λ _ h. is_far_root h;
  forest = λ _ h. none;
  weight = λ _ h. 0;
  faults = λ _. faults;
}

-- what no sources of other machines mean: no document is told, and each fill of the hole of a whole document has failed
abbrev pub no_fars_view : NoFars → FarsView
no_fars_view n = untold_fars n.faults

-- the hole of a whole document is known
pub root_is_known : (a : NoFars) (far : FarSource) → (no_fars_view a).knows far far_root ≡ true
root_is_known a far = refl
