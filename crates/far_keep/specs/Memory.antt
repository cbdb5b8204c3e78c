-- What sources of other machines in memory mean.
use Rattle.std.specs.Prelude.{◌≡◌, ◌+◌, ◌-◌, ◌^◌, ℕ, Bool, true, List, is_some, min, refl}
use Rattle.mix_tree.specs.Weight.{nodes_of}
use Rattle.far_keep.specs.declared.far_source.FarSource.{FarSource}
use Rattle.far_keep.specs.declared.mem_far.MemFar.{MemFar}
use Rattle.far_keep.specs.declared.mem_fars.MemFars.{MemFars}
use Rattle.far_keep.specs.Listed.{count_at, fails_at, listed, place_of, trees_of}
use Rattle.far_keep.specs.Names.{is_far_root}
use Rattle.far_keep.specs.Views.{FarsView, far_root}

-- the far sources in memory, in their order
abbrev pub fars_of : MemFars → List MemFar
fars_of m = m.fars.items

-- how many fills of its whole document a far source was asked; of those that are not listed, how many all were asked
abbrev pub calls_of : MemFars → FarSource → ℕ
calls_of m far = count_at m.calls.items m.unlisted (place_of (fars_of m) far)

-- the number of the next fill of a far source's whole document, counted from 1; the last number of 64 bits has none after it
abbrev pub next_call : MemFars → FarSource → ℕ
next_call m far = min (calls_of m far + 1) (2 ^ 64 - 1)

-- whether the next fill of a far source's whole document fails: where the source isn't listed, and where its list names the fill
abbrev pub fails_next : MemFars → FarSource → Bool
fails_next m far = fails_at (listed (fars_of m) far) (next_call m far)

-- what far sources in memory mean: those that are listed tell their documents, and those that are not count their faults together
abbrev pub mem_fars_view : MemFars → FarsView
mem_fars_view m = record {
  told = λ far. is_some (listed (fars_of m) far);
  knows = λ far h. is_far_root h;
  forest = λ far h. trees_of (listed (fars_of m) far);
  weight = λ far h. nodes_of (trees_of (listed (fars_of m) far));
  faults = λ far. count_at m.faults.items m.unlisted (place_of (fars_of m) far);
}

-- the hole of a whole document is known
pub root_is_known : (a : MemFars) (far : FarSource) → (mem_fars_view a).knows far far_root ≡ true
root_is_known a far = refl
