-- Which names of far sources are the same, and which hole is that of a whole document.
use Rattle.std.specs.Prelude.{◌-◌, ◌^◌, ◌&&◌, ◌==◌, Bool, slice_index}
use Rattle.std.specs.Str.{bytes_eq}
use Rattle.lxp_core.specs.declared.open_tree.HoleId.{HoleId}
use Rattle.far_keep.specs.declared.far_source.FarSource.{FarSource}

-- whether two names are of the same far source: they have the same two files and the same number
abbrev pub is_same : FarSource → FarSource → Bool
is_same a b = (a.number == b.number) && (bytes_eq a.replies b.replies && bytes_eq a.requests b.requests)

-- whether a hole stands for the whole document of a far source
abbrev pub is_far_root : HoleId → Bool
is_far_root h = (slice_index h.words 0 == (2 ^ 64 - 1)) && ((slice_index h.words 1 == (2 ^ 64 - 1)) && (slice_index h.words 2 == (2 ^ 64 - 1)))
