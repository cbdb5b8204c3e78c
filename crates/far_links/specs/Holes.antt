-- Which holes of a list have the words of a far source's whole document.
use Rattle.std.specs.Prelude.{◌||◌, Bool, false, not}
use Rattle.lxp_core.specs.declared.open_tree.HoleId.{HoleId}
use Rattle.lxp_core.specs.Open.{Open, nil, node, hole}
use Rattle.far_keep.specs.Names.{is_far_root}

-- whether a hole stands for anything but a whole document
abbrev pub is_below : HoleId → Bool
is_below h = not (is_far_root h)

-- whether a hole of a list, at any depth, has the words of a whole document
abbrev pub names_root : Open → Bool
names_root nil = false
names_root (node label kids rest) = names_root kids || names_root rest
names_root (hole id rest) = is_far_root id || names_root rest
