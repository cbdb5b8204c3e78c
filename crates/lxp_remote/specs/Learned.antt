-- What a source after a link is known to have, before and after a list came.
use Rattle.std.specs.Prelude.{◌≡◌, ◌⊎◌, ℕ, if◌then◌else◌, List, Option, Some, Contains}
use Rattle.std.specs.Str.{bytes_eq}
use Rattle.wire_text.specs.declared.reply.Hole.{Hole}
use Rattle.lxp_remote.specs.Known.{weight_in}
use Rattle.lxp_core.specs.declared.open_tree.HoleId.{HoleId}

-- all holes that were known keep their weights, those of the list are known by theirs, and no others are
pub record Learns (old new : HoleId → Option ℕ) (holes : List (HoleId × ℕ)) : Type 0 where
  pub kept : (h : HoleId) (n : ℕ) → old h ≡ Some n → new h ≡ Some n
  pub learned : (h : HoleId) (n : ℕ) → Contains holes (h, n) → new h ≡ Some n
  pub only : (h : HoleId) (n : ℕ) → new h ≡ Some n → (old h ≡ Some n) ⊎ Contains holes (h, n)

-- the weights that are known: the root's, and those of the holes that came
abbrev pub weights : Hole → List (List ℕ × ℕ) → HoleId → Option ℕ
weights root known h = if bytes_eq h.words root.id.words then Some root.weight else weight_in known h
