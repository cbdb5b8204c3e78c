-- What the lines mean over which far sources are asked.
use Rattle.std.specs.Prelude.{◌&&◌, ℕ, Bool, List, Option, Some, None, option_and_then}
use Rattle.std.specs.List.{position, slice_get}
use Rattle.std.specs.Str.{bytes_eq}
use Rattle.lxp_wire.specs.Links.{LinkView}
use Rattle.lxp_remote.specs.Remotes.{remoting}
use Rattle.far_keep.specs.declared.far_source.FarSource.{FarSource}
use Rattle.far_links.specs.declared.line.Line.{Line}
use Rattle.far_links.specs.declared.line.LineState.{LineState}
use Rattle.far_links.specs.declared.line.LineState.TheVariants.{Undialled, Dialled, Opened}
use Rattle.far_links.specs.Standing.{Standing, undialled, dialled, opened}

-- how far a line has come, given what its link means
abbrev pub standing : {L : Type 0} {g : _} → (L → LinkView) → LineState L g → Standing
standing view Undialled = undialled
standing view (Dialled link) = dialled (view link)
standing view (Opened r) = opened (remoting (view r.link) r.peers.items r.fills)

-- whether a line is over the two files of a far source
abbrev pub joins : {L : Type 0} {g : _} → FarSource → Line L g → Bool
joins far line = bytes_eq line.replies far.replies && bytes_eq line.requests far.requests

-- the place of the line over the two files of a far source, where there is one
abbrev pub line_place : {L : Type 0} {g : _} → List (Line L g) → FarSource → Option ℕ
line_place lines far = position (joins far) lines

-- how far a line has come that may not be there
abbrev pub standing_in : {L : Type 0} {g : _} → (L → LinkView) → Option (Line L g) → Standing
standing_in view None = undialled
standing_in view (Some line) = standing view line.state

-- how far the line over the two files of a far source has come, given what links mean
abbrev pub standing_of : {L : Type 0} {g : _} → (L → LinkView) → List (Line L g) → FarSource → Standing
standing_of view lines far = standing_in view (option_and_then (slice_get lines) (line_place lines far))
