-- What far sources over links mean.
use Rattle.std.specs.Prelude.{◌≡◌, ℕ, true, Option, refl}
use Rattle.lxp_wire.specs.Links.{LinkView}
use Rattle.far_keep.specs.declared.far_source.FarSource.{FarSource}
use Rattle.far_keep.specs.Views.{FarsView, far_root}
use Rattle.far_links.specs.declared.fault.FarFault.{FarFault}
use Rattle.far_links.specs.declared.links.FarLinks.{FarLinks}
use Rattle.far_links.specs.Asked as asked
use Rattle.far_links.specs.Lines as lines
use Rattle.far_links.specs.Standing.{Standing, fars_view}

-- how far the line over the two files of a far source has come, given what links mean
abbrev pub standing_of : {L D : Type 0} {g : _} → (L → LinkView) → FarLinks L D g → FarSource → Standing
standing_of view f far = lines.standing_of view f.lines.items far

-- how often a far source failed
abbrev pub faults_of : {L D : Type 0} {g : _} → FarLinks L D g → FarSource → ℕ
faults_of f far = asked.faults_of f.asked.items far

-- why a far source failed last, where it did
abbrev pub last_of : {L D : Type 0} {g : _} → FarLinks L D g → FarSource → Option FarFault
last_of f far = asked.last_of f.asked.items far

-- what far sources over links mean, given what links mean
abbrev pub links_view : {L D : Type 0} {g : _} → (L → LinkView) → FarLinks L D g → FarsView
links_view view f = fars_view (standing_of view f) (faults_of f)

-- the hole of a whole document is known
pub root_is_known : {L D : Type 0} {g : _} → (view : L → LinkView) (f : FarLinks L D g) (far : FarSource) → (links_view view f).knows far far_root ≡ true
root_is_known view f far = refl
