-- How often and why the far sources failed that were asked.
use Rattle.std.specs.Prelude.{ℕ, Bool, List, Option, Some, None, option_and_then}
use Rattle.std.specs.List.{position, slice_get}
use Rattle.far_keep.specs.declared.far_source.FarSource.{FarSource}
use Rattle.far_keep.specs.Names.{is_same}
use Rattle.far_links.specs.declared.asked.Asked.{Asked}
use Rattle.far_links.specs.declared.fault.FarFault.{FarFault}

-- whether a far source that was asked is this one
abbrev pub is_of : FarSource → Asked → Bool
is_of far a = is_same a.far far

-- the place of a far source among those that were asked, where it was
abbrev pub asked_place : List Asked → FarSource → Option ℕ
asked_place asked far = position (is_of far) asked

-- a far source among those that were asked, where it was
abbrev pub asked_of : List Asked → FarSource → Option Asked
asked_of asked far = option_and_then (slice_get asked) (asked_place asked far)

-- how often a far source failed, which never did where it wasn't asked
abbrev pub faults_in : Option Asked → ℕ
faults_in None = 0
faults_in (Some a) = a.faults

-- why a far source failed last, where it did
abbrev pub last_in : Option Asked → Option FarFault
last_in None = None
last_in (Some a) = a.last

-- how often a far source failed
abbrev pub faults_of : List Asked → FarSource → ℕ
faults_of asked far = faults_in (asked_of asked far)

-- why a far source failed last, where it did
abbrev pub last_of : List Asked → FarSource → Option FarFault
last_of asked far = last_in (asked_of asked far)
