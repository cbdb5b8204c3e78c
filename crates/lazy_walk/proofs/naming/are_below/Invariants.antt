use Rattle.std.proofs.Common.{◌≡◌, drop}
use Rattle.std.specs.List.{list_all}
use Rattle.lazy_site.specs.Levels.{is_below_top}
use Rattle.lazy_walk.proofs.naming.are_below.Given as goal

abbrev pub invariant-loop-place : goal.invariant-loop-place
invariant-loop-place l = list_all is_below_top (drop l.place-index l.places) ≡ list_all is_below_top l.fn.places
