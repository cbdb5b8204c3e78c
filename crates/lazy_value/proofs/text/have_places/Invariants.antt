use Rattle.std.proofs.Common.{◌≡◌, drop}
use Rattle.std.specs.List.{list_all}
use Rattle.lazy_site.specs.Levels.{is_below_top}
use Rattle.lazy_value.proofs.text.have_places.Given as goal

abbrev pub invariant-loop-level : goal.invariant-loop-level
invariant-loop-level l = list_all (λ l. list_all is_below_top l.tuple) (drop l.level-index l.levels) ≡ list_all (λ l. list_all is_below_top l.tuple) l.fn.levels
