use Rattle.std.proofs.Common.{◌≡◌, ◌++◌, drop}
use Rattle.xmas_read.specs.Results.{names_of_sources}
use Rattle.xmas_read.specs.Canonical.{more_conds}
use Rattle.xmas_read.proofs.writing.push_more_conds.Given as goal

abbrev pub invariant-loop-cond : goal.invariant-loop-cond
invariant-loop-cond l =
    l.out.items ++ more_conds (names_of_sources l.catalog) l.names (drop l.cond-index l.conds) ≡ l.fn.out.items ++ more_conds (names_of_sources l.catalog) l.names l.conds
