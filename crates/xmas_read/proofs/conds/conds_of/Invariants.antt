use Rattle.std.proofs.Common.{◌≡◌, ◌++◌, false, map}
use Rattle.std.specs.List.{list_any}
use Rattle.xmas_read.specs.Value.{cond_value}
use Rattle.xmas_read.specs.Refusals.{has_path, is_nested, has_many}
use Rattle.xmas_read.specs.Results.{names_of_sources}
use Rattle.xmas_read.proofs.conds.conds_of.Given as goal

abbrev pub invariant-loop-text : goal.invariant-loop-text
invariant-loop-text l = record {
  made :
      l.conds.items ++ map (cond_value (names_of_sources l.catalog) l.names) l.text-iterator.rest.items
      ≡ map (cond_value (names_of_sources l.catalog) l.names) l.fn.texts.items;
  nesting : list_any (has_path is_nested) l.text-iterator.rest.items ≡ false;
  positions : list_any (has_path has_many) l.text-iterator.rest.items ≡ false;
}
