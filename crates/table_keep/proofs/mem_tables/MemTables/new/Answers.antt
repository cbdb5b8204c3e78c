use Rattle.std.proofs.Common.{rules}
use Rattle.std.specs.Cmp.{nat_cmp_total}
use Rattle.std.proofs.lemmas.Map.Lookups.{exact_unsigned}
use Rattle.std.proofs.lemmas.Map.Views.{btree_set_contains_from_list}
use Rattle.table_keep.proofs.mem_tables.MemTables.new.Goals as goal

pub returns-clause-failing : goal.returns-clause-failing
returns-clause-failing c =
    btree_set_contains_from_list nat_cmp_total exact_unsigned c.args.failing.items c.in_ok-collect.field-0 (search rules)
