use Rattle.std.proofs.Common.{rules, ◌≡◌, length}
use Rattle.std.specs.Cmp.{nat_cmp_total}
use Rattle.std.proofs.lemmas.Map.Lookups.{exact_unsigned}
use Rattle.std.proofs.lemmas.Map.Views.{btree_set_contains_from_list}
use Rattle.mix_io.proofs.Indices.{no_ends, view_unread}
use Rattle.mix_io.proofs.mem_files.MemFiles.new.Goals as goal

pub returns-clause-failing : goal.returns-clause-failing
returns-clause-failing c =
    btree_set_contains_from_list nat_cmp_total exact_unsigned c.args.failing.items c.in_ok-collect.field-0 (search rules)

pub returns-clause-view : goal.returns-clause-view
returns-clause-view c =
    let none : c.in_ok-ends.ends.items ≡ no_ends (length c.args.files.items) = search rules in
    view_unread c.args.files.items c.in_ok-ends.ends.items none
