use Rattle.std.proofs.Common.{◌≡◌, true, rules, sym, not, None}
use Rattle.std.proofs.lemmas.List.Sorted.{IsPartitionPoint-from_clause}
use Rattle.mix_base.proofs.Choices.{and_parts}
use Rattle.table_keep.specs.declared.row.TableRow.{TableRow}
use Rattle.table_keep.specs.Page.{is_above, keys_rise}
use Rattle.table_keep.specs.Rows.{rows_of}
use Rattle.table_keep.proofs.Points.{above_from, parted}
use Rattle.table_keep.proofs.mem_table.MemTable.first_index.Goals as goal

pub returns-clause-first : goal.returns-clause-first
returns-clause-first c =
    let after = c.args.after in
    let rows = c.as_slice-rows.result.now in
    let same = c.as_slice-rows.ensures.value in
    let rise : keys_rise None (rows_of c.args.self.now.rows.items) ≡ true = (and_parts (keys_rise None (rows_of c.args.self.now.rows.items)) _ c.requires).0 in
    let here : keys_rise None (rows_of rows) ≡ true = rw same rise in
    let point = IsPartitionPoint-from_clause (λ (r : TableRow). not (is_above after r.key)) rows c.partition_point.result c.partition_point.ensures.partitioned (parted after None rows here) (λ a r q k. search rules) in
    rw (sym same) (above_from after rows c.partition_point.result c.partition_point.ensures.bound point)
