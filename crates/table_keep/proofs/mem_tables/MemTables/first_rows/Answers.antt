use Rattle.std.proofs.Common.{◌≡◌, Some, sym, ap, ◌∙◌, Bool}
use Rattle.std.specs.List.{find}
use Rattle.table_keep.specs.declared.mem_table.MemTable.{MemTable}
use Rattle.table_keep.specs.Table.{is_at}
use Rattle.table_keep.proofs.Projections.{found_sound}
use Rattle.table_keep.proofs.mem_tables.MemTables.first_rows.Goals as goal

pub page-requires : goal.page-requires
page-requires c =
    let here : MemTable → Bool = is_at c.args.ask.now.file.now c.args.ask.now.table.now in
    let tables = c.args.self.now.tables.items in
    let table = c.in-Some.table.now in
    let e : find here tables ≡ Some table = ap (find here) (sym c.deref.ensures.value) ∙ sym c.in-Some.ensures in
    found_sound here tables table c.args.self.now.sound e
