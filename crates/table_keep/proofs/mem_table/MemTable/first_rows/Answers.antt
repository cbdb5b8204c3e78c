use Rattle.std.proofs.Common.{◌≡◌, ◌∙◌, List, IfOk, ap, subst, map, min, take, drop, length}
use Rattle.table_keep.specs.declared.row.TableRow.{TableRow}
use Rattle.table_keep.specs.Rows.{Row, rows_of}
use Rattle.table_keep.specs.Table.{projected}
use Rattle.table_keep.proofs.Projections.{first_copied}
use Rattle.table_keep.proofs.mem_table.MemTable.first_rows.Goals as goal

pub returns : goal.returns
returns c =
    let rows = c.args.self.now.rows.items in
    let limit = c.args.limit in
    let place = c.first_index.result in
    let rest : c.split_at.result.1.now ≡ drop place rows = c.split_at.ensures.back ∙ ap (λ (xs : List TableRow). drop place xs) c.deref.ensures.value in
    let prefix : c.split_at-2.result.0.now ≡ take (min limit (length (drop place rows))) (drop place rows) =
    c.split_at-2.ensures.front
    ∙ ap (λ n. take n c.split_at.result.1.now) c.min-count.ensures
    ∙ ap (λ (xs : List TableRow). take (min limit (length xs)) xs) rest in
    let first = first_copied c.args.places.now c.args.after limit rows place c.first_index.ensures.first in
    subst (λ (xs : List Row). IfOk c.copy_rows.result (λ copies. rows_of copies.items ≡ xs))
    (ap (λ (xs : List TableRow). map (projected c.args.places.now) (rows_of xs)) prefix ∙ first)
    c.copy_rows.ensures
