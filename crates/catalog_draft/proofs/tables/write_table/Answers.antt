use Rattle.std.proofs.Common.{ap}
use Rattle.catalog_draft.specs.Tables.{draft, keyed}
use Rattle.catalog_draft.proofs.Outcomes.{noted}
use Rattle.catalog_draft.proofs.tables.write_table.Goals as goal

pub returns-in-Err : goal.returns-in-Err
returns-in-Err c =
    let sources = c.args.written.now.sources.items in
    noted c.args.path.now c.args.table.now (draft c.args.path.now sources c.args.table.now) c.in-Err.why c.args.written.now c.write_note.new.written c.write_note.result
    (ap (keyed c.args.path.now sources c.args.table.now) c.in-Err.ensures.err) c.write_note.ensures
