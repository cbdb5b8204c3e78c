use Rattle.catalog_continuations.proofs.OneLine.{accepted_line, refused_line, untaken_line}
use Rattle.mix_catalog.specs.declared.fault.CatalogFault.TheVariants.{Chunk, Columns, ColumnTwice, NameTwice, TooMany}
use Rattle.catalog_continuations.proofs.tried.is_line.Goals as goal

pub returns-in-Ok : goal.returns-in-Ok
returns-in-Ok c = accepted_line c.args.line.now _ c.requires c.in-Ok.ensures.answers

pub returns-in-Err-Line : goal.returns-in-Err-Line
returns-in-Err-Line c = refused_line c.args.line.now c.in-Err-Line.field-0-0 c.requires (rw c.in-Err-Line.field-0-is at c.in-Err-Line.ensures.answers)

pub returns-in-Err-Chunk : goal.returns-in-Err-Chunk
returns-in-Err-Chunk c =
    let n = c.in-Err-Chunk.field-0-0 in
    untaken_line c.args.line.now (Chunk n) (λ before number h. h) c.requires (rw c.in-Err-Chunk.field-0-is at c.in-Err-Chunk.ensures.answers)

pub returns-in-Err-Columns : goal.returns-in-Err-Columns
returns-in-Err-Columns c =
    let n = c.in-Err-Columns.field-0-0 in
    untaken_line c.args.line.now (Columns n) (λ before number h. h) c.requires (rw c.in-Err-Columns.field-0-is at c.in-Err-Columns.ensures.answers)

pub returns-in-Err-ColumnTwice : goal.returns-in-Err-ColumnTwice
returns-in-Err-ColumnTwice c =
    let n = c.in-Err-ColumnTwice.field-0-0 in
    untaken_line c.args.line.now (ColumnTwice n) (λ before number h. h) c.requires (rw c.in-Err-ColumnTwice.field-0-is at c.in-Err-ColumnTwice.ensures.answers)

pub returns-in-Err-NameTwice : goal.returns-in-Err-NameTwice
returns-in-Err-NameTwice c =
    let n = c.in-Err-NameTwice.field-0-0 in
    untaken_line c.args.line.now (NameTwice n) (λ before number h. h) c.requires (rw c.in-Err-NameTwice.field-0-is at c.in-Err-NameTwice.ensures.answers)

pub returns-in-Err-TooMany : goal.returns-in-Err-TooMany
returns-in-Err-TooMany c =
    let n = c.in-Err-TooMany.field-0-0 in
    untaken_line c.args.line.now (TooMany n) (λ before number h. h) c.requires (rw c.in-Err-TooMany.field-0-is at c.in-Err-TooMany.ensures.answers)
